use Rattle.std.proofs.Common.{◌≤◌, ◌+◌, length, arith, get_or}
use Rattle.ooo_board.specs.Waking.{EventsReach, ReachesAll}
use Rattle.ooo_board.proofs.Refreshing.{events_more, events_past, may_on, woken_as, woken_none, woken_then}
use Rattle.ooo_board.proofs.cores.Core.wake_all.Goals as goal

pub loop-e-init : goal.loop-e-init
loop-e-init c = λ r s may there. woken_none r c.args.tables.now s (EventsReach c.args.links.now c.args.events.now 0) c.args.self.now may.waking (λ q h. let none = h.1.before in absurd (omega arith))

pub wake_by-requires : goal.wake_by-requires
wake_by-requires c =
    let w = c.requires.there in
    let may = w.2 in
    let there = w.3 in
    let old = c.loop-e.invariant w.0 w.1 may there in
    let now = may_on c.args.links.now w.0 c.args.tables.now w.1 (EventsReach c.args.links.now c.args.events.now c.loop-e.e-index) c.args.self.now c.loop-e.self may old in
    record { there = (w.0, w.1, now, there c.loop-e.e-index 0 c.loop-e-test.true) }

pub loop-e-preserved : goal.loop-e-preserved
loop-e-preserved c = λ r s may there.
    let old = c.loop-e.invariant r s may there in
    let events = c.args.events.now in
    let k = c.loop-e.e-index in
    let now = may_on c.args.links.now r c.args.tables.now s (EventsReach c.args.links.now events k) c.args.self.now c.loop-e.self may old in
    woken_then r c.args.tables.now s (EventsReach c.args.links.now events k) (ReachesAll c.args.links.now (get_or events k 0)) (EventsReach c.args.links.now events (k + 1)) c.args.self.now c.loop-e.self c.wake_by.new.self
    (events_more c.args.links.now events k) old (c.wake_by.ensures r s now (there k 0 c.loop-e-test.true))

pub returns : goal.returns
returns c = λ r s may there.
    let past : length c.args.events.now ≤ c.loop-e.e-index = omega arith in
    woken_as r c.args.tables.now s (EventsReach c.args.links.now c.args.events.now c.loop-e.e-index) (EventsReach c.args.links.now c.args.events.now (length c.args.events.now)) c.args.self.now c.loop-e.self
    (λ q h. events_past c.args.links.now c.args.events.now c.loop-e.e-index q past h) (c.loop-e.invariant r s may there)
