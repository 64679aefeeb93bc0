use Rattle.std.proofs.Common.{◌≡◌, ◌<◌, ◌+◌, ℕ, length, arith, get_or, ◌∙◌, []}
use Rattle.std.specs.Prelude.{slice_index_or}
use Rattle.std.proofs.lemmas.List.{get_or_default}
use Rattle.ooo_board.specs.Waking.{IsAmong, ReachesAll}
use Rattle.ooo_board.proofs.Refreshing.{among_more, among_past, may_on, waiter_there, woken_as, woken_none, woken_then}
use Rattle.ooo_board.proofs.cores.Core.wake_by.Goals as goal

pub loop-q-init : goal.loop-q-init
loop-q-init c = λ r s may lt. woken_none r c.args.tables.now s (λ q. IsAmong c.as_slice-waiters.result.now 0 q) c.args.self.now may.waking (λ q h. let none = h.before in absurd (omega arith))

pub refresh-requires : goal.refresh-requires
refresh-requires c =
    let w = c.requires.there in
    let may = w.2 in
    let lt = w.3 in
    let old = c.loop-q.invariant w.0 w.1 may lt in
    let some = (λ (q : ℕ). IsAmong c.as_slice-waiters.result.now c.loop-q.q-index q) in
    let now = may_on c.args.links.now w.0 c.args.tables.now w.1 some c.args.self.now c.loop-q.self may old in
    let count = may.links.waiters.count in
    let within : c.args.e < length c.args.links.now.waiters.items = omega arith in
    let are : c.as_slice-waiters.result.now ≡ slice_index_or c.args.links.now.waiters.items c.args.e [] = c.as_slice-waiters.ensures ∙ c.index.ensures ∙ get_or_default c.args.links.now.waiters.items c.args.e c.index.result.now [] within in
    record {
      within = waiter_there c.args.links.now w.0 c.args.tables.now w.1 c.loop-q.self now c.args.e c.loop-q.q-index c.as_slice-waiters.result.now are c.loop-q-test.true;
      waking = (w.0, w.1, now);
    }

pub loop-q-preserved : goal.loop-q-preserved
loop-q-preserved c = λ r s may lt.
    let old = c.loop-q.invariant r s may lt in
    let waiters = c.as_slice-waiters.result.now in
    woken_then r c.args.tables.now s (λ q. IsAmong waiters c.loop-q.q-index q) (λ q. q ≡ get_or waiters c.loop-q.q-index 0) (λ q. IsAmong waiters (c.loop-q.q-index + 1) q) c.args.self.now c.loop-q.self c.refresh.new.self
    (among_more waiters c.loop-q.q-index) old (c.refresh.ensures r s (may_on c.args.links.now r c.args.tables.now s (λ q. IsAmong waiters c.loop-q.q-index q) c.args.self.now c.loop-q.self may old))

pub returns : goal.returns
returns c = λ r s may lt.
    let old = c.loop-q.invariant r s may lt in
    let waiters = c.as_slice-waiters.result.now in
    let count = may.links.waiters.count in
    let within : c.args.e < length c.args.links.now.waiters.items = omega arith in
    let are : waiters ≡ slice_index_or c.args.links.now.waiters.items c.args.e [] = c.as_slice-waiters.ensures ∙ c.index.ensures ∙ get_or_default c.args.links.now.waiters.items c.args.e c.index.result.now [] within in
    woken_as r c.args.tables.now s (λ q. IsAmong waiters c.loop-q.q-index q) (ReachesAll c.args.links.now c.args.e) c.args.self.now c.loop-q.self
    (λ q h. among_past waiters (slice_index_or c.args.links.now.waiters.items c.args.e []) are c.loop-q.q-index q (omega arith) h) old
