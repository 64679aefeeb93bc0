use Rattle.std.proofs.Common.{◌≡◌, ◌<◌, length, arith, ◌∙◌, []}
use Rattle.std.specs.Prelude.{slice_index_or}
use Rattle.std.proofs.lemmas.List.{get_or_default}
use Rattle.ooo_board.specs.Waking.{EventsReach, Reaches}
use Rattle.ooo_board.proofs.Refreshing.{channel_event_there, channel_reached, channel_there, woken_as}
use Rattle.ooo_board.proofs.cores.Core.wake_for.Goals as goal

pub wake_all-requires : goal.wake_all-requires
wake_all-requires c =
    let w = c.requires.there in
    let may = w.2 in
    let count = may.links.channel_events.count in
    let low = channel_there c.args.links.now w.0.design c.args.effect c.in-Request.c c.in-Request.is w.3 in
    let within : c.in-Request.c < length c.args.links.now.channel_events.items = omega arith in
    let are : c.as_slice.result.now ≡ slice_index_or c.args.links.now.channel_events.items c.in-Request.c [] = c.as_slice.ensures ∙ c.index.ensures ∙ get_or_default c.args.links.now.channel_events.items c.in-Request.c c.index.result.now [] within in
    record { there = (w.0, w.1, may, channel_event_there c.args.links.now w.0 c.args.tables.now w.1 c.args.self.now may c.in-Request.c c.as_slice.result.now are) }

pub returns-in-Request : goal.returns-in-Request
returns-in-Request c = λ r s may there.
    let count = may.links.channel_events.count in
    let low = channel_there c.args.links.now r.design c.args.effect c.in-Request.c c.in-Request.is there in
    let within : c.in-Request.c < length c.args.links.now.channel_events.items = omega arith in
    let are : c.as_slice.result.now ≡ slice_index_or c.args.links.now.channel_events.items c.in-Request.c [] = c.as_slice.ensures ∙ c.index.ensures ∙ get_or_default c.args.links.now.channel_events.items c.in-Request.c c.index.result.now [] within in
    woken_as r c.args.tables.now s (EventsReach c.args.links.now c.as_slice.result.now (length c.as_slice.result.now)) (Reaches c.args.links.now c.args.effect) c.args.self.now c.wake_all.new.self
    (λ q h. channel_reached c.args.links.now c.args.effect c.in-Request.c q c.as_slice.result.now c.in-Request.is are h)
    (c.wake_all.ensures r s may (channel_event_there c.args.links.now r c.args.tables.now s c.args.self.now may c.in-Request.c c.as_slice.result.now are))
