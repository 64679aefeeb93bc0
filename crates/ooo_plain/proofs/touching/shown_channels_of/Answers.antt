use Rattle.std.proofs.Common.{◌∙◌, ◌-◌, ap, take, drop, length}
use Rattle.std.proofs.lemmas.List.Filters.{dedup_is}
use Rattle.ooo_plain.specs.Shown.{shown_to_nodes}
use Rattle.ooo_plain.proofs.Telling.{shown_sorted}
use Rattle.ooo_plain.proofs.touching.shown_channels_of.Goals as goal

pub returns : goal.returns
returns c =
    let events = c.args.design.now.events in
    let first = c.args.process.now.first in
    let end = c.args.process.now.end in
    shown_sorted c.args.design.now c.args.process.now _ _ _
    (c.in_ok-shown.ensures events ∙ ap (λ n. shown_to_nodes n events (take (end - first) (drop first c.as_slice.result.now))) c.len.ensures
    ∙ ap (λ xs. shown_to_nodes (length c.args.design.now.channels) events (take (end - first) (drop first xs))) c.as_slice.ensures)
    c.sort_unstable.ensures.permutation c.sort_unstable.ensures.sorted (dedup_is _ _ _ c.dedup.ensures.filtered)
