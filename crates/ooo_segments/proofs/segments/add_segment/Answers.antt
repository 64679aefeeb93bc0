-- The nodes of the segment are just those that the search found.
use Rattle.std.proofs.Common.{ℕ, ◌↔◌}
use Rattle.ooo_code.specs.Segments.{InSegment}
use Rattle.ooo_segments.proofs.Within.{process_closed, entry_within, reached_within}
use Rattle.ooo_segments.proofs.Additions.{adds_one}
use Rattle.ooo_segments.specs.Numbers.{IsIn}
use Rattle.ooo_segments.proofs.segments.add_segment.Goals as goal

pub reached-requires : goal.reached-requires
reached-requires c =
    let fits = process_closed c.args.design.now c.args.p c.args.process.now c.requires.closed c.requires.process in
    let own = entry_within c.args.design.now c.args.process.now c.args.entry fits c.requires.entry in
    rw (c.as_slice.ensures, c.entry_node-first.ensures) (λ n r. (reached_within c.args.design.now c.args.process.now _ n fits own r).below)

pub returns : goal.returns
returns c =
    let marked : (n : ℕ) → IsIn c.in_ok-found.found n ↔ InSegment c.args.design.now c.args.process.now c.args.entry n =
    rw (c.as_slice.ensures, c.entry_node-first.ensures) at c.in_ok-found.ensures in
    rw c.in_ok-push.ensures.items (adds_one c.args.design.now c.args.process.now _ _ c.in_ok-found.found c.requires.process c.requires.entry marked c.in_ok-numbers.ensures)
