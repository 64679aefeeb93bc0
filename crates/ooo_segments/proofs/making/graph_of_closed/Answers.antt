-- The edges of a closed design have delays that edges may have.
use Rattle.ooo_segments.proofs.Links.{all_links}
use Rattle.ooo_segments.proofs.making.graph_of_closed.Goals as goal

pub returns-clause-links : goal.returns-clause-links
returns-clause-links c =
    rw (c.from_vec.ensures, c.from_vec-2.ensures) (all_links c.args.design.now _ _ c.requires c.in_ok-segments.ensures (rw c.as_slice.ensures.value at c.in_ok-edges.ensures))
