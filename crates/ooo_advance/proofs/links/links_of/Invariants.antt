-- The edges so far.
use Rattle.std.proofs.Common.{take}
use Rattle.ooo_advance.specs.Links.{IsLinkTable}
use Rattle.ooo_advance.proofs.LinkLemmas.{with_edges}
use Rattle.ooo_advance.proofs.links.links_of.Given as goal

abbrev pub invariant-loop-edge : goal.invariant-loop-edge
invariant-loop-edge l = IsLinkTable (with_edges l.graph (take l.edge-index l.edge-items)) l.access l.links.items
