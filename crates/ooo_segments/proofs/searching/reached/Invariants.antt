-- The search is under way, and each node of the process has its mark.
use Rattle.std.proofs.Common.{◌≡◌, length}
use Rattle.ooo_segments.specs.Searches.{work_left, IsSearch}
use Rattle.ooo_segments.proofs.searching.reached.Given as goal

abbrev pub invariant-nodes : goal.invariant-nodes
invariant-nodes l = record { count : length l.found ≡ l.end; search : IsSearch l.nodes l.entry l.found l.left.items }

abbrev pub decreases-nodes : goal.decreases-nodes
decreases-nodes l = work_left l.found l.left.items
