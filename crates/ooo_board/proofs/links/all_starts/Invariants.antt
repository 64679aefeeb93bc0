use Rattle.ooo_board.specs.Links.{AreStarts}
use Rattle.std.proofs.Common.{◌≤◌, length}
use Rattle.ooo_board.proofs.links.all_starts.Given as goal

abbrev pub invariant-loop-g : goal.invariant-loop-g
invariant-loop-g l = (l.g ≤ length l.segments) × AreStarts l.design l.g l.segments l.starts.items

abbrev pub decreases-loop-g : goal.decreases-loop-g
decreases-loop-g l = l.g
