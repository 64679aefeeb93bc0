use Rattle.std.proofs.Common.{◌≡◌, ◌<◌, ◌-◌, ℕ, false, get_or, length}
use Rattle.ooo_code.specs.declared.segment.Segment.{Segment}
use Rattle.ooo_board.specs.Links.{begins_at}
use Rattle.ooo_board.proofs.links.Links.segment.Given as goal

abbrev pub invariant-loop-g : goal.invariant-loop-g
invariant-loop-g l = (k : ℕ) (d : Segment) → k < l.g → begins_at l.p l.entry (get_or l.segments k d) ≡ false

abbrev pub decreases-loop-g : goal.decreases-loop-g
decreases-loop-g l = length l.segments - l.g
