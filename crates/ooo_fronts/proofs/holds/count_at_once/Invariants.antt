-- So many of those below the next.
use Rattle.std.proofs.Common.{◌≡◌, length, get_or}
use Rattle.std.specs.Prelude.{is_some}
use Rattle.ooo_lemmas.specs.Counting.{count}
use Rattle.ooo_fronts.specs.Holds.{hold_at}
use Rattle.ooo_fronts.proofs.holds.count_at_once.Given as goal

abbrev pub invariant-loop-b : goal.invariant-loop-b
invariant-loop-b l = l.count ≡ count (λ b. is_some (hold_at l.tables l.g l.p l.f b)) (get_or l.segments l.b-index (length l.tables.graph.segments))
