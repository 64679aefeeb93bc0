-- None of those below the next that clashes strictly.
use Rattle.std.proofs.Common.{◌≡◌, ℕ, ◌<◌, length, get_or, false}
use Rattle.std.specs.Prelude.{is_some}
use Rattle.ooo_fronts.specs.Holds.{hold_at}
use Rattle.ooo_fronts.proofs.holds.first_of.Given as goal

abbrev pub invariant-loop-b : goal.invariant-loop-b
invariant-loop-b l = (b : ℕ) → b < get_or l.clashing l.b-index (length l.tables.graph.segments) → is_some (hold_at l.tables l.g l.p l.f b) ≡ false
