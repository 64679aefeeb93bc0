-- The best of the processes so far, and whether some front of theirs isn't below the limit of deltas.
use Rattle.std.proofs.Common.{◌≡◌, false, ℕ, ◌<◌, IfSome}
use Rattle.ooo_dispatch.specs.Boards.{Board}
use Rattle.ooo_dispatch.specs.Least.{Advance}
use Rattle.ooo_dispatch.specs.Rules.{Rules}
use Rattle.ooo_fronts.specs.Choices.{IsBelowLimit, IsBestBelow, IsChoiceOf}
use Rattle.ooo_fronts.proofs.choice.Choice.pick.Given as goal

abbrev pub invariant-loop-p : goal.invariant-loop-p
invariant-loop-p l = record {
  within : IfSome l.best (λ at. at.process < l.p);
  best : (r : Rules) (least : Advance) (b : Board r) → IsChoiceOf r least b l.self → IsBestBelow r least b l.p l.best;
  limited : l.limited ≡ false → (q : ℕ) → q < l.p → IsBelowLimit l.self q;
}
