-- No front so far is below the cut.
use Rattle.std.proofs.Common.{ℕ, ◌<◌}
use Rattle.ooo_dispatch.specs.Boards.{Board}
use Rattle.ooo_dispatch.specs.Least.{Advance}
use Rattle.ooo_dispatch.specs.Rules.{Rules}
use Rattle.ooo_fronts.specs.Choices.{HasFrontBelow, IsChoiceOf}
use Rattle.ooo_fronts.proofs.choice.Choice.is_over.Given as goal

abbrev pub invariant-loop-p : goal.invariant-loop-p
invariant-loop-p l =
    (r : Rules) (least : Advance) (b : Board r) → IsChoiceOf r least b l.self → (q : ℕ) → q < l.p → HasFrontBelow r b q → ⊥
