-- What is kept of the jobs of a board that are out.
use Rattle.std.specs.Prelude.{◌≡◌, ℕ, List, Option, Some, length, slice_get}
use Rattle.ooo_interp.specs.declared.job.Done.{Done}
use Rattle.ooo_board.specs.Boards.{Shown, rules, state}
use Rattle.ooo_board.specs.Jobs.{Gives}

-- it is what the job of process p gives
pub record IsGiven (b : Shown) (p : ℕ) (done : Done) : Type 0 where
  pub process : done.process ≡ p
  pub gives : Gives (rules b) (state b) done

-- what is kept for each process is what its job gives
abbrev pub AreGiven : Shown → List (Option Done) → Type 0
AreGiven b given = (p : ℕ) (done : Done) → slice_get given p ≡ Some (Some done) → IsGiven b p done

-- so it is, with a place for each process
pub record AreHeld (b : Shown) (given : List (Option Done)) : Type 0 where
  pub counted : length given ≡ length b.design.processes
  pub are : AreGiven b given
