-- What holds of a sound design with its tables, and of every lawful list of its steps.
use Rattle.std.specs.Prelude.{◌≡◌, ◌≢◌, ℕ, List, [], ◌∷◌, ◌++◌, Option, None, Some, slice_index_or}
use Rattle.ooo_code.specs.declared.design.Design.{Design}
use Rattle.ooo_code.specs.declared.limits.Limits.{Limits}
use Rattle.ooo_meaning.specs.Runs.{IsSequentialRun}
use Rattle.ooo_meaning.specs.Sequence.{Result}
use Rattle.ooo_tables.specs.declared.tables.Tables.{Tables}
use Rattle.ooo_dispatch.specs.declared.step.Step.{Step}
use Rattle.ooo_time.specs.Delays.{advanced}
use Rattle.ooo_dispatch.specs.Least.{HoldsUp, rules_of}
use Rattle.ooo_dispatch.specs.Reach.{FrontsInReach}
use Rattle.ooo_dispatch.specs.Schedules.{Always, CommitsPutBack, CommitsWalk, CutStays, IsReady, NoneOvertakes, NothingAway, StayAllowed}
use Rattle.ooo_dispatch.specs.Scheduler.{JobsRead}
use Rattle.ooo_dispatch.specs.Steps.{AreLawful, IsLawfulStep, nothing_done}
use Rattle.ooo_fronts.specs.declared.front.Front.{Front}
use Rattle.ooo_fronts.specs.declared.front.Hold.{Hold}
use Rattle.ooo_fronts.specs.Choices.{CountHolds, PicksLeast}
use Rattle.ooo_fronts.specs.Fronts.{AreAligned, front_is}
use Rattle.ooo_fronts.specs.Holds.{AreCounts, IsHold, IsHoldByRule}
use Rattle.ooo_board.specs.Cores.{after}

-- what holds of the design, and of each lawful list of steps
pub record AreLaws (design : Design) (limits : Limits) (t : Tables) : Type 0 where
  -- fronts are counted by the tables as the rule has it
  pub aligned : AreAligned t
  pub counts : (fronts : List (Option Front)) (counts : List ℕ) → AreCounts t fronts counts → CountHolds (rules_of design limits t) t.advance fronts counts
  pub holds : (fronts : List (Option Front)) (p : ℕ) (h : Hold) → (is : IsHold t fronts p h) → IsHoldByRule design limits t p h is.holding is.held
  pub found :
      (fronts : List (Option Front)) (p q : ℕ) (g f : Front) → q ≢ p → slice_index_or fronts q None ≡ Some g → slice_index_or fronts p None ≡ Some f →
      (up : HoldsUp (rules_of design limits t) t.advance (front_is g) p (front_is f)) → IsHold t fronts p (record { front = q; segment = up.segment; at = advanced g.stamp up.delay })
  -- a lawful list of steps goes on with each step that is lawful after it
  pub goes_on :
      (steps : List Step) (step : Step) → AreLawful (rules_of design limits t) t.advance (nothing_done (rules_of design limits t)) steps →
      IsLawfulStep (rules_of design limits t) t.advance (after design limits t steps) step →
      AreLawful (rules_of design limits t) t.advance (nothing_done (rules_of design limits t)) (steps ++ step ∷ [])
  -- the board after it
  pub in_reach : Always design limits t FrontsInReach
  pub reads : (result : Result) → IsSequentialRun design limits result → Always design limits t (λ r least s. JobsRead r s.board result)
  pub away : Always design limits t NothingAway
  pub stays : Always design limits t StayAllowed
  pub walks : Always design limits t CommitsWalk
  pub cut : Always design limits t CutStays
  pub overtakes : Always design limits t NoneOvertakes
  pub puts_back : Always design limits t CommitsPutBack
  pub least : Always design limits t PicksLeast

-- so it is of each
abbrev pub Laws : Type 0
Laws = (design : Design) (limits : Limits) (t : Tables) → IsReady design limits t → AreLaws design limits t
