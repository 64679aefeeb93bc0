-- The run of a design, as the plain engine gives it.
use Rattle.std.specs.Prelude.{◌+◌, ◌*◌, ◌≤◌, length}
use Rattle.ooo_time.specs.declared.stamp.Stamp.{Stamp}
use Rattle.ooo_code.specs.declared.design.Design.{Design}
use Rattle.ooo_code.specs.declared.limits.Limits.{Limits}
use Rattle.ooo_history.specs.declared.run.End.{End}
use Rattle.ooo_history.specs.declared.run.Run.{Run}
use Rattle.ooo_meaning.specs.World.{World, zero_stamp}
use Rattle.ooo_meaning.specs.Sequence.{Result, result_of}
use Rattle.ooo_meaning.specs.Runs.{IsSequentialRun, Shows}
use Rattle.ooo_plain.specs.declared.engine.Engine.{Engine}
use Rattle.ooo_plain.specs.Engine.{Turns}
use Rattle.ooo_plain.specs.Cycles.{GivesFrom, IsOver, IsWithin, cycles_after}

-- a run shows what the sequential run of a design gives
pub record ShowsRun (design : Design) (limits : Limits) (run : Run) : Type 0 where
  pub result : Result
  pub is : IsSequentialRun design limits result
  pub shows : Shows run result

-- a run shows what a run gives that is over in a world
abbrev pub ShowsOver : Engine → Stamp → End → Run → Type 0
ShowsOver e at end run = (design : Design) (w : World) → IsOver design e at w → Shows run (result_of w end)

-- what the run gives from where the engine is, the sequential run of the design gives
pub record Reaches (design : Design) (limits : Limits) (e : Engine) : Type 0 where
  pub within : IsWithin limits e.stamp
  pub activations : e.activations + cycles_after limits e.stamp * length design.processes ≤ cycles_after limits zero_stamp * length design.processes
  pub world : World
  pub turns : Turns design e world
  pub run : (r : Result) → GivesFrom design limits e world r → IsSequentialRun design limits r
