-- Cycles of the engine.
use Rattle.std.specs.Prelude.{◌≡◌, ◌≢◌, ℕ, ◌+◌, ◌-◌, ◌*◌, ◌<◌, ◌≤◌, false, List, Option, Some, None, length, fold}
use Rattle.ooo_time.specs.declared.stamp.Stamp.{Stamp}
use Rattle.ooo_time.specs.Scales.{greatest_time}
use Rattle.ooo_code.specs.declared.design.Design.{Design}
use Rattle.ooo_code.specs.declared.limits.Limits.{Limits}
use Rattle.ooo_code.specs.Nodes.{by_nodes}
use Rattle.ooo_history.specs.declared.run.End.{End}
use Rattle.ooo_meaning.specs.World.{World, wait_at}
use Rattle.ooo_meaning.specs.Sequence.{Result, state_of, result_of, turn, evaluate, IsRunFrom}
use Rattle.ooo_meaning.specs.Runs.{ascending, numbers_from}
use Rattle.ooo_channels.specs.Operations.{Operations}
use Rattle.ooo_channels.specs.Agreement.{HasHistories}
use Rattle.ooo_channels.specs.Bank.{IsBankAfter}
use Rattle.ooo_plain.specs.declared.engine.Engine.{Engine}
use Rattle.ooo_plain.specs.declared.cycles.Pass.{Pass}
use Rattle.ooo_plain.specs.declared.cycles.Pass.TheVariants as pass
use Rattle.ooo_plain.specs.declared.cycles.CycleEnd.{CycleEnd}
use Rattle.ooo_plain.specs.declared.cycles.CycleEnd.TheVariants as cycle_end
use Rattle.ooo_plain.specs.Agenda.{due_in}
use Rattle.ooo_plain.specs.Tracking.{IsPlanned}
use Rattle.ooo_plain.specs.Engine.{AreOf, Mirrors, Prints, Turns, Breaks, Turned, frames_of}

-- the limits are in range: the stop time is one that a model may name, and there may be a delta cycle and a statement
pub record AreInRange (limits : Limits) : Type 0 where
  pub stop : limits.stop.0 ≤ greatest_time
  pub some_deltas : 1 ≤ limits.deltas
  pub deltas : limits.deltas ≤ 1000000
  pub some_statements : 1 ≤ limits.statements
  pub statements : limits.statements ≤ 1000000000

-- the engine mirrors some world, and its schedule is the world's
pub record MayGo (design : Design) (e : Engine) : Type 0 where
  pub world : World
  pub ops : Operations
  pub mirrors : Mirrors design e ops world
  pub planned : IsPlanned e.schedule world

-- process p, the lowest of those that were due, had its turn
pub record Passed (design : Design) (statements p : ℕ) (o : Option End) (old new : Engine) (w : World) : Type 0 where
  pub within : p < length design.processes
  pub due : due_in old.schedule.agenda p ≡ Some old.stamp
  pub lowest : (q : ℕ) → q < p → due_in old.schedule.agenda q ≢ Some old.stamp
  pub turned : Turned design statements p o old new w

-- the lowest of the processes that are due now had its turn, or none is due
abbrev pub Passes : Design → ℕ → Pass → (old new : Engine) → Type 0
Passes design statements pass.Nobody old new = (new ≡ old) × ((p : ℕ) → due_in old.schedule.agenda p ≢ Some old.stamp)
Passes design statements (pass.Had p) old new = (w : World) (ops : Operations) → Mirrors design old ops w → IsPlanned old.schedule w → Passed design statements p None old new w
Passes design statements (pass.Broke e) old new = (w : World) (ops : Operations) → Mirrors design old ops w → IsPlanned old.schedule w → (p : ℕ) × Passed design statements p (Some e) old new w

-- the processes that are still to have their turns in a cycle, from number p on
abbrev pub still : Design → ℕ → List ℕ
still design p = numbers_from p (length design.processes - p)

-- the processes below number p had their turns
pub record HadTurns (design : Design) (statements p : ℕ) (old new : Engine) (w : World) : Type 0 where
  pub world : World
  pub turns : Turns design new world
  pub rest : fold (turn (by_nodes design statements)) (state_of world (frames_of new)) (still design p) ≡ fold (turn (by_nodes design statements)) (state_of w (frames_of old)) (still design 0)
  pub idle : (q : ℕ) → q < p → (wait_at world.waits q).runnable ≡ false

-- so they had in whatever world the engine mirrored
pub record HaveTurns (design : Design) (statements p : ℕ) (old new : Engine) : Type 0 where
  pub within : p ≤ length design.processes
  pub stamp : new.stamp ≡ old.stamp
  pub activations : new.activations ≤ old.activations + p
  pub had : (w : World) (ops : Operations) → Mirrors design old ops w → IsPlanned old.schedule w → HadTurns design statements p old new w

-- a world after an evaluation: no process is due now, or an activation ended the run
pub record Calms (design : Design) (e : Engine) (w : World) : Type 0 where
  pub turns : Turns design e w
  pub nobody : (p : ℕ) → due_in e.schedule.agenda p ≢ Some e.stamp

abbrev pub CalmsTo : Design → Engine → Option End → World → Type 0
CalmsTo design e None w = Calms design e w
CalmsTo design e (Some end) w = Breaks design e end w

-- each process had its turn
pub record Evaluated (design : Design) (statements : ℕ) (o : Option End) (old new : Engine) (w : World) : Type 0 where
  pub world : World
  pub calms : CalmsTo design new o world
  pub state : evaluate (by_nodes design statements) (ascending design) (state_of w (frames_of old)) ≡ state_of world (frames_of new)

pub record Evaluates (design : Design) (statements : ℕ) (o : Option End) (old new : Engine) : Type 0 where
  pub stamp : new.stamp ≡ old.stamp
  pub activations : new.activations ≤ old.activations + length design.processes
  pub each : (w : World) (ops : Operations) → Mirrors design old ops w → IsPlanned old.schedule w → Evaluated design statements o old new w

-- ---- a cycle

-- the run from a world on, of the design's processes
abbrev pub GivesFrom : Design → Limits → Engine → World → Result → Type 0
GivesFrom design limits e w r = IsRunFrom (by_nodes design limits.statements) (ascending design) limits (state_of w (frames_of e)) r

-- a run is over in a world, of which the engine shows what was printed, and the bank the histories up to a stamp
pub record IsOver (design : Design) (e : Engine) (at : Stamp) (w : World) : Type 0 where
  pub ops : Operations
  pub of : AreOf design ops
  pub bank : IsBankAfter e.bank ops
  pub histories : HasHistories ops at w
  pub prints : Prints e w

-- the run is over
pub record Overs (design : Design) (limits : Limits) (end : End) (at : Stamp) (old new : Engine) (w : World) : Type 0 where
  pub world : World
  pub over : IsOver design new at world
  pub run : GivesFrom design limits old w (result_of world end)

-- another cycle follows: the run from there gives what the run from here gives
pub record Goes (design : Design) (limits : Limits) (old new : Engine) (w : World) : Type 0 where
  pub world : World
  pub turns : Turns design new world
  pub run : (r : Result) → GivesFrom design limits new world r → GivesFrom design limits old w r

abbrev pub Follows : Design → Limits → CycleEnd → (old new : Engine) → World → Type 0
Follows design limits (cycle_end.Over end at) old new w = Overs design limits end at old new w
Follows design limits cycle_end.Goes old new w = Goes design limits old new w

-- how many cycles may follow, by the stamp
abbrev pub cycles_after : Limits → Stamp → ℕ
cycles_after limits s = (limits.stop.0 - s.time.0) * (limits.deltas + 1) + (limits.deltas - s.delta)

-- a stamp is within the limits
pub record IsWithin (limits : Limits) (s : Stamp) : Type 0 where
  pub time : s.time.0 ≤ limits.stop.0
  pub delta : s.delta < limits.deltas

-- where another cycle follows its stamp is within the limits, and fewer may follow
abbrev pub Nears : Limits → CycleEnd → (old new : Stamp) → Type 0
Nears limits (cycle_end.Over end at) old new = Unit {0}
Nears limits cycle_end.Goes old new = IsWithin limits new × (cycles_after limits new < cycles_after limits old)

-- one cycle
pub record Cycles (design : Design) (limits : Limits) (t : CycleEnd) (old new : Engine) : Type 0 where
  pub activations : new.activations ≤ old.activations + length design.processes
  pub nears : Nears limits t old.stamp new.stamp
  pub each : (w : World) (ops : Operations) → Mirrors design old ops w → IsPlanned old.schedule w → Follows design limits t old new w
