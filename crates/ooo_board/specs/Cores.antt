-- What a board keeps is what its steps make of it.
use Rattle.std.specs.Prelude.{◌+◌, vec_len, vec_capacity, ◌≡◌, ℕ, ◌≤◌, List, [], length, true, Option, None, Some, IsSome, slice_get, slice_index_or}
use Rattle.ooo_time.specs.declared.stamp.Stamp.{Stamp}
use Rattle.ooo_time.specs.Scales.{greatest_delta}
use Rattle.ooo_code.specs.declared.design.Design.{Design}
use Rattle.ooo_code.specs.declared.limits.Limits.{Limits}
use Rattle.ooo_value.specs.declared.values.Value.{Value}
use Rattle.ooo_channels.specs.Bank.{Covers}
use Rattle.ooo_interp.specs.declared.job.Done.{Done}
use Rattle.ooo_schedules.specs.Design.{Wait}
use Rattle.ooo_schedules.specs.Model as model
use Rattle.ooo_schedules.specs.Model.{Act, In, count, last}
use Rattle.ooo_schedules.specs.Program.{wait_by}
use Rattle.ooo_schedules.specs.Tables.{program}
use Rattle.ooo_dispatch.specs.declared.reads.Reads.{Reads}
use Rattle.ooo_dispatch.specs.Boards as board
use Rattle.ooo_dispatch.specs.Boards.{Board}
use Rattle.ooo_dispatch.specs.ReadOff.{pieces_in, places_in}
use Rattle.ooo_dispatch.specs.Rules.{Rules, has, slots_after, tables}
use Rattle.ooo_dispatch.specs.Least.{MayRun, rules_of}
use Rattle.ooo_dispatch.specs.Schedules.{IsReady, cells_on, owns}
use Rattle.ooo_dispatch.specs.Steps.{AreLawful, Replay, after_step, job_of, nothing_done, replayed}
use Rattle.ooo_dispatch.specs.declared.step.Step.{Step}
use Rattle.ooo_dispatch.specs.declared.step.Step.TheVariants.{Dispatch}
use Rattle.ooo_tables.specs.declared.tables.Tables.{Tables}
use Rattle.ooo_interp.specs.declared.job.Job.{Job}
use Rattle.ooo_interp.specs.Jobs.{Fits}
use Rattle.ooo_fronts.specs.declared.choice.State.{State}
use Rattle.ooo_fronts.specs.declared.choice.State.TheVariants.{Waiting, Running, Abandoned}
use Rattle.ooo_fronts.specs.declared.front.Front.{Front}
use Rattle.ooo_fronts.specs.Cuts.{IsCutOf}
use Rattle.ooo_fronts.specs.Fronts.{AreFit, AreFrontsOf, front_is}
use Rattle.ooo_fronts.specs.Holds.{AreKept}
use Rattle.ooo_board.specs.declared.cores.Core.{Core}
use Rattle.ooo_board.specs.Forgetting.{HasBank}
use Rattle.ooo_board.specs.Jobs.{Gives, IsJobOf}
use Rattle.ooo_board.specs.declared.process.Process.{Process}
use Rattle.ooo_board.specs.declared.process.Waiting.{Waiting as Wait_kept}

-- ---- boards after steps

-- the rules of a design with its tables and limits, after these steps
abbrev pub after : (design : Design) (limits : Limits) (t : Tables) → List Step → Replay (rules_of design limits t)
after design limits t steps = replayed (rules_of design limits t) (nothing_done (rules_of design limits t)) steps

-- a sound design with its tables, limits in range, and lawful steps
pub record Stands (design : Design) (limits : Limits) (t : Tables) (steps : List Step) : Type 0 where
  pub ready : IsReady design limits t
  pub deltas : limits.deltas ≤ greatest_delta
  pub lawful : AreLawful (rules_of design limits t) t.advance (nothing_done (rules_of design limits t)) steps

-- ---- variables

-- no job that is out owns variable x
abbrev pub IsHome : (r : Rules) → Board r → (x : ℕ) → Type 0
IsHome r b x = (j : Act Stamp Reads) → In j b.out → owns r j.segment x → ⊥

-- the cells of all variables but those that are away
pub record AreVariables (r : Rules) (b : Board r) (variables : List (List Value)) : Type 0 where
  pub count : length variables ≡ length r.design.variables
  pub home : (x : ℕ) → IsHome r b x → slice_index_or variables x [] ≡ cells_on r b x

-- ---- processes

-- how a process was left, as the rule has it
abbrev pub wait_is : Wait_kept → Wait Stamp
wait_is w = record { segment = w.segment; timeout = w.timeout; events = w.events; since = w.since }

abbrev pub maybe_wait : Option Wait_kept → Option (Wait Stamp)
maybe_wait None = None
maybe_wait (Some w) = Some (wait_is w)

-- what is kept of process p
pub record IsProcess (r : Rules) (b : Board r) (p : ℕ) (x : Process) : Type 0 where
  pub slots : last p b.out ≡ None → x.slots ≡ slots_after r p (last p b.log)
  pub waiting : maybe_wait x.waiting ≡ wait_by (program (tables r)) p (last p b.log)
  pub activations : x.activations ≡ count p b.log

-- so it is of each process
pub record AreProcesses (r : Rules) (b : Board r) (processes : List Process) : Type 0 where
  pub counted : length processes ≡ length r.design.processes
  pub each : (p : ℕ) (x : Process) → slice_get processes p ≡ Some x → IsProcess r b p x

-- ---- states

-- what process p does after some steps
abbrev pub IsStateOf : (r : Rules) → Replay r → (p : ℕ) → State → Type 0
IsStateOf r s p Waiting = last p s.board.out ≡ None
IsStateOf r s p Running = IsSome (job_of r s p)
IsStateOf r s p Abandoned = (has s.abandoned p ≡ true) × IsSome (last p s.board.out)

-- so it is of each process
pub record AreStatesAfter (r : Rules) (s : Replay r) (states : List State) : Type 0 where
  pub counted : length states ≡ length r.design.processes
  pub each : (p : ℕ) (x : State) → slice_get states p ≡ Some x → IsStateOf r s p x

-- ---- all of it

-- what a board keeps after some steps
pub record IsCore (design : Design) (limits : Limits) (t : Tables) (s : Replay (rules_of design limits t)) (c : Core) : Type 0 where
  pub has_bank : HasBank (rules_of design limits t) s.board c.bank c.below
  pub has_variables : AreVariables (rules_of design limits t) s.board c.variables.items
  pub has_processes : AreProcesses (rules_of design limits t) s.board c.processes.items
  pub has_states : AreStatesAfter (rules_of design limits t) s c.states.items
  pub has_fronts : AreFrontsOf (rules_of design limits t) s.board c.fronts.fronts
  pub has_kept : AreKept t c.fronts
  pub fit : AreFit t c.fronts.fronts
  pub has_cut : IsCutOf (rules_of design limits t) s.board.log c.cut
  pub has_pieces : c.pieces.items ≡ pieces_in (rules_of design limits t) s.board.log
  pub has_places : c.places.items ≡ places_in s.board.log

-- it is that after these steps
pub record HasCore (design : Design) (limits : Limits) (t : Tables) (steps : List Step) (c : Core) : Type 0 where
  pub stands : Stands design limits t steps
  pub core : IsCore design limits t (after design limits t steps) c

-- ---- steps

-- process p may be dispatched at this front
pub record MayDispatch (design : Design) (limits : Limits) (t : Tables) (steps : List Step) (p : ℕ) (f : Front) : Type 0 where
  pub none_lost : (after design limits t steps).abandoned ≡ []
  pub may : MayRun (rules_of design limits t) t.advance (after design limits t steps).board p (front_is f)

-- its job was handed out
pub record IsDispatched (design : Design) (limits : Limits) (t : Tables) (steps : List Step) (p : ℕ) (f : Front) (c : Core) (job : Job) : Type 0 where
  pub core : IsCore design limits t (after_step (rules_of design limits t) (after design limits t steps) (Dispatch p)) c
  pub is_job : IsJobOf (rules_of design limits t) (model.job (board.model (rules_of design limits t)) (after design limits t steps).board p (front_is f)) job
  pub fits : Fits job

-- there is room for what a job did
pub record HasRoom (c : Core) (done : Done) : Type 0 where
  pub effects : Covers c.bank done.emitted.effects.items
  pub pieces : vec_len c.pieces + 1 ≤ vec_capacity c.pieces
  pub places : vec_len c.places + 1 ≤ vec_capacity c.places

-- what a job did may be taken in, which ran at this stamp
pub record MayTakeIn (design : Design) (limits : Limits) (t : Tables) (steps : List Step) (c : Core) (done : Done) (at : Stamp) : Type 0 where
  pub has : HasCore design limits t steps c
  pub gives : Gives (rules_of design limits t) (after design limits t steps) done
  pub stamp : at ≡ gives.job.stamp
