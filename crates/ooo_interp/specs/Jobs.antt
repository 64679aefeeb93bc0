-- Jobs: what an activation is on lent parts, when a job fits, and what a job gives.
use Rattle.std.specs.Prelude.{◌≡◌, ℕ, ◌<◌, ◌≤◌, ◌⊎◌, List, length, None, slice_get, IsSome, IfSome, IsSomeAnd, All, AllPairs}
use Rattle.ooo_time.specs.declared.stamp.Stamp.{Stamp}
use Rattle.ooo_value.specs.declared.values.Value.{Value}
use Rattle.ooo_code.specs.declared.activation.Frame.{Frame}
use Rattle.ooo_code.specs.declared.activation.Seen.{Seen}
use Rattle.ooo_code.specs.declared.activation.Seen.TheVariants as seen
use Rattle.ooo_code.specs.declared.design.Design.{Design}
use Rattle.ooo_code.specs.declared.design.Proc.{Proc}
use Rattle.ooo_code.specs.declared.segment.SegmentEntry.{SegmentEntry}
use Rattle.ooo_code.specs.Expressions.{Sight, cells_of, fifo_seen, signal_seen}
use Rattle.ooo_code.specs.Nodes.{by_nodes, ends}
use Rattle.ooo_code.specs.Outcomes.{Outcome, View}
use Rattle.ooo_code.specs.Segments.{Accesses}
use Rattle.ooo_code.specs.Touches.{Touch, Reads, Writes, ReadsSignal, HoldsReading, HoldsWriting}
use Rattle.ooo_interp.specs.declared.doing.Halt.{Halt}
use Rattle.ooo_interp.specs.declared.doing.Emitted.{Emitted}
use Rattle.ooo_interp.specs.declared.job.Done.{Done}
use Rattle.ooo_interp.specs.declared.job.Job.{Job}
use Rattle.ooo_interp.specs.declared.processes.Start.{Start}
use Rattle.ooo_interp.specs.Acting.{doing_of, entry_after, job_end}
use Rattle.ooo_interp.specs.Carrying.{Carried, IsAscending, listed, numbers_of, put_in}

-- ---- an activation on lent parts

-- the view that parts give
abbrev pub view_of : Stamp → Sight → View
view_of stamp s = record { stamp = stamp; variables = s.variables; seen = s.seen }

-- an activation that begins so, on parts that give this sight
abbrev pub activation_of : Design → Start → Sight → Outcome Frame
activation_of design start s =
    by_nodes design start.statements start.process (record { entry = start.entry; slots = s.slots }) (view_of start.stamp s)

-- what an activation came to that began at an entry: by what it emitted, how it ended, and the parts after it
abbrev pub comes_to : SegmentEntry → Emitted → Halt → Sight → Outcome Frame
comes_to began emitted halt s = ends (entry_after began halt) (job_end halt) (doing_of s emitted None)

-- ---- when a job fits

-- what is written may be changed, and what is read is carried
pub record CarriesTouched (T : Touch → Type 0) (owned copied : List Carried) : Type 0 where
  pub written : (x : ℕ) → T (Writes x) → IsSome (listed owned x)
  pub read : (x : ℕ) → T (Reads x) → IsSome (listed owned x) ⊎ IsSome (listed copied x)

-- what is carried is of a variable of the design
abbrev pub IsCarriedOf : Design → Carried → Type 0
IsCarriedOf design c = c.0 < length design.variables

-- how many values and how many free slots are seen of a fifo; a signal has none
abbrev pub count_seen : Seen → ℕ
count_seen (seen.Signal c v changed) = 0
count_seen (seen.Fifo c values free) = length values

abbrev pub free_seen : Seen → ℕ
free_seen (seen.Signal c v changed) = 0
free_seen (seen.Fifo c values free) = free

-- a fifo shows no more values and free slots than the largest fifo holds
abbrev pub IsFew : Seen → Type 0
IsFew s = (count_seen s ≤ 65536) × (free_seen s ≤ 65536)

abbrev pub number_seen : Seen → ℕ
number_seen (seen.Signal c v changed) = c
number_seen (seen.Fifo c values free) = c

-- fifos have these values, as it is seen
abbrev pub IsKeptBy : (ℕ → List Value) → Seen → Type 0
IsKeptBy values (seen.Signal c v changed) = Unit {0}
IsKeptBy values (seen.Fifo c own free) = values c ≡ own

-- each channel that is seen has a lower number than the later ones
abbrev pub SeenAscend : List Seen → Type 0
SeenAscend sight = AllPairs (λ a b. number_seen a < number_seen b) sight

-- what the segment touches that a job runs
abbrev pub Touched : Job → Proc → Touch → Type 0
Touched job process = Accesses job.design.value process job.frame.entry

-- a job carries what its segment touches, and sees of no fifo more than the largest one holds. Its lists ascend by number.
pub record Fits (job : Job) : Type 0 where
  pub variables :
      IsSomeAnd (slice_get job.design.value.processes job.process) (λ process. CarriesTouched (Touched job process) job.owned.items job.copied.items)
  pub owned : All (IsCarriedOf job.design.value) job.owned.items
  pub copied : All (IsCarriedOf job.design.value) job.copied.items
  pub few : All IsFew job.seen.items
  pub owned_ascends : IsAscending job.owned.items
  pub copied_ascends : IsAscending job.copied.items
  pub seen_ascends : SeenAscend job.seen.items

-- ---- what a job gives

-- two lists of what is seen agree on what is touched
pub record SeeAlike (T : Touch → Type 0) (a b : List Seen) : Type 0 where
  pub signals : (c : ℕ) → T (ReadsSignal c) → signal_seen a c ≡ signal_seen b c
  pub readable : (c : ℕ) → T (HoldsReading c) → (fifo_seen a c).values ≡ (fifo_seen b c).values
  pub writable : (c : ℕ) → T (HoldsWriting c) → (fifo_seen a c).free ≡ (fifo_seen b c).free

-- each of them has these elements among all variables
abbrev pub AreAmong : List (List Value) → List Carried → Type 0
AreAmong variables carried = All (λ c. cells_of variables c.0 ≡ c.1) carried

-- a job is part of a view of all variables of its design: what it carries, and what it sees that its segment touches, is
-- as in the view
pub record IsPartOf (job : Job) (view : View) : Type 0 where
  pub stamp : job.stamp ≡ view.stamp
  pub count : length view.variables ≡ length job.design.value.variables
  pub owned : AreAmong view.variables job.owned.items
  pub copied : AreAmong view.variables job.copied.items
  pub channels : IfSome (slice_get job.design.value.processes job.process) (λ process. SeeAlike (Touched job process) job.seen.items view.seen)

-- the activation that a job asks for, on a view
abbrev pub job_on : Job → View → Outcome Frame
job_on job view = by_nodes job.design.value job.statements job.process job.frame view

-- what was done, on a view: the variables that it was given to change are as it left them, and all others as they were
abbrev pub done_on : Done → View → Outcome Frame
done_on done view = record {
  deed = record {
    output = done.emitted.output.items;
    variables = put_in done.owned.items view.variables;
    effects = done.emitted.effects.items;
    end = done.end;
  };
  next = done.frame;
}

-- what was done is of this job, and has its variables
pub record IsOf (job : Job) (done : Done) : Type 0 where
  pub process : done.process ≡ job.process
  pub activation : done.activation ≡ job.activation
  pub variables : numbers_of done.owned.items ≡ numbers_of job.owned.items
