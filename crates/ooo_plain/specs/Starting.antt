-- The engine as a run starts.
use Rattle.std.specs.Prelude.{◌≡◌, ◌≢◌, ℕ, ◌<◌, false, List, [], Some, map, replicate, length, All, Contains, slice_get, slice_index_or, pos}
use Rattle.ooo_value.specs.declared.bound.BoundEvent.{BoundEvent}
use Rattle.ooo_value.specs.declared.bound.BoundEvent.TheVariants as event
use Rattle.ooo_value.specs.declared.bound.BoundVariable.{BoundVariable}
use Rattle.ooo_value.specs.declared.kinds.Kind.{Kind}
use Rattle.ooo_value.specs.declared.values.Value.{Value}
use Rattle.ooo_value.specs.Values.{value_of}
use Rattle.ooo_code.specs.declared.design.Design.{Design}
use Rattle.ooo_code.specs.declared.design.Proc.{Proc}
use Rattle.ooo_code.specs.Nodes.{first_frame}
use Rattle.ooo_meaning.specs.World.{World, wait_at, update, zero_stamp}
use Rattle.ooo_meaning.specs.Runs.{start_of}
use Rattle.ooo_channels.specs.Operations.{Operations, no_operations}
use Rattle.ooo_channels.specs.Calls.{channel_of}
use Rattle.ooo_plain.specs.declared.engine.Process.{Process}
use Rattle.ooo_plain.specs.declared.engine.Engine.{Engine}
use Rattle.ooo_plain.specs.declared.schedule.Schedule.{Schedule}
use Rattle.ooo_plain.specs.Agenda.{due_in}
use Rattle.ooo_plain.specs.Schedule.{awaited_at, KnowsWaiters}
use Rattle.ooo_plain.specs.Tracking.{will_run, awaited_of, IsPlanned}
use Rattle.ooo_plain.specs.Engine.{Mirrors, frames_of, frame_of}

-- the world before initialization
abbrev pub first_world_of : Design → World
first_world_of design = (start_of design).world

-- no operation was made yet
abbrev pub first_operations : Design → Operations
first_operations design = no_operations design.channels design.events

-- so many values of kinds, each 0
abbrev pub zeros_of : List Kind → List Value
zeros_of kinds = map (λ k. value_of k (pos 0)) kinds

-- the elements of variables as they start
abbrev pub first_cells : List BoundVariable → List (List Value)
first_cells variables = map (λ x. replicate x.length x.start) variables

-- processes at their starts
abbrev pub AreFirstProcesses : List Proc → List Process → Type 0
AreFirstProcesses bound processes = map frame_of processes ≡ map first_frame bound

-- the lists of each channel's events have the first n events
pub record AreFirstChannelEvents (design : Design) (n : ℕ) (channel_events : List (List ℕ)) : Type 0 where
  pub count : length channel_events ≡ length design.channels
  pub within : (c : ℕ) → All (λ e. e < length design.events) (slice_index_or channel_events c [])
  pub all : (e : ℕ) (k : BoundEvent) → e < n → slice_get design.events e ≡ Some k → k ≢ event.Own → Contains (slice_index_or channel_events (channel_of k) []) e

-- the first p processes of a design are due, or wait, as they start
pub record AreBegun (design : Design) (p : ℕ) (s : Schedule) : Type 0 where
  pub count : length s.agenda ≡ length design.processes
  pub dues : (q : ℕ) → q < p → due_in s.agenda q ≡ will_run zero_stamp (update (first_world_of design)).slots (wait_at (first_world_of design).waits q)
  pub awaited : (q : ℕ) → q < p → (wait_at (first_world_of design).waits q).runnable ≡ false → awaited_at s.awaited.items q ≡ awaited_of (wait_at (first_world_of design).waits q)
  pub known : (q : ℕ) → All (λ e. e < length s.waiters.items) (awaited_at s.awaited.items q).events
  pub knows : KnowsWaiters s
  pub lists : length s.waiters.items ≡ length design.events

-- the engine mirrors the world before initialization
pub record Starts (design : Design) (e : Engine) : Type 0 where
  pub mirrors : Mirrors design e (first_operations design) (first_world_of design)
  pub planned : IsPlanned e.schedule (first_world_of design)
  pub places : frames_of e ≡ (start_of design).places
  pub activations : e.activations ≡ 0
