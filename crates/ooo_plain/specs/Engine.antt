-- The engine, and what its steps do to a world that it mirrors.
use Rattle.std.specs.Prelude.{◌≡◌, ◌≢◌, ◌↔◌, ℕ, ◌+◌, ◌<◌, ◌^◌, true, false, List, [], Option, Some, None, map, length, slice_index_or, slice_get, slice_set, All, AllPairs, Contains, Bool, ◌||◌, ◌++◌}
use Rattle.std.specs.List.{flat_map, list_any}
use Rattle.ooo_time.specs.declared.stamp.Stamp.{Stamp}
use Rattle.ooo_time.specs.Stamps.{IsBefore}
use Rattle.ooo_value.specs.declared.bound.BoundEvent.{BoundEvent}
use Rattle.ooo_value.specs.declared.bound.BoundEvent.TheVariants as event
use Rattle.ooo_code.specs.declared.activation.Effect.{Effect}
use Rattle.ooo_code.specs.declared.activation.Effect.TheVariants as effect
use Rattle.ooo_code.specs.declared.activation.Frame.{Frame}
use Rattle.ooo_code.specs.declared.activation.JobEnd.{JobEnd}
use Rattle.ooo_code.specs.declared.design.Design.{Design}
use Rattle.ooo_code.specs.declared.design.Proc.{Proc}
use Rattle.ooo_code.specs.declared.segment.SegmentEntry.TheVariants.{Start}
use Rattle.ooo_code.specs.Nodes.{by_nodes}
use Rattle.ooo_code.specs.Segments.{nodes_of}
use Rattle.ooo_code.specs.Outcomes.{Outcome}
use Rattle.ooo_history.specs.declared.run.End.{End}
use Rattle.ooo_interp.specs.declared.doing.Emitted.{Emitted}
use Rattle.ooo_interp.specs.declared.doing.Halt.{Halt}
use Rattle.ooo_interp.specs.Acting.{job_end}
use Rattle.ooo_meaning.specs.World.{World, Made, wait_at, view_of, last_stamp, after_deed, wait_after, broken_by, place_of}
use Rattle.ooo_channels.specs.Operations.{Operations, after_effects}
use Rattle.ooo_channels.specs.Calls.{channel_of}
use Rattle.ooo_channels.specs.Conditions.{Names, MayApplyAll, IsCountableStamp}
use Rattle.ooo_channels.specs.Bank.{IsBankAfter}
use Rattle.ooo_channels.specs.Agreement.{Agrees, IsTimely}
use Rattle.ooo_plain.specs.declared.engine.Process.{Process}
use Rattle.ooo_plain.specs.declared.engine.Engine.{Engine}
use Rattle.ooo_plain.specs.declared.schedule.Awaited.{Awaited}
use Rattle.ooo_plain.specs.Schedule.{KnowsWaiters, MayAsk, MayAskAll, Touched, Waits, lists_of}
use Rattle.ooo_plain.specs.Fitting.{FitsEntry, FitsEnd}
use Rattle.ooo_plain.specs.Seeing.{HasEnds}
use Rattle.ooo_plain.specs.Shown.{shown_to_nodes}
use Rattle.ooo_plain.specs.Tracking.{IsPlanned, IsPlannedBut, affects, awaited_of}

-- ---- designs

-- each process, channel and event has a number of 32 bits
pub record IsFew (design : Design) : Type 0 where
  pub processes : length design.processes < 2 ^ 32
  pub channels : length design.channels < 2 ^ 32
  pub events : length design.events < 2 ^ 32

-- where a process is
abbrev pub frame_of : Process → Frame
frame_of x = record { entry = x.entry; slots = x.slots.items }

-- where each process is
abbrev pub frames_of : Engine → List Frame
frames_of e = map frame_of e.processes.items

-- a frame where there is no process
abbrev pub no_frame : Frame
no_frame = record { entry = Start; slots = [] }

-- what process p does from where it is
abbrev pub outcome_at : Design → (statements p : ℕ) → List Frame → World → Outcome Frame
outcome_at design statements p frames w = by_nodes design statements p (slice_index_or frames p no_frame) (view_of p w)

-- the channels of these numbers are just those that the nodes of a process are shown something of, in ascending order
pub record AreShownTo (design : Design) (process : Proc) (shown : List ℕ) : Type 0 where
  pub ascending : AllPairs (λ a b. a < b) shown
  pub within : All (λ c. c < length design.channels) shown
  pub exact : (c : ℕ) → Contains shown c ↔ Contains (shown_to_nodes (length design.channels) design.events (nodes_of design process)) c

-- so they are of each of the first n processes
pub record AreShownChannels (design : Design) (n : ℕ) (lists : List (List ℕ)) : Type 0 where
  pub count : length lists ≡ n
  pub each : (p : ℕ) (process : Proc) → p < n → slice_get design.processes p ≡ Some process → AreShownTo design process (slice_index_or lists p [])

-- the lists of each channel's events have them
pub record AreChannelEvents (design : Design) (channel_events : List (List ℕ)) : Type 0 where
  pub count : length channel_events ≡ length design.channels
  pub within : (c : ℕ) → All (λ e. e < length design.events) (slice_index_or channel_events c [])
  pub all : (e : ℕ) (k : BoundEvent) → slice_get design.events e ≡ Some k → k ≢ event.Own → Contains (slice_index_or channel_events (channel_of k) []) e

-- ---- what the engine mirrors

-- a world of a design in which each process may go on
pub record Stands (design : Design) (w : World) (frames : List Frame) : Type 0 where
  pub frames_count : length frames ≡ length design.processes
  pub waits_count : length w.waits ≡ length design.processes
  pub ends : HasEnds design w
  pub entries : (p : ℕ) (process : Proc) (frame : Frame) → slice_get design.processes p ≡ Some process → slice_get frames p ≡ Some frame → FitsEntry design process frame.entry
  pub known : (p : ℕ) → All (λ e. e < length design.events) (wait_at w.waits p).events

-- the operations are on the design's channels and events
pub record AreOf (design : Design) (ops : Operations) : Type 0 where
  pub channels : ops.channels ≡ design.channels
  pub events : ops.events ≡ design.events

-- the output of activations, one after the other
abbrev pub outputs_of : List Made → List ℕ
outputs_of made = flat_map (λ m. m.deed.output) made

-- the engine shows what a world's activations printed, and how many they were
pub record Prints (e : Engine) (w : World) : Type 0 where
  pub output : outputs_of w.made ≡ e.output.items
  pub activations : length w.made ≡ e.activations
  pub last : last_stamp w.made ≡ e.last

-- within a cycle, the engine without its schedule is a world, of which these operations were made
pub record Mirrors (design : Design) (e : Engine) (ops : Operations) (w : World) : Type 0 where
  pub of : AreOf design ops
  pub agrees : Agrees ops w
  pub timely : IsTimely w
  pub below : ¬ IsBefore e.stamp ops.below
  pub bank : IsBankAfter e.bank ops
  pub stamp : w.stamp ≡ e.stamp
  pub countable : IsCountableStamp e.stamp
  pub variables : w.variables ≡ e.variables.items
  pub prints : Prints e w
  pub stopped : w.stopped ≡ e.stopped
  pub whole : w.broken ≡ None
  pub stands : Stands design w (frames_of e)
  pub shown_channels : AreShownChannels design (length design.processes) (lists_of e.shown_channels.items)
  pub channel_events : AreChannelEvents design (lists_of e.channel_events.items)
  pub lists : length e.schedule.waiters.items ≡ length design.events

-- the engine mirrors some world
pub record MayAct (design : Design) (e : Engine) (p : ℕ) : Type 0 where
  pub world : World
  pub ops : Operations
  pub mirrors : Mirrors design e ops world
  pub within : p < length design.processes

-- ---- steps of a turn

-- process p ran from where it was, emitted this, and its activation ended so
pub record Acts (design : Design) (statements p : ℕ) (old new : Engine) (emitted : Emitted) (halt : Halt) : Type 0 where
  pub rest : new ≡ record old { processes = new.processes; variables = new.variables; ports = new.ports }
  pub frame : Frame
  pub frames : frames_of new ≡ slice_set (frames_of old) p frame
  pub does : (w : World) (ops : Operations) → Mirrors design old ops w → outcome_at design statements p (frames_of old) w ≡ record { deed = record { output = emitted.output.items; variables = new.variables.items; effects = emitted.effects.items; end = job_end halt }; next = frame }

-- the bank's operations, after which these effects may be applied
pub record MayApply (e : Engine) (effects : List Effect) : Type 0 where
  pub ops : Operations
  pub bank : IsBankAfter e.bank ops
  pub names : All (Names ops) effects
  pub may : MayApplyAll ops e.stamp effects
  pub countable : IsCountableStamp e.stamp

-- these effects were applied
pub record Applied (effects : List Effect) (old new : Engine) : Type 0 where
  pub rest : new ≡ record old { bank = new.bank }
  pub after : (ops : Operations) → IsBankAfter old.bank ops → MayApplyAll ops old.stamp effects → IsBankAfter new.bank (after_effects old.stamp ops effects)

-- the effect names a channel or an event that has its lists
abbrev pub HasLists : Engine → Effect → Type 0
HasLists e (effect.Request c v) = c < length e.channel_events.items
HasLists e (effect.Put c v) = c < length e.channel_events.items
HasLists e (effect.Take c) = c < length e.channel_events.items
HasLists e (effect.Notify i k) = i < length e.schedule.waiters.items
HasLists e (effect.Cancel i) = i < length e.schedule.waiters.items
HasLists e effect.Stop = Unit {0}

-- who waits on what these effects touch may be asked
pub record MayRefresh (design : Design) (e : Engine) (effects : List Effect) : Type 0 where
  pub lists : All (HasLists e) effects
  pub channel_events : AreChannelEvents design (lists_of e.channel_events.items)
  pub count : length e.schedule.waiters.items ≡ length design.events
  pub knows : KnowsWaiters e.schedule
  pub may : MayAskAll e.bank e.schedule

-- who waits on an event that one of these effects affects was asked anew
pub record Refreshed (design : Design) (effects : List Effect) (old new : Engine) : Type 0 where
  pub rest : new ≡ record old { schedule = new.schedule }
  pub events : List ℕ
  pub touched : Touched events old.bank old.stamp old.schedule new.schedule
  pub all : (e : ℕ) (k : BoundEvent) → slice_get design.events e ≡ Some k → list_any (affects e k) effects ≡ true → Contains events e

-- the lists of channel c
abbrev pub events_of_channel : Engine → ℕ → List ℕ
events_of_channel e c = slice_index_or (lists_of e.channel_events.items) c []

-- who waits on an event of channel c may be asked
pub record MayTouch (e : Engine) (c : ℕ) : Type 0 where
  pub within : c < length e.channel_events.items
  pub events : All (λ i. i < length e.schedule.waiters.items) (events_of_channel e c)
  pub knows : KnowsWaiters e.schedule
  pub may : MayAskAll e.bank e.schedule

-- who waits on one was
pub record Touches (c : ℕ) (old new : Engine) : Type 0 where
  pub rest : new ≡ record old { schedule = new.schedule }
  pub touched : Touched (events_of_channel old c) old.bank old.stamp old.schedule new.schedule

-- an effect is a call of sc_stop
abbrev pub is_stop : Effect → Bool
is_stop effect.Stop = true
is_stop _ = false

-- an activation was noted
pub record Noted (output : List ℕ) (effects : List Effect) (old new : Engine) : Type 0 where
  pub rest : new ≡ record old { output = new.output; last = old.stamp; activations = new.activations; stopped = new.stopped }
  pub output_is : new.output.items ≡ old.output.items ++ output
  pub activations_is : new.activations ≡ old.activations + 1
  pub stopped_is : new.stopped ≡ (old.stopped || list_any is_stop effects)

-- what a process waits for after an activation
abbrev pub awaited_after : Stamp → JobEnd → Awaited
awaited_after now end = awaited_of (wait_after now end)

-- a process may end its activation so
pub record MayClose (design : Design) (e : Engine) (p : ℕ) (end : JobEnd) : Type 0 where
  pub within : p < length e.schedule.awaited.items
  pub knows : KnowsWaiters e.schedule
  pub asked : MayAsk e.bank (awaited_after e.stamp end).events (length e.schedule.waiters.items)
  pub countable : IsCountableStamp e.stamp
  pub fits : FitsEnd design end

-- a process waits after its activation
pub record Rests (p : ℕ) (end : JobEnd) (old new : Engine) : Type 0 where
  pub rest : new ≡ record old { schedule = new.schedule }
  pub waits : Waits p (awaited_after old.stamp end) old.bank old.stamp old.schedule new.schedule
  pub whole : broken_by (place_of old.stamp p) end ≡ None

-- its activation ended the run
pub record Stays (p : ℕ) (end : JobEnd) (e : End) (old new : Engine) : Type 0 where
  pub rest : new ≡ old
  pub broken : broken_by (place_of old.stamp p) end ≡ Some e

-- an activation of process p ended
abbrev pub Closed : (p : ℕ) → JobEnd → Option End → (old new : Engine) → Type 0
Closed p end None old new = Rests p end old new
Closed p end (Some e) old new = Stays p end e old new

-- ---- a turn

-- a world in which process p had its turn, which ended the run
pub record Breaks (design : Design) (e : Engine) (end : End) (w : World) : Type 0 where
  pub ops : Operations
  pub of : AreOf design ops
  pub agrees : Agrees ops w
  pub timely : IsTimely w
  pub bank : IsBankAfter e.bank ops
  pub stamp : w.stamp ≡ e.stamp
  pub prints : Prints e w
  pub broken : w.broken ≡ Some end

-- a world in which process p had its turn
pub record Turns (design : Design) (e : Engine) (w : World) : Type 0 where
  pub ops : Operations
  pub mirrors : Mirrors design e ops w
  pub planned : IsPlanned e.schedule w

abbrev pub TurnsTo : Design → Engine → Option End → World → Type 0
TurnsTo design e None w = Turns design e w
TurnsTo design e (Some end) w = Breaks design e end w

-- process p, which was taken off, had its turn
pub record Turned (design : Design) (statements p : ℕ) (o : Option End) (old new : Engine) (w : World) : Type 0 where
  pub comes : TurnsTo design new o (after_deed p w (outcome_at design statements p (frames_of old) w).deed)
  pub frames : frames_of new ≡ slice_set (frames_of old) p (outcome_at design statements p (frames_of old) w).next

-- the engine mirrors some world, of which process p was taken off
pub record MayTurn (design : Design) (e : Engine) (p : ℕ) : Type 0 where
  pub world : World
  pub ops : Operations
  pub mirrors : Mirrors design e ops world
  pub planned : IsPlannedBut p e.schedule world
  pub within : p < length design.processes
