-- A turn of the scheduler is one of the steps: the world and the places of the processes beside what the steps keep, and a log.
use Rattle.std.proofs.Common.{◌≡◌, ◌≢◌, ℕ, zero, suc, ◌<◌, ◌==◌, ◌⊎◌, inl, inr, ⊎_elim, List, [], ◌∷◌, ◌++◌, length, Bool, true, false, ◌||◌, if◌then◌else◌, Option, Some, None, refl, sym, ap, ◌∙◌, subst, arith}
use Rattle.std.specs.Prelude.{slice_get, slice_set}
use Rattle.std.specs.List.{AllByRecursion, list_any}
use Rattle.std.proofs.lemmas.Bool.{cases_eq, eq-eqb, ne_eqb}
use Rattle.std.proofs.lemmas.List.{get_or-set_same, get_or-set_other, length-set}
use Rattle.ooo_time.specs.declared.stamp.Stamp.{Stamp}
use Rattle.ooo_time.specs.declared.time.Time.{Time}
use Rattle.ooo_time.specs.Stamps.{IsBefore}
use Rattle.ooo_value.specs.declared.bound.BoundEvent.{BoundEvent}
use Rattle.ooo_value.specs.declared.bound.BoundEvent.TheVariants as event
use Rattle.ooo_code.specs.declared.activation.Effect.{Effect}
use Rattle.ooo_code.specs.declared.activation.Effect.TheVariants as effect
use Rattle.ooo_code.specs.declared.activation.Frame.{Frame}
use Rattle.ooo_code.specs.declared.activation.JobEnd.{JobEnd}
use Rattle.ooo_code.specs.declared.activation.JobEnd.TheVariants as end
use Rattle.ooo_code.specs.declared.design.Design.{Design}
use Rattle.ooo_code.specs.declared.design.Proc.{Proc}
use Rattle.ooo_code.specs.declared.segment.SegmentEntry.{SegmentEntry}
use Rattle.ooo_code.specs.Dependence.{AgreeOn, DidTheSame, TouchesOnly}
use Rattle.ooo_code.specs.Expressions.{cells_of}
use Rattle.ooo_code.specs.Nodes.{by_nodes}
use Rattle.ooo_code.specs.Outcomes.{Outcome, View}
use Rattle.ooo_code.specs.Segments.{Accesses, entries_of}
use Rattle.ooo_code.specs.Sound.{IsOwn, IsSound}
use Rattle.ooo_code.specs.Touches as touch
use Rattle.ooo_events.specs.Slots.{Nothing, due_of}
use Rattle.ooo_meaning.specs.World.{Made, Wait, World, apply_all, broken_by, channel_at, place_of, slot_at, view_of, wait_after, wait_at}
use Rattle.ooo_meaning.specs.Runs.{holder_of, holds_reading, holds_writing}
use Rattle.ooo_channels.specs.Agreement.{AreAlike, IsAhead}
use Rattle.ooo_channels.specs.Agreement.{history_at}
use Rattle.ooo_channels.specs.Cycles.{channel_in, cycle_of, history_in}
use Rattle.ooo_channels.specs.Calls.{channel_of}
use Rattle.ooo_schedules.specs.Design as steps
use Rattle.ooo_schedules.specs.Design.{model, only, sort}
use Rattle.ooo_schedules.specs.Model.{Act, Front, In, last}
use Rattle.ooo_schedules.specs.Program.{design, wait_by}
use Rattle.ooo_schedules.specs.Sequence.{Sched}
use Rattle.ooo_schedules.specs.Tables.{program}
use Rattle.ooo_schedules.specs.Worlds.{Waiting}
use Rattle.ooo_dispatch.specs.declared.reads.Reads as job
use Rattle.ooo_dispatch.specs.Boards.{AreRules}
use Rattle.ooo_dispatch.specs.Enough.{Descend}
use Rattle.ooo_dispatch.specs.Rules.{Rules, access_of, cells_after, deed_of, has, operations_of, origin_of, outcome_of, process_of, segment_at, slots_after, tables}
use Rattle.ooo_dispatch.specs.Reports.{broken_at_last, last_stamp}
use Rattle.ooo_dispatch.specs.Scheduler.{AreMadeAs}
use Rattle.ooo_dispatch.proofs.Histories.{AreHistories, kept_histories, moved_history}
use Rattle.ooo_schedules.specs.Delays.{NotAfter}
use Rattle.ooo_dispatch.proofs.Asked.{AskedAs}
use Rattle.ooo_dispatch.proofs.Viewed.{HeldBy, IsWorldOf}
use Rattle.ooo_time.specs.declared.stamp.Place.{Place}
use Rattle.ooo_time.specs.Stamps.{is_before}
use Rattle.ooo_code.specs.declared.segment.Segment.{Segment}
use Rattle.ooo_code.specs.Channels.{Channel}
use Rattle.ooo_history.specs.declared.run.End.{End}
use Rattle.ooo_history.specs.declared.run.End.TheVariants as history
use Rattle.ooo_events.specs.Slots.{slot_after_cancel, slot_after_notify}
use Rattle.ooo_meaning.specs.World as real
use Rattle.ooo_meaning.specs.World.{apply, timeout_of}
use Rattle.ooo_channels.specs.Cycles.{Cycle, acted, cycle_after, cycle_at, cycle_step, later_channel}
use Rattle.ooo_channels.specs.Operations.{is_on}
use Rattle.ooo_dispatch.proofs.Cores.{acted_alike}
use Rattle.ooo_schedules.specs.Cycles.{act_at}
use Rattle.ooo_schedules.specs.Going.{Takes}
use Rattle.ooo_schedules.specs.Model.{Model}
use Rattle.ooo_schedules.specs.Program.{Program, time_out}
use Rattle.ooo_schedules.specs.Worlds.{slot_after, slot_by, waiting_left}
use Rattle.std.proofs.lemmas.Option.{slice_get_within}
use Rattle.ooo_dispatch.specs.Enough.{ComeBefore, Shows}
use Rattle.ooo_dispatch.specs.Rules.{breaks_by, entry_of, is_stop, left_by, reads_at, view_at}
use Rattle.ooo_dispatch.proofs.Accessed.{Here, element, here_at, own_origin, some_is}
use Rattle.ooo_dispatch.proofs.Acting.{Does}
use Rattle.ooo_dispatch.proofs.Asked.{acted_all, acted_on}
use Rattle.ooo_dispatch.proofs.Calls.{access_is, has_of, has_yes}
use Rattle.ooo_dispatch.proofs.Cells.{seen_by}
use Rattle.ooo_dispatch.proofs.Due.{NamesOther, NamesThere, notify_due, slot_kept, slots_applied}
use Rattle.ooo_dispatch.proofs.Enough.{agree, reads_enough}
use Rattle.ooo_dispatch.proofs.Owning.{Owns, all_own}
use Rattle.ooo_dispatch.proofs.Segments.{IsSegmentAt, process_is, segment_is}
use Rattle.ooo_dispatch.proofs.Shown.{moved, step_off, step_on}
use Rattle.ooo_dispatch.proofs.Viewed.{shows_world_at}
use Rattle.std.specs.Prelude.{IsSome}
use Rattle.std.proofs.lemmas.List.Elements.{All-contains}
use Rattle.ooo_lemmas.proofs.Contained.{contains_at}
use Rattle.ooo_lemmas.proofs.Placed.{get_other}
use Rattle.ooo_value.specs.declared.bound.BoundChannel.{BoundChannel}
use Rattle.ooo_code.specs.declared.activation.WaitOn.{WaitOn}
use Rattle.ooo_code.specs.AsSaid.{DoesAsSaid, EndsAs, WaitsAs}
use Rattle.ooo_code.specs.Sound.{FitsEvent, fifo_kind, signal_kind}
use Rattle.ooo_meaning.specs.World.{after_deed, never}
use Rattle.ooo_dispatch.proofs.Ahead.{deed_timely}
use Rattle.ooo_schedules.specs.Program.{wait_left}
use Rattle.ooo_schedules.specs.Sequence.{after_act}
use Rattle.ooo_schedules.specs.Updates.{asked_by}
use Rattle.ooo_dispatch.specs.Scheduler.{more_made}
use Rattle.ooo_dispatch.proofs.Accessed.{origin_is}
use Rattle.ooo_dispatch.proofs.Asked.{asked_after, channel_applied, channels_count, is_own}
use Rattle.ooo_dispatch.proofs.Counted.{variables_left}
use Rattle.ooo_dispatch.proofs.Enough.{below}
use Rattle.ooo_dispatch.proofs.Following.{next_entry}
use Rattle.ooo_dispatch.proofs.Shown.{cycle_moved}
use Rattle.ooo_dispatch.proofs.Viewed.{all_held}
use Rattle.ooo_dispatch.proofs.Stamps.{irreflexive}

abbrev pub Activation : Type 0
Activation = Act Stamp job.Reads

-- what the steps keep of a wait
abbrev pub WaitsAlike : Option Waiting → Wait → Type 0
WaitsAlike None x = (x.events ≡ []) × (x.timeout ≡ Nothing)
WaitsAlike (Some y) x = (y.timeout ≡ due_of x.timeout) × (y.events ≡ x.events)

module _ (r : Rules) (rules : AreRules r) (sound : IsSound r.design) where
  -- where process q goes on, after these activations
  pub record IsPlacedAt (q : ℕ) (k : Frame) (xs : List Activation) : Type 0 where
    pub slots : k.slots ≡ slots_after r q (last q xs)
    pub segment : (x : steps.Wait Stamp) → wait_by (program (tables r)) q (last q xs) ≡ Some x → x.segment ≡ segment_at r q k.entry
    pub entry : (x : steps.Wait Stamp) (process : Proc) → wait_by (program (tables r)) q (last q xs) ≡ Some x → slice_get r.design.processes q ≡ Some process → In k.entry (entries_of r.design process)

  -- a world within an evaluation, beside what the steps keep and the log so far
  pub record Alike (w : World) (places : List Frame) (s : Sched) (xs : List Activation) : Type 0 where
    pub stamp : s.world.stamp ≡ w.stamp
    pub broken : w.broken ≡ None
    pub stopped : w.stopped ≡ list_any (program (tables r)).stops xs
    -- waits
    pub waits_count : length w.waits ≡ length r.design.processes
    pub runnable : (q : ℕ) → s.world.runnable q ≡ (wait_at w.waits q).runnable
    pub waits : (q : ℕ) → s.world.runnable q ≡ false → WaitsAlike (s.world.waits q) (wait_at w.waits q)
    pub timeouts : (q : ℕ) → IsAhead w.stamp (wait_at w.waits q).timeout
    -- events
    pub events : w.events ≡ r.design.events
    pub slots_count : length w.slots ≡ length r.design.events
    pub slots : (e : ℕ) → s.world.slots e ≡ due_of (slot_at w.slots e)
    pub quiet : (e : ℕ) → origin_of r e ≢ event.Own → slot_at w.slots e ≡ Nothing
    pub ahead : (e : ℕ) → IsAhead w.stamp (slot_at w.slots e)
    pub asked : (e : ℕ) (k : BoundEvent) → slice_get r.design.events e ≡ Some k → AskedAs k (channel_at w.channels (channel_of k)) (s.values e) (s.asked e)
    -- variables and channels
    pub world : IsWorldOf r rules sound w xs
    pub by : (c : ℕ) → IsBefore w.stamp (cycle_of (operations_of r xs) c).stamp → ⊥
    pub histories : AreHistories r w.histories (λ c. history_in w.stamp (operations_of r xs) c)
    -- places, and the log
    pub places_count : length places ≡ length r.design.processes
    pub placed : (q : ℕ) (k : Frame) → slice_get places q ≡ Some k → IsPlacedAt q k xs
    pub sorted : sort (design (program (tables r))) xs ≡ xs
    pub descend : Descend r xs
    pub past : (y : Activation) → In y xs → NotAfter y.stamp w.stamp
    pub made : AreMadeAs r w.made xs

  -- an activation ended the run: how, and what there is then
  pub record IsEnded (w : World) (xs : List Activation) : Type 0 where
    pub end : End
    pub broken : w.broken ≡ Some end
    pub ends : broken_at_last r xs ≡ Some end
    pub made : AreMadeAs r w.made xs
    pub histories : AreHistories r w.histories (λ c. history_in (last_stamp xs) (operations_of r xs) c)

-- ---- what effects leave of a world

kept_stamp : (w : World) (fs : List Effect) → (apply_all w fs).stamp ≡ w.stamp
kept_stamp w [] = refl
kept_stamp w (effect.Request c v ∷ fs) = kept_stamp (apply w (effect.Request c v)) fs
kept_stamp w (effect.Put c v ∷ fs) = kept_stamp (apply w (effect.Put c v)) fs
kept_stamp w (effect.Take c ∷ fs) = kept_stamp (apply w (effect.Take c)) fs
kept_stamp w (effect.Notify e k ∷ fs) = kept_stamp (apply w (effect.Notify e k)) fs
kept_stamp w (effect.Cancel e ∷ fs) = kept_stamp (apply w (effect.Cancel e)) fs
kept_stamp w (effect.Stop ∷ fs) = kept_stamp (apply w effect.Stop) fs

kept_events : (w : World) (fs : List Effect) → (apply_all w fs).events ≡ w.events
kept_events w [] = refl
kept_events w (effect.Request c v ∷ fs) = kept_events (apply w (effect.Request c v)) fs
kept_events w (effect.Put c v ∷ fs) = kept_events (apply w (effect.Put c v)) fs
kept_events w (effect.Take c ∷ fs) = kept_events (apply w (effect.Take c)) fs
kept_events w (effect.Notify e k ∷ fs) = kept_events (apply w (effect.Notify e k)) fs
kept_events w (effect.Cancel e ∷ fs) = kept_events (apply w (effect.Cancel e)) fs
kept_events w (effect.Stop ∷ fs) = kept_events (apply w effect.Stop) fs

kept_slots : (w : World) (fs : List Effect) → length (apply_all w fs).slots ≡ length w.slots
kept_slots w [] = refl
kept_slots w (effect.Request c v ∷ fs) = kept_slots (apply w (effect.Request c v)) fs
kept_slots w (effect.Put c v ∷ fs) = kept_slots (apply w (effect.Put c v)) fs
kept_slots w (effect.Take c ∷ fs) = kept_slots (apply w (effect.Take c)) fs
kept_slots w (effect.Notify e k ∷ fs) = kept_slots (apply w (effect.Notify e k)) fs ∙ length-set w.slots e (slot_after_notify (slot_at w.slots e) w.stamp k)
kept_slots w (effect.Cancel e ∷ fs) = kept_slots (apply w (effect.Cancel e)) fs ∙ length-set w.slots e (slot_after_cancel (slot_at w.slots e))
kept_slots w (effect.Stop ∷ fs) = kept_slots (apply w effect.Stop) fs

or_yes : (b : Bool) → (b || true) ≡ true
or_yes true = refl
or_yes false = refl

stop_called : (w : World) (fs : List Effect) → (apply_all w fs).stopped ≡ (list_any is_stop fs || w.stopped)
stop_called w [] = refl
stop_called w (effect.Request c v ∷ fs) = stop_called (apply w (effect.Request c v)) fs
stop_called w (effect.Put c v ∷ fs) = stop_called (apply w (effect.Put c v)) fs
stop_called w (effect.Take c ∷ fs) = stop_called (apply w (effect.Take c)) fs
stop_called w (effect.Notify e k ∷ fs) = stop_called (apply w (effect.Notify e k)) fs
stop_called w (effect.Cancel e ∷ fs) = stop_called (apply w (effect.Cancel e)) fs
stop_called w (effect.Stop ∷ fs) = stop_called (apply w effect.Stop) fs ∙ or_yes (list_any is_stop fs)

pub broken_is : (at : Place) (e : JobEnd) → breaks_by e ≡ false → broken_by at e ≡ None
broken_is at (end.Waits on) h = refl
broken_is at end.Ended h = refl
broken_is at (end.Faulted f line) h = absurd (let c : true ≡ false = h in cc)
broken_is at (end.Limit line) h = absurd (let c : true ≡ false = h in cc)

pub broken_some : (at : Place) (e : JobEnd) → breaks_by e ≡ true → (z : End) × (broken_by at e ≡ Some z)
broken_some at (end.Waits on) h = absurd (let c : false ≡ true = h in cc)
broken_some at end.Ended h = absurd (let c : false ≡ true = h in cc)
broken_some at (end.Faulted f line) h = (history.Fault f at line, refl)
broken_some at (end.Limit line) h = (history.Statements at line, refl)

sleeps : (s : Stamp) (e : JobEnd) → (wait_after s e).runnable ≡ false
sleeps s (end.Waits on) = refl
sleeps s end.Ended = refl
sleeps s (end.Faulted f line) = refl
sleeps s (end.Limit line) = refl

out_due : (s : Stamp) (t : Option Time) → time_out s t ≡ due_of (timeout_of s t)
out_due s None = refl
out_due s (Some k) = sym (notify_due s k Nothing tt)

left_alike : (r : Rules) (s : Stamp) (q : ℕ) (next : SegmentEntry) (e : JobEnd) → WaitsAlike (waiting_left s (left_by r q next e)) (wait_after s e)
left_alike r s q next (end.Waits on) = (out_due s on.time, refl)
left_alike r s q next end.Ended = (refl, refl)
left_alike r s q next (end.Faulted f line) = (refl, refl)
left_alike r s q next (end.Limit line) = (refl, refl)

-- ---- a channel of the log, moved by effects at its stamp

at_moved : (s : Stamp) (c : ℕ) (fs : List Effect) (x : Cycle) → (cycle_at s (moved s c fs x)).channel ≡ acted_all c fs (cycle_at s x).channel
at_moved s c [] x = refl
at_moved s c (f ∷ fs) x = at_moved s c fs (cycle_step c x (record { at = s; effect = f })) ∙ ap (acted_all c fs) (at (is_on c f) refl)
  where
    at : (b : Bool) → is_on c f ≡ b → (cycle_at s (cycle_step c x (record { at = s; effect = f }))).channel ≡ acted_on c (cycle_at s x).channel f
    at true on = step_on s c f x on ∙ sym (ap (λ b. if b then acted f (cycle_at s x).channel else (cycle_at s x).channel) on)
    at false off = ap (λ y. (cycle_at s y).channel) (step_off s c f x off) ∙ sym (ap (λ b. if b then acted f (cycle_at s x).channel else (cycle_at s x).channel) off)

by_now : (s : Stamp) (x : Cycle) → (IsBefore s x.stamp → ⊥) → IsBefore s (cycle_at s x).stamp → ⊥
by_now s x n = at (is_before x.stamp s)
  where
    at : (b : Bool) → IsBefore s (let y : Cycle = if b then record { stamp = s; channel = later_channel s x; history = x.history ++ real.entries_of x.stamp x.channel } else x in y.stamp) → ⊥
    at true lt = irreflexive s lt
    at false lt = n lt

moved_by : (s : Stamp) (c : ℕ) (fs : List Effect) (x : Cycle) → (IsBefore s x.stamp → ⊥) → IsBefore s (moved s c fs x).stamp → ⊥
moved_by s c [] x n = n
moved_by s c (f ∷ fs) x n = moved_by s c fs (cycle_step c x (record { at = s; effect = f })) (at (is_on c f))
  where
    at : (b : Bool) → IsBefore s (let y : Cycle = if b then cycle_after x (record { at = s; effect = f }) else x in y.stamp) → ⊥
    at true lt = by_now s x n lt
    at false lt = n lt

all_alike : (now : Time) (c : ℕ) (fs : List Effect) (x y : Channel) → AreAlike now x y → AreAlike now (acted_all c fs x) (acted_all c fs y)
all_alike now c [] x y h = h
all_alike now c (f ∷ fs) x y h = all_alike now c fs (acted_on c x f) (acted_on c y f) (at (is_on c f))
  where
    at : (b : Bool) → AreAlike now (if b then acted f x else x) (if b then acted f y else y)
    at true = acted_alike now x y h f
    at false = h

-- ---- the turn of a process

-- the laws of lowered code: an activation does the same on views that agree on what it touches, and changes nothing else
abbrev pub ReadsTouched : Type 0
ReadsTouched =
    (design : Design) (statements q : ℕ) (process : Proc) (frame : Frame) (v w : View) → slice_get design.processes q ≡ Some process → AgreeOn (Accesses design process frame.entry) v w →
    DidTheSame (Accesses design process frame.entry) (by_nodes design statements q frame v) (by_nodes design statements q frame w)

abbrev pub ChangesTouched : Type 0
ChangesTouched =
    (design : Design) (statements q : ℕ) (process : Proc) (frame : Frame) (v : View) → slice_get design.processes q ≡ Some process →
    TouchesOnly (Accesses design process frame.entry) v (by_nodes design statements q frame v)

each_with : {A : Type 0} (P Q : A → Type 0) → ((x : A) → P x → Q x) → (xs : List A) → AllByRecursion P xs → AllByRecursion Q xs
each_with P Q f [] h = tt
each_with P Q f (x ∷ xs) h = (f x h.0, each_with P Q f xs h.1)

own_there : (events : List BoundEvent) (e : ℕ) → IsOwn (slice_get events e) → e < length events
own_there events e h = at (slice_get events e) refl h
  where
    at : (o : Option BoundEvent) → slice_get events e ≡ o → IsOwn o → e < length events
    at (Some k) is h = slice_get_within events e k is
    at None is h = absurd h

-- whether a segment writes a variable
module _ (r : Rules) (rules : AreRules r) (sound : IsSound r.design) (p g : ℕ) (q : Proc) (segment : Segment) (is : slice_get r.segments g ≡ Some segment) (owner : segment.process ≡ p) (process : slice_get r.design.processes p ≡ Some q) where
  here : Here r rules sound g
  here = here_at r rules sound g segment is

  same : here.segment ≡ segment
  same = some_is here.segment segment (sym here.segment_is ∙ is)

  same_process : here.process ≡ q
  same_process = some_is here.process q (sym here.process_is ∙ ap (slice_get r.design.processes) (ap (λ x. x.process) same ∙ owner) ∙ process)

  written_touch : (y : ℕ) → has (access_of r g).written y ≡ true → Accesses r.design q segment.entry (touch.Writes y)
  written_touch y e =
      subst (λ x. Accesses r.design q x.entry (touch.Writes y)) same
      (subst (λ x. Accesses r.design x here.segment.entry (touch.Writes y)) same_process
      ((here.accesses.written y).0 (has_yes here.access.written y (subst (λ a. has a.written y ≡ true) (access_is r g here.access here.access_is) e))))

  written_has : (y : ℕ) → Accesses r.design q segment.entry (touch.Writes y) → has (access_of r g).written y ≡ true
  written_has y t =
      subst (λ a. has a.written y ≡ true) (sym (access_is r g here.access here.access_is))
      (has_of here.access.written y
      ((here.accesses.written y).1
      (subst (λ x. Accesses r.design x here.segment.entry (touch.Writes y)) (sym same_process) (subst (λ x. Accesses r.design q x.entry (touch.Writes y)) (sym same) t))))

-- a channel's event is of a channel that is there
pub event_below : (channels : List BoundChannel) (b : BoundEvent) → FitsEvent channels b → b ≢ event.Own → channel_of b < length channels
event_below channels event.Own h n = absurd (n refl)
event_below channels (event.Changed c) h n = below signal_kind channels c refl h
event_below channels (event.Rise c) h n = below signal_kind channels c refl (subst (λ k. IsSome k) (sym h) refl)
event_below channels (event.Fall c) h n = below signal_kind channels c refl (subst (λ k. IsSome k) (sym h) refl)
event_below channels (event.Written c) h n = below fifo_kind channels c refl h
event_below channels (event.Taken c) h n = below fifo_kind channels c refl h

-- where a segment goes on is an entry of its process
next_from : (r : Rules) (rules : AreRules r) (sound : IsSound r.design) (p g : ℕ) (q : Proc) (segment : Segment) → slice_get r.segments g ≡ Some segment → segment.process ≡ p → slice_get r.design.processes p ≡ Some q →
    (on : WaitOn) (next : SegmentEntry) → WaitsAs r.design q segment.entry on next → In next (entries_of r.design q)
next_from r rules sound p g q segment is owner process on next waits =
    subst (λ x. In next (entries_of r.design x)) (same_process r rules sound p g q segment is owner process)
    (next_entry r rules sound g (here r rules sound p g q segment is owner process) on next
    (subst (λ x. WaitsAs r.design (here r rules sound p g q segment is owner process).process x.entry on next) (sym (same r rules sound p g q segment is owner process))
    (subst (λ x. WaitsAs r.design x segment.entry on next) (sym (same_process r rules sound p g q segment is owner process)) waits)))

-- the segment that a wait is for
abbrev segment_or : ℕ → Option (steps.Wait Stamp) → ℕ
segment_or n None = n
segment_or n (Some y) = y.segment

get_set : {A : Type 0} (xs : List A) (i : ℕ) (x : A) → i < length xs → slice_get (slice_set xs i x) i ≡ Some x
get_set [] i x lt = absurd (omega (arith, lt))
get_set (y ∷ ys) zero x lt = refl
get_set (y ∷ ys) (suc i) x lt = get_set ys i x (omega (arith, lt))

module _ (r : Rules) (rules : AreRules r) (sound : IsSound r.design) (does : Does) (reads : ReadsTouched) (changes : ChangesTouched) where
  abbrev p : Program
  p = program (tables r)

  abbrev M : Model
  M = model (design p)

  module _ (w : World) (places : List Frame) (s : Sched) (xs : List Activation) (q : ℕ) (a : Alike r rules sound w places s xs) (tk : Takes p s xs q) (k : Frame) (k_is : slice_get places q ≡ Some k) where
    abbrev pub f : Front Stamp
    f = tk.front

    now : f.stamp ≡ w.stamp
    now = tk.stamp ∙ a.stamp

    abbrev pub x : Activation
    x = act_at M xs q f

    abbrev pub o : Outcome Frame
    o = by_nodes r.design r.limits.statements q k (view_of q w)

    q_there : q < length r.design.processes
    q_there = let lt = slice_get_within places q k k_is in let e = a.places_count in omega (arith, lt, e)

    pub process : Proc
    process = (element r.design.processes q q_there).0

    process_there : slice_get r.design.processes q ≡ Some process
    unfolding process
    process_there = (element r.design.processes q q_there).1

    placed : IsPlacedAt r rules sound q k xs
    placed = a.placed q k k_is

    segment : f.segment ≡ segment_at r q k.entry
    segment = tk.segment ∙ placed.segment tk.wait tk.waits

    at : IsSegmentAt r q k.entry
    at = segment_is r rules q process k.entry process_there (placed.entry tk.wait process tk.waits process_there)

    segment_there : slice_get r.segments f.segment ≡ Some at.segment
    segment_there = ap (slice_get r.segments) segment ∙ at.is

    owner : process_of r f.segment ≡ q
    owner = ap (process_of r) segment ∙ process_is r rules q k.entry at

    -- ---- it does what the scheduler's activation does

    before : ComeBefore q f.stamp xs
    before y i = tk.ahead y i

    shows_job : Shows r process k.entry xs (view_at f.stamp x.reads)
    shows_job =
        subst (λ e. Shows r process e xs (view_at f.stamp x.reads)) at.entry_is
        (subst (λ ys. Shows r process at.segment.entry xs (view_at f.stamp (reads_at r q f.segment f.stamp (last q xs) (only (seen_by r q f.segment f.stamp) ys)))) (sym a.sorted)
        (reads_enough r rules sound does q f.segment process at.segment f.stamp (last q xs) xs segment_there at.process process_there a.descend before))

    shows_real : Shows r process k.entry xs (view_of q w)
    shows_real = subst (λ e. Shows r process e xs (view_of q w)) at.entry_is (shows_world_at r rules sound q f.segment process at.segment w xs segment_there at.process process_there a.world)

    entry_is : entry_of r f.segment ≡ k.entry
    entry_is = ap (entry_of r) segment ∙ rw (entry_of, at.is) at.entry_is

    outcome : outcome_of r x ≡ by_nodes r.design r.limits.statements q k (view_at f.stamp x.reads)
    outcome =
        ap (λ n. by_nodes r.design r.limits.statements n (record { entry = entry_of r f.segment; slots = slots_after r q (last q xs) }) (view_at f.stamp x.reads)) owner
        ∙ ap (λ e. by_nodes r.design r.limits.statements q (record { entry = e; slots = slots_after r q (last q xs) }) (view_at f.stamp x.reads)) entry_is
        ∙ ap (λ vs. by_nodes r.design r.limits.statements q (record { entry = k.entry; slots = vs }) (view_at f.stamp x.reads)) (sym placed.slots)

    -- it sees of all that its segment touches what the job reads
    agrees : AgreeOn (Accesses r.design process k.entry) (view_of q w) (view_at f.stamp x.reads)
    agrees = agree r process k.entry xs (view_of q w) (view_at f.stamp x.reads) (sym now) shows_real shows_job

    pub did : DidTheSame (Accesses r.design process k.entry) o (outcome_of r x)
    did =
        subst (λ y. DidTheSame (Accesses r.design process k.entry) o y) (sym outcome)
        (reads r.design r.limits.statements q process k (view_of q w) (view_at f.stamp x.reads) process_there agrees)

    -- ---- effects

    abbrev fs : List Effect
    fs = o.deed.effects

    effects_are : fs ≡ (deed_of r x).effects
    effects_are = did.effects

    own : AllByRecursion (Owns r.design.events) fs
    own = subst (AllByRecursion (Owns r.design.events)) (sym effects_are) (all_own r rules sound does x)

    there : AllByRecursion (NamesThere (length w.slots)) fs
    there = each_with (Owns r.design.events) (NamesThere (length w.slots)) by fs own
      where
        count : (e : ℕ) → IsOwn (slice_get r.design.events e) → e < length w.slots
        count e i = let lt = own_there r.design.events e i in let c = a.slots_count in omega (arith, lt, c)

        by : (f : Effect) → Owns r.design.events f → NamesThere (length w.slots) f
        by (effect.Notify e d) i = count e i
        by (effect.Cancel e) i = count e i
        by (effect.Request c v) i = tt
        by (effect.Put c v) i = tt
        by (effect.Take c) i = tt
        by effect.Stop i = tt

    other : (e : ℕ) → origin_of r e ≢ event.Own → AllByRecursion (NamesOther e) fs
    other e n = each_with (Owns r.design.events) (NamesOther e) by fs own
      where
        apart : (d : ℕ) → IsOwn (slice_get r.design.events d) → d ≢ e
        apart d i = λ same. n (own_origin r rules sound e (subst (λ m. IsOwn (slice_get r.design.events m)) same i))

        by : (f : Effect) → Owns r.design.events f → NamesOther e f
        by (effect.Notify d t) i = apart d i
        by (effect.Cancel d) i = apart d i
        by (effect.Request c v) i = tt
        by (effect.Put c v) i = tt
        by (effect.Take c) i = tt
        by effect.Stop i = tt

    -- the slot of an event, as the steps have it
    slot_turned : (e : ℕ) → slot_by w.stamp e (origin_of r e) (s.world.slots e) (deed_of r x).effects ≡ due_of (slot_at (apply_all w fs).slots e)
    slot_turned e = ⊎_elim mine theirs (is_own (origin_of r e))
      where
        mine : origin_of r e ≡ event.Own → slot_by w.stamp e (origin_of r e) (s.world.slots e) (deed_of r x).effects ≡ due_of (slot_at (apply_all w fs).slots e)
        mine i =
            ap (λ b. slot_by w.stamp e b (s.world.slots e) (deed_of r x).effects) i
            ∙ ap (λ t. slot_after w.stamp e t (deed_of r x).effects) (a.slots e) ∙ ap (slot_after w.stamp e (due_of (slot_at w.slots e))) (sym effects_are)
            ∙ sym (slots_applied w fs there a.ahead e)

        not_own : (b : BoundEvent) (t : Option Stamp) (es : List Effect) → b ≢ event.Own → slot_by w.stamp e b t es ≡ t
        not_own event.Own t es n = absurd (n refl)
        not_own (event.Changed c) t es n = refl
        not_own (event.Rise c) t es n = refl
        not_own (event.Fall c) t es n = refl
        not_own (event.Written c) t es n = refl
        not_own (event.Taken c) t es n = refl

        theirs : origin_of r e ≢ event.Own → slot_by w.stamp e (origin_of r e) (s.world.slots e) (deed_of r x).effects ≡ due_of (slot_at (apply_all w fs).slots e)
        theirs n = not_own (origin_of r e) (s.world.slots e) (deed_of r x).effects n ∙ a.slots e ∙ sym (ap due_of (slot_kept w fs e (other e n)))

    -- ---- variables and channels

    variable : (y : ℕ) → cells_of o.deed.variables y ≡ cells_after r y (x ∷ xs)
    variable y = by (has (access_of r f.segment).written y) refl
      where
        by : (b : Bool) → has (access_of r f.segment).written y ≡ b → cells_of o.deed.variables y ≡ (if b then cells_of (outcome_of r x).deed.variables y else cells_after r y xs)
        by true e = did.variables.written y (subst (λ n. Accesses r.design process n (touch.Writes y)) at.entry_is (written_touch r rules sound q f.segment process at.segment segment_there at.process process_there y e))
        by false e =
            (changes r.design r.limits.statements q process k (view_of q w) process_there).variables y
            (λ t. let c : true ≡ false = sym (written_has r rules sound q f.segment process at.segment segment_there at.process process_there y (subst (λ n. Accesses r.design process n (touch.Writes y)) (sym at.entry_is) t)) ∙ e in cc)
            ∙ a.world.variables y

    -- the channels of the log and of the world
    channel_turned : (c : ℕ) → c < length r.design.channels → AreAlike w.stamp.time (channel_in w.stamp (operations_of r (x ∷ xs)) c) (channel_at (apply_all w fs).channels c)
    channel_turned c lt =
        subst (λ y. AreAlike w.stamp.time y (channel_at (apply_all w fs).channels c)) (sym log)
        (subst (λ y. AreAlike w.stamp.time (acted_all c fs (channel_in w.stamp (operations_of r xs) c)) y) (sym (channel_applied w fs c here))
        (all_alike w.stamp.time c fs (channel_in w.stamp (operations_of r xs) c) (channel_at w.channels c) (a.world.channels c lt)))
      where
        here : c < length w.channels
        here = let e = a.world.channels_count in omega (arith, lt, e)

        log : channel_in w.stamp (operations_of r (x ∷ xs)) c ≡ acted_all c fs (channel_in w.stamp (operations_of r xs) c)
        log =
            ap (λ y. (cycle_at w.stamp y).channel) (cycle_moved f.stamp (operations_of r xs) (deed_of r x).effects c ∙ ap (λ t. moved t c (deed_of r x).effects (cycle_of (operations_of r xs) c)) now)
            ∙ at_moved w.stamp c (deed_of r x).effects (cycle_of (operations_of r xs) c)
            ∙ ap (λ es. acted_all c es (channel_in w.stamp (operations_of r xs) c)) (sym effects_are)

    -- the cycle of a channel in the log, at the present stamp
    cycle_turned : (c : ℕ) → cycle_of (operations_of r (x ∷ xs)) c ≡ moved w.stamp c (deed_of r x).effects (cycle_of (operations_of r xs) c)
    cycle_turned c = cycle_moved f.stamp (operations_of r xs) (deed_of r x).effects c ∙ ap (λ t. moved t c (deed_of r x).effects (cycle_of (operations_of r xs) c)) now

    histories_turned : AreHistories r (apply_all w fs).histories (λ c. history_in w.stamp (operations_of r (x ∷ xs)) c)
    histories_turned = record {
      count = ap length (kept_histories w fs) ∙ a.histories.count;
      each = λ c lt.
          ap (λ hs. history_at hs c) (kept_histories w fs) ∙ a.histories.each c lt
          ∙ sym (ap (λ y. (cycle_at w.stamp y).history) (cycle_turned c) ∙ moved_history w.stamp c (deed_of r x).effects (cycle_of (operations_of r xs) c));
    }

    by_turned : (c : ℕ) → IsBefore w.stamp (cycle_of (operations_of r (x ∷ xs)) c).stamp → ⊥
    by_turned c =
        subst (λ y. IsBefore w.stamp y.stamp → ⊥) (sym (cycle_moved f.stamp (operations_of r xs) (deed_of r x).effects c ∙ ap (λ t. moved t c (deed_of r x).effects (cycle_of (operations_of r xs) c)) now))
        (moved_by w.stamp c (deed_of r x).effects (cycle_of (operations_of r xs) c) (a.by c))

    channel_below : (e : ℕ) (b : BoundEvent) → slice_get r.design.events e ≡ Some b → b ≢ event.Own → channel_of b < length r.design.channels
    channel_below e b is n = event_below r.design.channels b (All-contains (FitsEvent r.design.channels) r.design.events b sound.events (contains_at r.design.events e b is)) n

    asked_turned : (e : ℕ) (b : BoundEvent) → slice_get r.design.events e ≡ Some b → AskedAs b (channel_at (apply_all w fs).channels (channel_of b)) (s.values e) (asked_by (origin_of r e) (s.asked e) (deed_of r x).effects)
    asked_turned e b is = ⊎_elim mine theirs (is_own b)
      where
        mine : b ≡ event.Own → AskedAs b (channel_at (apply_all w fs).channels (channel_of b)) (s.values e) (asked_by (origin_of r e) (s.asked e) (deed_of r x).effects)
        mine i = subst (λ d. AskedAs d (channel_at (apply_all w fs).channels (channel_of b)) (s.values e) (asked_by (origin_of r e) (s.asked e) (deed_of r x).effects)) (sym i) tt

        theirs : b ≢ event.Own → AskedAs b (channel_at (apply_all w fs).channels (channel_of b)) (s.values e) (asked_by (origin_of r e) (s.asked e) (deed_of r x).effects)
        theirs n =
            let lt : channel_of b < length w.channels = (let l = channel_below e b is n in let c = a.world.channels_count in omega (arith, l, c)) in
            subst (λ y. AskedAs b y (s.values e) (asked_by (origin_of r e) (s.asked e) (deed_of r x).effects)) (sym (channel_applied w fs (channel_of b) lt))
            (subst (λ d. AskedAs b (acted_all (channel_of b) fs (channel_at w.channels (channel_of b))) (s.values e) (asked_by d (s.asked e) (deed_of r x).effects)) (sym (origin_is r rules sound e b is))
            (subst (λ es. AskedAs b (acted_all (channel_of b) fs (channel_at w.channels (channel_of b))) (s.values e) (asked_by b (s.asked e) es)) effects_are
            (asked_after b (channel_at w.channels (channel_of b)) (s.values e) (s.asked e) fs (a.asked e b is))))

    -- ---- waits and places

    left_is : WaitsAlike (waiting_left w.stamp (deed_of r x).left) (wait_after w.stamp o.deed.end)
    left_is = subst (λ e. WaitsAlike (waiting_left w.stamp (deed_of r x).left) (wait_after w.stamp e)) (sym did.end) (left_alike r w.stamp (process_of r f.segment) (outcome_of r x).next.entry (outcome_of r x).deed.end)

    wait_there : q < length w.waits
    wait_there = let lt = q_there in let e = a.waits_count in omega (arith, lt, e)

    wait_set : (n : ℕ) → (q ≡ n) ⊎ (q ≢ n) → wait_at (slice_set w.waits q (wait_after w.stamp o.deed.end)) n ≡ (if q == n then wait_after w.stamp o.deed.end else wait_at w.waits n)
    wait_set n (inl e) =
        subst (λ m. wait_at (slice_set w.waits q (wait_after w.stamp o.deed.end)) m ≡ (if q == m then wait_after w.stamp o.deed.end else wait_at w.waits m)) e
        (get_or-set_same w.waits q (wait_after w.stamp o.deed.end) never wait_there ∙ sym (ap (λ b. if b then wait_after w.stamp o.deed.end else wait_at w.waits q) (eq-eqb q q refl)))
    wait_set n (inr e) =
        get_or-set_other w.waits q n (wait_after w.stamp o.deed.end) never (λ i. e (sym i)) ∙ sym (ap (λ b. if b then wait_after w.stamp o.deed.end else wait_at w.waits n) (ne_eqb q n e))

    runnable_turned : (n : ℕ) → (if q == n then false else s.world.runnable n) ≡ (wait_at (slice_set w.waits q (wait_after w.stamp o.deed.end)) n).runnable
    runnable_turned n = by (q == n) ∙ sym (ap (λ y. y.runnable) (wait_set n (cases_eq q n)))
      where
        by : (b : Bool) → (if b then false else s.world.runnable n) ≡ (let y : Wait = if b then wait_after w.stamp o.deed.end else wait_at w.waits n in y.runnable)
        by true = sym (sleeps w.stamp o.deed.end)
        by false = a.runnable n

    waits_turned : (n : ℕ) → (if q == n then false else s.world.runnable n) ≡ false → WaitsAlike (if q == n then waiting_left s.world.stamp (deed_of r x).left else s.world.waits n) (wait_at (slice_set w.waits q (wait_after w.stamp o.deed.end)) n)
    waits_turned n off = subst (λ y. WaitsAlike (if q == n then waiting_left s.world.stamp (deed_of r x).left else s.world.waits n) y) (sym (wait_set n (cases_eq q n))) (by (q == n) off)
      where
        by : (b : Bool) → (if b then false else s.world.runnable n) ≡ false → WaitsAlike (if b then waiting_left s.world.stamp (deed_of r x).left else s.world.waits n) (if b then wait_after w.stamp o.deed.end else wait_at w.waits n)
        by true off = subst (λ t. WaitsAlike (waiting_left t (deed_of r x).left) (wait_after w.stamp o.deed.end)) (sym a.stamp) left_is
        by false off = a.waits n off

    last_self : last q (x ∷ xs) ≡ Some x
    last_self = ap (λ b. if b then Some x else last q xs) (eq-eqb q q refl)

    last_other : (n : ℕ) → q ≢ n → last n (x ∷ xs) ≡ last n xs
    last_other n e = ap (λ b. if b then Some x else last n xs) (ne_eqb q n e)

    -- where it goes on
    goes_on : (y : steps.Wait Stamp) → wait_left f.stamp (deed_of r x).left ≡ Some y → (y.segment ≡ segment_at r q o.next.entry) × ((proc : Proc) → slice_get r.design.processes q ≡ Some proc → In o.next.entry (entries_of r.design proc))
    goes_on y e = by (outcome_of r x).deed.end refl e
      where
        said : DoesAsSaid r.design process k.entry o
        said = does r.design r.limits.statements q process k (view_of q w) process_there

        by : (d : JobEnd) → (outcome_of r x).deed.end ≡ d → wait_left f.stamp (left_by r (process_of r f.segment) (outcome_of r x).next.entry d) ≡ Some y → (y.segment ≡ segment_at r q o.next.entry) × ((proc : Proc) → slice_get r.design.processes q ≡ Some proc → In o.next.entry (entries_of r.design proc))
        by (end.Waits on) i j =
            let same : segment_at r (process_of r f.segment) (outcome_of r x).next.entry ≡ y.segment = ap (segment_or (segment_at r (process_of r f.segment) (outcome_of r x).next.entry)) j in
            let waits : WaitsAs r.design process k.entry on o.next.entry = subst (λ d. EndsAs r.design process k.entry d o.next.entry) (did.end ∙ i) said.end in (
              sym same ∙ ap (λ n. segment_at r n (outcome_of r x).next.entry) owner ∙ ap (segment_at r q) (sym (ap (λ z. z.entry) did.next)),
              λ proc at_q. next_from r rules sound q f.segment proc at.segment segment_there at.process at_q on o.next.entry
                  (subst (λ z. WaitsAs r.design z at.segment.entry on o.next.entry) (some_is process proc (sym process_there ∙ at_q)) (subst (λ n. WaitsAs r.design process n on o.next.entry) (sym at.entry_is) waits)),
            )
        by end.Ended i j = absurd cc
        by (end.Faulted z line) i j = absurd cc
        by (end.Limit line) i j = absurd cc

    place_turned : (n : ℕ) (l : Frame) → slice_get (slice_set places q o.next) n ≡ Some l → IsPlacedAt r rules sound n l (x ∷ xs)
    place_turned n l is = ⊎_elim self others (cases_eq q n)
      where
        self : q ≡ n → IsPlacedAt r rules sound n l (x ∷ xs)
        self e = subst (λ m. IsPlacedAt r rules sound m l (x ∷ xs)) e (subst (λ z. IsPlacedAt r rules sound q z (x ∷ xs)) next here)
          where
            next : o.next ≡ l
            next = some_is o.next l (sym (get_set places q o.next (slice_get_within places q k k_is)) ∙ ap (slice_get (slice_set places q o.next)) e ∙ is)

            waits_here : (y : steps.Wait Stamp) → wait_by p q (last q (x ∷ xs)) ≡ Some y → wait_left f.stamp (deed_of r x).left ≡ Some y
            waits_here y i = ap (wait_by p q) (sym last_self) ∙ i

            here : IsPlacedAt r rules sound q o.next (x ∷ xs)
            here = record {
              slots = ap (λ z. z.slots) did.next ∙ ap (slots_after r q) (sym last_self);
              segment = λ y i. (goes_on y (waits_here y i)).0;
              entry = λ y proc i at_q. (goes_on y (waits_here y i)).1 proc at_q;
            }

        others : q ≢ n → IsPlacedAt r rules sound n l (x ∷ xs)
        others e =
            let old = a.placed n l (sym (get_other places n q o.next (λ i. e (sym i))) ∙ is) in
            record {
              slots = old.slots ∙ ap (slots_after r n) (sym (last_other n e));
              segment = λ y i. old.segment y (ap (wait_by p n) (sym (last_other n e)) ∙ i);
              entry = λ y proc i at_q. old.entry y proc (ap (wait_by p n) (sym (last_other n e)) ∙ i) at_q;
            }

    -- ---- the world after the turn

    abbrev pub w' : World
    w' = after_deed q w o.deed

    stamp_kept : w'.stamp ≡ w.stamp
    unfolding after_deed
    stamp_kept = kept_stamp w fs

    world_turned : IsWorldOf r rules sound w' (x ∷ xs)
    unfolding after_deed
    world_turned = record {
      variables_count = variables_left r.design r.limits.statements q k (view_of q w) ∙ a.world.variables_count;
      variables = variable;
      channels_count = channels_count w fs ∙ a.world.channels_count;
      channels = λ c lt. subst (λ t. AreAlike t.time (channel_in t (operations_of r (x ∷ xs)) c) (channel_at (apply_all w fs).channels c)) (sym (kept_stamp w fs)) (channel_turned c lt);
      held = λ c lt.
          subst (λ y. HeldBy y (holder_of r.design (holds_reading c)) (holder_of r.design (holds_writing c))) (sym (channel_applied w fs c (let e = a.world.channels_count in omega (arith, lt, e))))
          (all_held c fs (channel_at w.channels c) (holder_of r.design (holds_reading c)) (holder_of r.design (holds_writing c)) (a.world.held c lt));
    }

    reads_same : (proc : Proc) → slice_get r.design.processes q ≡ Some proc → AgreeOn (Accesses r.design proc (entry_of r f.segment)) (view_of q w) (view_at f.stamp x.reads)
    reads_same proc at_q =
        subst (λ n. AgreeOn (Accesses r.design proc n) (view_of q w) (view_at f.stamp x.reads)) (sym entry_is)
        (subst (λ z. AgreeOn (Accesses r.design z k.entry) (view_of q w) (view_at f.stamp x.reads)) (some_is process proc (sym process_there ∙ at_q)) agrees)

    made_turned : AreMadeAs r (w.made ++ record { place = place_of w.stamp q; view = view_of q w; deed = o.deed } ∷ []) (x ∷ xs)
    made_turned = more_made (record { place = place_of w.stamp q; view = view_of q w; deed = o.deed }) x a.made (record { stamp = sym now; process = refl; output = did.output; effects = did.effects; end = did.end; reads = reads_same }) refl

    descend_turned : Descend r (x ∷ xs)
    descend_turned = (sym owner, (λ z i. ⊎_elim (λ lt. inl lt) (λ e. inr e.0) (before z i)), a.descend)

    sorted_turned : sort (design p) (x ∷ xs) ≡ x ∷ xs
    sorted_turned = tk.sorted ∙ ap (λ ys. x ∷ ys) a.sorted

    past_turned : (y : Activation) → In y (x ∷ xs) → NotAfter y.stamp w.stamp
    past_turned y i = ⊎_elim (λ e. inr (ap (λ z. z.stamp) e ∙ now)) (λ j. a.past y j) i

    pub turned : p.breaks x ≡ false → Alike r rules sound w' (slice_set places q o.next) (after_act p s q x) (x ∷ xs)
    unfolding after_deed
    turned whole =
        let timely = deed_timely w q o.deed (record { slots = a.ahead; timeouts = a.timeouts }) in
        record {
          stamp = a.stamp ∙ sym (kept_stamp w fs);
          broken = broken_is (place_of w.stamp q) o.deed.end (ap breaks_by did.end ∙ whole);
          stopped = stop_called w fs ∙ ap (λ es. list_any is_stop es || w.stopped) effects_are ∙ ap (λ b. list_any is_stop (deed_of r x).effects || b) a.stopped;
          waits_count = length-set w.waits q (wait_after w.stamp o.deed.end) ∙ a.waits_count;
          runnable = runnable_turned;
          waits = waits_turned;
          timeouts = timely.timeouts;
          events = kept_events w fs ∙ a.events;
          slots_count = kept_slots w fs ∙ a.slots_count;
          slots = λ e. ap (λ t. slot_by t e (origin_of r e) (s.world.slots e) (deed_of r x).effects) a.stamp ∙ slot_turned e;
          quiet = λ e n. slot_kept w fs e (other e n) ∙ a.quiet e n;
          ahead = timely.slots;
          asked = asked_turned;
          world = world_turned;
          by = λ c lt. by_turned c (subst (λ t. IsBefore t (cycle_of (operations_of r (x ∷ xs)) c).stamp) (kept_stamp w fs) lt);
          histories = subst (λ t. AreHistories r (apply_all w fs).histories (λ c. history_in t (operations_of r (x ∷ xs)) c)) (sym (kept_stamp w fs)) histories_turned;
          places_count = length-set places q o.next ∙ a.places_count;
          placed = place_turned;
          sorted = sorted_turned;
          descend = descend_turned;
          past = λ y i. subst (NotAfter y.stamp) (sym (kept_stamp w fs)) (past_turned y i);
          made = made_turned;
        }

    -- one that ends the run
    pub broken_turned : p.breaks x ≡ true → IsEnded r rules sound w' (x ∷ xs)
    unfolding after_deed
    broken_turned breaks =
        let b = broken_some (place_of w.stamp q) o.deed.end (ap breaks_by did.end ∙ breaks) in
        record {
          end = b.0;
          broken = b.1;
          ends = ap (λ t. broken_by (place_of t q) (outcome_of r x).deed.end) now ∙ ap (broken_by (place_of w.stamp q)) (sym did.end) ∙ b.1;
          made = made_turned;
          histories = subst (λ t. AreHistories r (apply_all w fs).histories (λ c. history_in t (operations_of r (x ∷ xs)) c)) (sym now) histories_turned;
        }

-- the channel of a channel's event is there
pub channel_there : (r : Rules) (rules : AreRules r) (sound : IsSound r.design) (w : World) (places : List Frame) (s : Sched) (xs : List Activation) → Alike r rules sound w places s xs → (e : ℕ) (b : BoundEvent) → slice_get r.design.events e ≡ Some b → b ≢ event.Own → channel_of b < length w.channels
channel_there r rules sound w places s xs a e b is n =
    let lt = event_below r.design.channels b (All-contains (FitsEvent r.design.channels) r.design.events b sound.events (contains_at r.design.events e b is)) n in
    let c = a.world.channels_count in
    omega (arith, lt, c)
