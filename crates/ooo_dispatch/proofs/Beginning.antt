-- As a simulation starts, the scheduler's world is that of the steps; so its whole run makes them.
use Rattle.std.proofs.Common.{◌≡◌, ℕ, zero, suc, ◌<◌, ◌+◌, ◌==◌, inl, inr, ⊎_elim, List, [], ◌∷◌, length, map, replicate, Bool, true, false, not, if◌then◌else◌, Option, Some, None, refl, sym, ap, ◌∙◌, subst, arith}
use Rattle.std.specs.Prelude.{IsSome, pos, slice_get}
use Rattle.std.specs.List.{list_any}
use Rattle.std.proofs.lemmas.Bool.{eqb-true}
use Rattle.std.proofs.lemmas.List.{length-map}
use Rattle.std.proofs.lemmas.Option.{get_or_from_slice_get}
use Rattle.std.proofs.lemmas.List.Elements.{All-contains}
use Rattle.ooo_lemmas.proofs.Contained.{contains_at}
use Rattle.ooo_time.specs.declared.stamp.Stamp.{Stamp}
use Rattle.ooo_time.specs.declared.time.Time.{Time}
use Rattle.ooo_time.specs.Stamps.{IsBefore}
use Rattle.ooo_value.specs.declared.bound.BoundChannel.{BoundChannel}
use Rattle.ooo_value.specs.declared.bound.BoundEvent.{BoundEvent}
use Rattle.ooo_value.specs.declared.bound.BoundEvent.TheVariants as event
use Rattle.ooo_value.specs.declared.bound.BoundVariable.{BoundVariable}
use Rattle.ooo_value.specs.declared.bound.ChannelKind.{ChannelKind}
use Rattle.ooo_value.specs.declared.bound.ChannelKind.TheVariants as channel
use Rattle.ooo_value.specs.declared.values.Value.{Value}
use Rattle.ooo_value.specs.Values.{value_of}
use Rattle.ooo_code.specs.declared.activation.Frame.{Frame}
use Rattle.ooo_code.specs.declared.design.Design.{Design}
use Rattle.ooo_code.specs.declared.design.Proc.{Proc}
use Rattle.ooo_code.specs.declared.segment.SegmentEntry.TheVariants.{Start}
use Rattle.ooo_code.specs.Channels.{Channel, IsFifo, IsSignal, first_channel}
use Rattle.ooo_code.specs.Expressions.{cells_of, no_value}
use Rattle.ooo_code.specs.Nodes.{by_nodes, first_frame}
use Rattle.ooo_code.specs.Sound.{FitsEvent, IsSound, fifo_kind, signal_kind}
use Rattle.ooo_events.specs.Slots.{Nothing, due_of}
use Rattle.ooo_history.specs.declared.run.End.TheVariants as history
use Rattle.ooo_history.specs.declared.run.Entry.{Entry}
use Rattle.ooo_history.specs.declared.run.What.TheVariants.{Changed}
use Rattle.ooo_meaning.specs.Runs.{ascending, first_channels, first_wait, holder_of, holds_reading, holds_writing, start_of}
use Rattle.ooo_meaning.specs.Sequence.{Result, finish, result_of, run, run_whole}
use Rattle.ooo_meaning.specs.World as real
use Rattle.ooo_meaning.specs.World.{Wait, World, channel_at, never, no_channel, slot_at, wait_at, zero_stamp}
use Rattle.ooo_channels.specs.Agreement.{AreAlike, IsAhead, history_at}
use Rattle.ooo_channels.specs.Calls.{channel_of}
use Rattle.ooo_channels.specs.Cycles.{channel_in, cycle_at, cycle_of, first_cycle, history_in, whole_history}
use Rattle.ooo_schedules.specs.Design as steps
use Rattle.ooo_schedules.specs.Going.{ComesToEnd, Going, GoesOn, NoneDue}
use Rattle.ooo_schedules.specs.Model.{In}
use Rattle.ooo_schedules.specs.Program.{Program}
use Rattle.ooo_schedules.specs.Sequence.{Evaluates, RunsTo, Sched, begin, ends, late, no_more, skips, slot_updated, starts_now, update}
use Rattle.ooo_schedules.specs.Tables.{program}
use Rattle.ooo_schedules.specs.Updates.{note, noted_by}
use Rattle.ooo_schedules.specs.Worlds.{same_wait}
use Rattle.ooo_dispatch.specs.Boards.{AreRules}
use Rattle.ooo_dispatch.specs.Rules as rule
use Rattle.ooo_dispatch.specs.Rules.{Rules, cells_after, first_value, operations_of, origin_of, segment_at, start_value, start_wait, tables}
use Rattle.ooo_dispatch.specs.Scheduler.{none_made}
use Rattle.ooo_dispatch.proofs.Accessed.{element, origin_is}
use Rattle.ooo_dispatch.proofs.Acting.{Does}
use Rattle.ooo_dispatch.proofs.Asked.{AskedAs, PutAsked, SignalAsked, TakeAsked}
use Rattle.ooo_dispatch.proofs.Distinct.{get_mapped}
use Rattle.ooo_dispatch.proofs.Cores.{same_self}
use Rattle.ooo_dispatch.proofs.Ending.{active_source}
use Rattle.ooo_dispatch.proofs.Ends.{by_idle}
use Rattle.ooo_dispatch.proofs.Histories.{AreHistories}
use Rattle.ooo_dispatch.proofs.Running.{Went, no_wait, run_goes}
use Rattle.ooo_dispatch.proofs.Shown.{started}
use Rattle.ooo_dispatch.proofs.Starts.{first_segment, starts_as}
use Rattle.ooo_dispatch.proofs.Turning.{Activation, Alike, ChangesTouched, IsPlacedAt, ReadsTouched, WaitsAlike}
use Rattle.ooo_dispatch.proofs.Viewed.{HeldBy}
use Rattle.ooo_dispatch.proofs.Stamps.{irreflexive}

-- ---- lists as they start

nothing_there : (n e : ℕ) → slot_at (replicate n Nothing) e ≡ Nothing
nothing_there zero e = refl
nothing_there (suc n) zero = refl
nothing_there (suc n) (suc e) = nothing_there n e

nothing_count : (n : ℕ) → length (replicate n Nothing) ≡ n
nothing_count zero = refl
nothing_count (suc n) = ap suc (nothing_count n)

abbrev no_entries : List Entry
no_entries = []

empty_count : (n : ℕ) → length (replicate n no_entries) ≡ n
empty_count zero = refl
empty_count (suc n) = ap suc (empty_count n)

empty_there : (n c : ℕ) → history_at (replicate n no_entries) c ≡ []
empty_there zero c = refl
empty_there (suc n) zero = refl
empty_there (suc n) (suc c) = empty_there n c

channels_first : (design : Design) (n : ℕ) (xs : List BoundChannel) → length (first_channels design n xs) ≡ length xs
channels_first design n [] = refl
channels_first design n (x ∷ xs) = ap suc (channels_first design (n + 1) xs)

channel_first : (design : Design) (n i c : ℕ) (xs : List BoundChannel) (b : BoundChannel) → slice_get xs i ≡ Some b → c ≡ n + i →
    channel_at (first_channels design n xs) i ≡ first_channel b (holder_of design (holds_reading c)) (holder_of design (holds_writing c))
channel_first design n i c [] b is e = absurd cc
channel_first design n zero c (x ∷ xs) b is e =
    let same : x ≡ b = cc in
    let number : n ≡ c = omega (arith, e) in
    ap (λ m. first_channel x (holder_of design (holds_reading m)) (holder_of design (holds_writing m))) number
    ∙ ap (λ y. first_channel y (holder_of design (holds_reading c)) (holder_of design (holds_writing c))) same
channel_first design n (suc i) c (x ∷ xs) b is e = channel_first design (n + 1) i c xs b is (omega (arith, e))

-- the channel as it starts, by its kind
abbrev of_kind : ChannelKind → BoundChannel → (reader writer : Option ℕ) → Channel
of_kind k b reader writer = elim k [
  | channel.Signal ↦ IsSignal (record { current = value_of b.value (pos 0); requested = None; changed = None })
  | channel.Fifo ↦ IsFifo (record { size = b.size; held = []; read = 0; written = []; reader = reader; writer = writer })
]

first_alike : (k : ChannelKind) (b : BoundChannel) (now : Time) (reader writer : Option ℕ) → AreAlike now (of_kind k b None None) (of_kind k b reader writer)
first_alike channel.Signal b now reader writer = record { core = refl; changed = refl }
first_alike channel.Fifo b now reader writer = record { core = refl; changed = refl }

first_held : (k : ChannelKind) (b : BoundChannel) (reader writer : Option ℕ) → HeldBy (of_kind k b reader writer) reader writer
first_held channel.Signal b reader writer = tt
first_held channel.Fifo b reader writer = (refl, refl)

signal_first : (k : ChannelKind) (b : BoundChannel) (reader writer : Option ℕ) → IsSome (elim k [ channel.Signal ↦ Some b.value | channel.Fifo ↦ None ]) → SignalAsked (of_kind k b reader writer) (value_of b.value (pos 0)) None
signal_first channel.Signal b reader writer h = (refl, refl)
signal_first channel.Fifo b reader writer h = absurd (let c : false ≡ true = h in cc)

put_first : (k : ChannelKind) (b : BoundChannel) (reader writer : Option ℕ) → IsSome (elim k [ channel.Signal ↦ None | channel.Fifo ↦ Some b.value ]) → PutAsked (of_kind k b reader writer) None
put_first channel.Fifo b reader writer h = refl
put_first channel.Signal b reader writer h = absurd (let c : false ≡ true = h in cc)

take_first : (k : ChannelKind) (b : BoundChannel) (reader writer : Option ℕ) → IsSome (elim k [ channel.Signal ↦ None | channel.Fifo ↦ Some b.value ]) → TakeAsked (of_kind k b reader writer) None
take_first channel.Fifo b reader writer h = refl
take_first channel.Signal b reader writer h = absurd (let c : false ≡ true = h in cc)

wait_mapped : (f : Proc → Wait) (xs : List Proc) (q : ℕ) (x : Proc) → slice_get xs q ≡ Some x → wait_at (map f xs) q ≡ f x
wait_mapped f xs q x e = get_or_from_slice_get (map f xs) q (f x) never (get_mapped f xs q x e)

wait_past : (f : Proc → Wait) (xs : List Proc) (q : ℕ) → slice_get xs q ≡ None → wait_at (map f xs) q ≡ never
wait_past f [] q e = refl
wait_past f (x ∷ xs) zero e = absurd cc
wait_past f (x ∷ xs) (suc q) e = wait_past f xs q e

-- what a place list has comes from a process
frame_source : (xs : List Proc) (q : ℕ) (k : Frame) → slice_get (map first_frame xs) q ≡ Some k → (x : Proc) × (slice_get xs q ≡ Some x) × (first_frame x ≡ k)
frame_source [] q k e = absurd cc
frame_source (x ∷ xs) zero k e = (x, refl, (let s : first_frame x ≡ k = cc in s))
frame_source (x ∷ xs) (suc q) k e = frame_source xs q k e

cells_first : (vs : List BoundVariable) (x : ℕ) → cells_of (map (λ v. replicate v.length v.start) vs) x ≡ (elim (slice_get vs x) [ None ↦ [] | Some v ↦ replicate v.length v.start ])
cells_first [] x = refl
cells_first (v ∷ vs) zero = refl
cells_first (v ∷ vs) (suc x) = cells_first vs x

module _ (r : Rules) (rules : AreRules r) (sound : IsSound r.design) where
  abbrev p : Program
  p = program (tables r)

  abbrev w : World
  w = (start_of r.design).world

  abbrev places : List Frame
  places = (start_of r.design).places

  abbrev waiting : Proc → Wait
  waiting x = first_wait x.initialize x.sensitive

  -- ---- waits

  -- how a process starts, in both
  record StartsAlike (q : ℕ) : Type 0 where
    runnable : starts_now (rule.start_of r q) ≡ (wait_at w.waits q).runnable
    waits : starts_now (rule.start_of r q) ≡ false → WaitsAlike (same_wait (rule.start_of r q)) (wait_at w.waits q)
    timeout : (wait_at w.waits q).timeout ≡ Nothing

  starts_alike : (q : ℕ) → StartsAlike q
  starts_alike q = at (slice_get r.design.processes q) refl
    where
      one : (x : Proc) (b : Bool) (o : Option (steps.Wait Stamp)) (y : Wait) → rule.start_of r q ≡ o → wait_at w.waits q ≡ y → o ≡ Some (if b then record { segment = segment_at r q Start; timeout = Some zero_stamp; events = []; since = None } else record { segment = segment_at r q Start; timeout = None; events = x.sensitive; since = None }) → y ≡ first_wait b x.sensitive → StartsAlike q
      one x true o y s t e f = record {
        runnable = ap starts_now (s ∙ e) ∙ sym (ap (λ z. z.runnable) (t ∙ f));
        waits = λ off. let c : true ≡ false = sym (ap starts_now (s ∙ e)) ∙ off in cc;
        timeout = ap (λ z. z.timeout) (t ∙ f);
      }
      one x false o y s t e f = record {
        runnable = ap starts_now (s ∙ e) ∙ sym (ap (λ z. z.runnable) (t ∙ f));
        waits = λ off. subst (λ z. WaitsAlike (same_wait z) (wait_at w.waits q)) (sym (s ∙ e)) (subst (λ z. WaitsAlike (Some (record { timeout = None; events = x.sensitive })) z) (sym (t ∙ f)) (refl, refl));
        timeout = ap (λ z. z.timeout) (t ∙ f);
      }

      at : (o : Option Proc) → slice_get r.design.processes q ≡ o → StartsAlike q
      at None e =
          let s : rule.start_of r q ≡ None = ap (λ o. elim o [ None ↦ None | Some x ↦ Some (start_wait (segment_at r q Start) x) ]) e in
          let t : wait_at w.waits q ≡ never = wait_past waiting r.design.processes q e in
          record {
            runnable = ap starts_now s ∙ sym (ap (λ z. z.runnable) t);
            waits = λ off. subst (λ z. WaitsAlike (same_wait z) (wait_at w.waits q)) (sym s) (subst (λ z. WaitsAlike None z) (sym t) (refl, refl));
            timeout = ap (λ z. z.timeout) t;
          }
      at (Some x) e =
          let s : rule.start_of r q ≡ Some (start_wait (segment_at r q Start) x) = ap (λ o. elim o [ None ↦ None | Some x ↦ Some (start_wait (segment_at r q Start) x) ]) e in
          one x x.initialize (Some (start_wait (segment_at r q Start) x)) (waiting x) s (wait_mapped waiting r.design.processes q x e) refl refl

  -- ---- channels

  channel_start : (c : ℕ) (b : BoundChannel) → slice_get r.design.channels c ≡ Some b → channel_at w.channels c ≡ of_kind b.kind b (holder_of r.design (holds_reading c)) (holder_of r.design (holds_writing c))
  channel_start c b is = channel_first r.design 0 c c r.design.channels b is (omega arith)

  cycle_start : (c : ℕ) → cycle_of (operations_of r []) c ≡ first_cycle (slice_get r.design.channels c)
  cycle_start c = started r.design.channels r.design.events c

  alike_start : (c : ℕ) → c < length r.design.channels → AreAlike zero_stamp.time (channel_in zero_stamp (operations_of r []) c) (channel_at w.channels c)
  alike_start c lt =
      subst (λ y. AreAlike zero_stamp.time (channel_in zero_stamp (operations_of r []) c) y) (sym (channel_start c b.0 b.1))
      (subst (λ y. AreAlike zero_stamp.time y (of_kind b.0.kind b.0 (holder_of r.design (holds_reading c)) (holder_of r.design (holds_writing c)))) (sym (ap (λ z. (cycle_at zero_stamp z).channel) (cycle_start c ∙ ap first_cycle b.1)))
      (first_alike b.0.kind b.0 zero_stamp.time (holder_of r.design (holds_reading c)) (holder_of r.design (holds_writing c))))
    where
      b : (x : BoundChannel) × (slice_get r.design.channels c ≡ Some x)
      b = element r.design.channels c lt

  histories_start : (of : ℕ → List Entry) → ((c : ℕ) → of c ≡ []) → AreHistories r w.histories of
  histories_start of none = record {
    count = empty_count (length w.channels) ∙ channels_first r.design 0 r.design.channels;
    each = λ c lt. empty_there (length w.channels) c ∙ sym (none c);
  }

  history_start : (c : ℕ) → history_in zero_stamp (operations_of r []) c ≡ []
  history_start c = ap (λ z. (cycle_at zero_stamp z).history) (cycle_start c) ∙ at (slice_get r.design.channels c)
    where
      at : (o : Option BoundChannel) → (cycle_at zero_stamp (first_cycle o)).history ≡ []
      at None = refl
      at (Some b) = refl

  -- and the whole of each is empty
  whole_start : (c : ℕ) → whole_history (cycle_of (operations_of r []) c) ≡ []
  whole_start c = ap whole_history (cycle_start c) ∙ at (slice_get r.design.channels c)
    where
      kind : (k : ChannelKind) (b : BoundChannel) → real.entries_of zero_stamp (of_kind k b None None) ≡ []
      kind channel.Signal b = ap (λ t. if not t then record { stamp = zero_stamp; what = Changed; value = value_of b.value (pos 0) } ∷ [] else []) (same_self (value_of b.value (pos 0)))
      kind channel.Fifo b = refl

      at : (o : Option BoundChannel) → whole_history (first_cycle o) ≡ []
      at None = ap (λ t. if not t then record { stamp = zero_stamp; what = Changed; value = no_value } ∷ [] else []) (same_self no_value)
      at (Some b) = kind b.kind b

  by_start : (c : ℕ) → IsBefore zero_stamp (cycle_of (operations_of r []) c).stamp → ⊥
  by_start c = subst (λ z. IsBefore zero_stamp z.stamp → ⊥) (sym (cycle_start c)) (at (slice_get r.design.channels c))
    where
      at : (o : Option BoundChannel) → IsBefore zero_stamp (first_cycle o).stamp → ⊥
      at None = irreflexive zero_stamp
      at (Some b) = irreflexive zero_stamp

  asked_start : (e : ℕ) (k : BoundEvent) → slice_get r.design.events e ≡ Some k → AskedAs k (channel_at w.channels (channel_of k)) (first_value r.design.channels (origin_of r e)) None
  asked_start e k is =
      subst (λ o. AskedAs k (channel_at w.channels (channel_of k)) (first_value r.design.channels o) None) (sym (origin_is r rules sound e k is))
      (at k (All-contains (FitsEvent r.design.channels) r.design.events k sound.events (contains_at r.design.events e k is)))
    where
      signal : (c : ℕ) → IsSome (signal_kind (slice_get r.design.channels c)) → SignalAsked (channel_at w.channels c) (start_value r.design.channels c) None
      signal c h = by (slice_get r.design.channels c) refl h
        where
          by : (o : Option BoundChannel) → slice_get r.design.channels c ≡ o → IsSome (signal_kind o) → SignalAsked (channel_at w.channels c) (start_value r.design.channels c) None
          by None i h = absurd (let c : false ≡ true = h in cc)
          by (Some b) i h =
              subst (λ y. SignalAsked y (start_value r.design.channels c) None) (sym (channel_start c b i))
              (subst (λ v. SignalAsked (of_kind b.kind b (holder_of r.design (holds_reading c)) (holder_of r.design (holds_writing c))) v None) (sym (ap (λ o. elim o [ None ↦ no_value | Some x ↦ value_of x.value (pos 0) ]) i))
              (signal_first b.kind b (holder_of r.design (holds_reading c)) (holder_of r.design (holds_writing c)) h))

      fifo : (c : ℕ) → IsSome (fifo_kind (slice_get r.design.channels c)) → PutAsked (channel_at w.channels c) None × TakeAsked (channel_at w.channels c) None
      fifo c h = by (slice_get r.design.channels c) refl h
        where
          by : (o : Option BoundChannel) → slice_get r.design.channels c ≡ o → IsSome (fifo_kind o) → PutAsked (channel_at w.channels c) None × TakeAsked (channel_at w.channels c) None
          by None i h = absurd (let c : false ≡ true = h in cc)
          by (Some b) i h =
              subst (λ y. PutAsked y None × TakeAsked y None) (sym (channel_start c b i))
              (put_first b.kind b (holder_of r.design (holds_reading c)) (holder_of r.design (holds_writing c)) h, take_first b.kind b (holder_of r.design (holds_reading c)) (holder_of r.design (holds_writing c)) h)

      at : (k : BoundEvent) → FitsEvent r.design.channels k → AskedAs k (channel_at w.channels (channel_of k)) (first_value r.design.channels k) None
      at event.Own h = tt
      at (event.Changed c) h = signal c h
      at (event.Rise c) h = signal c (subst (λ k. IsSome k) (sym h) refl)
      at (event.Fall c) h = signal c (subst (λ k. IsSome k) (sym h) refl)
      at (event.Written c) h = (fifo c h).0
      at (event.Taken c) h = (fifo c h).1

  -- ---- places

  place_start : (q : ℕ) (k : Frame) → slice_get places q ≡ Some k → IsPlacedAt r rules sound q k []
  place_start q k is = subst (λ f. IsPlacedAt r rules sound q f []) s.2 (record { slots = slots; segment = segment; entry = λ x process e i. inl refl })
    where
      s : (x : Proc) × (slice_get r.design.processes q ≡ Some x) × (first_frame x ≡ k)
      s = frame_source r.design.processes q k is

      slots : (first_frame s.0).slots ≡ rule.slots_after r q None
      slots = sym (ap (λ o. elim o [ None ↦ [] | Some x ↦ (first_frame x).slots ]) s.1)

      segment : (x : steps.Wait Stamp) → rule.start_of r q ≡ Some x → x.segment ≡ segment_at r q Start
      segment x e = let t = starts_as r rules q x e in sym (ap (λ z. z.segment) t.wait) ∙ first_segment r rules (segment_at r q Start) t.process

  start_alike : Alike r rules sound w places (begin p) []
  start_alike = record {
    stamp = refl;
    broken = refl;
    stopped = refl;
    waits_count = length-map r.design.processes waiting;
    runnable = λ q. (starts_alike q).runnable;
    waits = λ q. (starts_alike q).waits;
    timeouts = λ q. subst (IsAhead zero_stamp) (sym (starts_alike q).timeout) tt;
    events = refl;
    slots_count = nothing_count (length r.design.events);
    slots = λ e. sym (ap due_of (nothing_there (length r.design.events) e));
    quiet = λ e n. nothing_there (length r.design.events) e;
    ahead = λ e. subst (IsAhead zero_stamp) (sym (nothing_there (length r.design.events) e)) tt;
    asked = asked_start;
    world = record {
      variables_count = length-map r.design.variables (λ x. replicate x.length x.start);
      variables = λ x. cells_first r.design.variables x;
      channels_count = channels_first r.design 0 r.design.channels;
      channels = alike_start;
      held = λ c lt.
          let b = element r.design.channels c lt in
          subst (λ y. HeldBy y (holder_of r.design (holds_reading c)) (holder_of r.design (holds_writing c))) (sym (channel_start c b.0 b.1)) (first_held b.0.kind b.0 (holder_of r.design (holds_reading c)) (holder_of r.design (holds_writing c)));
    };
    by = by_start;
    histories = histories_start (λ c. history_in zero_stamp (operations_of r []) c) history_start;
    places_count = length-map r.design.processes first_frame;
    placed = place_start;
    sorted = refl;
    descend = tt;
    past = λ y i. absurd i;
    made = none_made;
  }

  -- ---- the whole run

  skip_all : (m q : ℕ) → q + m ≡ length r.design.processes → (s : Sched) (xs : List Activation) → ((n : ℕ) → s.world.runnable n ≡ false) → Evaluates p q s xs s xs
  skip_all zero q e s xs none = ends (omega (arith, e))
  skip_all (suc m) q e s xs none = skips (none q) (skip_all m (suc q) (omega (arith, e)) s xs none)

  nothing_noted : (k : BoundEvent) (v : Value) → slot_updated k None (note (noted_by k v None) zero_stamp) ≡ None
  nothing_noted event.Own v = refl
  nothing_noted (event.Changed c) v = refl
  nothing_noted (event.Rise c) v = refl
  nothing_noted (event.Fall c) v = refl
  nothing_noted (event.Written c) v = refl
  nothing_noted (event.Taken c) v = refl

  module _ (some : 0 < r.limits.deltas) (law : GoesOn p) (comes : ComesToEnd p) (does : Does) (reads : ReadsTouched) (changes : ChangesTouched) where
    -- nobody is ready, and nothing is pending
    module _ (off : (q : ℕ) → (wait_at w.waits q).runnable ≡ false) where
      none : (q : ℕ) → starts_now (rule.start_of r q) ≡ false
      none q = (starts_alike q).runnable ∙ off q

      going_all : (m q : ℕ) → q + m ≡ length r.design.processes → Going p (begin p) [] q → Going p (begin p) [] (length r.design.processes)
      going_all zero q e g = subst (Going p (begin p) []) (let k : q ≡ length r.design.processes = omega (arith, e) in k) g
      going_all (suc m) q e g = going_all m (suc q) (omega (arith, e)) (law.skips (begin p) [] q g (none q))

      none_due : NoneDue (update p (begin p))
      none_due q u (x, i, h) = ⊎_elim timed noted h
        where
          timed : x.timeout ≡ Some u → ⊥
          timed j =
              let a = subst (λ y. WaitsAlike y (wait_at w.waits q)) i ((starts_alike q).waits (none q)) in
              let c : None ≡ Some u = sym (a.0 ∙ ap due_of (starts_alike q).timeout) ∙ j in
              cc

          noted : (e : ℕ) × In e x.events × ((update p (begin p)).slots e ≡ Some u) → ⊥
          noted (e, j, k) = let c : None ≡ Some u = sym (nothing_noted (origin_of r e) (first_value r.design.channels (origin_of r e))) ∙ k in cc

      no_start : RunsTo p (begin p) [] []
      no_start = late (begin p) (update p (begin p)) (skip_all (length r.design.processes) 0 (omega arith) (begin p) [] none) (λ y i. absurd i) no_more (record { times = λ q x u i j le. none_due q u (x, i, inl j); events = λ q x e u i j k le. none_due q u (x, i, inr (e, j, k)) })

      -- the run is over without an activation
      never_runs : Went r rules sound some law comes does reads changes (begin p) [] (result_of w (history.Idle zero_stamp))
      never_runs = record {
        log = [];
        runs = no_start;
        made = none_made;
        ends = by_idle zero_stamp refl refl (comes.idles (begin p) [] (update p (begin p)) (going_all (length r.design.processes) 0 (omega arith) law.begins) (λ y i. absurd i) no_more none_due) refl;
        histories = histories_start (λ c. whole_history (cycle_of (operations_of r []) c)) whole_start;
      }

    no_active : (a : Stamp) → real.least_activity w ≡ Some a → ⊥
    no_active a e =
        ⊎_elim (λ s. let c : None ≡ Some a = sym (ap due_of (starts_alike s.0).timeout) ∙ s.1 in cc) (λ s. let c : None ≡ Some a = sym (ap due_of (nothing_there (length r.design.events) s.0)) ∙ s.1 in cc) (active_source w a e)

    pub whole : (n : ℕ) (result : Result) → run_whole (by_nodes r.design r.limits.statements) (ascending r.design) r.limits n (start_of r.design) ≡ Some result → Went r rules sound some law comes does reads changes (begin p) [] result
    unfolding run_whole real.notified
    whole n result e = at (list_any (λ x. x.runnable) w.waits) refl e
      where
        delta : (b : Bool) → (0 == r.limits.deltas) ≡ b → finish places (if b then real.Over w (history.Deltas zero_stamp) else real.Goes w) (run (by_nodes r.design r.limits.statements) (ascending r.design) r.limits n) ≡ Some result → Went r rules sound some law comes does reads changes (begin p) [] result
        delta true is k = absurd (let z = eqb-true 0 r.limits.deltas is in omega (arith, some, z))
        delta false is k = run_goes r rules sound some law comes does reads changes n w places (begin p) [] start_alike law.begins result k

        later : (o : Option Stamp) → real.least_activity w ≡ o → ((q : ℕ) → (wait_at w.waits q).runnable ≡ false) → finish places (real.later r.limits w o) (run (by_nodes r.design r.limits.statements) (ascending r.design) r.limits n) ≡ Some result → Went r rules sound some law comes does reads changes (begin p) [] result
        later (Some a) is off k = absurd (no_active a is)
        later None is off k = let same : result_of w (history.Idle zero_stamp) ≡ result = cc in subst (Went r rules sound some law comes does reads changes (begin p) []) same (never_runs off)

        at : (b : Bool) → list_any (λ x. x.runnable) w.waits ≡ b → finish places (if b then real.in_delta r.limits w else real.later r.limits w (real.least_activity w)) (run (by_nodes r.design r.limits.statements) (ascending r.design) r.limits n) ≡ Some result → Went r rules sound some law comes does reads changes (begin p) [] result
        at true b k = delta (0 == r.limits.deltas) refl k
        at false b k = later (real.least_activity w) refl (no_wait w.waits b) k
