-- The operations of a bank as it is made agree with the world of a design before initialization.
use Rattle.std.proofs.Common.{◌≡◌, ℕ, zero, suc, ◌+◌, ◌<◌, ◌==◌, Bool, true, false, cond, arith, List, [], ◌∷◌, Option, Some, None, refl, sym, subst, ap, ◌∙◌, length, get_or, map, replicate}
use Rattle.std.specs.Prelude.{slice_get, nat_lt, pos}
use Rattle.std.proofs.Math.ListN.{get_or-map}
use Rattle.std.proofs.lemmas.List.{length-replicate}
use Rattle.ooo_time.specs.declared.stamp.Stamp.{Stamp}
use Rattle.ooo_time.specs.Stamps.{IsBefore}
use Rattle.ooo_value.specs.declared.bound.BoundChannel.{BoundChannel}
use Rattle.ooo_value.specs.declared.bound.BoundEvent.{BoundEvent}
use Rattle.ooo_value.specs.declared.bound.BoundEvent.TheVariants as event
use Rattle.ooo_value.specs.declared.bound.ChannelKind.{ChannelKind}
use Rattle.ooo_value.specs.declared.bound.ChannelKind.TheVariants as channel
use Rattle.ooo_events.specs.Slots.{Nothing, NextDelta, due_of}
use Rattle.ooo_code.specs.declared.design.Design.{Design}
use Rattle.ooo_code.specs.declared.design.Proc.{Proc}
use Rattle.ooo_code.specs.declared.limits.Limits.{Limits}
use Rattle.ooo_value.specs.declared.values.Value.{Value}
use Rattle.ooo_value.specs.Values.{value_of}
use Rattle.ooo_code.specs.Expressions.{no_value}
use Rattle.ooo_code.specs.Channels.{IsSignal, IsFifo, first_channel}
use Rattle.ooo_history.specs.declared.run.End.TheVariants as end
use Rattle.ooo_meaning.specs.World.{World, Wait, Over, Goes, slot_at, wait_at, channel_at, never, zero_stamp, some_runnable, least, least_activity, least_pending, advance, later, in_delta, notified}
use Rattle.ooo_meaning.specs.Runs.{start_of, first_channels, first_wait}
use Rattle.ooo_channels.specs.Operations.{Operations, no_operations}
use Rattle.ooo_channels.specs.Cycles.{cycle_of, cycle_at, first_cycle}
use Rattle.ooo_channels.specs.Calls.{own_calls, channel_of, notifies, notified_by}
use Rattle.ooo_channels.specs.Agreement.{AreAlike, ChannelAgrees, OwnAgrees, NoticeAgrees, EventAgrees, Agrees, IsAhead, IsTimely, HasHistories, GoesOn, history_at}
use Rattle.ooo_channels.proofs.Orders.{IsBefore-irrefl}
use Rattle.ooo_channels.proofs.Moves.{cycle_at-here}
use Rattle.ooo_channels.proofs.Cores.{same_self}
use Rattle.ooo_channels.proofs.Ahead.{Holds, holds_least, holds_sooner}
use Rattle.ooo_channels.proofs.Agreeing.{Source, own, of_channel, source_of, of_notice}

-- ---- lists of the first world

get_or-all : {A : Type 0} (n : ℕ) (x : A) (i : ℕ) → get_or (replicate n x) i x ≡ x
get_or-all zero x i = refl
get_or-all (suc n) x zero = refl
get_or-all (suc n) x (suc i) = get_or-all n x i

count-channels : (design : Design) (n : ℕ) (cs : List BoundChannel) → length (first_channels design n cs) ≡ length cs
count-channels design n [] = refl
count-channels design n (c ∷ cs) = ap suc (count-channels design (n + 1) cs)

first_alike : (b : BoundChannel) (r q : Option ℕ) → AreAlike zero_stamp.time (first_channel b None None) (first_channel b r q)
first_alike b r q = go b.kind where
  go : (k : ChannelKind) → AreAlike zero_stamp.time (first_channel (record { kind = k; value = b.value; size = b.size }) None None) (first_channel (record { kind = k; value = b.value; size = b.size }) r q)
  go channel.Signal = record { core = refl; changed = refl }
  go channel.Fifo = record { core = refl; changed = refl }

channels_alike : (design : Design) (n : ℕ) (cs : List BoundChannel) (c : ℕ) → c < length cs → AreAlike zero_stamp.time (first_cycle (slice_get cs c)).channel (channel_at (first_channels design n cs) c)
channels_alike design n [] c lt = absurd (omega arith)
channels_alike design n (b ∷ bs) zero lt = first_alike b _ _
channels_alike design n (b ∷ bs) (suc c) lt = channels_alike design (n + 1) bs c (omega arith)

first_timeout : (ps : List Proc) (p : ℕ) → (wait_at (map (λ (x : Proc). first_wait x.initialize x.sensitive) ps) p).timeout ≡ Nothing
first_timeout [] p = refl
first_timeout (x ∷ xs) zero = go x.initialize where
  go : (b : Bool) → (first_wait b x.sensitive).timeout ≡ Nothing
  go true = refl
  go false = refl
first_timeout (x ∷ xs) (suc p) = first_timeout xs p

-- a signal of which nothing is requested
unrequested : (k : BoundEvent) (v : Value) → notifies k (IsSignal (record { current = v; requested = None; changed = None })) ≡ false
unrequested event.Own v = refl
unrequested (event.Changed c) v = rw (same_self v) refl
unrequested (event.Rise c) v = rw (same_self v) refl
unrequested (event.Fall c) v = rw (same_self v) refl
unrequested (event.Written c) v = refl
unrequested (event.Taken c) v = refl

-- a fifo into which nothing was put, and of which nothing was taken
untouched : (k : BoundEvent) (size : ℕ) → notifies k (IsFifo (record { size = size; held = []; read = 0; written = []; reader = None; writer = None })) ≡ false
untouched event.Own size = refl
untouched (event.Changed c) size = refl
untouched (event.Rise c) size = refl
untouched (event.Fall c) size = refl
untouched (event.Written c) size = refl
untouched (event.Taken c) size = refl

-- a channel as it starts notifies nothing
first_quiet : (k : BoundEvent) (b : Option BoundChannel) → notifies k (first_cycle b).channel ≡ false
first_quiet k None = unrequested k no_value
first_quiet k (Some b) = go b.kind where
  go : (c : ChannelKind) → notifies k (first_channel (record { kind = c; value = b.value; size = b.size }) None None) ≡ false
  go channel.Signal = unrequested k (value_of b.value (pos 0))
  go channel.Fifo = untouched k b.size

-- ---- the first world

module _ (design : Design) where
  abbrev ops : Operations
  ops = no_operations design.channels design.events

  abbrev world : World
  world = (start_of design).world

  stamp-first : (c : ℕ) → (cycle_of ops c).stamp ≡ zero_stamp
  unfolding cycle_of
  stamp-first c = go (slice_get design.channels c) where
    go : (b : Option BoundChannel) → (first_cycle b).stamp ≡ zero_stamp
    go None = refl
    go (Some b) = refl

  here : (c : ℕ) → cycle_at zero_stamp (cycle_of ops c) ≡ cycle_of ops c
  here c = cycle_at-here zero_stamp (cycle_of ops c) (subst (λ (s : Stamp). ¬ IsBefore s zero_stamp) (sym (stamp-first c)) (IsBefore-irrefl zero_stamp))

  channel_first : (c : ℕ) → c < length design.channels → ChannelAgrees ops zero_stamp c (channel_at world.channels c) (history_at world.histories c)
  unfolding cycle_of
  channel_first c lt = record {
    by = subst (λ (s : Stamp). ¬ IsBefore zero_stamp s) (sym (stamp-first c)) (IsBefore-irrefl zero_stamp);
    channel = subst (λ x. AreAlike zero_stamp.time x.channel (channel_at world.channels c)) (sym (here c)) (channels_alike design 0 design.channels c lt);
    history = get_or-all (length (first_channels design 0 design.channels)) [] c ∙ sym (ap (λ x. x.history) (here c) ∙ none (slice_get design.channels c));
  } where
    none : (b : Option BoundChannel) → (first_cycle b).history ≡ []
    none None = refl
    none (Some b) = refl

  own_first : (e : ℕ) → OwnAgrees ops zero_stamp e (slot_at world.slots e)
  unfolding own_calls
  own_first e = record {
    in_order = tt;
    by = λ s f. absurd cc;
    slot = get_or-all (length design.events) Nothing e;
  }

  notice_first : (e : ℕ) (k : BoundEvent) → NoticeAgrees ops zero_stamp k (slot_at world.slots e)
  unfolding notified_by cycle_of
  notice_first e k = record {
    in_order = tt;
    by = λ s f. absurd cc;
    quiet = get_or-all (length design.events) Nothing e;
    pending = ap (λ b. cond b (NextDelta zero_stamp) Nothing) (sym (ap (λ x. notifies k x.channel) (here (channel_of k)) ∙ first_quiet k (slice_get design.channels (channel_of k))));
  }

  pub first_agrees : Agrees ops world
  first_agrees = record {
    channel_count = count-channels design 0 design.channels;
    history_count = length-replicate (length (first_channels design 0 design.channels)) [] ∙ count-channels design 0 design.channels;
    events = refl;
    slot_count = length-replicate (length design.events) Nothing;
    channels = channel_first;
    slots = λ e k is fits. go e (source_of k);
  } where
    go : (e : ℕ) {j : BoundEvent} → Source j → EventAgrees ops zero_stamp e j (slot_at world.slots e)
    go e own = own_first e
    go e (of_channel {k = j} ne) = of_notice ops zero_stamp e j (slot_at world.slots e) ne (notice_first e j)

  pub first_timely : IsTimely world
  first_timely = record {
    slots = λ e. subst (IsAhead zero_stamp) (sym (get_or-all (length design.events) Nothing e)) tt;
    timeouts = λ p. subst (IsAhead zero_stamp) (sym (first_timeout design.processes p)) tt;
  }

  -- nothing is pending yet
  none_pending : Holds (λ t. ⊥) (least_pending world)
  none_pending =
      holds_sooner (λ t. ⊥) (least (map due_of world.slots)) (least (map (λ (y : Wait). due_of y.timeout) world.waits))
      (holds_least (λ t. ⊥) (map due_of world.slots) (λ e. subst (Holds (λ t. ⊥)) (sym (get_or-map due_of world.slots e Nothing ∙ ap due_of (get_or-all (length design.events) Nothing e))) tt))
      (holds_least (λ t. ⊥) (map (λ (y : Wait). due_of y.timeout) world.waits) (λ p. subst (Holds (λ t. ⊥)) (sym (get_or-map (λ (y : Wait). due_of y.timeout) world.waits p never ∙ ap due_of (first_timeout design.processes p))) tt))

  histories_first : HasHistories ops zero_stamp world
  histories_first = record { count = first_agrees.history_count; each = λ c lt. (channel_first c lt).history }

  module _ (limits : Limits) where
    starts_delta : (b : Bool) → GoesOn ops zero_stamp (cond b (Over world (end.Deltas zero_stamp)) (Goes world))
    starts_delta true = histories_first
    starts_delta false = (first_agrees, first_timely)

    starts_advance : (o : Option Stamp) → Holds (λ t. ⊥) o → GoesOn ops zero_stamp (advance world o)
    starts_advance None h = histories_first
    starts_advance (Some t) h = absurd h

    starts_time : (b : Bool) → GoesOn ops zero_stamp (cond b (Over world (end.Time limits.stop)) (advance world (least_pending world)))
    starts_time true = histories_first
    starts_time false = starts_advance (least_pending world) none_pending

    starts_later : (o : Option Stamp) → GoesOn ops zero_stamp (later limits world o)
    starts_later None = histories_first
    starts_later (Some t) = starts_time (nat_lt limits.stop.0 t.time.0)

    -- the run from initialization on
    pub started : GoesOn ops zero_stamp (notified limits world)
    unfolding notified
    started = go (some_runnable world) where
      go : (b : Bool) → GoesOn ops zero_stamp (cond b (in_delta limits world) (later limits world (least_activity world)))
      go true = starts_delta (zero_stamp.delta == limits.deltas)
      go false = starts_later (least_activity world)
