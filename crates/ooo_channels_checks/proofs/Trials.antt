-- A bank with one channel, as the tests of the bank use it.
use Rattle.std.proofs.Common.{◌≡◌, ℕ, zero, suc, ◌<◌, ◌++◌, Bool, true, false, cond, arith, List, [], ◌∷◌, Option, Some, None, refl, sym, subst, ap, ◌∙◌, append-nil, length}
use Rattle.std.specs.Prelude.{slice_get, Result, Ok, Err, IfOk, ◌≤◌}
use Rattle.std.specs.List.{flat_map}
use Rattle.std.proofs.lemmas.Grind.{flat_map-append}
use Rattle.std.proofs.lemmas.List.Sums.{fold-append}
use Rattle.ooo_time.specs.declared.stamp.Stamp.{Stamp}
use Rattle.ooo_time.specs.Stamps.{IsBefore, is_before}
use Rattle.ooo_value.specs.declared.bound.BoundChannel.{BoundChannel}
use Rattle.ooo_value.specs.declared.bound.BoundEvent.{BoundEvent}
use Rattle.ooo_value.specs.declared.bound.BoundEvent.TheVariants as event
use Rattle.ooo_value.specs.declared.bound.ChannelKind.{ChannelKind}
use Rattle.ooo_value.specs.declared.bound.ChannelKind.TheVariants as channel
use Rattle.ooo_value.specs.declared.values.Value.{Value}
use Rattle.ooo_events.specs.declared.call.Call.{Call}
use Rattle.ooo_events.specs.declared.call.Call.TheVariants as call
use Rattle.ooo_events.specs.Calls.{Follows, last_stamp, stamp_of}
use Rattle.ooo_code.specs.declared.activation.Effect.{Effect}
use Rattle.ooo_code.specs.declared.activation.Effect.TheVariants as effect
use Rattle.ooo_meaning.specs.World.{entries_of, zero_stamp}
use Rattle.ooo_channels.specs.Operations.{Operation, Operations, no_operations, after_effect, after_forgetting, is_on, is_call_on}
use Rattle.ooo_channels.specs.Cycles.{Cycle, cycle_of, cycle_at, cycle_after, cycle_step, later_channel, first_cycle, channel_in, readable, writable}
use Rattle.ooo_channels.specs.Calls.{own_calls, own_call}
use Rattle.ooo_channels.specs.Conditions.{HasChannel, HasEventAt, ChannelIsBy, Names, IsInOrder, FindsPlace, MayApply}
use Rattle.ooo_channels.specs.Bank.{BankState, IsBankAfter}
use Rattle.ooo_channels_checks.specs.Trials.{trial_events, IsTrial, FitsTrial, MayTry}

IsBefore-irrefl : (s : Stamp) → ¬ IsBefore s s
IsBefore-irrefl s h = grind arith

-- ---- a trial as it begins

pub begun : (bank : BankState) (channels : List BoundChannel) (events : List BoundEvent) (b : BoundChannel) → channels ≡ b ∷ [] → events ≡ trial_events b.kind → IsBankAfter bank (no_operations channels events) → IsTrial b.kind bank zero_stamp
unfolding cycle_of own_calls
begun bank channels events b is are after = record {
  ops = no_operations channels events;
  after = after;
  channel = b;
  channels = is;
  is = refl;
  events = are;
  by = subst (λ cs. ¬ IsBefore zero_stamp (first_cycle (slice_get cs 0)).stamp) (sym is) (IsBefore-irrefl zero_stamp);
  own_by = λ s f. absurd cc;
}

-- a trial whose bank forgets
pub forgotten : (k : ChannelKind) (bank new : BankState) (last below : Stamp) (t : IsTrial k bank last) → IsBankAfter new (after_forgetting below t.ops) → IsTrial k new last
unfolding cycle_of own_calls
forgotten k bank new last below t after = record {
  ops = after_forgetting below t.ops;
  after = after;
  channel = t.channel;
  channels = t.channels;
  is = t.is;
  events = t.events;
  by = t.by;
  own_by = t.own_by;
}

-- what follows from an Ok's fact
pub if_ok : {A E : Type 0} (P Q : A → Type 0) (r : Result A E) → ((x : A) → P x → Q x) → IfOk r P → IfOk r Q
if_ok P Q (Ok x) f h = f x h
if_ok P Q (Err e) f h = h

-- ---- what is there

pub trial_channel : (k : ChannelKind) (bank : BankState) (last : Stamp) (t : IsTrial k bank last) → HasChannel t.ops 0 k
trial_channel k bank last t = record { channel = t.channel; is = ap (λ cs. slice_get cs 0) t.channels; kind = t.is }

trial_own : (k : ChannelKind) → slice_get (trial_events k) 3 ≡ Some event.Own
trial_own channel.Signal = refl
trial_own channel.Fifo = refl

pub own_there : (k : ChannelKind) (bank : BankState) (last : Stamp) (t : IsTrial k bank last) → slice_get t.ops.events 3 ≡ Some event.Own
own_there k bank last t = ap (λ es. slice_get es 3) t.events ∙ trial_own k

pub event_there : (k : ChannelKind) (bank : BankState) (last : Stamp) (t : IsTrial k bank last) (e : ℕ) → e < 4 → HasEventAt t.ops e
event_there channel.Signal bank last t zero lt = record { kind = event.Changed 0; is = ap (λ es. slice_get es 0) t.events; fits = trial_channel channel.Signal bank last t }
event_there channel.Signal bank last t (suc zero) lt = record { kind = event.Rise 0; is = ap (λ es. slice_get es 1) t.events; fits = trial_channel channel.Signal bank last t }
event_there channel.Signal bank last t (suc (suc zero)) lt = record { kind = event.Fall 0; is = ap (λ es. slice_get es 2) t.events; fits = trial_channel channel.Signal bank last t }
event_there channel.Signal bank last t (suc (suc (suc zero))) lt = record { kind = event.Own; is = ap (λ es. slice_get es 3) t.events; fits = tt }
event_there channel.Signal bank last t (suc (suc (suc (suc n)))) lt = absurd (omega arith)
event_there channel.Fifo bank last t zero lt = record { kind = event.Written 0; is = ap (λ es. slice_get es 0) t.events; fits = trial_channel channel.Fifo bank last t }
event_there channel.Fifo bank last t (suc zero) lt = record { kind = event.Taken 0; is = ap (λ es. slice_get es 1) t.events; fits = trial_channel channel.Fifo bank last t }
event_there channel.Fifo bank last t (suc (suc zero)) lt = record { kind = event.Own; is = ap (λ es. slice_get es 2) t.events; fits = tt }
event_there channel.Fifo bank last t (suc (suc (suc zero))) lt = record { kind = event.Own; is = ap (λ es. slice_get es 3) t.events; fits = tt }
event_there channel.Fifo bank last t (suc (suc (suc (suc n)))) lt = absurd (omega arith)

-- a free slot, or a value that may be read, is what an effect needs
pub put_place :
    (k : ChannelKind) (bank : BankState) (last now : Stamp) (t : IsTrial k bank last) (c : ℕ) (v : Value) (f : Effect) (n : ℕ) → f ≡ effect.Put c v → FitsTrial k f →
    ((ops : Operations) → IsBankAfter bank ops → HasChannel ops 0 channel.Fifo → n ≡ writable (channel_in now ops 0)) → 1 ≤ n → FindsPlace t.ops now f
put_place channel.Signal bank last now t c v f n is fits free some = absurd (subst (FitsTrial channel.Signal) is fits)
put_place channel.Fifo bank last now t c v f n is fits free some =
    let zero_is : c ≡ 0 = subst (FitsTrial channel.Fifo) is fits in
    subst (FindsPlace t.ops now) (sym is)
    (subst (λ d. 1 ≤ writable (channel_in now t.ops d)) (sym zero_is)
    (subst (λ m. 1 ≤ m) (free t.ops t.after (trial_channel channel.Fifo bank last t)) some))

pub take_place :
    (k : ChannelKind) (bank : BankState) (last now : Stamp) (t : IsTrial k bank last) (c : ℕ) (f : Effect) (n : ℕ) → f ≡ effect.Take c → FitsTrial k f →
    ((ops : Operations) → IsBankAfter bank ops → HasChannel ops 0 channel.Fifo → n ≡ length (readable (channel_in now ops 0))) → 1 ≤ n → FindsPlace t.ops now f
take_place channel.Signal bank last now t c f n is fits there some = absurd (subst (FitsTrial channel.Signal) is fits)
take_place channel.Fifo bank last now t c f n is fits there some =
    let zero_is : c ≡ 0 = subst (FitsTrial channel.Fifo) is fits in
    subst (FindsPlace t.ops now) (sym is)
    (subst (λ d. 1 ≤ length (readable (channel_in now t.ops d))) (sym zero_is)
    (subst (λ m. 1 ≤ m) (there t.ops t.after (trial_channel channel.Fifo bank last t)) some))

-- ---- one more operation

abbrev operation : Stamp → Effect → Operation
operation at f = record { at = at; effect = f }

cycle_of-after : (ops : Operations) (at : Stamp) (f : Effect) (c : ℕ) → cycle_of (after_effect at ops f) c ≡ cycle_step c (cycle_of ops c) (operation at f)
unfolding cycle_of
cycle_of-after ops at f c = fold-append (cycle_step c) _ ops.applied (operation at f ∷ [])

own_calls-after : (ops : Operations) (at : Stamp) (f : Effect) (e : ℕ) → own_calls (after_effect at ops f) e ≡ own_calls ops e ++ own_call e (operation at f)
unfolding own_calls
own_calls-after ops at f e = flat_map-append (own_call e) ops.applied (operation at f ∷ []) ∙ ap (λ cs. flat_map (own_call e) ops.applied ++ cs) (append-nil (own_call e (operation at f)))

-- a channel whose cycle isn't later than a stamp isn't later in the cycle of that stamp, nor after an operation there
by_here : (at : Stamp) (x : Cycle) → ¬ IsBefore at x.stamp → ¬ IsBefore at (cycle_at at x).stamp
by_here at x by = go (is_before x.stamp at) where
  go : (b : Bool) → ¬ IsBefore at (cond b (record { stamp = at; channel = later_channel at x; history = x.history ++ entries_of x.stamp x.channel }) x).stamp
  go true = IsBefore-irrefl at
  go false = by

by_after : (at : Stamp) (f : Effect) (c : ℕ) (x : Cycle) → ¬ IsBefore at x.stamp → ¬ IsBefore at (cycle_step c x (operation at f)).stamp
by_after at f c x by = go (is_on c f) where
  go : (b : Bool) → ¬ IsBefore at (cond b (cycle_after x (operation at f)) x).stamp
  go true = by_here at x by
  go false = by

own_none : (e : ℕ) (at : Stamp) (f : Effect) → is_call_on e f ≡ false → own_call e (operation at f) ≡ []
own_none e at (effect.Request d v) not = refl
own_none e at (effect.Put d v) not = refl
own_none e at (effect.Take d) not = refl
own_none e at (effect.Notify d k) not = rw not refl
own_none e at (effect.Cancel d) not = rw not refl
own_none e at effect.Stop not = refl

-- no call is later than a stamp at which the last one is
last_stamp-push : (last : Option Stamp) (calls : List Call) (c : Call) → last_stamp last (calls ++ c ∷ []) ≡ Some (stamp_of c)
last_stamp-push last [] c = refl
last_stamp-push last (d ∷ ds) c = last_stamp-push (Some (stamp_of d)) ds c

follows-push : (calls : List Call) (c : Call) (now : Stamp) → stamp_of c ≡ now → Follows (last_stamp None (calls ++ c ∷ [])) now
follows-push calls c now e = λ s f. let g : now ≡ s = cc (last_stamp-push None calls c) in subst (λ x. ¬ IsBefore now x) g (IsBefore-irrefl now)

-- ---- an effect

names_trial : (k : ChannelKind) (ops : Operations) (f : Effect) → HasChannel ops 0 k → slice_get ops.events 3 ≡ Some event.Own → FitsTrial k f → Names ops f
names_trial channel.Signal ops (effect.Request c v) has own fits = subst (λ n. HasChannel ops n channel.Signal) (sym fits) has
names_trial channel.Signal ops (effect.Put c v) has own fits = absurd fits
names_trial channel.Signal ops (effect.Take c) has own fits = absurd fits
names_trial channel.Fifo ops (effect.Request c v) has own fits = absurd fits
names_trial channel.Fifo ops (effect.Put c v) has own fits = subst (λ n. HasChannel ops n channel.Fifo) (sym fits) has
names_trial channel.Fifo ops (effect.Take c) has own fits = subst (λ n. HasChannel ops n channel.Fifo) (sym fits) has
names_trial channel.Signal ops (effect.Notify e d) has own fits = ap (slice_get ops.events) fits ∙ own
names_trial channel.Signal ops (effect.Cancel e) has own fits = ap (slice_get ops.events) fits ∙ own
names_trial channel.Signal ops effect.Stop has own fits = tt
names_trial channel.Fifo ops (effect.Notify e d) has own fits = ap (slice_get ops.events) fits ∙ own
names_trial channel.Fifo ops (effect.Cancel e) has own fits = ap (slice_get ops.events) fits ∙ own
names_trial channel.Fifo ops effect.Stop has own fits = tt

in_order_trial : (k : ChannelKind) (ops : Operations) (at : Stamp) (f : Effect) → ChannelIsBy ops 0 at → Follows (last_stamp None (own_calls ops 3)) at → FitsTrial k f → IsInOrder ops at f
in_order_trial channel.Signal ops at (effect.Request c v) by own fits = subst (λ n. ChannelIsBy ops n at) (sym fits) by
in_order_trial channel.Signal ops at (effect.Put c v) by own fits = absurd fits
in_order_trial channel.Signal ops at (effect.Take c) by own fits = absurd fits
in_order_trial channel.Fifo ops at (effect.Request c v) by own fits = absurd fits
in_order_trial channel.Fifo ops at (effect.Put c v) by own fits = subst (λ n. ChannelIsBy ops n at) (sym fits) by
in_order_trial channel.Fifo ops at (effect.Take c) by own fits = subst (λ n. ChannelIsBy ops n at) (sym fits) by
in_order_trial channel.Signal ops at (effect.Notify e d) by own fits = subst (λ n. Follows (last_stamp None (own_calls ops n)) at) (sym fits) own
in_order_trial channel.Signal ops at (effect.Cancel e) by own fits = subst (λ n. Follows (last_stamp None (own_calls ops n)) at) (sym fits) own
in_order_trial channel.Signal ops at effect.Stop by own fits = tt
in_order_trial channel.Fifo ops at (effect.Notify e d) by own fits = subst (λ n. Follows (last_stamp None (own_calls ops n)) at) (sym fits) own
in_order_trial channel.Fifo ops at (effect.Cancel e) by own fits = subst (λ n. Follows (last_stamp None (own_calls ops n)) at) (sym fits) own
in_order_trial channel.Fifo ops at effect.Stop by own fits = tt

module _ (k : ChannelKind) (bank : BankState) (last at : Stamp) (f : Effect) (may : MayTry k bank last at f) where
  abbrev ops : Operations
  ops = may.trial.ops

  later_by : ChannelIsBy ops 0 at
  later_by = λ h. may.trial.by (still_before at last (cycle_of ops 0).stamp may.later h) where
    still_before : (a l s : Stamp) → ¬ IsBefore a l → IsBefore a s → IsBefore l s
    still_before a l s h k = grind arith

  later_own : Follows (last_stamp None (own_calls ops 3)) at
  later_own = λ s e h. may.trial.own_by s e (still_before at last s may.later h) where
    still_before : (a l s : Stamp) → ¬ IsBefore a l → IsBefore a s → IsBefore l s
    still_before a l s h k = grind arith

  pub trial_names : Names ops f
  trial_names = names_trial k ops f (trial_channel k bank last may.trial) (own_there k bank last may.trial) may.fits

  pub trial_may : MayApply ops at f
  trial_may = record { names = trial_names; in_order = in_order_trial k ops at f later_by later_own may.fits; place = may.place }

  next_by : ChannelIsBy (after_effect at ops f) 0 at
  next_by = subst (λ (x : Cycle). ¬ IsBefore at x.stamp) (sym (cycle_of-after ops at f 0)) (by_after at f 0 (cycle_of ops 0) later_by)

  next_own : (g : Effect) → Follows (last_stamp None (own_calls ops 3 ++ own_call 3 (operation at g))) at
  next_own g = go (is_call_on 3 g) refl where
    go : (b : Bool) → is_call_on 3 g ≡ b → Follows (last_stamp None (own_calls ops 3 ++ own_call 3 (operation at g))) at
    go false off = subst (λ cs. Follows (last_stamp None (own_calls ops 3 ++ cs)) at) (sym (own_none 3 at g off)) (subst (λ cs. Follows (last_stamp None cs) at) (sym (append-nil (own_calls ops 3))) later_own)
    go true on = called g on where
      called : (g : Effect) → is_call_on 3 g ≡ true → Follows (last_stamp None (own_calls ops 3 ++ own_call 3 (operation at g))) at
      called (effect.Notify e d) is = rw is (follows-push (own_calls ops 3) (call.Notify at d) at refl)
      called (effect.Cancel e) is = rw is (follows-push (own_calls ops 3) (call.Cancel at) at refl)
      called (effect.Request c v) is = absurd cc
      called (effect.Put c v) is = absurd cc
      called (effect.Take c) is = absurd cc
      called effect.Stop is = absurd cc

  pub tried : (new : BankState) → IsBankAfter new (after_effect at ops f) → IsTrial k new at
  tried new after = record {
    ops = after_effect at ops f;
    after = after;
    channel = may.trial.channel;
    channels = may.trial.channels;
    is = may.trial.is;
    events = may.trial.events;
    by = next_by;
    own_by = subst (λ cs. Follows (last_stamp None cs) at) (sym (own_calls-after ops at f 3)) (next_own f);
  }
