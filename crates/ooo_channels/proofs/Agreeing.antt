-- Each effect of an activation keeps the agreement of the operations with the world.
use Rattle.std.proofs.Common.{◌≡◌, ◌≢◌, ℕ, ◌<◌, ◌==◌, ◌++◌, Bool, true, false, cond, arith, List, [], ◌∷◌, Some, None, refl, sym, subst, ap, ◌∙◌, length, append-nil}
use Rattle.std.specs.Prelude.{slice_set, slice_get}
use Rattle.std.proofs.lemmas.Bool.{eqb-false}
use Rattle.std.proofs.lemmas.Bool.Decides.{Decides-eqb}
use Rattle.std.proofs.lemmas.List.{get_or-set_same, get_or-set_other, length-set}
use Rattle.std.proofs.lemmas.Option.{slice_get_within}
use Rattle.ooo_time.specs.declared.time.Time.{Time}
use Rattle.ooo_time.specs.declared.stamp.Stamp.{Stamp}
use Rattle.ooo_time.specs.Stamps.{IsBefore}
use Rattle.ooo_value.specs.declared.bound.BoundEvent.{BoundEvent}
use Rattle.ooo_value.specs.declared.bound.BoundEvent.TheVariants as event
use Rattle.ooo_events.specs.declared.call.Call.{Call}
use Rattle.ooo_events.specs.declared.call.Call.TheVariants as call
use Rattle.ooo_events.specs.Slots.{Slot, Nothing, NextDelta, slot_left_at, slot_after_delta, slot_after_notify}
use Rattle.ooo_events.specs.Calls.{AreInOrder, Follows, last_stamp, stamp_of}
use Rattle.ooo_events.specs.Firings.{slot_after, slot_after_call}
use Rattle.ooo_code.specs.declared.activation.Effect.{Effect}
use Rattle.ooo_code.specs.declared.activation.Effect.TheVariants as effect
use Rattle.ooo_code.specs.Channels.{Channel, IsSignal, IsFifo}
use Rattle.ooo_code.specs.Outcomes.{Deed}
use Rattle.ooo_history.specs.declared.run.Entry.{Entry}
use Rattle.ooo_meaning.specs.World.{World, slot_at, channel_at, no_channel, apply, apply_all, after_deed}
use Rattle.ooo_channels.specs.Operations.{Operations, after_effect, after_effects, is_on, is_call_on}
use Rattle.ooo_channels.specs.Cycles.{Cycle, cycle_of, cycle_at, cycle_after, channel_in, acted}
use Rattle.ooo_channels.specs.Calls.{own_calls, own_call, channel_calls, channel_of, notifies, bears_on, renewal, renewals}
use Rattle.ooo_channels.specs.Conditions.{ChannelIsBy, FitsChannels, Names, MayApplyAll}
use Rattle.ooo_channels.specs.Agreement.{AreAlike, ChannelAgrees, OwnAgrees, NoticeAgrees, EventAgrees, Agrees, history_at}
use Rattle.ooo_channels.proofs.Orders.{Earlier, earlier, not_earlier, earlier_or_not, IsBefore-irrefl}
use Rattle.ooo_channels.proofs.Moves.{cycle_at-later, cycle_at-here}
use Rattle.ooo_channels.proofs.Steps.{operation, cycle_of-other, cycle_of-on, own_calls-after, channel_calls-after, bears_not}
use Rattle.ooo_channels.proofs.Apart.{own_none}
use Rattle.ooo_channels.proofs.Slots.{left_is_later, left_same, notify_is_later}
use Rattle.ooo_channels.proofs.Firsts.{AreInOrder-push, follows-push, slot-push}
use Rattle.ooo_channels.proofs.Cores.{acted_alike}

-- ---- a channel in the cycle of a stamp

stamps_same : (a b : Stamp) → a.time.0 ≡ b.time.0 → a.delta ≡ b.delta → a ≡ b
stamps_same a b e f = rw (e, f) refl

-- of two stamps neither of which is before the other
pub same_place : (a b : Stamp) → ¬ IsBefore a b → ¬ IsBefore b a → a ≡ b
same_place a b h k = stamps_same a b (grind arith) (grind arith)

pub stamp-cycle_by : (now : Stamp) (x : Cycle) → ¬ IsBefore now x.stamp → (cycle_at now x).stamp ≡ now
stamp-cycle_by now x by = go (earlier_or_not x.stamp now) where
  go : {b : Bool} → Earlier x.stamp now b → (cycle_at now x).stamp ≡ now
  go (earlier h) = ap (λ (y : Cycle). y.stamp) (cycle_at-later now x h)
  go (not_earlier h) = ap (λ (y : Cycle). y.stamp) (cycle_at-here now x h) ∙ same_place x.stamp now h by

module _ (ops : Operations) (now : Stamp) (f : Effect) (c : ℕ) (by : ChannelIsBy ops c now) where
  abbrev more : Operations
  more = after_effect now ops f

  -- the channel that the effect is on, in its cycle
  on_is : is_on c f ≡ true → cycle_at now (cycle_of more c) ≡ cycle_after (cycle_of ops c) (operation now f)
  on_is on =
      ap (cycle_at now) (cycle_of-on ops now f c on)
      ∙ cycle_at-here now (cycle_after (cycle_of ops c) (operation now f)) (subst (λ (s : Stamp). ¬ IsBefore s now) (sym (stamp-cycle_by now (cycle_of ops c) by)) (IsBefore-irrefl now))

  pub channel-on : is_on c f ≡ true → channel_in now more c ≡ acted f (channel_in now ops c)
  channel-on on = ap (λ (x : Cycle). x.channel) (on_is on)

  -- the calls on an event are of the channel as it stands after the effect
  pub channel-here : is_on c f ≡ true → (cycle_of more c).channel ≡ channel_in now more c
  channel-here on = ap (λ (x : Cycle). x.channel) (cycle_of-on ops now f c on) ∙ sym (channel-on on)

  on_by : is_on c f ≡ true → ChannelIsBy more c now
  on_by on = subst (λ (x : Cycle). ¬ IsBefore now x.stamp) (sym (cycle_of-on ops now f c on)) (subst (λ (s : Stamp). ¬ IsBefore now s) (sym (stamp-cycle_by now (cycle_of ops c) by)) (IsBefore-irrefl now))

  pub channel-other : is_on c f ≡ false → channel_in now more c ≡ channel_in now ops c
  channel-other off = ap (λ x. (cycle_at now x).channel) (cycle_of-other ops now f c off)

  pub agrees-on : (x : Channel) (h : List Entry) → is_on c f ≡ true → ChannelAgrees ops now c x h → ChannelAgrees more now c (acted f x) h
  agrees-on x h on was = record {
    by = on_by on;
    channel = subst (λ y. AreAlike now.time y (acted f x)) (sym (channel-on on)) (acted_alike now.time (channel_in now ops c) x was.channel f);
    history = was.history ∙ sym (ap (λ (y : Cycle). y.history) (on_is on));
  }

  pub agrees-other : (x : Channel) (h : List Entry) → is_on c f ≡ false → ChannelAgrees ops now c x h → ChannelAgrees more now c x h
  agrees-other x h off was = record {
    by = subst (λ (y : Cycle). ¬ IsBefore now y.stamp) (sym (cycle_of-other ops now f c off)) was.by;
    channel = subst (λ y. AreAlike now.time y x) (sym (channel-other off)) was.channel;
    history = was.history ∙ sym (ap (λ y. (cycle_at now y).history) (cycle_of-other ops now f c off));
  }

-- ---- the world's channels and slots

eq_of : (a b : ℕ) → (a == b) ≡ true → a ≡ b
eq_of a b e = (Decides-eqb a b).0 e

set_on : (xs : List Channel) (c d : ℕ) (g : Channel → Channel) → (c == d) ≡ true → d < length xs → channel_at (slice_set xs d (g (channel_at xs d))) c ≡ g (channel_at xs c)
set_on xs c d g e lt =
    let is = eq_of c d e in
    subst (λ n. channel_at (slice_set xs d (g (channel_at xs d))) n ≡ g (channel_at xs n)) (sym is) (get_or-set_same xs d (g (channel_at xs d)) no_channel lt)

channel_there : (ops : Operations) (f : Effect) (c : ℕ) → is_on c f ≡ true → Names ops f → c < length ops.channels
channel_there ops (effect.Request d v) c on names = subst (λ n. n < length ops.channels) (sym (eq_of c d on)) (slice_get_within ops.channels d names.channel names.is)
channel_there ops (effect.Put d v) c on names = subst (λ n. n < length ops.channels) (sym (eq_of c d on)) (slice_get_within ops.channels d names.channel names.is)
channel_there ops (effect.Take d) c on names = subst (λ n. n < length ops.channels) (sym (eq_of c d on)) (slice_get_within ops.channels d names.channel names.is)
channel_there ops (effect.Notify e k) c on names = absurd cc
channel_there ops (effect.Cancel e) c on names = absurd cc
channel_there ops effect.Stop c on names = absurd cc

world_on : (w : World) (f : Effect) (c : ℕ) → is_on c f ≡ true → c < length w.channels → channel_at (apply w f).channels c ≡ acted f (channel_at w.channels c)
world_on w (effect.Request d v) c on lt = set_on w.channels c d (acted (effect.Request d v)) on (subst (λ n. n < length w.channels) (eq_of c d on) lt)
world_on w (effect.Put d v) c on lt = set_on w.channels c d (acted (effect.Put d v)) on (subst (λ n. n < length w.channels) (eq_of c d on) lt)
world_on w (effect.Take d) c on lt = set_on w.channels c d (acted (effect.Take d)) on (subst (λ n. n < length w.channels) (eq_of c d on) lt)
world_on w (effect.Notify e k) c on lt = absurd cc
world_on w (effect.Cancel e) c on lt = absurd cc
world_on w effect.Stop c on lt = absurd cc

world_other : (w : World) (f : Effect) (c : ℕ) → is_on c f ≡ false → channel_at (apply w f).channels c ≡ channel_at w.channels c
world_other w (effect.Request d v) c off = get_or-set_other w.channels d c _ no_channel (λ e. absurd (eqb-false c d off e))
world_other w (effect.Put d v) c off = get_or-set_other w.channels d c _ no_channel (λ e. absurd (eqb-false c d off e))
world_other w (effect.Take d) c off = get_or-set_other w.channels d c _ no_channel (λ e. absurd (eqb-false c d off e))
world_other w (effect.Notify e k) c off = refl
world_other w (effect.Cancel e) c off = refl
world_other w effect.Stop c off = refl

slot_other : (w : World) (f : Effect) (e : ℕ) → is_call_on e f ≡ false → slot_at (apply w f).slots e ≡ slot_at w.slots e
slot_other w (effect.Notify d k) e off = get_or-set_other w.slots d e _ Nothing (λ f. absurd (eqb-false e d off f))
slot_other w (effect.Cancel d) e off = get_or-set_other w.slots d e _ Nothing (λ f. absurd (eqb-false e d off f))
slot_other w f e off = refl

channel_count : (w : World) (f : Effect) → length (apply w f).channels ≡ length w.channels
channel_count w (effect.Request d v) = length-set w.channels d _
channel_count w (effect.Put d v) = length-set w.channels d _
channel_count w (effect.Take d) = length-set w.channels d _
channel_count w f = refl

slot_count : (w : World) (f : Effect) → length (apply w f).slots ≡ length w.slots
slot_count w (effect.Notify d k) = length-set w.slots d _
slot_count w (effect.Cancel d) = length-set w.slots d _
slot_count w f = refl

pub histories-apply : (w : World) (f : Effect) → (apply w f).histories ≡ w.histories
histories-apply w (effect.Request d v) = refl
histories-apply w (effect.Put d v) = refl
histories-apply w (effect.Take d) = refl
histories-apply w (effect.Notify d k) = refl
histories-apply w (effect.Cancel d) = refl
histories-apply w effect.Stop = refl

events-apply : (w : World) (f : Effect) → (apply w f).events ≡ w.events
events-apply w (effect.Request d v) = refl
events-apply w (effect.Put d v) = refl
events-apply w (effect.Take d) = refl
events-apply w (effect.Notify d k) = refl
events-apply w (effect.Cancel d) = refl
events-apply w effect.Stop = refl

pub stamp-apply : (w : World) (f : Effect) → (apply w f).stamp ≡ w.stamp
stamp-apply w (effect.Request d v) = refl
stamp-apply w (effect.Put d v) = refl
stamp-apply w (effect.Take d) = refl
stamp-apply w (effect.Notify d k) = refl
stamp-apply w (effect.Cancel d) = refl
stamp-apply w effect.Stop = refl

pub waits-apply : (w : World) (f : Effect) → (apply w f).waits ≡ w.waits
waits-apply w (effect.Request d v) = refl
waits-apply w (effect.Put d v) = refl
waits-apply w (effect.Take d) = refl
waits-apply w (effect.Notify d k) = refl
waits-apply w (effect.Cancel d) = refl
waits-apply w effect.Stop = refl

-- ---- an event of the model's own

module _ (ops : Operations) (now : Stamp) (f : Effect) (e : ℕ) where
  own_more : (x y : Slot) (c : Call) → own_call e (operation now f) ≡ c ∷ [] → stamp_of c ≡ now → y ≡ slot_left_at (slot_after (own_calls ops e ++ c ∷ [])) now → OwnAgrees ops now e x → OwnAgrees (after_effect now ops f) now e y
  own_more x y c is at left was =
      let same : own_calls (after_effect now ops f) e ≡ own_calls ops e ++ c ∷ [] = own_calls-after ops now f e ∙ ap (λ cs. own_calls ops e ++ cs) is in
      record {
        in_order = subst (AreInOrder None) (sym same) (AreInOrder-push None (own_calls ops e) c was.in_order (subst (Follows (last_stamp None (own_calls ops e))) (sym at) was.by));
        by = subst (λ cs. Follows (last_stamp None cs) now) (sym same) (follows-push (own_calls ops e) c now at);
        slot = left ∙ ap (λ cs. slot_left_at (slot_after cs) now) (sym same);
      }

  own_other : (x : Slot) → is_call_on e f ≡ false → OwnAgrees ops now e x → OwnAgrees (after_effect now ops f) now e x
  own_other x off was =
      let same : own_calls (after_effect now ops f) e ≡ own_calls ops e = own_calls-after ops now f e ∙ ap (λ cs. own_calls ops e ++ cs) (own_none e now f off) ∙ append-nil (own_calls ops e) in
      record {
        in_order = subst (AreInOrder None) (sym same) was.in_order;
        by = subst (λ cs. Follows (last_stamp None cs) now) (sym same) was.by;
        slot = was.slot ∙ ap (λ cs. slot_left_at (slot_after cs) now) (sym same);
      }

notified_left : (calls : List Call) (now : Stamp) (k : Time) (x : Slot) → x ≡ slot_left_at (slot_after calls) now → slot_after_notify x now k ≡ slot_left_at (slot_after (calls ++ call.Notify now k ∷ [])) now
notified_left calls now k x e =
    let y : Slot = slot_left_at (slot_after calls) now in
    ap (λ z. slot_after_notify z now k) e
    ∙ sym (left_same (slot_after_notify y now k) now (notify_is_later y now k (left_is_later (slot_after calls) now)))
    ∙ ap (λ z. slot_left_at z now) (sym (slot-push calls (call.Notify now k)))

cancelled_left : (calls : List Call) (now : Stamp) → Nothing ≡ slot_left_at (slot_after (calls ++ call.Cancel now ∷ [])) now
cancelled_left calls now = ap (λ z. slot_left_at z now) (sym (slot-push calls (call.Cancel now)))

set_slot : (xs : List Slot) (e d : ℕ) (x : Slot) → (e == d) ≡ true → e < length xs → slot_at (slice_set xs d x) e ≡ x
set_slot xs e d x is lt = subst (λ n. slot_at (slice_set xs n x) e ≡ x) (eq_of e d is) (get_or-set_same xs e x Nothing lt)

own_next : (ops : Operations) (w : World) (f : Effect) (e : ℕ) → e < length w.slots → OwnAgrees ops w.stamp e (slot_at w.slots e) → (b : Bool) → is_call_on e f ≡ b → OwnAgrees (after_effect w.stamp ops f) w.stamp e (slot_at (apply w f).slots e)
own_next ops w f e lt was false off = subst (OwnAgrees (after_effect w.stamp ops f) w.stamp e) (sym (slot_other w f e off)) (own_other ops w.stamp f e (slot_at w.slots e) off was)
own_next ops w (effect.Notify d k) e lt was true on =
    let same : slot_at w.slots d ≡ slot_left_at (slot_after (own_calls ops e)) w.stamp = ap (slot_at w.slots) (sym (eq_of e d on)) ∙ was.slot in
    own_more ops w.stamp (effect.Notify d k) e (slot_at w.slots e) _ (call.Notify w.stamp k) (rw on refl) refl
    (set_slot w.slots e d (slot_after_notify (slot_at w.slots d) w.stamp k) on lt ∙ notified_left (own_calls ops e) w.stamp k (slot_at w.slots d) same) was
own_next ops w (effect.Cancel d) e lt was true on =
    own_more ops w.stamp (effect.Cancel d) e (slot_at w.slots e) _ (call.Cancel w.stamp) (rw on refl) refl
    (set_slot w.slots e d Nothing on lt ∙ cancelled_left (own_calls ops e) w.stamp) was
own_next ops w (effect.Request d v) e lt was true on = absurd cc
own_next ops w (effect.Put d v) e lt was true on = absurd cc
own_next ops w (effect.Take d) e lt was true on = absurd cc
own_next ops w effect.Stop e lt was true on = absurd cc

-- ---- an event of a channel

-- an effect that doesn't bear on an event leaves what the update will notify
bears_not_on : (k : BoundEvent) (f : Effect) (x : Channel) → bears_on k f ≡ false → is_on (channel_of k) f ≡ true → notifies k (acted f x) ≡ notifies k x
bears_not_on (event.Changed c) (effect.Request d v) x off on = absurd cc
bears_not_on (event.Rise c) (effect.Request d v) x off on = absurd cc
bears_not_on (event.Fall c) (effect.Request d v) x off on = absurd cc
bears_not_on (event.Written c) (effect.Put d v) x off on = absurd cc
bears_not_on (event.Taken c) (effect.Take d) x off on = absurd cc
bears_not_on k f (IsSignal s) off on = refl
bears_not_on k f (IsFifo g) off on = refl

-- a channel's event is made anew: notified, or not
abbrev pub pending_of : Stamp → Bool → Slot
pending_of now b = cond b (NextDelta now) Nothing

stays : (now : Stamp) → slot_left_at (NextDelta now) now ≡ NextDelta now
stays now = left_same (NextDelta now) now (grind arith)

renewed : (x : Slot) (now : Stamp) (b n : Bool) → slot_left_at x now ≡ pending_of now b → slot_left_at (slot_after_call x (renewal now n)) now ≡ pending_of now n
renewed x now b false is = refl
renewed x now true true is = ap (λ y. slot_left_at (slot_after_delta y now) now) is ∙ stays now
renewed x now false true is = ap (λ y. slot_left_at (slot_after_delta y now) now) is ∙ stays now

renewal_stamp : (now : Stamp) (b : Bool) → stamp_of (renewal now b) ≡ now
renewal_stamp now true = refl
renewal_stamp now false = refl

module _ (ops : Operations) (now : Stamp) (f : Effect) (k : BoundEvent) (x : Slot) (by : ChannelIsBy ops (channel_of k) now) (was : NoticeAgrees ops now k x) where
  abbrev after : Operations
  after = after_effect now ops f

  bears : bears_on k f ≡ true → is_on (channel_of k) f ≡ true → NoticeAgrees after now k x
  bears is on =
      let n : Bool = notifies k (channel_in now after (channel_of k)) in
      let c : Call = renewal now n in
      let same : channel_calls after k ≡ channel_calls ops k ++ c ∷ [] =
      channel_calls-after ops now f k
      ∙ ap (λ y. channel_calls ops k ++ renewals k y (operation now f)) (channel-here ops now f (channel_of k) by on)
      ∙ rw is refl in
      record {
        in_order = subst (AreInOrder None) (sym same) (AreInOrder-push None (channel_calls ops k) c was.in_order (subst (Follows (last_stamp None (channel_calls ops k))) (sym (renewal_stamp now n)) was.by));
        by = subst (λ cs. Follows (last_stamp None cs) now) (sym same) (follows-push (channel_calls ops k) c now (renewal_stamp now n));
        quiet = was.quiet;
        pending =
            ap (λ cs. slot_left_at (slot_after cs) now) same
            ∙ ap (λ y. slot_left_at y now) (slot-push (channel_calls ops k) c)
            ∙ renewed (slot_after (channel_calls ops k)) now (notifies k (channel_in now ops (channel_of k))) n was.pending;
      }

  keeps : bears_on k f ≡ false → notifies k (channel_in now after (channel_of k)) ≡ notifies k (channel_in now ops (channel_of k)) → NoticeAgrees after now k x
  keeps is still =
      let same : channel_calls after k ≡ channel_calls ops k = channel_calls-after ops now f k ∙ rw is (append-nil (channel_calls ops k)) in
      record {
        in_order = subst (AreInOrder None) (sym same) was.in_order;
        by = subst (λ cs. Follows (last_stamp None cs) now) (sym same) was.by;
        quiet = was.quiet;
        pending = ap (λ cs. slot_left_at (slot_after cs) now) same ∙ was.pending ∙ ap (pending_of now) (sym still);
      }

  pub notice_next : (a b : Bool) → bears_on k f ≡ a → is_on (channel_of k) f ≡ b → NoticeAgrees after now k x
  notice_next true true is on = bears is on
  notice_next true false is off = absurd (let g = bears_not k f off in cc)
  notice_next false true is on = keeps is (ap (notifies k) (channel-on ops now f (channel_of k) by on) ∙ bears_not_on k f (channel_in now ops (channel_of k)) is on)
  notice_next false false is off = keeps is (ap (notifies k) (channel-other ops now f (channel_of k) by off))

-- ---- events by kind

pub as_notice : (ops : Operations) (now : Stamp) (e : ℕ) (k : BoundEvent) (x : Slot) → k ≢ event.Own → EventAgrees ops now e k x → NoticeAgrees ops now k x
as_notice ops now e event.Own x ne h = absurd (ne refl)
as_notice ops now e (event.Changed c) x ne h = h
as_notice ops now e (event.Rise c) x ne h = h
as_notice ops now e (event.Fall c) x ne h = h
as_notice ops now e (event.Written c) x ne h = h
as_notice ops now e (event.Taken c) x ne h = h

pub of_notice : (ops : Operations) (now : Stamp) (e : ℕ) (k : BoundEvent) (x : Slot) → k ≢ event.Own → NoticeAgrees ops now k x → EventAgrees ops now e k x
of_notice ops now e event.Own x ne h = absurd (ne refl)
of_notice ops now e (event.Changed c) x ne h = h
of_notice ops now e (event.Rise c) x ne h = h
of_notice ops now e (event.Fall c) x ne h = h
of_notice ops now e (event.Written c) x ne h = h
of_notice ops now e (event.Taken c) x ne h = h

-- the event is the model's own, or of a channel
pub data Source : BoundEvent → Type 0 where
  own : Source event.Own
  of_channel : {k : BoundEvent} → k ≢ event.Own → Source k

pub source_of : (k : BoundEvent) → Source k
source_of event.Own = own
source_of (event.Changed c) = of_channel (λ e. cc)
source_of (event.Rise c) = of_channel (λ e. cc)
source_of (event.Fall c) = of_channel (λ e. cc)
source_of (event.Written c) = of_channel (λ e. cc)
source_of (event.Taken c) = of_channel (λ e. cc)

-- the same channels fit an event
pub fits_as : (ops others : Operations) (k : BoundEvent) → others.channels ≡ ops.channels → FitsChannels others k → FitsChannels ops k
fits_as ops others event.Own same h = tt
fits_as ops others (event.Changed c) same h = record { channel = h.channel; is = ap (λ xs. slice_get xs c) (sym same) ∙ h.is; kind = h.kind }
fits_as ops others (event.Rise c) same h = record { channel = h.channel; is = ap (λ xs. slice_get xs c) (sym same) ∙ h.is; kind = h.kind }
fits_as ops others (event.Fall c) same h = record { channel = h.channel; is = ap (λ xs. slice_get xs c) (sym same) ∙ h.is; kind = h.kind }
fits_as ops others (event.Written c) same h = record { channel = h.channel; is = ap (λ xs. slice_get xs c) (sym same) ∙ h.is; kind = h.kind }
fits_as ops others (event.Taken c) same h = record { channel = h.channel; is = ap (λ xs. slice_get xs c) (sym same) ∙ h.is; kind = h.kind }

-- the channel of an event is there
pub fits_below : (ops : Operations) (k : BoundEvent) → k ≢ event.Own → FitsChannels ops k → channel_of k < length ops.channels
fits_below ops event.Own ne h = absurd (ne refl)
fits_below ops (event.Changed c) ne h = slice_get_within ops.channels c h.channel h.is
fits_below ops (event.Rise c) ne h = slice_get_within ops.channels c h.channel h.is
fits_below ops (event.Fall c) ne h = slice_get_within ops.channels c h.channel h.is
fits_below ops (event.Written c) ne h = slice_get_within ops.channels c h.channel h.is
fits_below ops (event.Taken c) ne h = slice_get_within ops.channels c h.channel h.is

-- an effect makes no call on an event of a channel
no_call : (ops : Operations) (f : Effect) (e : ℕ) (k : BoundEvent) → Names ops f → slice_get ops.events e ≡ Some k → k ≢ event.Own → (b : Bool) → is_call_on e f ≡ b → b ≡ false
no_call ops f e k names is ne false on = refl
no_call ops (effect.Notify d t) e k names is ne true on = absurd (ne (let at : slice_get ops.events d ≡ Some k = ap (slice_get ops.events) (sym (eq_of e d on)) ∙ is in cc (at, names)))
no_call ops (effect.Cancel d) e k names is ne true on = absurd (ne (let at : slice_get ops.events d ≡ Some k = ap (slice_get ops.events) (sym (eq_of e d on)) ∙ is in cc (at, names)))
no_call ops (effect.Request d v) e k names is ne true on = absurd cc
no_call ops (effect.Put d v) e k names is ne true on = absurd cc
no_call ops (effect.Take d) e k names is ne true on = absurd cc
no_call ops effect.Stop e k names is ne true on = absurd cc

-- ---- one effect

module _ (ops : Operations) (w : World) (f : Effect) (h : Agrees ops w) (names : Names ops f) where
  abbrev made : Operations
  made = after_effect w.stamp ops f

  channel_next : (c : ℕ) → c < length ops.channels → (b : Bool) → is_on c f ≡ b → ChannelAgrees made w.stamp c (channel_at (apply w f).channels c) (history_at w.histories c)
  channel_next c lt true on =
      subst (λ x. ChannelAgrees made w.stamp c x (history_at w.histories c)) (sym (world_on w f c on (omega (arith, h.channel_count))))
      (agrees-on ops w.stamp f c (h.channels c lt).by (channel_at w.channels c) (history_at w.histories c) on (h.channels c lt))
  channel_next c lt false off =
      subst (λ x. ChannelAgrees made w.stamp c x (history_at w.histories c)) (sym (world_other w f c off))
      (agrees-other ops w.stamp f c (h.channels c lt).by (channel_at w.channels c) (history_at w.histories c) off (h.channels c lt))

  slot_next : (e : ℕ) (k : BoundEvent) → slice_get ops.events e ≡ Some k → FitsChannels ops k → EventAgrees made w.stamp e k (slot_at (apply w f).slots e)
  slot_next e k is fits = go (source_of k) is fits (h.slots e k is fits) where
    go : {j : BoundEvent} → Source j → slice_get ops.events e ≡ Some j → FitsChannels ops j → EventAgrees ops w.stamp e j (slot_at w.slots e) → EventAgrees made w.stamp e j (slot_at (apply w f).slots e)
    go own at fit was = own_next ops w f e (omega (arith, h.slot_count, slice_get_within ops.events e event.Own at)) was (is_call_on e f) refl
    go (of_channel {k = j} ne) at fit was =
        of_notice made w.stamp e j (slot_at (apply w f).slots e) ne
        (subst (NoticeAgrees made w.stamp j) (sym (slot_other w f e (no_call ops f e j names at ne (is_call_on e f) refl)))
        (notice_next ops w.stamp f j (slot_at w.slots e) (h.channels (channel_of j) (fits_below ops j ne fit)).by (as_notice ops w.stamp e j (slot_at w.slots e) ne was) (bears_on j f) (is_on (channel_of j) f) refl refl))

  pub applied_agrees : Agrees made (apply w f)
  applied_agrees = record {
    channel_count = channel_count w f ∙ h.channel_count;
    history_count = ap length (histories-apply w f) ∙ h.history_count;
    events = events-apply w f ∙ h.events;
    slot_count = slot_count w f ∙ h.slot_count;
    channels = λ c lt.
        subst (λ (s : Stamp). ChannelAgrees made s c (channel_at (apply w f).channels c) (history_at (apply w f).histories c)) (sym (stamp-apply w f))
        (subst (λ hs. ChannelAgrees made w.stamp c (channel_at (apply w f).channels c) (history_at hs c)) (sym (histories-apply w f)) (channel_next c lt (is_on c f) refl));
    slots = λ e k is fits. subst (λ (s : Stamp). EventAgrees made s e k (slot_at (apply w f).slots e)) (sym (stamp-apply w f)) (slot_next e k is (fits_as ops made k refl fits));
  }

-- ---- the effects of an activation, and its end

all_applied : (ops : Operations) (w : World) (now : Stamp) (fs : List Effect) → now ≡ w.stamp → Agrees ops w → MayApplyAll ops now fs → Agrees (after_effects now ops fs) (apply_all w fs)
all_applied ops w now [] is h may = h
all_applied ops w now (f ∷ fs) is h may =
    all_applied (after_effect now ops f) (apply w f) now fs (is ∙ sym (stamp-apply w f))
    (subst (λ (s : Stamp). Agrees (after_effect s ops f) (apply w f)) (sym is) (applied_agrees ops w f h may.0.names))
    may.1

pub all_applied_agree : (ops : Operations) (w : World) (fs : List Effect) → Agrees ops w → MayApplyAll ops w.stamp fs → Agrees (after_effects w.stamp ops fs) (apply_all w fs)
all_applied_agree ops w fs h may = all_applied ops w w.stamp fs refl h may

pub deed_agrees : (ops : Operations) (w : World) (p : ℕ) (d : Deed) → Agrees ops w → MayApplyAll ops w.stamp d.effects → Agrees (after_effects w.stamp ops d.effects) (after_deed p w d)
unfolding after_deed
deed_agrees ops w p d h may =
    let g = all_applied_agree ops w d.effects h may in
    record {
      channel_count = g.channel_count;
      history_count = g.history_count;
      events = g.events;
      slot_count = g.slot_count;
      channels = g.channels;
      slots = g.slots;
    }
