-- The update, and the notifications of a later stamp, keep the agreement of the operations with the world.
use Rattle.std.proofs.Common.{◌≡◌, ◌≢◌, ℕ, zero, suc, ◌<◌, ◌++◌, Bool, true, false, cond, arith, List, [], ◌∷◌, Some, refl, sym, subst, ap, ◌∙◌, length, map, append-nil, ⊎_elim}
use Rattle.std.specs.Prelude.{slice_get}
use Rattle.std.proofs.Math.ListN.{get_or-map}
use Rattle.std.proofs.lemmas.List.{length-map}
use Rattle.std.proofs.lemmas.Option.{slice_get-get_or, slice_get_within}
use Rattle.ooo_time.specs.declared.stamp.Stamp.{Stamp}
use Rattle.ooo_time.specs.Stamps.{IsBefore}
use Rattle.ooo_value.specs.declared.bound.BoundEvent.{BoundEvent}
use Rattle.ooo_value.specs.declared.bound.BoundEvent.TheVariants as event
use Rattle.ooo_events.specs.Slots.{Slot, Nothing, NextDelta, due_of, slot_left_at, slot_after_delta}
use Rattle.ooo_events.specs.Firings.{Fires, IsFirstAfter, slot_after}
use Rattle.ooo_code.specs.Channels.{Channel, is_notified, updated}
use Rattle.ooo_history.specs.declared.run.Entry.{Entry}
use Rattle.ooo_meaning.specs.World.{World, slot_at, channel_at, no_channel, next_delta, entries_of, longer_histories, notified_slots, update, reach}
use Rattle.ooo_channels.specs.Operations.{Operations}
use Rattle.ooo_channels.specs.Cycles.{Cycle, cycle_of, later_channel, channel_in, history_in}
use Rattle.ooo_channels.specs.Calls.{own_calls, channel_calls, calls_of, calls_by, channel_of, notifies, FiresAt}
use Rattle.ooo_channels.specs.Conditions.{ChannelIsBy, FitsChannels, HasEventAt}
use Rattle.ooo_channels.specs.Agreement.{AreAlike, ChannelAgrees, OwnAgrees, NoticeAgrees, EventAgrees, Agrees, IsNextStamp, history_at}
use Rattle.ooo_channels.proofs.Orders.{Earlier, earlier, not_earlier, earlier_or_not, IsBefore-trans, IsBefore-irrefl, IsBefore-from_not}
use Rattle.ooo_channels.proofs.Moves.{cycle_at-later, cycle_at-here}
use Rattle.ooo_channels.proofs.Asking.{calls_of-kind, calls_by-channel}
use Rattle.ooo_channels.proofs.Slots.{left_twice, left_none}
use Rattle.ooo_channels.proofs.Firsts.{first_by_calls}
use Rattle.ooo_channels.proofs.Cores.{notifies_alike, entries_alike, later_here, later_there, no_entries_there, quiet_later}
use Rattle.ooo_channels.proofs.Agreeing.{same_place, Source, own, of_channel, source_of, as_notice, of_notice, fits_below, pending_of}

pub next_is_later : (now s : Stamp) → IsNextStamp now s → IsBefore now s
next_is_later now s n = ⊎_elim (λ e. rw e (grind arith)) (λ lt. grind arith) n

-- ---- lists of the world

channel-map : (f : Channel → Channel) (xs : List Channel) (c : ℕ) → c < length xs → channel_at (map f xs) c ≡ f (channel_at xs c)
channel-map f [] c lt = absurd (omega arith)
channel-map f (x ∷ xs) zero lt = refl
channel-map f (x ∷ xs) (suc c) lt = channel-map f xs c (omega arith)

history-longer : (s : Stamp) (cs : List Channel) (hs : List (List Entry)) (c : ℕ) → c < length cs → c < length hs → history_at (longer_histories s cs hs) c ≡ history_at hs c ++ entries_of s (channel_at cs c)
history-longer s [] hs c lt below = absurd (omega arith)
history-longer s (x ∷ xs) [] c lt below = absurd (omega arith)
history-longer s (x ∷ xs) (h ∷ hs) zero lt below = refl
history-longer s (x ∷ xs) (h ∷ hs) (suc c) lt below = history-longer s xs hs c (omega arith) (omega arith)

pub length-longer : (s : Stamp) (cs : List Channel) (hs : List (List Entry)) → length (longer_histories s cs hs) ≡ length hs
length-longer s [] hs = refl
length-longer s (x ∷ xs) [] = refl
length-longer s (x ∷ xs) (h ∷ hs) = ap suc (length-longer s xs hs)

slot-notified : (s : Stamp) (cs : List Channel) (es : List BoundEvent) (xs : List Slot) (e : ℕ) (k : BoundEvent) → slice_get es e ≡ Some k → e < length xs →
    slot_at (notified_slots s cs es xs) e ≡ cond (is_notified cs k) (slot_after_delta (slot_at xs e) s) (slot_at xs e)
slot-notified s cs [] xs e k is lt = absurd cc
slot-notified s cs (j ∷ js) [] e k is lt = absurd (omega arith)
slot-notified s cs (j ∷ js) (x ∷ xs) zero k is lt = let same : j ≡ k = cc in ap (λ i. cond (is_notified cs i) (slot_after_delta x s) x) same
slot-notified s cs (j ∷ js) (x ∷ xs) (suc e) k is lt = slot-notified s cs js xs e k is (omega arith)

pub length-notified : (s : Stamp) (cs : List Channel) (es : List BoundEvent) (xs : List Slot) → length (notified_slots s cs es xs) ≡ length xs
length-notified s cs [] xs = refl
length-notified s cs (j ∷ js) [] = refl
length-notified s cs (j ∷ js) (x ∷ xs) = ap suc (length-notified s cs js xs)

-- whether the update notifies an event, by the event's own channel
notified_by_channel : (cs : List Channel) (k : BoundEvent) → k ≢ event.Own → channel_of k < length cs → is_notified cs k ≡ notifies k (channel_at cs (channel_of k))
notified_by_channel cs event.Own ne lt = refl
notified_by_channel cs (event.Changed c) ne lt = rw (slice_get-get_or cs c no_channel lt) refl
notified_by_channel cs (event.Rise c) ne lt = rw (slice_get-get_or cs c no_channel lt) refl
notified_by_channel cs (event.Fall c) ne lt = rw (slice_get-get_or cs c no_channel lt) refl
notified_by_channel cs (event.Written c) ne lt = rw (slice_get-get_or cs c no_channel lt) refl
notified_by_channel cs (event.Taken c) ne lt = rw (slice_get-get_or cs c no_channel lt) refl

-- ---- the slots after the update

module _ (ops : Operations) (w : World) (h : Agrees ops w) where
  -- the slot of an event is what the calls on it leave
  pub slot_updated : (e : ℕ) (k : BoundEvent) → slice_get ops.events e ≡ Some k → FitsChannels ops k → slot_at (update w).slots e ≡ slot_left_at (slot_after (calls_of ops e)) w.stamp
  unfolding update
  slot_updated e k is fits =
      slot-notified w.stamp w.channels w.events w.slots e k (ap (λ es. slice_get es e) h.events ∙ is) (omega (arith, h.slot_count, slice_get_within ops.events e k is))
      ∙ go (source_of k) fits (h.slots e k is fits)
      ∙ ap (λ cs. slot_left_at (slot_after cs) w.stamp) (sym (calls_of-kind ops e k is)) where
        go : {j : BoundEvent} → Source j → FitsChannels ops j → EventAgrees ops w.stamp e j (slot_at w.slots e) →
            cond (is_notified w.channels j) (slot_after_delta (slot_at w.slots e) w.stamp) (slot_at w.slots e) ≡ slot_left_at (slot_after (calls_by ops e j)) w.stamp
        go own fit was = was.slot
        go (of_channel {k = j} ne) fit was =
            let n = as_notice ops w.stamp e j (slot_at w.slots e) ne was in
            let lt = fits_below ops j ne fit in
            let same : is_notified w.channels j ≡ notifies j (channel_in w.stamp ops (channel_of j)) =
            notified_by_channel w.channels j ne (omega (arith, lt, h.channel_count))
            ∙ sym (notifies_alike w.stamp.time (channel_in w.stamp ops (channel_of j)) (channel_at w.channels (channel_of j)) (h.channels (channel_of j) lt).channel j) in
            ap (λ x. cond (is_notified w.channels j) (slot_after_delta x w.stamp) x) n.quiet
            ∙ ap (λ b. cond b (NextDelta w.stamp) Nothing) same
            ∙ sym n.pending
            ∙ ap (λ cs. slot_left_at (slot_after cs) w.stamp) (sym (calls_by-channel ops e j ne))

  -- the first firing of an event after the present stamp is when its slot is due, after the update
  pub first_is_due : (e : ℕ) → HasEventAt ops e → IsFirstAfter (FiresAt ops e) w.stamp (due_of (slot_at (update w).slots e))
  first_is_due e has =
      subst (λ x. IsFirstAfter (FiresAt ops e) w.stamp (due_of x)) (sym (slot_updated e has.kind has.is has.fits))
      (go (source_of has.kind) has.is (h.slots e has.kind has.is has.fits)) where
        go : {j : BoundEvent} → Source j → slice_get ops.events e ≡ Some j → EventAgrees ops w.stamp e j (slot_at w.slots e) → IsFirstAfter (FiresAt ops e) w.stamp (due_of (slot_left_at (slot_after (calls_of ops e)) w.stamp))
        go own at was =
            subst (λ cs. IsFirstAfter (Fires cs) w.stamp (due_of (slot_left_at (slot_after cs) w.stamp))) (sym (calls_of-kind ops e event.Own at))
            (first_by_calls (own_calls ops e) w.stamp was.in_order was.by)
        go (of_channel {k = j} ne) at was =
            let n = as_notice ops w.stamp e j (slot_at w.slots e) ne was in
            subst (λ cs. IsFirstAfter (Fires cs) w.stamp (due_of (slot_left_at (slot_after cs) w.stamp))) (sym (calls_of-kind ops e j at ∙ calls_by-channel ops e j ne))
            (first_by_calls (channel_calls ops j) w.stamp n.in_order n.by)

-- ---- a channel and its events at a later stamp

pending_past : (now s : Stamp) (b : Bool) → IsBefore now s → slot_left_at (pending_of now b) s ≡ Nothing
pending_past now s true lt = left_none (NextDelta now) s (next_delta now) refl (λ k. grind arith)
pending_past now s false lt = refl

module _ (ops : Operations) (now s : Stamp) (next : IsNextStamp now s) where
  after : IsBefore now s
  after = next_is_later now s next

  module _ (c : ℕ) (by : ChannelIsBy ops c now) where
    abbrev x : Cycle
    x = cycle_of ops c

    later : IsBefore x.stamp s
    later = IsBefore-from_not x.stamp now s by after

    channel-later : channel_in s ops c ≡ later_channel s (cycle_of ops c)
    channel-later = ap (λ (y : Cycle). y.channel) (cycle_at-later s x later)

    history-later : history_in s ops c ≡ x.history ++ entries_of x.stamp x.channel
    history-later = ap (λ (y : Cycle). y.history) (cycle_at-later s x later)

    module _ (y : Channel) (h : List Entry) (was : ChannelAgrees ops now c y h) where
      alike_later : {b : Bool} → Earlier x.stamp now b → AreAlike s.time (later_channel s x) (updated now.time y)
      alike_later (earlier k) = later_there now s x y next k (subst (λ (z : Cycle). AreAlike now.time z.channel y) (cycle_at-later now x k) was.channel)
      alike_later (not_earlier k) = later_here now s x y next (same_place x.stamp now k by) (subst (λ (z : Cycle). AreAlike now.time z.channel y) (cycle_at-here now x k) was.channel)

      entries_later : {b : Bool} → Earlier x.stamp now b → h ++ entries_of now y ≡ x.history ++ entries_of x.stamp x.channel
      entries_later (earlier k) =
          let alike : AreAlike now.time (later_channel now x) y = subst (λ (z : Cycle). AreAlike now.time z.channel y) (cycle_at-later now x k) was.channel in
          ap (λ es. h ++ es) (sym (entries_alike now.time (later_channel now x) y alike now) ∙ no_entries_there now x)
          ∙ append-nil h
          ∙ was.history
          ∙ ap (λ (z : Cycle). z.history) (cycle_at-later now x k)
      entries_later (not_earlier k) =
          let alike : AreAlike now.time x.channel y = subst (λ (z : Cycle). AreAlike now.time z.channel y) (cycle_at-here now x k) was.channel in
          ap (λ es. h ++ es) (sym (entries_alike now.time x.channel y alike now) ∙ ap (λ (t : Stamp). entries_of t x.channel) (sym (same_place x.stamp now k by)))
          ∙ ap (λ es. es ++ entries_of x.stamp x.channel) (was.history ∙ ap (λ (z : Cycle). z.history) (cycle_at-here now x k))

      pub channel_later : ChannelAgrees ops s c (updated now.time y) (h ++ entries_of now y)
      channel_later = record {
        by = λ k. IsBefore-irrefl s (IsBefore-trans s x.stamp s k later);
        channel = subst (λ z. AreAlike s.time z (updated now.time y)) (sym channel-later) (alike_later (earlier_or_not x.stamp now));
        history = entries_later (earlier_or_not x.stamp now) ∙ sym history-later;
      }

    pub notice_later : (k : BoundEvent) (a b : Slot) → channel_of k ≡ c → NoticeAgrees ops now k a → b ≡ slot_left_at (slot_after (channel_calls ops k)) now → NoticeAgrees ops s k (slot_left_at b s)
    notice_later k a b is was left =
        let n : Bool = notifies k (channel_in now ops (channel_of k)) in
        let quiet : notifies k (channel_in s ops (channel_of k)) ≡ false = ap (λ d. notifies k (channel_in s ops d)) is ∙ ap (notifies k) channel-later ∙ quiet_later k s x in
        record {
          in_order = was.in_order;
          by = λ l f. λ e. was.by l f (IsBefore-trans now s l after e);
          quiet = ap (λ z. slot_left_at z s) (left ∙ was.pending) ∙ pending_past now s n after;
          pending =
              sym (left_twice (slot_after (channel_calls ops k)) now s after)
              ∙ ap (λ z. slot_left_at z s) was.pending
              ∙ pending_past now s n after
              ∙ ap (pending_of s) (sym quiet);
        }

  pub own_later : (e : ℕ) (a b : Slot) → OwnAgrees ops now e a → b ≡ slot_left_at (slot_after (own_calls ops e)) now → OwnAgrees ops s e (slot_left_at b s)
  own_later e a b was left = record {
    in_order = was.in_order;
    by = λ l f. λ k. was.by l f (IsBefore-trans now s l after k);
    slot = ap (λ z. slot_left_at z s) left ∙ left_twice (slot_after (own_calls ops e)) now s after;
  }

-- ---- the world at a later stamp

module _ (ops : Operations) (w : World) (s : Stamp) (h : Agrees ops w) (next : IsNextStamp w.stamp s) where
  slot_reached : (e : ℕ) (k : BoundEvent) → slice_get ops.events e ≡ Some k → FitsChannels ops k → EventAgrees ops s e k (slot_left_at (slot_at (update w).slots e) s)
  slot_reached e k is fits = go (source_of k) is fits (h.slots e k is fits) (slot_updated ops w h e k is fits ∙ ap (λ cs. slot_left_at (slot_after cs) w.stamp) (calls_of-kind ops e k is)) where
    go : {j : BoundEvent} → Source j → slice_get ops.events e ≡ Some j → FitsChannels ops j → EventAgrees ops w.stamp e j (slot_at w.slots e) →
        slot_at (update w).slots e ≡ slot_left_at (slot_after (calls_by ops e j)) w.stamp → EventAgrees ops s e j (slot_left_at (slot_at (update w).slots e) s)
    go own at fit was left = own_later ops w.stamp s next e (slot_at w.slots e) (slot_at (update w).slots e) was left
    go (of_channel {k = j} ne) at fit was left =
        of_notice ops s e j (slot_left_at (slot_at (update w).slots e) s) ne
        (notice_later ops w.stamp s next (channel_of j) (h.channels (channel_of j) (fits_below ops j ne fit)).by j (slot_at w.slots e) (slot_at (update w).slots e) refl
        (as_notice ops w.stamp e j (slot_at w.slots e) ne was)
        (left ∙ ap (λ cs. slot_left_at (slot_after cs) w.stamp) (calls_by-channel ops e j ne)))

  pub channels_reached : (c : ℕ) → c < length ops.channels → ChannelAgrees ops s c (channel_at (update w).channels c) (history_at (update w).histories c)
  unfolding update
  channels_reached c lt =
      let g = h.channels c lt in
      subst (λ z. ChannelAgrees ops s c z (history_at (longer_histories w.stamp w.channels w.histories) c)) (sym (channel-map (updated w.stamp.time) w.channels c (omega (arith, h.channel_count))))
      (subst (ChannelAgrees ops s c (updated w.stamp.time (channel_at w.channels c))) (sym (history-longer w.stamp w.channels w.histories c (omega (arith, h.channel_count)) (omega (arith, h.history_count))))
      (channel_later ops w.stamp s next c g.by (channel_at w.channels c) (history_at w.histories c) g))

  -- the world after its update, in the cycle of a later stamp
  pub reached_agrees : Agrees ops (reach s (update w))
  unfolding reach update
  reached_agrees = record {
    channel_count = length-map w.channels (updated w.stamp.time) ∙ h.channel_count;
    history_count = length-longer w.stamp w.channels w.histories ∙ h.history_count;
    events = h.events;
    slot_count = length-map (update w).slots (λ x. slot_left_at x s) ∙ length-notified w.stamp w.channels w.events w.slots ∙ h.slot_count;
    channels = channels_reached;
    slots = λ e k is fits. subst (EventAgrees ops s e k) (sym (get_or-map (λ x. slot_left_at x s) (update w).slots e Nothing)) (slot_reached e k is fits);
  }
