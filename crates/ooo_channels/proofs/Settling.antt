-- As a cycle ends, the operations agree with the next cycle's world, or have the histories of the run that is over.
use Rattle.std.proofs.Common.{◌≡◌, ℕ, zero, suc, ◌<◌, ◌==◌, Bool, true, false, cond, arith, List, [], ◌∷◌, Option, Some, None, refl, sym, subst, ap, ◌∙◌, get_or, map, inl, inr}
use Rattle.std.specs.Prelude.{nat_lt}
use Rattle.std.proofs.Math.ListN.{get_or-map}
use Rattle.std.proofs.lemmas.List.{length-map}
use Rattle.ooo_time.specs.declared.stamp.Stamp.{Stamp}
use Rattle.ooo_time.specs.Stamps.{IsBefore}
use Rattle.ooo_value.specs.declared.bound.BoundEvent.{BoundEvent}
use Rattle.ooo_events.specs.Slots.{Slot, Nothing, due_of, slot_left_at}
use Rattle.ooo_code.specs.declared.limits.Limits.{Limits}
use Rattle.ooo_code.specs.Channels.{Channel, is_notified}
use Rattle.ooo_history.specs.declared.run.End.{End}
use Rattle.ooo_history.specs.declared.run.End.TheVariants as end
use Rattle.ooo_meaning.specs.World.{World, Wait, slot_at, wait_at, never, is_due, woken, next_delta, notified_slots, update, reach, some_runnable, least, least_activity, least_pending, Over, Goes, advance, later, in_delta, notified, settle_at, settle}
use Rattle.ooo_channels.specs.Operations.{Operations}
use Rattle.ooo_channels.specs.Agreement.{IsAhead, IsTimely, EventAgrees, Agrees, IsNextStamp, HasHistories, GoesOn, shown_up_to}
use Rattle.ooo_channels.proofs.Slots.{left_twice}
use Rattle.ooo_channels.proofs.Reaching.{channels_reached, length-longer, reached_agrees}
use Rattle.ooo_channels.proofs.Ahead.{left_ahead, left_timed, notified_ahead, Holds, holds_least, holds_sooner, From, from_least, from_sooner, woken_timeout, delta_stays, delta_timed, later_stays}

-- ---- the slots and the time-outs after an update

slots_notified : (now : Stamp) (cs : List Channel) (es : List BoundEvent) (xs : List Slot) → ((e : ℕ) → IsAhead now (slot_at xs e)) → (e : ℕ) → IsAhead now (slot_at (notified_slots now cs es xs) e)
slots_notified now cs [] xs h e = h e
slots_notified now cs (j ∷ js) [] h e = h e
slots_notified now cs (j ∷ js) (x ∷ xs) h zero = notified_ahead now (is_notified cs j) x (h zero)
slots_notified now cs (j ∷ js) (x ∷ xs) h (suc e) = slots_notified now cs js xs (λ d. h (suc d)) e

-- ---- the world that is reached

module _ (w : World) (h : IsTimely w) where
  slots_updated : (e : ℕ) → IsAhead w.stamp (slot_at (update w).slots e)
  unfolding update
  slots_updated = slots_notified w.stamp w.channels w.events w.slots h.slots

  abbrev pub next : World
  next = reach (next_delta w.stamp) (update w)

  next_slot : (e : ℕ) → slot_at next.slots e ≡ slot_left_at (slot_at (update w).slots e) (next_delta w.stamp)
  unfolding reach
  next_slot e = get_or-map (λ x. slot_left_at x (next_delta w.stamp)) (update w).slots e Nothing

  next_wait : (p : ℕ) → wait_at next.waits p ≡ woken (next_delta w.stamp) (update w).slots (wait_at w.waits p)
  unfolding reach update
  next_wait p = get_or-map (woken (next_delta w.stamp) (update w).slots) w.waits p never

  next_stamp : next.stamp ≡ next_delta w.stamp
  unfolding reach
  next_stamp = refl

  -- what is pending then, for a later time
  slot_timed : (e : ℕ) → Holds (λ (t : Stamp). w.stamp.time.0 < t.time.0) (due_of (slot_at next.slots e))
  slot_timed e = subst (λ x. Holds (λ (t : Stamp). w.stamp.time.0 < t.time.0) (due_of x)) (sym (next_slot e)) (go (due_of x) refl) where
    x : Slot
    x = slot_left_at (slot_at (update w).slots e) (next_delta w.stamp)

    go : (o : Option Stamp) → due_of x ≡ o → Holds (λ (t : Stamp). w.stamp.time.0 < t.time.0) o
    go None is = tt
    go (Some u) is = left_timed w.stamp u (slot_at (update w).slots e) (slots_updated e) is

  timeout_timed : (p : ℕ) → Holds (λ (t : Stamp). w.stamp.time.0 < t.time.0) (due_of (wait_at next.waits p).timeout)
  timeout_timed p =
      subst (λ (x : Wait). Holds (λ (t : Stamp). w.stamp.time.0 < t.time.0) (due_of x.timeout)) (sym (next_wait p))
      (woken_timeout (λ x. Holds (λ (t : Stamp). w.stamp.time.0 < t.time.0) (due_of x)) (next_delta w.stamp) (update w).slots (wait_at w.waits p) tt
      (λ off. go off (due_of (wait_at w.waits p).timeout) refl)) where
        go : is_due (next_delta w.stamp) (wait_at w.waits p).timeout ≡ false → (o : Option Stamp) → due_of (wait_at w.waits p).timeout ≡ o → Holds (λ (t : Stamp). w.stamp.time.0 < t.time.0) o
        go off None is = tt
        go off (Some u) is = delta_timed w.stamp u (wait_at w.waits p).timeout (h.timeouts p) off is

  pub next_timely : IsTimely next
  unfolding reach
  next_timely = record {
    slots = λ e. subst (IsAhead (next_delta w.stamp)) (sym (next_slot e)) (left_ahead w.stamp (next_delta w.stamp) (slot_at (update w).slots e) (grind arith) (slots_updated e));
    timeouts = λ p.
        subst (λ (x : Wait). IsAhead (next_delta w.stamp) x.timeout) (sym (next_wait p))
        (woken_timeout (IsAhead (next_delta w.stamp)) (next_delta w.stamp) (update w).slots (wait_at w.waits p) tt
        (delta_stays w.stamp (wait_at w.waits p).timeout (h.timeouts p)));
  }

  -- the dues of slots and of time-outs, by their place
  slot_due : (x : World) (e : ℕ) → get_or (map due_of x.slots) e None ≡ due_of (slot_at x.slots e)
  slot_due x e = get_or-map due_of x.slots e Nothing

  timeout_due : (x : World) (p : ℕ) → get_or (map (λ (y : Wait). due_of y.timeout) x.waits) p None ≡ due_of (wait_at x.waits p).timeout
  timeout_due x p = get_or-map (λ (y : Wait). due_of y.timeout) x.waits p never

  -- the earliest stamp for which anything is pending then is at a later time
  pending_timed : Holds (λ (t : Stamp). w.stamp.time.0 < t.time.0) (least_pending next)
  pending_timed =
      let P : Stamp → Type 0 = λ t. w.stamp.time.0 < t.time.0 in
      holds_sooner P (least (map due_of next.slots)) (least (map (λ (y : Wait). due_of y.timeout) next.waits))
      (holds_least P (map due_of next.slots) (λ e. subst (Holds P) (sym (slot_due next e)) (slot_timed e)))
      (holds_least P (map (λ (y : Wait). due_of y.timeout) next.waits) (λ p. subst (Holds P) (sym (timeout_due next p)) (timeout_timed p)))

  module _ (t : Stamp) (is : least_pending next ≡ Some t) where
    pub is_later : w.stamp.time.0 < t.time.0
    is_later = let f : Holds (λ (s : Stamp). w.stamp.time.0 < s.time.0) (Some t) = subst (Holds (λ (s : Stamp). w.stamp.time.0 < s.time.0)) is pending_timed in f

    timeout_from : (p : ℕ) → From t (due_of (wait_at next.waits p).timeout)
    timeout_from p =
        let all : From t (least_pending next) = subst (From t) (sym is) (λ k. grind arith) in
        let both = from_sooner t (least (map due_of next.slots)) (least (map (λ (y : Wait). due_of y.timeout) next.waits)) all in
        subst (From t) (timeout_due next p) (from_least t (map (λ (y : Wait). due_of y.timeout) next.waits) both.1 p)

    pub then_timely : IsTimely (reach t next)
    unfolding reach
    then_timely = record {
      slots = λ e. subst (IsAhead t) (sym (get_or-map (λ x. slot_left_at x t) next.slots e Nothing)) (left_ahead (next_delta w.stamp) t (slot_at next.slots e) (let lt = is_later in grind arith) (next_timely.slots e));
      timeouts = λ p.
          subst (λ (x : Wait). IsAhead t x.timeout) (sym (get_or-map (woken t next.slots) next.waits p never))
          (woken_timeout (IsAhead t) t next.slots (wait_at next.waits p) tt
          (later_stays (next_delta w.stamp) t (wait_at next.waits p).timeout is_later (next_timely.timeouts p) (timeout_from p)));
    }

-- ---- the phases

module _ (ops : Operations) (w : World) (h : Agrees ops w) where
  -- the next delta cycle
  pub next_agrees : Agrees ops (reach (next_delta w.stamp) (update w))
  next_agrees = reached_agrees ops w (next_delta w.stamp) h (inl refl)

  -- a later time, after it
  pub then_agrees : (s t : Stamp) → IsBefore s t → IsNextStamp w.stamp t → Agrees ops (reach t (reach s (update w)))
  unfolding reach
  then_agrees s t lt next =
      let g = reached_agrees ops w t h next in
      record {
        channel_count = g.channel_count;
        history_count = g.history_count;
        events = g.events;
        slot_count = length-map (map (λ x. slot_left_at x s) (update w).slots) (λ x. slot_left_at x t) ∙ length-map (update w).slots (λ x. slot_left_at x s) ∙ sym (length-map (update w).slots (λ x. slot_left_at x t)) ∙ g.slot_count;
        channels = g.channels;
        slots = λ e k is fits. subst (EventAgrees ops t e k) (sym (slot_twice e)) (g.slots e k is fits);
      } where
        ys : List Slot
        ys = (update w).slots

        slot_twice : (e : ℕ) → slot_at (map (λ x. slot_left_at x t) (map (λ x. slot_left_at x s) (update w).slots)) e ≡ slot_at (map (λ x. slot_left_at x t) (update w).slots) e
        slot_twice e =
            get_or-map (λ x. slot_left_at x t) (map (λ x. slot_left_at x s) (update w).slots) e Nothing
            ∙ ap (λ y. slot_left_at y t) (get_or-map (λ x. slot_left_at x s) (update w).slots e Nothing)
            ∙ left_twice (slot_at (update w).slots e) s t lt
            ∙ sym (get_or-map (λ x. slot_left_at x t) (update w).slots e Nothing)

  -- the histories once the update is made
  updated_histories : HasHistories ops (next_delta w.stamp) (update w)
  unfolding update
  updated_histories = record {
    count = length-longer w.stamp w.channels w.histories ∙ h.history_count;
    each = λ c lt. (channels_reached ops w (next_delta w.stamp) h (inl refl) c lt).history;
  }

  -- and those of the world that is reached then, which are the same
  reached_histories : (s : Stamp) → HasHistories ops (next_delta w.stamp) (reach s (update w))
  unfolding reach
  reached_histories s = record { count = updated_histories.count; each = updated_histories.each }

  module _ (timely : IsTimely w) (limits : Limits) where
    abbrev reached : World
    reached = reach (next_delta w.stamp) (update w)

    goes_delta : (b : Bool) → GoesOn ops (next_delta w.stamp) (cond b (Over reached (end.Deltas reached.stamp)) (Goes reached))
    goes_delta true = reached_histories (next_delta w.stamp)
    goes_delta false = (next_agrees, next_timely w timely)

    goes_advance : (o : Option Stamp) → least_pending reached ≡ o → GoesOn ops (next_delta w.stamp) (advance reached o)
    goes_advance None is = reached_histories (next_delta w.stamp)
    goes_advance (Some t) is =
        let lt = is_later w timely t is in
        (then_agrees (next_delta w.stamp) t (grind arith) (inr lt), then_timely w timely t is)

    goes_time : (b : Bool) (t : Stamp) → GoesOn ops (next_delta w.stamp) (cond b (Over reached (end.Time limits.stop)) (advance reached (least_pending reached)))
    goes_time true t = reached_histories (next_delta w.stamp)
    goes_time false t = goes_advance (least_pending reached) refl

    goes_later : (o : Option Stamp) → GoesOn ops (next_delta w.stamp) (later limits reached o)
    goes_later None = reached_histories (next_delta w.stamp)
    goes_later (Some t) = goes_time (nat_lt limits.stop.0 t.time.0) t

    goes_notified : GoesOn ops (next_delta w.stamp) (notified limits reached)
    unfolding notified
    goes_notified = go (some_runnable reached) where
      go : (b : Bool) → GoesOn ops (next_delta w.stamp) (cond b (in_delta limits reached) (later limits reached (least_activity reached)))
      go true = goes_delta (reached.stamp.delta == limits.deltas)
      go false = goes_later (least_activity reached)

    goes_stopped : (b : Bool) → GoesOn ops (next_delta w.stamp) (cond b (Over (update w) (end.Stop w.stamp)) (notified limits reached))
    goes_stopped true = updated_histories
    goes_stopped false = goes_notified

    -- after the evaluation of a cycle
    pub settled : GoesOn ops (shown_up_to w) (settle limits w)
    unfolding settle
    settled = go w.broken where
      go : (o : Option End) → GoesOn ops (elim o [ None ↦ next_delta w.stamp | Some e ↦ w.stamp ]) (settle_at limits w o)
      go None = goes_stopped w.stopped
      go (Some e) = record { count = h.history_count; each = λ c lt. (h.channels c lt).history }
