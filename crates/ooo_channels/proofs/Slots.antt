-- Slots moved along stamps.
use Rattle.std.proofs.Common.{◌≡◌, ◌<◌, ◌+◌, Bool, true, false, not, cond, arith, Option, Some, None, refl, sym, subst, ap, ◌∙◌, eqb, ltb}
use Rattle.std.proofs.lemmas.Bool.Decides.{nat_tests}
use Rattle.ooo_time.specs.declared.stamp.Stamp.{Stamp}
use Rattle.ooo_time.specs.declared.time.Time.{Time}
use Rattle.ooo_time.specs.Stamps.{IsBefore}
use Rattle.ooo_events.specs.Slots.{Slot, Nothing, NextDelta, AtTime, due_of, slot_left_at, slot_after_notify, slot_after_delta, slot_after_timed}
use Rattle.ooo_channels.proofs.Orders.{Earlier, earlier, not_earlier, earlier_or_not, is_before-yes, is_before-no, IsBefore-trans}

-- a stamp, if any, is after this one
abbrev pub Later : Stamp → Option Stamp → Type 0
Later s None = Unit {0}
Later s (Some t) = IsBefore s t

-- what is left at a stamp is due after it
pub left_is_later : (slot : Slot) (at : Stamp) → Later at (due_of (slot_left_at slot at))
left_is_later slot at = go (due_of slot) refl where
  cases : (d : Stamp) {b : Bool} → due_of slot ≡ Some d → Earlier at d b → Later at (due_of (cond (not b) Nothing slot))
  cases d e (earlier h) = subst (Later at) (sym e) h
  cases d e (not_earlier h) = tt

  go : (o : Option Stamp) → due_of slot ≡ o → Later at (due_of (slot_left_at slot at))
  go None e = rw (e) (rw e tt)
  go (Some d) e = rw e (cases d e (earlier_or_not at d))

-- what is due later is left as it is
pub left_same : (slot : Slot) (at : Stamp) → Later at (due_of slot) → slot_left_at slot at ≡ slot
left_same slot at h = go (due_of slot) refl h where
  go : (o : Option Stamp) → due_of slot ≡ o → Later at o → slot_left_at slot at ≡ slot
  go None e k = rw e refl
  go (Some d) e k = rw (e, is_before-yes at d k) refl

-- what is not due later is not left
pub left_none : (slot : Slot) (at d : Stamp) → due_of slot ≡ Some d → ¬ IsBefore at d → slot_left_at slot at ≡ Nothing
left_none slot at d e h = rw (e, is_before-no at d h) refl

pub left_twice : (slot : Slot) (s t : Stamp) → IsBefore s t → slot_left_at (slot_left_at slot s) t ≡ slot_left_at slot t
left_twice slot s t lt = go (due_of slot) refl where
  cases : (d : Stamp) {b : Bool} → due_of slot ≡ Some d → Earlier s d b → slot_left_at (slot_left_at slot s) t ≡ slot_left_at slot t
  cases d e (earlier h) = ap (λ x. slot_left_at x t) (left_same slot s (subst (Later s) (sym e) h))
  cases d e (not_earlier h) = ap (λ x. slot_left_at x t) (left_none slot s d e h) ∙ sym (left_none slot t d e (λ k. h (IsBefore-trans s t d lt k)))

  go : (o : Option Stamp) → due_of slot ≡ o → slot_left_at (slot_left_at slot s) t ≡ slot_left_at slot t
  go None e = ap (λ x. slot_left_at x t) (left_same slot s (subst (Later s) (sym e) tt))
  go (Some d) e = cases d e (earlier_or_not s d)

-- a notification leaves a slot that is due later
delta_is_later : (slot : Slot) (at : Stamp) → Later at (due_of slot) → Later at (due_of (slot_after_delta slot at))
delta_is_later Nothing at h = grind arith
delta_is_later (NextDelta made) at h = h
delta_is_later (AtTime t) at h = grind arith

timed_is_later : (slot : Slot) (at : Stamp) (t : Time) → at.time.0 < t.0 → Later at (due_of slot) → Later at (due_of (slot_after_timed slot t))
timed_is_later Nothing at t lt h = grind arith
timed_is_later (NextDelta made) at t lt h = h
timed_is_later (AtTime u) at t lt h = go (ltb t.0 u.0) where
  go : (b : Bool) → Later at (due_of (cond b (AtTime t) (AtTime u)))
  go true = grind arith
  go false = h

pub notify_is_later : (slot : Slot) (at : Stamp) (k : Time) → Later at (due_of slot) → Later at (due_of (slot_after_notify slot at k))
notify_is_later slot at k h = go (eqb k.0 0) refl where
  later : Time
  later = record { 0 = at.time.0 + k.0 }

  go : (b : Bool) → eqb k.0 0 ≡ b → Later at (due_of (cond b (slot_after_delta slot at) (slot_after_timed slot later)))
  go true e = delta_is_later slot at h
  go false e = timed_is_later slot at later (grind (arith, nat_tests)) h
