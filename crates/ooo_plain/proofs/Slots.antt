-- Slots moved along stamps.
use Rattle.std.proofs.Common.{◌≡◌, ◌↔◌, ◌⊎◌, inl, inr, Bool, not, cond, arith, Option, Some, None, refl, sym, subst, ap, ◌∙◌}
use Rattle.ooo_time.specs.declared.stamp.Stamp.{Stamp}
use Rattle.ooo_time.specs.Stamps.{IsBefore}
use Rattle.ooo_events.specs.Slots.{Slot, Nothing, NextDelta, AtTime, due_of, slot_left_at, slot_after_delta}
use Rattle.ooo_meaning.specs.World.{next_delta}
use Rattle.ooo_channels.specs.Agreement.{IsAhead}
use Rattle.ooo_plain.proofs.Order.{Earlier, earlier, not_earlier, earlier_or_not, is_before-yes, is_before-no, IsBefore-trans}

-- a stamp, if any, is after this one
abbrev pub Later : Stamp → Option Stamp → Type 0
Later s None = Unit {0}
Later s (Some t) = IsBefore s t

-- what is left at a stamp is due after it
pub left_is_later : (slot : Slot) (at : Stamp) → Later at (due_of (slot_left_at slot at))
left_is_later slot at = go (due_of slot) refl where
  cases : (d : Stamp) {b : Bool} → due_of slot ≡ Some d → Earlier at d b → Later at (due_of (cond (not b) Nothing slot))
  cases d e (earlier h) = subst (Later at) (sym e) h
  cases d e (not_earlier h) = tt

  go : (o : Option Stamp) → due_of slot ≡ o → Later at (due_of (slot_left_at slot at))
  go None e = rw (e) (rw e tt)
  go (Some d) e = rw e (cases d e (earlier_or_not at d))

-- what is due later is left as it is
pub left_same : (slot : Slot) (at : Stamp) → Later at (due_of slot) → slot_left_at slot at ≡ slot
left_same slot at h = go (due_of slot) refl h where
  go : (o : Option Stamp) → due_of slot ≡ o → Later at o → slot_left_at slot at ≡ slot
  go None e k = rw e refl
  go (Some d) e k = rw (e, is_before-yes at d k) refl

-- what is not due later is not left
pub left_none : (slot : Slot) (at d : Stamp) → due_of slot ≡ Some d → ¬ IsBefore at d → slot_left_at slot at ≡ Nothing
left_none slot at d e h = rw (e, is_before-no at d h) refl

pub left_twice : (slot : Slot) (s t : Stamp) → IsBefore s t → slot_left_at (slot_left_at slot s) t ≡ slot_left_at slot t
left_twice slot s t lt = go (due_of slot) refl where
  cases : (d : Stamp) {b : Bool} → due_of slot ≡ Some d → Earlier s d b → slot_left_at (slot_left_at slot s) t ≡ slot_left_at slot t
  cases d e (earlier h) = ap (λ x. slot_left_at x t) (left_same slot s (subst (Later s) (sym e) h))
  cases d e (not_earlier h) = ap (λ x. slot_left_at x t) (left_none slot s d e h) ∙ sym (left_none slot t d e (λ k. h (IsBefore-trans s t d lt k)))

  go : (o : Option Stamp) → due_of slot ≡ o → slot_left_at (slot_left_at slot s) t ≡ slot_left_at slot t
  go None e = ap (λ x. slot_left_at x t) (left_same slot s (subst (Later s) (sym e) tt))
  go (Some d) e = cases d e (earlier_or_not s d)

-- what is due after a stamp is left there
pub left_due : (slot : Slot) (now t : Stamp) → IsBefore now t → (due_of slot ≡ Some t) ↔ (due_of (slot_left_at slot now) ≡ Some t)
left_due slot now t lt = (there, back) where
  there : due_of slot ≡ Some t → due_of (slot_left_at slot now) ≡ Some t
  there e = ap due_of (left_same slot now (subst (Later now) (sym e) lt)) ∙ e

  back : due_of (slot_left_at slot now) ≡ Some t → due_of slot ≡ Some t
  back e = go (due_of slot) refl where
    cases : (d : Stamp) {b : Bool} → due_of slot ≡ Some d → Earlier now d b → due_of slot ≡ Some t
    cases d f (earlier h) = ap due_of (sym (left_same slot now (subst (Later now) (sym f) h))) ∙ e
    cases d f (not_earlier h) = absurd (let g = ap due_of (left_none slot now d f h) in cc)

    go : (o : Option Stamp) → due_of slot ≡ o → due_of slot ≡ Some t
    go None f = ap due_of (sym (left_same slot now (subst (Later now) (sym f) tt))) ∙ e
    go (Some d) f = cases d f (earlier_or_not now d)

-- ---- what is pending within a cycle

-- it is due later
pub ahead_later : (now : Stamp) (x : Slot) → IsAhead now x → Later now (due_of x)
ahead_later now Nothing h = tt
ahead_later now (NextDelta made) h = subst (λ m. IsBefore now (next_delta m)) (sym h) (inr (refl, omega arith))
ahead_later now (AtTime t) h = inl h

-- a stamp is that of the next delta cycle, or the first one of its time
abbrev pub IsNear : Stamp → Stamp → Type 0
IsNear now t = (t ≡ next_delta now) ⊎ (t.delta ≡ 0)

-- a fact of a stamp, if there is one
abbrev pub Holds : (Stamp → Type 0) → Option Stamp → Type 0
Holds P None = Unit {0}
Holds P (Some s) = P s

-- it is due in the next delta cycle or at a later time
pub ahead_near : (now : Stamp) (x : Slot) → IsAhead now x → Holds (IsNear now) (due_of x)
ahead_near now Nothing h = tt
ahead_near now (NextDelta made) h = inl (ap next_delta h)
ahead_near now (AtTime t) h = inr refl

-- so is what the update notifies
pub delta_ahead : (now : Stamp) (x : Slot) → IsAhead now x → IsAhead now (slot_after_delta x now)
delta_ahead now Nothing h = refl
delta_ahead now (NextDelta made) h = h
delta_ahead now (AtTime t) h = refl
