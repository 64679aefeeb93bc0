-- When what is pending is due: the slots of the scheduler beside the stamps of the steps.
use Rattle.std.proofs.Common.{◌≡◌, ◌≢◌, ℕ, ◌<◌, ◌+◌, ◌==◌, ◌⊎◌, inl, inr, ⊎_elim, List, [], ◌∷◌, length, Bool, true, false, not, ◌&&◌, ◌||◌, nat_lt, if◌then◌else◌, Option, Some, None, refl, sym, ap, ◌∙◌, subst, arith}
use Rattle.std.specs.Prelude.{⊤, slice_set}
use Rattle.std.specs.List.{AllByRecursion}
use Rattle.std.proofs.lemmas.Bool.{cases_eq, eq-eqb, eqb-true, ne_eqb}
use Rattle.std.proofs.lemmas.List.{get_or-set_same, get_or-set_other, length-set}
use Rattle.ooo_time.specs.declared.time.Time.{Time}
use Rattle.ooo_time.specs.declared.stamp.Stamp.{Stamp}
use Rattle.ooo_time.specs.Stamps.{IsBefore, is_before, stamp_after}
use Rattle.ooo_code.specs.declared.activation.Effect.{Effect}
use Rattle.ooo_code.specs.declared.activation.Effect.TheVariants as effect
use Rattle.ooo_events.specs.Slots.{Slot, Nothing, NextDelta, AtTime, due_of, has_come, slot_left_at, slot_after_timed, slot_after_notify}
use Rattle.ooo_meaning.specs.World as real
use Rattle.ooo_meaning.specs.World.{World, apply, apply_all, next_delta, same_stamp, slot_at}
use Rattle.ooo_channels.specs.Agreement.{IsAhead}
use Rattle.ooo_dispatch.proofs.Ahead.{applied_ahead}
use Rattle.ooo_schedules.specs.Slots.{sooner_of}
use Rattle.ooo_schedules.specs.Worlds.{is_at, slot_after}
use Rattle.ooo_dispatch.proofs.Stamps.{after_later, before_no, before_yes, compare, delta_not_after, irreflexive, then_not_after, transitive}

-- ---- stamps

same_no : (s t : Stamp) → IsBefore s t ⊎ IsBefore t s → same_stamp s t ≡ false
same_no s t h = at (s.time.0 == t.time.0) (s.delta == t.delta) refl refl
  where
    apart : s.time.0 ≡ t.time.0 → s.delta ≡ t.delta → ⊥
    apart e f = ⊎_elim (λ a. one s t a e f) (λ a. one t s a (sym e) (sym f)) h
      where
        one : (s t : Stamp) → IsBefore s t → s.time.0 ≡ t.time.0 → s.delta ≡ t.delta → ⊥
        one s t a e f = ⊎_elim (λ k. omega (arith, k, e)) (λ k. let l = k.1 in omega (arith, l, f)) a

    at : (a b : Bool) → (s.time.0 == t.time.0) ≡ a → (s.delta == t.delta) ≡ b → (a && b) ≡ false
    at true true e f = absurd (apart (eqb-true s.time.0 t.time.0 e) (eqb-true s.delta t.delta f))
    at true false e f = refl
    at false b e f = refl

-- the two tests that a stamp has come are one
pub same_test : (s : Stamp) (o : Option Stamp) → real.is_at s o ≡ is_at s o
same_test s None = refl
same_test s (Some t) = at (compare s t)
  where
    at : IsBefore s t ⊎ ((s ≡ t) ⊎ IsBefore t s) → same_stamp s t ≡ (not (is_before s t) && not (is_before t s))
    at (inl lt) = same_no s t (inl lt) ∙ sym (ap (λ b. not b && not (is_before t s)) (before_yes s t lt))
    at (inr (inl e)) =
        ap (λ a. a && (s.delta == t.delta)) (eq-eqb s.time.0 t.time.0 (ap (λ x. x.time.0) e)) ∙ eq-eqb s.delta t.delta (ap (λ x. x.delta) e)
        ∙ sym (ap (λ b. not b && not (is_before t s)) (before_no s t (λ lt. irreflexive t (subst (λ x. IsBefore x t) e lt))) ∙ ap (λ b. not b) (before_no t s (λ lt. irreflexive t (subst (IsBefore t) e lt))))
    at (inr (inr lt)) = same_no s t (inr lt) ∙ sym (ap (λ b. not b && not (is_before t s)) (before_no s t (λ k. irreflexive s (transitive s t s k lt))) ∙ ap (λ b. not b) (before_yes t s lt))

-- ---- a notification

picked : (u t : Stamp) → (IsBefore t u → ⊥) → (if is_before t u then t else u) ≡ u
picked u t n = ap (λ b. if b then t else u) (before_no t u n)

and_no : (a b : Bool) → (a || (b && false)) ≡ a
and_no true b = refl
and_no false true = refl
and_no false false = refl

timed_before : (a b : Time) → is_before (record { time = a; delta = 0 }) (record { time = b; delta = 0 }) ≡ nat_lt a.0 b.0
timed_before a b = and_no (nat_lt a.0 b.0) (a.0 == b.0)

pub notify_due : (now : Stamp) (k : Time) (x : Slot) → IsAhead now x → due_of (slot_after_notify x now k) ≡ Some (sooner_of Stamp is_before (due_of x) (stamp_after now k))
notify_due now k Nothing h = at (k.0 == 0)
  where
    at :
        (b : Bool) → due_of (if b then NextDelta now else AtTime (record { 0 = now.time.0 + k.0 })) ≡
        Some (if b then record { time = now.time; delta = now.delta + 1 } else record { time = record { 0 = now.time.0 + k.0 }; delta = 0 })
    at true = refl
    at false = refl
notify_due now k (NextDelta made) h = at (k.0 == 0) ∙ sym (ap Some (picked (next_delta made) (stamp_after now k) not_before))
  where
    at : (b : Bool) → due_of (if b then NextDelta made else NextDelta made) ≡ Some (next_delta made)
    at true = refl
    at false = refl

    not_before : IsBefore (stamp_after now k) (next_delta made) → ⊥
    not_before lt =
        let early : IsBefore (stamp_after now k) (next_delta now) = subst (λ m. IsBefore (stamp_after now k) (next_delta m)) h lt in
        irreflexive (stamp_after now k) (then_not_after (stamp_after now k) (next_delta now) (stamp_after now k) early (delta_not_after now (stamp_after now k) (after_later now k)))
notify_due now k (AtTime v) h = at (k.0 == 0) refl
  where
    u : Stamp
    u = record { time = v; delta = 0 }

    sum : Time
    sum = record { 0 = now.time.0 + k.0 }

    delta_first : is_before (next_delta now) (record { time = v; delta = 0 }) ≡ true
    delta_first = before_yes (next_delta now) (record { time = v; delta = 0 }) (inl h)

    pick : (c : Bool) → due_of (if c then AtTime (record { 0 = now.time.0 + k.0 }) else AtTime v) ≡ Some (if c then record { time = record { 0 = now.time.0 + k.0 }; delta = 0 } else record { time = v; delta = 0 })
    pick true = refl
    pick false = refl

    timed : due_of (slot_after_timed (AtTime v) (record { 0 = now.time.0 + k.0 })) ≡
        Some (if is_before (record { time = record { 0 = now.time.0 + k.0 }; delta = 0 }) (record { time = v; delta = 0 }) then record { time = record { 0 = now.time.0 + k.0 }; delta = 0 } else record { time = v; delta = 0 })
    timed =
        pick (nat_lt (now.time.0 + k.0) v.0)
        ∙ ap (λ c. Some (if c then record { time = record { 0 = now.time.0 + k.0 }; delta = 0 } else record { time = v; delta = 0 })) (sym (timed_before (record { 0 = now.time.0 + k.0 }) v))

    at :
        (b : Bool) → (k.0 == 0) ≡ b → due_of (if b then NextDelta now else slot_after_timed (AtTime v) (record { 0 = now.time.0 + k.0 })) ≡
        Some
        (let t : Stamp = if b then record { time = now.time; delta = now.delta + 1 } else record { time = record { 0 = now.time.0 + k.0 }; delta = 0 } in
        if is_before t (record { time = v; delta = 0 }) then t else record { time = v; delta = 0 })
    at true e = sym (ap (λ c. Some (if c then next_delta now else record { time = v; delta = 0 })) delta_first)
    at false e = timed

-- ---- effects on slots

-- the events that an effect names are there
abbrev pub NamesThere : (n : ℕ) → Effect → Type 0
NamesThere n (effect.Notify e k) = e < n
NamesThere n (effect.Cancel e) = e < n
NamesThere n (effect.Request c v) = ⊤
NamesThere n (effect.Put c v) = ⊤
NamesThere n (effect.Take c) = ⊤
NamesThere n effect.Stop = ⊤

each_there : (n m : ℕ) → n ≡ m → (fs : List Effect) → AllByRecursion (NamesThere n) fs → AllByRecursion (NamesThere m) fs
each_there n m e fs h = subst (λ k. AllByRecursion (NamesThere k) fs) e h

-- the slots after effects are due when the steps say
pub slots_applied : (w : World) (fs : List Effect) → AllByRecursion (NamesThere (length w.slots)) fs → ((e : ℕ) → IsAhead w.stamp (slot_at w.slots e)) → (e : ℕ) →
    due_of (slot_at (apply_all w fs).slots e) ≡ slot_after w.stamp e (due_of (slot_at w.slots e)) fs
slots_applied w [] h ahead e = refl
slots_applied w (effect.Notify f k ∷ fs) h ahead e =
    slots_applied (apply w (effect.Notify f k)) fs (each_there (length w.slots) (length (slice_set w.slots f next)) (sym (length-set w.slots f next)) fs h.1) (applied_ahead w (effect.Notify f k) ahead) e
    ∙ ap (λ o. slot_after w.stamp e o fs) (at (cases_eq f e))
  where
    next : Slot
    next = slot_after_notify (slot_at w.slots f) w.stamp k

    at : (f ≡ e) ⊎ (f ≢ e) → due_of (slot_at (slice_set w.slots f next) e) ≡ (if f == e then Some (sooner_of Stamp is_before (due_of (slot_at w.slots e)) (stamp_after w.stamp k)) else due_of (slot_at w.slots e))
    at (inl i) =
        subst (λ n. due_of (slot_at (slice_set w.slots f next) n) ≡ (if f == n then Some (sooner_of Stamp is_before (due_of (slot_at w.slots n)) (stamp_after w.stamp k)) else due_of (slot_at w.slots n))) i
        (ap due_of (get_or-set_same w.slots f next Nothing h.0) ∙ notify_due w.stamp k (slot_at w.slots f) (ahead f)
        ∙ sym (ap (λ b. if b then Some (sooner_of Stamp is_before (due_of (slot_at w.slots f)) (stamp_after w.stamp k)) else due_of (slot_at w.slots f)) (eq-eqb f f refl)))
    at (inr n) =
        ap due_of (get_or-set_other w.slots f e next Nothing (λ i. n (sym i)))
        ∙ sym (ap (λ b. if b then Some (sooner_of Stamp is_before (due_of (slot_at w.slots e)) (stamp_after w.stamp k)) else due_of (slot_at w.slots e)) (ne_eqb f e n))
slots_applied w (effect.Cancel f ∷ fs) h ahead e =
    slots_applied (apply w (effect.Cancel f)) fs (each_there (length w.slots) (length (slice_set w.slots f Nothing)) (sym (length-set w.slots f Nothing)) fs h.1) (applied_ahead w (effect.Cancel f) ahead) e
    ∙ ap (λ o. slot_after w.stamp e o fs) (at (cases_eq f e))
  where
    at : (f ≡ e) ⊎ (f ≢ e) → due_of (slot_at (slice_set w.slots f Nothing) e) ≡ (if f == e then None else due_of (slot_at w.slots e))
    at (inl i) =
        subst (λ n. due_of (slot_at (slice_set w.slots f Nothing) n) ≡ (if f == n then None else due_of (slot_at w.slots n))) i
        (ap due_of (get_or-set_same w.slots f Nothing Nothing h.0) ∙ sym (ap (λ b. if b then None else due_of (slot_at w.slots f)) (eq-eqb f f refl)))
    at (inr n) =
        ap due_of (get_or-set_other w.slots f e Nothing Nothing (λ i. n (sym i))) ∙ sym (ap (λ b. if b then None else due_of (slot_at w.slots e)) (ne_eqb f e n))
slots_applied w (effect.Request c v ∷ fs) h ahead e = slots_applied (apply w (effect.Request c v)) fs h.1 ahead e
slots_applied w (effect.Put c v ∷ fs) h ahead e = slots_applied (apply w (effect.Put c v)) fs h.1 ahead e
slots_applied w (effect.Take c ∷ fs) h ahead e = slots_applied (apply w (effect.Take c)) fs h.1 ahead e
slots_applied w (effect.Stop ∷ fs) h ahead e = slots_applied (apply w effect.Stop) fs h.1 ahead e

-- an effect calls another event, or none
abbrev pub NamesOther : (e : ℕ) → Effect → Type 0
NamesOther e (effect.Notify f k) = f ≢ e
NamesOther e (effect.Cancel f) = f ≢ e
NamesOther e (effect.Request c v) = ⊤
NamesOther e (effect.Put c v) = ⊤
NamesOther e (effect.Take c) = ⊤
NamesOther e effect.Stop = ⊤

pub slot_kept : (w : World) (fs : List Effect) (e : ℕ) → AllByRecursion (NamesOther e) fs → slot_at (apply_all w fs).slots e ≡ slot_at w.slots e
slot_kept w [] e h = refl
slot_kept w (effect.Notify f k ∷ fs) e h = slot_kept (apply w (effect.Notify f k)) fs e h.1 ∙ get_or-set_other w.slots f e (slot_after_notify (slot_at w.slots f) w.stamp k) Nothing (λ i. h.0 (sym i))
slot_kept w (effect.Cancel f ∷ fs) e h = slot_kept (apply w (effect.Cancel f)) fs e h.1 ∙ get_or-set_other w.slots f e Nothing Nothing (λ i. h.0 (sym i))
slot_kept w (effect.Request c v ∷ fs) e h = slot_kept (apply w (effect.Request c v)) fs e h.1
slot_kept w (effect.Put c v ∷ fs) e h = slot_kept (apply w (effect.Put c v)) fs e h.1
slot_kept w (effect.Take c ∷ fs) e h = slot_kept (apply w (effect.Take c)) fs e h.1
slot_kept w (effect.Stop ∷ fs) e h = slot_kept (apply w effect.Stop) fs e h.1

-- ---- a stamp is reached

-- where nothing is due before it, what is due at the stamp is pending no more
pub left_due : (s : Stamp) (x : Slot) → ((t : Stamp) → due_of x ≡ Some t → IsBefore t s → ⊥) → due_of (slot_left_at x s) ≡ (if is_at s (due_of x) then None else due_of x)
left_due s x from = at (due_of x) refl
  where
    at : (o : Option Stamp) → due_of x ≡ o → due_of (if has_come (due_of x) s then Nothing else x) ≡ (if is_at s (due_of x) then None else due_of x)
    at None e = ap (λ o. due_of (if has_come o s then Nothing else x)) e ∙ e ∙ sym (ap (λ o. if is_at s o then None else o) e)
    at (Some t) e = ap (λ o. due_of (if has_come o s then Nothing else x)) e ∙ by (is_before s t) refl ∙ sym (ap (λ o. if is_at s o then None else o) e)
      where
        by : (b : Bool) → is_before s t ≡ b → due_of (if not (is_before s t) then Nothing else x) ≡ (if not (is_before s t) && not (is_before t s) then None else Some t)
        by true f = ap (λ b. due_of (if not b then Nothing else x)) f ∙ e ∙ sym (ap (λ b. if not b && not (is_before t s) then None else Some t) f)
        by false f =
            ap (λ b. due_of (if not b then Nothing else x)) f
            ∙ sym (ap (λ b. if not b && not (is_before t s) then None else Some t) f ∙ ap (λ b. if not b then None else Some t) (before_no t s (from t e)))
