-- The order of stamps.
use Rattle.std.proofs.Common.{◌≡◌, ◌<◌, ◌+◌, ◌⊎◌, inl, inr, ⊎_elim, Bool, true, false, ◌&&◌, ◌||◌, ◌==◌, nat_lt, if◌then◌else◌, refl, sym, ap, ◌∙◌, subst, arith}
use Rattle.std.proofs.lemmas.Bool.{cases_order, eqb-false, eqb-true, eq-eqb, ltb-true, lt-ltb}
use Rattle.ooo_time.specs.declared.time.Time.{Time}
use Rattle.ooo_time.specs.declared.stamp.Stamp.{Stamp}
use Rattle.ooo_time.specs.Stamps.{IsBefore, is_before, stamp_after}
use Rattle.ooo_meaning.specs.World.{next_delta}
use Rattle.ooo_schedules.specs.Delays.{NotAfter}

pub irreflexive : (s : Stamp) → IsBefore s s → ⊥
irreflexive s h = ⊎_elim (λ a. absurd (omega (arith, a))) (λ a. let b = a.1 in absurd (omega (arith, b))) h

pub transitive : (s t u : Stamp) → IsBefore s t → IsBefore t u → IsBefore s u
transitive s t u a b =
    ⊎_elim (λ h. ⊎_elim (λ k. inl (omega (arith, h, k))) (λ k. let e = k.0 in inl (omega (arith, h, e))) b)
    (λ h. let e = h.0 in ⊎_elim (λ k. inl (omega (arith, e, k))) (λ k. let f = k.0 in let x = h.1 in let y = k.1 in inr (omega (arith, e, f), omega (arith, x, y))) b) a

pub stamp_is : (s t : Stamp) → s.time.0 ≡ t.time.0 → s.delta ≡ t.delta → s ≡ t
stamp_is s t e d = ap (λ x. record { time = record { 0 = x }; delta = s.delta }) e ∙ ap (λ x. record { time = t.time; delta = x }) d

pub compare : (s t : Stamp) → IsBefore s t ⊎ ((s ≡ t) ⊎ IsBefore t s)
compare s t =
    ⊎_elim (λ e. ⊎_elim (λ d. inr (inl (stamp_is s t e d))) (λ d. ⊎_elim (λ x. inl (inr (e, x))) (λ x. inr (inr (inr (sym e, x)))) d) (cases_order s.delta t.delta))
    (λ h. ⊎_elim (λ x. inl (inl x)) (λ x. inr (inr (inl x))) h) (cases_order s.time.0 t.time.0)

pub then_not_after : (s t u : Stamp) → IsBefore s t → NotAfter t u → IsBefore s u
then_not_after s t u a b = ⊎_elim (λ k. transitive s t u a k) (λ k. subst (IsBefore s) k a) b

-- ---- the test

pub is_yes : (s t : Stamp) → is_before s t ≡ true → IsBefore s t
is_yes s t = at (nat_lt s.time.0 t.time.0) (s.time.0 == t.time.0) (nat_lt s.delta t.delta) refl refl refl
  where
    at : (a b c : Bool) → nat_lt s.time.0 t.time.0 ≡ a → (s.time.0 == t.time.0) ≡ b → nat_lt s.delta t.delta ≡ c → (a || (b && c)) ≡ true → IsBefore s t
    at true b c p q r e = inl (ltb-true s.time.0 t.time.0 p)
    at false true true p q r e = inr (eqb-true s.time.0 t.time.0 q, ltb-true s.delta t.delta r)
    at false true false p q r e = absurd cc
    at false false c p q r e = absurd cc

pub before_yes : (s t : Stamp) → IsBefore s t → is_before s t ≡ true
before_yes s t h = ⊎_elim (λ a. rw (lt-ltb s.time.0 t.time.0 a) refl) (λ a. same (nat_lt s.time.0 t.time.0) (s.time.0 == t.time.0) (nat_lt s.delta t.delta) (eq-eqb s.time.0 t.time.0 a.0) (lt-ltb s.delta t.delta a.1)) h
  where
    same : (x y z : Bool) → y ≡ true → z ≡ true → (x || (y && z)) ≡ true
    same true y z e f = refl
    same false true true e f = refl
    same false true false e f = absurd cc
    same false false z e f = absurd cc

pub is_no : (s t : Stamp) → is_before s t ≡ false → NotAfter t s
is_no s t e = ⊎_elim (λ h. let c : true ≡ false = sym (before_yes s t h) ∙ e in absurd cc) (λ h. ⊎_elim (λ x. inr (sym x)) (λ x. inl x) h) (compare s t)

-- ---- later stamps

pub after_later : (s : Stamp) (k : Time) → IsBefore s (stamp_after s k)
after_later s k = at (k.0 == 0) refl
  where
    at : (b : Bool) → (k.0 == 0) ≡ b → IsBefore s (if b then record { time = s.time; delta = s.delta + 1 } else record { time = record { 0 = s.time.0 + k.0 }; delta = 0 })
    at true e = inr (refl, omega arith)
    at false e = ⊎_elim (λ h. absurd (eqb-false k.0 0 e h)) (λ h. ⊎_elim (λ x. absurd (omega (arith, x))) (λ x. inl (omega (arith, x))) h) (cases_order k.0 0)

-- what is later is at least one delta later
pub delta_not_after : (s t : Stamp) → IsBefore s t → NotAfter (next_delta s) t
delta_not_after s t h = ⊎_elim (λ a. inl (inl a)) (λ a. same a.0 (cases_order (s.delta + 1) t.delta) a.1) h
  where
    same : s.time.0 ≡ t.time.0 → (s.delta + 1 ≡ t.delta) ⊎ ((s.delta + 1 < t.delta) ⊎ (t.delta < s.delta + 1)) → s.delta < t.delta → NotAfter (next_delta s) t
    same e c d = ⊎_elim (λ x. inr (stamp_is (next_delta s) t e x)) (λ x. ⊎_elim (λ y. inl (inr (e, y))) (λ y. absurd (omega (arith, d, y))) x) c

pub before_no : (s t : Stamp) → (IsBefore s t → ⊥) → is_before s t ≡ false
before_no s t n = at (is_before s t) refl
  where
    at : (b : Bool) → is_before s t ≡ b → b ≡ false
    at true e = absurd (n (is_yes s t e))
    at false e = refl
