-- The order of stamps, as it is tested.
use Rattle.std.proofs.Common.{◌≡◌, ◌∙◌, refl, ap, subst, inl, inr, ⊎_elim, Bool, true, false, ◌&&◌, ◌||◌, ◌==◌, nat_lt}
use Rattle.std.proofs.lemmas.Bool.{eqb-true, eq-eqb, ltb-true, lt-ltb}
use Rattle.ooo_time.specs.declared.stamp.Stamp.{Stamp}
use Rattle.ooo_time.specs.Stamps.{IsBefore, is_before}
use Rattle.ooo_meaning.specs.World.{same_stamp}
use Rattle.ooo_fronts.proofs.Places.{irreflexive}

pub stamp_is : (s t : Stamp) → s.time.0 ≡ t.time.0 → s.delta ≡ t.delta → s ≡ t
stamp_is s t e d = ap (λ x. record { time = record { 0 = x }; delta = s.delta }) e ∙ ap (λ x. record { time = t.time; delta = x }) d

pub is_yes : (s t : Stamp) → is_before s t ≡ true → IsBefore s t
is_yes s t = at (nat_lt s.time.0 t.time.0) (s.time.0 == t.time.0) (nat_lt s.delta t.delta) refl refl refl
  where
    at : (a b c : Bool) → nat_lt s.time.0 t.time.0 ≡ a → (s.time.0 == t.time.0) ≡ b → nat_lt s.delta t.delta ≡ c → (a || (b && c)) ≡ true → IsBefore s t
    at true b c p q r e = inl (ltb-true s.time.0 t.time.0 p)
    at false true true p q r e = inr (eqb-true s.time.0 t.time.0 q, ltb-true s.delta t.delta r)
    at false true false p q r e = absurd cc
    at false false c p q r e = absurd cc

pub before_yes : (s t : Stamp) → IsBefore s t → is_before s t ≡ true
before_yes s t h = ⊎_elim (λ a. rw (lt-ltb s.time.0 t.time.0 a) refl) (λ a. same (nat_lt s.time.0 t.time.0) (s.time.0 == t.time.0) (nat_lt s.delta t.delta) (eq-eqb s.time.0 t.time.0 a.0) (lt-ltb s.delta t.delta a.1)) h
  where
    same : (x y z : Bool) → y ≡ true → z ≡ true → (x || (y && z)) ≡ true
    same true y z e f = refl
    same false true true e f = refl
    same false true false e f = absurd cc
    same false false z e f = absurd cc

pub never_before : (s t : Stamp) → s ≡ t → is_before s t ≡ false
never_before s t e = at (is_before s t) refl
  where
    at : (x : Bool) → is_before s t ≡ x → is_before s t ≡ false
    at true b = let P : Stamp → Type 0 = λ u. IsBefore u t in absurd (irreflexive t (subst P e (is_yes s t b)))
    at false b = b

pub same_yes : (s t : Stamp) → s ≡ t → same_stamp s t ≡ true
same_yes s t e = rw e (rw (eq-eqb t.time.0 t.time.0 refl, eq-eqb t.delta t.delta refl) refl)

pub yes_same : (s t : Stamp) → same_stamp s t ≡ true → s ≡ t
yes_same s t = at (s.time.0 == t.time.0) (s.delta == t.delta) refl refl
  where
    at : (a b : Bool) → (s.time.0 == t.time.0) ≡ a → (s.delta == t.delta) ≡ b → (a && b) ≡ true → s ≡ t
    at true true p q e = stamp_is s t (eqb-true s.time.0 t.time.0 p) (eqb-true s.delta t.delta q)
    at true false p q e = absurd cc
    at false b p q e = absurd cc
