-- What is not unequal is equal: numbers, values, and lists of values.
use Rattle.std.proofs.Common.{◌≡◌, ℕ, ◌==◌, List, [], ◌∷◌, Bool, true, false, refl, ap, ◌∙◌}
use Rattle.std.specs.Prelude.{ℤ, pos, negsuc}
use Rattle.std.proofs.lemmas.Bool.Decides.{Decides-eqb}
use Rattle.ooo_value.specs.declared.values.Value.{Value}
use Rattle.ooo_value.specs.declared.values.Value.TheVariants as value

bool_stable : (a b : Bool) → ¬ (¬ (a ≡ b)) → a ≡ b
bool_stable true true h = refl
bool_stable false false h = refl
bool_stable true false h = absurd (h (λ e. cc))
bool_stable false true h = absurd (h (λ e. cc))

nat_stable : (m n : ℕ) → ¬ (¬ (m ≡ n)) → m ≡ n
nat_stable m n h = by (m == n) refl
  where
    by : (b : Bool) → (m == n) ≡ b → m ≡ n
    by true e = (Decides-eqb m n).0 e
    by false e = absurd (h (λ same. let t : (m == n) ≡ true = (Decides-eqb m n).1 same in cc))

int_stable : (x y : ℤ) → ¬ (¬ (x ≡ y)) → x ≡ y
int_stable (pos m) (pos n) h = ap pos (nat_stable m n (λ k. h (λ e. k (cc))))
int_stable (negsuc m) (negsuc n) h = ap negsuc (nat_stable m n (λ k. h (λ e. k (cc))))
int_stable (pos m) (negsuc n) h = absurd (h (λ e. cc))
int_stable (negsuc m) (pos n) h = absurd (h (λ e. cc))

value_stable : (v w : Value) → ¬ (¬ (v ≡ w)) → v ≡ w
value_stable (value.Bool a) (value.Bool b) h = ap value.Bool (bool_stable a b (λ k. h (λ e. k (cc))))
value_stable (value.Int a) (value.Int b) h = ap value.Int (int_stable a b (λ k. h (λ e. k (cc))))
value_stable (value.Uint a) (value.Uint b) h = ap value.Uint (nat_stable a b (λ k. h (λ e. k (cc))))
value_stable (value.Long a) (value.Long b) h = ap value.Long (int_stable a b (λ k. h (λ e. k (cc))))
value_stable (value.Ulong a) (value.Ulong b) h = ap value.Ulong (nat_stable a b (λ k. h (λ e. k (cc))))
value_stable _ _ h = absurd (h (λ e. cc))

pub values_stable : (xs ys : List Value) → ¬ (¬ (xs ≡ ys)) → xs ≡ ys
values_stable [] [] h = refl
values_stable [] (y ∷ ys) h = absurd (h (λ e. cc))
values_stable (x ∷ xs) [] h = absurd (h (λ e. cc))
values_stable (x ∷ xs) (y ∷ ys) h =
    ap (λ z. z ∷ xs) (value_stable x y (λ k. h (λ e. k (cc))))
    ∙ ap (λ zs. y ∷ zs) (values_stable xs ys (λ k. h (λ e. k (cc))))
