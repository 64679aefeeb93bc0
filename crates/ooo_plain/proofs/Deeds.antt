-- Two activations that did the same, and nothing but on what is touched, are one.
use Rattle.std.proofs.Common.{◌≡◌, ◌≢◌, ℕ, Bool, true, false, List, [], ◌∷◌, refl, sym, ap, ◌∙◌, ⊎_elim}
use Rattle.std.proofs.lemmas.Bool.{cases_eq}
use Rattle.std.proofs.lemmas.List.{ext_get_or}
use Rattle.std.specs.Prelude.{ℤ, pos, negsuc}
use Rattle.ooo_value.specs.declared.values.Value.{Value}
use Rattle.ooo_value.specs.declared.values.Value.TheVariants as value
use Rattle.ooo_code.specs.declared.activation.Frame.{Frame}
use Rattle.ooo_code.specs.Expressions.{cells_of}
use Rattle.ooo_code.specs.Outcomes.{View, Deed, Outcome}
use Rattle.ooo_code.specs.Touches.{Touch, Writes}
use Rattle.ooo_code.specs.Dependence.{DidTheSame, TouchesOnly}

-- ---- equations of values that can't be false hold

stable_nat : (a b : ℕ) → ¬ (a ≢ b) → a ≡ b
stable_nat a b h = ⊎_elim (λ e. e) (λ ne. absurd (h ne)) (cases_eq a b)

stable_int : (a b : ℤ) → ¬ (a ≢ b) → a ≡ b
stable_int (pos m) (pos n) h = ap pos (stable_nat m n (λ ne. h (λ e. ne (let f : m ≡ n = cc in f))))
stable_int (negsuc m) (negsuc n) h = ap negsuc (stable_nat m n (λ ne. h (λ e. ne (let f : m ≡ n = cc in f))))
stable_int (pos m) (negsuc n) h = absurd (h (λ e. cc))
stable_int (negsuc m) (pos n) h = absurd (h (λ e. cc))

stable_bool : (a b : Bool) → ¬ (a ≢ b) → a ≡ b
stable_bool true true h = refl
stable_bool false false h = refl
stable_bool true false h = absurd (h (λ e. cc))
stable_bool false true h = absurd (h (λ e. cc))

stable_value : (a b : Value) → ¬ (a ≢ b) → a ≡ b
stable_value (value.Bool m) (value.Bool n) h = ap value.Bool (stable_bool m n (λ ne. h (λ e. ne (let f : m ≡ n = cc in f))))
stable_value (value.Int m) (value.Int n) h = ap value.Int (stable_int m n (λ ne. h (λ e. ne (let f : m ≡ n = cc in f))))
stable_value (value.Uint m) (value.Uint n) h = ap value.Uint (stable_nat m n (λ ne. h (λ e. ne (let f : m ≡ n = cc in f))))
stable_value (value.Long m) (value.Long n) h = ap value.Long (stable_int m n (λ ne. h (λ e. ne (let f : m ≡ n = cc in f))))
stable_value (value.Ulong m) (value.Ulong n) h = ap value.Ulong (stable_nat m n (λ ne. h (λ e. ne (let f : m ≡ n = cc in f))))
stable_value (value.Bool m) (value.Int n) h = absurd (h (λ e. cc))
stable_value (value.Bool m) (value.Uint n) h = absurd (h (λ e. cc))
stable_value (value.Bool m) (value.Long n) h = absurd (h (λ e. cc))
stable_value (value.Bool m) (value.Ulong n) h = absurd (h (λ e. cc))
stable_value (value.Int m) (value.Bool n) h = absurd (h (λ e. cc))
stable_value (value.Int m) (value.Uint n) h = absurd (h (λ e. cc))
stable_value (value.Int m) (value.Long n) h = absurd (h (λ e. cc))
stable_value (value.Int m) (value.Ulong n) h = absurd (h (λ e. cc))
stable_value (value.Uint m) (value.Bool n) h = absurd (h (λ e. cc))
stable_value (value.Uint m) (value.Int n) h = absurd (h (λ e. cc))
stable_value (value.Uint m) (value.Long n) h = absurd (h (λ e. cc))
stable_value (value.Uint m) (value.Ulong n) h = absurd (h (λ e. cc))
stable_value (value.Long m) (value.Bool n) h = absurd (h (λ e. cc))
stable_value (value.Long m) (value.Int n) h = absurd (h (λ e. cc))
stable_value (value.Long m) (value.Uint n) h = absurd (h (λ e. cc))
stable_value (value.Long m) (value.Ulong n) h = absurd (h (λ e. cc))
stable_value (value.Ulong m) (value.Bool n) h = absurd (h (λ e. cc))
stable_value (value.Ulong m) (value.Int n) h = absurd (h (λ e. cc))
stable_value (value.Ulong m) (value.Uint n) h = absurd (h (λ e. cc))
stable_value (value.Ulong m) (value.Long n) h = absurd (h (λ e. cc))

stable_list : (a b : List Value) → ¬ (a ≢ b) → a ≡ b
stable_list [] [] h = refl
stable_list [] (y ∷ ys) h = absurd (h (λ e. cc))
stable_list (x ∷ xs) [] h = absurd (h (λ e. cc))
stable_list (x ∷ xs) (y ∷ ys) h =
    let first : x ≡ y = stable_value x y (λ ne. h (λ e. ne (let f : x ≡ y = cc in f))) in
    let others : xs ≡ ys = stable_list xs ys (λ ne. h (λ e. ne (let f : xs ≡ ys = cc in f))) in
    rw (first, others) refl

-- ---- the variables

module _ (T : Touch → Type 0) (v w : View) (a b : Outcome Frame) (same : DidTheSame T a b) (left : TouchesOnly T v a) (right : TouchesOnly T w b) (start : v.variables ≡ w.variables) where
  cells_same : (x : ℕ) → cells_of a.deed.variables x ≡ cells_of b.deed.variables x
  cells_same x = stable_list _ _ (λ ne.
      let untouched : ¬ T (Writes x) = λ t. ne (same.variables.written x t) in
      ne (left.variables x untouched ∙ ap (λ vs. cells_of vs x) start ∙ sym (right.variables x untouched)))

  variables_same : a.deed.variables ≡ b.deed.variables
  variables_same = ext_get_or [] a.deed.variables b.deed.variables same.variables.count (λ x lt. cells_same x)

  deed_is : (x y : Deed) → x.output ≡ y.output → x.variables ≡ y.variables → x.effects ≡ y.effects → x.end ≡ y.end → x ≡ y
  deed_is x y o u f e = rw (o, u, f, e) refl

  outcome_is : (x y : Outcome Frame) → x.deed ≡ y.deed → x.next ≡ y.next → x ≡ y
  outcome_is x y d n = rw (d, n) refl

  pub outcome_same : a ≡ b
  outcome_same = outcome_is a b (deed_is a.deed b.deed same.output variables_same same.effects same.end) same.next
