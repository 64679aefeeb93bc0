-- Which fault an operator answers, by the tests that it makes.
use Rattle.std.proofs.Common.{rules, arith, ◌≡◌, ◌≢◌, ◌↔◌, ◌⊎◌, inl, inr, ◌≤ℤ◌, ◌<ℤ◌, ◌<◌, ◌^◌, ◌%◌, ◌-◌, ◌≤◌, refl, sym, ◌∙◌, ap, ℤ, ℕ, suc, pos, negsuc}
use Rattle.std.specs.Prelude.{Ok, Err, IsTrue, nat_le, nat_lt, unsigned_abs, Bool, true, false, not, ◌&&◌, if◌then◌else◌}
use Rattle.std.specs.Int.{Width, w32, w64, cast_signed, int_wrap}
use Rattle.std.proofs.Math.Nat.{pow-le-pow_right, mod-eq_of_lt}
use Rattle.std.proofs.lemmas.Nat.{pow_pos}
use Rattle.std.proofs.Common.{lt_of_lt_of_le, lit<}
use Rattle.ooo_value.specs.declared.kinds.Kind.{Kind}
use Rattle.ooo_value.specs.declared.kinds.Kind.TheVariants as kind
use Rattle.ooo_value.specs.declared.operators.Fault.{Fault}
use Rattle.ooo_value.specs.declared.operators.Fault.TheVariants as fault
use Rattle.ooo_value.specs.declared.values.Value.{Value}
use Rattle.ooo_value.specs.Kinds.{common_kind, width_of}
use Rattle.ooo_value.specs.Operators.{Answer, Class, Sum, Quotient, Bits, Shift, Comparison, amount_of, answer_of, shifted_by}
use Rattle.ooo_value.specs.Faults.{OverflowsIn, IsAmount, divides, shifts}
use Rattle.ooo_value.specs.Values.{kind_of, number_of, number_in, value_of, is_in_range, is_nonzero, residue}
use Rattle.ooo_value.proofs.Wraps.{int_wrap_is, residue-lt}
use mir.Val.{bits, hbits}

-- an integer below 2 ^ width is a multiple of it only where it is 0
residue-zero : (k : ℕ) (z : ℤ) → unsigned_abs z < 2 ^ k → is_nonzero (pos (residue k z)) ≡ is_nonzero z
residue-zero k (pos n) h = ap (λ m. is_nonzero (pos m)) (mod-eq_of_lt h)
residue-zero k (negsuc n) h =
    let l : n < 2 ^ k = omega arith in
    let e : n % 2 ^ k ≡ n = mod-eq_of_lt l in
    let g : 0 < 2 ^ k - 1 - n % 2 ^ k = omega arith in
    search rules

-- bits are all 0 however they are read
read-zero : (w : Width) (r : ℕ) → r < 2 ^ bits w → is_nonzero (cast_signed w r) ≡ is_nonzero (pos r)
read-zero w r h = at (nat_lt r (2 ^ hbits w)) refl
  where
    at : (low : Bool) → nat_lt r (2 ^ hbits w) ≡ low → is_nonzero (if low then pos r else negsuc (2 ^ bits w - suc r)) ≡ is_nonzero (pos r)
    at true e = refl
    at false e = let g : 0 < r = grind (arith, pow_pos (hbits w)) in search rules

-- so such an integer is 0 in a kind of that width only where it is 0
wrap-zero : (w : Width) (z : ℤ) → unsigned_abs z < 2 ^ bits w → is_nonzero (int_wrap w z) ≡ is_nonzero z
wrap-zero w z h = ap is_nonzero (int_wrap_is w z) ∙ read-zero w (residue (bits w) z) (residue-lt (bits w) z) ∙ residue-zero (bits w) z h

value-zero : (k : Kind) (z : ℤ) → k ≢ kind.Bool → unsigned_abs z < 2 ^ width_of k → is_nonzero (number_of (value_of k z)) ≡ is_nonzero z
value-zero kind.Bool z n h = absurd (n refl)
value-zero kind.Int z n h = wrap-zero w32 z h
value-zero kind.Uint z n h = residue-zero 32 z h
value-zero kind.Long z n h = wrap-zero w64 z h
value-zero kind.Ulong z n h = residue-zero 64 z h

-- an integer of a kind is below 2 ^ width
magnitude : (k : Kind) (z : ℤ) → IsTrue (is_in_range k z) → unsigned_abs z < 2 ^ width_of k
magnitude kind.Bool (pos n) h = search rules
magnitude kind.Bool (negsuc n) h = search rules
magnitude kind.Int (pos n) h = search rules
magnitude kind.Int (negsuc n) h = search rules
magnitude kind.Uint (pos n) h = search rules
magnitude kind.Uint (negsuc n) h = search rules
magnitude kind.Long (pos n) h = search rules
magnitude kind.Long (negsuc n) h = search rules
magnitude kind.Ulong (pos n) h = search rules
magnitude kind.Ulong (negsuc n) h = search rules

-- the common kind is as wide as each operand's, and no bool
common-wide : (a b : Kind) → width_of b ≤ width_of (common_kind a b)
common-wide a b = search rules

pub common-no_bool : (a b : Kind) → common_kind a b ≢ kind.Bool
common-no_bool a b h = search rules

-- the right operand is 0 in the common kind only where it is 0
right-zero : (a : Kind) (b : Value) → IsTrue (is_in_range (kind_of b) (number_of b)) → is_nonzero (number_in (common_kind a (kind_of b)) b) ≡ is_nonzero (number_of b)
right-zero a b h =
    let m : unsigned_abs (number_of b) < 2 ^ width_of (kind_of b) = magnitude (kind_of b) (number_of b) h in
    value-zero (common_kind a (kind_of b)) (number_of b) (common-no_bool a (kind_of b)) (lt_of_lt_of_le m (pow-le-pow_right (lit< tt) (common-wide a (kind_of b))))

pub answer-overflow : (c : Class) (a b : Value) → (answer_of c a b ≡ Err fault.Overflow) ↔ OverflowsIn c a b
answer-overflow (Sum f) a b = search rules
answer-overflow (Quotient f) a b = search rules
answer-overflow (Bits f) a b = search rules
answer-overflow (Shift f) a b = search rules
answer-overflow (Comparison f) a b = search rules

-- a result that may overflow, one that may also have no divisor, and a shift
abbrev sum_of : Bool → Bool → Value → Answer
sum_of signed held v = if signed && not held then Err fault.Overflow else Ok v

abbrev quotient_of : Bool → Bool → Bool → Value → Answer
quotient_of divisor signed held v = if divisor then sum_of signed held v else Err fault.DivideByZero

abbrev shift_by : Bool → ℕ → (ℕ → Value) → Answer
shift_by near n f = shifted_by (if near then Ok n else Err fault.ShiftRange) f

-- the faults that these answer
sum-only : (signed held : Bool) (v : Value) (e : Fault) → sum_of signed held v ≡ Err e → e ≡ fault.Overflow
sum-only true true v e h = absurd cc
sum-only true false v e h = cc
sum-only false true v e h = absurd cc
sum-only false false v e h = absurd cc

quotient-only : (divisor signed held : Bool) (v : Value) (e : Fault) → quotient_of divisor signed held v ≡ Err e → (e ≡ fault.Overflow) ⊎ (e ≡ fault.DivideByZero)
quotient-only true signed held v e h = inl (sum-only signed held v e h)
quotient-only false signed held v e h = inr cc

shift-only : (near : Bool) (n : ℕ) (f : ℕ → Value) (e : Fault) → shift_by near n f ≡ Err e → e ≡ fault.ShiftRange
shift-only true n f e h = absurd cc
shift-only false n f e h = cc

-- the faults that a class of operators may answer
abbrev Answers : Class → Fault → Type 0
Answers (Sum f) e = e ≡ fault.Overflow
Answers (Quotient f) e = (e ≡ fault.Overflow) ⊎ (e ≡ fault.DivideByZero)
Answers (Bits f) e = ⊥
Answers (Shift f) e = e ≡ fault.ShiftRange
Answers (Comparison f) e = ⊥

answer-only : (c : Class) (a b : Value) (e : Fault) → answer_of c a b ≡ Err e → Answers c e
answer-only (Sum f) a b e h = sum-only _ _ _ e h
answer-only (Quotient f) a b e h = quotient-only _ _ _ _ e h
answer-only (Bits f) a b e h = cc
answer-only (Shift f) a b e h = shift-only _ _ _ e h
answer-only (Comparison f) a b e h = cc

no_other : (c : Class) (e : Fault) → e ≢ fault.Overflow → e ≢ fault.DivideByZero → e ≢ fault.ShiftRange → Answers c e → ⊥
no_other (Sum f) e o d s h = o h
no_other (Quotient f) e o d s (inl h) = o h
no_other (Quotient f) e o d s (inr h) = d h
no_other (Bits f) e o d s h = h
no_other (Shift f) e o d s h = s h
no_other (Comparison f) e o d s h = h

pub answer-no_index_range : (c : Class) (a b : Value) → answer_of c a b ≢ Err fault.IndexRange
answer-no_index_range c a b h = no_other c fault.IndexRange (λ e. cc) (λ e. cc) (λ e. cc) (answer-only c a b fault.IndexRange h)

pub answer-no_bad_time : (c : Class) (a b : Value) → answer_of c a b ≢ Err fault.BadTime
answer-no_bad_time c a b h = no_other c fault.BadTime (λ e. cc) (λ e. cc) (λ e. cc) (answer-only c a b fault.BadTime h)

-- an amount is out of range exactly where it is no amount
shift-range : (width : ℕ) (z : ℤ) (f : ℕ → Value) → (shifted_by (amount_of width z) f ≡ Err fault.ShiftRange) ↔ (¬ ((pos 0 ≤ℤ z) × (z <ℤ pos width)))
shift-range width (pos n) f = at (nat_le 0 n && nat_lt n width) refl
  where
    at : (near : Bool) → (nat_le 0 n && nat_lt n width) ≡ near → (shift_by near n f ≡ Err fault.ShiftRange) ↔ (¬ ((pos 0 ≤ℤ pos n) × (pos n <ℤ pos width)))
    at true e = (λ h. absurd cc, λ g. absurd (g (search rules, search rules)))
    at false e = (λ h g. absurd (search rules), λ g. refl)
shift-range width (negsuc n) f = (λ h g. absurd (search rules), λ g. refl)

pub answer-shift_range : (c : Class) (a b : Value) → (answer_of c a b ≡ Err fault.ShiftRange) ↔ (IsTrue (shifts c) × ¬ (IsAmount a b))
answer-shift_range (Sum f) a b = (λ h. let e : _ ≡ _ = answer-only (Sum f) a b fault.ShiftRange h in absurd cc, λ g. absurd cc)
answer-shift_range (Quotient f) a b = (λ h. elim (answer-only (Quotient f) a b fault.ShiftRange h) [ inl e ↦ absurd cc | inr e ↦ absurd cc ], λ g. absurd cc)
answer-shift_range (Bits f) a b = (λ h. absurd (answer-only (Bits f) a b fault.ShiftRange h), λ g. absurd cc)
answer-shift_range (Shift f) a b = let h = shift-range _ (number_of b) _ in (λ e. (refl, h.0 e), λ g. h.1 g.1)
answer-shift_range (Comparison f) a b = (λ h. absurd (answer-only (Comparison f) a b fault.ShiftRange h), λ g. absurd cc)

-- a quotient has no divisor exactly where the divisor is 0
nonzero-false : (z : ℤ) → is_nonzero z ≡ false → z ≡ pos 0
nonzero-false z e = search rules

no_divisor : (signed held : Bool) (z : ℤ) (v : Value) {divisor : Bool} → divisor ≡ is_nonzero z → (quotient_of divisor signed held v ≡ Err fault.DivideByZero) ↔ (IsTrue true × (z ≡ pos 0))
no_divisor signed held z v {divisor = true} e = (λ h. let o : _ ≡ _ = sum-only signed held v fault.DivideByZero h in absurd cc, λ g. let c : true ≡ false = e ∙ ap is_nonzero g.1 in absurd cc)
no_divisor signed held z v {divisor = false} e = (λ h. (refl, nonzero-false z (sym e)), λ g. refl)

pub answer-divide_by_zero : (c : Class) (a b : Value) → IsTrue (is_in_range (kind_of b) (number_of b)) → (answer_of c a b ≡ Err fault.DivideByZero) ↔ (IsTrue (divides c) × (number_of b ≡ pos 0))
answer-divide_by_zero (Sum f) a b r = (λ h. let e : _ ≡ _ = answer-only (Sum f) a b fault.DivideByZero h in absurd cc, λ g. absurd cc)
answer-divide_by_zero (Quotient f) a b r = no_divisor _ _ (number_of b) _ (right-zero (kind_of a) b r)
answer-divide_by_zero (Bits f) a b r = (λ h. absurd (answer-only (Bits f) a b fault.DivideByZero h), λ g. absurd cc)
answer-divide_by_zero (Shift f) a b r = (λ h. let e : _ ≡ _ = answer-only (Shift f) a b fault.DivideByZero h in absurd cc, λ g. absurd cc)
answer-divide_by_zero (Comparison f) a b r = (λ h. absurd (answer-only (Comparison f) a b fault.DivideByZero h), λ g. absurd cc)
