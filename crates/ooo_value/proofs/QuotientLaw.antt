-- A quotient and its rest.
use Rattle.std.proofs.Common.{rules, arith, ◌≡◌, ◌≢◌, ℕ, suc, zero, ◌*◌, ◌%◌, ◌<◌, refl, sym, ap, ◌∙◌, lt_of_le_of_lt, ℤ, pos, negsuc, neg_ℤ, ◌*ℤ◌, ◌≤ℤ◌, unsigned_abs}
use Rattle.std.specs.Prelude.{Ok, Err, IsTrue, Bool, true, false, not, ◌&&◌, if◌then◌else◌, int_div, int_rem}
use Rattle.std.specs.Int.Signed.{mag_rem}
use Rattle.std.proofs.Math.Nat.{div-le_self, mod-le}
use Rattle.std.proofs.lemmas.Int.{ints, quot-rem, rem_below}
use Rattle.ooo_value.specs.declared.kinds.Kind.{Kind}
use Rattle.ooo_value.specs.declared.kinds.Kind.TheVariants as kind
use Rattle.ooo_value.specs.declared.operators.Op.TheVariants as op
use Rattle.ooo_value.specs.declared.operators.Fault.TheVariants as fault
use Rattle.ooo_value.specs.declared.values.Value.{Value}
use Rattle.ooo_value.specs.Kinds.{common_kind, is_signed}
use Rattle.ooo_value.specs.Operators.{IsQuotientAndRest, binary_of, divided_in}
use Rattle.ooo_value.specs.Values.{is_in_range, is_nonzero, kind_of, number_in, number_of, value_of}
use Rattle.ooo_value.proofs.Causes.{common-no_bool}
use Rattle.ooo_value.proofs.Conversions.{in_range_32, in_range_64, value_in_range}
use Rattle.ooo_value.proofs.Exact.{fits_32, fits_64, number_of-value_of}

-- an unsigned kind has its quotients, and every kind its rests
div_in_range : (k : Kind) (x y : ℤ) → k ≢ kind.Bool → is_signed k ≡ false → IsTrue (is_in_range k x) → IsTrue (is_in_range k y) → IsTrue (is_in_range k (int_div x y))
div_in_range kind.Bool x y b u h g = absurd (b refl)
div_in_range kind.Int x y b u h g = absurd cc
div_in_range kind.Uint (pos m) (pos n) b u h g = let l = div-le_self m n in search rules
div_in_range kind.Uint (pos m) (negsuc n) b u h g = absurd (search rules)
div_in_range kind.Uint (negsuc m) y b u h g = absurd (search rules)
div_in_range kind.Long x y b u h g = absurd cc
div_in_range kind.Ulong (pos m) (pos n) b u h g = let l = div-le_self m n in search rules
div_in_range kind.Ulong (pos m) (negsuc n) b u h g = absurd (search rules)
div_in_range kind.Ulong (negsuc m) y b u h g = absurd (search rules)

rem_in_range : (k : Kind) (x y : ℤ) → k ≢ kind.Bool → IsTrue (is_in_range k x) → IsTrue (is_in_range k (int_rem x y))
rem_in_range kind.Bool x y b h = absurd (b refl)
rem_in_range kind.Int x y b h = in_range_32 (int_rem x y) (record { sfits = lt_of_le_of_lt (mag_rem x y) (fits_32 x h).sfits })
rem_in_range kind.Uint (pos m) y b h = let l = mod-le m (unsigned_abs y) in search rules
rem_in_range kind.Uint (negsuc m) y b h = absurd (search rules)
rem_in_range kind.Long x y b h = in_range_64 (int_rem x y) (record { sfits = lt_of_le_of_lt (mag_rem x y) (fits_64 x h).sfits })
rem_in_range kind.Ulong (pos m) y b h = let l = mod-le m (unsigned_abs y) in search rules
rem_in_range kind.Ulong (negsuc m) y b h = absurd (search rules)

-- the rest has the sign of the left side
rem-sign : (x y : ℤ) → pos 0 ≤ℤ (int_rem x y *ℤ x)
rem-sign (pos a) y = omega (arith, ints)
rem-sign (negsuc a) y = by_rest (suc a % unsigned_abs y)
  where
    by_rest : (r : ℕ) → pos 0 ≤ℤ (neg_ℤ (pos r) *ℤ negsuc a)
    by_rest zero = let e : 0 * suc a ≡ 0 = omega arith in rw e (omega (arith, ints))
    by_rest (suc r) = omega (arith, ints)

-- what an answer of `/` is
quotient-is : (k : Kind) (x y : ℤ) (q : Value) → k ≢ kind.Bool → IsTrue (is_in_range k x) → IsTrue (is_in_range k y) → divided_in int_div k x y ≡ Ok q → (is_nonzero y ≡ true) × (number_of q ≡ int_div x y)
quotient-is k x y q b h g e = at (is_nonzero y) (is_signed k) (is_in_range k (int_div x y)) refl refl refl e
  where
    at : (n s r : Bool) → is_nonzero y ≡ n → is_signed k ≡ s → is_in_range k (int_div x y) ≡ r → (if n then (if s && not r then Err fault.Overflow else Ok (value_of k (int_div x y))) else Err fault.DivideByZero) ≡ Ok q → (is_nonzero y ≡ true) × (number_of q ≡ int_div x y)
    at true true true n s r e = let i : value_of k (int_div x y) ≡ q = cc in (n, ap number_of (sym i) ∙ number_of-value_of k _ b r)
    at true true false n s r e = absurd cc
    at true false r n s i e = let i : value_of k (int_div x y) ≡ q = cc in (n, ap number_of (sym i) ∙ number_of-value_of k _ b (div_in_range k x y b s h g))
    at false s r n _ _ e = absurd cc

-- what an answer of `%` is
rest-is : (k : Kind) (x y : ℤ) (r : Value) → k ≢ kind.Bool → IsTrue (is_in_range k x) → divided_in int_rem k x y ≡ Ok r → number_of r ≡ int_rem x y
rest-is k x y r b h e = at (is_nonzero y) (is_signed k && not (is_in_range k (int_div x y))) e
  where
    at : (n o : Bool) → (if n then (if o then Err fault.Overflow else Ok (value_of k (int_rem x y))) else Err fault.DivideByZero) ≡ Ok r → number_of r ≡ int_rem x y
    at true true e = absurd cc
    at true false e = let i : value_of k (int_rem x y) ≡ r = cc in ap number_of (sym i) ∙ number_of-value_of k _ b (rem_in_range k x y b h)
    at false o e = absurd cc

nonzero-abs : (y : ℤ) → is_nonzero y ≡ true → 0 < unsigned_abs y
nonzero-abs (pos n) h = search rules
nonzero-abs (negsuc n) h = omega arith

both : (k : Kind) (x y : ℤ) (q r : Value) → k ≢ kind.Bool → IsTrue (is_in_range k x) → IsTrue (is_in_range k y) → divided_in int_div k x y ≡ Ok q → divided_in int_rem k x y ≡ Ok r → IsQuotientAndRest x y (number_of q) (number_of r)
both k x y q r b h g e f =
    let i = quotient-is k x y q b h g e in
    rw (i.1, rest-is k x y r b h f) (quot-rem x y, rem_below x y (nonzero-abs y i.0), rem-sign x y)

pub quotient_and_rest : (a b q r : Value) → binary_of op.Divide a b ≡ Ok q → binary_of op.Remainder a b ≡ Ok r → IsQuotientAndRest (number_in (common_kind (kind_of a) (kind_of b)) a) (number_in (common_kind (kind_of a) (kind_of b)) b) (number_of q) (number_of r)
quotient_and_rest a b q r e f =
    let k = common_kind (kind_of a) (kind_of b) in
    both k _ _ q r (common-no_bool (kind_of a) (kind_of b)) (value_in_range k (number_of a)) (value_in_range k (number_of b)) e f
