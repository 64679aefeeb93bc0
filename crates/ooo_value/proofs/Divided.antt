-- A signed quotient or rest that is there, in its kind.
use Rattle.std.proofs.Common.{rules, ◌≡◌, refl, sym, ◌∙◌, ℤ, pos, negsuc, FitsSigned, to_z, of_z}
use Rattle.std.specs.Prelude.{Ok, Bool, true, false, not, int_div}
use Rattle.std.specs.Int.{w32, w64}
use Rattle.std.proofs.lemmas.Int.{int_wrap_fits, to_z-of_z}
use Rattle.ooo_value.specs.declared.kinds.Kind.{Kind}
use Rattle.ooo_value.specs.declared.kinds.Kind.TheVariants as kind
use Rattle.ooo_value.specs.declared.values.Value.TheVariants as value
use Rattle.ooo_value.specs.Operators.{divided_in, is_overflow}
use Rattle.ooo_value.specs.Values.{is_nonzero, value_of}

is_true : (b : Bool) → false ≡ not b → b ≡ true
is_true true h = refl
is_true false h = absurd cc

-- where the right side is not 0 and its kind has the quotient, nothing faults
given : (f : ℤ → ℤ → ℤ) (k : Kind) (x y : ℤ) → false ≡ not (is_nonzero y) → is_overflow k (int_div x y) ≡ false → divided_in f k x y ≡ Ok (value_of k (f x y))
given f k x y n o = rw (is_true (is_nonzero y) n, o) refl

within_32 : (z : ℤ) → FitsSigned w32 z → is_overflow kind.Int z ≡ false
within_32 (pos n) h = search rules
within_32 (negsuc n) h = search rules

within_64 : (z : ℤ) → FitsSigned w64 z → is_overflow kind.Long z ≡ false
within_64 (pos n) h = search rules
within_64 (negsuc n) h = search rules

pub divided_ints : (f : ℤ → ℤ → ℤ) (x y z : ℤ) → false ≡ not (is_nonzero y) → FitsSigned w32 (int_div x y) → FitsSigned w32 z → z ≡ f x y → Ok (value.Int (to_z w32 (of_z w32 z))) ≡ divided_in f kind.Int x y
divided_ints f x y z n q g e = rw (to_z-of_z w32 z g) (sym (given f kind.Int x y n (within_32 _ q) ∙ rw (← e, int_wrap_fits w32 z g) refl))

pub divided_longs : (f : ℤ → ℤ → ℤ) (x y z : ℤ) → false ≡ not (is_nonzero y) → FitsSigned w64 (int_div x y) → FitsSigned w64 z → z ≡ f x y → Ok (value.Long (to_z w64 (of_z w64 z))) ≡ divided_in f kind.Long x y
divided_longs f x y z n q g e = rw (to_z-of_z w64 z g) (sym (given f kind.Long x y n (within_64 _ q) ∙ rw (← e, int_wrap_fits w64 z g) refl))
