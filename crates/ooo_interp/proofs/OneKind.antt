-- Operators on two signed values of one kind, read from their bits: converted to that kind, they are as they were.
use Rattle.std.proofs.Common.{◌≡◌, Ok, Bool, Option, Some, None, IfSome, refl, sym, ◌∙◌, ℤ, FitsSigned, to_z, of_z}
use Rattle.std.specs.Int.{w32, w64}
use Rattle.std.proofs.lemmas.Int.{int_wrap_fits, to_z-of_z}
use Rattle.ooo_value.specs.declared.kinds.Kind.TheVariants as kind
use Rattle.ooo_value.specs.declared.values.Value.{Value}
use Rattle.ooo_value.specs.declared.values.Value.TheVariants as value
use Rattle.ooo_value.specs.Operators.{Answer, Sum, Comparison, answer_of, result_in}

-- an exact result of two ints
pub sum_of_ints : (f : ℤ → ℤ → ℤ) (x y : ℤ) → FitsSigned w32 x → FitsSigned w32 y → result_in kind.Int (f (to_z w32 (of_z w32 x)) (to_z w32 (of_z w32 y))) ≡ answer_of (Sum f) (value.Int x) (value.Int y)
sum_of_ints f x y g h = rw (to_z-of_z w32 x g, to_z-of_z w32 y h, int_wrap_fits w32 x g, int_wrap_fits w32 y h) refl

-- and of two long longs
pub sum_of_longs : (f : ℤ → ℤ → ℤ) (x y : ℤ) → FitsSigned w64 x → FitsSigned w64 y → result_in kind.Long (f (to_z w64 (of_z w64 x)) (to_z w64 (of_z w64 y))) ≡ answer_of (Sum f) (value.Long x) (value.Long y)
sum_of_longs f x y g h = rw (to_z-of_z w64 x g, to_z-of_z w64 y h, int_wrap_fits w64 x g, int_wrap_fits w64 y h) refl

-- a comparison of two ints
pub compared_ints : (f : ℤ → ℤ → Bool) (x y : ℤ) → FitsSigned w32 x → FitsSigned w32 y → Ok (value.Bool (f (to_z w32 (of_z w32 x)) (to_z w32 (of_z w32 y)))) ≡ answer_of (Comparison f) (value.Int x) (value.Int y)
compared_ints f x y g h = rw (to_z-of_z w32 x g, to_z-of_z w32 y h, int_wrap_fits w32 x g, int_wrap_fits w32 y h) refl

-- and of two long longs
pub compared_longs : (f : ℤ → ℤ → Bool) (x y : ℤ) → FitsSigned w64 x → FitsSigned w64 y → Ok (value.Bool (f (to_z w64 (of_z w64 x)) (to_z w64 (of_z w64 y)))) ≡ answer_of (Comparison f) (value.Long x) (value.Long y)
compared_longs f x y g h = rw (to_z-of_z w64 x g, to_z-of_z w64 y h, int_wrap_fits w64 x g, int_wrap_fits w64 y h) refl

-- the number of an answer, where that is known
pub given_number : (made : ℤ → Value) (number : Option ℤ) {answer known : Answer} → answer ≡ known → IfSome number (λ z. answer ≡ Ok (made z)) → IfSome number (λ z. Ok (made z) ≡ known)
given_number made (Some z) e h = sym h ∙ e
given_number made None e h = tt
