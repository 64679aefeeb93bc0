-- What `&&` and `||` give, whose right side may be left out.
use Rattle.std.proofs.Common.{◌≡◌, ◌∙◌, ap, sym, refl, Bool, true, false, not, if◌then◌else◌, Option, Some, None, Ok, Err}
use Rattle.ooo_value.specs.declared.operators.Op.{Op}
use Rattle.ooo_value.specs.declared.values.Value.{Value}
use Rattle.ooo_value.specs.declared.values.Value.TheVariants as value
use Rattle.ooo_value.specs.declared.operators.Fault.{Fault}
use Rattle.ooo_value.specs.Operators.{Answer, binary_of}
use Rattle.ooo_value.specs.Values.{truth_of}
use Rattle.ooo_syntax.specs.declared.expr.BinaryOp.{BinaryOp}
use Rattle.ooo_syntax.specs.declared.expr.BinaryOp.TheVariants as binary
use Rattle.ooo_constants.specs.Values.{is_decided, on_value, operated, truth_value}

-- a sign without an operator on values gives the truth of its left side where that decides, else that of its right side
left_or_right : (sign : BinaryOp) (v : Value) (b : Answer) →
    operated sign None (Ok v) b
    ≡ (if is_decided sign (truth_of v) then Ok (value.Bool (truth_of v)) else on_value b truth_value)
left_or_right binary.Both v b =
    elim (truth_of v)
    as (λ t. (if t then on_value b truth_value else Ok (value.Bool false))
    ≡ (if not t then Ok (value.Bool t) else on_value b truth_value)) [ true ↦ refl | false ↦ refl ]
left_or_right sign v b =
    elim (truth_of v)
    as (λ t. (if t then Ok (value.Bool true) else on_value b truth_value)
    ≡ (if t then Ok (value.Bool t) else on_value b truth_value)) [ true ↦ refl | false ↦ refl ]

-- a left side that fails is all
pub left_fails : (sign : BinaryOp) (o : Option Op) (f : Fault) (b : Answer) → operated sign o (Err f) b ≡ Err f
left_fails sign (Some o) f b = refl
left_fails binary.Both None f b = refl
left_fails sign None f b = refl

-- an operator on values takes both sides
pub with_operator : (sign : BinaryOp) (o : Op) (a b : Answer) →
    operated sign (Some o) a b ≡ on_value a (λ v. on_value b (λ w. binary_of o v w))
with_operator sign o a b = refl

-- where the left side decides, its truth is all
pub decided : (sign : BinaryOp) (v : Value) (b : Answer) (t d : Bool) → t ≡ truth_of v → d ≡ is_decided sign t → d ≡ true →
    operated sign None (Ok v) b ≡ Ok (value.Bool (truth_of v))
decided sign v b t d so by is =
    left_or_right sign v b
    ∙ ap (λ x. if x then Ok (value.Bool (truth_of v)) else on_value b truth_value)
    (ap (λ x. is_decided sign x) (sym so) ∙ sym by ∙ is)

-- where it doesn't, the truth of the right side is
pub undecided : (sign : BinaryOp) (v : Value) (b : Answer) (t d : Bool) → t ≡ truth_of v → d ≡ is_decided sign t → d ≡ false →
    operated sign None (Ok v) b ≡ on_value b truth_value
undecided sign v b t d so by is =
    left_or_right sign v b
    ∙ ap (λ x. if x then Ok (value.Bool (truth_of v)) else on_value b truth_value)
    (ap (λ x. is_decided sign x) (sym so) ∙ sym by ∙ is)
