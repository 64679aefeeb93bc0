-- The last of some arguments, and what a unit makes of it.
use Rattle.std.proofs.Common.{◌≡◌, Bool, true, false, List, [], ◌∷◌, ◌++◌, Option, Some, None, suc, ◌-◌, length, slice_get, arith, refl, sym, ap, ◌∙◌}
use Rattle.ooo_syntax.specs.declared.module.Arg.{Arg}
use Rattle.ooo_syntax.specs.declared.module.Arg.TheVariants as arg
use Rattle.ooo_syntax.specs.declared.stat.TimeForm.{TimeForm}
use Rattle.ooo_syntax.specs.declared.stat.TimeForm.TheVariants as time
use Rattle.ooo_syntax.specs.declared.expr.Expr.{Expr}
use Rattle.ooo_syntax.specs.declared.leaves.Text.{Text}
use Rattle.ooo_time.specs.declared.time.Scale.{Scale}
use Rattle.ooo_grammar.specs.Members.{ends_in_value, with_unit}

abbrev pub is_value : Arg → Bool
is_value (arg.Value e) = true
is_value _ = false

-- the first of several arguments stays
unit_behind : (u : Scale) (a b : Arg) (xs : List Arg) → with_unit u (a ∷ b ∷ xs) ≡ a ∷ with_unit u (b ∷ xs)
unit_behind u (arg.Text t) b xs = refl
unit_behind u (arg.Time t) b xs = refl
unit_behind u (arg.Value e) b xs = refl

end_behind : (a b : Arg) (xs : List Arg) → ends_in_value (a ∷ b ∷ xs) ≡ ends_in_value (b ∷ xs)
end_behind (arg.Text t) b xs = refl
end_behind (arg.Time t) b xs = refl
end_behind (arg.Value e) b xs = refl

unit_last : (u : Scale) (a : Arg) (xs : List Arg) (z : Arg) → with_unit u ((a ∷ xs) ++ z ∷ []) ≡ a ∷ with_unit u (xs ++ z ∷ [])
unit_last u a [] z = unit_behind u a z []
unit_last u a (b ∷ xs) z = unit_behind u a b (xs ++ z ∷ [])

pub unit_of_value : (u : Scale) (xs : List Arg) (e : Expr) → with_unit u (xs ++ arg.Value e ∷ []) ≡ xs ++ arg.Time (time.Amount e u) ∷ []
unit_of_value u [] e = refl
unit_of_value u (a ∷ xs) e = rw (unit_last u a xs (arg.Value e)) (ap (λ ys. a ∷ ys) (unit_of_value u xs e))

pub unit_of_text : (u : Scale) (xs : List Arg) (t : Text) → with_unit u (xs ++ arg.Text t ∷ []) ≡ xs ++ arg.Text t ∷ []
unit_of_text u [] t = refl
unit_of_text u (a ∷ xs) t = rw (unit_last u a xs (arg.Text t)) (ap (λ ys. a ∷ ys) (unit_of_text u xs t))

pub unit_of_time_arg : (u : Scale) (xs : List Arg) (t : TimeForm) → with_unit u (xs ++ arg.Time t ∷ []) ≡ xs ++ arg.Time t ∷ []
unit_of_time_arg u [] t = refl
unit_of_time_arg u (a ∷ xs) t = rw (unit_last u a xs (arg.Time t)) (ap (λ ys. a ∷ ys) (unit_of_time_arg u xs t))

-- whether there is an argument and it is a value
abbrev pub is_some_value : Option Arg → Bool
is_some_value None = false
is_some_value (Some a) = is_value a

end_one : (a : Arg) → ends_in_value (a ∷ []) ≡ is_value a
end_one (arg.Text t) = refl
end_one (arg.Time t) = refl
end_one (arg.Value e) = refl

end_at : (xs : List Arg) → ends_in_value xs ≡ is_some_value (slice_get xs (length xs - 1))
end_at [] = refl
end_at (a ∷ []) = end_one a
end_at (a ∷ b ∷ xs) =
    let e : length (a ∷ b ∷ xs) - 1 ≡ suc (length xs) = omega arith in
    let i : length (b ∷ xs) - 1 ≡ length xs = omega arith in
    end_behind a b xs
    ∙ end_at (b ∷ xs)
    ∙ ap (λ k. is_some_value (slice_get (b ∷ xs) k)) i
    ∙ ap (λ k. is_some_value (slice_get (a ∷ b ∷ xs) k)) (sym e)

pub end_is : (xs : List Arg) (o : Option Arg) → o ≡ slice_get xs (length xs - 1) → ends_in_value xs ≡ is_some_value o
end_is xs o h = end_at xs ∙ ap is_some_value (sym h)

pub ruleset units = (unit_of_value, unit_of_text, unit_of_time_arg)

pub ruleset ends = (end_is)
