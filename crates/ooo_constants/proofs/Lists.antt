-- What holds of parts that are read one after the other, for loops over them.
use Rattle.std.proofs.Common.{◌≡◌, ◌∙◌, ap, sym, add-one, ℕ, ◌+◌, ◌<◌, suc, List, ◌∷◌, ◌++◌, drop, length, get_or, append_assoc}
use Rattle.std.proofs.Math.Seq.{drop-cons}

-- what is left of a list, from an item on
pub dropped : {A : Type 0} (xs : List A) (i : ℕ) (x : A) → i < length xs → x ≡ get_or xs i x → drop i xs ≡ x ∷ drop (i + 1) xs
dropped xs i x h is = rw (add-one i) (drop-cons xs i x h ∙ ap (λ y. y ∷ drop (suc i) xs) (sym is))

-- what was made of the parts before, and then what is made of the others, stays the same where one more is read
pub appended : {A T : Type 0} (f : A → List T) (g : List A → List T) → ((x : A) (xs : List A) → g (x ∷ xs) ≡ f x ++ g xs) →
    (all all' whole : List T) (xs : List A) (i : ℕ) (x : A) → i < length xs → x ≡ get_or xs i x → all' ≡ all ++ f x →
    all ++ g (drop i xs) ≡ whole → all' ++ g (drop (i + 1) xs) ≡ whole
appended f g step all all' whole xs i x h is more so_far =
    ap (λ ys. ys ++ g (drop (i + 1) xs)) more ∙ append_assoc all (f x) (g (drop (i + 1) xs))
    ∙ ap (λ ys. all ++ ys) (sym (step x (drop (i + 1) xs)) ∙ ap g (sym (dropped xs i x h is))) ∙ so_far

-- what is appended part by part is appended as a whole
pub in_two : {T : Type 0} (all mid xs ys : List T) → mid ≡ all ++ xs → all ++ (xs ++ ys) ≡ mid ++ ys
in_two all mid xs ys first = sym (ap (λ zs. zs ++ ys) first ∙ append_assoc all xs ys)

pub in_three : {T : Type 0} (all mid late xs ys zs : List T) → mid ≡ all ++ xs → late ≡ mid ++ ys →
    all ++ (xs ++ ys ++ zs) ≡ late ++ zs
in_three all mid late xs ys zs first second =
    in_two all late (xs ++ ys) zs (second ∙ ap (λ before. before ++ ys) first ∙ append_assoc all xs ys)
