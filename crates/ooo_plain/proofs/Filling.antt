-- Lists that are made one by one.
use Rattle.std.proofs.Common.{◌≡◌, ℕ, ◌+◌, ◌<◌, List, [], ◌∷◌, ◌++◌, length, map, replicate, take, get_or, sym, ap, ◌∙◌}
use Rattle.std.proofs.lemmas.List.{map-append, replicate_more, take_more}

-- one more like the others
pub filled_more : {A : Type 0} (xs new : List A) (x : A) (n : ℕ) (a : A) → xs ≡ replicate n a → x ≡ a → new ≡ xs ++ x ∷ [] → new ≡ replicate (n + 1) a
filled_more xs new x n a h e is = is ∙ ap (λ ys. ys ++ x ∷ []) h ∙ ap (λ y. replicate n a ++ y ∷ []) e ∙ replicate_more n a

-- one more that shows the same as the others
pub alike_more : {A B : Type 0} (f : A → B) (xs new : List A) (x : A) (n : ℕ) (b : B) → map f xs ≡ replicate n b → f x ≡ b → new ≡ xs ++ x ∷ [] → map f new ≡ replicate (n + 1) b
alike_more f xs new x n b h e is = filled_more (map f xs) (map f new) (f x) n b h e (ap (map f) is ∙ map-append f xs (x ∷ []))

-- one more of what is made of each
pub made_more : {A B : Type 0} (g : B → A) (xs new : List A) (x : A) (ys : List B) (d : B) (i : ℕ) → i < length ys → xs ≡ map g (take i ys) → x ≡ g (get_or ys i d) → new ≡ xs ++ x ∷ [] → new ≡ map g (take (i + 1) ys)
made_more g xs new x ys d i lt h e is =
    is ∙ ap (λ zs. zs ++ x ∷ []) h ∙ ap (λ z. map g (take i ys) ++ z ∷ []) e
    ∙ sym (map-append g (take i ys) (get_or ys i d ∷ [])) ∙ ap (map g) (sym (take_more ys i d lt))
