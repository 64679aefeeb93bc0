-- Lists in order that have the same members are the same.
use Rattle.std.proofs.Common.{◌≡◌, suc, List, [], ◌∷◌, refl, ap, sym, ◌∙◌, subst, arith, inl, inr}
use Rattle.std.specs.Prelude.{Contains, AllPairs}
use Rattle.ooo_lemmas.proofs.Contained.{not_in_none, in_first, in_later, first_or_later}

-- what is later in the list comes after the first
comes_after : {A : Type 0} (R : A → A → Type 0) (x z : A) (xs : List A) → AllPairs R (x ∷ xs) → Contains xs z → R x z
comes_after R x z xs p h = let lt = h.1 in subst (λ w. R x w) h.2 (p 0 (suc h.0) z (omega arith) (omega arith))

rest_in_order : {A : Type 0} (R : A → A → Type 0) (x : A) (xs : List A) → AllPairs R (x ∷ xs) → AllPairs R xs
rest_in_order R x xs p = λ i j d lt inside. p (suc i) (suc j) d (omega arith) (omega arith)

-- the first is the same: neither can come after the other
same_first : {A : Type 0} (R : A → A → Type 0) → ((x y : A) → R x y → R y x → ⊥) → (x y : A) (xs ys : List A) → AllPairs R (x ∷ xs) → AllPairs R (y ∷ ys) → Contains (y ∷ ys) x → Contains (x ∷ xs) y → x ≡ y
same_first R apart x y xs ys p q a b =
    elim (first_or_later y x ys a) [
      | inl e ↦ sym e
      | inr later ↦ elim (first_or_later x y xs b) [
        | inl e ↦ e
        | inr other ↦ absurd (apart x y (comes_after R x y xs p other) (comes_after R y x ys q later))
      ]
    ]

-- a member of the first rest is one of the second
rest_has : {A : Type 0} (R : A → A → Type 0) → ((x y : A) → R x y → R y x → ⊥) → (x y z : A) (xs ys : List A) → AllPairs R (x ∷ xs) → x ≡ y → ((w : A) → Contains (x ∷ xs) w → Contains (y ∷ ys) w) → Contains xs z → Contains ys z
rest_has R apart x y z xs ys p e f h =
    elim (first_or_later y z ys (f z (in_later x z xs h))) [
      | inl g ↦
          let r : R x x = subst (λ w. R x w) (sym (e ∙ g)) (comes_after R x z xs p h) in
          absurd (apart x x r r)
      | inr later ↦ later
    ]

pub same_ordered : {A : Type 0} (R : A → A → Type 0) → ((x y : A) → R x y → R y x → ⊥) → (xs ys : List A) → AllPairs R xs → AllPairs R ys → ((z : A) → Contains xs z → Contains ys z) → ((z : A) → Contains ys z → Contains xs z) → xs ≡ ys
same_ordered R apart [] [] p q f g = refl
same_ordered R apart [] (y ∷ ys) p q f g = absurd (not_in_none y (g y (in_first y ys)))
same_ordered R apart (x ∷ xs) [] p q f g = absurd (not_in_none x (f x (in_first x xs)))
same_ordered R apart (x ∷ xs) (y ∷ ys) p q f g =
    let e = same_first R apart x y xs ys p q (f x (in_first x xs)) (g y (in_first y ys)) in
    let others = same_ordered R apart xs ys (rest_in_order R x xs p) (rest_in_order R y ys q) (λ z h. rest_has R apart x y z xs ys p e f h) (λ z h. rest_has R apart y x z ys xs q (sym e) g h) in
    ap (λ w. w ∷ xs) e ∙ ap (λ ws. y ∷ ws) others
