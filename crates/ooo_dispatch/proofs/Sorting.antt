-- Pieces in order of place: of two lists of the same pieces, in order, where no two are at one place, both are the same.
use Rattle.std.proofs.Common.{◌≡◌, ℕ, zero, suc, ◌+◌, ◌<◌, ◌≤◌, ◌⊎◌, inl, inr, ⊎_elim, Bool, true, false, if◌then◌else◌, List, [], ◌∷◌, refl, sym, ap, ◌∙◌, subst, arith}
use Rattle.std.specs.Prelude.{⊤, slice_index_or}
use Rattle.std.specs.List.{sum_by}
use Rattle.std.specs.List.Sorted.{IsSortedBy}
use Rattle.std.proofs.lemmas.List.Sums.{sum_by-cons}
use Rattle.ooo_time.specs.declared.stamp.Place.{Place}
use Rattle.ooo_time.specs.Stamps.{ComesBefore}
use Rattle.ooo_history.specs.declared.run.Piece.{Piece}
use Rattle.ooo_schedules.specs.Model.{In}
use Rattle.ooo_dispatch.specs.ReadOff.{precedes}
use Rattle.ooo_dispatch.proofs.Reported.{apart, is_precedes, places_apart, places_compare, places_join, precedes_is}

-- the same sum of any weight
abbrev pub Alike : List Piece → List Piece → Type 0
Alike xs ys = (f : Piece → ℕ) → sum_by f xs ≡ sum_by f ys

-- no piece stands behind a later one
abbrev pub Rises : List Piece → Type 0
Rises [] = ⊤
Rises (x ∷ xs) = ((z : Piece) → In z xs → ComesBefore z.place x.place → ⊥) × Rises xs

-- each piece is before those that stand behind it
abbrev pub Ascends : List Piece → Type 0
Ascends [] = ⊤
Ascends (x ∷ xs) = ((z : Piece) → In z xs → ComesBefore x.place z.place) × Ascends xs

pub rises : (xs : List Piece) → IsSortedBy (λ x y. precedes x.place y.place) xs → Rises xs
rises [] h = tt
rises (x ∷ []) h = (λ z i. absurd i, tt)
rises (x ∷ y ∷ ys) h =
    at (rises (y ∷ ys)
    (λ k d le lt.
    let e : suc k + 1 ≡ suc (k + 1) = omega arith in
    subst (λ n. precedes (slice_index_or (x ∷ y ∷ ys) n d).place (slice_index_or (y ∷ ys) k d).place ≡ false) e (h (suc k) d (omega arith) (omega (arith, lt)))))
  where
    first : ComesBefore y.place x.place → ⊥
    first c = apart (is_precedes y.place x.place c) (h 0 x (omega arith) (omega arith))

    at : Rises (y ∷ ys) → Rises (x ∷ y ∷ ys)
    at rec = (λ z i. ⊎_elim (λ e. subst (λ u. ComesBefore u.place x.place → ⊥) (sym e) first) (λ j. later z (rec.0 z j)) i, rec)
      where
        later : (z : Piece) → (ComesBefore z.place y.place → ⊥) → ComesBefore z.place x.place → ⊥
        later z n c =
            ⊎_elim (λ k. n (places_join z.place x.place y.place c k)) (λ k. ⊎_elim (λ e. n (subst (ComesBefore z.place) e c)) (λ g. first g) k) (places_compare x.place y.place)

-- ---- sums

-- 1 of what is at a place
abbrev weight : Place → Piece → ℕ
weight s x = if precedes x.place s then 0 else (if precedes s x.place then 0 else 1)

weight_own : (x : Piece) → 0 < weight x.place x
weight_own x = at (precedes x.place x.place) refl
  where
    at : (b : Bool) → precedes x.place x.place ≡ b → 0 < (if b then 0 else (if b then 0 else 1))
    at true e = absurd (places_apart x.place (precedes_is x.place x.place e))
    at false e = omega arith

weight_at : (s : Place) (x : Piece) → 0 < weight s x → x.place ≡ s
weight_at s x lt = at (precedes x.place s) (precedes s x.place) refl refl lt
  where
    at : (a b : Bool) → precedes x.place s ≡ a → precedes s x.place ≡ b → 0 < (if a then 0 else (if b then 0 else 1)) → x.place ≡ s
    at true b p q h = absurd (omega (arith, h))
    at false true p q h = absurd (omega (arith, h))
    at false false p q h =
        ⊎_elim (λ k. absurd (apart (is_precedes x.place s k) p)) (λ k. ⊎_elim (λ e. e) (λ g. absurd (apart (is_precedes s x.place g) q)) k) (places_compare x.place s)

in_sum : (f : Piece → ℕ) (xs : List Piece) (x : Piece) → In x xs → f x ≤ sum_by f xs
in_sum f [] x i = absurd i
in_sum f (y ∷ xs) x (inl e) = let k : f x ≡ f y = ap f e in let c = sum_by-cons f y xs in omega (arith, k, c)
in_sum f (y ∷ xs) x (inr i) = let le = in_sum f xs x i in let c = sum_by-cons f y xs in omega (arith, le, c)

sum_in : (f : Piece → ℕ) (xs : List Piece) → 0 < sum_by f xs → (x : Piece) × In x xs × (0 < f x)
sum_in f [] lt = absurd (omega (arith, lt))
sum_in f (x ∷ xs) lt = at (f x) refl (sum_in f xs)
  where
    at : (n : ℕ) → f x ≡ n → (0 < sum_by f xs → (y : Piece) × In y xs × (0 < f y)) → (y : Piece) × In y (x ∷ xs) × (0 < f y)
    at zero e rec = let c = sum_by-cons f x xs in let r = rec (omega (arith, lt, e, c)) in (r.0, inr r.1, r.2)
    at (suc n) e rec = (x, inl refl, omega (arith, e))

found : (xs ys : List Piece) → Alike xs ys → (y : Piece) → In y ys → (x : Piece) × In x xs × (x.place ≡ y.place)
found xs ys alike y i =
    let a = alike (weight y.place) in
    let b = in_sum (weight y.place) ys y i in
    let c = weight_own y in
    let r = sum_in (weight y.place) xs (omega (arith, a, b, c)) in
    (r.0, r.1, weight_at y.place r.0 r.2)

-- ---- one list

module _ (F : Piece → Type 0) (own : (a b : Piece) → F a → F b → a.place ≡ b.place → a ≡ b) where
  pub one_list : (xs ys : List Piece) → ((x : Piece) → In x xs → F x) → ((y : Piece) → In y ys → F y) → Rises xs → Ascends ys → Alike xs ys → xs ≡ ys
  one_list [] [] of_xs of_ys up asc alike = refl
  one_list [] (y ∷ ys) of_xs of_ys up asc alike = let k = alike (λ z. 1) in let c = sum_by-cons (λ z. 1) y ys in absurd (omega (arith, k, c))
  one_list (x ∷ xs) [] of_xs of_ys up asc alike = let k = alike (λ z. 1) in let c = sum_by-cons (λ z. 1) x xs in absurd (omega (arith, k, c))
  one_list (x ∷ xs) (y ∷ ys) of_xs of_ys up asc alike = ap (λ z. z ∷ xs) same ∙ ap (λ zs. y ∷ zs) (one_list xs ys (λ z i. of_xs z (inr i)) (λ z i. of_ys z (inr i)) up.1 asc.1 rest)
    where
      at : (a b : Piece) → (a ≡ x) ⊎ In a xs → a.place ≡ y.place → (b ≡ y) ⊎ In b ys → b.place ≡ x.place → x ≡ y
      at a b (inl e) p j q = own x y (of_xs x (inl refl)) (of_ys y (inl refl)) (ap (λ z. z.place) (sym e) ∙ p)
      at a b (inr i) p (inl e) q = own x y (of_xs x (inl refl)) (of_ys y (inl refl)) (sym q ∙ ap (λ z. z.place) e)
      at a b (inr i) p (inr j) q = absurd (up.0 a i (subst (λ s. ComesBefore s x.place) (sym p) (subst (ComesBefore y.place) q (asc.0 b j))))

      same : x ≡ y
      same =
          let f = found (x ∷ xs) (y ∷ ys) alike y (inl refl) in
          let g = found (y ∷ ys) (x ∷ xs) (λ w. sym (alike w)) x (inl refl) in
          at f.0 g.0 f.1 f.2 g.1 g.2

      rest : Alike xs ys
      rest f = let a = alike f in let b : f x ≡ f y = ap f same in let c = sum_by-cons f x xs in let d = sum_by-cons f y ys in omega (arith, a, b, c, d)
