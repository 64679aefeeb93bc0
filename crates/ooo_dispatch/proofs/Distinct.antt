-- No two segments of a design begin at the same place.
use Rattle.std.proofs.Common.{◌≡◌, ℕ, zero, suc, ◌≤◌, ◌+◌, ◌⊎◌, inl, inr, ⊎_elim, List, [], ◌∷◌, ◌++◌, map, Bool, true, false, if◌then◌else◌, Some, refl, sym, ap, ◌∙◌, subst, arith}
use Rattle.std.specs.Prelude.{slice_get, ⊤}
use Rattle.ooo_code.specs.Touches.{numbers_where}
use Rattle.ooo_code.specs.declared.design.Design.{Design}
use Rattle.ooo_code.specs.declared.design.Proc.{Proc}
use Rattle.ooo_code.specs.declared.segment.Segment.{Segment}
use Rattle.ooo_code.specs.declared.segment.SegmentEntry.TheVariants.{Start, After}
use Rattle.ooo_code.specs.Segments.{entries_of, nodes_of, is_wait}
use Rattle.ooo_segments.specs.Beginnings.{Beginning, beginning_of, beginnings_of, beginnings_from, beginnings}
use Rattle.ooo_schedules.specs.Model.{In}
use Rattle.ooo_dispatch.proofs.Edges.{in_at}
use Rattle.ooo_dispatch.proofs.Numbers.{not_below}

-- nothing stands twice in a list
abbrev pub Distinct : {A : Type 0} → List A → Type 0
Distinct [] = ⊤
Distinct (x ∷ xs) = (In x xs → ⊥) × Distinct xs

pub same_place : {A : Type 0} (xs : List A) (i j : ℕ) (x : A) → Distinct xs → slice_get xs i ≡ Some x → slice_get xs j ≡ Some x → i ≡ j
same_place [] i j x d e f = absurd cc
same_place (y ∷ xs) zero zero x d e f = refl
same_place (y ∷ xs) zero (suc j) x d e f = absurd (let s : y ≡ x = cc in d.0 (subst (λ z. In z xs) (sym s) (in_at xs j x f)))
same_place (y ∷ xs) (suc i) zero x d e f = absurd (let s : y ≡ x = cc in d.0 (subst (λ z. In z xs) (sym s) (in_at xs i x e)))
same_place (y ∷ xs) (suc i) (suc j) x d e f = ap suc (same_place xs i j x d.1 e f)

either : {A : Type 0} (xs ys : List A) (x : A) → In x (xs ++ ys) → In x xs ⊎ In x ys
either [] ys x i = inr i
either (y ∷ xs) ys x (inl e) = inl (inl e)
either (y ∷ xs) ys x (inr i) = ⊎_elim (λ j. inl (inr j)) (λ j. inr j) (either xs ys x i)

joined : {A : Type 0} (xs ys : List A) → Distinct xs → Distinct ys → ((x : A) → In x xs → In x ys → ⊥) → Distinct (xs ++ ys)
joined [] ys d e f = e
joined (x ∷ xs) ys d e f = (λ i. ⊎_elim (λ j. d.0 j) (λ j. f x (inl refl) j) (either xs ys x i), joined xs ys d.1 e (λ y i j. f y (inr i) j))

pub mapped_from : {A B : Type 0} (f : A → B) (xs : List A) (y : B) → In y (map f xs) → (x : A) × In x xs × (y ≡ f x)
mapped_from f [] y i = absurd i
mapped_from f (x ∷ xs) y (inl e) = (x, inl refl, e)
mapped_from f (x ∷ xs) y (inr i) = let r = mapped_from f xs y i in (r.0, inr r.1, r.2)

mapped : {A B : Type 0} (f : A → B) → ((a b : A) → f a ≡ f b → a ≡ b) → (xs : List A) → Distinct xs → Distinct (map f xs)
mapped f h [] d = tt
mapped f h (x ∷ xs) d = (λ i. let r = mapped_from f xs (f x) i in d.0 (subst (λ z. In z xs) (sym (h x r.0 r.2)) r.1), mapped f h xs d.1)

pub get_mapped : {A B : Type 0} (f : A → B) (xs : List A) (i : ℕ) (x : A) → slice_get xs i ≡ Some x → slice_get (map f xs) i ≡ Some (f x)
get_mapped f [] i x e = absurd cc
get_mapped f (y ∷ xs) zero x e = let s : y ≡ x = cc in ap (λ z. Some (f z)) s
get_mapped f (y ∷ xs) (suc i) x e = get_mapped f xs i x e

numbers_distinct : {A : Type 0} (test : A → Bool) (n : ℕ) (xs : List A) → Distinct (numbers_where test n xs)
numbers_distinct test n [] = tt
numbers_distinct test n (x ∷ xs) = at (test x) (numbers_distinct test (n + 1) xs)
  where
    at : (b : Bool) → Distinct (numbers_where test (n + 1) xs) → Distinct (if b then n ∷ numbers_where test (n + 1) xs else numbers_where test (n + 1) xs)
    at true d = (λ i. let le = not_below test (n + 1) xs n i in omega (arith, le), d)
    at false d = d

after_same : (a b : ℕ) → After a ≡ After b → a ≡ b
after_same a b e = cc

module _ (design : Design) where
  entries_distinct : (q : Proc) → Distinct (entries_of design q)
  entries_distinct q = (
    λ i. let r = mapped_from After (numbers_where is_wait q.first (nodes_of design q)) Start i in let e = r.2 in cc,
    mapped After after_same (numbers_where is_wait q.first (nodes_of design q)) (numbers_distinct is_wait q.first (nodes_of design q)),
  )

  of_process : (p : ℕ) (q : Proc) (b : Beginning) → In b (beginnings_of design p q) → b.0 ≡ p
  of_process p q b i = let r = mapped_from (λ e. (p, e)) (entries_of design q) b i in ap (λ x. x.0) r.2

  not_before : (p : ℕ) (qs : List Proc) (b : Beginning) → In b (beginnings_from design p qs) → p ≤ b.0
  not_before p [] b i = absurd i
  not_before p (q ∷ qs) b i =
      ⊎_elim (λ j. let e = of_process p q b j in omega (arith, e)) (λ j. let le = not_before (suc p) qs b j in omega (arith, le))
      (either (beginnings_of design p q) (beginnings_from design (suc p) qs) b i)

  pub from_distinct : (p : ℕ) (qs : List Proc) → Distinct (beginnings_from design p qs)
  from_distinct p [] = tt
  from_distinct p (q ∷ qs) =
      joined (beginnings_of design p q) (beginnings_from design (suc p) qs)
      (mapped (λ e. (p, e)) (λ a b e. ap (λ x. x.1) e) (entries_of design q) (entries_distinct q))
      (from_distinct (suc p) qs)
      (λ b i j. let e = of_process p q b i in let le = not_before (suc p) qs b j in omega (arith, e, le))

  -- two segments that begin at the same place are the same
  pub one_place : (segments : List Segment) (i j : ℕ) (a b : Segment) → map beginning_of segments ≡ beginnings design → slice_get segments i ≡ Some a → slice_get segments j ≡ Some b →
      beginning_of a ≡ beginning_of b → i ≡ j
  one_place segments i j a b order x y e =
      same_place (map beginning_of segments) i j (beginning_of a) (subst (λ bs. Distinct bs) (sym order) (from_distinct 0 design.processes)) (get_mapped beginning_of segments i a x)
      (get_mapped beginning_of segments j b y ∙ ap (λ z. Some z) (sym e))
