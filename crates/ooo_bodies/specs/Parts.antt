-- What holds of parts that are checked one after the other, for loops over them.
use Rattle.std.proofs.Common.{◌≡◌, ◌∙◌, ap, sym, add-one, subst, refl, ℕ, ◌+◌, ◌<◌, suc, List, [], ◌∷◌, ◌++◌, map, drop, length, get_or, append_assoc}
use Rattle.std.proofs.Math.Seq.{drop-cons}
use Rattle.ooo_checked.specs.declared.denotation.Denotation.{Denotation}
use Rattle.ooo_checked.specs.Notes.{Note, Checked, trees, all_notes}
use Rattle.ooo_checked.specs.Scopes.{Scope, declared, left}
use Rattle.ooo_checked.specs.Stats.{Stepped, in_order}
use Rattle.ooo_bodies.specs.declared.notes.Notes.{Notes}
use Rattle.ooo_bodies.specs.Noting.{noted, noted_append}

-- a name that the innermost block declares changes no block outside
pub left_declared : (s : Scope) (name : List ℕ) (d : Denotation) → left (declared s name d) ≡ left s
left_declared [] name d = refl
left_declared (block ∷ outer) name d = refl

-- ---- notes

-- two lists of notes after one another, and three
pub noted_two : (n m : Notes) (xs ys : List Note) → m ≡ noted n xs → noted m ys ≡ noted n (xs ++ ys)
noted_two n m xs ys e = ap (λ k. noted k ys) e ∙ sym (noted_append n xs ys)

pub noted_three : (n m k : Notes) (xs ys zs : List Note) → m ≡ noted n xs → k ≡ noted m ys → noted k zs ≡ noted n (xs ++ ys ++ zs)
noted_three n m k xs ys zs e h = noted_two n k (xs ++ ys) zs (h ∙ noted_two n m xs ys e)

-- ---- lists of parts

-- what is left of a list, from an item on
dropped : {A : Type 0} (xs : List A) (i : ℕ) (x : A) → i < length xs → x ≡ get_or xs i x → drop i xs ≡ x ∷ drop (suc i) xs
dropped xs i x h is = drop-cons xs i x h ∙ ap (λ y. y ∷ drop (suc i) xs) (sym is)

module _ {A T : Type 0} (f : A → Checked T) where
  -- one part more
  pub trees_more : (all : List T) (xs : List A) (i : ℕ) (d : A) → i < length xs →
      (all ++ (f (get_or xs i d)).tree ∷ []) ++ trees (map f (drop (i + 1) xs)) ≡ all ++ trees (map f (drop i xs))
  trees_more all xs i d h =
      rw (add-one i, drop-cons xs i d h) (append_assoc all ((f (get_or xs i d)).tree ∷ []) (trees (map f (drop (suc i) xs))))

  pub notes_more : (n : Notes) (xs : List A) (i : ℕ) (d : A) → i < length xs →
      noted (noted n (f (get_or xs i d)).notes) (all_notes (map f (drop (i + 1) xs))) ≡ noted n (all_notes (map f (drop i xs)))
  notes_more n xs i d h =
      rw (add-one i, drop-cons xs i d h) (sym (noted_append n (f (get_or xs i d)).notes (all_notes (map f (drop (suc i) xs)))))

  -- an invariant of a loop over parts holds after one part more: what was made of the parts, and then of the others
  pub trees_step : (all all' : List T) (xs : List A) (i : ℕ) (x : A) (t : T) → i < length xs → x ≡ get_or xs i x →
      t ≡ (f x).tree → all' ≡ all ++ t ∷ [] → all ++ trees (map f (drop i xs)) ≡ trees (map f xs) →
      all' ++ trees (map f (drop (i + 1) xs)) ≡ trees (map f xs)
  trees_step all all' xs i x t h is tree more so_far =
      ap (λ ys. ys ++ trees (map f (drop (i + 1) xs))) (more ∙ ap (λ u. all ++ u ∷ []) (tree ∙ ap (λ y. (f y).tree) is))
      ∙ trees_more all xs i x h ∙ so_far

  -- and what was noted
  pub notes_step : (n m k : Notes) (xs : List A) (i : ℕ) (x : A) → i < length xs → x ≡ get_or xs i x →
      k ≡ noted m (f x).notes → noted m (all_notes (map f (drop i xs))) ≡ noted n (all_notes (map f xs)) →
      noted k (all_notes (map f (drop (i + 1) xs))) ≡ noted n (all_notes (map f xs))
  notes_step n m k xs i x h is first so_far =
      ap (λ j. noted j (all_notes (map f (drop (i + 1) xs)))) (first ∙ ap (λ y. noted m (f y).notes) is)
      ∙ notes_more m xs i x h ∙ so_far

-- ---- lists of parts that declare names

module _ {A T : Type 0} (f : A → Scope → Stepped T) where
  -- an invariant of a loop over such parts holds after one part more
  pub ordered_trees : (all all' : List T) (xs : List A) (i : ℕ) (x : A) (t : T) (s s' : Scope) (whole : List T) → i < length xs →
      x ≡ get_or xs i x → t ≡ (f x s).tree → s' ≡ (f x s).scope → all' ≡ all ++ t ∷ [] →
      all ++ (in_order f (drop i xs) s).tree ≡ whole → all' ++ (in_order f (drop (i + 1) xs) s').tree ≡ whole
  ordered_trees all all' xs i x t s s' whole h is tree behind more so_far =
      let others : List T = (in_order f (drop (suc i) xs) (f x s).scope).tree in
      rw (add-one i, more, tree, behind, append_assoc all ((f x s).tree ∷ []) others)
      (subst (λ ys. all ++ (in_order f ys s).tree ≡ whole) (dropped xs i x h is) so_far)

  pub ordered_scope : (xs : List A) (i : ℕ) (x : A) (s s' whole : Scope) → i < length xs → x ≡ get_or xs i x →
      s' ≡ (f x s).scope → (in_order f (drop i xs) s).scope ≡ whole → (in_order f (drop (i + 1) xs) s').scope ≡ whole
  ordered_scope xs i x s s' whole h is behind so_far =
      rw (add-one i, behind) (subst (λ ys. (in_order f ys s).scope ≡ whole) (dropped xs i x h is) so_far)

  pub ordered_notes : (m k whole : Notes) (xs : List A) (i : ℕ) (x : A) (s s' : Scope) → i < length xs → x ≡ get_or xs i x →
      s' ≡ (f x s).scope → k ≡ noted m (f x s).notes → noted m (in_order f (drop i xs) s).notes ≡ whole →
      noted k (in_order f (drop (i + 1) xs) s').notes ≡ whole
  ordered_notes m k whole xs i x s s' h is behind first so_far =
      rw (add-one i, behind, first)
      (sym (noted_append m (f x s).notes (in_order f (drop (suc i) xs) (f x s).scope).notes)
      ∙ subst (λ ys. noted m (in_order f ys s).notes ≡ whole) (dropped xs i x h is) so_far)
