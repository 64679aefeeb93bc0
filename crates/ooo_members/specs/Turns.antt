-- Parts one after the other, each behind those before it.
use Rattle.std.proofs.Common.{◌≡◌, ap, add-one, subst, ℕ, ◌+◌, ◌<◌, suc, List, [], ◌∷◌, ◌++◌, drop, length, reverse, map, get_or, append_assoc, sym, ◌∙◌}
use Rattle.std.proofs.Math.Seq.{drop-cons}
use Rattle.std.proofs.lemmas.List.{reverse-append}
use Rattle.ooo_checked.specs.Notes.{Note}
use Rattle.ooo_bodies.specs.declared.notes.Notes.{Notes}
use Rattle.ooo_bodies.specs.Noting.{noted, noted_append}

-- a part of a tree with what its names denote, what is so behind it, and what is noted of it
pub record Turn (S T : Type 0) : Type 0 where
  pub tree : T
  pub behind : S
  pub notes : List Note

-- parts one after the other
abbrev pub in_turn : {A S T : Type 0} → (A → S → Turn S T) → List A → S → Turn S (List T)
in_turn f [] s = record { tree = []; behind = s; notes = [] }
in_turn f (x ∷ xs) s =
    let first = f x s in
    let others = in_turn f xs first.behind in
    record { tree = first.tree ∷ others.tree; behind = others.behind; notes = first.notes ++ others.notes }

-- ---- loops

-- what is left of a list, from an item on
dropped : {A : Type 0} (xs : List A) (i : ℕ) (x : A) → i < length xs → x ≡ get_or xs i x → drop i xs ≡ x ∷ drop (suc i) xs
dropped xs i x h is = drop-cons xs i x h ∙ ap (λ y. y ∷ drop (suc i) xs) (sym is)

-- what is left of a list that is taken from its end, turned round, from an item on
pub taken : {A : Type 0} (rest rest' : List A) (x : A) → rest ≡ rest' ++ x ∷ [] → reverse rest ≡ x ∷ reverse rest'
taken rest rest' x h = ap reverse h ∙ reverse-append rest' (x ∷ [])

-- an invariant of a loop that makes one item of each holds after one more
pub map_step : {A B : Type 0} (f : A → B) (all all' : List B) (xs : List A) (i : ℕ) (x : A) (y : B) → i < length xs →
    x ≡ get_or xs i x → y ≡ f x → all' ≡ all ++ y ∷ [] → all ++ map f (drop i xs) ≡ map f xs →
    all' ++ map f (drop (i + 1) xs) ≡ map f xs
map_step f all all' xs i x y h is made more so_far =
    rw (add-one i, more, made, append_assoc all (f x ∷ []) (map f (drop (suc i) xs)))
    (subst (λ ys. all ++ map f ys ≡ map f xs) (dropped xs i x h is) so_far)

module _ {A S T : Type 0} (f : A → S → Turn S T) where
  -- an invariant of a loop over such parts holds after one part more: their trees
  pub turn_trees : (all all' : List T) (xs : List A) (i : ℕ) (x : A) (t : T) (s s' : S) (whole : List T) → i < length xs →
      x ≡ get_or xs i x → t ≡ (f x s).tree → s' ≡ (f x s).behind → all' ≡ all ++ t ∷ [] →
      all ++ (in_turn f (drop i xs) s).tree ≡ whole → all' ++ (in_turn f (drop (i + 1) xs) s').tree ≡ whole
  turn_trees all all' xs i x t s s' whole h is tree behind more so_far =
      let others : List T = (in_turn f (drop (suc i) xs) (f x s).behind).tree in
      rw (add-one i, more, tree, behind, append_assoc all ((f x s).tree ∷ []) others)
      (subst (λ ys. all ++ (in_turn f ys s).tree ≡ whole) (dropped xs i x h is) so_far)

  -- what is so behind them
  pub turn_behind : (xs : List A) (i : ℕ) (x : A) (s s' whole : S) → i < length xs → x ≡ get_or xs i x →
      s' ≡ (f x s).behind → (in_turn f (drop i xs) s).behind ≡ whole → (in_turn f (drop (i + 1) xs) s').behind ≡ whole
  turn_behind xs i x s s' whole h is behind so_far =
      rw (add-one i, behind) (subst (λ ys. (in_turn f ys s).behind ≡ whole) (dropped xs i x h is) so_far)

  -- and what is noted of them
  pub turn_notes : (m k whole : Notes) (xs : List A) (i : ℕ) (x : A) (s s' : S) → i < length xs → x ≡ get_or xs i x →
      s' ≡ (f x s).behind → k ≡ noted m (f x s).notes → noted m (in_turn f (drop i xs) s).notes ≡ whole →
      noted k (in_turn f (drop (i + 1) xs) s').notes ≡ whole
  turn_notes m k whole xs i x s s' h is behind first so_far =
      rw (add-one i, behind, first)
      (sym (noted_append m (f x s).notes (in_turn f (drop (suc i) xs) (f x s).behind).notes)
      ∙ subst (λ ys. noted m (in_turn f ys s).notes ≡ whole) (dropped xs i x h is) so_far)

  -- ---- the same of parts that are taken from the end of a list, which is turned round

  -- their trees
  pub taken_trees : (all all' : List T) (rest rest' : List A) (x : A) (t : T) (s s' : S) (whole : List T) →
      rest ≡ rest' ++ x ∷ [] → t ≡ (f x s).tree → s' ≡ (f x s).behind → all' ≡ all ++ t ∷ [] →
      all ++ (in_turn f (reverse rest) s).tree ≡ whole → all' ++ (in_turn f (reverse rest') s').tree ≡ whole
  taken_trees all all' rest rest' x t s s' whole last tree behind more so_far =
      let others : List T = (in_turn f (reverse rest') (f x s).behind).tree in
      rw (more, tree, behind, append_assoc all ((f x s).tree ∷ []) others)
      (subst (λ ys. all ++ (in_turn f ys s).tree ≡ whole) (taken rest rest' x last) so_far)

  -- what is so behind them
  pub taken_behind : (rest rest' : List A) (x : A) (s s' whole : S) → rest ≡ rest' ++ x ∷ [] →
      s' ≡ (f x s).behind → (in_turn f (reverse rest) s).behind ≡ whole → (in_turn f (reverse rest') s').behind ≡ whole
  taken_behind rest rest' x s s' whole last behind so_far =
      rw (behind) (subst (λ ys. (in_turn f ys s).behind ≡ whole) (taken rest rest' x last) so_far)

  -- and what is noted of them
  pub taken_notes : (m k whole : Notes) (rest rest' : List A) (x : A) (s s' : S) → rest ≡ rest' ++ x ∷ [] →
      s' ≡ (f x s).behind → k ≡ noted m (f x s).notes → noted m (in_turn f (reverse rest) s).notes ≡ whole →
      noted k (in_turn f (reverse rest') s').notes ≡ whole
  taken_notes m k whole rest rest' x s s' last behind first so_far =
      rw (behind, first)
      (sym (noted_append m (f x s).notes (in_turn f (reverse rest') (f x s).behind).notes)
      ∙ subst (λ ys. noted m (in_turn f ys s).notes ≡ whole) (taken rest rest' x last) so_far)
