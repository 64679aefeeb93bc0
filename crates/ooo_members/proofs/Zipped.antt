-- Initialisers with what their names denote, one after the other.
use Rattle.std.proofs.Common.{◌≡◌, ◌∙◌, ap, sym, add-one, subst, ℕ, ◌+◌, ◌<◌, suc, List, [], ◌∷◌, ◌++◌, drop, length, get_or, append_assoc}
use Rattle.std.proofs.Math.Seq.{drop-cons}
use Rattle.ooo_syntax.specs.declared.module.Init.{Init}
use Rattle.ooo_checked.specs.declared.denotation.Denotation.{Denotation}
use Rattle.ooo_checked.specs.declared.module.CheckedInit.{CheckedInit}
use Rattle.ooo_checked.specs.Notes.{all_notes, trees}
use Rattle.ooo_checked.specs.Scopes.{Scope}
use Rattle.ooo_bodies.specs.declared.notes.Notes.{Notes}
use Rattle.ooo_bodies.specs.Noting.{noted, noted_append}
use Rattle.ooo_members.specs.Constructors.{init_of, inits_with}
use Rattle.ooo_members.specs.Known.{Modules}

dropped : {A : Type 0} (xs : List A) (i : ℕ) (x : A) → i < length xs → x ≡ get_or xs i x → drop i xs ≡ x ∷ drop (suc i) xs
dropped xs i x h is = drop-cons xs i x h ∙ ap (λ y. y ∷ drop (suc i) xs) (sym is)

module _ (ms : Modules) (s : Scope) (ds : List Denotation) (xs : List Init) (i : ℕ) (d : Denotation) (x : Init)
    (within : i < length xs) (long : length ds ≡ length xs) (is : x ≡ get_or xs i x) (denotes : d ≡ get_or ds i d) where
  first : drop i xs ≡ x ∷ drop (suc i) xs
  first = dropped xs i x within is

  meant : drop i ds ≡ d ∷ drop (suc i) ds
  meant = dropped ds i d (rw long within) denotes

  -- an invariant of a loop over initialisers holds after one more: their trees
  pub zipped_trees : (all all' whole : List CheckedInit) (t : CheckedInit) → t ≡ (init_of ms d x s).tree → all' ≡ all ++ t ∷ [] →
      all ++ trees (inits_with ms (drop i ds) (drop i xs) s) ≡ whole →
      all' ++ trees (inits_with ms (drop (i + 1) ds) (drop (i + 1) xs) s) ≡ whole
  zipped_trees all all' whole t tree more so_far =
      rw (add-one i, more, tree, append_assoc all ((init_of ms d x s).tree ∷ []) (trees (inits_with ms (drop (suc i) ds) (drop (suc i) xs) s)))
      (subst (λ ys. all ++ trees (inits_with ms (d ∷ drop (suc i) ds) ys s) ≡ whole) first
      (subst (λ es. all ++ trees (inits_with ms es (drop i xs) s) ≡ whole) meant so_far))

  -- and what is noted of them
  pub zipped_notes : (m k whole : Notes) → k ≡ noted m (init_of ms d x s).notes →
      noted m (all_notes (inits_with ms (drop i ds) (drop i xs) s)) ≡ whole →
      noted k (all_notes (inits_with ms (drop (i + 1) ds) (drop (i + 1) xs) s)) ≡ whole
  zipped_notes m k whole noting so_far =
      rw (add-one i, noting)
      (sym (noted_append m (init_of ms d x s).notes (all_notes (inits_with ms (drop (suc i) ds) (drop (suc i) xs) s)))
      ∙ subst (λ ys. noted m (all_notes (inits_with ms (d ∷ drop (suc i) ds) ys s)) ≡ whole) first
      (subst (λ es. noted m (all_notes (inits_with ms es (drop i xs) s)) ≡ whole) meant so_far))
