-- A search: one step after another, from its begin to its end.
use Rattle.std.proofs.Common.{◌≡◌, ℕ, ◌<◌, ◌↔◌, Bool, true, false, List, [], ◌∷◌, ◌++◌, length, refl, sym, ◌∙◌, subst, arith, inl, inr, Some, None, replicate, length-set}
use Rattle.std.specs.Prelude.{slice_get, slice_set, Contains, All}
use Rattle.std.proofs.lemmas.List.{length_push}
use Rattle.std.proofs.lemmas.List.Elements.{Contains-push, Contains-push_cases, Contains-append_left, Contains-append_right, Contains-append_cases, Contains-get_or}
use Rattle.ooo_lemmas.proofs.Contained.{not_in_none, one_is}
use Rattle.ooo_code.specs.declared.node.Node.{Node}
use Rattle.ooo_code.specs.Segments.{Reaches, here, further, successors}
use Rattle.ooo_segments.specs.Numbers.{IsIn}
use Rattle.ooo_segments.specs.Searches.{Finds, IsSearch}
use Rattle.ooo_segments.proofs.Lists.{in_one}
use Rattle.ooo_segments.proofs.Marks.{in_kept, in_marked, in_old, not_in_fresh, one_less}

-- a node that is new
pub finds_new : (marks : List Bool) (left : List ℕ) (n : ℕ) → n < length marks → (IsIn marks n → ⊥) → Finds marks left (slice_set marks n true) (left ++ n ∷ []) (n ∷ [])
finds_new marks left n lt out = record {
  count = length-set marks n true;
  kept = λ m h. in_kept marks n m h;
  left_kept = λ m h. Contains-append_left left (n ∷ []) m h;
  fresh = λ m h. elim (in_old marks n m h) [ inl a ↦ inl a | inr e ↦ inr (subst (λ k. Contains (left ++ n ∷ []) k) (sym e) (Contains-push left n)) ];
  only = λ m h. elim (in_old marks n m h) [ inl a ↦ inl a | inr e ↦ inr (subst (λ k. Contains (n ∷ []) k) (sym e) (in_one n)) ];
  listed = λ m h. elim (Contains-push_cases left n m h) [ inl a ↦ inl a | inr e ↦ inr (subst (λ k. IsIn (slice_set marks n true) k) e (in_marked marks n lt)) ];
  all = λ m h. subst (λ k. IsIn (slice_set marks n true) k) (one_is n m h) (in_marked marks n lt);
  work = let a = one_less marks n lt out in let b = length_push left n in omega arith;
}

-- a node that was found before
pub finds_old : (marks : List Bool) (left : List ℕ) (n : ℕ) → IsIn marks n → Finds marks left marks left (n ∷ [])
finds_old marks left n is = record {
  count = refl;
  kept = λ m h. h;
  left_kept = λ m h. h;
  fresh = λ m h. inl h;
  only = λ m h. inl h;
  listed = λ m h. inl h;
  all = λ m h. subst (λ k. IsIn marks k) (one_is n m h) is;
  work = omega arith;
}

-- no node
pub finds_none : (marks : List Bool) (left : List ℕ) → Finds marks left marks left []
finds_none marks left = record {
  count = refl;
  kept = λ m h. h;
  left_kept = λ m h. h;
  fresh = λ m h. inl h;
  only = λ m h. inl h;
  listed = λ m h. inl h;
  all = λ m h. absurd (not_in_none m h);
  work = omega arith;
}

-- some nodes and then others
pub finds_then : (a : List Bool) (as' : List ℕ) (b : List Bool) (bs : List ℕ) (c : List Bool) (cs : List ℕ) (xs ys : List ℕ) → Finds a as' b bs xs → Finds b bs c cs ys → Finds a as' c cs (xs ++ ys)
finds_then a as' b bs c cs xs ys f g = record {
  count = g.count ∙ f.count;
  kept = λ m h. g.kept m (f.kept m h);
  left_kept = λ m h. g.left_kept m (f.left_kept m h);
  fresh = λ m h. elim (g.fresh m h) [ inl x ↦ elim (f.fresh m x) [ inl y ↦ inl y | inr y ↦ inr (g.left_kept m y) ] | inr x ↦ inr x ];
  only = λ m h. elim (g.only m h) [ inl x ↦ elim (f.only m x) [ inl y ↦ inl y | inr y ↦ inr (Contains-append_left xs ys m y) ] | inr x ↦ inr (Contains-append_right xs ys m x) ];
  listed = λ m h. elim (g.listed m h) [ inl x ↦ elim (f.listed m x) [ inl y ↦ inl y | inr y ↦ inr (g.kept m y) ] | inr x ↦ inr x ];
  all = λ m h. elim (Contains-append_cases xs ys m h) [ inl x ↦ g.kept m (f.all m x) | inr x ↦ g.all m x ];
  work = let p = f.work in let q = g.work in omega arith;
}

-- the search begins by finding its entry
pub begins : (nodes : List Node) (entry end : ℕ) (marks : List Bool) (left : List ℕ) → Finds (replicate end false) [] marks left (entry ∷ []) → IsSearch nodes entry marks left
begins nodes entry end marks left f = record {
  sound = λ n h. elim (f.only n h) [ inl x ↦ absurd (not_in_fresh end n x) | inr x ↦ subst (λ k. Reaches nodes entry k) (one_is entry n x) here ];
  first = f.all entry (in_one entry);
  listed = λ n h. elim (f.listed n h) [ inl x ↦ absurd (not_in_none n x) | inr x ↦ x ];
  closed = λ n c node h is has. elim (f.fresh n h) [ inl x ↦ absurd (not_in_fresh end n x) | inr x ↦ inl x ];
}

-- it goes on by following a node
pub goes_on : (nodes : List Node) (entry : ℕ) (marks : List Bool) (left : List ℕ) (n : ℕ) (node : Node) (marks' : List Bool) (left' : List ℕ) → IsSearch nodes entry marks (left ++ n ∷ []) → slice_get nodes n ≡ Some node → Finds marks left marks' left' (successors node) → IsSearch nodes entry marks' left'
goes_on nodes entry marks left n node marks' left' s is f = record {
  sound = λ m h. elim (f.only m h) [ inl x ↦ s.sound m x | inr x ↦ further (s.sound n (s.listed n (Contains-push left n))) is x ];
  first = f.kept entry s.first;
  listed = λ m h. elim (f.listed m h) [ inl x ↦ f.kept m (s.listed m (Contains-append_left left (n ∷ []) m x)) | inr x ↦ x ];
  closed = λ m c other h is' has. elim (f.fresh m h) [
    | inr x ↦ inl x
    | inl x ↦ elim (s.closed m c other x is' has) [
      | inr y ↦ inr (f.kept c y)
      | inl y ↦ elim (Contains-push_cases left n m y) [
        | inl z ↦ inl (f.left_kept m z)
        | inr e ↦ let same : node ≡ other = cc in inr (f.all c (subst (λ z. Contains (successors z) c) (sym same) has))
      ]
    ]
  ];
}

-- it goes on without a number that is no node's
pub passes : (nodes : List Node) (entry : ℕ) (marks : List Bool) (left : List ℕ) (n : ℕ) → IsSearch nodes entry marks (left ++ n ∷ []) → slice_get nodes n ≡ None → IsSearch nodes entry marks left
passes nodes entry marks left n s is = record {
  sound = s.sound;
  first = s.first;
  listed = λ m h. s.listed m (Contains-append_left left (n ∷ []) m h);
  closed = λ m c other h is' has. elim (s.closed m c other h is' has) [
    | inr y ↦ inr y
    | inl y ↦ elim (Contains-push_cases left n m y) [ inl z ↦ inl z | inr e ↦ absurd cc ]
  ];
}

-- what is followed leads to nodes that have their mark
pub follows_within : (nodes : List Node) (entry end : ℕ) (marks : List Bool) (left : List ℕ) (n : ℕ) (node : Node) → ((m : ℕ) → Reaches nodes entry m → m < end) → length marks ≡ end → IsSearch nodes entry marks (left ++ n ∷ []) → slice_get nodes n ≡ Some node → All (λ m. m < length marks) (successors node)
follows_within nodes entry end marks left n node within count s is = λ k d lt.
    let r = within _ (further (s.sound n (s.listed n (Contains-push left n))) is (Contains-get_or (successors node) k d lt)) in omega arith

complete : (nodes : List Node) (entry n : ℕ) (marks : List Bool) → IsSearch nodes entry marks [] → Reaches nodes entry n → IsIn marks n
complete nodes entry n marks s here = s.first
complete nodes entry n marks s (further {b = b} {node = node} r is has) =
    elim (s.closed b n node (complete nodes entry b marks s r) is has) [ inl x ↦ absurd (not_in_none b x) | inr x ↦ x ]

-- where nothing is left to follow, just what is reachable is found
pub ends : (nodes : List Node) (entry : ℕ) (marks : List Bool) → IsSearch nodes entry marks [] → (n : ℕ) → IsIn marks n ↔ Reaches nodes entry n
ends nodes entry marks s n = (s.sound n, complete nodes entry n marks s)
