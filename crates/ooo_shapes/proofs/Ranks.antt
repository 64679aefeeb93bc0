-- The ranks of nodes, by which an activation ends: those behind have lower ranks, and the value of a blocking write, which
-- leads to a node that counts, has the lowest.
use Rattle.std.proofs.Common.{◌≡◌, ℕ, ◌+◌, ◌-◌, ◌≤◌, ◌⊎◌, inl, inr, ⊎_elim, List, [], ◌∷◌, length, Bool, true, false, if◌then◌else◌, Option, Some, None, refl, sym, ap, ap₂, ◌∙◌, subst, arith}
use Rattle.std.specs.Prelude.{slice_get, Contains, IsTrue, IsSomeAnd, ◌&&◌}
use Rattle.std.proofs.lemmas.Option.{slice_get_within}
use Rattle.std.proofs.lemmas.List.Elements.{All-nil, All-cons, All-contains}
use Rattle.ooo_code.specs.declared.node.Node.{Node}
use Rattle.ooo_code.specs.declared.node.NodeKind.{NodeKind}
use Rattle.ooo_code.specs.declared.node.NodeKind.TheVariants as kind
use Rattle.ooo_code.specs.Segments.{leads_to, successors}
use Rattle.ooo_code.specs.Sound.{CountsOrFalls, IsRanked}

abbrev pub is_set : NodeKind → Bool
is_set k = elim k [ kind.Set n e ↦ true | _ ↦ false ]

set_leads : (k : NodeKind) (next : ℕ) → is_set k ≡ true → leads_to k next ≡ next ∷ []
set_leads (kind.Set n e) next h = refl
set_leads _ next h = absurd cc

abbrev pub counts_at : Option Node → Bool
counts_at None = false
counts_at (Some i) = i.counts

and_left : (x y : Bool) → (x && y) ≡ true → x ≡ true
and_left true y h = refl
and_left false y h = absurd cc

and_right : (x y : Bool) → (x && y) ≡ true → y ≡ true
and_right true y h = h
and_right false y h = absurd cc

only_next : (q m : ℕ) → Contains (q ∷ []) m → q ≡ m
only_next q m c = All-contains (λ n. q ≡ n) (q ∷ []) m (All-cons (λ n. q ≡ n) q [] refl (All-nil (λ n. q ≡ n))) c

counted_some : (o : Option Node) → counts_at o ≡ true → IsSomeAnd o (λ node. IsTrue node.counts)
counted_some None h = absurd cc
counted_some (Some i) h = h

module _ (code : List Node) where
  -- a node that sets a slot before one that counts
  abbrev pub rests_at : Option Node → Bool
  rests_at None = false
  rests_at (Some i) = is_set i.kind && counts_at (slice_get code i.next)

  abbrev pub rests : ℕ → Bool
  rests n = rests_at (slice_get code n)

  abbrev rank : ℕ → ℕ
  rank n = if rests n then 0 else length code - n

  ranked_at : (n : ℕ) (t : Bool) → (if t then 0 else length code - n) ≤ length code - n
  ranked_at n true = omega arith
  ranked_at n false = omega arith

  pub counts_so : (n : ℕ) (i : Node) → slice_get code n ≡ Some i → i.counts ≡ true → counts_at (slice_get code n) ≡ true
  counts_so n i e c = ap counts_at e ∙ c

  pub rests_so : (n slot : ℕ) (e : _) (i j : Node) → slice_get code n ≡ Some i → i.kind ≡ kind.Set slot e → i.next ≡ n + 1 → slice_get code (n + 1) ≡ Some j → j.counts ≡ true → rests n ≡ true
  rests_so n slot e i j is sets next after counts =
      ap rests_at is ∙ ap₂ (λ x y. x && y) (ap is_set sets) (ap (λ q. counts_at (slice_get code q)) next ∙ counts_so (n + 1) j after counts)

  -- where an uncounted node may lead
  abbrev pub Leads : ℕ → ℕ → Type 0
  Leads n m = (n + 1 ≤ m) ⊎ ((counts_at (slice_get code m) ≡ true) ⊎ (rests m ≡ true))

  module _ (leads : (n m : ℕ) (node : Node) → slice_get code n ≡ Some node → node.counts ≡ false → Contains (successors node) m → Leads n m) where
    -- a node whose rank is the lowest leads to one that counts
    from_lowest : (n m : ℕ) (node : Node) → Contains (successors node) m → rests_at (Some node) ≡ true → CountsOrFalls code rank n m
    from_lowest n m node c h =
        let set = and_left (is_set node.kind) (counts_at (slice_get code node.next)) h in
        let counts = and_right (is_set node.kind) (counts_at (slice_get code node.next)) h in
        let same = only_next node.next m (subst (λ ns. Contains ns m) (set_leads node.kind node.next set) c) in
        inl (counted_some (slice_get code m) (subst (λ q. counts_at (slice_get code q) ≡ true) same counts))

    rank_is : (n : ℕ) (t : Bool) → rests n ≡ t → rank n ≡ (if t then 0 else length code - n)
    rank_is n t e = ap (λ t. if t then 0 else length code - n) e

    from_other : (n m : ℕ) (node : Node) → slice_get code n ≡ Some node → rests n ≡ false → Leads n m → CountsOrFalls code rank n m
    from_other n m node e h l =
        let within = slice_get_within code n node e in
        let r = rank_is n false h in
        ⊎_elim (λ le. inr (omega (arith, within, r, ranked_at m (rests m))))
        (λ o. ⊎_elim (λ c. inl (counted_some (slice_get code m) c)) (λ s. inr (omega (arith, within, r, rank_is m true s))) o) l

    falls_by : (n m : ℕ) (node : Node) (t : Bool) → rests n ≡ t → slice_get code n ≡ Some node → node.counts ≡ false → Contains (successors node) m → CountsOrFalls code rank n m
    falls_by n m node true h e u c = from_lowest n m node c (sym (ap rests_at e) ∙ h)
    falls_by n m node false h e u c = from_other n m node e h (leads n m node e u c)

    pub ranked : IsRanked code
    ranked = record {
      rank = rank;
      bounded = λ n. omega (arith, ranked_at n (rests n));
      falls = λ n m node e u c. falls_by n m node (rests n) refl e u c;
    }
