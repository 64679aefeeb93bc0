-- Between two nodes that count stand no more than a sound design has nodes.
use Rattle.std.proofs.Common.{◌≡◌, ℕ, zero, suc, ◌+◌, ◌<◌, ◌≤◌, List, [], ◌∷◌, length, Bool, true, false, if◌then◌else◌, Option, Some, None, Result, Ok, Err, refl, subst, arith, ◌⊎◌, inl, inr, ⊎_elim}
use Rattle.std.specs.Prelude.{slice_get, slice_set, Contains, IsTrue, IsSomeAnd}
use Rattle.std.specs.List.{AllByRecursion}
use Rattle.ooo_lemmas.proofs.Each.{each_contained}
use Rattle.ooo_value.specs.declared.operators.Fault.{Fault}
use Rattle.ooo_value.specs.declared.values.Value.{Value}
use Rattle.ooo_value.specs.Values.{number_of, truth_of}
use Rattle.ooo_code.specs.declared.activation.Frame.{Frame}
use Rattle.ooo_code.specs.declared.node.Node.{Node}
use Rattle.ooo_code.specs.declared.node.NodeKind.{NodeKind}
use Rattle.ooo_code.specs.declared.node.NodeKind.TheVariants as kind
use Rattle.ooo_code.specs.Outcomes.{Outcome}
use Rattle.ooo_code.specs.Expressions.{cells_of, index_in, by_truth, reading_of}
use Rattle.ooo_code.specs.Nodes.{Doing, sight_of, with_cells, Next, Running, with_result, with_index, with_first, if_free, act, at_node, pass, between}
use Rattle.ooo_code.specs.Segments.{successors, leads_to}
use Rattle.ooo_code.specs.Sound.{IsRanked}

not_both : (b : Bool) → IsTrue b → b ≡ false → ⊥
not_both true t e = cc
not_both false t e = cc

module _ (r : Running) where
  result_same : {A : Type 0} (line : ℕ) (d : Doing) (x : Result A Fault) (f g : A → Outcome Frame) → ((v : A) → f v ≡ g v) → with_result r line d x f ≡ with_result r line d x g
  result_same line d (Ok v) f g h = h v
  result_same line d (Err e) f g h = refl

  index_same : (line : ℕ) (d : Doing) (x : Option ℕ) (f g : ℕ → Outcome Frame) → ((v : ℕ) → f v ≡ g v) → with_index r line d x f ≡ with_index r line d x g
  index_same line d (Some v) f g h = h v
  index_same line d None f g h = refl

  truth_same : (v : Value) (a b c d : Outcome Frame) → a ≡ b → c ≡ d → by_truth v a c ≡ by_truth v b d
  truth_same v a b c d h k = at (truth_of v)
    where
      at : (t : Bool) → (if t then a else c) ≡ (if t then b else d)
      at true = h
      at false = k

  first_same : (x : List Value) (a b : Outcome Frame) (f g : Value → Outcome Frame) → a ≡ b → ((v : Value) → f v ≡ g v) → with_first x a f ≡ with_first x b g
  first_same [] a b f g h k = h
  first_same (v ∷ vs) a b f g h k = k v

  free_same : (n : ℕ) (a b c d : Outcome Frame) → a ≡ b → c ≡ d → if_free n a c ≡ if_free n b d
  free_same zero a b c d h k = h
  free_same (suc n) a b c d h k = k

  -- two ways to go on from a node are the same
  abbrev pub GoesSame : Next → Next → ℕ → Type 0
  GoesSame go to n = (d : Doing) → go n d ≡ to n d

  act_same : (go to : Next) (k : NodeKind) (number line next : ℕ) → AllByRecursion (GoesSame go to) (leads_to k next) → (d : Doing) → act r k number line next go d ≡ act r k number line next to d
  act_same go to (kind.Set n x) number line next h d = result_same line d _ _ _ (λ v. h.0 _)
  act_same go to (kind.Store x None y) number line next h d = result_same line d _ _ _ (λ v. h.0 _)
  act_same go to (kind.Store x (Some i) y) number line next h d =
      result_same line d (reading_of y (sight_of d)) _ _ (λ v.
      result_same line d (reading_of i (sight_of d)) _ _ (λ w.
      let cells = cells_of d.variables x in
      index_same line d (index_in (length cells) (number_of w)) _ _ (λ j. h.0 (with_cells x (slice_set cells j v) d))))
  act_same go to (kind.Test x no_to) number line next h d =
      result_same line d (reading_of x (sight_of d)) _ _ (λ v. truth_same v _ _ _ _ (h.0 d) (h.1.0 d))
  act_same go to kind.Goto number line next h d = h.0 d
  act_same go to (kind.PrintText text) number line next h d = h.0 _
  act_same go to (kind.PrintValue x) number line next h d = result_same line d _ _ _ (λ v. h.0 _)
  act_same go to kind.PrintTime number line next h d = h.0 _
  act_same go to (kind.Write c x) number line next h d = result_same line d _ _ _ (λ v. h.0 _)
  act_same go to (kind.TestAvailable c no_to) number line next h d = first_same _ _ _ _ _ (h.1.0 d) (λ v. h.0 d)
  act_same go to (kind.TestFree c no_to) number line next h d = free_same _ _ _ _ _ (h.1.0 d) (h.0 d)
  act_same go to (kind.Take c n) number line next h d = first_same _ _ _ _ _ (h.0 d) (λ v. h.0 _)
  act_same go to (kind.Put c x) number line next h d = result_same line d _ _ _ (λ v. h.0 _)
  act_same go to (kind.Notify x k) number line next h d = result_same line d _ _ _ (λ v. h.0 _)
  act_same go to (kind.Cancel x) number line next h d = h.0 _
  act_same go to kind.Stop number line next h d = h.0 _
  act_same go to (kind.Trigger w) number line next h d = result_same line d _ _ _ (λ v. h.0 _)
  act_same go to (kind.Wait w) number line next h d = refl
  act_same go to kind.End number line next h d = refl

  module _ (nodes : List Node) (ranked : IsRanked nodes) (counted : Node → Next) where
    -- so many nodes are enough from a node on
    Enough : ℕ → ℕ → Type 0
    Enough m n = (ranked.rank n + 1 < m) ⊎ ((1 ≤ m) × IsSomeAnd (slice_get nodes n) (λ node. IsTrue node.counts))

    some : (m n : ℕ) → Enough m n → 1 ≤ m
    unfolding Enough
    some m n h = ⊎_elim (λ lt. omega arith) (λ k. k.0) h

    fewer : (m n k : ℕ) (node : Node) → slice_get nodes n ≡ Some node → node.counts ≡ false → Enough (suc m) n → Contains (successors node) k → Enough m k
    unfolding Enough
    fewer m n k node is e h c =
        ⊎_elim
        (λ lt. ⊎_elim (λ counts. inr (omega arith, counts)) (λ falls. inl (omega arith)) (ranked.falls n k node is e c))
        (λ k. let t : IsTrue node.counts = subst (λ o. IsSomeAnd o (λ x. IsTrue x.counts)) is k.1 in absurd (not_both node.counts t e))
        h

    pass_same : (m m' : ℕ) (n : ℕ) (d : Doing) → Enough m n → Enough m' n → pass nodes r counted m n d ≡ pass nodes r counted m' n d
    pass_same zero m' n d h h' = absurd (let s = some zero n h in omega arith)
    pass_same (suc m) zero n d h h' = absurd (let s = some zero n h' in omega arith)
    pass_same (suc m) (suc m') n d h h' = at (slice_get nodes n) refl (λ k d. pass_same m m' k d)
      where
        choose : (node : Node) → slice_get nodes n ≡ Some node → ((k : ℕ) (d : Doing) → Enough m k → Enough m' k → pass nodes r counted m k d ≡ pass nodes r counted m' k d) → (t : Bool) → node.counts ≡ t → (if t then counted node n d else act r node.kind n node.line node.next (pass nodes r counted m) d) ≡ (if t then counted node n d else act r node.kind n node.line node.next (pass nodes r counted m') d)
        choose node is go true e = refl
        choose node is go false e =
            act_same (pass nodes r counted m) (pass nodes r counted m') node.kind n node.line node.next
            (each_contained (GoesSame (pass nodes r counted m) (pass nodes r counted m')) (leads_to node.kind node.next) (λ k c d. go k d (fewer m n k node is e h c) (fewer m' n k node is e h' c))) d

        at : (o : Option Node) → slice_get nodes n ≡ o → ((k : ℕ) (d : Doing) → Enough m k → Enough m' k → pass nodes r counted m k d ≡ pass nodes r counted m' k d) → at_node r counted (pass nodes r counted m) o n d ≡ at_node r counted (pass nodes r counted m') o n d
        at None is go = refl
        at (Some node) is go = choose node is go node.counts refl

    pub enough : (m n : ℕ) (d : Doing) → between nodes ≤ m → pass nodes r counted m n d ≡ pass nodes r counted (between nodes) n d
    unfolding Enough
    enough m n d le = let b = ranked.bounded n in pass_same m (between nodes) n d (inl (omega arith)) (inl (omega arith))
