-- Who holds the ends of a fifo in a sound design, and what a segment touches.
use Rattle.std.proofs.Common.{◌≡◌, ℕ, zero, suc, ◌+◌, ◌-◌, ◌<◌, Bool, true, false, cond, if◌then◌else◌, arith, List, [], ◌∷◌, Some, None, refl, sym, subst, ap, ◌∙◌, length, take, drop}
use Rattle.std.proofs.lemmas.List.Folds.{list_any_at, Any-from_list_any}
use Rattle.std.proofs.lemmas.Option.{slice_get-get_or, slice_get_within, get_or_from_slice_get}
use Rattle.std.proofs.lemmas.Iterator.Adapters.{position_from-zero}
use Rattle.std.specs.List.{list_any, position_from}
use Rattle.std.specs.Prelude.{slice_get, position, All, Any, Contains}
use Rattle.ooo_code.specs.declared.design.Design.{Design}
use Rattle.ooo_code.specs.declared.design.Proc.{Proc}
use Rattle.ooo_code.specs.declared.node.Node.{Node}
use Rattle.ooo_code.specs.declared.node.NodeKind.{NodeKind}
use Rattle.ooo_code.specs.declared.node.NodeKind.TheVariants as kind
use Rattle.ooo_code.specs.declared.segment.SegmentEntry.{SegmentEntry}
use Rattle.ooo_code.specs.declared.segment.SegmentEntry.TheVariants.{Start, After}
use Rattle.ooo_code.specs.Nodes.{entry_node, next_of}
use Rattle.ooo_code.specs.Segments.{IsNodeOf, Reaches, here, further, nodes_of, followers, leads_to}
use Rattle.ooo_code.specs.Sound.{FitsProcess, Uses, IsOfOne}
use Rattle.ooo_code.specs.Touches.{Touch, touched_by}
use Rattle.ooo_meaning.specs.Runs.{some_node_touches, holder_of}
use Rattle.ooo_plain.specs.Fitting.{FitsEntry}

-- ---- the first that passes

module _ {A : Type 0} (test : A → Bool) where
  first_from : (k : ℕ) (xs : List A) (i : ℕ) (x : A) → slice_get xs i ≡ Some x → test x ≡ true → ((j : ℕ) (y : A) → slice_get xs j ≡ Some y → test y ≡ true → j ≡ i) → position_from test k xs ≡ Some (k + i)
  first_from k [] i x is passes one = absurd (let no : None ≡ Some x = is in cc)
  first_from k (y ∷ ys) zero x is passes one =
      let same : y ≡ x = (let e : Some y ≡ Some x = is in cc) in
      rw (ap test same ∙ passes) (ap Some (let e : k ≡ k + 0 = omega arith in e))
  first_from k (y ∷ ys) (suc i) x is passes one = go (test y) refl (first_from (k + 1) ys i x is passes (λ j z at ok. let e : suc j ≡ suc i = one (suc j) z at ok in omega (arith, e)))
    where
      go : (b : Bool) → test y ≡ b → position_from test (k + 1) ys ≡ Some (k + 1 + i) → cond b (Some k) (position_from test (k + 1) ys) ≡ Some (k + suc i)
      go true e h = absurd (let z : zero ≡ suc i = one zero y refl e in cc)
      go false e h = h ∙ ap Some (let e : k + 1 + i ≡ k + suc i = omega arith in e)

  pub position_is : (xs : List A) (i : ℕ) (x : A) → slice_get xs i ≡ Some x → test x ≡ true → ((j : ℕ) (y : A) → slice_get xs j ≡ Some y → test y ≡ true → j ≡ i) → position test xs ≡ Some i
  position_is xs i x is passes one = position_from-zero test xs ∙ first_from 0 xs i x is passes one ∙ ap Some (let e : 0 + i ≡ i = omega arith in e)

-- ---- the nodes of a process

length_below : {A : Type 0} (k n : ℕ) (xs : List A) → k < length (take n xs) → k < n
length_below k zero xs lt = absurd (omega (arith, lt))
length_below k (suc n) [] lt = absurd (omega (arith, lt))
length_below zero (suc n) (x ∷ xs) lt = omega arith
length_below (suc k) (suc n) (x ∷ xs) lt = let h = length_below k n xs (omega (arith, lt)) in omega (arith, h)

module _ {A : Type 0} where
  get_take : (n : ℕ) (xs : List A) (i : ℕ) → i < n → slice_get (take n xs) i ≡ slice_get xs i
  get_take zero xs i lt = absurd (omega arith)
  get_take (suc n) [] i lt = refl
  get_take (suc n) (x ∷ xs) zero lt = refl
  get_take (suc n) (x ∷ xs) (suc i) lt = get_take n xs i (omega (arith, lt))

  get_drop : (n : ℕ) (xs : List A) (i : ℕ) → slice_get (drop n xs) i ≡ slice_get xs (n + i)
  get_drop zero xs i = ap (slice_get xs) (let e : i ≡ 0 + i = omega arith in e)
  get_drop (suc n) [] i = refl
  get_drop (suc n) (x ∷ xs) i = get_drop n xs i ∙ ap (slice_get (x ∷ xs)) (let e : suc (n + i) ≡ suc n + i = omega arith in e)

  some_at : (test : A → Bool) (xs : List A) (i : ℕ) (x : A) → slice_get xs i ≡ Some x → test x ≡ true → list_any test xs ≡ true
  some_at test xs i x is passes = list_any_at test xs i x (slice_get_within xs i x is) (ap test (get_or_from_slice_get xs i x x is) ∙ passes)

module _ (design : Design) (process : Proc) where
  -- the node of a number, among those of its process
  pub node_at : (n : ℕ) → IsNodeOf process n → slice_get (nodes_of design process) (n - process.first) ≡ slice_get design.nodes n
  node_at n own =
      get_take (process.end - process.first) (drop process.first design.nodes) (n - process.first) (let a = own.from in let b = own.below in omega (arith, a, b))
      ∙ get_drop process.first design.nodes (n - process.first) ∙ ap (slice_get design.nodes) (let a = own.from in let e : process.first + (n - process.first) ≡ n = omega (arith, a) in e)

  -- a node of its own touches what passes
  pub touches_some : (test : Touch → Bool) (n : ℕ) (node : Node) (touch : Touch) → IsNodeOf process n → slice_get design.nodes n ≡ Some node → Contains (touched_by design.events node.kind) touch → test touch ≡ true → some_node_touches design test process ≡ true
  touches_some test n node touch own is c passes =
      some_at (λ x. list_any test (touched_by design.events x.kind)) (nodes_of design process) (n - process.first) node (node_at n own ∙ is)
      (list_any_at test (touched_by design.events node.kind) c.0 touch c.1 (ap test c.2 ∙ passes))

  -- a process of which some node touches it uses it
  pub some_uses : (test : Touch → Bool) (touch : Touch) → ((t : Touch) → test t ≡ true → t ≡ touch) → (q : ℕ) → slice_get design.processes q ≡ Some process → some_node_touches design test process ≡ true → Uses design q touch
  some_uses test touch same q at_q passes = uses (Any-from_list_any (λ x. list_any test (touched_by design.events x.kind)) (nodes_of design process) passes)
    where
      uses : Any (λ x. list_any test (touched_by design.events x.kind) ≡ true) (nodes_of design process) → Uses design q touch
      uses (k, node, lt, is, some) =
          let t = Any-from_list_any test (touched_by design.events node.kind) some in
          let below : k < process.end - process.first = length_below k (process.end - process.first) (drop process.first design.nodes) lt in
          let found : slice_get (nodes_of design process) k ≡ Some node = slice_get-get_or (nodes_of design process) k node lt ∙ ap Some is in
          record {
            process = process;
            number = process.first + k;
            node = node;
            is = at_q;
            own = record { from = omega arith; below = omega (arith, below) };
            node_is = sym (get_drop process.first design.nodes k) ∙ sym (get_take (process.end - process.first) (drop process.first design.nodes) k below) ∙ found;
            touches = let c : Contains (touched_by design.events node.kind) t.1 = (t.0, t.2, t.3) in subst (Contains (touched_by design.events node.kind)) (same t.1 t.4) c;
          }

-- ---- the holder

module _ (design : Design) (all : All (FitsProcess design) design.processes) (test : Touch → Bool) (touch : Touch) (same : (t : Touch) → test t ≡ true → t ≡ touch) (one : IsOfOne design touch) (self : test touch ≡ true) where
  -- the process whose own node touches it is the holder
  pub holder_is : (p : ℕ) (process : Proc) (n : ℕ) (node : Node) → slice_get design.processes p ≡ Some process → IsNodeOf process n → slice_get design.nodes n ≡ Some node → Contains (touched_by design.events node.kind) touch → holder_of design test ≡ Some p
  holder_is p process n node at_p own is c =
      let mine : Uses design p touch = record { process = process; number = n; node = node; is = at_p; own = own; node_is = is; touches = c } in
      position_is (some_node_touches design test) design.processes p process at_p (touches_some design process test n node touch own is c self)
      (λ q a at_q passes. one q p (some_uses design a test touch same q at_q passes) mine)

-- ---- a segment of a process has its own nodes

module _ (design : Design) (process : Proc) (fits : FitsProcess design process) where
  contained : (P : ℕ → Type 0) (xs : List ℕ) (m : ℕ) → All P xs → Contains xs m → P m
  contained P xs m h c = subst P c.2 (h c.0 m c.1)

  pub leads_on : (k : NodeKind) (n m : ℕ) → Contains (leads_to k n) m → Contains (if (elim k [ kind.Wait w ↦ true | _ ↦ false ]) then n ∷ [] else leads_to k n) m
  leads_on (kind.Wait w) n m c = absurd (let l = c.1 in omega (arith, l))
  leads_on k n m c = c

  pub reach_own : (a b : ℕ) → IsNodeOf process a → Reaches design.nodes a b → IsNodeOf process b
  reach_own a b own here = own
  reach_own a b own (further {b = m} {node = node} r is c) =
      let f = fits.nodes m node (reach_own a m own r) is in
      contained (IsNodeOf process) (followers node) b f.own (leads_on node.kind node.next b c)

  -- a process enters at a node of its own
  pub entry_own : (e : SegmentEntry) → FitsEntry design process e → IsNodeOf process (entry_node design process e)
  entry_own Start h = record { from = omega arith; below = fits.some }
  entry_own (After n) h =
      let f = fits.nodes n h.node h.own h.is in
      subst (λ o. IsNodeOf process (next_of o)) (sym h.is)
      (contained (IsNodeOf process) (followers h.node) h.node.next f.own (subst (λ b. Contains (if b then h.node.next ∷ [] else leads_to h.node.kind h.node.next) h.node.next) (sym h.wait) (0, omega arith, refl)))
