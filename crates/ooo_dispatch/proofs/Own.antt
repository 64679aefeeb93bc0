-- The nodes of a segment are nodes of its process.
use Rattle.std.proofs.Common.{◌≡◌, ℕ, zero, suc, ◌<◌, ◌+◌, ◌-◌, inl, inr, List, [], ◌∷◌, take, drop, map, true, false, if◌then◌else◌, Some, refl, sym, ap, ◌∙◌, subst, arith}
use Rattle.std.specs.Prelude.{slice_get, Contains}
use Rattle.std.proofs.lemmas.List.Elements.{All-contains}
use Rattle.ooo_code.specs.Touches.{numbers_where}
use Rattle.ooo_code.specs.declared.design.Design.{Design}
use Rattle.ooo_code.specs.declared.design.Proc.{Proc}
use Rattle.ooo_code.specs.declared.node.Node.{Node}
use Rattle.ooo_code.specs.declared.node.NodeKind.{NodeKind}
use Rattle.ooo_code.specs.declared.node.NodeKind.TheVariants as kind
use Rattle.ooo_code.specs.declared.node.NodeWait.{NodeWait}
use Rattle.ooo_value.specs.declared.bound.ProcessKind.TheVariants.{Method}
use Rattle.ooo_code.specs.Segments.{Reaches, here, further, successors, followers, leads_to, is_wait, IsNodeOf, entries_of, nodes_of}
use Rattle.ooo_code.specs.Nodes.{entry_node, next_of}
use Rattle.ooo_code.specs.declared.segment.SegmentEntry.{SegmentEntry}
use Rattle.ooo_code.specs.declared.segment.SegmentEntry.TheVariants.{Start, After}
use Rattle.ooo_code.specs.Sound.{FitsProcess}
use Rattle.ooo_schedules.specs.Model.{In}
use Rattle.ooo_dispatch.proofs.Edges.{in_map}
use Rattle.ooo_dispatch.proofs.Numbers.{numbered, in_numbers}

-- within its segment a node leads to no others than it is followed by
follows : (k : NodeKind) (next : ℕ) (c : ℕ) → Contains (leads_to k next) c → Contains (if (elim k [ kind.Wait w ↦ true | _ ↦ false ]) then next ∷ [] else leads_to k next) c
follows (kind.Wait w) next c (i, lt, is) = absurd (omega (arith, lt))
follows (kind.Set n e) next c h = h
follows (kind.Store x i e) next c h = h
follows (kind.Test e no_to) next c h = h
follows kind.Goto next c h = h
follows (kind.PrintText text) next c h = h
follows (kind.PrintValue e) next c h = h
follows kind.PrintTime next c h = h
follows (kind.Write d e) next c h = h
follows (kind.TestAvailable d no_to) next c h = h
follows (kind.TestFree d no_to) next c h = h
follows (kind.Take d n) next c h = h
follows (kind.Put d e) next c h = h
follows (kind.Notify e t) next c h = h
follows (kind.Cancel e) next c h = h
follows kind.Stop next c h = h
follows (kind.Trigger w) next c h = h
follows kind.End next c h = h

pub among : (m : ℕ) (ms : List ℕ) → In (After m) (map After ms) → In m ms
among m [] i = absurd i
among m (n ∷ ms) (inl e) = inl (let s : m ≡ n = cc in s)
among m (n ∷ ms) (inr j) = inr (among m ms j)

-- what a part of a list has at a place
pub in_part : {A : Type 0} (n k : ℕ) (xs : List A) (i : ℕ) (x : A) → slice_get (take n (drop k xs)) i ≡ Some x → (i < n) × (slice_get xs (k + i) ≡ Some x)
in_part n k [] i x e = absurd (none n k i e)
  where
    none : {A : Type 0} {x : A} (n k i : ℕ) → slice_get (take n (drop k [])) i ≡ Some x → ⊥
    none zero zero i e = cc
    none zero (suc k) i e = cc
    none (suc n) zero i e = cc
    none (suc n) (suc k) i e = cc
in_part zero zero (y ∷ xs) i x e = absurd cc
in_part (suc n) zero (y ∷ xs) zero x e = (omega arith, e)
in_part {A} (suc n) zero (y ∷ xs) (suc i) x e =
    let r = in_part n zero xs i x e in
    let lt = r.0 in
    let same : 0 + suc i ≡ suc (0 + i) = omega arith in
    (omega (arith, lt), ap (λ m. slice_get {X = A} (y ∷ xs) m) same ∙ r.1)
in_part {A} n (suc k) (y ∷ xs) i x e =
    let r = in_part n k xs i x e in
    let same : suc k + i ≡ suc (k + i) = omega arith in
    (r.0, ap (λ m. slice_get {X = A} (y ∷ xs) m) same ∙ r.1)

pub part_in : {A : Type 0} (n k : ℕ) (xs : List A) (i : ℕ) (x : A) → i < n → slice_get xs (k + i) ≡ Some x → slice_get (take n (drop k xs)) i ≡ Some x
part_in n k [] i x lt e = absurd cc
part_in zero k (y ∷ xs) i x lt e = absurd (omega (arith, lt))
part_in (suc n) zero (y ∷ xs) zero x lt e = e
part_in {A} (suc n) zero (y ∷ xs) (suc i) x lt e =
    let same : suc (0 + i) ≡ 0 + suc i = omega arith in
    part_in n zero xs i x (omega (arith, lt)) (ap (λ m. slice_get {X = A} (y ∷ xs) m) same ∙ e)
part_in {A} (suc n) (suc k) (y ∷ xs) i x lt e =
    let same : suc (k + i) ≡ suc k + i = omega arith in
    part_in (suc n) k xs i x lt (ap (λ m. slice_get {X = A} (y ∷ xs) m) same ∙ e)

-- a node that is a wait, is one
pub wait_yes : (node : Node) (w : NodeWait) → node.kind ≡ kind.Wait w → is_wait node ≡ true
wait_yes node w e = subst (λ k. (elim k [ kind.Wait v ↦ true | _ ↦ false ]) ≡ true) (sym e) refl

module _ (design : Design) (process : Proc) (fits : FitsProcess design process) where
  pub own_node : (first n : ℕ) → IsNodeOf process first → Reaches design.nodes first n → IsNodeOf process n
  own_node first n own here = own
  own_node first n own (further {b = b} {node = node} r is c) =
      let f = fits.nodes b node (own_node first b own r) is in All-contains (IsNodeOf process) (followers node) n f.own (follows node.kind node.next n c)

  -- a wait after which a segment begins is a node of the process, and leads to one
  pub record IsWait (m : ℕ) : Type 0 where
    pub node : Node
    pub own : IsNodeOf process m
    pub is : slice_get design.nodes m ≡ Some node
    pub waits : is_wait node ≡ true

  pub wait_is : (m : ℕ) → In m (numbers_where is_wait process.first (nodes_of design process)) → IsWait m
  wait_is m i =
      let r = numbered is_wait process.first (nodes_of design process) m i in
      let at = in_part (process.end - process.first) process.first design.nodes r.place r.item r.is in
      let below = at.0 in
      let some = fits.some in
      let number = r.number in
      record { node = r.item; own = record { from = omega (arith, number); below = omega (arith, number, below, some) }; is = ap (slice_get design.nodes) number ∙ at.1; waits = r.passes }

  -- after a wait of the process, one of its segments begins
  pub entry_wait : (m : ℕ) → In (After m) (entries_of design process) → IsWait m
  entry_wait m (inl e) = absurd cc
  entry_wait m (inr i) = wait_is m (among m (numbers_where is_wait process.first (nodes_of design process)) i)

  pub wait_leads : (node : Node) → is_wait node ≡ true → Contains (followers node) node.next
  wait_leads node e = subst (λ b. Contains (if b then node.next ∷ [] else successors node) node.next) (sym e) (0, omega arith, refl)

  pub entry_own : (entry : SegmentEntry) → In entry (entries_of design process) → IsNodeOf process (entry_node design process entry)
  entry_own Start i = let some = fits.some in record { from = omega arith; below = omega (arith, some) }
  entry_own (After m) (inl e) = absurd cc
  entry_own (After m) (inr i) =
      let w = entry_wait m (inr i) in
      let f = fits.nodes m w.node w.own w.is in
      subst (IsNodeOf process) (sym (ap next_of w.is)) (All-contains (IsNodeOf process) (followers w.node) w.node.next f.own (wait_leads w.node w.waits))

  -- behind each wait of the process a segment begins
  pub is_entry : (m : ℕ) (node : Node) → IsNodeOf process m → slice_get design.nodes m ≡ Some node → is_wait node ≡ true → In (After m) (entries_of design process)
  is_entry m node own is waits =
      let from = own.from in
      let below = own.below in
      let back : process.first + (m - process.first) ≡ m = omega (arith, from) in
      let inside : m - process.first < process.end - process.first = omega (arith, from, below) in
      let at = part_in (process.end - process.first) process.first design.nodes (m - process.first) node inside (ap (slice_get design.nodes) back ∙ is) in
      inr
      (in_map After (numbers_where is_wait process.first (nodes_of design process)) m
      (subst (λ n. In n (numbers_where is_wait process.first (nodes_of design process))) back
      (in_numbers is_wait process.first (nodes_of design process) (m - process.first) node at waits)))

  -- a method has no waits, so it has one segment
  pub method_start : process.kind ≡ Method → (entry : SegmentEntry) → In entry (entries_of design process) → entry ≡ Start
  method_start k Start i = refl
  method_start k (After m) (inl e) = absurd cc
  method_start k (After m) (inr i) =
      let w = wait_is m (among m (numbers_where is_wait process.first (nodes_of design process)) i) in
      absurd (let c : false ≡ true = sym ((fits.nodes m w.node w.own w.is).method k) ∙ w.waits in cc)

  -- so a process with a wait is a thread
  pub no_method : (m : ℕ) (node : Node) → IsNodeOf process m → slice_get design.nodes m ≡ Some node → is_wait node ≡ true → process.kind ≡ Method → ⊥
  no_method m node own is waits k = let c : false ≡ true = sym ((fits.nodes m node own is).method k) ∙ waits in cc
