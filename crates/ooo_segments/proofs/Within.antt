-- In closed processes all nodes of a segment are nodes of its process.
use Rattle.std.proofs.Common.{◌≡◌, ℕ, ◌+◌, ◌-◌, ◌<◌, Bool, true, false, cond, List, [], ◌∷◌, length, map, take, drop, refl, ap, sym, ◌∙◌, subst, arith, inl, inr, Some}
use Rattle.std.specs.Prelude.{slice_get, Contains, All}
use Rattle.std.proofs.lemmas.Option.{slice_get-get_or, slice_get_within, get_or_from_slice_get}
use Rattle.std.proofs.lemmas.List.{get_or-take, get_or-drop, length-take, length-drop}
use Rattle.std.proofs.lemmas.List.Elements.{All-contains, All-head}
use Rattle.ooo_lemmas.proofs.Contained.{not_in_none, in_later, first_or_later, mapped_from, in_mapped}
use Rattle.ooo_code.specs.declared.design.Design.{Design}
use Rattle.ooo_code.specs.declared.design.Proc.{Proc}
use Rattle.ooo_code.specs.declared.node.Node.{Node}
use Rattle.ooo_code.specs.declared.node.NodeKind.{NodeKind}
use Rattle.ooo_code.specs.declared.node.NodeKind.TheVariants as kind
use Rattle.ooo_code.specs.declared.segment.SegmentEntry.{SegmentEntry}
use Rattle.ooo_code.specs.declared.segment.SegmentEntry.TheVariants.{Start, After}
use Rattle.ooo_code.specs.Nodes.{entry_node}
use Rattle.ooo_code.specs.Segments.{Reaches, here, further, leads_to, successors, followers, is_wait, IsNodeOf, nodes_of, entries_of}
use Rattle.ooo_code.specs.Touches.{numbers_where}
use Rattle.ooo_segments.specs.Closed.{IsClosed, AreClosed}
use Rattle.ooo_segments.proofs.Where.{passes_at, in_where}

-- a process by its number is closed
pub process_closed : (design : Design) (p : ℕ) (process : Proc) → AreClosed design → slice_get design.processes p ≡ Some process → IsClosed design process
process_closed design p process closed is =
    let lt = slice_get_within design.processes p process is in
    subst (λ q. IsClosed design q) (get_or_from_slice_get design.processes p process process is) (closed p process lt)

-- a node among those of a process
pub part_is : {A : Type 0} (xs : List A) (a m k : ℕ) (x : A) → slice_get (take m (drop a xs)) k ≡ Some x → (k < m) × (slice_get xs (a + k) ≡ Some x)
part_is xs a m k x h =
    let lt = slice_get_within (take m (drop a xs)) k x h in
    let long = length-take m (drop a xs) in
    let rest = length-drop a xs in
    let below : k < m = omega arith in
    let inside : a + k < length xs = omega arith in
    let e = get_or_from_slice_get (take m (drop a xs)) k x x h in
    let f = get_or-take m (drop a xs) k x below in
    let g = get_or-drop a xs k x in
    (below, slice_get-get_or xs (a + k) x inside ∙ ap Some (sym g ∙ (sym f ∙ e)))

-- the other way round
pub is_part : {A : Type 0} (xs : List A) (a m k : ℕ) (x : A) → k < m → slice_get xs (a + k) ≡ Some x → slice_get (take m (drop a xs)) k ≡ Some x
is_part xs a m k x below h =
    let lt = slice_get_within xs (a + k) x h in
    let long = length-take m (drop a xs) in
    let rest = length-drop a xs in
    let inside : k < length (take m (drop a xs)) = omega arith in
    let e = get_or_from_slice_get xs (a + k) x x h in
    let f = get_or-take m (drop a xs) k x below in
    let g = get_or-drop a xs k x in
    slice_get-get_or (take m (drop a xs)) k x inside ∙ ap Some (f ∙ (g ∙ e))

-- a wait of a process, by its number
pub record IsWaitOf (design : Design) (process : Proc) (wait : ℕ) : Type 0 where
  pub node : Node
  pub is : slice_get design.nodes wait ≡ Some node
  pub waits : is_wait node ≡ true
  pub own : IsNodeOf process wait

-- after each wait of a process one of its segments begins
pub wait_of : (design : Design) (process : Proc) (wait : ℕ) → Contains (entries_of design process) (After wait) → IsWaitOf design process wait
wait_of design process wait h =
    elim (first_or_later Start (After wait) (map After (numbers_where is_wait process.first (nodes_of design process))) h) [
      | inl e ↦ absurd cc
      | inr l ↦
          let m = mapped_from After (numbers_where is_wait process.first (nodes_of design process)) (After wait) l in
          let same : m.0 ≡ wait = let e = m.2 in cc in
          let p = passes_at is_wait process.first (nodes_of design process) wait (subst (λ w. Contains (numbers_where is_wait process.first (nodes_of design process)) w) same m.1) in
          let from = p.from in
          let part = part_is design.nodes process.first (process.end - process.first) (wait - process.first) p.item p.is in
          let at : process.first + (wait - process.first) ≡ wait = omega arith in
          let below = part.0 in
          record { node = p.item; is = subst (λ w. slice_get design.nodes w ≡ Some p.item) at part.1; waits = p.passes; own = record { from = from; below = omega arith } }
    ]

-- and the other way round
pub entry_after : (design : Design) (process : Proc) (wait : ℕ) (node : Node) → IsNodeOf process wait → slice_get design.nodes wait ≡ Some node → is_wait node ≡ true → Contains (entries_of design process) (After wait)
entry_after design process wait node own is waits =
    let from = own.from in
    let below = own.below in
    let at : process.first + (wait - process.first) ≡ wait = omega arith in
    let part = is_part design.nodes process.first (process.end - process.first) (wait - process.first) node (omega arith) (subst (λ w. slice_get design.nodes w ≡ Some node) (sym at) is) in
    let w = in_where is_wait process.first (nodes_of design process) (wait - process.first) node part waits in
    in_later Start (After wait) (map After (numbers_where is_wait process.first (nodes_of design process)))
    (in_mapped After (numbers_where is_wait process.first (nodes_of design process)) wait (subst (λ w. Contains (numbers_where is_wait process.first (nodes_of design process)) w) at w))

after_wait : (process : Proc) (node : Node) → is_wait node ≡ true → All (IsNodeOf process) (followers node) → IsNodeOf process node.next
after_wait process node waits all =
    let P : Bool → Type 0 = λ b. All (IsNodeOf process) (cond b (node.next ∷ []) (successors node)) in
    All-head (IsNodeOf process) node.next [] (subst P waits all)

-- a segment begins at a node of its process
pub entry_within : (design : Design) (process : Proc) (entry : SegmentEntry) → IsClosed design process → Contains (entries_of design process) entry → IsNodeOf process (entry_node design process entry)
entry_within design process Start fits h = record { from = omega arith; below = fits.some }
entry_within design process (After wait) fits h =
    let w = wait_of design process wait h in
    rw w.is (after_wait process w.node w.waits (fits.nodes wait w.node w.own w.is).own)

nowhere : (k : NodeKind) (next c : ℕ) → (elim k [ kind.Wait w ↦ true | _ ↦ false ]) ≡ true → Contains (leads_to k next) c → ⊥
nowhere (kind.Wait w) next c e h = not_in_none c h
nowhere k next c e h = absurd cc

successors_within : (process : Proc) (node : Node) (c : ℕ) → All (IsNodeOf process) (followers node) → Contains (successors node) c → IsNodeOf process c
successors_within process node c all h = at (is_wait node) refl
  where
    at : (b : Bool) → is_wait node ≡ b → IsNodeOf process c
    at true e = absurd (nowhere node.kind node.next c e h)
    at false e =
        let P : Bool → Type 0 = λ b. All (IsNodeOf process) (cond b (node.next ∷ []) (successors node)) in
        All-contains (IsNodeOf process) (successors node) c (subst P e all) h

-- from a node of the process, only nodes of the process are reachable
pub reached_within : (design : Design) (process : Proc) (a n : ℕ) → IsClosed design process → IsNodeOf process a → Reaches design.nodes a n → IsNodeOf process n
reached_within design process a n fits own here = own
reached_within design process a n fits own (further {b = b} {node = node} r is h) =
    successors_within process node n (fits.nodes b node (reached_within design process a b fits own r) is).own h
