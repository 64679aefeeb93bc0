-- Segments that are added one after another.
use Rattle.std.proofs.Common.{◌≡◌, ℕ, suc, ◌+◌, ◌-◌, ◌<◌, ◌≤◌, Bool, true, false, cond, List, [], ◌∷◌, ◌++◌, length, map, take, drop, refl, ap, sym, ◌∙◌, subst, arith, Some, add-zero, append_assoc, append-nil, length-append, ◌↔◌}
use Rattle.std.specs.Prelude.{slice_get, Contains}
use Rattle.std.proofs.lemmas.List.{take_more, map-append, length-map, length-take-le, length-take, take_all}
use Rattle.std.proofs.lemmas.List.Elements.{All-push}
use Rattle.std.proofs.lemmas.Option.{slice_get_within, get_or_from_slice_get}
use Rattle.ooo_code.specs.declared.design.Design.{Design}
use Rattle.ooo_code.specs.declared.design.Proc.{Proc}
use Rattle.ooo_code.specs.declared.node.Node.{Node}
use Rattle.ooo_code.specs.declared.segment.Segment.{Segment}
use Rattle.ooo_code.specs.declared.segment.SegmentEntry.{SegmentEntry}
use Rattle.ooo_code.specs.declared.segment.SegmentEntry.TheVariants.{Start, After}
use Rattle.ooo_code.specs.Segments.{is_wait, nodes_of, entries_of, IsSegment, InSegment}
use Rattle.ooo_code.specs.Touches.{numbers_where}
use Rattle.ooo_segments.proofs.Where.{where_push}
use Rattle.ooo_segments.proofs.Within.{is_part}
use Rattle.ooo_segments.specs.Numbers.{IsIn, AreNumbersOf}
use Rattle.ooo_segments.specs.Beginnings.{Beginning, beginning_of, beginnings_of, beginnings_from, AddsSegments}

-- nothing is added
pub adds_none : (design : Design) (a : List Segment) → AddsSegments design a a []
adds_none design a = record { order = sym (append-nil _); each = λ h. h }

-- some and then others
pub adds_then : (design : Design) (a b c : List Segment) (xs ys : List Beginning) → AddsSegments design a b xs → AddsSegments design b c ys → AddsSegments design a c (xs ++ ys)
adds_then design a b c xs ys f g = record {
  order = g.order ∙ (ap (λ zs. zs ++ ys) f.order ∙ append_assoc (map beginning_of a) xs ys);
  each = λ h. g.each (f.each h);
}

-- one segment, whose nodes are just those that are reachable from its entry
pub adds_one : (design : Design) (process : Proc) (a : List Segment) (s : Segment) (marks : List Bool) → slice_get design.processes s.process ≡ Some process → Contains (entries_of design process) s.entry → ((n : ℕ) → IsIn marks n ↔ InSegment design process s.entry n) → AreNumbersOf marks s.nodes → AddsSegments design a (a ++ s ∷ []) ((s.process, s.entry) ∷ [])
adds_one design process a s marks is entry marked numbers = record {
  order = map-append beginning_of a (s ∷ []);
  each = λ h. All-push (IsSegment design) a s h (rw is (record {
    entry = entry;
    nodes = λ n. (λ w. (marked n).0 ((numbers.same n).0 w), λ r. (numbers.same n).1 ((marked n).1 r));
    ascending = numbers.ascending;
  }));
}

-- where the segments of some processes begin, with one more process
pub beginnings_push : (design : Design) (n : ℕ) (ps : List Proc) (p : Proc) → beginnings_from design n (ps ++ p ∷ []) ≡ beginnings_from design n ps ++ beginnings_of design (n + length ps) p
beginnings_push design n [] p = append-nil (beginnings_of design n p) ∙ ap (λ m. beginnings_of design m p) (sym (add-zero n))
beginnings_push design n (q ∷ qs) p =
    let e : suc n + length qs ≡ n + length (q ∷ qs) = omega arith in
    let r = beginnings_push design (suc n) qs p ∙ ap (λ m. beginnings_from design (suc n) qs ++ beginnings_of design m p) e in
    ap (λ z. beginnings_of design n q ++ z) r ∙ sym (append_assoc (beginnings_of design n q) (beginnings_from design (suc n) qs) (beginnings_of design (n + length (q ∷ qs)) p))

-- where the segments of the first processes begin, with one more of them
pub beginnings_more : (design : Design) (ps : List Proc) (k : ℕ) (p : Proc) → slice_get ps k ≡ Some p → beginnings_from design 0 (take (k + 1) ps) ≡ beginnings_from design 0 (take k ps) ++ beginnings_of design k p
beginnings_more design ps k p is =
    let lt = slice_get_within ps k p is in
    let e : take (k + 1) ps ≡ take k ps ++ p ∷ [] = take_more ps k p lt ∙ ap (λ q. take k ps ++ q ∷ []) (get_or_from_slice_get ps k p p is) in
    let l : 0 + length (take k ps) ≡ k = let m = length-take-le k ps (omega arith) in omega arith in
    ap (λ qs. beginnings_from design 0 qs) e ∙ (beginnings_push design 0 (take k ps) p ∙ ap (λ m. beginnings_from design 0 (take k ps) ++ beginnings_of design m p) l)

-- there are no more processes than segments
pub processes_few : (design : Design) (n : ℕ) (ps : List Proc) → length ps ≤ length (beginnings_from design n ps)
processes_few design n [] = omega arith
processes_few design n (p ∷ ps) =
    let r = processes_few design (suc n) ps in
    let l = length-append (beginnings_of design n p) (beginnings_from design (suc n) ps) in
    let m = length-map {B = Beginning} (entries_of design p) (λ e. (n, e)) in
    omega arith

-- where the segments of a process begin that are its start, or after one of its waits below n
unfoldable pub beginnings_to : Design → ℕ → Proc → ℕ → List Beginning
beginnings_to design p process n = map (λ e. (p, e)) (Start ∷ map After (numbers_where is_wait process.first (take (n - process.first) (nodes_of design process))))

-- added are the start of a process, and its waits below n
pub record AddedTo (design : Design) (p : ℕ) (process : Proc) (a b : List Segment) (n : ℕ) : Type 0 where
  pub adds : AddsSegments design a b (beginnings_to design p process n)

take_none : {A : Type 0} (xs : List A) → take 0 xs ≡ []
take_none [] = refl
take_none (x ∷ xs) = refl

-- where a segment of process p begins
abbrev beginning_at : ℕ → SegmentEntry → Beginning
beginning_at p e = (p, e)

with_wait : (b : Bool) (p : ℕ) (ws : List ℕ) (n : ℕ) → beginning_at p Start ∷ map (beginning_at p) (map After (ws ++ cond b (n ∷ []) [])) ≡ (beginning_at p Start ∷ map (beginning_at p) (map After ws)) ++ cond b (beginning_at p (After n) ∷ []) []
with_wait true p ws n = ap (λ xs. beginning_at p Start ∷ map (beginning_at p) xs) (map-append After ws (n ∷ [])) ∙ ap (λ xs. beginning_at p Start ∷ xs) (map-append (beginning_at p) (map After ws) (After n ∷ []))
with_wait false p ws n = ap (λ xs. beginning_at p Start ∷ map (beginning_at p) (map After xs)) (append-nil ws) ∙ sym (append-nil (beginning_at p Start ∷ map (beginning_at p) (map After ws)))

to_first : (design : Design) (p : ℕ) (process : Proc) → (p, Start) ∷ [] ≡ beginnings_to design p process process.first
unfolding beginnings_to
to_first design p process =
    let z : process.first - process.first ≡ 0 = omega arith in
    let e : numbers_where is_wait process.first (take (process.first - process.first) (nodes_of design process)) ≡ [] = rw z (ap (λ xs. numbers_where is_wait process.first xs) (take_none (nodes_of design process))) in
    rw e refl

to_next : (design : Design) (p : ℕ) (process : Proc) (n : ℕ) (node : Node) → process.first ≤ n → n < process.end → slice_get design.nodes n ≡ Some node → beginnings_to design p process (n + 1) ≡ beginnings_to design p process n ++ cond (is_wait node) ((p, After n) ∷ []) []
unfolding beginnings_to
to_next design p process n node from below is =
    let part = nodes_of design process in
    let k = n - process.first in
    let at : process.first + k ≡ n = omega arith in
    let here : slice_get part k ≡ Some node = is_part design.nodes process.first (process.end - process.first) k node (omega arith) (subst (λ w. slice_get design.nodes w ≡ Some node) (sym at) is) in
    let lt = slice_get_within part k node here in
    let step : n + 1 - process.first ≡ k + 1 = omega arith in
    let len : process.first + length (take k part) ≡ n = let m = length-take-le k part (omega arith) in omega arith in
    let e : take (n + 1 - process.first) part ≡ take k part ++ node ∷ [] = rw step (take_more part k node lt ∙ ap (λ q. take k part ++ q ∷ []) (get_or_from_slice_get part k node node here)) in
    let f = ap (λ xs. numbers_where is_wait process.first xs) e ∙ (where_push is_wait process.first (take k part) node ∙ ap (λ m. numbers_where is_wait process.first (take k part) ++ cond (is_wait node) (m ∷ []) []) len) in
    ap (λ ws. beginning_at p Start ∷ map (beginning_at p) (map After ws)) f ∙ with_wait (is_wait node) p (numbers_where is_wait process.first (take k part)) n

-- at first the start alone
pub added_start : (design : Design) (p : ℕ) (process : Proc) (a b : List Segment) → AddsSegments design a b ((p, Start) ∷ []) → AddedTo design p process a b process.first
added_start design p process a b h = record { adds = subst (λ xs. AddsSegments design a b xs) (to_first design p process) h }

-- a wait is added
pub added_wait : (design : Design) (p : ℕ) (process : Proc) (a b c : List Segment) (n : ℕ) (node : Node) → process.first ≤ n → n < process.end → slice_get design.nodes n ≡ Some node → is_wait node ≡ true → AddedTo design p process a b n → AddsSegments design b c ((p, After n) ∷ []) → AddedTo design p process a c (n + 1)
added_wait design p process a b c n node from below is waits h g = record {
  adds =
      let e = to_next design p process n node from below is ∙ ap (λ t. beginnings_to design p process n ++ cond t ((p, After n) ∷ []) []) waits in
      subst (λ xs. AddsSegments design a c xs) (sym e) (adds_then design a b c (beginnings_to design p process n) ((p, After n) ∷ []) h.adds g);
}

-- a node that is no wait adds nothing
pub added_other : (design : Design) (p : ℕ) (process : Proc) (a b : List Segment) (n : ℕ) (node : Node) → process.first ≤ n → n < process.end → slice_get design.nodes n ≡ Some node → is_wait node ≡ false → AddedTo design p process a b n → AddedTo design p process a b (n + 1)
added_other design p process a b n node from below is waits h = record {
  adds =
      let e = to_next design p process n node from below is ∙ (ap (λ t. beginnings_to design p process n ++ cond t ((p, After n) ∷ []) []) waits ∙ append-nil (beginnings_to design p process n)) in
      subst (λ xs. AddsSegments design a b xs) (sym e) h.adds;
}

-- at the end all of them
pub added_all : (design : Design) (p : ℕ) (process : Proc) (a b : List Segment) (n : ℕ) → process.end ≤ n → AddedTo design p process a b n → AddsSegments design a b (beginnings_of design p process)
unfolding beginnings_to
added_all design p process a b n end h =
    let part = nodes_of design process in
    let short : length part ≤ n - process.first = let m = length-take (process.end - process.first) (drop process.first design.nodes) in omega arith in
    let e : take (n - process.first) part ≡ part = take_all (n - process.first) part short in
    rw e at h.adds
