-- Each edge leads between two segments, by a delay that an edge may have.
use Rattle.std.proofs.Common.{◌≡◌, ℕ, ◌≤◌, Bool, true, false, cond, eqb, List, [], ◌∷◌, length, get_or, refl, ap, sym, ◌∙◌, subst, arith, inl, inr, Option, Some, None}
use Rattle.std.specs.Prelude.{slice_get, Contains, All, IsSomeAnd, IfSome}
use Rattle.std.proofs.lemmas.Bool.{eqb-false}
use Rattle.std.proofs.lemmas.Option.{get_or_from_slice_get}
use Rattle.std.proofs.lemmas.List.Elements.{Contains-get_or}
use Rattle.ooo_time.specs.declared.time.Time.{Time}
use Rattle.ooo_time.specs.declared.delay.Delay.{Delay}
use Rattle.ooo_time.specs.Scales.{greatest_time}
use Rattle.ooo_value.specs.declared.bound.ProcessKind.{ProcessKind}
use Rattle.ooo_value.specs.declared.bound.ProcessKind.TheVariants.{Thread, Method}
use Rattle.ooo_code.specs.declared.design.Design.{Design}
use Rattle.ooo_code.specs.declared.design.Proc.{Proc}
use Rattle.ooo_code.specs.declared.node.NodeKind.{NodeKind}
use Rattle.ooo_code.specs.declared.node.NodeKind.TheVariants as kind
use Rattle.ooo_code.specs.declared.node.NodeTime.{NodeTime}
use Rattle.ooo_code.specs.declared.node.NodeTime.TheVariants as time
use Rattle.ooo_code.specs.declared.segment.Segment.{Segment}
use Rattle.ooo_code.specs.declared.segment.SegmentEntry.{SegmentEntry}
use Rattle.ooo_code.specs.declared.segment.SegmentEntry.TheVariants.{Start, After}
use Rattle.ooo_code.specs.Segments.{IsSegment, IsSegmentOf, entries_of}
use Rattle.ooo_segments.specs.Closed.{AreClosed, IsBounded, WaitsBounded}
use Rattle.ooo_segments.specs.declared.graphs.Edge.{Edge}
use Rattle.ooo_segments.specs.Beginnings.{AreSegments}
use Rattle.ooo_segments.specs.Edges.{one_delta, delay_after, delay_by, IsStep, IsWaitBy, EndsBefore, FollowsAs, Follows, AreEdges, IsLink}
use Rattle.ooo_segments.proofs.Lists.{some_and}
use Rattle.ooo_segments.proofs.Within.{process_closed, wait_of}
use Rattle.ooo_segments.proofs.EdgeLemmas.{edge_within}

step_after : (b : Bool) (t : Time) → eqb t.0 0 ≡ b → t.0 ≤ greatest_time → IsStep (delay_after (cond b None (Some t)))
step_after true t e h = inl (refl, refl)
step_after false t e h = let z = eqb-false t.0 0 e in inr (omega arith, h, refl)

-- a wait takes a delay that an edge may have
step_of_wait : (t : Option NodeTime) (events : List ℕ) → IfSome t IsBounded → IsStep (delay_by t events)
step_of_wait None [] h = inl (refl, refl)
step_of_wait (Some (time.Fixed k)) [] h = step_after (eqb k.0 0) k refl h
step_of_wait (Some (time.Amount e s)) [] h = inl (refl, refl)
step_of_wait t (e ∷ es) h = inl (refl, refl)

step_of_node : (k : NodeKind) (d : Delay) → WaitsBounded k → IsWaitBy k d → IsStep d
step_of_node (kind.Wait w) d bounded h = subst IsStep (sym h) (step_of_wait w.time w.events bounded)
step_of_node k d bounded h = absurd h

step_before : (design : Design) (p : ℕ) (process : Proc) (nodes : List ℕ) (entry : SegmentEntry) (d : Delay) → AreClosed design → slice_get design.processes p ≡ Some process → Contains (entries_of design process) entry → EndsBefore design nodes entry d → IsStep d
step_before design p process nodes Start d closed is entry h = absurd h
step_before design p process nodes (After wait) d closed is entry h =
    let w = wait_of design process wait entry in
    let n = some_and (slice_get design.nodes wait) (λ node. IsWaitBy node.kind d) h.1 in
    let stays = (process_closed design p process closed is).nodes wait n.0 w.own n.1 in
    step_of_node n.0.kind d stays.wait n.2

step_as : (design : Design) (p : ℕ) (process : Proc) (k : ProcessKind) (from to : ℕ) (a b : Segment) (d : Delay) → AreClosed design → slice_get design.processes p ≡ Some process → Contains (entries_of design process) b.entry → FollowsAs design k from to a b d → IsStep d
step_as design p process Thread from to a b d closed is entry h = step_before design p process a.nodes b.entry d closed is entry h
step_as design p process Method from to a b d closed is entry h = let one : Delay = one_delta in subst IsStep (sym h.1) (inl (refl, refl))

-- all edges of a closed design
pub all_links : (design : Design) (segments : List Segment) (edges : List Edge) → AreClosed design → AreSegments design segments → AreEdges design segments edges → All (IsLink (length segments)) edges
all_links design segments edges closed are h = λ k d lt.
    let e : Edge = get_or edges k d in
    let is = (h.exact e).0 (Contains-get_or edges k d lt) in
    let within = edge_within design segments e is in
    let a = some_and (slice_get segments e.from) (λ a. IsSomeAnd (slice_get segments e.to) (λ b. Follows design e.from e.to a b e.delay)) is in
    let b = some_and (slice_get segments e.to) (λ b. Follows design e.from e.to a.0 b e.delay) a.2 in
    let p = some_and (slice_get design.processes a.0.process) (λ process. FollowsAs design process.kind e.from e.to a.0 b.0 e.delay) b.2.1 in
    let seg : IsSegment design b.0 = subst (λ s. IsSegment design s) (get_or_from_slice_get segments e.to b.0 b.0 b.1) (are.each e.to b.0 within.1) in
    let q = some_and (slice_get design.processes b.0.process) (λ process. IsSegmentOf design process b.0) seg in
    let same : slice_get design.processes b.0.process ≡ Some p.0 = ap (λ n. slice_get design.processes n) b.2.0 ∙ p.1 in
    let r : q.0 ≡ p.0 = let x = q.1 in cc in
    let entry : Contains (entries_of design p.0) b.0.entry = subst (λ z. Contains (entries_of design z) b.0.entry) r q.2.entry in
    record {
      from = within.0;
      to = within.1;
      delay = step_as design a.0.process p.0 p.0.kind e.from e.to a.0 b.0 e.delay closed p.1 entry p.2;
    }
