-- Which segment follows an activation that waits: by an edge no longer than its time-out, of one delta cycle where it waits on events, and its entry waits on these.
use Rattle.std.proofs.Common.{◌≡◌, ℕ, inl, inr, List, [], ◌∷◌, true, Option, Some, None, refl, sym, ap, ◌∙◌, subst, arith}
use Rattle.std.specs.Prelude.{slice_get, Contains, IsSomeAnd}
use Rattle.ooo_time.specs.declared.time.Time.{Time}
use Rattle.ooo_time.specs.declared.stamp.Stamp.{Stamp}
use Rattle.ooo_time.specs.declared.delay.Delay.{Delay}
use Rattle.ooo_time.specs.Stamps.{stamp_after}
use Rattle.ooo_time.specs.Delays.{advanced}
use Rattle.ooo_value.specs.declared.bound.ProcessKind.{ProcessKind}
use Rattle.ooo_value.specs.declared.bound.ProcessKind.TheVariants.{Thread, Method}
use Rattle.ooo_code.specs.declared.activation.WaitOn.{WaitOn}
use Rattle.ooo_code.specs.declared.design.Proc.{Proc}
use Rattle.ooo_code.specs.declared.node.NodeTime.{NodeTime}
use Rattle.ooo_code.specs.declared.segment.Segment.{Segment}
use Rattle.ooo_code.specs.declared.segment.SegmentEntry.{SegmentEntry}
use Rattle.ooo_code.specs.declared.segment.SegmentEntry.TheVariants.{Start, After}
use Rattle.ooo_code.specs.AsSaid.{IsTimeOf, IsWaitAt, WaitsAs, behind, static, triggered, static_wait}
use Rattle.ooo_code.specs.Segments.{EntryWaitsOn, StartWaitsOn, entries_of, wait_events, trigger_events, InSegment}
use Rattle.ooo_code.specs.Sound.{IsSound}
use Rattle.ooo_code.specs.Touches.{constant_delay}
use Rattle.ooo_segments.specs.declared.graphs.Edge.{Edge}
use Rattle.ooo_segments.specs.Edges.{one_delta, delay_by, delay_of, IsWaitBy, EndsBefore, Follows, FollowsAs, IsEdge}
use Rattle.ooo_schedules.specs.Delays.{NotAfter, TakesTime}
use Rattle.ooo_schedules.specs.Model.{In}
use Rattle.ooo_dispatch.specs.Rules.{Rules, all_edges, segment_at, waits_on}
use Rattle.ooo_dispatch.specs.Boards.{AreRules}
use Rattle.ooo_dispatch.proofs.Accessed.{Here, contains_in, in_contained, fits, here_at, own_within, some_is}
use Rattle.ooo_dispatch.proofs.Called.{takes_time}
use Rattle.ooo_dispatch.proofs.Calls.{waits_of}
use Rattle.ooo_dispatch.proofs.Distinct.{one_place}
use Rattle.ooo_dispatch.proofs.Edges.{edge_in}
use Rattle.ooo_dispatch.proofs.Notices.{notice_fits}
use Rattle.ooo_dispatch.proofs.Own.{is_entry, method_start, no_method, wait_yes}
use Rattle.ooo_dispatch.proofs.Segments.{IsSegmentAt, segment_is}

-- ---- the delay of a wait

wait_fits : (t : Option NodeTime) (es : List ℕ) (s : Stamp) (k : Time) → IsTimeOf t (Some k) → NotAfter (advanced s (delay_by t es)) (stamp_after s k)
wait_fits None es s k h = absurd h
wait_fits (Some t) [] s k h = notice_fits s k (constant_delay t) h
wait_fits (Some t) (e ∷ es) s k h = notice_fits s k None tt

wait_takes : (t : Option NodeTime) (es : List ℕ) → TakesTime (delay_by t es)
wait_takes None [] = inr (omega arith)
wait_takes (Some t) [] = takes_time t
wait_takes t (e ∷ es) = inr (omega arith)

heard : (t : Option NodeTime) (es : List ℕ) (e : ℕ) → In e es → delay_by t es ≡ one_delta
heard t [] e i = absurd i
heard t (x ∷ es) e i = refl

some_and : {A : Type 0} (P : A → Type 0) (o : Option A) (x : A) → o ≡ Some x → P x → IsSomeAnd o P
some_and P o x e h = subst (λ y. IsSomeAnd y P) (sym e) h

module _ (r : Rules) (rules : AreRules r) (sound : IsSound r.design) where
  -- where the entry of a segment waits on an event, its access has it
  pub entry_waits : (p : ℕ) (q : Proc) (entry : SegmentEntry) (e : ℕ) → slice_get r.design.processes p ≡ Some q → IsSegmentAt r p entry → EntryWaitsOn r.design q entry e →
      waits_on r (segment_at r p entry) e ≡ true
  entry_waits p q entry e is s w = waits_of r (segment_at r p entry) e h.access h.access_is ((h.accesses.waited e).1 here)
    where
      h : Here r rules sound (segment_at r p entry)
      h = here_at r rules sound (segment_at r p entry) s.segment s.is

      same : s.segment ≡ h.segment
      same = some_is s.segment h.segment (sym s.is ∙ h.segment_is)

      number : p ≡ h.segment.process
      number = sym s.process ∙ ap (λ x. x.process) same

      process : q ≡ h.process
      process = some_is q h.process (sym is ∙ ap (slice_get r.design.processes) number ∙ h.process_is)

      begins : entry ≡ h.segment.entry
      begins = sym s.entry_is ∙ ap (λ x. x.entry) same

      here : EntryWaitsOn r.design h.process h.segment.entry e
      here = subst (λ x. EntryWaitsOn r.design x h.segment.entry e) process (subst (λ x. EntryWaitsOn r.design q x e) begins w)

  -- the segment that follows, with the edge to it
  pub record Step (g n : ℕ) (on : WaitOn) : Type 0 where
    pub delay : Delay
    pub edge : In (record { from = g; delay = delay; to = n }) (all_edges r)
    pub takes : TakesTime delay
    pub timed : (s : Stamp) (k : Time) → on.time ≡ Some k → NotAfter (advanced s delay) (stamp_after s k)
    pub heard : (e : ℕ) → In e on.events → delay ≡ one_delta

  module _ (g : ℕ) (h : Here r rules sound g) where
    own_entry : In h.segment.entry (entries_of r.design h.process)
    own_entry = in_contained (entries_of r.design h.process) h.segment.entry h.whole.entry

    -- where it goes on is an entry of its process
    pub next_entry : (on : WaitOn) (next : SegmentEntry) → WaitsAs r.design h.process h.segment.entry on next → In next (entries_of r.design h.process)
    next_entry _ _ (behind m on w) = is_entry r.design h.process (fits r rules sound g h) m w.node (own_within r rules sound g h m w.within) w.is (wait_yes w.node w.wait w.kind_is)
    next_entry _ _ (static k) = inl refl
    next_entry _ _ (triggered on k t) = inl refl

    pub next_segment : (on : WaitOn) (next : SegmentEntry) → WaitsAs r.design h.process h.segment.entry on next → IsSegmentAt r h.segment.process next
    next_segment on next w = segment_is r rules h.segment.process h.process next h.process_is (next_entry on next w)

    -- the entry of the next segment waits on the events
    next_waits : (on : WaitOn) (next : SegmentEntry) → WaitsAs r.design h.process h.segment.entry on next → (e : ℕ) → In e on.events → EntryWaitsOn r.design h.process next e
    next_waits _ _ (behind m on w) e i =
        some_and (λ node. Contains (wait_events node.kind) e) (slice_get r.design.nodes m) w.node w.is
        (subst (λ k. Contains (wait_events k) e) (sym w.kind_is) (contains_in w.wait.events e (subst (λ es. In e es) w.events i)))
    next_waits _ _ (static k) e i = subst (λ x. StartWaitsOn r.design h.process x e) (sym k) (inl (contains_in h.process.sensitive e i))
    next_waits _ _ (triggered on k t) e i =
        subst (λ x. StartWaitsOn r.design h.process x e) (sym k)
        (inr
        (record {
          number = t.number;
          node = t.node;
          within = subst (λ x. InSegment r.design h.process x t.number) (method_start r.design h.process (fits r rules sound g h) k h.segment.entry own_entry) t.within;
          is = t.is;
          names = subst (λ x. Contains (trigger_events x) e) (sym t.kind_is) (contains_in t.wait.events e (subst (λ es. In e es) t.events i));
        }))

    pub waits_next : (on : WaitOn) (next : SegmentEntry) → WaitsAs r.design h.process h.segment.entry on next → (e : ℕ) → In e on.events →
        waits_on r (segment_at r h.segment.process next) e ≡ true
    waits_next on next w e i = entry_waits h.segment.process h.process next e h.process_is (next_segment on next w) (next_waits on next w e i)

    -- ---- the edge

    edge_by : (n : ℕ) (b : Segment) (d : Delay) → slice_get r.segments n ≡ Some b → b.process ≡ h.segment.process → FollowsAs r.design h.process.kind g n h.segment b d →
        In (record { from = g; delay = d; to = n }) (all_edges r)
    edge_by n b d is same f =
        let e : Edge = record { from = g; to = n; delay = d } in
        let step : Follows r.design g n h.segment b d = (
          same,
          some_and (λ q. FollowsAs r.design q.kind g n h.segment b d) (slice_get r.design.processes h.segment.process) h.process h.process_is f,
        )
        in
        let is_edge : IsEdge r.design r.segments e =
        some_and (λ x. IsSomeAnd (slice_get r.segments n) (λ y. Follows r.design g n x y d)) (slice_get r.segments g) h.segment h.segment_is
        (some_and (λ y. Follows r.design g n h.segment y d) (slice_get r.segments n) b is step)
        in
        edge_in r e (in_contained r.edges e ((rules.edges.exact e).1 is_edge))

    -- behind a wait
    step_behind : (m : ℕ) (on : WaitOn) → IsWaitAt r.design h.process h.segment.entry m on → IsSegmentAt r h.segment.process (After m) → Step g (segment_at r h.segment.process (After m)) on
    step_behind m on w s =
        record {
          delay = delay_of w.wait;
          edge = edge_by (segment_at r h.segment.process (After m)) s.segment (delay_of w.wait) s.is s.process (at h.process.kind refl);
          takes = wait_takes w.wait.time w.wait.events;
          timed = λ x k e. wait_fits w.wait.time w.wait.events x k (subst (IsTimeOf w.wait.time) e w.time);
          heard = λ e i. heard w.wait.time w.wait.events e (subst (λ es. In e es) w.events i);
        }
      where
        ends : EndsBefore r.design h.segment.nodes (After m) (delay_of w.wait)
        ends = (
          (h.whole.nodes m).1 w.within,
          some_and (λ node. IsWaitBy node.kind (delay_of w.wait)) (slice_get r.design.nodes m) w.node w.is (subst (λ k. IsWaitBy k (delay_of w.wait)) (sym w.kind_is) refl),
        )

        at : (k : ProcessKind) → h.process.kind ≡ k → FollowsAs r.design k g (segment_at r h.segment.process (After m)) h.segment s.segment (delay_of w.wait)
        at Thread k = subst (λ x. EndsBefore r.design h.segment.nodes x (delay_of w.wait)) (sym s.entry_is) ends
        at Method k = absurd (no_method r.design h.process (fits r rules sound g h) m w.node (own_within r rules sound g h m w.within) w.is (wait_yes w.node w.wait w.kind_is) k)

    -- a method's own segment again
    step_again : (on : WaitOn) → h.process.kind ≡ Method → IsSegmentAt r h.segment.process Start → Step g (segment_at r h.segment.process Start) on
    step_again on k s =
        record {
          delay = one_delta;
          edge = edge_by (segment_at r h.segment.process Start) s.segment one_delta s.is s.process (subst (λ x. FollowsAs r.design x g (segment_at r h.segment.process Start) h.segment s.segment one_delta) (sym k) (same, refl));
          takes = inr (omega arith);
          timed = λ x d e. notice_fits x d None tt;
          heard = λ e i. refl;
        }
      where
        same : segment_at r h.segment.process Start ≡ g
        same =
            one_place r.design r.segments (segment_at r h.segment.process Start) g s.segment h.segment rules.segments.order s.is h.segment_is
            (ap (λ x. (x, s.segment.entry)) s.process ∙ ap (λ x. (h.segment.process, x)) (s.entry_is ∙ sym (method_start r.design h.process (fits r rules sound g h) k h.segment.entry own_entry)))

    pub step : (on : WaitOn) (next : SegmentEntry) → WaitsAs r.design h.process h.segment.entry on next → Step g (segment_at r h.segment.process next) on
    step _ _ (behind m on w) = step_behind m on w (next_segment on (After m) (behind m on w))
    step _ _ (static k) = step_again (static_wait h.process) k (next_segment (static_wait h.process) Start (static k))
    step _ _ (triggered on k t) = step_again on k (next_segment on Start (triggered on k t))
