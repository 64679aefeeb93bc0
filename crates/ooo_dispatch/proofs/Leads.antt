-- The other way: what the tables say is led to is reached by a walk over the edges of the rule, so what is allowed may run.
use Rattle.std.proofs.Common.{◌≡◌, ◌≢◌, ℕ, ◌<◌, ◌⊎◌, inl, inr, ⊎_elim, List, [], ◌∷◌, length, Option, Some, None, refl, sym, ◌∙◌, subst, arith}
use Rattle.std.specs.Prelude.{slice_get, slice_index_or, Contains, IsSomeAnd}
use Rattle.std.proofs.lemmas.List.Elements.{All-contains}
use Rattle.std.proofs.lemmas.Option.{slice_get_within}
use Rattle.ooo_lemmas.proofs.Contained.{contains_at}
use Rattle.ooo_time.specs.declared.stamp.Stamp.{Stamp}
use Rattle.ooo_time.specs.declared.delay.Delay.{Delay}
use Rattle.ooo_time.specs.Delays.{advanced, joined}
use Rattle.ooo_value.specs.declared.bound.ProcessKind.{ProcessKind}
use Rattle.ooo_value.specs.declared.bound.ProcessKind.TheVariants.{Thread, Method}
use Rattle.ooo_code.specs.declared.design.Design.{Design}
use Rattle.ooo_code.specs.declared.design.Proc.{Proc}
use Rattle.ooo_code.specs.declared.limits.Limits.{Limits}
use Rattle.ooo_code.specs.declared.node.Node.{Node}
use Rattle.ooo_code.specs.declared.segment.Segment.{Segment}
use Rattle.ooo_code.specs.declared.segment.SegmentEntry.{SegmentEntry}
use Rattle.ooo_code.specs.declared.segment.SegmentEntry.TheVariants.{Start, After}
use Rattle.ooo_code.specs.Sound.{IsSound, scope_of}
use Rattle.ooo_code.specs.Touches.{Notifies, touched_by}
use Rattle.ooo_segments.specs.declared.graphs.Edge.{Edge}
use Rattle.ooo_segments.specs.Edges.{EndsBefore, Follows, FollowsAs, IsWaitBy}
use Rattle.ooo_advance.specs.Rows.{delay_at, entry_at}
use Rattle.ooo_advance.specs.Walks.{IsEdge, IsLeast, Walk, edge_of, no_delay, sum_from}
use Rattle.ooo_schedules.specs.Delays as rule
use Rattle.ooo_schedules.specs.Delays.{LeadsTo, NotAfter, Reach, stay, go}
use Rattle.ooo_schedules.specs.Model.{Front, In, running_or}
use Rattle.ooo_schedules.specs.Tables.{edges_of}
use Rattle.ooo_tables.specs.declared.tables.Tables.{Tables}
use Rattle.ooo_tables.specs.Tables.{AreTables}
use Rattle.ooo_dispatch.specs.Boards.{AreRules, Board, IsAllowed, IsFront, model}
use Rattle.ooo_dispatch.specs.Least.{HoldsUp, IsBelowCut, MayRun, rules_of}
use Rattle.ooo_dispatch.specs.Rules.{Rules, all_edges, row_of, tables}
use Rattle.ooo_dispatch.proofs.Accessed.{Here, each_in, fits, here_at, here_of, in_contained, own_within, some_is}
use Rattle.ooo_dispatch.proofs.Allowed.{are_rules}
use Rattle.ooo_dispatch.proofs.Calls.{has_of, index_cases}
use Rattle.ooo_dispatch.proofs.Edges.{by_notice, edge_in}
use Rattle.ooo_dispatch.proofs.Walks.{edge, edge_leads}
use Rattle.ooo_dispatch.proofs.Taking.{IsStep, Takes, by_wait, takes_by}

module _ (design : Design) (limits : Limits) (t : Tables) (are : AreTables design t) (sound : IsSound design) where
  abbrev r : Rules
  r = rules_of design limits t

  -- ---- edges

  abbrev rules : AreRules r
  rules = are_rules design limits t are

  -- a wait of a segment's nodes
  by_end : (g : ℕ) (h : Here r rules sound g) (entry : SegmentEntry) (d : Delay) → EndsBefore design h.segment.nodes entry d → IsStep d
  by_end g h Start d x = absurd x
  by_end g h (After wait) d x = at (slice_get design.nodes wait) refl x.1
    where
      at : (o : Option Node) → slice_get design.nodes wait ≡ o → IsSomeAnd o (λ node. IsWaitBy node.kind d) → IsStep d
      at None e k = absurd k
      at (Some node) e k =
          let n = (fits r rules sound g h).nodes wait node (own_within r rules sound g h wait ((h.whole.nodes wait).0 x.0)) e in
          by_wait (scope_of design h.process) design.events node.kind d n.names k

  by_follow : (k : ProcessKind) (from to : ℕ) (h : Here r rules sound from) (b : Segment) (d : Delay) → FollowsAs design k from to h.segment b d → IsStep d
  by_follow Thread from to h b d x = by_end from h b.entry d x
  by_follow Method from to h b d x = subst IsStep (sym x.1) (record { takes = inr (omega arith); within = omega arith })

  step : (e : Edge) → IsEdge t.graph t.access e → IsStep e.delay
  step e (inl c) = first (slice_get t.graph.segments e.from) refl ((are.edges.exact e).0 c)
    where
      third : (h : Here r rules sound e.from) (b : Segment) (o : Option Proc) → IsSomeAnd o (λ process. FollowsAs design process.kind e.from e.to h.segment b e.delay) → IsStep e.delay
      third h b None x = absurd x
      third h b (Some process) x = by_follow process.kind e.from e.to h b e.delay x

      second : (h : Here r rules sound e.from) (o : Option Segment) → IsSomeAnd o (λ b. Follows design e.from e.to h.segment b e.delay) → IsStep e.delay
      second h None x = absurd x
      second h (Some b) x = third h b (slice_get design.processes h.segment.process) x.1

      first : (o : Option Segment) → slice_get t.graph.segments e.from ≡ o → IsSomeAnd o (λ a. IsSomeAnd (slice_get t.graph.segments e.to) (λ b. Follows design e.from e.to a b e.delay)) → IsStep e.delay
      first None k x = absurd x
      first (Some a) k x =
          let h = here_at r rules sound e.from a k in
          second h (slice_get t.graph.segments e.to)
          (subst (λ y. IsSomeAnd (slice_get t.graph.segments e.to) (λ b. Follows design e.from e.to y b e.delay)) (some_is a h.segment (sym k ∙ h.segment_is)) x)
  step e (inr n) =
      let told = n.notifies in
      let h : Here r rules sound e.from = here_of r rules sound e.from n.before n.from in
      let same : n.before ≡ h.access = some_is n.before h.access (sym n.from ∙ h.access_is) in
      let a = (h.accesses.notified told.event told.time).0 (subst (λ x. Contains x.notified (told.event, told.time)) same told.notified) in
      let fit = (fits r rules sound e.from h).nodes a.number a.node (own_within r rules sound e.from h a.number a.within) a.is in
      subst IsStep (sym told.is)
      (each_in Takes (touched_by design.events a.node.kind) (Notifies told.event told.time) (takes_by (scope_of design h.process) design.events a.node.kind fit.names)
      (in_contained (touched_by design.events a.node.kind) (Notifies told.event told.time) a.touches))

  row : (e : Edge) → IsEdge t.graph t.access e → In (row_of e) (all_edges r)
  row e (inl c) = edge_in r e (in_contained t.graph.edges e c)
  row e (inr n) =
      let told = n.notifies in
      subst (λ d. In (record { from = e.from; delay = d; to = e.to }) (all_edges r)) (sym told.is)
      (by_notice r e.from e.to told.event told.time n.before n.after n.from n.to (in_contained n.before.notified (told.event, told.time) told.notified)
      (has_of n.after.waited told.event told.waited))

  -- ---- walks

  walk_on : (a : ℕ) (k : Delay) (b c : ℕ) (es : List Edge) → rule.Walk (edges_of (tables r)) a k b → Walk t.graph t.access b c es → rule.Walk (edges_of (tables r)) a (sum_from k es) c
  walk_on a k b c [] w v = subst (λ x. rule.Walk (edges_of (tables r)) a k x) v w
  walk_on a k b c (e ∷ es) w v =
      walk_on a (joined k e.delay) e.to c es (go e.delay e.to (subst (λ x. rule.Walk (edges_of (tables r)) a k x) (sym v.0) w) (row e v.1, (step e v.1).takes)) v.2

  -- an entry of the table is between segments that are there
  entry_there : (a b : ℕ) (k : Delay) → entry_at t.advance a b ≡ Some k → (a < length t.access) × (b < length t.access)
  entry_there a b k e = at (index_cases t.advance a [])
    where
      within : (row : List (Option Delay)) → delay_at row b ≡ Some k → b < length row
      within row h =
          ⊎_elim (λ x. slice_get_within row b x.0 x.1) (λ n. absurd (let c : None ≡ Some k = sym n ∙ h in cc)) (index_cases row b None)

      at : ((row : List (Option Delay)) × (slice_get t.advance a ≡ Some row) × (slice_index_or t.advance a [] ≡ row)) ⊎ (slice_index_or t.advance a [] ≡ []) → (a < length t.access) × (b < length t.access)
      at (inl x) =
          let lt = slice_get_within t.advance a x.0 x.1 in
          let wide : length x.0 ≡ length t.access = All-contains (λ row. length row ≡ length t.access) t.advance x.0 are.advance_rows (contains_at t.advance a x.0 x.1) in
          (subst (λ n. a < n) are.advance.count lt, subst (λ n. b < n) wide (within x.0 (subst (λ row. delay_at row b ≡ Some k) x.2 e)))
      at (inr n) = let lt = within [] (subst (λ row. delay_at row b ≡ Some k) n e) in absurd (omega (arith, lt))

  pub reach_by : (a b : ℕ) (s : Stamp) (k : Delay) → entry_at t.advance a b ≡ Some k → Reach (edges_of (tables r)) a s b (advanced s k)
  reach_by a b s k e =
      let there = entry_there a b k e in
      let least : IsLeast t.graph t.access a b (Some k) = subst (IsLeast t.graph t.access a b) e (are.advance.least a b there.0 there.1) in
      let w = least.0 in
      (k, subst (λ d. rule.Walk (edges_of (tables r)) a d b) w.sum (walk_on a no_delay a b w.edges stay w.walk), inr refl)

  -- where an edge leads to a segment, the table has a delay that leads there no later
  pub leads : (a : ℕ) (s : Stamp) (b : ℕ) (u : Stamp) → LeadsTo (edges_of (tables r)) a s b u → (k : Delay) × (entry_at t.advance a b ≡ Some k) × NotAfter (advanced s k) u
  leads a s b u x = edge_leads design limits t are a s b u x (step (edge_of a b x.0) (edge design limits t are a b x.0 x.1.0)).within

  -- what is allowed and below the cut may run
  pub may_run : (b : Board r) (p : ℕ) (f : Front Stamp) → IsAllowed r b p f → IsBelowCut r b f.stamp p → f.stamp.delta < limits.deltas → MayRun r t.advance b p f
  may_run b p f a cut below = record {
    idle = a.idle;
    front = subst (λ o. running_or o ((model r).front b.log p) ≡ Some f) (sym a.idle) a.front;
    below_cut = cut;
    below_limit = below;
    free = free;
  }
    where
      free : (q : ℕ) (g : Front Stamp) → q ≢ p → IsFront r b q g → HoldsUp r t.advance g p f → ⊥
      free q g n is h =
          let reach = reach_by g.segment h.segment g.stamp h.delay h.leads in
          ⊎_elim (λ x. a.free q g n is h.segment (advanced g.stamp h.delay) reach h.other (inl x.0) (inr x))
          (λ x. a.free q g n is h.segment (advanced g.stamp h.delay) reach h.other (inr (x.0, x.1)) (inl x.2)) h.clashes
