-- What a segment of a sound design touches is there.
use Rattle.std.proofs.Common.{◌≡◌, ℕ, ◌<◌, ◌⊎◌, inl, inr, List, [], ◌∷◌, Option, Some, None, true, false, length, refl, sym, ap, subst, ◌∙◌, arith}
use Rattle.std.specs.Prelude.{slice_get, Contains, IsSome, IsSomeAnd, All}
use Rattle.std.proofs.lemmas.List.Elements.{All-contains}
use Rattle.std.proofs.lemmas.Option.{slice_get_within}
use Rattle.ooo_value.specs.declared.bound.BoundVariable.{BoundVariable}
use Rattle.ooo_value.specs.declared.bound.ProcessKind.{ProcessKind}
use Rattle.ooo_value.specs.declared.bound.ProcessKind.TheVariants.{Thread, Method}
use Rattle.ooo_code.specs.declared.design.Proc.{Proc}
use Rattle.ooo_code.specs.declared.node.Node.{Node}
use Rattle.ooo_code.specs.declared.node.NodeKind.{NodeKind}
use Rattle.ooo_code.specs.declared.node.NodeKind.TheVariants as kind
use Rattle.ooo_code.specs.declared.segment.SegmentEntry.{SegmentEntry}
use Rattle.ooo_code.specs.declared.segment.SegmentEntry.TheVariants.{Start, After}
use Rattle.ooo_value.specs.declared.bound.BoundEvent.{BoundEvent}
use Rattle.ooo_code.specs.Segments.{EntryWaitsOn, InSegment, StartWaitsOn, entries_of, is_wait, nodes_of, trigger_events, wait_events}
use Rattle.ooo_code.specs.Sound.{FitsNode, IsSound, Scope, scope_of, variable_kind}
use Rattle.ooo_code.specs.Touches as touch
use Rattle.ooo_code.specs.Touches.{numbers_where}
use Rattle.ooo_schedules.specs.Model.{In}
use Rattle.ooo_access.specs.declared.access.Access.{Access}
use Rattle.ooo_dispatch.specs.Boards.{AreRules}
use Rattle.ooo_dispatch.specs.Inside.{AreInside, IsInside}
use Rattle.ooo_dispatch.specs.Rules.{Rules}
use Rattle.ooo_dispatch.proofs.Accessed.{Here, exists_of, fits, here_of, in_contained, own_within, some_is}
use Rattle.ooo_dispatch.proofs.Own.{among, wait_is}

-- a variable of a kind is there
below : (xs : List BoundVariable) (x : ℕ) → IsSome (variable_kind (slice_get xs x)) → x < length xs
below xs x h = at (slice_get xs x) refl h
  where
    at : (o : Option BoundVariable) → slice_get xs x ≡ o → IsSome (variable_kind o) → x < length xs
    at None e k = absurd (let c : false ≡ true = k in cc)
    at (Some v) e k = slice_get_within xs x v e

-- the events that a node of a kind names are there
trigger_below : (names : Scope) (events : List BoundEvent) (k : NodeKind) (e : ℕ) → FitsNode names events k → Contains (trigger_events k) e → e < length events
trigger_below names events (kind.Trigger w) e h c = All-contains (λ x. x < length events) w.events e h.events_are c
trigger_below names events (kind.Set n x) e h c = absurd (in_contained [] e c)
trigger_below names events (kind.Store x i y) e h c = absurd (in_contained [] e c)
trigger_below names events (kind.Test x to) e h c = absurd (in_contained [] e c)
trigger_below names events kind.Goto e h c = absurd (in_contained [] e c)
trigger_below names events (kind.PrintText text) e h c = absurd (in_contained [] e c)
trigger_below names events (kind.PrintValue x) e h c = absurd (in_contained [] e c)
trigger_below names events kind.PrintTime e h c = absurd (in_contained [] e c)
trigger_below names events (kind.Write d x) e h c = absurd (in_contained [] e c)
trigger_below names events (kind.TestAvailable d to) e h c = absurd (in_contained [] e c)
trigger_below names events (kind.TestFree d to) e h c = absurd (in_contained [] e c)
trigger_below names events (kind.Take d n) e h c = absurd (in_contained [] e c)
trigger_below names events (kind.Put d x) e h c = absurd (in_contained [] e c)
trigger_below names events (kind.Notify d t) e h c = absurd (in_contained [] e c)
trigger_below names events (kind.Cancel d) e h c = absurd (in_contained [] e c)
trigger_below names events kind.Stop e h c = absurd (in_contained [] e c)
trigger_below names events (kind.Wait w) e h c = absurd (in_contained [] e c)
trigger_below names events kind.End e h c = absurd (in_contained [] e c)

wait_below : (names : Scope) (events : List BoundEvent) (k : NodeKind) (e : ℕ) → FitsNode names events k → Contains (wait_events k) e → e < length events
wait_below names events (kind.Wait w) e h c = All-contains (λ x. x < length events) w.events e h.events_are c
wait_below names events (kind.Set n x) e h c = absurd (in_contained [] e c)
wait_below names events (kind.Store x i y) e h c = absurd (in_contained [] e c)
wait_below names events (kind.Test x to) e h c = absurd (in_contained [] e c)
wait_below names events kind.Goto e h c = absurd (in_contained [] e c)
wait_below names events (kind.PrintText text) e h c = absurd (in_contained [] e c)
wait_below names events (kind.PrintValue x) e h c = absurd (in_contained [] e c)
wait_below names events kind.PrintTime e h c = absurd (in_contained [] e c)
wait_below names events (kind.Write d x) e h c = absurd (in_contained [] e c)
wait_below names events (kind.TestAvailable d to) e h c = absurd (in_contained [] e c)
wait_below names events (kind.TestFree d to) e h c = absurd (in_contained [] e c)
wait_below names events (kind.Take d n) e h c = absurd (in_contained [] e c)
wait_below names events (kind.Put d x) e h c = absurd (in_contained [] e c)
wait_below names events (kind.Notify d t) e h c = absurd (in_contained [] e c)
wait_below names events (kind.Cancel d) e h c = absurd (in_contained [] e c)
wait_below names events kind.Stop e h c = absurd (in_contained [] e c)
wait_below names events (kind.Trigger w) e h c = absurd (in_contained [] e c)
wait_below names events kind.End e h c = absurd (in_contained [] e c)

module _ (r : Rules) (rules : AreRules r) (sound : IsSound r.design) where
  module _ (g : ℕ) (h : Here r rules sound g) where
    start_below : (k : ProcessKind) (e : ℕ) → h.segment.entry ≡ Start → StartWaitsOn r.design h.process k e → e < length r.design.events
    start_below Thread e is w = All-contains (λ x. x < length r.design.events) h.process.sensitive e (fits r rules sound g h).events w.1
    start_below Method e is (inl c) = All-contains (λ x. x < length r.design.events) h.process.sensitive e (fits r rules sound g h).events c
    start_below Method e is (inr t) =
        let own = own_within r rules sound g h t.number (subst (λ x. InSegment r.design h.process x t.number) (sym is) t.within) in
        trigger_below (scope_of r.design h.process) r.design.events t.node.kind e ((fits r rules sound g h).nodes t.number t.node own t.is).names t.names

    after_below : (m : ℕ) (e : ℕ) → h.segment.entry ≡ After m → IsSomeAnd (slice_get r.design.nodes m) (λ node. Contains (wait_events node.kind) e) → e < length r.design.events
    after_below m e is w =
        let w_is = wait_is r.design h.process (fits r rules sound g h) m (waits_in (subst (λ x. In x (entries_of r.design h.process)) is (in_contained (entries_of r.design h.process) h.segment.entry h.whole.entry))) in
        let c : Contains (wait_events w_is.node.kind) e = subst (λ o. IsSomeAnd o (λ node. Contains (wait_events node.kind) e)) w_is.is w in
        wait_below (scope_of r.design h.process) r.design.events w_is.node.kind e ((fits r rules sound g h).nodes m w_is.node w_is.own w_is.is).names c
      where
        waits_in : In (After m) (entries_of r.design h.process) → In m (numbers_where is_wait h.process.first (nodes_of r.design h.process))
        waits_in (inl k) = absurd cc
        waits_in (inr i) = among m (numbers_where is_wait h.process.first (nodes_of r.design h.process)) i

    entry_below : (entry : SegmentEntry) (e : ℕ) → h.segment.entry ≡ entry → EntryWaitsOn r.design h.process entry e → e < length r.design.events
    entry_below Start e is w = start_below h.process.kind e is w
    entry_below (After m) e is w = after_below m e is w

    inside_here : IsInside r.design h.access
    inside_here = record {
      read = λ x c. below r.design.variables x (exists_of r rules sound g h (touch.Reads x) ((h.accesses.read x).0 c));
      written = λ x c. below r.design.variables x (exists_of r rules sound g h (touch.Writes x) ((h.accesses.written x).0 c));
      signals = λ x c. exists_of r rules sound g h (touch.ReadsSignal x) ((h.accesses.signals_read x).0 c);
      takes = λ x c. exists_of r rules sound g h (touch.HoldsReading x) ((h.accesses.takes x).0 c);
      puts = λ x c. exists_of r rules sound g h (touch.HoldsWriting x) ((h.accesses.puts x).0 c);
      waited = λ e c. entry_below h.segment.entry e refl ((h.accesses.waited e).0 c);
    }

  pub inside : AreInside r
  inside g a is = let h = here_of r rules sound g a is in subst (IsInside r.design) (some_is h.access a (sym h.access_is ∙ is)) (inside_here g h)
