-- The nodes of a statement without statements in it, and of a call up to the body of its function.
use Rattle.std.proofs.Common.{◌≡◌, ℕ, zero, suc, ◌+◌, ◌≤◌, inl, inr, ⊎_elim, List, [], ◌∷◌, ◌++◌, length, Bool, true, false, Option, Some, None, refl, sym, ap, ap₂, ◌∙◌, subst, arith, length-append}
use Rattle.std.specs.Prelude.{slice_get, min, ◌||◌, Contains}
use Rattle.std.specs.List.{list_any}
use Rattle.ooo_lemmas.proofs.Contained.{not_in_none, one_is}
use Rattle.ooo_value.specs.declared.kinds.Kind.{Kind}
use Rattle.ooo_value.specs.declared.operators.Op.{Op}
use Rattle.ooo_code.specs.declared.expression.NodeExpr.{NodeExpr}
use Rattle.ooo_code.specs.declared.expression.NodeExpr.TheVariants as node
use Rattle.ooo_code.specs.declared.node.Node.{Node}
use Rattle.ooo_code.specs.declared.node.NodeKind.{NodeKind}
use Rattle.ooo_code.specs.declared.node.NodeKind.TheVariants as kind
use Rattle.ooo_code.specs.Expressions.{no_value}
use Rattle.ooo_code.specs.Segments.{leads_to}
use Rattle.ooo_code.specs.Touches.{Touch}
use Rattle.ooo_bound.specs.declared.expr.BoundExpr.{BoundExpr}
use Rattle.ooo_bound.specs.declared.expr.BoundTime.{BoundTime}
use Rattle.ooo_bound.specs.declared.expr.BoundTime.TheVariants as time
use Rattle.ooo_bound.specs.declared.expr.BoundWait.{BoundWait}
use Rattle.ooo_bound.specs.declared.model.Bound.{Bound}
use Rattle.ooo_bound.specs.declared.model.BoundFunction.{BoundFunction}
use Rattle.ooo_bound.specs.declared.model.BoundProcess.{BoundProcess}
use Rattle.ooo_bound.specs.declared.stat.BoundItem.{BoundItem}
use Rattle.ooo_bound.specs.declared.stat.BoundItem.TheVariants as item
use Rattle.ooo_bound.specs.declared.stat.BoundRight.TheVariants as right
use Rattle.ooo_bound.specs.declared.stat.BoundSimple.{BoundSimple}
use Rattle.ooo_bound.specs.declared.stat.BoundSimple.TheVariants as simple
use Rattle.ooo_bound.specs.declared.stat.BoundTarget.{BoundTarget}
use Rattle.ooo_bound.specs.declared.stat.BoundTarget.TheVariants as target
use Rattle.ooo_bound.specs.declared.stat.LinedSimple.{LinedSimple}
use Rattle.ooo_activation.specs.Activations.{data_written, variable_kind, channel_kind}
use Rattle.ooo_activation.specs.Items.{Item, Do, Putting, Leave, entered_all}
use Rattle.ooo_activation.specs.Kinds.{simples_in}
use Rattle.ooo_activation.specs.Touches as text
use Rattle.ooo_shapes.specs.declared.around.Around.{Around}
use Rattle.ooo_shapes.specs.Widths.{count_of, kinds_of, params_widths, body_widths, exprs_widths, target_widths, simple_widths}
use Rattle.ooo_shapes.specs.Expressions.{value_slot, index_slot, kind_in, lowered, converted, lowered_wait_time}
use Rattle.ooo_shapes.specs.Simples.{Home, counted, uncounted, put_kind, put_at_kind, aim_kind, wait_kind, lowered_wait, channel_slot, truth, begins, item_kind, item_nodes}
use Rattle.ooo_shapes.specs.Shapes.{Shape, call_kinds, result_kinds, function_widths, inside_call, zero_nodes, argument_nodes, leave_kind, call_shape, simple_shape, body_shape, callee_by, callees_within}
use Rattle.ooo_shapes.specs.Segments.{no_values, call_goes_to, goes_to, call_reads, first_touches, first_triggers, named_events, constant_time, Pause, first_pauses, fixed_time}
use Rattle.ooo_shapes.proofs.Frames.{Within, within_left, within_right, within_same}
use Rattle.ooo_shapes.proofs.Places.{SimplesFound, FunctionFound, CallFound, Holds, HasAt, has_front, has_back, After, after_more, Laid, SimpleAt, LeaveAt, PuttingAt}
use Rattle.ooo_shapes.proofs.Enter.{begins_end, begins_some, zero_full, argument_full, good_body}
use Rattle.ooo_shapes.proofs.Zeros.{count_kinds}
use Rattle.ooo_shapes.proofs.Reading.{wait_reads_same}
use Rattle.ooo_shapes.proofs.Touching.{or_false, nodes_some, set_some, zeros_some, arguments_some, simple_gives, calls_give}
use Rattle.ooo_shapes.proofs.Trees.{marked_kind, in_one, OneWay, one_way, way_twice, two_ways, Tree, Out, Waits, Sets, Goes, Forks, Passes, Rooted, node_some, Does, chain, chain_out, out_chain, chain_pause, chain_trigger, chain_some}
use Rattle.ooo_shapes.proofs.Blocks.{put_goes, put_passes, home, At, BlockAt, Stand, Framed, rest_stands, one_block}

-- ---- kinds that lead one way

put_at_goes : (i : Home) (t : Around) (into : BoundTarget) (e : NodeExpr) (next : ℕ) → OneWay (leads_to (put_at_kind i t into e next) next) next
put_at_goes i t target.Nothing e next = way_twice next
put_at_goes i t (target.Local k n) e next = one_way next
put_at_goes i t (target.Variable x) e next = one_way next
put_at_goes i t (target.Element x j) e next = one_way next
put_at_goes i t (target.Signal c) e next = one_way next

put_at_passes : (i : Home) (t : Around) (into : BoundTarget) (e : NodeExpr) (next : ℕ) → marked_kind (put_at_kind i t into e next) ≡ false
put_at_passes i t target.Nothing e next = refl
put_at_passes i t (target.Local k n) e next = refl
put_at_passes i t (target.Variable x) e next = refl
put_at_passes i t (target.Element x j) e next = refl
put_at_passes i t (target.Signal c) e next = refl

aim_goes : (i : Home) (t : Around) (into : BoundTarget) (next : ℕ) → OneWay (leads_to (aim_kind i t into) next) next
aim_goes i t target.Nothing next = one_way next
aim_goes i t (target.Local k n) next = one_way next
aim_goes i t (target.Variable x) next = one_way next
aim_goes i t (target.Element x j) next = one_way next
aim_goes i t (target.Signal c) next = one_way next

aim_passes : (i : Home) (t : Around) (into : BoundTarget) → marked_kind (aim_kind i t into) ≡ false
aim_passes i t target.Nothing = refl
aim_passes i t (target.Local k n) = refl
aim_passes i t (target.Variable x) = refl
aim_passes i t (target.Element x j) = refl
aim_passes i t (target.Signal c) = refl

item_goes : (t : Around) (x : BoundItem) (next : ℕ) → OneWay (leads_to (item_kind t x) next) next
item_goes t (item.Value e) next = one_way next
item_goes t (item.Text words) next = one_way next
item_goes t item.Time next = one_way next

item_passes : (t : Around) (x : BoundItem) → marked_kind (item_kind t x) ≡ false
item_passes t (item.Value e) = refl
item_passes t (item.Text words) = refl
item_passes t item.Time = refl

-- a constant time is the same in the node
time_fixed : (t : Around) (k : Option BoundTime) → fixed_time (lowered_wait_time t k) ≡ constant_time k
time_fixed t None = refl
time_fixed t (Some (time.Fixed k)) = refl
time_fixed t (Some (time.Amount e scale)) = refl

-- of two ways that join, what is touched on each is touched
both_ways : (k p g f : Bool) → ((k || (p || (g || false))) || (f || false)) ≡ (k || (p || (g || (f || false))))
both_ways true p g f = refl
both_ways false true g f = refl
both_ways false false true f = refl
both_ways false false false f = refl

put_ways : (p g f : Bool) → ((p || (g || false)) || (f || false)) ≡ (p || (g || (f || false)))
put_ways true g f = refl
put_ways false true f = refl
put_ways false false f = refl

no_holds : (k : Option Kind) (slot : ℕ) → Holds k slot [] no_value
no_holds None slot = refl
no_holds (Some k) slot = refl

module _ (b : Bound) (process : BoundProcess) (total : ℕ) (code : List Node) where
  abbrev h : Home
  h = home b process total code

  abbrev Has : ℕ → List Node → Type 0
  Has at is = HasAt b process total code at is

  abbrev AtItems : List Item → ℕ → Type 0
  AtItems items pc = At b process total code items pc

  abbrev RootedAt : Tree → ℕ → Type 0
  RootedAt a pc = Rooted b process total code a pc

  abbrev lined : ℕ → BoundSimple → LinedSimple
  lined line x = record { line = line; simple = x }

  passes : (pc : ℕ) (i : Node) → slice_get code pc ≡ Some i → marked_kind i.kind ≡ false → Passes b process total code pc i
  passes pc i is on = record { is = is; on = on }

  moved : (q r : ℕ) (i : Node) → q ≡ r → slice_get code q ≡ Some i → slice_get code r ≡ Some i
  moved q r i e is = subst (λ q. slice_get code q ≡ Some i) e is

  -- ---- statements with one way

  -- an item whose nodes lead, one after the other, to what remains
  chain_block : (items rest : List Item) (pc : ℕ) (i : Node) (is : List Node) → RootedAt (chain (i ∷ is) (Out rest)) pc → goes_to b items ≡ rest ∷ [] → first_triggers process items ≡ [] → first_pauses b process items ≡ [] → ((test : Touch → Bool) → nodes_some h test (i ∷ is) ≡ list_any test (first_touches b items)) → BlockAt b process total code items pc
  chain_block items rest pc i is r goes triggers pauses touches = record {
    tree = chain (i ∷ is) (Out rest);
    headed = tt;
    rooted = r;
    outs = λ y o. subst (λ ys. Contains ys y) (sym goes) (in_one rest y (chain_out is (Out rest) y o));
    ways = λ y c. out_chain is (Out rest) y (one_is rest y (subst (λ ys. Contains ys y) goes c));
    touches = λ test. chain_some b process total code test (i ∷ is) (Out rest) ∙ or_false (nodes_some h test (i ∷ is)) ∙ touches test;
    names = λ e t. absurd (chain_trigger is (Out rest) e t);
    triggers = λ e c. absurd (not_in_none e (subst (λ es. Contains es e) triggers c));
    waits = λ p w. absurd (chain_pause is (Out rest) p w);
    pauses = λ p c. absurd (not_in_none p (subst (λ ps. Contains ps p) pauses c));
  }

  -- the items of a print
  items_rooted : (t : Around) (rest : List Item) (xs : List BoundItem) (line q next : ℕ) → Has q (item_nodes t xs line q next) → AtItems rest next → RootedAt (chain (item_nodes t xs line q next) (Out rest)) (begins (length xs) q next)
  items_rooted t rest [] line q next has at = at
  items_rooted t rest (x ∷ xs) line q next has at =
      subst (λ r. RootedAt (chain (item_nodes t (x ∷ xs) line q next) (Out rest)) r) (sym (begins_some (length (x ∷ xs)) q next (omega arith)))
      (passes q _ has.0 (item_passes t x), begins (length xs) (q + 1) next, item_goes t x (begins (length xs) (q + 1) next), items_rooted t rest xs line (q + 1) next has.1 at)

  module _ (depth line : ℕ) (t : Around) (rest : List Item) (free pc next : ℕ) (at : AtItems rest next) where
    abbrev NodesOf : BoundSimple → List Node
    NodesOf x = (simple_shape h (callees_within depth h) line x).nodes t free pc next

    abbrev BlockOf : BoundSimple → Type 0
    BlockOf x = Has pc (NodesOf x) → SimplesFound (CallFound b.functions depth) (lined line x ∷ []) → BlockAt b process total code (Do (lined line x) ∷ rest) pc

    -- what the nodes of a statement touch
    touched : (x : BoundSimple) → SimplesFound (CallFound b.functions depth) (lined line x ∷ []) → (test : Touch → Bool) → nodes_some h test (NodesOf x) ≡ list_any test (text.simple_touches b.events (text.callees_within depth b.events b.functions) x)
    touched x f test = simple_gives h test depth (calls_give h test depth) line x f.0 t free pc next

    -- a statement with one node
    single : (x : BoundSimple) (k : NodeKind) → NodesOf x ≡ counted k line next ∷ [] → marked_kind k ≡ false → OneWay (leads_to k next) next → goes_to b (Do (lined line x) ∷ rest) ≡ rest ∷ [] → first_triggers process (Do (lined line x) ∷ rest) ≡ [] → first_pauses b process (Do (lined line x) ∷ rest) ≡ [] → text.simple_touches b.events (text.callees_within depth b.events b.functions) x ≡ first_touches b (Do (lined line x) ∷ rest) → BlockOf x
    single x k e on way goes triggers pauses same has f =
        let is = subst (λ is. Has pc is) e has in
        chain_block (Do (lined line x) ∷ rest) rest pc (counted k line next) [] (passes pc _ is.0 on, next, way, at) goes triggers pauses
        (λ test. sym (ap (nodes_some h test) e) ∙ touched x f test ∙ ap (λ ts. list_any test ts) same)

    update_block : (into : BoundTarget) (o : Op) (e : BoundExpr) → BlockOf (simple.Update into o e)
    update_block (target.Element x i) o e has f =
        let held = node.Slot (value_slot (kind_in b e)) in
        let index = node.Slot (index_slot (kind_in b i)) in
        let first = counted (kind.Set (value_slot (kind_in b e)) (lowered t e)) line (pc + 1) in
        let second = uncounted (kind.Set (index_slot (kind_in b i)) (lowered t i)) line (pc + 2) in
        let third = uncounted (kind.Store x (Some index) (converted (variable_kind b x) (node.Binary o (node.Element x index) held))) line next in
        let rooted : RootedAt (chain (first ∷ second ∷ third ∷ []) (Out rest)) pc = (
          passes pc first has.0 refl,
          pc + 1,
          one_way (pc + 1),
          (
            passes (pc + 1) second has.1.0 refl,
            pc + 2,
            one_way (pc + 2),
            (passes (pc + 2) third (moved (pc + 1 + 1) (pc + 2) third (omega arith) has.1.1.0) refl, next, one_way next, at),
          ),
        ) in
        chain_block (Do (lined line (simple.Update (target.Element x i) o e)) ∷ rest) rest pc first (second ∷ third ∷ []) rooted refl refl refl (touched (simple.Update (target.Element x i) o e) f)
    update_block target.Nothing o e has f = single (simple.Update target.Nothing o e) _ refl refl (way_twice next) refl refl refl refl has f
    update_block (target.Local k n) o e has f = single (simple.Update (target.Local k n) o e) _ refl refl (one_way next) refl refl refl refl has f
    update_block (target.Variable x) o e has f = single (simple.Update (target.Variable x) o e) _ refl refl (one_way next) refl refl refl refl has f
    update_block (target.Signal c) o e has f = single (simple.Update (target.Signal c) o e) _ refl refl (one_way next) refl refl refl refl has f

    print_block : (xs : List BoundItem) → BlockOf (simple.Print xs)
    print_block xs has f =
        chain_block (Do (lined line (simple.Print xs)) ∷ rest) rest pc _ (item_nodes t xs line (pc + 1) next)
        (passes pc _ has.0 refl, begins (length xs) (pc + 1) next, one_way (begins (length xs) (pc + 1) next), items_rooted t rest xs line (pc + 1) next has.1 at)
        refl refl refl (touched (simple.Print xs) f)

    -- ---- waits

    wait_block : (w : BoundWait) → BlockOf (simple.Wait w)
    wait_block w has f =
        let items = Do (lined line (simple.Wait w)) ∷ rest in
        let pause : Pause = record { line = line; time = constant_time w.time; events = named_events process w; behind = rest } in
        record {
          tree = Waits (counted (kind.Wait (lowered_wait h t w)) line next) pause;
          headed = tt;
          rooted = record { is = has.0; line = refl; waits = (time_fixed t w.time, refl); behind = at };
          outs = λ y o. absurd o;
          ways = λ y c. absurd (not_in_none y c);
          touches = λ test. ap (λ ts. list_any test ts) (wait_reads_same t w.time);
          names = λ e t. absurd t;
          triggers = λ e c. absurd (not_in_none e c);
          waits = λ p o. in_one pause p o;
          pauses = λ p c. one_is pause p c;
        }

    trigger_block : (w : BoundWait) → BlockOf (simple.NextTrigger w)
    trigger_block w has f = record {
      tree = Sets (counted (kind.Trigger (lowered_wait h t w)) line next) (Out rest);
      headed = tt;
      rooted = (record { is = has.0; on = refl }, next, one_way next, at);
      outs = λ y o. in_one rest y o;
      ways = λ y c. one_is rest y c;
      touches = λ test. touched (simple.NextTrigger w) f test;
      names = λ e t. ⊎_elim (λ c. c) (λ x. absurd x) t;
      triggers = λ e c. inl c;
      waits = λ p o. absurd o;
      pauses = λ p c. absurd (not_in_none p c);
    }

    -- ---- statements of fifos

    read_block : (into : BoundTarget) (c : ℕ) → AtItems (Do (lined line (simple.Assign into (right.Read c))) ∷ rest) pc → BlockOf (simple.Assign into (right.Read c))
    read_block into c again has f =
        let items = Do (lined line (simple.Assign into (right.Read c))) ∷ rest in
        let pause : Pause = record { line = line; time = None; events = data_written b c; behind = items } in
        let tests = counted (kind.TestAvailable c (pc + 1)) line (pc + 2) in
        let waits = uncounted (wait_kind (data_written b c)) line pc in
        let takes = uncounted (kind.Take c (channel_slot h c)) line (pc + 3) in
        let puts = uncounted (put_kind h t into (node.Slot (channel_slot h c)) next) line next in
        record {
          tree = Forks tests (Goes takes (Goes puts (Out rest))) (Waits waits pause);
          headed = tt;
          rooted = (
            passes pc tests has.0 refl,
            pc + 2,
            pc + 1,
            two_ways (pc + 2) (pc + 1),
            (
              passes (pc + 2) takes (moved (pc + 1 + 1) (pc + 2) takes (omega arith) has.1.1.0) refl,
              pc + 3,
              one_way (pc + 3),
              (
                passes (pc + 3) puts (moved (pc + 1 + 1 + 1) (pc + 3) puts (omega arith) has.1.1.1.0) (put_passes h t into (node.Slot (channel_slot h c)) next),
                next,
                put_goes h t into (node.Slot (channel_slot h c)) next,
                at,
              ),
            ),
            record { is = has.1.0; line = refl; waits = (refl, refl); behind = again },
          );
          outs = λ y o. in_one rest y (⊎_elim (λ e. e) (λ e. absurd e) o);
          ways = λ y g. inl (one_is rest y g);
          touches = λ test.
              ap (λ x. node_some b process total code test tests || x) (or_false (nodes_some h test (takes ∷ puts ∷ []))) ∙ touched (simple.Assign into (right.Read c)) f test;
          names = λ e t. absurd (⊎_elim (λ x. x) (λ x. x) t);
          triggers = λ e c. absurd (not_in_none e c);
          waits = λ p o. in_one pause p (⊎_elim (λ e. absurd e) (λ e. e) o);
          pauses = λ p g. inr (one_is pause p g);
        }

    nb_read_block : (into : BoundTarget) (c : ℕ) (x : BoundTarget) → BlockOf (simple.Assign into (right.NbRead c x))
    nb_read_block into c x has f =
        let aims = counted (aim_kind h t x) line (pc + 1) in
        let tests = uncounted (kind.TestAvailable c (pc + 5)) line (pc + 2) in
        let takes = uncounted (kind.Take c (channel_slot h c)) line (pc + 3) in
        let puts = uncounted (put_at_kind h t x (node.Slot (channel_slot h c)) (pc + 4)) line (pc + 4) in
        let yes = uncounted (put_kind h t into (truth true) next) line next in
        let no = uncounted (put_kind h t into (truth false) next) line next in
        record {
          tree = Goes aims (Forks tests (Goes takes (Goes puts (Goes yes (Out rest)))) (Goes no (Out rest)));
          headed = tt;
          rooted = (
            passes pc aims has.0 (aim_passes h t x),
            pc + 1,
            aim_goes h t x (pc + 1),
            (
              passes (pc + 1) tests has.1.0 refl,
              pc + 2,
              pc + 5,
              two_ways (pc + 2) (pc + 5),
              (
                passes (pc + 2) takes (moved (pc + 1 + 1) (pc + 2) takes (omega arith) has.1.1.0) refl,
                pc + 3,
                one_way (pc + 3),
                (
                  passes (pc + 3) puts (moved (pc + 1 + 1 + 1) (pc + 3) puts (omega arith) has.1.1.1.0) (put_at_passes h t x (node.Slot (channel_slot h c)) (pc + 4)),
                  pc + 4,
                  put_at_goes h t x (node.Slot (channel_slot h c)) (pc + 4),
                  (
                    passes (pc + 4) yes (moved (pc + 1 + 1 + 1 + 1) (pc + 4) yes (omega arith) has.1.1.1.1.0) (put_passes h t into (truth true) next),
                    next,
                    put_goes h t into (truth true) next,
                    at,
                  ),
                ),
              ),
              (
                passes (pc + 5) no (moved (pc + 1 + 1 + 1 + 1 + 1) (pc + 5) no (omega arith) has.1.1.1.1.1.0) (put_passes h t into (truth false) next),
                next,
                put_goes h t into (truth false) next,
                at,
              ),
            ),
          );
          outs = λ y o. in_one rest y (⊎_elim (λ e. e) (λ e. e) o);
          ways = λ y g. inl (one_is rest y g);
          touches = λ test.
              ap (λ z. node_some b process total code test aims || (node_some b process total code test tests || z)) (both_ways (node_some b process total code test takes) (node_some b process total code test puts) (node_some b process total code test yes) (node_some b process total code test no))
              ∙ touched (simple.Assign into (right.NbRead c x)) f test;
          names = λ e t. absurd (⊎_elim (λ x. x) (λ x. x) t);
          triggers = λ e c. absurd (not_in_none e c);
          waits = λ p o. absurd (⊎_elim (λ e. e) (λ e. e) o);
          pauses = λ p g. absurd (not_in_none p g);
        }

    nb_write_block : (into : BoundTarget) (c : ℕ) (e : BoundExpr) → BlockOf (simple.Assign into (right.NbWrite c e))
    nb_write_block into c e has f =
        let sets = counted (kind.Set (channel_slot h c) (converted (channel_kind b c) (lowered t e))) line (pc + 1) in
        let tests = uncounted (kind.TestFree c (pc + 4)) line (pc + 2) in
        let puts = uncounted (kind.Put c (node.Slot (channel_slot h c))) line (pc + 3) in
        let yes = uncounted (put_kind h t into (truth true) next) line next in
        let no = uncounted (put_kind h t into (truth false) next) line next in
        record {
          tree = Goes sets (Forks tests (Goes puts (Goes yes (Out rest))) (Goes no (Out rest)));
          headed = tt;
          rooted = (
            passes pc sets has.0 refl,
            pc + 1,
            one_way (pc + 1),
            (
              passes (pc + 1) tests has.1.0 refl,
              pc + 2,
              pc + 4,
              two_ways (pc + 2) (pc + 4),
              (
                passes (pc + 2) puts (moved (pc + 1 + 1) (pc + 2) puts (omega arith) has.1.1.0) refl,
                pc + 3,
                one_way (pc + 3),
                (
                  passes (pc + 3) yes (moved (pc + 1 + 1 + 1) (pc + 3) yes (omega arith) has.1.1.1.0) (put_passes h t into (truth true) next),
                  next,
                  put_goes h t into (truth true) next,
                  at,
                ),
              ),
              (
                passes (pc + 4) no (moved (pc + 1 + 1 + 1 + 1) (pc + 4) no (omega arith) has.1.1.1.1.0) (put_passes h t into (truth false) next),
                next,
                put_goes h t into (truth false) next,
                at,
              ),
            ),
          );
          outs = λ y o. in_one rest y (⊎_elim (λ e. e) (λ e. e) o);
          ways = λ y g. inl (one_is rest y g);
          touches = λ test.
              ap (λ z. node_some b process total code test sets || (node_some b process total code test tests || z)) (put_ways (node_some b process total code test puts) (node_some b process total code test yes) (node_some b process total code test no))
              ∙ touched (simple.Assign into (right.NbWrite c e)) f test;
          names = λ e t. absurd (⊎_elim (λ x. x) (λ x. x) t);
          triggers = λ e c. absurd (not_in_none e c);
          waits = λ p o. absurd (⊎_elim (λ e. e) (λ e. e) o);
          pauses = λ p g. absurd (not_in_none p g);
        }

    -- the value of a blocking write
    write_block : (c : ℕ) (e : BoundExpr) → AtItems (Putting line c no_value ∷ rest) (pc + 1) → BlockOf (simple.Write c e)
    write_block c e putting has f =
        one_block b process total code (Do (lined line (simple.Write c e)) ∷ rest) (Putting line c no_value ∷ rest) pc (pc + 1) (uncounted (kind.Set (channel_slot h c) (converted (channel_kind b c) (lowered t e))) line (pc + 1)) has.0 refl (one_way (pc + 1)) putting refl refl refl
        (λ test. or_false _ ∙ set_some h test t c e)

  -- ---- calls

  -- 0 for all slots
  zeros_rooted : (line slot : ℕ) (ks : List Kind) (q : ℕ) (a : Tree) → Has q (zero_nodes line slot ks q) → RootedAt a (q + length ks) → RootedAt (chain (zero_nodes line slot ks q) a) q
  zeros_rooted line slot [] q a has r = let e : q + 0 ≡ q = omega arith in subst (λ q. RootedAt a q) e r
  zeros_rooted line slot (k ∷ ks) q a has r =
      let e : q + length (k ∷ ks) ≡ q + 1 + length ks = omega arith in
      (passes q _ has.0 refl, q + 1, one_way (q + 1), zeros_rooted line (slot + 1) ks (q + 1) a has.1 (subst (λ q. RootedAt a q) e r))

  -- the arguments
  args_rooted : (t u : Around) (line n : ℕ) (ks : List Kind) (es : List BoundExpr) (q : ℕ) (a : Tree) → Has q (argument_nodes t u line n ks es q) → RootedAt a (q + min (length ks) (length es)) → RootedAt (chain (argument_nodes t u line n ks es q) a) q
  args_rooted t u line n [] [] q a has r = let e : q + min 0 0 ≡ q = omega arith in subst (λ q. RootedAt a q) e r
  args_rooted t u line n [] (x ∷ es) q a has r = let e : q + min 0 (length (x ∷ es)) ≡ q = omega arith in subst (λ q. RootedAt a q) e r
  args_rooted t u line n (k ∷ ks) [] q a has r = let e : q + min (length (k ∷ ks)) 0 ≡ q = omega arith in subst (λ q. RootedAt a q) e r
  args_rooted t u line n (k ∷ ks) (x ∷ es) q a has r =
      let e : q + min (length (k ∷ ks)) (length (x ∷ es)) ≡ q + 1 + min (length ks) (length es) = omega arith in
      (passes q _ has.0 refl, q + 1, one_way (q + 1), args_rooted t u line (n + 1) ks es (q + 1) a has.1 (subst (λ q. RootedAt a q) e r))

  module _ (depth line : ℕ) (into : BoundTarget) (args : List BoundExpr) (fn : BoundFunction) (t : Around) (rest : List Item) (free pc next : ℕ) (found : SimplesFound (CallFound b.functions depth) (simples_in fn.body)) (has : HasAt b process total code pc ((call_shape (home b process total code) line into args (Some (record { function = fn; body = body_shape (home b process total code) (callees_within depth (home b process total code)) fn.body }))).nodes t free pc next)) (after : After b process total code (pc + (1 + (length (call_kinds fn) + (min (length fn.params) (length args) + ((body_shape (home b process total code) (callees_within depth (home b process total code)) fn.body).size + 1))))) next) (room : free + (length (call_kinds fn) + length (body_shape (home b process total code) (callees_within depth (home b process total code)) fn.body).slots) ≤ total) (above : t.base + count_of t.widths ≤ free) (wi : Within (target_widths into) t.widths) (f : Framed b process total code t) (p : Stand b process total code t rest next) where
    abbrev body : Shape
    body = body_shape h (callees_within depth h) fn.body

    abbrev zeros : ℕ
    zeros = length (call_kinds fn)

    abbrev given : ℕ
    given = min (length fn.params) (length args)

    abbrev args_at : ℕ
    args_at = pc + 1 + zeros

    abbrev body_at : ℕ
    body_at = pc + 1 + zeros + given

    abbrev leave : ℕ
    leave = body_at + body.size

    abbrev u : Around
    u = inside_call fn free leave

    abbrev first_nodes : List Node
    first_nodes = zero_nodes line free (call_kinds fn) (pc + 1)

    abbrev args_nodes : List Node
    args_nodes = argument_nodes t u line 0 fn.params args args_at

    abbrev body_nodes : List Node
    body_nodes = body.nodes u (free + zeros) body_at leave

    abbrev last : List Node
    last = uncounted (leave_kind h t into fn.result free next) line next ∷ []

    zeros_has : Has (pc + 1) first_nodes
    zeros_has = has_front b process total code (pc + 1) first_nodes (args_nodes ++ (body_nodes ++ last)) has.1

    args_has : Has args_at (args_nodes ++ (body_nodes ++ last))
    args_has = subst (λ k. Has (pc + 1 + k) (args_nodes ++ (body_nodes ++ last))) (zero_full line free (call_kinds fn) (pc + 1)) (has_back b process total code (pc + 1) first_nodes (args_nodes ++ (body_nodes ++ last)) has.1)

    body_has : Has body_at (body_nodes ++ last)
    body_has = subst (λ k. Has (args_at + k) (body_nodes ++ last)) (argument_full t u line 0 fn.params args args_at) (has_back b process total code args_at args_nodes (body_nodes ++ last) args_has)

    last_has : Has leave last
    last_has = subst (λ k. Has (body_at + k) last) ((good_body b process total code [] depth fn.body).full u (free + zeros) body_at leave) (has_back b process total code body_at body_nodes last body_has)

    -- how many slots are at 0
    zeros_are : zeros ≡ length (result_kinds fn.result) + count_of (function_widths fn)
    zeros_are = length-append (result_kinds fn.result) (kinds_of (function_widths fn)) ∙ ap (λ k. length (result_kinds fn.result) + k) (count_kinds (function_widths fn))

    laid : Laid b process total code depth body (body_widths fn.body) (simples_in fn.body) u (free + zeros) body_at leave
    laid = record {
      within = within_right (params_widths 0 fn.params) (body_widths fn.body) u.widths (within_same u.widths);
      found = found;
      has = has_front b process total code body_at body_nodes last body_has;
      after = inl (omega arith);
      room = omega (arith, room);
      above = omega (arith, zeros_are);
    }

    -- what remains as the body begins
    abbrev items : List Item
    items = entered_all fn.body (Leave line into fn.result no_value no_values ∷ rest)

    -- the end of the function
    at_leave : LeaveAt b process total code line into fn.result no_value no_values u t next leave []
    at_leave = record {
      is_node = last_has.0;
      after = after_more b process total code (leave + 1) (pc + (1 + (zeros + (given + (body.size + 1))))) next (omega arith) after;
      frame = f;
      within = wi;
      below = above;
      own = refl;
      result = refl;
      holds = no_holds fn.result free;
      break_to = refl;
      continue_to = refl;
      return_to = refl;
    }

    body_stands : AtItems items body_at
    body_stands =
        let placed = (good_body b process total code [] depth fn.body).enters u (free + zeros) body_at leave (Leave line into fn.result no_value no_values ∷ rest) laid (next, t, at_leave, p) in
        let frame : Framed b process total code u = record { same = λ k n lt. refl; within = omega (arith, room, zeros_are); low = omega (arith, f.low, above) } in
        rest_stands b process total code u items body_at (subst (λ q. Stand b process total code u items q) (begins_end body.size body_at) placed) frame

    call_tree : Does b process total code (items ∷ []) (text.arguments_read fn.params args) [] [] pc
    call_tree = record {
      tree = Goes (counted kind.Goto line (pc + 1)) (chain first_nodes (chain args_nodes (Out items)));
      headed = tt;
      rooted = (
        passes pc _ has.0 refl,
        pc + 1,
        one_way (pc + 1),
        zeros_rooted line free (call_kinds fn) (pc + 1) (chain args_nodes (Out items)) zeros_has
            (args_rooted t u line 0 fn.params args args_at (Out items) (has_front b process total code args_at args_nodes (body_nodes ++ last) args_has) body_stands),
      );
      outs = λ y o. in_one items y (chain_out args_nodes (Out items) y (chain_out first_nodes (chain args_nodes (Out items)) y o));
      ways = λ y c. out_chain first_nodes (chain args_nodes (Out items)) y (out_chain args_nodes (Out items) y (one_is items y c));
      touches = λ test.
          chain_some b process total code test first_nodes (chain args_nodes (Out items))
          ∙ ap₂ (λ x y. x || y) (zeros_some h test line free (call_kinds fn) (pc + 1)) (chain_some b process total code test args_nodes (Out items))
          ∙ or_false (nodes_some h test args_nodes)
          ∙ arguments_some h test t u line 0 fn.params args args_at;
      names = λ e t. absurd (chain_trigger args_nodes (Out items) e (chain_trigger first_nodes (chain args_nodes (Out items)) e t));
      triggers = λ e c. absurd (not_in_none e c);
      waits = λ q w. absurd (chain_pause args_nodes (Out items) q (chain_pause first_nodes (chain args_nodes (Out items)) q w));
      pauses = λ q c. absurd (not_in_none q c);
    }

  -- a call of a function that is looked up
  call_found : (k line : ℕ) (into : BoundTarget) (args : List BoundExpr) (o : Option BoundFunction) (t : Around) (rest : List Item) (free pc next : ℕ) → FunctionFound (CallFound b.functions k) o → Within (target_widths into) t.widths → Has pc ((call_shape h line into args (callee_by (body_shape h (callees_within k h)) o)).nodes t free pc next) → After b process total code (pc + (call_shape h line into args (callee_by (body_shape h (callees_within k h)) o)).size) next → free + length (call_shape h line into args (callee_by (body_shape h (callees_within k h)) o)).slots ≤ total → t.base + count_of t.widths ≤ free → Framed b process total code t → Stand b process total code t rest next → Does b process total code (call_goes_to o line into rest) (call_reads o args) [] [] pc
  call_found k line into args None t rest free pc next found wi has after room above f p = absurd found
  call_found k line into args (Some fn) t rest free pc next found wi has after room above f p =
      let c = body_shape h (callees_within k h) fn.body in
      call_tree k line into args fn t rest free pc next found has after (omega (arith, room, length-append (call_kinds fn) c.slots)) above wi f p

  call_block : (depth line : ℕ) (into : BoundTarget) (args : List BoundExpr) (g : ℕ) (t : Around) (rest : List Item) (free pc next : ℕ) → CallFound b.functions depth g → Within (target_widths into) t.widths → Has pc ((call_shape h line into args (callees_within depth h g)).nodes t free pc next) → After b process total code (pc + (call_shape h line into args (callees_within depth h g)).size) next → free + length (call_shape h line into args (callees_within depth h g)).slots ≤ total → t.base + count_of t.widths ≤ free → Framed b process total code t → Stand b process total code t rest next → BlockAt b process total code (Do (lined line (simple.Assign into (right.Call g args))) ∷ rest) pc
  call_block zero line into args g t rest free pc next found wi has after room above f p = absurd found
  call_block (suc k) line into args g t rest free pc next found wi has after room above f p =
      call_found k line into args (slice_get b.functions g) t rest free pc next found wi has after room above f p

  -- ---- every statement without statements in it

  simple_block : (depth line : ℕ) (x : BoundSimple) (t : Around) (rest : List Item) (free pc next : ℕ) → Laid b process total code depth (simple_shape h (callees_within depth h) line x) (simple_widths x) (lined line x ∷ []) t free pc next → Stand b process total code t rest next → Framed b process total code t → AtItems (Do (lined line x) ∷ rest) pc → BlockAt b process total code (Do (lined line x) ∷ rest) pc
  simple_block depth line (simple.Assign into (right.Call g args)) t rest free pc next l p f again =
      call_block depth line into args g t rest free pc next l.found.0 (within_left (target_widths into) (exprs_widths args) t.widths l.within) l.has l.after l.room l.above f p
  simple_block depth line (simple.Assign into (right.Value e)) t rest free pc next l p f again =
      single depth line t rest free pc next (rest_stands b process total code t rest next p f) (simple.Assign into (right.Value e)) (put_kind h t into (lowered t e) next) refl (put_passes h t into (lowered t e) next) (put_goes h t into (lowered t e) next) refl refl refl refl l.has l.found
  simple_block depth line (simple.Assign into (right.Read c)) t rest free pc next l p f again =
      read_block depth line t rest free pc next (rest_stands b process total code t rest next p f) into c again l.has l.found
  simple_block depth line (simple.Assign into (right.NbRead c x)) t rest free pc next l p f again =
      nb_read_block depth line t rest free pc next (rest_stands b process total code t rest next p f) into c x l.has l.found
  simple_block depth line (simple.Assign into (right.NbWrite c e)) t rest free pc next l p f again =
      nb_write_block depth line t rest free pc next (rest_stands b process total code t rest next p f) into c e l.has l.found
  simple_block depth line (simple.Update into o e) t rest free pc next l p f again =
      update_block depth line t rest free pc next (rest_stands b process total code t rest next p f) into o e l.has l.found
  simple_block depth line (simple.Write c e) t rest free pc next l p f again =
      let putting : PuttingAt b process total code line c no_value [] next (pc + 1) = record {
        wait_to = pc + 2;
        put_to = pc + 3;
        tests = l.has.1.0;
        waits = moved (pc + 1 + 1) (pc + 2) _ (omega arith) l.has.1.1.0;
        puts = moved (pc + 1 + 1 + 1) (pc + 3) _ (omega arith) l.has.1.1.1.0;
        after = after_more b process total code (pc + 3 + 1) (pc + 4) next (omega arith) l.after;
        holds = refl;
      } in
      write_block depth line t rest free pc next (rest_stands b process total code t rest next p f) c e (record { around = t; place = (next, putting, p); frame = f }) l.has l.found
  simple_block depth line (simple.Notify e k) t rest free pc next l p f again =
      single depth line t rest free pc next (rest_stands b process total code t rest next p f) (simple.Notify e k) _ refl refl (one_way next) refl refl refl refl l.has l.found
  simple_block depth line (simple.Cancel e) t rest free pc next l p f again =
      single depth line t rest free pc next (rest_stands b process total code t rest next p f) (simple.Cancel e) _ refl refl (one_way next) refl refl refl refl l.has l.found
  simple_block depth line (simple.Wait w) t rest free pc next l p f again =
      wait_block depth line t rest free pc next (rest_stands b process total code t rest next p f) w l.has l.found
  simple_block depth line (simple.NextTrigger w) t rest free pc next l p f again =
      trigger_block depth line t rest free pc next (rest_stands b process total code t rest next p f) w l.has l.found
  simple_block depth line simple.Stop t rest free pc next l p f again =
      single depth line t rest free pc next (rest_stands b process total code t rest next p f) simple.Stop kind.Stop refl refl (one_way next) refl refl refl refl l.has l.found
  simple_block depth line (simple.Print xs) t rest free pc next l p f again =
      print_block depth line t rest free pc next (rest_stands b process total code t rest next p f) xs l.has l.found

  pub do_block : (x : LinedSimple) (t : Around) (rest : List Item) (pc next : ℕ) → SimpleAt b process total code x t pc next → Stand b process total code t rest next → Framed b process total code t → BlockAt b process total code (Do x ∷ rest) pc
  do_block x t rest pc next s p f =
      simple_block s.depth x.line x.simple t rest s.free pc next s.laid p f (rest_stands b process total code t (Do x ∷ rest) pc (next, s, p) f)
