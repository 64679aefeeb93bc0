-- The nodes of a test, a jump, the end of a function or of a body, and of a blocking write that has its value.
use Rattle.std.proofs.Common.{◌≡◌, ℕ, inl, inr, ⊎_elim, List, [], ◌∷◌, Bool, true, false, Option, Some, None, refl, sym, ap, ◌∙◌, subst}
use Rattle.std.specs.Prelude.{slice_get, ◌||◌, Contains}
use Rattle.std.specs.List.{list_any}
use Rattle.ooo_lemmas.proofs.Contained.{not_in_none, one_is}
use Rattle.ooo_value.specs.declared.kinds.Kind.{Kind}
use Rattle.ooo_value.specs.declared.values.Value.{Value}
use Rattle.ooo_code.specs.declared.expression.NodeExpr.{NodeExpr}
use Rattle.ooo_code.specs.declared.expression.NodeExpr.TheVariants as node
use Rattle.ooo_code.specs.declared.node.Node.{Node}
use Rattle.ooo_code.specs.declared.node.NodeKind.{NodeKind}
use Rattle.ooo_code.specs.declared.node.NodeKind.TheVariants as kind
use Rattle.ooo_code.specs.Segments.{leads_to, successors}
use Rattle.ooo_code.specs.Touches.{Touch, HoldsWriting, numbers_where, is_data_written, notified_next}
use Rattle.ooo_bound.specs.declared.expr.BoundExpr.{BoundExpr}
use Rattle.ooo_bound.specs.declared.model.Bound.{Bound}
use Rattle.ooo_bound.specs.declared.model.BoundProcess.{BoundProcess}
use Rattle.ooo_bound.specs.declared.stat.BoundStat.{BoundStat}
use Rattle.ooo_bound.specs.declared.stat.BoundTarget.{BoundTarget}
use Rattle.ooo_bound.specs.declared.stat.BoundTarget.TheVariants as target
use Rattle.ooo_activation.specs.Activations.{data_read, returned}
use Rattle.ooo_activation.specs.Items.{Loop, Item, Putting, Choose, Check, Again, Break, Continue, Return, Leave, entered, entered_if, after_loop, at_loop}
use Rattle.ooo_activation.specs.Locals.{Locals}
use Rattle.ooo_shapes.specs.declared.around.Around.{Around}
use Rattle.ooo_shapes.specs.Expressions.{lowered, converted}
use Rattle.ooo_shapes.specs.Simples.{Home, counted, uncounted, put_kind, wait_kind, channel_slot, begins}
use Rattle.ooo_shapes.specs.Shapes.{leave_kind, inside, test_or_true, return_kind}
use Rattle.ooo_shapes.specs.Segments.{no_values, goes_to, first_touches, Pause, first_triggers, first_pauses}
use Rattle.ooo_shapes.proofs.Frames.{Frame}
use Rattle.ooo_shapes.proofs.Places.{h, LoopAt, ChooseAt, LeaveAt, PuttingAt, CheckAt, Place, stands, after_break, after_continue, branch_shape, branch_widths, branch_simples}
use Rattle.ooo_shapes.proofs.Enter.{LaidAt, good}
use Rattle.ooo_shapes.proofs.Reading.{reads_same, test_reads}
use Rattle.ooo_shapes.proofs.Touching.{or_false, put_slot, leave_some, return_some}
use Rattle.ooo_shapes.proofs.Returns.{no_result, return_kept}
use Rattle.ooo_shapes.proofs.Trees.{marked_kind, in_one, two_of, in_two, OneWay, one_way, way_twice, two_ways, Out, Ends, Waits, Goes, Forks, StandsAt, tree_some, Block}

-- ---- kinds that lead one way

pub put_goes : (i : Home) (t : Around) (into : BoundTarget) (v : NodeExpr) (next : ℕ) → OneWay (leads_to (put_kind i t into v next) next) next
put_goes i t target.Nothing v next = way_twice next
put_goes i t (target.Local k n) v next = one_way next
put_goes i t (target.Variable x) v next = one_way next
put_goes i t (target.Element x e) v next = one_way next
put_goes i t (target.Signal c) v next = one_way next

pub put_passes : (i : Home) (t : Around) (into : BoundTarget) (v : NodeExpr) (next : ℕ) → marked_kind (put_kind i t into v next) ≡ false
put_passes i t target.Nothing v next = refl
put_passes i t (target.Local k n) v next = refl
put_passes i t (target.Variable x) v next = refl
put_passes i t (target.Element x e) v next = refl
put_passes i t (target.Signal c) v next = refl

leave_goes : (i : Home) (t : Around) (into : BoundTarget) (k : Option Kind) (free next : ℕ) → OneWay (leads_to (leave_kind i t into k free next) next) next
leave_goes i t target.Nothing k free next = one_way next
leave_goes i t (target.Local j n) k free next = one_way next
leave_goes i t (target.Variable x) k free next = one_way next
leave_goes i t (target.Element x e) k free next = one_way next
leave_goes i t (target.Signal c) k free next = one_way next

leave_passes : (i : Home) (t : Around) (into : BoundTarget) (k : Option Kind) (free next : ℕ) → marked_kind (leave_kind i t into k free next) ≡ false
leave_passes i t target.Nothing k free next = refl
leave_passes i t (target.Local j n) k free next = refl
leave_passes i t (target.Variable x) k free next = refl
leave_passes i t (target.Element x e) k free next = refl
leave_passes i t (target.Signal c) k free next = refl

-- a `return`, by what its function gives
abbrev given_kind : Around → BoundExpr → Option Kind → NodeKind
given_kind t e r = elim r [ None ↦ kind.Test (lowered t e) t.return_to | Some k ↦ kind.Set t.result_slot (converted k (lowered t e)) ]

given_goes : (t : Around) (e : BoundExpr) (r : Option Kind) → OneWay (leads_to (given_kind t e r) t.return_to) t.return_to
given_goes t e None = way_twice t.return_to
given_goes t e (Some k) = one_way t.return_to

given_passes : (t : Around) (e : BoundExpr) (r : Option Kind) → marked_kind (given_kind t e r) ≡ false
given_passes t e None = refl
given_passes t e (Some k) = refl

return_goes : (t : Around) (e : Option BoundExpr) → OneWay (leads_to (return_kind t e) t.return_to) t.return_to
return_goes t None = one_way t.return_to
return_goes t (Some e) = given_goes t e t.result

return_passes : (t : Around) (e : Option BoundExpr) → marked_kind (return_kind t e) ≡ false
return_passes t None = refl
return_passes t (Some e) = given_passes t e t.result

put_bool : (w n : Bool) → ((w || false) || (((w || n) || false) || false)) ≡ (w || n)
put_bool true n = refl
put_bool false true = refl
put_bool false false = refl

module _ (b : Bound) (process : BoundProcess) (total : ℕ) (code : List Node) where
  abbrev pub home : Home
  home = h b process total code

  abbrev pub At : List Item → ℕ → Type 0
  At items pc = StandsAt b process total code items pc

  abbrev pub BlockAt : List Item → ℕ → Type 0
  BlockAt items pc = Block b process total code items pc

  abbrev pub Stand : Around → List Item → ℕ → Type 0
  Stand t items pc = Place b process total code t [] items pc

  abbrev pub Framed : Around → Type 0
  Framed t = Frame total t no_values []

  -- what stands behind an item
  pub rest_stands : (t : Around) (rest : List Item) (next : ℕ) → Stand t rest next → Framed t → At rest next
  rest_stands t rest next p f = stands b process total code t rest no_values [] next p f

  -- a loop's body has the frame of what stands around it
  pub frame_in : (u : Around) (next pc : ℕ) → Framed u → Framed (inside u next pc)
  frame_in u next pc f = record { same = f.same; within = f.within; low = f.low }

  -- ---- one node, which leads one way

  -- an item whose only node leads to what remains
  pub one_block : (items rest : List Item) (pc q : ℕ) (i : Node) → slice_get code pc ≡ Some i → marked_kind i.kind ≡ false → OneWay (successors i) q → At rest q → goes_to b items ≡ rest ∷ [] → first_triggers process items ≡ [] → first_pauses b process items ≡ [] → ((test : Touch → Bool) → tree_some b process total code test (Goes i (Out rest)) ≡ list_any test (first_touches b items)) → BlockAt items pc
  one_block items rest pc q i is on way at goes triggers pauses touches = record {
    tree = Goes i (Out rest);
    headed = tt;
    rooted = (record { is = is; on = on }, q, way, at);
    outs = λ y o. subst (λ ys. Contains ys y) (sym goes) (in_one rest y o);
    ways = λ y c. one_is rest y (subst (λ ys. Contains ys y) goes c);
    touches = touches;
    names = λ e t. absurd t;
    triggers = λ e c. absurd (not_in_none e (subst (λ es. Contains es e) triggers c));
    waits = λ p w. absurd w;
    pauses = λ p c. absurd (not_in_none p (subst (λ ps. Contains ps p) pauses c));
  }

  -- ---- jumps and ends

  -- the end of a body
  pub end_block : (pc : ℕ) → slice_get code pc ≡ Some (uncounted kind.End 0 pc) → BlockAt [] pc
  end_block pc is = record {
    tree = Ends (uncounted kind.End 0 pc);
    headed = tt;
    rooted = (record { is = is; on = refl }, λ m c. not_in_none m c);
    outs = λ y o. absurd o;
    ways = λ y c. absurd (not_in_none y c);
    touches = λ test. refl;
    names = λ e t. absurd t;
    triggers = λ e c. absurd (not_in_none e c);
    waits = λ p w. absurd w;
    pauses = λ p c. absurd (not_in_none p c);
  }

  pub break_block : (line : ℕ) (t : Around) (rest : List Item) (pc next : ℕ) → slice_get code pc ≡ Some (counted kind.Goto line t.break_to) → Stand t rest next → Framed t → BlockAt (Break line ∷ rest) pc
  break_block line t rest pc next is p f =
      one_block (Break line ∷ rest) (after_loop rest) pc t.break_to (counted kind.Goto line t.break_to) is refl (one_way t.break_to)
      (after_break b process total code t no_values [] rest next p f) refl refl refl (λ test. refl)

  pub continue_block : (line : ℕ) (t : Around) (rest : List Item) (pc next : ℕ) → slice_get code pc ≡ Some (counted kind.Goto line t.continue_to) → Stand t rest next → Framed t → BlockAt (Continue line ∷ rest) pc
  continue_block line t rest pc next is p f =
      one_block (Continue line ∷ rest) (at_loop rest) pc t.continue_to (counted kind.Goto line t.continue_to) is refl (one_way t.continue_to)
      (after_continue b process total code t no_values [] rest next p f) refl refl refl (λ test. refl)

  pub return_block : (line : ℕ) (e : Option BoundExpr) (t : Around) (rest : List Item) (pc next : ℕ) → slice_get code pc ≡ Some (counted (return_kind t e) line t.return_to) → Stand t rest next → Framed t → BlockAt (Return line e ∷ rest) pc
  return_block line e t rest pc next is p f =
      one_block (Return line e ∷ rest) (returned None rest) pc t.return_to (counted (return_kind t e) line t.return_to) is (return_passes t e) (return_goes t e)
      (return_kept b process total code t None no_values [] rest next p f (λ so_far. no_result t.result so_far)) refl refl refl
      (λ test. or_false _ ∙ return_some home test t e)

  -- the end of a called function
  pub leave_block : (line : ℕ) (into : BoundTarget) (k : Option Kind) (v : Value) (saved : Locals) (t u : Around) (rest : List Item) (pc next : ℕ) → LeaveAt b process total code line into k v saved t u next pc [] → Stand u rest next → BlockAt (Leave line into k v saved ∷ rest) pc
  leave_block line into k v saved t u rest pc next l p =
      let frame : Framed u = record { same = λ j n lt. refl; within = l.frame.within; low = l.frame.low } in
      one_block (Leave line into k v saved ∷ rest) rest pc next (uncounted (leave_kind home u into k t.result_slot next) line next) l.is_node (leave_passes home u into k t.result_slot next) (leave_goes home u into k t.result_slot next)
      (rest_stands u rest next p frame) refl refl refl
      (λ test. or_false _ ∙ leave_some home test u into k t.result_slot next)

  -- ---- a blocking write that has its value

  pub putting_block : (line c : ℕ) (v : Value) (t : Around) (rest : List Item) (pc next : ℕ) → PuttingAt b process total code line c v [] next pc → Stand t rest next → Framed t → BlockAt (Putting line c v ∷ rest) pc
  putting_block line c v t rest pc next w p f =
      let items = Putting line c v ∷ rest in
      let here : At items pc = record { around = t; place = (next, w, p); frame = f } in
      let pause : Pause = record { line = line; time = None; events = data_read b c; behind = items } in
      let tests = counted (kind.TestFree c w.wait_to) line w.put_to in
      let puts = uncounted (kind.Put c (node.Slot (channel_slot home c))) line next in
      let waits = uncounted (wait_kind (data_read b c)) line pc in
      record {
        tree = Forks tests (Goes puts (Out rest)) (Waits waits pause);
        headed = tt;
        rooted = (
          record { is = w.tests; on = refl },
          w.put_to,
          w.wait_to,
          two_ways w.put_to w.wait_to,
          (record { is = w.puts; on = refl }, next, one_way next, rest_stands t rest next p f),
          record { is = w.waits; line = refl; waits = (refl, refl); behind = here },
        );
        outs = λ y o. in_one rest y (⊎_elim (λ e. e) (λ e. absurd e) o);
        ways = λ y c. inl (one_is rest y c);
        touches = λ test.
            let n = list_any test (notified_next (numbers_where (is_data_written c) 0 b.events)) in
            ap (λ x. (test (HoldsWriting c) || false) || ((x || false) || false)) (put_slot home test c) ∙ put_bool (test (HoldsWriting c)) n;
        names = λ e t. absurd (⊎_elim (λ x. x) (λ x. x) t);
        triggers = λ e c. absurd (not_in_none e c);
        waits = λ q o. in_one pause q (⊎_elim (λ e. absurd e) (λ e. e) o);
        pauses = λ q c. inr (one_is pause q c);
      }

  -- ---- tests

  -- the test of a loop leads into the body, or past the loop
  test_block : (l : Loop) (t : Around) (rest : List Item) (pc next again : ℕ) → LoopAt b process total code l t next pc again → Stand t rest next → Framed t → BlockAt (Check l ∷ rest) pc
  test_block l t rest pc next again loop p f =
      let into = entered l.body (Again l ∷ rest) in
      let i = counted (kind.Test (lowered t (test_or_true l.test)) next) l.line loop.yes in
      let u = inside t next again in
      let placed = (good b process total code [] loop.depth l.body).enters u loop.free loop.body_at again (Again l ∷ rest) loop.body (next, pc, t, loop, refl, p) in
      let placed' = subst (λ q. Stand u into q) (sym loop.yes_is) placed in
      record {
        tree = Forks i (Out into) (Out rest);
        headed = tt;
        rooted = (
          record { is = loop.is_test; on = refl },
          loop.yes,
          next,
          two_ways loop.yes next,
          rest_stands u into loop.yes placed' (frame_in t next again f),
          rest_stands t rest next p f,
        );
        outs = λ y o. in_two into rest y o;
        ways = λ y c. two_of into rest y c;
        touches = λ test. or_false _ ∙ ap (λ xs. list_any test xs) (test_reads t l.test);
        names = λ e t. absurd (⊎_elim (λ x. x) (λ x. x) t);
        triggers = λ e c. absurd (not_in_none e c);
        waits = λ q o. absurd (⊎_elim (λ e. e) (λ e. e) o);
        pauses = λ q c. absurd (not_in_none q c);
      }

  -- the way past what follows each turn
  past_block : (l : Loop) (rest : List Item) (pc test line : ℕ) → slice_get code pc ≡ Some (uncounted kind.Goto line test) → BlockAt (Check l ∷ rest) test → BlockAt (Check l ∷ rest) pc
  past_block l rest pc test line is x = record {
    tree = Goes (uncounted kind.Goto line test) x.tree;
    headed = tt;
    rooted = (record { is = is; on = refl }, test, one_way test, x.rooted);
    outs = x.outs;
    ways = x.ways;
    touches = x.touches;
    names = x.names;
    triggers = x.triggers;
    waits = x.waits;
    pauses = x.pauses;
  }

  pub check_block : (l : Loop) (t : Around) (rest : List Item) (pc next again test : ℕ) → LoopAt b process total code l t next test again → CheckAt b process total code pc test → Stand t rest next → Framed t → BlockAt (Check l ∷ rest) pc
  check_block l t rest pc next again test loop at p f =
      let block = test_block l t rest test next again loop p f in
      ⊎_elim (λ e. subst (λ q. BlockAt (Check l ∷ rest) q) (sym e) block) (λ g. past_block l rest pc test g.0 g.1 block) at

  -- the second branch, or what follows where there is none
  second_stands : (depth : ℕ) (y : Option BoundStat) (t : Around) (free at next : ℕ) (rest : List Item) → LaidAt b process total code depth (branch_shape b process total code depth y) (branch_widths b process total code y) (branch_simples b process total code y) t free at next → Stand t rest next → Stand t (entered_if y rest) (begins (branch_shape b process total code depth y).size at next)
  second_stands depth None t free at next rest l p = p
  second_stands depth (Some s) t free at next rest l p = (good b process total code [] depth s).enters t free at next rest l p

  -- the test of an `if` leads to its branches
  pub choose_block : (line : ℕ) (e : BoundExpr) (x : BoundStat) (y : Option BoundStat) (t : Around) (rest : List Item) (pc next : ℕ) → ChooseAt b process total code line e x y t next pc → Stand t rest next → Framed t → BlockAt (Choose line e x y ∷ rest) pc
  choose_block line e x y t rest pc next c p f =
      let yes = (good b process total code [] c.depth x).enters t c.first_free c.first_at next rest c.first p in
      let no = second_stands c.depth y t c.second_free c.second_at next rest c.second p in
      record {
        tree = Forks (counted _ line _) (Out (entered x rest)) (Out (entered_if y rest));
        headed = tt;
        rooted = (
          record { is = c.is_test; on = refl },
          _,
          _,
          two_ways _ _,
          rest_stands t (entered x rest) _ yes f,
          rest_stands t (entered_if y rest) _ no f,
        );
        outs = λ z o. in_two (entered x rest) (entered_if y rest) z o;
        ways = λ z c. two_of (entered x rest) (entered_if y rest) z c;
        touches = λ test. or_false _ ∙ ap (λ xs. list_any test xs) (reads_same t e);
        names = λ e t. absurd (⊎_elim (λ x. x) (λ x. x) t);
        triggers = λ e c. absurd (not_in_none e c);
        waits = λ q o. absurd (⊎_elim (λ e. e) (λ e. e) o);
        pauses = λ q c. absurd (not_in_none q c);
      }
