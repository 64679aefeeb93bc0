-- From the same place an activation does the same by statements and by nodes.
use Rattle.std.proofs.Common.{◌≡◌, ℕ, zero, suc, ◌+◌, ◌≤◌, List, [], ◌∷◌, length, Option, Some, None, refl, arith, length-append}
use Rattle.std.specs.Prelude.{slice_get}
use Rattle.ooo_time.specs.declared.stamp.Stamp.{Stamp}
use Rattle.ooo_value.specs.declared.operators.Op.{Op}
use Rattle.ooo_value.specs.declared.values.Value.{Value}
use Rattle.ooo_code.specs.declared.activation.Frame.{Frame as NodeFrame}
use Rattle.ooo_code.specs.declared.node.Node.{Node}
use Rattle.ooo_code.specs.declared.node.NodeKind.{NodeKind}
use Rattle.ooo_code.specs.declared.segment.SegmentEntry.{SegmentEntry}
use Rattle.ooo_code.specs.Nodes as by_nodes
use Rattle.ooo_code.specs.Outcomes.{Outcome}
use Rattle.ooo_bound.specs.declared.expr.BoundExpr.{BoundExpr}
use Rattle.ooo_bound.specs.declared.model.Bound.{Bound}
use Rattle.ooo_bound.specs.declared.model.BoundFunction.{BoundFunction}
use Rattle.ooo_bound.specs.declared.model.BoundProcess.{BoundProcess}
use Rattle.ooo_bound.specs.declared.stat.BoundRight.TheVariants as right
use Rattle.ooo_bound.specs.declared.stat.BoundSimple.{BoundSimple}
use Rattle.ooo_bound.specs.declared.stat.BoundSimple.TheVariants as simple
use Rattle.ooo_bound.specs.declared.stat.BoundTarget.{BoundTarget}
use Rattle.ooo_bound.specs.declared.stat.BoundTarget.TheVariants as target
use Rattle.ooo_activation.specs.Locals.{Locals}
use Rattle.ooo_activation.specs.Expressions as over_locals
use Rattle.ooo_activation.specs.Items.{Item}
use Rattle.ooo_activation.specs.Activations.{Place, Course, Onward, sight_of, channel_kind, data_read, returned, result_of}
use Rattle.ooo_activation.specs.Activations as by_statements
use Rattle.ooo_shapes.specs.declared.around.Around.{Around}
use Rattle.ooo_shapes.specs.Widths.{count_of, expr_widths, exprs_widths, target_widths, simple_widths}
use Rattle.ooo_shapes.specs.Expressions.{lowered}
use Rattle.ooo_shapes.specs.Simples.{counted, update_nodes}
use Rattle.ooo_shapes.specs.Shapes.{call_kinds, call_shape, body_shape, callee_by, callees_within, simple_shape}
use Rattle.ooo_shapes.proofs.Frames.{Within, within_left, within_right, Frame}
use Rattle.ooo_shapes.proofs.Values.{time_same, wait_same}
use Rattle.ooo_shapes.proofs.Places.{SimpleFound, FunctionFound, CallFound, IsPlain, HasAt, After, Laid, Stands, stands}
use Rattle.ooo_shapes.proofs.Same.{doing, setting, pass, acts, same_result}
use Rattle.ooo_shapes.proofs.Puts.{home, value_is, put_same}
use Rattle.ooo_shapes.proofs.Steps.{PlaceAt, FuelAt, Here, statements, nodes, passes, Agree, goes_run, rests}
use Rattle.ooo_shapes.proofs.Simples.{read_same, nb_read_same, nb_write_same, update_same, print_same, counts}
use Rattle.ooo_shapes.proofs.Calls.{call_found}

module _ (b : Bound) (process : BoundProcess) (total : ℕ) (code : List Node) (first : ℕ) (entry : SegmentEntry) (stamp : Stamp) where
  abbrev Alike : Outcome Place → Outcome NodeFrame → Type 0
  Alike x y = Here b process total code first entry stamp x y

  abbrev through : ℕ → ℕ → by_nodes.Next
  through n m = passes b process total code first entry stamp n m

  abbrev Fueled : ℕ → ℕ → Type 0
  Fueled m pc = FuelAt b process total code first entry stamp m pc

  abbrev here : by_statements.Setting
  here = setting b process total code first entry stamp

  abbrev Stand : Around → List Value → List Item → ℕ → Type 0
  Stand t slots items pc = PlaceAt b process total code first entry stamp t slots items pc

  abbrev text : ℕ → by_statements.Next
  text n = statements b process total code first entry stamp n

  -- ---- statements without statements in them

  -- the first node of one that is not a blocking write: it counts, and has the line
  abbrev pub First : (line pc : ℕ) → Type 0
  First line pc = (k : NodeKind) × (next : ℕ) × (slice_get code pc ≡ Some (counted k line next))

  -- the first node of a call whose function is looked up
  call_first_in : (depth line : ℕ) (into : BoundTarget) (args : List BoundExpr) (o : Option BoundFunction) (t : Around) (free pc next : ℕ) → FunctionFound (CallFound b.functions depth) o → HasAt b process total code pc ((call_shape (home b process total code first entry stamp) line into args (callee_by (body_shape (home b process total code first entry stamp) (callees_within depth (home b process total code first entry stamp))) o)).nodes t free pc next) → First line pc
  call_first_in depth line into args None t free pc next f l = absurd f
  call_first_in depth line into args (Some g) t free pc next f l = (_, _, l.0)

  -- the same at a depth of calls
  call_first : (depth line : ℕ) (into : BoundTarget) (args : List BoundExpr) (g : ℕ) (t : Around) (free pc next : ℕ) → CallFound b.functions depth g → HasAt b process total code pc ((call_shape (home b process total code first entry stamp) line into args (callees_within depth (home b process total code first entry stamp) g)).nodes t free pc next) → First line pc
  call_first zero line into args g t free pc next f l = absurd f
  call_first (suc k) line into args g t free pc next f l = call_first_in k line into args (slice_get b.functions g) t free pc next f l

  -- the first node of `a op= b`
  update_first : (line : ℕ) (into : BoundTarget) (o : Op) (e : BoundExpr) (t : Around) (pc next : ℕ) → HasAt b process total code pc (update_nodes (home b process total code first entry stamp) t into o e line pc next) → First line pc
  update_first line target.Nothing o e t pc next l = (_, _, l.0)
  update_first line (target.Local k n) o e t pc next l = (_, _, l.0)
  update_first line (target.Variable x) o e t pc next l = (_, _, l.0)
  update_first line (target.Element x i) o e t pc next l = (_, _, l.0)
  update_first line (target.Signal c) o e t pc next l = (_, _, l.0)

  pub simple_first : (depth line : ℕ) (x : BoundSimple) (t : Around) (free pc next : ℕ) → IsPlain x → SimpleFound (CallFound b.functions depth) x → HasAt b process total code pc ((simple_shape (home b process total code first entry stamp) (callees_within depth (home b process total code first entry stamp)) line x).nodes t free pc next) → First line pc
  simple_first depth line (simple.Assign into (right.Value e)) t free pc next i f l = (_, _, l.0)
  simple_first depth line (simple.Assign into (right.Call g args)) t free pc next i f l = call_first depth line into args g t free pc next f l
  simple_first depth line (simple.Assign into (right.Read c)) t free pc next i f l = (_, _, l.0)
  simple_first depth line (simple.Assign into (right.NbRead c x)) t free pc next i f l = (_, _, l.0)
  simple_first depth line (simple.Assign into (right.NbWrite c e)) t free pc next i f l = (_, _, l.0)
  simple_first depth line (simple.Update into o e) t free pc next i f l = update_first line into o e t pc next l
  simple_first depth line (simple.Write c e) t free pc next i f l = absurd i
  simple_first depth line (simple.Notify e k) t free pc next i f l = (_, _, l.0)
  simple_first depth line (simple.Cancel e) t free pc next i f l = (_, _, l.0)
  simple_first depth line (simple.Wait w) t free pc next i f l = (_, _, l.0)
  simple_first depth line (simple.NextTrigger w) t free pc next i f l = (_, _, l.0)
  simple_first depth line simple.Stop t free pc next i f l = (_, _, l.0)
  simple_first depth line (simple.Print items) t free pc next i f l = (_, _, l.0)

  module _ (n : ℕ) (ih : Agree b process total code first entry stamp n) (t : Around) (rest : List Item) (next : ℕ) where
    abbrev passes_on : ℕ → by_nodes.Next
    passes_on m pc d = pass b process total code first entry stamp (acts b process total code first entry stamp n) m pc d

    -- a call whose function is looked up
    call_same_in : (depth line : ℕ) (into : BoundTarget) (args : List BoundExpr) (o : Option BoundFunction) (locals : Locals) (slots : List Value) (free pc m : ℕ) (d : Course) → FunctionFound (CallFound b.functions depth) o → HasAt b process total code pc ((call_shape (home b process total code first entry stamp) line into args (callee_by (body_shape (home b process total code first entry stamp) (callees_within depth (home b process total code first entry stamp))) o)).nodes t free pc next) → After b process total code (pc + (call_shape (home b process total code first entry stamp) line into args (callee_by (body_shape (home b process total code first entry stamp) (callees_within depth (home b process total code first entry stamp))) o)).size) next → free + length (call_shape (home b process total code first entry stamp) line into args (callee_by (body_shape (home b process total code first entry stamp) (callees_within depth (home b process total code first entry stamp))) o)).slots ≤ total → t.base + count_of t.widths ≤ free → Within (target_widths into) t.widths → Within (exprs_widths args) t.widths → Frame total t locals slots → length slots ≡ total → Stand t slots rest next → Alike (by_statements.call o into args line (text n) rest locals d) (passes_on (suc m) pc (doing slots d))
    call_same_in depth line into args None locals slots free pc m d f h a room above wi wa fr len p = absurd f
    call_same_in depth line into args (Some fn) locals slots free pc m d f h a room above wi wa fr len p =
        call_found b process total code first entry stamp n ih depth line into args fn t rest locals slots free pc next d f h a (omega (arith, room, length-append (call_kinds fn) (body_shape (home b process total code first entry stamp) (callees_within depth (home b process total code first entry stamp)) fn.body).slots)) above wi wa fr len p m

    -- a call at a depth of calls
    call_same : (depth line : ℕ) (into : BoundTarget) (args : List BoundExpr) (g : ℕ) (locals : Locals) (slots : List Value) (free pc m : ℕ) (d : Course) → CallFound b.functions depth g → HasAt b process total code pc ((call_shape (home b process total code first entry stamp) line into args (callees_within depth (home b process total code first entry stamp) g)).nodes t free pc next) → After b process total code (pc + (call_shape (home b process total code first entry stamp) line into args (callees_within depth (home b process total code first entry stamp) g)).size) next → free + length (call_shape (home b process total code first entry stamp) line into args (callees_within depth (home b process total code first entry stamp) g)).slots ≤ total → t.base + count_of t.widths ≤ free → Within (target_widths into) t.widths → Within (exprs_widths args) t.widths → Frame total t locals slots → length slots ≡ total → Stand t slots rest next → Alike (by_statements.call (slice_get b.functions g) into args line (text n) rest locals d) (passes_on (suc m) pc (doing slots d))
    call_same zero line into args g locals slots free pc m d f h a room above wi wa fr len p = absurd f
    call_same (suc k) line into args g locals slots free pc m d f h a room above wi wa fr len p = call_same_in k line into args (slice_get b.functions g) locals slots free pc m d f h a room above wi wa fr len p

    -- a statement without statements in it does the same by its nodes; a blocking write is begun elsewhere
    pub simple_same : (depth line : ℕ) (x : BoundSimple) (again : List Item) (locals : Locals) (slots : List Value) (free pc m : ℕ) (d : Course) → IsPlain x → Laid b process total code depth (simple_shape (home b process total code first entry stamp) (callees_within depth (home b process total code first entry stamp)) line x) (simple_widths x) (record { line = line; simple = x } ∷ []) t free pc next → Stand t slots rest next → Frame total t locals slots → length slots ≡ total → Stands b process total code again locals slots pc → Alike (by_statements.act_simple here x line (text n) again rest locals d) (passes_on (suc m) pc (doing slots d))
    simple_same depth line (simple.Assign into (right.Value e)) again locals slots free pc m d i l p f len s =
        counts b process total code first entry stamp _ n m pc _ line next (doing slots d) l.has.0
        (put_same b process total code first entry stamp into (lowered t e) (over_locals.reading_of e (sight_of locals d)) line pc next (nodes b process total code first entry stamp n) (text n rest) t locals slots d (value_is b process total code first entry stamp t locals slots d e f (within_right (target_widths into) (expr_widths e) t.widths l.within)) (within_left (target_widths into) (expr_widths e) t.widths l.within) f len (goes_run b process total code first entry stamp n ih t rest slots next p))
    simple_same depth line (simple.Assign into (right.Call g args)) again locals slots free pc m d i l p f len s =
        call_same depth line into args g locals slots free pc m d l.found.0 l.has l.after l.room l.above (within_left (target_widths into) (exprs_widths args) t.widths l.within) (within_right (target_widths into) (exprs_widths args) t.widths l.within) f len p
    simple_same depth line (simple.Assign into (right.Read c)) again locals slots free pc m d i l p f len s =
        read_same b process total code first entry stamp n ih t rest next into c line again locals slots pc m d l.has l.after (within_left (target_widths into) _ t.widths l.within) f len p s
    simple_same depth line (simple.Assign into (right.NbRead c x)) again locals slots free pc m d i l p f len s =
        nb_read_same b process total code first entry stamp n ih t rest next into c x line locals slots pc m d l.has l.after (within_left (target_widths into) (target_widths x) t.widths l.within) (within_right (target_widths into) (target_widths x) t.widths l.within) f len p
    simple_same depth line (simple.Assign into (right.NbWrite c e)) again locals slots free pc m d i l p f len s =
        nb_write_same b process total code first entry stamp n ih t rest next into c e line locals slots pc m d l.has l.after (within_left (target_widths into) (expr_widths e) t.widths l.within) (within_right (target_widths into) (expr_widths e) t.widths l.within) f len p
    simple_same depth line (simple.Update into o e) again locals slots free pc m d i l p f len s =
        update_same b process total code first entry stamp n ih t rest next into o e line again locals slots pc m d l.has l.after (within_left (target_widths into) (expr_widths e) t.widths l.within) (within_right (target_widths into) (expr_widths e) t.widths l.within) f len p
    simple_same depth line (simple.Write c e) again locals slots free pc m d i l p f len s = absurd i
    simple_same depth line (simple.Notify e k) again locals slots free pc m d i l p f len s =
        counts b process total code first entry stamp _ n m pc _ line next (doing slots d) l.has.0
        (same_result b process total code first entry stamp (over_locals.time_given k (sight_of locals d)) _ line locals slots d _ _ (time_same t locals slots d.variables d.seen f.same k l.within) (λ v. goes_run b process total code first entry stamp n ih t rest slots next p locals slots _ f (λ i low less. refl) len))
    simple_same depth line (simple.Cancel e) again locals slots free pc m d i l p f len s =
        counts b process total code first entry stamp _ n m pc _ line next (doing slots d) l.has.0 (goes_run b process total code first entry stamp n ih t rest slots next p locals slots _ f (λ i low less. refl) len)
    simple_same depth line (simple.Wait w) again locals slots free pc m d i l p f len s =
        counts b process total code first entry stamp _ n m pc _ line next (doing slots d) l.has.0
        (same_result b process total code first entry stamp (over_locals.wait_time w.time (sight_of locals d)) _ line locals slots d _ _ (wait_same t locals slots d.variables d.seen f.same w.time l.within) (λ v. record { deed = refl; next = rests b process total code first entry stamp rest locals slots pc _ l.has.0 (stands b process total code t rest locals slots next p f) len }))
    simple_same depth line (simple.NextTrigger w) again locals slots free pc m d i l p f len s =
        counts b process total code first entry stamp _ n m pc _ line next (doing slots d) l.has.0
        (same_result b process total code first entry stamp (over_locals.wait_time w.time (sight_of locals d)) _ line locals slots d _ _ (wait_same t locals slots d.variables d.seen f.same w.time l.within) (λ v. goes_run b process total code first entry stamp n ih t rest slots next p locals slots _ f (λ i low less. refl) len))
    simple_same depth line simple.Stop again locals slots free pc m d i l p f len s =
        counts b process total code first entry stamp _ n m pc _ line next (doing slots d) l.has.0 (goes_run b process total code first entry stamp n ih t rest slots next p locals slots _ f (λ i low less. refl) len)
    simple_same depth line (simple.Print items) again locals slots free pc m d i l p f len s =
        print_same b process total code first entry stamp n ih t rest next items line locals slots pc m d l.has l.after l.within f len p
