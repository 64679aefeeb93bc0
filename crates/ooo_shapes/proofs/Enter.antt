-- The nodes of a statement do the items that it gives.
use Rattle.std.proofs.Common.{◌≡◌, ℕ, zero, suc, ◌+◌, ◌≤◌, ◌⊎◌, inl, inr, List, [], ◌∷◌, ◌++◌, length, map, Option, Some, None, refl, sym, ap, ◌∙◌, subst, arith, append_assoc, length-append}
use Rattle.std.specs.Prelude.{slice_get, min, if◌then◌else◌}
use Rattle.std.proofs.Math.Dec.{eqb-suc-zero}
use Rattle.ooo_value.specs.declared.kinds.Kind.{Kind}
use Rattle.ooo_value.specs.declared.operators.Op.{Op}
use Rattle.ooo_value.specs.declared.values.Value.{Value}
use Rattle.ooo_code.specs.declared.node.Node.{Node}
use Rattle.ooo_code.specs.declared.node.NodeKind.{NodeKind}
use Rattle.ooo_code.specs.declared.node.NodeKind.TheVariants as kind
use Rattle.ooo_bound.specs.declared.expr.BoundExpr.{BoundExpr}
use Rattle.ooo_bound.specs.declared.model.Bound.{Bound}
use Rattle.ooo_bound.specs.declared.model.BoundFunction.{BoundFunction}
use Rattle.ooo_bound.specs.declared.model.BoundProcess.{BoundProcess}
use Rattle.ooo_bound.specs.declared.stat.BoundItem.{BoundItem}
use Rattle.ooo_bound.specs.declared.stat.BoundRight.{BoundRight}
use Rattle.ooo_bound.specs.declared.stat.BoundRight.TheVariants as right
use Rattle.ooo_bound.specs.declared.stat.BoundSimple.{BoundSimple}
use Rattle.ooo_bound.specs.declared.stat.BoundSimple.TheVariants as simple
use Rattle.ooo_bound.specs.declared.stat.BoundStat.{BoundStat, BoundStat-F, ind-BoundStat, map-BoundStat, roll-BoundStat, fold-roll-BoundStat, para-BoundStat, para-roll-BoundStat}
use Rattle.ooo_bound.specs.declared.stat.BoundStat.TheOpen as layer
use Rattle.ooo_bound.specs.declared.stat.BoundTarget.{BoundTarget}
use Rattle.ooo_bound.specs.declared.stat.BoundTarget.TheVariants as target
use Rattle.ooo_bound.specs.declared.stat.LinedSimple.{LinedSimple}
use Rattle.ooo_activation.specs.Kinds.{joined, list_of, simples_step, simples_of, simples_in}
use Rattle.ooo_activation.specs.Items.{Item, Do, Choose, Begin, Check, Enter, through, first_do, while_loop, for_loop, enter_step, entered, entered_all}
use Rattle.ooo_shapes.specs.declared.around.Around.{Around}
use Rattle.ooo_shapes.specs.declared.around.Widths.{Widths}
use Rattle.ooo_shapes.specs.Widths.{nothing, both, count_of, expr_widths, option_widths, simple_widths, simples_widths, after_widths, all_widths, stat_step, stat_widths, body_widths}
use Rattle.ooo_shapes.specs.Expressions.{lowered}
use Rattle.ooo_shapes.specs.Simples.{Home, counted, uncounted, begins, item_nodes, update_nodes, update_size}
use Rattle.ooo_shapes.specs.Shapes.{Shape, empty, then, all_shapes, Callee, Callees, call_kinds, zero_nodes, argument_nodes, inside_call, leave_kind, call_shape, assign_shape, simple_shape, lined_shape, lined_shapes, if_shape, inside, test_or_true, lead_size, lead_slots, lead_nodes, again_at, loop_shape, do_shape, jump_shape, after_shape, shape_step, shape_of, body_shape, callee_by, callees_within}
use Rattle.ooo_shapes.proofs.Frames.{Within, within_left, within_right}
use Rattle.ooo_shapes.proofs.Places.{SimpleFound, SimplesFound, FunctionFound, CallFound, found_left, found_right, h, HasAt, has_front, has_back, Counts, LeadsOn, After, after_more, Laid, SimpleAt, StepAt, LoopAt, branch_shape, branch_widths, branch_simples, CheckAt, Place}

-- ---- where nodes begin

pub begins_some : (n at next : ℕ) → 1 ≤ n → begins n at next ≡ at
begins_some zero at next le = absurd (omega (arith, le))
begins_some (suc n) at next le = ap (λ b. if b then next else at) (eqb-suc-zero n)

pub begins_end : (n at : ℕ) → begins n at (at + n) ≡ at
begins_end zero at = omega arith
begins_end (suc n) at = begins_some (suc n) at (at + suc n) (omega arith)

-- where two begin of which one follows the other
pub begins_then : (m n at next : ℕ) → begins (m + n) at next ≡ begins m at (begins n (at + m) next)
begins_then zero n at next =
    let e : 0 + n ≡ n = omega arith in
    let f : at ≡ at + 0 = omega arith in
    ap (λ k. begins k at next) e ∙ ap (λ a. begins n a next) f
begins_then (suc m) n at next = begins_some (suc m + n) at next (omega arith) ∙ sym (begins_some (suc m) at (begins n (at + suc m) next) (omega arith))

-- ---- as many nodes as a shape says

abbrev pub IsFull : Shape → Type 0
IsFull x = (t : Around) (free at next : ℕ) → length (x.nodes t free at next) ≡ x.size

abbrev FullOption : Option Callee → Type 0
FullOption None = Unit {0}
FullOption (Some c) = IsFull c.body

abbrev pub FullCallees : Callees → Type 0
FullCallees callees = (g : ℕ) → FullOption (callees g)

pub zero_full : (line slot : ℕ) (ks : List Kind) (at : ℕ) → length (zero_nodes line slot ks at) ≡ length ks
zero_full line slot [] at = refl
zero_full line slot (k ∷ ks) at = ap suc (zero_full line (slot + 1) ks (at + 1))

-- as many arguments as there are parameters and values
pub argument_full : (t u : Around) (line n : ℕ) (ks : List Kind) (es : List BoundExpr) (at : ℕ) → length (argument_nodes t u line n ks es at) ≡ min (length ks) (length es)
argument_full t u line n [] [] at = omega arith
argument_full t u line n [] (e ∷ es) at = omega arith
argument_full t u line n (k ∷ ks) [] at = omega arith
argument_full t u line n (k ∷ ks) (e ∷ es) at = omega (arith, argument_full t u line (n + 1) ks es (at + 1))

items_full : (t : Around) (items : List BoundItem) (line at next : ℕ) → length (item_nodes t items line at next) ≡ length items
items_full t [] line at next = refl
items_full t (x ∷ xs) line at next = ap suc (items_full t xs line (at + 1) next)

update_full : (i : Home) (t : Around) (into : BoundTarget) (o : Op) (e : BoundExpr) (line at next : ℕ) → length (update_nodes i t into o e line at next) ≡ update_size into
update_full i t target.Nothing o e line at next = refl
update_full i t (target.Local k n) o e line at next = refl
update_full i t (target.Variable x) o e line at next = refl
update_full i t (target.Element x j) o e line at next = refl
update_full i t (target.Signal c) o e line at next = refl

call_full : (i : Home) (line : ℕ) (into : BoundTarget) (args : List BoundExpr) (o : Option Callee) → FullOption o → IsFull (call_shape i line into args o)
call_full i line into args None f t free at next = refl
call_full i line into args (Some c) f t free at next =
    let zeros = length (call_kinds c.function) in
    let given = min (length c.function.params) (length args) in
    let body = at + 1 + zeros + given in
    let leave = body + c.body.size in
    let u = inside_call c.function free leave in
    let first = zero_nodes line free (call_kinds c.function) (at + 1) in
    let second = argument_nodes t u line 0 c.function.params args (at + 1 + zeros) in
    let third = c.body.nodes u (free + zeros) body leave in
    let last = uncounted (leave_kind i t into c.function.result free next) line next ∷ [] in
    omega (
      arith,
      length-append first (second ++ (third ++ last)),
      length-append second (third ++ last),
      length-append third last,
      zero_full line free (call_kinds c.function) (at + 1),
      argument_full t u line 0 c.function.params args (at + 1 + zeros),
      f u (free + zeros) body leave,
    )

assign_full : (i : Home) (callees : Callees) → FullCallees callees → (line : ℕ) (into : BoundTarget) (r : BoundRight) → IsFull (assign_shape i callees line into r)
assign_full i callees f line into (right.Value e) t free at next = refl
assign_full i callees f line into (right.Call g args) t free at next = call_full i line into args (callees g) (f g) t free at next
assign_full i callees f line into (right.Read c) t free at next = refl
assign_full i callees f line into (right.NbRead c x) t free at next = refl
assign_full i callees f line into (right.NbWrite c e) t free at next = refl

pub simple_full : (i : Home) (callees : Callees) → FullCallees callees → (line : ℕ) (x : BoundSimple) → IsFull (simple_shape i callees line x)
simple_full i callees f line (simple.Assign into r) t free at next = assign_full i callees f line into r t free at next
simple_full i callees f line (simple.Update into o e) t free at next = update_full i t into o e line at next
simple_full i callees f line (simple.Write c e) t free at next = refl
simple_full i callees f line (simple.Notify e k) t free at next = refl
simple_full i callees f line (simple.Cancel e) t free at next = refl
simple_full i callees f line (simple.Wait w) t free at next = refl
simple_full i callees f line (simple.NextTrigger w) t free at next = refl
simple_full i callees f line simple.Stop t free at next = refl
simple_full i callees f line (simple.Print items) t free at next = omega (arith, items_full t items line (at + 1) next)

pub lead_full : (i : Home) (callees : Callees) → FullCallees callees → (after : Option LinedSimple) (t : Around) (line free at : ℕ) → length (lead_nodes (after_shape i callees after) t line free at) ≡ lead_size (after_shape i callees after)
lead_full i callees f None t line free at = refl
lead_full i callees f (Some x) t line free at = omega (arith, simple_full i callees f x.line x.simple t free (at + 1) (at + 1 + (lined_shape i callees x).size))

module _ (b : Bound) (process : BoundProcess) (total : ℕ) (code : List Node) where
  abbrev IsAfter : ℕ → ℕ → Type 0
  IsAfter p q = After b process total code p q

  pub after_begins : (n at next : ℕ) → IsAfter (at + n) next → IsAfter at (begins n at next)
  after_begins zero at next a = after_more b process total code at (at + 0) next (omega arith) a
  after_begins (suc n) at next a = subst (λ q. IsAfter at q) (sym (begins_some (suc n) at next (omega arith))) (inl (omega arith))

  abbrev pub LaidAt : ℕ → Shape → Widths → List LinedSimple → Around → (free at next : ℕ) → Type 0
  LaidAt depth x w ss t free at next = Laid b process total code depth x w ss t free at next

  -- ---- statements without statements in them

  module _ (depth : ℕ) where
    abbrev pub callees : Callees
    callees = callees_within depth (h b process total code)

    -- a call that finds its function has a node
    call_some : (k line : ℕ) (into : BoundTarget) (args : List BoundExpr) (o : Option BoundFunction) → FunctionFound (CallFound b.functions k) o → 1 ≤ (call_shape (h b process total code) line into args (callee_by (body_shape (h b process total code) (callees_within k (h b process total code))) o)).size
    call_some k line into args None f = absurd f
    call_some k line into args (Some g) f = omega arith

  -- the same at a depth of calls
  call_size : (depth line : ℕ) (into : BoundTarget) (args : List BoundExpr) (g : ℕ) → CallFound b.functions depth g → 1 ≤ (call_shape (h b process total code) line into args (callees_within depth (h b process total code) g)).size
  call_size zero line into args g f = absurd f
  call_size (suc k) line into args g f = call_some k k line into args (slice_get b.functions g) f

  update_some : (into : BoundTarget) → 1 ≤ update_size into
  update_some target.Nothing = omega arith
  update_some (target.Local k n) = omega arith
  update_some (target.Variable x) = omega arith
  update_some (target.Element x i) = omega arith
  update_some (target.Signal c) = omega arith

  -- each has a node
  pub simple_some : (depth line : ℕ) (x : BoundSimple) → SimpleFound (CallFound b.functions depth) x → 1 ≤ (simple_shape (h b process total code) (callees_within depth (h b process total code)) line x).size
  simple_some depth line (simple.Assign into (right.Value e)) f = omega arith
  simple_some depth line (simple.Assign into (right.Call g args)) f = call_size depth line into args g f
  simple_some depth line (simple.Assign into (right.Read c)) f = omega arith
  simple_some depth line (simple.Assign into (right.NbRead c x)) f = omega arith
  simple_some depth line (simple.Assign into (right.NbWrite c e)) f = omega arith
  simple_some depth line (simple.Update into o e) f = update_some into
  simple_some depth line (simple.Write c e) f = omega arith
  simple_some depth line (simple.Notify e k) f = omega arith
  simple_some depth line (simple.Cancel e) f = omega arith
  simple_some depth line (simple.Wait w) f = omega arith
  simple_some depth line (simple.NextTrigger w) f = omega arith
  simple_some depth line simple.Stop f = omega arith
  simple_some depth line (simple.Print items) f = omega arith

  abbrev Back : ℕ → Type 0
  Back q = Counts b process total code q ⊎ LeadsOn b process total code q

  -- the first node of a call counts
  call_back_in : (k line : ℕ) (into : BoundTarget) (args : List BoundExpr) (o : Option BoundFunction) (t : Around) (free at next : ℕ) → FunctionFound (CallFound b.functions k) o → HasAt b process total code at ((call_shape (h b process total code) line into args (callee_by (body_shape (h b process total code) (callees_within k (h b process total code))) o)).nodes t free at next) → Back at
  call_back_in k line into args None t free at next f l = absurd f
  call_back_in k line into args (Some g) t free at next f l = inl (_, l.0, refl)

  -- the same at a depth of calls
  call_back : (depth line : ℕ) (into : BoundTarget) (args : List BoundExpr) (g : ℕ) (t : Around) (free at next : ℕ) → CallFound b.functions depth g → HasAt b process total code at ((call_shape (h b process total code) line into args (callees_within depth (h b process total code) g)).nodes t free at next) → Back at
  call_back zero line into args g t free at next f l = absurd f
  call_back (suc k) line into args g t free at next f l = call_back_in k line into args (slice_get b.functions g) t free at next f l

  -- the first node of `a op= b` counts
  update_back : (line : ℕ) (into : BoundTarget) (o : Op) (e : BoundExpr) (t : Around) (at next : ℕ) → HasAt b process total code at (update_nodes (h b process total code) t into o e line at next) → Back at
  update_back line target.Nothing o e t at next l = inl (_, l.0, refl)
  update_back line (target.Local k n) o e t at next l = inl (_, l.0, refl)
  update_back line (target.Variable x) o e t at next l = inl (_, l.0, refl)
  update_back line (target.Element x i) o e t at next l = inl (_, l.0, refl)
  update_back line (target.Signal c) o e t at next l = inl (_, l.0, refl)

  -- its first node counts, or is the value of a blocking write
  pub simple_back : (depth line : ℕ) (x : BoundSimple) (t : Around) (free at next : ℕ) → SimpleFound (CallFound b.functions depth) x → HasAt b process total code at ((simple_shape (h b process total code) (callees_within depth (h b process total code)) line x).nodes t free at next) → Back at
  simple_back depth line (simple.Assign into (right.Value e)) t free at next f l = inl (_, l.0, refl)
  simple_back depth line (simple.Assign into (right.Call g args)) t free at next f l = call_back depth line into args g t free at next f l
  simple_back depth line (simple.Assign into (right.Read c)) t free at next f l = inl (_, l.0, refl)
  simple_back depth line (simple.Assign into (right.NbRead c x)) t free at next f l = inl (_, l.0, refl)
  simple_back depth line (simple.Assign into (right.NbWrite c e)) t free at next f l = inl (_, l.0, refl)
  simple_back depth line (simple.Update into o e) t free at next f l = update_back line into o e t at next l
  simple_back depth line (simple.Write c e) t free at next f l = inr (record { node = _; is = l.0; slot = _; value = _; sets = refl; next = refl; counts = (_, l.1.0, refl) })
  simple_back depth line (simple.Notify e k) t free at next f l = inl (_, l.0, refl)
  simple_back depth line (simple.Cancel e) t free at next f l = inl (_, l.0, refl)
  simple_back depth line (simple.Wait w) t free at next f l = inl (_, l.0, refl)
  simple_back depth line (simple.NextTrigger w) t free at next f l = inl (_, l.0, refl)
  simple_back depth line simple.Stop t free at next f l = inl (_, l.0, refl)
  simple_back depth line (simple.Print items) t free at next f l = inl (_, l.0, refl)

  -- ---- a statement that is laid, and its parts

  -- two that stand one after the other
  pub lay : (depth : ℕ) (x y : Shape) (v w : Widths) (ss rr : List LinedSimple) (t : Around) (free at next : ℕ) → IsFull x → LaidAt depth ((then) x y) (both v w) (ss ++ rr) t free at next → LaidAt depth x v ss t free at (begins y.size (at + x.size) next) × LaidAt depth y w rr t (free + length x.slots) (at + x.size) next
  lay depth x y v w ss rr t free at next full l =
      let front = x.nodes t free at (begins y.size (at + x.size) next) in
      let back = y.nodes t (free + length x.slots) (at + x.size) next in
      let at_y = subst (λ n. HasAt b process total code (at + n) back) (full t free at (begins y.size (at + x.size) next)) (has_back b process total code at front back l.has) in
      let after_y = after_more b process total code (at + x.size + y.size) (at + (x.size + y.size)) next (omega arith) l.after in
      let P = CallFound b.functions depth in (
        record {
          within = within_left v w t.widths l.within;
          found = found_left P ss rr l.found;
          has = has_front b process total code at front back l.has;
          after = after_begins y.size (at + x.size) next after_y;
          room = omega (arith, l.room, length-append x.slots y.slots);
          above = l.above;
        },
        record {
          within = within_right v w t.widths l.within;
          found = found_right P ss rr l.found;
          has = at_y;
          after = after_y;
          room = omega (arith, l.room, length-append x.slots y.slots);
          above = omega (arith, l.above);
        },
      )

  -- what stands before a loop's test
  record Lead (after : Option LinedSimple) (t : Around) (at test again : ℕ) : Type 0 where
    check : CheckAt b process total code at test
    step : StepAt b process total code after t again test
    back : Back again

  -- the nodes before a loop test are the way past them and what follows each turn
  lead_at : (depth : ℕ) (after : Option LinedSimple) (t : Around) (line free at : ℕ) → Within (after_widths after) t.widths → SimplesFound (CallFound b.functions depth) (list_of after) → HasAt b process total code at (lead_nodes (after_shape (h b process total code) (callees depth) after) t line free at) → free + length (lead_slots (after_shape (h b process total code) (callees depth) after)) ≤ total → t.base + count_of t.widths ≤ free → Counts b process total code (at + lead_size (after_shape (h b process total code) (callees depth) after)) → Lead after t at (at + lead_size (after_shape (h b process total code) (callees depth) after)) (again_at (after_shape (h b process total code) (callees depth) after) at)
  lead_at depth None t line free at w f has room above c =
      let e : at ≡ at + 0 = omega arith in
      record { check = inl e; step = e; back = subst (λ q. Back q) (sym e) (inl c) }
  lead_at depth (Some x) t line free at w f has room above c =
      let s = lined_shape (h b process total code) (callees depth) x in
      let test : at + 1 + s.size ≡ at + (1 + s.size) = omega arith in
      let again = begins_some s.size (at + 1) (at + 1 + s.size) (simple_some depth x.line x.simple f.0) in
      let laid : LaidAt depth s (simple_widths x.simple) (x ∷ []) t free (at + 1) (at + 1 + s.size) = record { within = w; found = f; has = has.1; after = inl (omega arith); room = room; above = above } in
      let first : SimpleAt b process total code x t (at + 1) (at + 1 + s.size) = record { depth = depth; free = free; laid = laid } in
      record {
        check = inr (line, subst (λ q. slice_get code at ≡ Some (uncounted kind.Goto line q)) test has.0, omega arith);
        step = subst (λ q. SimpleAt b process total code x t (begins s.size (at + 1) (at + 1 + s.size)) q) test (subst (λ q. SimpleAt b process total code x t q (at + 1 + s.size)) (sym again) first);
        back = subst (λ q. Back q) (sym again) (simple_back depth x.line x.simple t free (at + 1) (at + 1 + s.size) f.0 has.1);
      }

  module _ (slots : List Value) where
    abbrev pub Enters : ℕ → Shape → Widths → List LinedSimple → Enter → Type 0
    Enters depth x w ss enter = (t : Around) (free at next : ℕ) (rest : List Item) → LaidAt depth x w ss t free at next → Place b process total code t slots rest next → Place b process total code t slots (enter rest) (begins x.size at next)

    pub record Good (depth : ℕ) (x : Shape) (w : Widths) (ss : List LinedSimple) (enter : Enter) : Type 0 where
      pub full : IsFull x
      pub enters : Enters depth x w ss enter

    pub good_empty : (depth : ℕ) → Good depth empty nothing [] (λ rest. rest)
    good_empty depth = record { full = λ t free at next. refl; enters = λ t free at next rest l p. p }

    -- one statement after the other
    pub good_then : (depth : ℕ) (x y : Shape) (v w : Widths) (ss rr : List LinedSimple) (f g : Enter) → Good depth x v ss f → Good depth y w rr g → Good depth ((then) x y) (both v w) (ss ++ rr) (λ rest. f (g rest))
    good_then depth x y v w ss rr f g gx gy = record {
      full = λ t free at next.
          let front = x.nodes t free at (begins y.size (at + x.size) next) in
          let back = y.nodes t (free + length x.slots) (at + x.size) next in
          omega (arith, length-append front back, gx.full t free at (begins y.size (at + x.size) next), gy.full t (free + length x.slots) (at + x.size) next);
      enters = λ t free at next rest l p.
          let parts = lay depth x y v w ss rr t free at next gx.full l in
          let second = gy.enters t (free + length x.slots) (at + x.size) next rest parts.1 p in
          subst (λ q. Place b process total code t slots (f (g rest)) q) (sym (begins_then x.size y.size at next))
          (gx.enters t free at (begins y.size (at + x.size) next) (g rest) parts.0 second);
    }

    good_simple : (depth : ℕ) → FullCallees (callees depth) → (x : LinedSimple) → Good depth (lined_shape (h b process total code) (callees depth) x) (simple_widths x.simple) (x ∷ []) (λ rest. Do x ∷ rest)
    good_simple depth fc x = record {
      full = simple_full (h b process total code) (callees depth) fc x.line x.simple;
      enters = λ t free at next rest l p.
          let s = lined_shape (h b process total code) (callees depth) x in
          subst (λ q. Place b process total code t slots (Do x ∷ rest) q) (sym (begins_some s.size at next (simple_some depth x.line x.simple l.found.0)))
          (next, record { depth = depth; free = free; laid = l }, p);
    }

    -- simple statements one after the other
    pub good_simples : (depth : ℕ) → FullCallees (callees depth) → (xs : List LinedSimple) → Good depth (lined_shapes (h b process total code) (callees depth) xs) (simples_widths xs) xs (first_do xs)
    good_simples depth fc [] = good_empty depth
    good_simples depth fc (x ∷ xs) =
        good_then depth (lined_shape (h b process total code) (callees depth) x) (lined_shapes (h b process total code) (callees depth) xs) (simple_widths x.simple) (simples_widths xs) (x ∷ []) xs (λ rest. Do x ∷ rest) (first_do xs) (good_simple depth fc x) (good_simples depth fc xs)

    -- a jump
    good_jump : (depth line : ℕ) (f : Around → NodeKind) (to : Around → ℕ) (w : Widths) (enter : Enter) → ((t : Around) (at next : ℕ) (rest : List Item) → Within w t.widths → slice_get code at ≡ Some (counted (f t) line (to t)) → Place b process total code t slots rest next → Place b process total code t slots (enter rest) at) → Good depth (jump_shape line f to) w [] enter
    good_jump depth line f to w enter k = record {
      full = λ t free at next. refl;
      enters = λ t free at next rest l p. k t at next rest l.within l.has.0 p;
    }

    -- an `if`
    good_if : (depth line : ℕ) (e : BoundExpr) (x : BoundStat) (y : Option BoundStat) → IsFull (shape_of (h b process total code) (callees depth) x) → IsFull (branch_shape b process total code depth y) → Good depth (if_shape line e (shape_of (h b process total code) (callees depth) x) (branch_shape b process total code depth y)) (both (expr_widths e) (both (stat_widths x) (branch_widths b process total code y))) (simples_of x ++ branch_simples b process total code y) (λ rest. Choose line e x y ∷ rest)
    good_if depth line e x y fx fy =
        let a = shape_of (h b process total code) (callees depth) x in
        let c = branch_shape b process total code depth y in
        let v = stat_widths x in
        let w = branch_widths b process total code y in
        let P = CallFound b.functions depth in
        record {
          full = λ t free at next.
              let front = a.nodes t free (at + 1) next in
              let back = c.nodes t (free + length a.slots) (at + 1 + a.size) next in
              omega (arith, length-append front back, fx t free (at + 1) next, fy t (free + length a.slots) (at + 1 + a.size) next);
          enters = λ t free at next rest l p.
              let front = a.nodes t free (at + 1) next in
              let back = c.nodes t (free + length a.slots) (at + 1 + a.size) next in
              let inner = within_right (expr_widths e) (both v w) t.widths l.within in
              let at_c = subst (λ n. HasAt b process total code (at + 1 + n) back) (fx t free (at + 1) next) (has_back b process total code (at + 1) front back l.has.1) in
              subst (λ q. Place b process total code t slots (Choose line e x y ∷ rest) q) (sym (begins_some (1 + (a.size + c.size)) at next (omega arith))) (
                next,
                record {
                  depth = depth;
                  first_free = free;
                  first_at = at + 1;
                  second_free = free + length a.slots;
                  second_at = at + 1 + a.size;
                  within = within_left (expr_widths e) (both v w) t.widths l.within;
                  is_test = l.has.0;
                  first = record {
                    within = within_left v w t.widths inner;
                    found = found_left P (simples_of x) (branch_simples b process total code y) l.found;
                    has = has_front b process total code (at + 1) front back l.has.1;
                    after = after_more b process total code (at + 1 + a.size) (at + (1 + (a.size + c.size))) next (omega arith) l.after;
                    room = omega (arith, l.room, length-append a.slots c.slots);
                    above = l.above;
                  };
                  second = record {
                    within = within_right v w t.widths inner;
                    found = found_right P (simples_of x) (branch_simples b process total code y) l.found;
                    has = at_c;
                    after = after_more b process total code (at + 1 + a.size + c.size) (at + (1 + (a.size + c.size))) next (omega arith) l.after;
                    room = omega (arith, l.room, length-append a.slots c.slots);
                    above = omega (arith, l.above);
                  };
                },
                p,
              );
        }

    -- a loop that begins with its test
    good_loop : (depth line : ℕ) (e : Option BoundExpr) (after : Option LinedSimple) (body : BoundStat) (w : Widths) → FullCallees (callees depth) → IsFull (shape_of (h b process total code) (callees depth) body) → ((t : Widths) → Within w t → Within (option_widths e) t) → ((t : Widths) → Within w t → Within (after_widths after) t) → ((t : Widths) → Within w t → Within (stat_widths body) t) → Good depth (loop_shape line (test_or_true e) (after_shape (h b process total code) (callees depth) after) (shape_of (h b process total code) (callees depth) body)) w (list_of after ++ simples_of body) (λ rest. Check (for_loop line e after body) ∷ rest)
    good_loop depth line e after body w fc fb we wa wb =
        let x = shape_of (h b process total code) (callees depth) body in
        let s = after_shape (h b process total code) (callees depth) after in
        let P = CallFound b.functions depth in
        record {
          full = λ t free at next.
              let test = at + lead_size s in
              let again = again_at s at in
              let back = x.nodes (inside t next again) (free + length (lead_slots s)) (test + 1) again in
              let node = counted (kind.Test (lowered t (test_or_true e)) next) line (begins x.size (test + 1) again) in
              omega (arith, length-append (lead_nodes s t line free at) (node ∷ back), lead_full (h b process total code) (callees depth) fc after t line free at, fb (inside t next again) (free + length (lead_slots s)) (test + 1) again);
          enters = λ t free at next rest l p.
              let test = at + lead_size s in
              let again = again_at s at in
              let front = lead_nodes s t line free at in
              let back = x.nodes (inside t next again) (free + length (lead_slots s)) (test + 1) again in
              let node = counted (kind.Test (lowered t (test_or_true e)) next) line (begins x.size (test + 1) again) in
              let rest_at = subst (λ n. HasAt b process total code (at + n) (node ∷ back)) (lead_full (h b process total code) (callees depth) fc after t line free at) (has_back b process total code at front (node ∷ back) l.has) in
              let lead = lead_at depth after t line free at (wa t.widths l.within) (found_left P (list_of after) (simples_of body) l.found) (has_front b process total code at front (node ∷ back) l.has) (omega (arith, l.room, length-append (lead_slots s) x.slots)) l.above (node, rest_at.0, refl) in
              subst (λ q. Place b process total code t slots (Check (for_loop line e after body) ∷ rest) q) (sym (begins_some (lead_size s + (1 + x.size)) at next (omega arith))) (
                next,
                again,
                test,
                record {
                  depth = depth;
                  free = free + length (lead_slots s);
                  body_at = test + 1;
                  yes = begins x.size (test + 1) again;
                  within = we t.widths l.within;
                  is_test = rest_at.0;
                  yes_is = refl;
                  body = record {
                    within = wb t.widths l.within;
                    found = found_right P (list_of after) (simples_of body) l.found;
                    has = rest_at.1;
                    after = inr lead.back;
                    room = omega (arith, l.room, length-append (lead_slots s) x.slots);
                    above = omega (arith, l.above);
                  };
                  step = lead.step;
                },
                lead.check,
                p,
              );
        }

    -- a loop that begins with its body
    abbrev pub do_at : (depth line : ℕ) (e : BoundExpr) (body : BoundStat) (t : Around) (free at next : ℕ) → IsFull (shape_of (h b process total code) (callees depth) body) → LaidAt depth (do_shape line e (shape_of (h b process total code) (callees depth) body)) (both (stat_widths body) (expr_widths e)) (simples_of body) t free at next → LoopAt b process total code (while_loop line e body) t next (at + (shape_of (h b process total code) (callees depth) body).size) (at + (shape_of (h b process total code) (callees depth) body).size)
    do_at depth line e body t free at next fb l =
        let x = shape_of (h b process total code) (callees depth) body in
        let test = at + x.size in
        let front = x.nodes (inside t next test) free at test in
        let node = counted (kind.Test (lowered t e) next) line at in
        let rest_at = subst (λ n. HasAt b process total code (at + n) (node ∷ [])) (fb (inside t next test) free at test) (has_back b process total code at front (node ∷ []) l.has) in
        record {
          depth = depth;
          free = free;
          body_at = at;
          yes = at;
          within = within_right (stat_widths body) (expr_widths e) t.widths l.within;
          is_test = rest_at.0;
          yes_is = sym (begins_end x.size at);
          body = record {
            within = within_left (stat_widths body) (expr_widths e) t.widths l.within;
            found = l.found;
            has = has_front b process total code at front (node ∷ []) l.has;
            after = inl (omega arith);
            room = l.room;
            above = l.above;
          };
          step = refl;
        }

    -- a loop that begins with its body
    good_do : (depth line : ℕ) (e : BoundExpr) (body : BoundStat) → IsFull (shape_of (h b process total code) (callees depth) body) → Good depth (do_shape line e (shape_of (h b process total code) (callees depth) body)) (both (stat_widths body) (expr_widths e)) (simples_of body) (λ rest. Begin (while_loop line e body) ∷ rest)
    good_do depth line e body fb =
        let x = shape_of (h b process total code) (callees depth) body in
        record {
          full = λ t free at next.
              let test = at + x.size in
              let front = x.nodes (inside t next test) free at test in
              let node = counted (kind.Test (lowered t e) next) line at in
              omega (arith, length-append front (node ∷ []), fb (inside t next test) free at test);
          enters = λ t free at next rest l p.
              (next, at + x.size, do_at depth line e body t free at next fb l, begins_some (x.size + 1) at next (omega arith) ∙ sym (begins_end x.size at), p);
        }

    -- ---- every statement

    abbrev pub each : BoundStat → BoundStat × Enter
    each y = (y, para-BoundStat Enter enter_step y)

    -- the nodes of each form of statement
    pub shape_at : (depth : ℕ) (x : BoundStat-F BoundStat) → shape_of (h b process total code) (callees depth) (roll-BoundStat x) ≡ shape_step (h b process total code) (callees depth) (map-BoundStat BoundStat Shape (shape_of (h b process total code) (callees depth)) x)
    unfolding shape_of
    shape_at depth x = fold-roll-BoundStat Shape (shape_step (h b process total code) (callees depth)) x

    pub widths_at : (x : BoundStat-F BoundStat) → stat_widths (roll-BoundStat x) ≡ stat_step (map-BoundStat BoundStat Widths stat_widths x)
    unfolding stat_widths
    widths_at x = fold-roll-BoundStat Widths stat_step x

    pub simples_at : (x : BoundStat-F BoundStat) → simples_of (roll-BoundStat x) ≡ simples_step (map-BoundStat BoundStat (List LinedSimple) simples_of x)
    unfolding simples_of
    simples_at x = fold-roll-BoundStat (List LinedSimple) simples_step x

    pub entered_at : (x : BoundStat-F BoundStat) → entered (roll-BoundStat x) ≡ enter_step (map-BoundStat BoundStat (BoundStat × Enter) each x)
    unfolding entered
    entered_at x = para-roll-BoundStat Enter enter_step x

    abbrev pub P : ℕ → BoundStat → Type 0
    P depth s = Good depth (shape_of (h b process total code) (callees depth) s) (stat_widths s) (simples_of s) (entered s)

    abbrev Shown : ℕ → Type 0
    Shown depth = (s : BoundStat) × P depth s

    abbrev stat_in : (depth : ℕ) → Shown depth → BoundStat
    stat_in depth p = p.0

    abbrev pub layer_shape : ℕ → BoundStat-F BoundStat → Shape
    layer_shape depth x = shape_step (h b process total code) (callees depth) (map-BoundStat BoundStat Shape (shape_of (h b process total code) (callees depth)) x)

    abbrev pub layer_widths : BoundStat-F BoundStat → Widths
    layer_widths x = stat_step (map-BoundStat BoundStat Widths stat_widths x)

    abbrev pub layer_simples : BoundStat-F BoundStat → List LinedSimple
    layer_simples x = simples_step (map-BoundStat BoundStat (List LinedSimple) simples_of x)

    abbrev pub LayerGood : ℕ → BoundStat-F BoundStat → Type 0
    LayerGood depth x = Good depth (layer_shape depth x) (layer_widths x) (layer_simples x) (enter_step (map-BoundStat BoundStat (BoundStat × Enter) each x))

    by_layer : (depth : ℕ) (x : BoundStat-F BoundStat) → LayerGood depth x → P depth (roll-BoundStat x)
    by_layer depth x g =
        subst (λ a. Good depth a (stat_widths (roll-BoundStat x)) (simples_of (roll-BoundStat x)) (entered (roll-BoundStat x))) (sym (shape_at depth x))
        (subst (λ w. Good depth (layer_shape depth x) w (simples_of (roll-BoundStat x)) (entered (roll-BoundStat x))) (sym (widths_at x))
        (subst (λ ss. Good depth (layer_shape depth x) (layer_widths x) ss (entered (roll-BoundStat x))) (sym (simples_at x))
        (subst (λ f. Good depth (layer_shape depth x) (layer_widths x) (layer_simples x) f) (sym (entered_at x)) g)))

    -- the parts of a block
    good_all : (depth : ℕ) (ys : List (Shown depth)) → Good depth (all_shapes (map (shape_of (h b process total code) (callees depth)) (map (stat_in depth) ys))) (all_widths (map stat_widths (map (stat_in depth) ys))) (joined (map simples_of (map (stat_in depth) ys))) (through (map each (map (stat_in depth) ys)))
    unfolding entered
    good_all depth [] = good_empty depth
    good_all depth (y ∷ ys) =
        good_then depth (shape_of (h b process total code) (callees depth) y.0) (all_shapes (map (shape_of (h b process total code) (callees depth)) (map (stat_in depth) ys))) (stat_widths y.0) (all_widths (map stat_widths (map (stat_in depth) ys))) (simples_of y.0) (joined (map simples_of (map (stat_in depth) ys))) (entered y.0) (through (map each (map (stat_in depth) ys))) y.1 (good_all depth ys)

    good_choice : (depth line : ℕ) (e : BoundExpr) (x : Shown depth) (y : Option (Shown depth)) → P depth (roll-BoundStat (map-BoundStat (Shown depth) BoundStat (stat_in depth) (layer.If line e x y)))
    good_choice depth line e x None = by_layer depth (layer.If line e x.0 None) (good_if depth line e x.0 None x.1.full (λ t free at next. refl))
    good_choice depth line e x (Some y) = by_layer depth (layer.If line e x.0 (Some y.0)) (good_if depth line e x.0 (Some y.0) x.1.full y.1.full)

    -- a `for`: what it begins with, and its loop
    good_for : (depth line : ℕ) (begin : List LinedSimple) (e : Option BoundExpr) (after : Option LinedSimple) (body : BoundStat) → FullCallees (callees depth) → IsFull (shape_of (h b process total code) (callees depth) body) → LayerGood depth (layer.For line begin e after body)
    good_for depth line begin e after body fc fb =
        let v = both (option_widths e) (both (after_widths after) (stat_widths body)) in
        subst (λ ss. Good depth (layer_shape depth (layer.For line begin e after body)) (layer_widths (layer.For line begin e after body)) ss (enter_step (map-BoundStat BoundStat (BoundStat × Enter) each (layer.For line begin e after body)))) (sym (append_assoc begin (list_of after) (simples_of body)))
        (good_then depth (lined_shapes (h b process total code) (callees depth) begin) (loop_shape line (test_or_true e) (after_shape (h b process total code) (callees depth) after) (shape_of (h b process total code) (callees depth) body)) (simples_widths begin) v begin (list_of after ++ simples_of body) (first_do begin) (λ rest. Check (for_loop line e after body) ∷ rest) (good_simples depth fc begin)
        (good_loop depth line e after body v fc fb (λ t w. within_left (option_widths e) (both (after_widths after) (stat_widths body)) t w) (λ t w. within_left (after_widths after) (stat_widths body) t (within_right (option_widths e) (both (after_widths after) (stat_widths body)) t w)) (λ t w. within_right (after_widths after) (stat_widths body) t (within_right (option_widths e) (both (after_widths after) (stat_widths body)) t w))))

    -- a `while`
    good_while : (depth line : ℕ) (e : BoundExpr) (body : BoundStat) → FullCallees (callees depth) → IsFull (shape_of (h b process total code) (callees depth) body) → LayerGood depth (layer.While line e body)
    good_while depth line e body fc fb =
        good_loop depth line (Some e) None body (both (expr_widths e) (stat_widths body)) fc fb (λ t w. within_left (expr_widths e) (stat_widths body) t w) (λ t w. record { bools = omega arith; ints = omega arith; uints = omega arith; longs = omega arith; ulongs = omega arith }) (λ t w. within_right (expr_widths e) (stat_widths body) t w)

    module _ (depth : ℕ) (fc : FullCallees (callees depth)) where
      good_layer : (y : BoundStat-F (Shown depth)) → P depth (roll-BoundStat (map-BoundStat (Shown depth) BoundStat (stat_in depth) y))
      good_layer (layer.Block parts) = by_layer depth (layer.Block (map (stat_in depth) parts)) (good_all depth parts)
      good_layer (layer.Simple x) = by_layer depth (layer.Simple x) (good_simple depth fc x)
      good_layer (layer.If line e x y) = good_choice depth line e x y
      good_layer (layer.While line e x) = by_layer depth (layer.While line e x.0) (good_while depth line e x.0 fc x.1.full)
      good_layer (layer.Do line x e) = by_layer depth (layer.Do line x.0 e) (good_do depth line e x.0 x.1.full)
      good_layer (layer.For line begin e after x) = by_layer depth (layer.For line begin e after x.0) (good_for depth line begin e after x.0 fc x.1.full)
      good_layer (layer.Break line) = by_layer depth (layer.Break line) (good_jump depth line _ _ nothing _ (λ t at next rest w i p. (next, i, p)))
      good_layer (layer.Continue line) = by_layer depth (layer.Continue line) (good_jump depth line _ _ nothing _ (λ t at next rest w i p. (next, i, p)))
      good_layer (layer.Return line e) = by_layer depth (layer.Return line e) (good_jump depth line _ _ (option_widths e) _ (λ t at next rest w i p. (next, w, i, p)))

      good_with : (s : BoundStat) → P depth s
      good_with = ind-BoundStat (P depth) (λ x y e. subst (λ x. P depth (roll-BoundStat x)) e (good_layer y))

    -- the statements of a body
    good_body_with : (depth : ℕ) → ((s : BoundStat) → P depth s) → (ss : List BoundStat) → Good depth (body_shape (h b process total code) (callees depth) ss) (body_widths ss) (simples_in ss) (entered_all ss)
    good_body_with depth g [] = good_empty depth
    good_body_with depth g (s ∷ ss) =
        good_then depth (shape_of (h b process total code) (callees depth) s) (body_shape (h b process total code) (callees depth) ss) (stat_widths s) (body_widths ss) (simples_of s) (simples_in ss) (entered s) (entered_all ss) (g s) (good_body_with depth g ss)

    full_found : (depth : ℕ) → ((s : BoundStat) → P depth s) → (o : Option BoundFunction) → FullOption (callee_by (body_shape (h b process total code) (callees depth)) o)
    full_found depth g None = tt
    full_found depth g (Some f) = (good_body_with depth g f.body).full

    pub full_callees : (depth : ℕ) → FullCallees (callees depth)
    full_callees zero g = tt
    full_callees (suc k) g = full_found k (λ s. good_with k (full_callees k) s) (slice_get b.functions g)

    -- the nodes of a statement do its items
    pub good : (depth : ℕ) (s : BoundStat) → P depth s
    good depth s = good_with depth (full_callees depth) s

    -- the nodes of a body do its items
    pub good_body : (depth : ℕ) (ss : List BoundStat) → Good depth (body_shape (h b process total code) (callees depth) ss) (body_widths ss) (simples_in ss) (entered_all ss)
    good_body depth ss = good_body_with depth (good depth) ss
