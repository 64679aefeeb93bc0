-- The nodes of a statement have the waits of the statement, in its order.
use Rattle.std.proofs.Common.{◌≡◌, if◌then◌else◌, ℕ, zero, suc, ◌+◌, List, [], ◌∷◌, ◌++◌, length, map, min, true, false, Option, Some, None, refl, sym, ap, ap₂, ◌∙◌, subst, append_assoc, append-nil}
use Rattle.std.specs.Prelude.{slice_get}
use Rattle.ooo_value.specs.declared.kinds.Kind.{Kind}
use Rattle.ooo_value.specs.declared.operators.Op.{Op}
use Rattle.ooo_code.specs.declared.expression.NodeExpr.{NodeExpr}
use Rattle.ooo_code.specs.declared.expression.NodeExpr.TheVariants as node
use Rattle.ooo_code.specs.declared.node.Node.{Node}
use Rattle.ooo_code.specs.declared.node.NodeKind.TheVariants as kind
use Rattle.ooo_bound.specs.declared.expr.BoundExpr.{BoundExpr}
use Rattle.ooo_bound.specs.declared.expr.BoundTime.{BoundTime}
use Rattle.ooo_bound.specs.declared.expr.BoundTime.TheVariants as time
use Rattle.ooo_bound.specs.declared.model.Bound.{Bound}
use Rattle.ooo_bound.specs.declared.model.BoundFunction.{BoundFunction}
use Rattle.ooo_bound.specs.declared.model.BoundProcess.{BoundProcess}
use Rattle.ooo_bound.specs.declared.stat.BoundItem.{BoundItem}
use Rattle.ooo_bound.specs.declared.stat.BoundItem.TheVariants as item
use Rattle.ooo_bound.specs.declared.stat.BoundRight.TheVariants as right
use Rattle.ooo_bound.specs.declared.stat.BoundSimple.{BoundSimple}
use Rattle.ooo_bound.specs.declared.stat.BoundSimple.TheVariants as simple
use Rattle.ooo_bound.specs.declared.stat.BoundStat.{BoundStat, BoundStat-F, ind-BoundStat, map-BoundStat, roll-BoundStat, fold-roll-BoundStat}
use Rattle.ooo_bound.specs.declared.stat.BoundStat.TheOpen as layer
use Rattle.ooo_bound.specs.declared.stat.BoundTarget.{BoundTarget}
use Rattle.ooo_bound.specs.declared.stat.BoundTarget.TheVariants as target
use Rattle.ooo_bound.specs.declared.stat.LinedSimple.{LinedSimple}
use Rattle.ooo_activation.specs.Activations.{data_written}
use Rattle.ooo_shapes.specs.declared.around.Around.{Around}
use Rattle.ooo_shapes.specs.Expressions.{converted, lowered, lowered_wait_time}
use Rattle.ooo_shapes.specs.Simples.{Home, counted, uncounted, put_kind, put_at_kind, aim_kind, channel_slot, truth, read_nodes, nb_read_nodes, nb_write_nodes, current_expr, update_nodes, begins, item_kind, item_nodes}
use Rattle.ooo_shapes.specs.Shapes.{Shape, empty, then, all_shapes, zero_nodes, argument_nodes, inside_call, result_expr, leave_kind, call_kinds, call_shape, simple_shape, lined_shape, lined_shapes, if_shape, inside, test_or_true, lead_slots, lead_size, lead_nodes, again_at, loop_shape, do_shape, return_kind, after_shape, shape_step, shape_of, body_shape, callee_by, callees_within}
use Rattle.ooo_shapes.specs.Designs.{home_of, process_nodes, process_shape, around_process, process_widths, free_of}
use Rattle.ooo_shapes.specs.Segments.{fixed_time, constant_time}
use Rattle.ooo_waits.specs.Waits.{Waiting, Callees, after_waits, all_waits, body_waits, function_waits, kind_waits, process_waits, simple_waits, simples_waits, stat_waits, until, waits_of, waits_step, waits_within}

-- waits of nodes one after the other
both : (xs ys : List Node) → waits_of (xs ++ ys) ≡ waits_of xs ++ waits_of ys
both [] ys = refl
both (x ∷ xs) ys = ap (λ w. kind_waits x.kind x.line ++ w) (both xs ys) ∙ sym (append_assoc (kind_waits x.kind x.line) (waits_of xs) (waits_of ys))

-- the time of a wait is constant in both, or in neither
same_time : (t : Around) (k : Option BoundTime) → fixed_time (lowered_wait_time t k) ≡ constant_time k
same_time t None = refl
same_time t (Some (time.Fixed k)) = refl
same_time t (Some (time.Amount e scale)) = refl

module _ (h : Home) where
  -- ---- single nodes that don't wait

  put_none : (t : Around) (into : BoundTarget) (v : NodeExpr) (next line : ℕ) → kind_waits (put_kind h t into v next) line ≡ []
  put_none t target.Nothing v next line = refl
  put_none t (target.Local k n) v next line = refl
  put_none t (target.Variable x) v next line = refl
  put_none t (target.Element x i) v next line = refl
  put_none t (target.Signal c) v next line = refl

  at_none : (t : Around) (into : BoundTarget) (v : NodeExpr) (next line : ℕ) → kind_waits (put_at_kind h t into v next) line ≡ []
  at_none t target.Nothing v next line = refl
  at_none t (target.Local k n) v next line = refl
  at_none t (target.Variable x) v next line = refl
  at_none t (target.Element x i) v next line = refl
  at_none t (target.Signal c) v next line = refl

  aim_none : (t : Around) (into : BoundTarget) (line : ℕ) → kind_waits (aim_kind h t into) line ≡ []
  aim_none t target.Nothing line = refl
  aim_none t (target.Local k n) line = refl
  aim_none t (target.Variable x) line = refl
  aim_none t (target.Element x i) line = refl
  aim_none t (target.Signal c) line = refl

  leave_none : (t : Around) (into : BoundTarget) (k : Option Kind) (free next line : ℕ) → kind_waits (leave_kind h t into k free next) line ≡ []
  leave_none t target.Nothing k free next line = refl
  leave_none t (target.Local j n) k free next line = put_none t (target.Local j n) (result_expr k free) next line
  leave_none t (target.Variable x) k free next line = put_none t (target.Variable x) (result_expr k free) next line
  leave_none t (target.Element x i) k free next line = put_none t (target.Element x i) (result_expr k free) next line
  leave_none t (target.Signal c) k free next line = put_none t (target.Signal c) (result_expr k free) next line

  item_none : (t : Around) (x : BoundItem) (line : ℕ) → kind_waits (item_kind t x) line ≡ []
  item_none t (item.Value e) line = refl
  item_none t (item.Text text) line = refl
  item_none t item.Time line = refl

  items_none : (t : Around) (xs : List BoundItem) (line at next : ℕ) → waits_of (item_nodes t xs line at next) ≡ []
  items_none t [] line at next = refl
  items_none t (x ∷ xs) line at next = ap₂ (λ a b. a ++ b) (item_none t x line) (items_none t xs line (at + 1) next)

  zeros_none : (line slot : ℕ) (ks : List Kind) (at : ℕ) → waits_of (zero_nodes line slot ks at) ≡ []
  zeros_none line slot [] at = refl
  zeros_none line slot (k ∷ ks) at = zeros_none line (slot + 1) ks (at + 1)

  arguments_none : (t u : Around) (line n : ℕ) (ks : List Kind) (es : List BoundExpr) (at : ℕ) → waits_of (argument_nodes t u line n ks es at) ≡ []
  arguments_none t u line n [] es at = refl
  arguments_none t u line n (k ∷ ks) [] at = refl
  arguments_none t u line n (k ∷ ks) (e ∷ es) at = arguments_none t u line (n + 1) ks es (at + 1)

  returned_none : (t : Around) (e : BoundExpr) (o : Option Kind) (line : ℕ) → kind_waits (elim o [ None ↦ kind.Test (lowered t e) t.return_to | Some k ↦ kind.Set t.result_slot (converted k (lowered t e)) ]) line ≡ []
  returned_none t e None line = refl
  returned_none t e (Some k) line = refl

  return_none : (t : Around) (e : Option BoundExpr) (line : ℕ) → kind_waits (return_kind t e) line ≡ []
  return_none t None line = refl
  return_none t (Some e) line = returned_none t e t.result line

  -- ---- statements of fifos, and `a op= b`

  read_waits : (t : Around) (into : BoundTarget) (c line at next : ℕ) → waits_of (read_nodes h t into c line at next) ≡ until line (data_written h.model c)
  read_waits t into c line at next = ap (λ w. until line (data_written h.model c) ++ (w ++ [])) (put_none t into (node.Slot (channel_slot h c)) next line)

  nb_read_none : (t : Around) (result : BoundTarget) (c : ℕ) (into : BoundTarget) (line at next : ℕ) → waits_of (nb_read_nodes h t result c into line at next) ≡ []
  nb_read_none t result c into line at next =
      ap₂ (λ a p. a ++ (p ++ (kind_waits (put_kind h t result (truth true) next) line ++ (kind_waits (put_kind h t result (truth false) next) line ++ [])))) (aim_none t into line) (at_none t into (node.Slot (channel_slot h c)) (at + 4) line)
      ∙ ap₂ (λ a p. a ++ (p ++ [])) (put_none t result (truth true) next line) (put_none t result (truth false) next line)

  nb_write_none : (t : Around) (result : BoundTarget) (c : ℕ) (e : BoundExpr) (line at next : ℕ) → waits_of (nb_write_nodes h t result c e line at next) ≡ []
  nb_write_none t result c e line at next = ap₂ (λ a p. a ++ (p ++ [])) (put_none t result (truth true) next line) (put_none t result (truth false) next line)

  update_plain : (t : Around) (into : BoundTarget) (o : Op) (e : BoundExpr) (line next : ℕ) → kind_waits (put_kind h t into (node.Binary o (current_expr t into) (lowered t e)) next) line ++ [] ≡ []
  update_plain t into o e line next = ap (λ w. w ++ []) (put_none t into (node.Binary o (current_expr t into) (lowered t e)) next line)

  update_none : (t : Around) (into : BoundTarget) (o : Op) (e : BoundExpr) (line at next : ℕ) → waits_of (update_nodes h t into o e line at next) ≡ []
  update_none t target.Nothing o e line at next = update_plain t target.Nothing o e line next
  update_none t (target.Local k n) o e line at next = update_plain t (target.Local k n) o e line next
  update_none t (target.Variable x) o e line at next = update_plain t (target.Variable x) o e line next
  update_none t (target.Element x i) o e line at next = refl
  update_none t (target.Signal c) o e line at next = update_plain t (target.Signal c) o e line next

  -- ---- shapes

  -- wherever it is laid out, a shape has these waits
  abbrev pub Gives : Shape → List Waiting → Type 0
  Gives x ws = (t : Around) (free at next : ℕ) → waits_of (x.nodes t free at next) ≡ ws

  then_gives : (x y : Shape) (xs ys : List Waiting) → Gives x xs → Gives y ys → Gives ((then) x y) (xs ++ ys)
  then_gives x y xs ys g k t free at next =
      let front = x.nodes t free at (begins y.size (at + x.size) next) in
      let back = y.nodes t (free + length x.slots) (at + x.size) next in
      both front back ∙ ap₂ (λ a b. a ++ b) (g t free at (begins y.size (at + x.size) next)) (k t (free + length x.slots) (at + x.size) next)

  call_gives : (line : ℕ) (into : BoundTarget) (args : List BoundExpr) (f : BoundFunction) (body : Shape) (ws : List Waiting) → Gives body ws → Gives (call_shape h line into args (Some (record { function = f; body = body }))) ws
  call_gives line into args f body ws g t free at next =
      let zeros = length (call_kinds f) in
      let given = min (length f.params) (length args) in
      let body_at = at + 1 + zeros + given in
      let leave = body_at + body.size in
      let u = inside_call f free leave in
      let first = zero_nodes line free (call_kinds f) (at + 1) in
      let second = argument_nodes t u line 0 f.params args (at + 1 + zeros) in
      let third = body.nodes u (free + zeros) body_at leave in
      let last = uncounted (leave_kind h t into f.result free next) line next ∷ [] in
      both first (second ++ (third ++ last))
      ∙ ap₂ (λ x y. x ++ y) (zeros_none line free (call_kinds f) (at + 1)) (both second (third ++ last))
      ∙ ap₂ (λ x y. x ++ y) (arguments_none t u line 0 f.params args (at + 1 + zeros)) (both third last)
      ∙ ap₂ (λ x y. x ++ (y ++ [])) (g u (free + zeros) body_at leave) (leave_none t into f.result free next line)
      ∙ append-nil ws

  abbrev CallGives : ℕ → Type 0
  CallGives depth = (line : ℕ) (into : BoundTarget) (args : List BoundExpr) (g : ℕ) → Gives (call_shape h line into args (callees_within depth h g)) (waits_within depth h g)

  module _ (depth : ℕ) (calls : CallGives depth) where
    abbrev called : Callees
    called = waits_within depth h

    simple_gives : (line : ℕ) (x : BoundSimple) → Gives (simple_shape h (callees_within depth h) line x) (simple_waits h called line x)
    simple_gives line (simple.Assign into (right.Value e)) t free at next = ap (λ w. w ++ []) (put_none t into (lowered t e) next line)
    simple_gives line (simple.Assign into (right.Call g args)) t free at next = calls line into args g t free at next
    simple_gives line (simple.Assign into (right.Read c)) t free at next = read_waits t into c line at next
    simple_gives line (simple.Assign into (right.NbRead c x)) t free at next = nb_read_none t into c x line at next
    simple_gives line (simple.Assign into (right.NbWrite c e)) t free at next = nb_write_none t into c e line at next
    simple_gives line (simple.Update into o e) t free at next = update_none t into o e line at next
    simple_gives line (simple.Write c e) t free at next = refl
    simple_gives line (simple.Notify e k) t free at next = refl
    simple_gives line (simple.Cancel e) t free at next = refl
    simple_gives line (simple.Wait w) t free at next = ap (λ k. record { line = line; time = k; events = if w.is_static then h.sensitive else w.events } ∷ []) (same_time t w.time)
    simple_gives line (simple.NextTrigger w) t free at next = refl
    simple_gives line simple.Stop t free at next = refl
    simple_gives line (simple.Print items) t free at next = items_none t items line (at + 1) next

    simples_give : (xs : List LinedSimple) → Gives (lined_shapes h (callees_within depth h) xs) (simples_waits h called xs)
    simples_give [] = λ t free at next. refl
    simples_give (x ∷ xs) =
        then_gives (lined_shape h (callees_within depth h) x) (lined_shapes h (callees_within depth h) xs) (simple_waits h called x.line x.simple) (simples_waits h called xs)
        (simple_gives x.line x.simple) (simples_give xs)

    lead_gives : (after : Option LinedSimple) (t : Around) (line free at : ℕ) → waits_of (lead_nodes (after_shape h (callees_within depth h) after) t line free at) ≡ after_waits h called after
    lead_gives None t line free at = refl
    lead_gives (Some x) t line free at = simple_gives x.line x.simple t free (at + 1) (at + 1 + (lined_shape h (callees_within depth h) x).size)

    -- ---- statements

    abbrev shape : BoundStat → Shape
    shape s = shape_of h (callees_within depth h) s

    abbrev waits : BoundStat → List Waiting
    waits s = stat_waits h called s

    abbrev P : BoundStat → Type 0
    P s = Gives (shape s) (waits s)

    shape_at : (x : BoundStat-F BoundStat) → shape (roll-BoundStat x) ≡ shape_step h (callees_within depth h) (map-BoundStat BoundStat Shape shape x)
    unfolding shape_of
    shape_at x = fold-roll-BoundStat Shape (shape_step h (callees_within depth h)) x

    waits_at : (x : BoundStat-F BoundStat) → waits (roll-BoundStat x) ≡ waits_step h called (map-BoundStat BoundStat (List Waiting) waits x)
    unfolding stat_waits
    waits_at x = fold-roll-BoundStat (List Waiting) (waits_step h called) x

    by_layer : (x : BoundStat-F BoundStat) → Gives (shape_step h (callees_within depth h) (map-BoundStat BoundStat Shape shape x)) (waits_step h called (map-BoundStat BoundStat (List Waiting) waits x)) → P (roll-BoundStat x)
    by_layer x g =
        subst (λ y. Gives y (waits (roll-BoundStat x))) (sym (shape_at x))
        (subst (λ ws. Gives (shape_step h (callees_within depth h) (map-BoundStat BoundStat Shape shape x)) ws) (sym (waits_at x)) g)

    abbrev Shown : Type 0
    Shown = (s : BoundStat) × P s

    abbrev stat_in : Shown → BoundStat
    stat_in p = p.0

    all_give : (ys : List Shown) → Gives (all_shapes (map shape (map stat_in ys))) (all_waits (map waits (map stat_in ys)))
    all_give [] = λ t free at next. refl
    all_give (y ∷ ys) = then_gives (shape y.0) (all_shapes (map shape (map stat_in ys))) (waits y.0) (all_waits (map waits (map stat_in ys))) y.1 (all_give ys)

    if_gives : (line : ℕ) (e : BoundExpr) (x y : Shape) (xs ys : List Waiting) → Gives x xs → Gives y ys → Gives (if_shape line e x y) (xs ++ ys)
    if_gives line e x y xs ys gx gy t free at next =
        let front = x.nodes t free (at + 1) next in
        let back = y.nodes t (free + length x.slots) (at + 1 + x.size) next in
        both front back ∙ ap₂ (λ a b. a ++ b) (gx t free (at + 1) next) (gy t (free + length x.slots) (at + 1 + x.size) next)

    loop_gives : (line : ℕ) (e : Option BoundExpr) (after : Option LinedSimple) (body : Shape) (xs : List Waiting) → Gives body xs → Gives (loop_shape line (test_or_true e) (after_shape h (callees_within depth h) after) body) (after_waits h called after ++ xs)
    loop_gives line e after body xs g t free at next =
        let s = after_shape h (callees_within depth h) after in
        let test_at = at + lead_size s in
        let again = again_at s at in
        let front = lead_nodes s t line free at in
        let back = body.nodes (inside t next again) (free + length (lead_slots s)) (test_at + 1) again in
        let test = counted (kind.Test (lowered t (test_or_true e)) next) line (begins body.size (test_at + 1) again) in
        both front (test ∷ back)
        ∙ ap₂ (λ a b. a ++ b) (lead_gives after t line free at) (g (inside t next again) (free + length (lead_slots s)) (test_at + 1) again)

    do_gives : (line : ℕ) (e : BoundExpr) (body : Shape) (xs : List Waiting) → Gives body xs → Gives (do_shape line e body) xs
    do_gives line e body xs g t free at next =
        let test_at = at + body.size in
        let front = body.nodes (inside t next test_at) free at test_at in
        let test = counted (kind.Test (lowered t e) next) line at in
        both front (test ∷ []) ∙ ap (λ a. a ++ []) (g (inside t next test_at) free at test_at) ∙ append-nil xs

    choice_gives : (line : ℕ) (e : BoundExpr) (x : Shown) (y : Option Shown) → P (roll-BoundStat (map-BoundStat Shown BoundStat stat_in (layer.If line e x y)))
    choice_gives line e x None = by_layer (layer.If line e x.0 None) (if_gives line e (shape x.0) empty (waits x.0) [] x.1 (λ t free at next. refl))
    choice_gives line e x (Some y) = by_layer (layer.If line e x.0 (Some y.0)) (if_gives line e (shape x.0) (shape y.0) (waits x.0) (waits y.0) x.1 y.1)

    layer_gives : (y : BoundStat-F Shown) → P (roll-BoundStat (map-BoundStat Shown BoundStat stat_in y))
    layer_gives (layer.Block parts) = by_layer (layer.Block (map stat_in parts)) (all_give parts)
    layer_gives (layer.Simple x) = by_layer (layer.Simple x) (simple_gives x.line x.simple)
    layer_gives (layer.If line e x y) = choice_gives line e x y
    layer_gives (layer.While line e x) = by_layer (layer.While line e x.0) (loop_gives line (Some e) None (shape x.0) (waits x.0) x.1)
    layer_gives (layer.Do line x e) = by_layer (layer.Do line x.0 e) (do_gives line e (shape x.0) (waits x.0) x.1)
    layer_gives (layer.For line begin e after x) =
        by_layer (layer.For line begin e after x.0)
        (then_gives (lined_shapes h (callees_within depth h) begin) (loop_shape line (test_or_true e) (after_shape h (callees_within depth h) after) (shape x.0)) (simples_waits h called begin) (after_waits h called after ++ waits x.0)
        (simples_give begin) (loop_gives line e after (shape x.0) (waits x.0) x.1))
    layer_gives (layer.Break line) = by_layer (layer.Break line) (λ t free at next. refl)
    layer_gives (layer.Continue line) = by_layer (layer.Continue line) (λ t free at next. refl)
    layer_gives (layer.Return line e) = by_layer (layer.Return line e) (λ t free at next. ap (λ w. w ++ []) (return_none t e line))

    stat_gives : (s : BoundStat) → P s
    stat_gives = ind-BoundStat P (λ x y e. subst (λ x. P (roll-BoundStat x)) e (layer_gives y))

    body_gives : (ss : List BoundStat) → Gives (body_shape h (callees_within depth h) ss) (body_waits h called ss)
    body_gives [] = λ t free at next. refl
    body_gives (s ∷ ss) = then_gives (shape s) (body_shape h (callees_within depth h) ss) (waits s) (body_waits h called ss) (stat_gives s) (body_gives ss)

  -- a call of a function that is looked up
  call_found : (k : ℕ) → CallGives k → (line : ℕ) (into : BoundTarget) (args : List BoundExpr) (o : Option BoundFunction) → Gives (call_shape h line into args (callee_by (body_shape h (callees_within k h)) o)) (function_waits (body_waits h (waits_within k h)) o)
  call_found k calls line into args None t free at next = refl
  call_found k calls line into args (Some g) t free at next =
      call_gives line into args g (body_shape h (callees_within k h) g.body) (body_waits h (waits_within k h) g.body) (body_gives k calls g.body) t free at next

  calls_give : (depth : ℕ) → CallGives depth
  calls_give zero line into args g t free at next = refl
  calls_give (suc k) line into args g t free at next = call_found k (calls_give k) line into args (slice_get h.model.functions g) t free at next

-- the nodes of a process have the waits of its statements
pub in_order : (b : Bound) (process : BoundProcess) (first : ℕ) → waits_of (process_nodes b process first) ≡ process_waits b process
in_order b process first =
    let h = home_of b process in
    let x = process_shape b process in
    let end = first + x.size in
    let n = length b.functions in
    let front = x.nodes (around_process (process_widths process) end) (free_of process) first end in
    both front (uncounted kind.End 0 end ∷ [])
    ∙ append-nil (waits_of front)
    ∙ body_gives h n (calls_give h n) process.body (around_process (process_widths process) end) (free_of process) first end
