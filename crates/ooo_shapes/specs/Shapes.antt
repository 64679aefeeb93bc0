-- The nodes of statements. Each is laid out in the order of the text; the place behind it is told to it, so that the last
-- nodes of a loop's body lead to the loop's test and those of a branch behind the `if`.
use Rattle.std.specs.Prelude.{ℕ, zero, suc, ◌+◌, min, List, [], ◌∷◌, ◌++◌, length, true, Option, Some, None, slice_get, pos}
use Rattle.ooo_value.specs.declared.kinds.Kind.{Kind}
use Rattle.ooo_value.specs.declared.values.Value.TheVariants as value
use Rattle.ooo_value.specs.Values.{value_of}
use Rattle.ooo_code.specs.declared.expression.NodeExpr.{NodeExpr}
use Rattle.ooo_code.specs.declared.expression.NodeExpr.TheVariants as node
use Rattle.ooo_code.specs.declared.node.Node.{Node}
use Rattle.ooo_code.specs.declared.node.NodeKind.{NodeKind}
use Rattle.ooo_code.specs.declared.node.NodeKind.TheVariants as kind
use Rattle.ooo_code.specs.Expressions.{no_value}
use Rattle.ooo_bound.specs.declared.expr.BoundExpr.{BoundExpr}
use Rattle.ooo_bound.specs.declared.expr.BoundExpr.TheVariants as bound
use Rattle.ooo_bound.specs.declared.model.BoundFunction.{BoundFunction}
use Rattle.ooo_bound.specs.declared.stat.BoundItem.{BoundItem}
use Rattle.ooo_bound.specs.declared.stat.BoundRight.{BoundRight}
use Rattle.ooo_bound.specs.declared.stat.BoundRight.TheVariants as right
use Rattle.ooo_bound.specs.declared.stat.BoundSimple.{BoundSimple}
use Rattle.ooo_bound.specs.declared.stat.BoundSimple.TheVariants as simple
use Rattle.ooo_bound.specs.declared.stat.BoundStat.{BoundStat, BoundStat-F, fold-BoundStat}
use Rattle.ooo_bound.specs.declared.stat.BoundStat.TheOpen as stat
use Rattle.ooo_bound.specs.declared.stat.BoundTarget.{BoundTarget}
use Rattle.ooo_bound.specs.declared.stat.BoundTarget.TheVariants as target
use Rattle.ooo_bound.specs.declared.stat.LinedSimple.{LinedSimple}
use Rattle.ooo_shapes.specs.declared.around.Around.{Around}
use Rattle.ooo_shapes.specs.declared.around.Widths.{Widths}
use Rattle.ooo_shapes.specs.Widths.{kinds_of, body_widths, params_widths, both}
use Rattle.ooo_shapes.specs.Expressions.{slot_of, lowered, lowered_time, converted}
use Rattle.ooo_shapes.specs.Simples.{Home, counted, uncounted, put_kind, lowered_wait, read_nodes, write_nodes, nb_read_nodes, nb_write_nodes, update_nodes, update_size, item_nodes, begins}

-- a statement lowered: how many nodes it has, the kinds of the slots for the calls in it, and its nodes, from the first free
-- slot, its first place and the place behind it
pub record Shape : Type 0 where
  pub size : ℕ
  pub slots : List Kind
  pub nodes : Around → (free at next : ℕ) → List Node

-- where a shape begins that is laid out from a place on
abbrev pub entry : Shape → (at next : ℕ) → ℕ
entry x at next = begins x.size at next

-- ---- how shapes are put together

-- a statement without nodes
abbrev pub empty : Shape
empty = record { size = 0; slots = []; nodes = λ t free at next. [] }

-- so many nodes, which call nothing
abbrev pub plain : (size : ℕ) → (Around → (at next : ℕ) → List Node) → Shape
plain n f = record { size = n; slots = []; nodes = λ t free at next. f t at next }

-- one node that counts
abbrev pub one : (line : ℕ) → (Around → (next : ℕ) → NodeKind) → Shape
one line f = plain 1 (λ t at next. counted (f t next) line next ∷ [])

-- one statement and then another
abbrev pub then : Shape → Shape → Shape
then a b = record {
  size = a.size + b.size;
  slots = a.slots ++ b.slots;
  nodes = λ t free at next.
      a.nodes t free at (entry b (at + a.size) next) ++ b.nodes t (free + length a.slots) (at + a.size) next;
}

abbrev pub all_shapes : List Shape → Shape
all_shapes [] = empty
all_shapes (x ∷ xs) = then x (all_shapes xs)

abbrev pub maybe_shape : Option Shape → Shape
maybe_shape None = empty
maybe_shape (Some x) = x

-- ---- calls

-- a function that is called, and its body lowered
pub record Callee : Type 0 where
  pub function : BoundFunction
  pub body : Shape

abbrev pub Callees : Type 0
Callees = ℕ → Option Callee

-- the slots that the locals of a function need
abbrev pub function_widths : BoundFunction → Widths
function_widths f = both (params_widths 0 f.params) (body_widths f.body)

-- the slot of a function's result, where it has one
abbrev pub result_kinds : Option Kind → List Kind
result_kinds None = []
result_kinds (Some k) = k ∷ []

-- around the body of a called function: its result has the first free slot, and its locals the next ones
abbrev pub inside_call : BoundFunction → (free leave : ℕ) → Around
inside_call f free leave = record {
  base = free + length (result_kinds f.result);
  widths = function_widths f;
  result_slot = free;
  result = f.result;
  break_to = leave;
  continue_to = leave;
  return_to = leave;
}

-- slots from this one on get 0 of their kinds
abbrev pub zero_nodes : (line slot : ℕ) → List Kind → (at : ℕ) → List Node
zero_nodes line slot [] at = []
zero_nodes line slot (k ∷ ks) at =
    uncounted (kind.Set slot (node.Constant (value_of k (pos 0)))) line (at + 1) ∷ zero_nodes line (slot + 1) ks (at + 1)

-- the arguments, from left to right: the first parameter has slot n of its kind
abbrev pub argument_nodes : (t u : Around) → (line n : ℕ) → List Kind → List BoundExpr → (at : ℕ) → List Node
argument_nodes t u line n (k ∷ ks) (e ∷ es) at =
    uncounted (kind.Set (slot_of u k n) (converted k (lowered t e))) line (at + 1)
    ∷ argument_nodes t u line (n + 1) ks es (at + 1)
argument_nodes t u line n _ _ at = []

-- what a call gives: the result, or a value for what has none
abbrev pub result_expr : Option Kind → (free : ℕ) → NodeExpr
result_expr None free = node.Constant no_value
result_expr (Some k) free = node.Slot free

-- how a call's result goes on
abbrev pub leave_kind : Home → Around → BoundTarget → Option Kind → (free next : ℕ) → NodeKind
leave_kind h t target.Nothing k free next = kind.Goto
leave_kind h t into k free next = put_kind h t into (result_expr k free) next

-- the kinds of the slots of a call itself
abbrev pub call_kinds : BoundFunction → List Kind
call_kinds f = result_kinds f.result ++ kinds_of (function_widths f)

-- the call, 0 for all slots, the arguments, the body, and the way of the result. A call that finds no function has nothing.
abbrev pub call_shape : Home → (line : ℕ) → BoundTarget → List BoundExpr → Option Callee → Shape
call_shape h line into args None = empty
call_shape h line into args (Some c) =
    let f = c.function in
    let zeros = length (call_kinds f) in
    let given = min (length f.params) (length args) in
    record {
      size = 1 + (zeros + (given + (c.body.size + 1)));
      slots = call_kinds f ++ c.body.slots;
      nodes = λ t free at next.
          let body = at + 1 + zeros + given in
          let leave = body + c.body.size in
          let u = inside_call f free leave in
          counted kind.Goto line (at + 1)
          ∷ (zero_nodes line free (call_kinds f) (at + 1)
          ++ (argument_nodes t u line 0 f.params args (at + 1 + zeros)
          ++ (c.body.nodes u (free + zeros) body leave
          ++ (uncounted (leave_kind h t into f.result free next) line next ∷ []))));
    }

-- ---- statements without statements in them

abbrev pub assign_shape : Home → Callees → (line : ℕ) → BoundTarget → BoundRight → Shape
assign_shape h callees line into (right.Value e) = one line (λ t next. put_kind h t into (lowered t e) next)
assign_shape h callees line into (right.Call f args) = call_shape h line into args (callees f)
assign_shape h callees line into (right.Read c) = plain 4 (λ t at next. read_nodes h t into c line at next)
assign_shape h callees line into (right.NbRead c x) = plain 6 (λ t at next. nb_read_nodes h t into c x line at next)
assign_shape h callees line into (right.NbWrite c e) = plain 5 (λ t at next. nb_write_nodes h t into c e line at next)

-- a print counts before it prints its items
abbrev pub print_shape : (line : ℕ) → List BoundItem → Shape
print_shape line items =
    plain (1 + length items) (λ t at next.
    counted kind.Goto line (begins (length items) (at + 1) next) ∷ item_nodes t items line (at + 1) next)

abbrev pub simple_shape : Home → Callees → (line : ℕ) → BoundSimple → Shape
simple_shape h callees line (simple.Assign into r) = assign_shape h callees line into r
simple_shape h callees line (simple.Update into o e) =
    plain (update_size into) (λ t at next. update_nodes h t into o e line at next)
simple_shape h callees line (simple.Write c e) = plain 4 (λ t at next. write_nodes h t c e line at next)
simple_shape h callees line (simple.Notify e k) = one line (λ t next. kind.Notify e (lowered_time t k))
simple_shape h callees line (simple.Cancel e) = one line (λ t next. kind.Cancel e)
simple_shape h callees line (simple.Wait w) = one line (λ t next. kind.Wait (lowered_wait h t w))
simple_shape h callees line (simple.NextTrigger w) = one line (λ t next. kind.Trigger (lowered_wait h t w))
simple_shape h callees line simple.Stop = one line (λ t next. kind.Stop)
simple_shape h callees line (simple.Print items) = print_shape line items

abbrev pub lined_shape : Home → Callees → LinedSimple → Shape
lined_shape h callees x = simple_shape h callees x.line x.simple

abbrev pub lined_shapes : Home → Callees → List LinedSimple → Shape
lined_shapes h callees [] = empty
lined_shapes h callees (x ∷ xs) = then (lined_shape h callees x) (lined_shapes h callees xs)

-- ---- tests and jumps

-- the test, the first branch, and the second
abbrev pub if_shape : (line : ℕ) → BoundExpr → Shape → Shape → Shape
if_shape line e a b = record {
  size = 1 + (a.size + b.size);
  slots = a.slots ++ b.slots;
  nodes = λ t free at next.
      counted (kind.Test (lowered t e) (entry b (at + 1 + a.size) next)) line (entry a (at + 1) next)
      ∷ (a.nodes t free (at + 1) next ++ b.nodes t (free + length a.slots) (at + 1 + a.size) next);
}

-- around a loop's body
abbrev pub inside : Around → (break_to continue_to : ℕ) → Around
inside t break_to continue_to = record t { break_to = break_to; continue_to = continue_to }

-- the test that a loop without one has
abbrev pub test_or_true : Option BoundExpr → BoundExpr
test_or_true None = bound.Constant (value.Bool true)
test_or_true (Some e) = e

-- how many nodes stand before a loop's test: what follows each turn, and the way past it
abbrev pub lead_size : Option Shape → ℕ
lead_size None = 0
lead_size (Some x) = 1 + x.size

-- the slots of what follows each turn
abbrev pub lead_slots : Option Shape → List Kind
lead_slots None = []
lead_slots (Some x) = x.slots

-- the way past what follows each turn, and that
abbrev pub lead_nodes : Option Shape → Around → (line free at : ℕ) → List Node
lead_nodes None t line free at = []
lead_nodes (Some x) t line free at =
    uncounted kind.Goto line (at + 1 + x.size) ∷ x.nodes t free (at + 1) (at + 1 + x.size)

-- where a turn goes on behind the body: at what follows it, or at the test
abbrev pub again_at : Option Shape → (at : ℕ) → ℕ
again_at None at = at
again_at (Some x) at = entry x (at + 1) (at + 1 + x.size)

-- what follows each turn, the test, and the body
abbrev pub loop_shape : (line : ℕ) → BoundExpr → Option Shape → Shape → Shape
loop_shape line e after body = record {
  size = lead_size after + (1 + body.size);
  slots = lead_slots after ++ body.slots;
  nodes = λ t free at next.
      let test = at + lead_size after in
      let again = again_at after at in
      lead_nodes after t line free at
      ++ (counted (kind.Test (lowered t e) next) line (entry body (test + 1) again)
      ∷ body.nodes (inside t next again) (free + length (lead_slots after)) (test + 1) again);
}

-- the body and the test
abbrev pub do_shape : (line : ℕ) → BoundExpr → Shape → Shape
do_shape line e body = record {
  size = body.size + 1;
  slots = body.slots;
  nodes = λ t free at next.
      let test = at + body.size in
      body.nodes (inside t next test) free at test ++ (counted (kind.Test (lowered t e) next) line at ∷ []);
}

-- `return`: its value goes to the result's slot, where the function has a result
abbrev pub return_kind : Around → Option BoundExpr → NodeKind
return_kind t None = kind.Goto
return_kind t (Some e) = elim t.result [
  | None ↦ kind.Test (lowered t e) t.return_to
  | Some k ↦ kind.Set t.result_slot (converted k (lowered t e))
]

-- a node that counts and leads elsewhere
abbrev pub jump_shape : (line : ℕ) → (Around → NodeKind) → (Around → ℕ) → Shape
jump_shape line f to = plain 1 (λ t at next. counted (f t) line (to t) ∷ [])

-- ---- every statement

abbrev pub after_shape : Home → Callees → Option LinedSimple → Option Shape
after_shape h callees None = None
after_shape h callees (Some x) = Some (lined_shape h callees x)

abbrev pub shape_step : Home → Callees → BoundStat-F Shape → Shape
shape_step h callees (stat.Block parts) = all_shapes parts
shape_step h callees (stat.Simple x) = lined_shape h callees x
shape_step h callees (stat.If line e a b) = if_shape line e a (maybe_shape b)
shape_step h callees (stat.While line e a) = loop_shape line e None a
shape_step h callees (stat.Do line a e) = do_shape line e a
shape_step h callees (stat.For line begin e after a) =
    then (lined_shapes h callees begin) (loop_shape line (test_or_true e) (after_shape h callees after) a)
shape_step h callees (stat.Break line) = jump_shape line (λ t. kind.Goto) (λ t. t.break_to)
shape_step h callees (stat.Continue line) = jump_shape line (λ t. kind.Goto) (λ t. t.continue_to)
shape_step h callees (stat.Return line e) = jump_shape line (λ t. return_kind t e) (λ t. t.return_to)

-- a statement that calls these functions
unfoldable pub shape_of : Home → Callees → BoundStat → Shape
shape_of h callees s = fold-BoundStat Shape (shape_step h callees) s

-- the statements of a body
abbrev pub body_shape : Home → Callees → List BoundStat → Shape
body_shape h callees [] = empty
body_shape h callees (s ∷ ss) = then (shape_of h callees s) (body_shape h callees ss)

abbrev pub callee_by : (List BoundStat → Shape) → Option BoundFunction → Option Callee
callee_by shape None = None
callee_by shape (Some f) = Some (record { function = f; body = shape f.body })

-- the functions that a statement may call where calls are nested no deeper than this
abbrev pub callees_within : (depth : ℕ) → Home → Callees
callees_within zero h f = None
callees_within (suc depth) h f = callee_by (body_shape h (callees_within depth h)) (slice_get h.model.functions f)

-- a body whose calls are nested no deeper than this
abbrev pub shape_within : (depth : ℕ) → Home → List BoundStat → Shape
shape_within depth h body = body_shape h (callees_within depth h) body
