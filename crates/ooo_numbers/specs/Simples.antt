-- Statements without statements in them, with numbers in place of names.
use Rattle.std.specs.Prelude.{ℕ, List, [], ◌∷◌, Option, Some, None, pos, if◌then◌else◌}
use Rattle.ooo_value.specs.declared.kinds.Kind.{Kind}
use Rattle.ooo_value.specs.declared.operators.Op.{Op}
use Rattle.ooo_value.specs.declared.operators.Op.TheVariants as op
use Rattle.ooo_value.specs.declared.values.Value.TheVariants as value
use Rattle.ooo_syntax.specs.declared.stat.AssignOp.{AssignOp}
use Rattle.ooo_syntax.specs.declared.stat.AssignOp.TheVariants as assign
use Rattle.ooo_syntax.specs.declared.stat.StepOp.{StepOp}
use Rattle.ooo_syntax.specs.declared.stat.StepOp.TheVariants as step
use Rattle.ooo_bound.specs.declared.expr.BoundExpr.{BoundExpr}
use Rattle.ooo_bound.specs.declared.expr.BoundExpr.TheVariants as bound
use Rattle.ooo_bound.specs.declared.stat.BoundItem.{BoundItem}
use Rattle.ooo_bound.specs.declared.stat.BoundItem.TheVariants as bound_item
use Rattle.ooo_bound.specs.declared.stat.BoundRight.{BoundRight}
use Rattle.ooo_bound.specs.declared.stat.BoundRight.TheVariants as right
use Rattle.ooo_bound.specs.declared.stat.BoundSimple.{BoundSimple}
use Rattle.ooo_bound.specs.declared.stat.BoundSimple.TheVariants as bound_simple
use Rattle.ooo_bound.specs.declared.stat.BoundTarget.{BoundTarget}
use Rattle.ooo_bound.specs.declared.stat.BoundTarget.TheVariants as target
use Rattle.ooo_bound.specs.declared.stat.LinedSimple.{LinedSimple}
use Rattle.ooo_checked.specs.declared.denotation.Denotation.{Denotation}
use Rattle.ooo_checked.specs.declared.denotation.Method.{Method}
use Rattle.ooo_checked.specs.declared.denotation.Method.TheVariants as method
use Rattle.ooo_checked.specs.declared.denotation.Thing.TheVariants as thing
use Rattle.ooo_checked.specs.declared.expr.CheckedExpr.{CheckedExpr, CheckedExpr-F, out-CheckedExpr}
use Rattle.ooo_checked.specs.declared.expr.CheckedExpr.TheOpen as layer
use Rattle.ooo_checked.specs.declared.stat.CheckedDeclarator.{CheckedDeclarator}
use Rattle.ooo_checked.specs.declared.stat.CheckedItem.{CheckedItem}
use Rattle.ooo_checked.specs.declared.stat.CheckedItem.TheVariants as item
use Rattle.ooo_checked.specs.declared.stat.CheckedLocal.{CheckedLocal}
use Rattle.ooo_checked.specs.declared.stat.CheckedSimple.{CheckedSimple}
use Rattle.ooo_checked.specs.declared.stat.CheckedSimple.TheVariants as simple
use Rattle.ooo_checked.specs.declared.stat.CheckedTarget.{CheckedTarget}
use Rattle.ooo_checked.specs.Exprs.{kind_written}
use Rattle.ooo_checked.specs.Things.{is_fifo}
use Rattle.ooo_constants.specs.Meanings.{zero_of}
use Rattle.ooo_numbers.specs.Names.{Numbering, channel_of, function_of, own_event_of, variable_of}
use Rattle.ooo_numbers.specs.Exprs.{expr_of, exprs_of, nothing, time_of, wait_of, method_of}

-- ---- what a value is put into

-- a name by itself
abbrev pub name_target : Numbering → Denotation → BoundTarget
name_target n d = elim d.thing [
  | thing.Variable k ↦ target.Variable (variable_of n d)
  | thing.Parameter k ↦ target.Local k d.number
  | thing.Local k ↦ target.Local k d.number
  | thing.Signal k ↦ target.Signal (channel_of n d)
  | thing.SignalPort direction k ↦ target.Signal (channel_of n d)
  | _ ↦ target.Nothing
]

-- a name, or an element of it at an index
abbrev pub place_of : Numbering → Denotation → Option CheckedExpr → BoundTarget
place_of n d None = name_target n d
place_of n d (Some i) = target.Element (variable_of n d) (expr_of n i)

-- what is assigned to
abbrev pub target_of : Numbering → CheckedTarget → BoundTarget
target_of n t = place_of n t.name.denotes t.index

-- what `nb_read` is given
abbrev pub given_step : Numbering → CheckedExpr-F CheckedExpr → BoundTarget
given_step n (layer.Name k r) = name_target n r.denotes
given_step n (layer.Index k r i) = target.Element (variable_of n r.denotes) (expr_of n i)
given_step n _ = target.Nothing

abbrev pub given_of : Numbering → CheckedExpr → BoundTarget
given_of n e = given_step n (out-CheckedExpr e)

-- the same, if it is given anything
abbrev pub given_target : Numbering → Option CheckedExpr → BoundTarget
given_target n None = target.Nothing
given_target n (Some e) = given_of n e

-- ---- what gives a value

-- an argument of a call of a channel, which has one
abbrev pub argument_of : Numbering → Option CheckedExpr → BoundExpr
argument_of n None = nothing
argument_of n (Some e) = expr_of n e

-- a call of a channel or a port as a whole right side
abbrev pub member_right : Numbering → Denotation → Method → Option CheckedExpr → BoundRight
member_right n d method.Read arg =
    if is_fifo d.thing then right.Read (channel_of n d) else right.Value (bound.Signal (channel_of n d))
member_right n d method.NbRead arg = right.NbRead (channel_of n d) (given_target n arg)
member_right n d method.NbWrite arg = right.NbWrite (channel_of n d) (argument_of n arg)
member_right n d m arg = right.Value (method_of n d m)

-- a call of a function
abbrev pub call_of : Numbering → Denotation → List CheckedExpr → BoundRight
call_of n d args = right.Call (function_of n d) (exprs_of n args)

-- the whole right side of an assignment or of an initial value
abbrev pub right_step : Numbering → CheckedExpr-F CheckedExpr → CheckedExpr → BoundRight
right_step n (layer.Call k r args) e = call_of n r.denotes args
right_step n (layer.Member k r after m arg) e = member_right n r.denotes m arg
right_step n _ e = right.Value (expr_of n e)

abbrev pub right_of : Numbering → CheckedExpr → BoundRight
right_of n e = right_step n (out-CheckedExpr e) e

-- ---- statements

-- the operator of `a op= b`; `=` has none
abbrev pub operator_of : AssignOp → Option Op
operator_of assign.Set = None
operator_of assign.Add = Some op.Add
operator_of assign.Subtract = Some op.Subtract
operator_of assign.Multiply = Some op.Multiply
operator_of assign.Divide = Some op.Divide
operator_of assign.Remainder = Some op.Remainder
operator_of assign.And = Some op.BitAnd
operator_of assign.Or = Some op.BitOr
operator_of assign.Xor = Some op.BitXor
operator_of assign.ShiftLeft = Some op.ShiftLeft
operator_of assign.ShiftRight = Some op.ShiftRight

-- an assignment
abbrev pub assign_of : Numbering → BoundTarget → Option Op → CheckedExpr → BoundSimple
assign_of n t None e = bound_simple.Assign t (right_of n e)
assign_of n t (Some o) e = bound_simple.Update t o (expr_of n e)

-- an int of 1
abbrev pub one : BoundExpr
one = bound.Constant (value.Int (pos 1))

-- `++` and `--`
abbrev pub step_of : Numbering → CheckedTarget → StepOp → BoundSimple
step_of n t step.Up = bound_simple.Update (target_of n t) op.Add one
step_of n t step.Down = bound_simple.Update (target_of n t) op.Subtract one

-- `write` as a statement
abbrev pub write_of : Numbering → Denotation → Option CheckedExpr → BoundSimple
write_of n d arg =
    if is_fifo d.thing then bound_simple.Write (channel_of n d) (argument_of n arg)
    else bound_simple.Assign (target.Signal (channel_of n d)) (right.Value (argument_of n arg))

-- a call of a channel or a port as a statement
abbrev pub member_of : Numbering → Denotation → Method → Option CheckedExpr → BoundSimple
member_of n d method.Write arg = write_of n d arg
member_of n d m arg = bound_simple.Assign target.Nothing (member_right n d m arg)

-- what a print writes
abbrev pub item_of : Numbering → CheckedItem → BoundItem
item_of n (item.Value e) = bound_item.Value (expr_of n e)
item_of n (item.Text t) = bound_item.Text t.value
item_of n (item.Line at) = bound_item.Text (10 ∷ [])
item_of n (item.TimeStamp at) = bound_item.Time

-- the items one after the other
abbrev pub items_of : Numbering → List CheckedItem → List BoundItem
items_of n [] = []
items_of n (x ∷ xs) = item_of n x ∷ items_of n xs

abbrev pub simple_of : Numbering → CheckedSimple → BoundSimple
simple_of n (simple.Assign t op e) = assign_of n (target_of n t) (operator_of op) e
simple_of n (simple.StepAfter t op) = step_of n t op
simple_of n (simple.StepBefore at op t) = step_of n t op
simple_of n (simple.Call r args) = bound_simple.Assign target.Nothing (call_of n r.denotes args)
simple_of n (simple.Member r after m arg) = member_of n r.denotes m arg
simple_of n (simple.Notify r at t) = bound_simple.Notify (own_event_of n r.denotes) (time_of n t)
simple_of n (simple.Cancel r at) = bound_simple.Cancel (own_event_of n r.denotes)
simple_of n (simple.Wait at w) = bound_simple.Wait (wait_of n w)
simple_of n (simple.NextTrigger at w) = bound_simple.NextTrigger (wait_of n w)
simple_of n (simple.Stop at) = bound_simple.Stop
simple_of n (simple.Print at xs) = bound_simple.Print (items_of n xs)

-- the line of a simple statement's first token
abbrev pub line_of : CheckedSimple → ℕ
line_of (simple.Assign t op e) = t.name.word.position.line
line_of (simple.StepAfter t op) = t.name.word.position.line
line_of (simple.StepBefore at op t) = at.line
line_of (simple.Call r args) = r.word.position.line
line_of (simple.Member r after m arg) = r.word.position.line
line_of (simple.Notify r at t) = r.word.position.line
line_of (simple.Cancel r at) = r.word.position.line
line_of (simple.Wait at w) = at.line
line_of (simple.NextTrigger at w) = at.line
line_of (simple.Stop at) = at.line
line_of (simple.Print at xs) = at.line

-- a simple statement with its line
abbrev pub lined_of : Numbering → CheckedSimple → LinedSimple
lined_of n x = record { line = line_of x; simple = simple_of n x }

-- ---- locals

-- the initial value of a local: 0 where none is given
abbrev pub initial_of : Numbering → Kind → Option CheckedExpr → BoundRight
initial_of n k None = right.Value (bound.Constant (zero_of k))
initial_of n k (Some e) = right_of n e

-- a declarator, which is put into its slot
abbrev pub declarator_of : Numbering → Kind → (line : ℕ) → CheckedDeclarator → LinedSimple
declarator_of n k line d = record {
  line = line;
  simple = bound_simple.Assign (target.Local k d.name.denotes.number) (initial_of n k d.value);
}

-- declarators one after the other
abbrev pub declarators_of : Numbering → Kind → (line : ℕ) → List CheckedDeclarator → List LinedSimple
declarators_of n k line [] = []
declarators_of n k line (d ∷ ds) = declarator_of n k line d ∷ declarators_of n k line ds

-- a declaration of locals, whose line is that of its type's first word
abbrev pub local_of : Numbering → CheckedLocal → List LinedSimple
local_of n l = declarators_of n (kind_written l.form.form) l.form.position.line l.names
