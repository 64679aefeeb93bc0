-- Expressions with numbers in place of names.
use Rattle.std.specs.Prelude.{List, [], ◌∷◌, Bool, true, false, Option, Some, None, Result, Ok, Err}
use Rattle.ooo_time.specs.declared.time.Scale.{Scale}
use Rattle.ooo_time.specs.declared.time.Time.{Time}
use Rattle.ooo_value.specs.declared.kinds.Kind.TheVariants as kind
use Rattle.ooo_value.specs.declared.operators.Op.{Op}
use Rattle.ooo_value.specs.declared.values.Value.TheVariants as value
use Rattle.ooo_syntax.specs.declared.expr.PrefixOp.{PrefixOp}
use Rattle.ooo_syntax.specs.declared.expr.PrefixOp.TheVariants as prefix
use Rattle.ooo_syntax.specs.declared.expr.BinaryOp.{BinaryOp}
use Rattle.ooo_syntax.specs.declared.expr.BinaryOp.TheVariants as binary
use Rattle.ooo_bound.specs.declared.expr.BoundExpr.{BoundExpr}
use Rattle.ooo_bound.specs.declared.expr.BoundExpr.TheVariants as bound
use Rattle.ooo_bound.specs.declared.expr.BoundTime.{BoundTime}
use Rattle.ooo_bound.specs.declared.expr.BoundTime.TheVariants as bound_time
use Rattle.ooo_bound.specs.declared.expr.BoundWait.{BoundWait}
use Rattle.ooo_checked.specs.declared.denotation.Denotation.{Denotation}
use Rattle.ooo_checked.specs.declared.denotation.Method.{Method}
use Rattle.ooo_checked.specs.declared.denotation.Method.TheVariants as method
use Rattle.ooo_checked.specs.declared.denotation.Thing.TheVariants as thing
use Rattle.ooo_checked.specs.declared.expr.CheckedExpr.{CheckedExpr, CheckedExpr-F, fold-CheckedExpr}
use Rattle.ooo_checked.specs.declared.expr.CheckedExpr.TheOpen as layer
use Rattle.ooo_checked.specs.declared.stat.CheckedAwaited.{CheckedAwaited}
use Rattle.ooo_checked.specs.declared.stat.CheckedAwaited.TheVariants as awaited
use Rattle.ooo_checked.specs.declared.stat.CheckedTime.{CheckedTime}
use Rattle.ooo_checked.specs.declared.stat.CheckedTime.TheVariants as time
use Rattle.ooo_checked.specs.Exprs.{kind_written}
use Rattle.ooo_constants.specs.declared.times.TimeBreach.{TimeBreach}
use Rattle.ooo_constants.specs.Meanings.{constant_at, zero_of}
use Rattle.ooo_constants.specs.Times.{is_fixed, no_time, time_of as constant_time_of}
use Rattle.ooo_constants.specs.Values.{operator_of}
use Rattle.ooo_numbers.specs.Names.{Numbering, channel_of, events_of, known_in, variable_of}

-- ---- names

-- an int of 0, for what has no value
abbrev pub nothing : BoundExpr
nothing = bound.Constant (zero_of kind.Int)

-- a name by itself
abbrev pub name_of : Numbering → Denotation → BoundExpr
name_of n d = elim d.thing [
  | thing.FileConstant k ↦ bound.Constant (constant_at n.file k d.number)
  | thing.Fixed k is_static ↦ bound.Constant (constant_at n.members k d.number)
  | thing.Variable k ↦ bound.Variable (variable_of n d)
  | thing.Signal k ↦ bound.Signal (channel_of n d)
  | thing.SignalPort direction k ↦ bound.Signal (channel_of n d)
  | thing.Parameter k ↦ bound.Local k d.number
  | thing.Local k ↦ bound.Local k d.number
  | _ ↦ nothing
]

-- a call of a channel or a port that gives a value and does nothing
abbrev pub method_of : Numbering → Denotation → Method → BoundExpr
method_of n d method.Read = bound.Signal (channel_of n d)
method_of n d method.Event = bound.Changed (channel_of n d)
method_of n d method.Posedge = bound.Edge (channel_of n d) true
method_of n d method.Negedge = bound.Edge (channel_of n d) false
method_of n d method.NumAvailable = bound.Available (channel_of n d)
method_of n d method.NumFree = bound.Free (channel_of n d)
method_of n d _ = nothing

-- ---- operators

abbrev pub prefixed : PrefixOp → BoundExpr → BoundExpr
prefixed prefix.Not e = bound.Not e
prefixed prefix.Invert e = bound.Invert e
prefixed prefix.Negate e = bound.Negate e
prefixed prefix.Keep e = bound.Promote e

-- a sign that means an operator on values, or else `&&` or `||`
abbrev pub operated : BinaryOp → Option Op → BoundExpr → BoundExpr → BoundExpr
operated sign (Some o) a b = bound.Binary o a b
operated binary.Both None a b = bound.Both a b
operated sign None a b = bound.Either a b

-- ---- expressions

abbrev pub expr_step : Numbering → CheckedExpr-F BoundExpr → BoundExpr
expr_step n (layer.Number k number) = bound.Constant number.value
expr_step n (layer.Truth b at) = bound.Constant (value.Bool b)
expr_step n (layer.Name k r) = name_of n r.denotes
expr_step n (layer.Paren k at e) = e
expr_step n (layer.Index k r i) = bound.Element (variable_of n r.denotes) i
expr_step n (layer.Call k r args) = nothing
expr_step n (layer.Member k r after m arg) = method_of n r.denotes m
expr_step n (layer.Prefix k at op e) = prefixed op e
expr_step n (layer.Cast k at t e) = bound.Convert (kind_written t.form) e
expr_step n (layer.Conversion k t e) = bound.Convert (kind_written t.form) e
expr_step n (layer.Binary k sign a b) = operated sign (operator_of sign) a b
expr_step n (layer.Choose k c a b) = bound.Choose k c a b

-- an expression
unfoldable pub expr_of : Numbering → CheckedExpr → BoundExpr
expr_of n e = fold-CheckedExpr BoundExpr (expr_step n) e

-- expressions one after the other
abbrev pub exprs_of : Numbering → List CheckedExpr → List BoundExpr
exprs_of n [] = []
exprs_of n (e ∷ es) = expr_of n e ∷ exprs_of n es

-- an expression, if there is one
abbrev pub option_of : Numbering → Option CheckedExpr → Option BoundExpr
option_of n None = None
option_of n (Some e) = Some (expr_of n e)

-- ---- times and waits

-- the time; one with which something is wrong counts as none
abbrev pub time_in : Result Time TimeBreach → Time
time_in (Ok t) = t
time_in (Err what) = no_time

-- an amount in a unit: a time that is known before the simulation, where the amount is
abbrev pub amount_of : Numbering → (is_known : Bool) → CheckedTime → CheckedExpr → Scale → BoundTime
amount_of n true t e scale = bound_time.Fixed (time_in (constant_time_of (known_in n) t))
amount_of n false t e scale = bound_time.Amount (expr_of n e) scale

-- a time
abbrev pub time_of : Numbering → CheckedTime → BoundTime
time_of n (time.Zero at) = bound_time.Fixed no_time
time_of n (time.Made at e scale) = amount_of n (is_fixed e) (time.Made at e scale) e scale
time_of n (time.Amount e scale) = amount_of n (is_fixed e) (time.Amount e scale) e scale

-- what a wait or a `next_trigger` waits for
abbrev pub wait_of : Numbering → CheckedAwaited → BoundWait
wait_of n awaited.Sensitive = record { time = None; events = []; is_static = true }
wait_of n (awaited.Delay t) = record { time = Some (time_of n t); events = []; is_static = false }
wait_of n (awaited.Until t es) = record { time = Some (time_of n t); events = events_of n es; is_static = false }
wait_of n (awaited.Events es) = record { time = None; events = events_of n es; is_static = false }
