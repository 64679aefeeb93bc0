-- The kinds of expressions, and the parts of bodies.
use Rattle.std.specs.Prelude.{ℕ, List, [], ◌∷◌, ◌++◌, Option, Some, None, option_map, slice_get, Bool, true, false, ◌||◌}
use Rattle.ooo_value.specs.declared.kinds.Kind.TheVariants as value_kind
use Rattle.ooo_value.specs.Kinds.{promoted_kind}
use Rattle.ooo_value.specs.Operators.{binary_kind}
use Rattle.ooo_value.specs.Values.{kind_of}
use Rattle.ooo_code.specs.Sound.{Typed, if_typed, variable_kind, signal_kind, fifo_kind, if_bool, of_two}
use Rattle.ooo_bound.specs.declared.expr.BoundExpr.{BoundExpr, BoundExpr-F, fold-BoundExpr}
use Rattle.ooo_bound.specs.declared.expr.BoundExpr.TheOpen as layer
use Rattle.ooo_bound.specs.declared.model.Bound.{Bound}
use Rattle.ooo_bound.specs.declared.stat.BoundRight.{BoundRight}
use Rattle.ooo_bound.specs.declared.stat.BoundRight.TheVariants as right
use Rattle.ooo_bound.specs.declared.stat.BoundSimple.{BoundSimple}
use Rattle.ooo_bound.specs.declared.stat.BoundSimple.TheVariants as simple
use Rattle.ooo_bound.specs.declared.stat.BoundStat.{BoundStat, BoundStat-F, fold-BoundStat}
use Rattle.ooo_bound.specs.declared.stat.BoundStat.TheOpen as stat
use Rattle.ooo_bound.specs.declared.stat.LinedSimple.{LinedSimple}

-- ---- kinds

-- the kind of each form of expression, by those of its parts; none, where it names what isn't there
abbrev pub kind_step : Bound → BoundExpr-F Typed → Typed
kind_step b (layer.Constant v) = Some (kind_of v)
kind_step b (layer.Local k n) = Some k
kind_step b (layer.Variable x) = variable_kind (slice_get b.variables x)
kind_step b (layer.Element x i) = if_typed i (variable_kind (slice_get b.variables x))
kind_step b (layer.Signal c) = signal_kind (slice_get b.channels c)
kind_step b (layer.Changed c) = if_typed (signal_kind (slice_get b.channels c)) (Some value_kind.Bool)
kind_step b (layer.Edge c up) = if_bool (signal_kind (slice_get b.channels c))
kind_step b (layer.Available c) = if_typed (fifo_kind (slice_get b.channels c)) (Some value_kind.Int)
kind_step b (layer.Free c) = if_typed (fifo_kind (slice_get b.channels c)) (Some value_kind.Int)
kind_step b (layer.Convert k e) = if_typed e (Some k)
kind_step b (layer.Promote e) = option_map promoted_kind e
kind_step b (layer.Negate e) = option_map promoted_kind e
kind_step b (layer.Invert e) = option_map promoted_kind e
kind_step b (layer.Not e) = if_typed e (Some value_kind.Bool)
kind_step b (layer.Binary op x y) = of_two (binary_kind op) x y
kind_step b (layer.Both x y) = if_typed x (if_typed y (Some value_kind.Bool))
kind_step b (layer.Either x y) = if_typed x (if_typed y (Some value_kind.Bool))
kind_step b (layer.Choose k c x y) = if_typed c (if_typed x (if_typed y (Some k)))

-- the kind of an expression, where all that it names is there
unfoldable pub expression_kind : Bound → BoundExpr → Typed
expression_kind b e = fold-BoundExpr Typed (kind_step b) e

-- ---- the parts of bodies, in the order of the text

abbrev pub joined : {A : Type 0} → List (List A) → List A
joined [] = []
joined (x ∷ xs) = x ++ joined xs

abbrev pub in_option : {A : Type 0} → Option (List A) → List A
in_option None = []
in_option (Some xs) = xs

abbrev pub list_of : {A : Type 0} → Option A → List A
list_of None = []
list_of (Some x) = x ∷ []

-- the statements without statements in them
abbrev pub simples_step : BoundStat-F (List LinedSimple) → List LinedSimple
simples_step (stat.Block parts) = joined parts
simples_step (stat.Simple x) = x ∷ []
simples_step (stat.If line e a b) = a ++ in_option b
simples_step (stat.While line e a) = a
simples_step (stat.Do line a e) = a
simples_step (stat.For line begin e after a) = begin ++ list_of after ++ a
simples_step (stat.Break line) = []
simples_step (stat.Continue line) = []
simples_step (stat.Return line e) = []

unfoldable pub simples_of : BoundStat → List LinedSimple
simples_of s = fold-BoundStat (List LinedSimple) simples_step s

-- the tests, and what is returned
abbrev pub values_step : BoundStat-F (List BoundExpr) → List BoundExpr
values_step (stat.Block parts) = joined parts
values_step (stat.Simple x) = []
values_step (stat.If line e a b) = e ∷ a ++ in_option b
values_step (stat.While line e a) = e ∷ a
values_step (stat.Do line a e) = a ++ e ∷ []
values_step (stat.For line begin e after a) = list_of e ++ a
values_step (stat.Break line) = []
values_step (stat.Continue line) = []
values_step (stat.Return line e) = list_of e

unfoldable pub values_of : BoundStat → List BoundExpr
values_of s = fold-BoundStat (List BoundExpr) values_step s

-- a `break` or a `continue` stands outside of loops
abbrev pub any_true : List Bool → Bool
any_true [] = false
any_true (x ∷ xs) = x || any_true xs

abbrev pub is_true : Option Bool → Bool
is_true None = false
is_true (Some x) = x

abbrev pub jumps_step : BoundStat-F Bool → Bool
jumps_step (stat.Block parts) = any_true parts
jumps_step (stat.Simple x) = false
jumps_step (stat.If line e a b) = a || is_true b
jumps_step (stat.While line e a) = false
jumps_step (stat.Do line a e) = false
jumps_step (stat.For line begin e after a) = false
jumps_step (stat.Break line) = true
jumps_step (stat.Continue line) = true
jumps_step (stat.Return line e) = false

unfoldable pub jumps_out : BoundStat → Bool
jumps_out s = fold-BoundStat Bool jumps_step s

-- the simple statements of a body, its tests and what it returns, and whether a jump leaves it
abbrev pub simples_in : List BoundStat → List LinedSimple
simples_in [] = []
simples_in (s ∷ ss) = simples_of s ++ simples_in ss

abbrev pub values_in : List BoundStat → List BoundExpr
values_in [] = []
values_in (s ∷ ss) = values_of s ++ values_in ss

abbrev pub some_jumps_out : List BoundStat → Bool
some_jumps_out [] = false
some_jumps_out (s ∷ ss) = jumps_out s || some_jumps_out ss

-- ---- waits and calls

-- a statement may wait: `wait`, or a blocking `read` or `write` of a fifo
abbrev pub right_waits : BoundRight → Bool
right_waits (right.Read c) = true
right_waits _ = false

abbrev pub may_wait : BoundSimple → Bool
may_wait (simple.Assign t r) = right_waits r
may_wait (simple.Write c e) = true
may_wait (simple.Wait w) = true
may_wait _ = false

-- the functions that a statement calls
abbrev pub right_calls : BoundRight → List ℕ
right_calls (right.Call f args) = f ∷ []
right_calls _ = []

abbrev pub simple_calls : BoundSimple → List ℕ
simple_calls (simple.Assign t r) = right_calls r
simple_calls _ = []

abbrev pub calls_of : List LinedSimple → List ℕ
calls_of [] = []
calls_of (x ∷ xs) = simple_calls x.simple ++ calls_of xs
