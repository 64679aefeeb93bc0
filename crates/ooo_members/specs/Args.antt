-- Constant expressions, and the arguments of channels, instances and initialisers.
use Rattle.std.specs.Prelude.{ℕ, ◌==◌, List, [], ◌∷◌, ◌++◌, length, map, Bool, true, false, not, ◌&&◌, Option, Some, None}
use Rattle.std.specs.List.{list_all}
use Rattle.ooo_syntax.specs.declared.expr.Expr.{Expr}
use Rattle.ooo_syntax.specs.declared.stat.TimeForm.{TimeForm}
use Rattle.ooo_syntax.specs.declared.stat.TimeForm.TheVariants as time
use Rattle.ooo_syntax.specs.declared.module.Arg.{Arg}
use Rattle.ooo_syntax.specs.declared.module.Arg.TheVariants as arg
use Rattle.ooo_checked.specs.declared.breach.TypeBreach.TheVariants as what
use Rattle.ooo_checked.specs.declared.denotation.Thing.{Thing}
use Rattle.ooo_checked.specs.declared.denotation.Thing.TheVariants as thing
use Rattle.ooo_checked.specs.declared.expr.CheckedExpr.{CheckedExpr}
use Rattle.ooo_checked.specs.declared.stat.CheckedTime.{CheckedTime}
use Rattle.ooo_checked.specs.declared.module.CheckedArg.{CheckedArg}
use Rattle.ooo_checked.specs.declared.module.CheckedArg.TheVariants as checked
use Rattle.ooo_checked.specs.Exprs.{expr_of, right_of}
use Rattle.ooo_checked.specs.Notes.{Note, Checked, breach_when}
use Rattle.ooo_checked.specs.Places.{first_of, is_constant}
use Rattle.ooo_checked.specs.Scopes.{Scope}
use Rattle.ooo_checked.specs.Stats.{time_of}

-- an expression that has to be known before the simulation, at its first token
abbrev pub constant_notes : CheckedExpr → List Note
constant_notes e = breach_when (not (is_constant e)) what.NotConstant (first_of e)

-- with the notes that it isn't known before the simulation
abbrev pub kept_constant : Checked CheckedExpr → Checked CheckedExpr
kept_constant c = record { tree = c.tree; notes = c.notes ++ constant_notes c.tree }

-- a constant expression: an array length, a size, a start value, an argument
abbrev pub constant_of : Expr → Scope → Checked CheckedExpr
constant_of e s = kept_constant (expr_of e s)

-- the right side of an assignment in a constructor, which gives a start value
abbrev pub constant_right : Expr → Scope → Checked CheckedExpr
constant_right e s = kept_constant (right_of e s)

-- what is noted of a time that has to be known
abbrev pub constant_time_notes : TimeForm → Scope → List Note
constant_time_notes (time.Zero at) s = []
constant_time_notes (time.Made at e scale) s = constant_notes (expr_of e s).tree
constant_time_notes (time.Amount e scale) s = constant_notes (expr_of e s).tree

-- a constant time: a period, or the time of `sc_start`
abbrev pub constant_time_of : TimeForm → Scope → Checked CheckedTime
constant_time_of t s = record { tree = (time_of t s).tree; notes = (time_of t s).notes ++ constant_time_notes t s }

-- an argument
abbrev pub arg_of : Arg → Scope → Checked CheckedArg
arg_of (arg.Text t) s = record { tree = checked.Text t; notes = [] }
arg_of (arg.Time t) s = record { tree = checked.Time (constant_time_of t s).tree; notes = (constant_time_of t s).notes }
arg_of (arg.Value e) s = record { tree = checked.Value (constant_of e s).tree; notes = (constant_of e s).notes }

-- arguments one after the other
abbrev pub args_of : List Arg → Scope → List (Checked CheckedArg)
args_of xs s = map (λ x. arg_of x s) xs

-- ---- forms of arguments

-- the argument is a value
abbrev pub is_value : Arg → Bool
is_value (arg.Value e) = true
is_value _ = false

-- all are values, and there are as many
abbrev pub are_values : ℕ → List Arg → Bool
are_values n xs = (length xs == n) && list_all is_value xs

-- a text at most
abbrev pub is_text_form : List Arg → Bool
is_text_form [] = true
is_text_form (arg.Text t ∷ []) = true
is_text_form _ = false

-- a text at most, and then a size at most
abbrev pub is_size_form : List Arg → Bool
is_size_form [] = true
is_size_form (arg.Text t ∷ []) = true
is_size_form (arg.Text t ∷ arg.Value e ∷ []) = true
is_size_form (arg.Value e ∷ []) = true
is_size_form _ = false

-- a text, and a value for each parameter
abbrev pub is_child_form : ℕ → List Arg → Bool
is_child_form params (arg.Text t ∷ xs) = are_values params xs
is_child_form params _ = false

-- arguments of an instance of a module whose constructor has so many parameters; of an unknown module they are right
abbrev pub is_instance_form : (params : Option ℕ) → List Arg → Bool
is_instance_form None xs = true
is_instance_form (Some n) xs = is_child_form n xs

-- the arguments are of the form of the thing, where the constructor of an instance's module has so many parameters
abbrev pub is_form_of : Thing → (params : Option ℕ) → List Arg → Bool
is_form_of (thing.Fifo k) params xs = is_size_form xs
is_form_of (thing.Variable k) params xs = are_values 1 xs
is_form_of (thing.Fixed k is_static) params xs = are_values 1 xs
is_form_of (thing.Instance m) params xs = is_instance_form params xs
is_form_of _ params xs = is_text_form xs
