-- What the names of an expression denote, the kinds of its parts, and what is wrong with it.
use Rattle.std.specs.Prelude.{ℕ, ◌==◌, List, [], ◌∷◌, ◌++◌, length, map, Bool, true, false, not, ◌&&◌, Option, Some, None, is_some, if◌then◌else◌}
use Rattle.ooo_lexer.specs.declared.position.Position.{Position}
use Rattle.ooo_value.specs.declared.kinds.Kind.{Kind}
use Rattle.ooo_value.specs.declared.kinds.Kind.TheVariants as kind
use Rattle.ooo_value.specs.Kinds.{promoted_kind, common_kind}
use Rattle.ooo_value.specs.Values.{kind_of as kind_of_value}
use Rattle.ooo_syntax.specs.declared.leaves.Word.{Word}
use Rattle.ooo_syntax.specs.declared.leaves.TypeForm.{TypeForm}
use Rattle.ooo_syntax.specs.declared.leaves.TypeForm.TheVariants as written
use Rattle.ooo_syntax.specs.declared.expr.PrefixOp.{PrefixOp}
use Rattle.ooo_syntax.specs.declared.expr.PrefixOp.TheVariants as prefix
use Rattle.ooo_syntax.specs.declared.expr.BinaryOp.{BinaryOp}
use Rattle.ooo_syntax.specs.declared.expr.BinaryOp.TheVariants as binary
use Rattle.ooo_syntax.specs.declared.expr.Expr.{Expr, Expr-F, fold-Expr, out-Expr}
use Rattle.ooo_syntax.specs.declared.expr.Expr.TheOpen as layer
use Rattle.ooo_checked.specs.declared.breach.TypeBreach.TheVariants as what
use Rattle.ooo_checked.specs.declared.denotation.Thing.{Thing}
use Rattle.ooo_checked.specs.declared.denotation.Thing.TheVariants as thing
use Rattle.ooo_checked.specs.declared.denotation.Denotation.{Denotation}
use Rattle.ooo_checked.specs.declared.denotation.Resolved.{Resolved}
use Rattle.ooo_checked.specs.declared.denotation.Method.{Method}
use Rattle.ooo_checked.specs.declared.denotation.Method.TheVariants as method
use Rattle.ooo_checked.specs.declared.place.CallPlace.{CallPlace}
use Rattle.ooo_checked.specs.declared.place.CallPlace.TheVariants.{Whole, Inside}
use Rattle.ooo_checked.specs.CallPlaces.{is_inside, is_used}
use Rattle.ooo_checked.specs.declared.expr.CheckedExpr.{CheckedExpr}
use Rattle.ooo_checked.specs.declared.expr.CheckedExpr.TheVariants as expr
use Rattle.ooo_checked.specs.Kinds.{kind_of}
use Rattle.ooo_checked.specs.Notes.{Note, Breaks, Calls, Waits, Checked, breach_when, trees, all_notes}
use Rattle.ooo_checked.specs.Places.{first_of, is_target}
use Rattle.ooo_checked.specs.Scopes.{Scope, meaning_of}
use Rattle.ooo_checked.specs.Things.{has_value, is_array, value_kind, result_kind, method_of, is_blocking, has_effect, gives_nothing, argument_count, method_kind}

-- ---- kinds

-- the kind that a type's words mean
abbrev pub kind_written : TypeForm → Kind
kind_written written.Bool = kind.Bool
kind_written written.Int = kind.Int
kind_written written.Unsigned = kind.Uint
kind_written written.UnsignedInt = kind.Uint
kind_written written.LongLong = kind.Long
kind_written written.LongLongInt = kind.Long
kind_written written.UnsignedLongLong = kind.Ulong
kind_written written.UnsignedLongLongInt = kind.Ulong

-- the kind of a prefix's value: `!` gives a bool, the others the promoted kind (ISO C++ [expr.unary.op])
abbrev pub prefix_kind : PrefixOp → Kind → Kind
prefix_kind prefix.Not k = kind.Bool
prefix_kind _ k = promoted_kind k

-- the kind of a binary operator's value: a bool of a comparison or of `&&` and `||`, the left side's of a shift, and
-- else the kind in which both meet (ISO C++ [expr.mul] to [expr.log.or])
abbrev pub binary_kind : BinaryOp → Kind → Kind → Kind
binary_kind binary.Either j k = kind.Bool
binary_kind binary.Both j k = kind.Bool
binary_kind binary.Equal j k = kind.Bool
binary_kind binary.NotEqual j k = kind.Bool
binary_kind binary.Less j k = kind.Bool
binary_kind binary.LessEqual j k = kind.Bool
binary_kind binary.Greater j k = kind.Bool
binary_kind binary.GreaterEqual j k = kind.Bool
binary_kind binary.ShiftLeft j k = promoted_kind j
binary_kind binary.ShiftRight j k = promoted_kind j
binary_kind _ j k = common_kind j k

-- the kind of a choice: two bools stay bool, other kinds meet (ISO C++ [expr.cond])
abbrev pub choice_kind : Kind → Kind → Kind
choice_kind kind.Bool kind.Bool = kind.Bool
choice_kind j k = common_kind j k

-- ---- names

-- a word with what it denotes
abbrev pub resolved : Scope → Word → Resolved
resolved s w = record { word = w; denotes = meaning_of s w.name }

-- the name of a thing stands where a thing that passes the test may stand: it is unknown, of the wrong kind, or right
abbrev pub name_notes : Thing → Bool → Position → List Note
name_notes thing.Nothing passes at = Breaks what.UnknownName at ∷ []
name_notes _ passes at = breach_when (not passes) what.WrongKind at

-- a name that stands for its value
abbrev pub value_notes : Thing → Position → List Note
value_notes t at = name_notes t (has_value t) at

-- a name that stands before an index
abbrev pub index_notes : Thing → Position → List Note
index_notes t at = name_notes t (is_array t) at

-- ---- calls

-- a member function's call, at its name: inside an expression, without a value where one is used, with another number
-- of arguments; and that it is called
abbrev pub function_notes : CallPlace → (gives : Option Kind) → (params function args : ℕ) → Position → List Note
function_notes place gives params function args at =
    breach_when (is_used place && not (is_some gives)) what.WrongKind at
    ++ breach_when (is_inside place) what.EffectInside at
    ++ breach_when (not (args == params)) what.WrongCount at ++ Calls at function ∷ []

-- a call by a name
abbrev pub call_notes : CallPlace → Denotation → ℕ → Position → List Note
call_notes place d args at = elim d.thing [
  | thing.Nothing ↦ Breaks what.UnknownName at ∷ []
  | thing.Function gives params ↦ function_notes place gives params d.number args at
  | _ ↦ Breaks what.WrongKind at ∷ []
]

-- a wait, where a call may have to wait
abbrev pub wait_when : Bool → Position → List Note
wait_when b at = if b then Waits at ∷ [] else []

-- a call of a channel or a port, at the word after the dot
abbrev pub method_notes : CallPlace → Thing → Method → ℕ → Position → List Note
method_notes place t method.Nothing args at = Breaks what.UnknownName at ∷ []
method_notes place t m args at =
    breach_when (is_used place && gives_nothing m) what.WrongKind at
    ++ breach_when (not (args == argument_count m)) what.WrongCount at
    ++ breach_when (is_inside place && has_effect t m) what.EffectInside at
    ++ wait_when (is_blocking t m) at

-- a call by two names, whose second is at the second place
abbrev pub member_notes : CallPlace → Thing → Method → ℕ → (at dot : Position) → List Note
member_notes place thing.Nothing m args at dot = Breaks what.UnknownName at ∷ []
member_notes place t m args at dot = method_notes place t m args dot

-- an argument of `nb_read` has to be what a value can be put into
abbrev pub target_notes : Method → CheckedExpr → List Note
target_notes method.NbRead e = breach_when (not (is_target e)) what.WrongKind (first_of e)
target_notes _ e = []

-- the argument of a call by two names
abbrev pub argument_notes : Method → Option (Checked CheckedExpr) → List Note
argument_notes m None = []
argument_notes m (Some c) = c.notes ++ target_notes m c.tree

-- how many arguments there are
abbrev pub count_of : {T : Type 0} → Option T → ℕ
count_of None = 0
count_of (Some x) = 1

-- the tree of an argument
abbrev pub tree_of : Option (Checked CheckedExpr) → Option CheckedExpr
tree_of None = None
tree_of (Some c) = Some c.tree

-- ---- expressions

-- a call of a function in an expression
abbrev pub call_of : CallPlace → Word → List (Checked CheckedExpr) → Scope → Checked CheckedExpr
call_of place w args s =
    let r = resolved s w in record {
      tree = expr.Call (result_kind r.denotes.thing) r (trees args);
      notes = call_notes place r.denotes (length args) w.position ++ all_notes args;
    }

-- a call of a channel or a port in an expression
abbrev pub member_of : CallPlace → Word → Word → Option (Checked CheckedExpr) → Scope → Checked CheckedExpr
member_of place w after arg s =
    let r = resolved s w in
    let m = method_of r.denotes.thing after.name in record {
      tree = expr.Member (method_kind r.denotes.thing m) r after m (tree_of arg);
      notes = member_notes place r.denotes.thing m (count_of arg) w.position after.position ++ argument_notes m arg;
    }

-- a name by itself
abbrev pub name_of : Word → Scope → Checked CheckedExpr
name_of w s =
    let r = resolved s w in
    record { tree = expr.Name (value_kind r.denotes.thing) r; notes = value_notes r.denotes.thing w.position }

-- an element of an array
abbrev pub index_of : Word → Checked CheckedExpr → Scope → Checked CheckedExpr
index_of w i s =
    let r = resolved s w in record {
      tree = expr.Index (value_kind r.denotes.thing) r i.tree;
      notes = index_notes r.denotes.thing w.position ++ i.notes;
    }

-- what is noted of each form of expression, whose parts are checked in the same scope
abbrev pub expr_step : Expr-F (Scope → Checked CheckedExpr) → Scope → Checked CheckedExpr
expr_step (layer.Number n) s = record { tree = expr.Number (kind_of_value n.value) n; notes = [] }
expr_step (layer.Truth b at) s = record { tree = expr.Truth b at; notes = [] }
expr_step (layer.Name w) s = name_of w s
expr_step (layer.Paren at e) s = record { tree = expr.Paren (kind_of (e s).tree) at (e s).tree; notes = (e s).notes }
expr_step (layer.Index w i) s = index_of w (i s) s
expr_step (layer.Call w es) s = call_of Inside w (map (λ e. e s) es) s
expr_step (layer.Member w after None) s = member_of Inside w after None s
expr_step (layer.Member w after (Some e)) s = member_of Inside w after (Some (e s)) s
expr_step (layer.Prefix at op e) s =
    record { tree = expr.Prefix (prefix_kind op (kind_of (e s).tree)) at op (e s).tree; notes = (e s).notes }
expr_step (layer.Cast at t e) s = record { tree = expr.Cast (kind_written t.form) at t (e s).tree; notes = (e s).notes }
expr_step (layer.Conversion t e) s =
    record { tree = expr.Conversion (kind_written t.form) t (e s).tree; notes = (e s).notes }
expr_step (layer.Binary op a b) s = record {
  tree = expr.Binary (binary_kind op (kind_of (a s).tree) (kind_of (b s).tree)) op (a s).tree (b s).tree;
  notes = (a s).notes ++ (b s).notes;
}
expr_step (layer.Choose c a b) s = record {
  tree = expr.Choose (choice_kind (kind_of (a s).tree) (kind_of (b s).tree)) (c s).tree (a s).tree (b s).tree;
  notes = (c s).notes ++ (a s).notes ++ (b s).notes;
}

-- an expression inside another or by itself, where no call may stand that does more than give a value
unfoldable pub expr_of : Expr → Scope → Checked CheckedExpr
expr_of = fold-Expr (Scope → Checked CheckedExpr) expr_step

-- the expressions one after the other
abbrev pub exprs_of : List Expr → Scope → List (Checked CheckedExpr)
exprs_of es s = map (λ e. expr_of e s) es

-- an expression, if there is one
abbrev pub option_of : Option Expr → Scope → Option (Checked CheckedExpr)
option_of None s = None
option_of (Some e) s = Some (expr_of e s)

-- the whole right side of an assignment or of an initial value, which may be a call of any sort
abbrev pub right_step : Expr-F Expr → Expr → Scope → Checked CheckedExpr
right_step (layer.Call w es) e s = call_of Whole w (exprs_of es s) s
right_step (layer.Member w after arg) e s = member_of Whole w after (option_of arg s) s
right_step _ e s = expr_of e s

abbrev pub right_of : Expr → Scope → Checked CheckedExpr
right_of e s = right_step (out-Expr e) e s
