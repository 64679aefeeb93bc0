-- Where expressions begin, and which of them can be put into or are known before the simulation.
use Rattle.std.specs.Prelude.{List, Bool, true, false, ◌&&◌, Option}
use Rattle.ooo_lexer.specs.declared.position.Position.{Position}
use Rattle.ooo_checked.specs.declared.denotation.Thing.{Thing}
use Rattle.ooo_checked.specs.declared.denotation.Thing.TheVariants as thing
use Rattle.ooo_checked.specs.declared.expr.CheckedExpr.{CheckedExpr, CheckedExpr-F, fold-CheckedExpr, out-CheckedExpr}
use Rattle.ooo_checked.specs.declared.expr.CheckedExpr.TheOpen as layer
use Rattle.ooo_checked.specs.Things.{is_constant_thing}

abbrev pub first_step : CheckedExpr-F Position → Position
first_step (layer.Number k n) = n.position
first_step (layer.Truth b at) = at
first_step (layer.Name k r) = r.word.position
first_step (layer.Paren k at e) = at
first_step (layer.Index k r i) = r.word.position
first_step (layer.Call k r args) = r.word.position
first_step (layer.Member k r after m arg) = r.word.position
first_step (layer.Prefix k at op e) = at
first_step (layer.Cast k at t e) = at
first_step (layer.Conversion k t e) = t.position
first_step (layer.Binary k op a b) = a
first_step (layer.Choose k c a b) = c

-- the place of an expression's first token
unfoldable pub first_of : CheckedExpr → Position
first_of = fold-CheckedExpr Position first_step

-- a value can be put into the thing by its name alone
abbrev pub takes_value : Thing → Bool
takes_value (thing.Variable k) = true
takes_value (thing.Parameter k) = true
takes_value (thing.Local k) = true
takes_value _ = false

-- values can be put into the thing's elements
abbrev pub takes_elements : Thing → Bool
takes_elements (thing.Array k) = true
takes_elements _ = false

abbrev pub target_step : CheckedExpr-F CheckedExpr → Bool
target_step (layer.Name k r) = takes_value r.denotes.thing
target_step (layer.Index k r i) = takes_elements r.denotes.thing
target_step _ = false

-- `nb_read` can put a value into it: a local, a parameter, a variable of one value, an element of an array
abbrev pub is_target : CheckedExpr → Bool
is_target e = target_step (out-CheckedExpr e)

abbrev pub constant_step : CheckedExpr-F Bool → Bool
constant_step (layer.Number k n) = true
constant_step (layer.Truth b at) = true
constant_step (layer.Name k r) = is_constant_thing r.denotes.thing
constant_step (layer.Paren k at e) = e
constant_step (layer.Index k r i) = false
constant_step (layer.Call k r args) = false
constant_step (layer.Member k r after m arg) = false
constant_step (layer.Prefix k at op e) = e
constant_step (layer.Cast k at t e) = e
constant_step (layer.Conversion k t e) = e
constant_step (layer.Binary k op a b) = a && b
constant_step (layer.Choose k c a b) = c && a && b

-- the value of the expression is known before the simulation
unfoldable pub is_constant : CheckedExpr → Bool
is_constant = fold-CheckedExpr Bool constant_step
