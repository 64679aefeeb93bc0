-- The event that an expression spells.
use Rattle.std.specs.Prelude.{Option}
use Rattle.ooo_syntax.specs.declared.expr.Expr.{Expr, fold-Expr}
use Rattle.ooo_syntax.specs.declared.stat.Event.{Event}
use Rattle.ooo_grammar.specs.Times.{Spelled, spelled_step}

-- the event that an expression spells, if it has the form of one
unfoldable pub event_of : Expr → Option Event
event_of e = (fold-Expr Spelled spelled_step e).single
