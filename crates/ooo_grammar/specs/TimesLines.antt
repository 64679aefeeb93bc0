-- The lines of EBNF of times and events, written by hand, each beside the code that prints as it.
use Rattle.std.specs.Prelude.{◌≡◌, List, [], ◌∷◌, Some}
use Rattle.ooo_syntax.specs.declared.terminal.Terminal.TheVariants as terminal
use Rattle.ooo_syntax.specs.declared.expr.Expr.{Expr}
use Rattle.ooo_syntax.specs.declared.stat.TimeForm.{TimeForm}
use Rattle.ooo_syntax.specs.declared.stat.Event.{Event}
use Rattle.ooo_syntax.specs.declared.stat.TimeForm.TheVariants as time
use Rattle.ooo_grammar.specs.Names.{names, expr_name}
use Rattle.ooo_grammar.specs.Shapes.{Token, Form, value_of, shape, t, line, one_of_these, opt, rep}
use Rattle.ooo_grammar.specs.Expressions.{value}
use Rattle.ooo_grammar.specs.Times.{after_amount, after_awaited, after_time, awaited_expression, awaiting, event, events, named_time, timed, unit_of_time}

abbrev pub UnitOfTimeLine : Type 0
UnitOfTimeLine = shape unit_of_time ≡ Token (terminal.ScPs ∷ terminal.ScNs ∷ terminal.ScUs ∷ terminal.ScMs ∷ terminal.ScSec ∷ [])

abbrev pub NamedTimeLine : Type 0
NamedTimeLine = shape named_time ≡ one_of_these (t terminal.ScZeroTime ∷ line (t terminal.ScTime ∷ t terminal.Open ∷ Form expr_name ∷ t terminal.Comma ∷ shape unit_of_time ∷ t terminal.Close ∷ []) ∷ [])

abbrev pub TimedLine : Type 0
TimedLine = shape timed ≡ one_of_these (shape named_time ∷ line (shape value ∷ t terminal.Comma ∷ shape unit_of_time ∷ []) ∷ [])

abbrev pub EventLine : Type 0
EventLine = shape event ≡ line (Token names ∷ opt (t terminal.Dot ∷ Token (terminal.Word ∷ terminal.Bind ∷ []) ∷ t terminal.Open ∷ t terminal.Close ∷ []) ∷ [])

abbrev pub EventsLine : Type 0
EventsLine = shape events ≡ line (shape event ∷ rep (t terminal.Or ∷ shape event ∷ []) ∷ [])

abbrev pub AfterTimeLine : Type 0
AfterTimeLine = (x : TimeForm) → shape (after_time x) ≡ one_of_these (line (t terminal.Comma ∷ shape event ∷ rep (t terminal.Or ∷ shape event ∷ []) ∷ t terminal.Close ∷ []) ∷ t terminal.Close ∷ [])

abbrev pub AfterAmountLine : Type 0
AfterAmountLine = (e : Expr) → shape (after_amount e) ≡ line (t terminal.Comma ∷ shape unit_of_time ∷ shape (after_time (time.Amount e (value_of unit_of_time))) ∷ [])

abbrev pub AfterAwaitedLine : Type 0
AfterAwaitedLine = (es : List Event) (e : Expr) → shape (after_awaited (Some es) e) ≡ one_of_these (t terminal.Close ∷ shape (after_amount e) ∷ [])

abbrev pub AwaitingLine : Type 0
AwaitingLine = shape awaiting ≡ line (t terminal.Open ∷ one_of_these (t terminal.Close ∷ line (shape named_time ∷ shape (after_time (value_of named_time)) ∷ []) ∷ shape awaited_expression ∷ []) ∷ [])

-- each code is the line that stands beside it here
abbrev pub TimesLines : Type 0
TimesLines = UnitOfTimeLine × NamedTimeLine × TimedLine × EventLine × EventsLine × AfterTimeLine × AfterAmountLine × AfterAwaitedLine × AwaitingLine
