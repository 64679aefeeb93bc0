-- Times and events, and what `wait` and `next_trigger` wait for.
use Rattle.std.specs.Prelude.{◌≡◌, true, false, List, [], ◌∷◌, ◌++◌, Option, Some, None, refl}
use Rattle.ooo_syntax.specs.declared.terminal.Terminal.TheVariants as terminal
use Rattle.ooo_syntax.specs.declared.symbol.Mark.{Mark}
use Rattle.ooo_syntax.specs.declared.leaves.Word.{Word}
use Rattle.ooo_syntax.specs.declared.expr.BinaryOp.TheVariants as op
use Rattle.ooo_syntax.specs.declared.expr.Expr.{Expr, Expr-F, fold-Expr}
use Rattle.ooo_syntax.specs.declared.expr.Expr.TheOpen as layer
use Rattle.ooo_syntax.specs.declared.stat.TimeForm.{TimeForm}
use Rattle.ooo_syntax.specs.declared.stat.TimeForm.TheVariants as time
use Rattle.ooo_syntax.specs.declared.stat.Event.{Event}
use Rattle.ooo_syntax.specs.declared.stat.Awaited.{Awaited}
use Rattle.ooo_syntax.specs.declared.stat.Awaited.TheVariants as awaited
use Rattle.ooo_time.specs.declared.time.Scale.{Scale}
use Rattle.ooo_time.specs.declared.time.Scale.TheVariants as scale
use Rattle.ooo_grammar.specs.Sets.{Terminals, disjoint}
use Rattle.ooo_grammar.specs.Names.{names, begins_expr, after_expr}
use Rattle.ooo_grammar.specs.Codes.{Code, pair, link, choice, mapped, deeper}
use Rattle.ooo_grammar.specs.Combinators.{none, always, quoted, Table, terminals_of, table, skip, skip_inside, led, ended, in_parens, to, optional, separated}
use Rattle.ooo_grammar.specs.Lexis.{word, member_word}
use Rattle.ooo_grammar.specs.Expressions.{row, value, inner_value}

-- scale = "SC_PS" | "SC_NS" | "SC_US" | "SC_MS" | "SC_SEC"
abbrev pub scale_table : Table Scale
scale_table = record {
  first = row terminal.ScPs scale.Ps;
  others = row terminal.ScNs scale.Ns ∷ row terminal.ScUs scale.Us ∷ row terminal.ScMs scale.Ms ∷ row terminal.ScSec scale.Sec ∷ [];
}

unfoldable pub unit_of_time : Code Scale (terminals_of scale_table) none false
unit_of_time = table scale_table

-- expr "," scale, one level deeper
unfoldable pub inner_amount : Mark → Code TimeForm begins_expr none false
inner_amount k = pair inner_value (λ e. skip_inside terminal.Comma (to (λ u. time.Made k.position e u) (deeper unit_of_time))) refl

-- "SC_ZERO_TIME" | "sc_time" "(" expr "," scale ")"
unfoldable pub named_time : Code TimeForm (terminal.ScZeroTime ∷ terminal.ScTime ∷ []) none false
named_time = choice (to (λ k. time.Zero k.position) (quoted terminal.ScZeroTime)) (led terminal.ScTime (λ k. in_parens (inner_amount k) refl)) refl

-- time = expr "," scale | "sc_time" "(" expr "," scale ")" | "SC_ZERO_TIME"
unfoldable pub timed : Code TimeForm (terminal.ScZeroTime ∷ terminal.ScTime ∷ begins_expr) none false
timed = choice named_time (pair value (λ e. skip terminal.Comma (to (λ u. time.Amount e u) unit_of_time)) refl) refl

-- "." word "(" ")"
unfoldable pub event_call : Code Word (terminal.Dot ∷ []) none false
event_call = skip terminal.Dot (ended terminal.Close (ended terminal.Open member_word refl) refl)

-- event = word ["." word "(" ")"]
unfoldable pub event : Code Event names (always (terminal.Dot ∷ [])) false
event = pair word (λ w. to (λ m. record { name = w; call = m }) (optional event_call)) refl

-- events = event {"|" event}
unfoldable pub events : Code (List Event) names (always (terminal.Or ∷ terminal.Dot ∷ [])) false
events = separated terminal.Or event refl

-- ---- wait

-- one event, or a list of them, that an expression spells
pub record Spelled : Type 0 where
  pub single : Option Event
  pub several : Option (List Event)

abbrev pub one_event : Event → Spelled
one_event e = record { single = Some e; several = Some (e ∷ []) }

abbrev pub no_event : Spelled
no_event = record { single = None; several = None }

abbrev pub joined : Option (List Event) → Option Event → Option (List Event)
joined (Some es) (Some e) = Some (es ++ e ∷ [])
joined _ _ = None

abbrev pub spelled_step : Expr-F Spelled → Spelled
spelled_step (layer.Name w) = one_event (record { name = w; call = None })
spelled_step (layer.Member w m None) = one_event (record { name = w; call = Some m })
spelled_step (layer.Binary op.Or a b) = record { single = None; several = joined a.several b.single }
spelled_step _ = no_event

-- the events that an expression spells, if it has their form
unfoldable pub events_of : Expr → Option (List Event)
events_of e = (fold-Expr Spelled spelled_step e).several

-- ["," events] ")", after a time
unfoldable pub after_time : TimeForm → Code Awaited (terminal.Comma ∷ terminal.Close ∷ []) none false
after_time t = choice (skip_inside terminal.Comma (to (λ es. awaited.Until t es) (ended terminal.Close (deeper events) refl))) (to (λ _. awaited.Delay t) (quoted terminal.Close)) refl

-- scale ["," events] ")", after an amount and a comma
unfoldable pub after_amount : Expr → Code Awaited (terminal.Comma ∷ []) none false
after_amount e = skip_inside terminal.Comma (pair (deeper unit_of_time) (λ u. after_time (time.Amount e u)) refl)

-- after an expression: the unit of a time whose amount it is, or `)` where it has the form of events
abbrev pub after_awaited_set : Option (List Event) → Terminals
after_awaited_set None = terminal.Comma ∷ []
after_awaited_set (Some es) = terminal.Close ∷ terminal.Comma ∷ []

unfoldable pub after_awaited : (es : Option (List Event)) → Expr → Code Awaited (after_awaited_set es) none false
after_awaited None e = after_amount e
after_awaited (Some es) e = choice (to (λ _. awaited.Events es) (quoted terminal.Close)) (after_amount e) refl

pub awaited_apart : (es : Option (List Event)) → disjoint after_expr (after_awaited_set es) ≡ true
awaited_apart None = refl
awaited_apart (Some es) = refl

-- time {"," events} | events, each with its `)`, where an expression begins it
unfoldable pub awaited_expression : Code Awaited begins_expr none false
awaited_expression = mapped none (λ x. x.1) (link inner_value (λ e. after_awaited (events_of e) e) (λ e. awaited_apart (events_of e))) (λ _. refl)

-- "(" [time | time "," events | events] ")"
unfoldable pub awaiting : Code Awaited (terminal.Open ∷ []) none false
awaiting = skip terminal.Open (choice (to (λ _. awaited.Sensitive) (quoted terminal.Close)) (choice (pair (deeper named_time) after_time refl) awaited_expression refl) refl)
