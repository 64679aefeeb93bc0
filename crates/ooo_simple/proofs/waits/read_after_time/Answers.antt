use Rattle.std.proofs.Common.{List, sym, refl, ◌∙◌}
use Rattle.ooo_syntax.specs.declared.stat.Event.{Event}
use Rattle.ooo_syntax.specs.declared.stat.Awaited.TheVariants as awaited
use Rattle.ooo_syntax.specs.declared.terminal.Terminal.TheVariants as terminal
use Rattle.ooo_grammar.specs.Combinators.{quoted}
use Rattle.ooo_grammar.specs.Gives.{reads_at}
use Rattle.ooo_grammar.specs.Steps.{stops_first, stops_second, got_second}
use Rattle.ooo_grammar.specs.Times.{after_time}
use Rattle.ooo_exprs.specs.Steps.{gives_second, gives_made}
use Rattle.ooo_simple.proofs.waits.read_after_time.Goals as goal

pub returns-in-Err : goal.returns-in-Err
unfolding after_time
returns-in-Err c = rw (sym c.starts.ensures ∙ c.if-starts.true) (stops_first _ _ _ c.in-Err.ensures)

pub returns-in-Err-read_events_inside : goal.returns-in-Err-read_events_inside
unfolding after_time
returns-in-Err-read_events_inside c = rw (sym c.starts.ensures ∙ c.if-starts.true) (stops_second _ _ c.in-Ok.ensures (stops_first _ _ _ (stops_first _ _ _ c.in-Err-read_events_inside.ensures)))

pub returns-then-starts : goal.returns-then-starts
unfolding after_time
returns-then-starts c =
    rw (sym c.starts.ensures ∙ c.if-starts.true)
    (gives_second _ _ c.in-Ok.ensures
    (gives_made (reads_at c.args.limits (quoted terminal.Close) c.in-Ok-read_events_inside.found.1.now) c.in-Ok-read_events_inside.found.0 _ (λ (es : List Event). awaited.Until c.args.time es) _ (got_second _ c.in-Ok-read_events_inside.ensures refl) refl c.followed.ensures))

pub returns : goal.returns
unfolding after_time
returns c = rw (sym c.starts.ensures ∙ c.if-starts.false) c.followed-2.ensures
