use Rattle.std.proofs.Common.{refl, sym, ◌∙◌}
use Rattle.ooo_syntax.specs.declared.stat.TimeForm.{TimeForm}
use Rattle.ooo_syntax.specs.declared.terminal.Terminal.TheVariants as terminal
use Rattle.ooo_syntax.specs.declared.unit.StartForm.TheVariants as start_form
use Rattle.ooo_grammar.specs.Combinators.{quoted}
use Rattle.ooo_grammar.specs.Gives.{reads_at}
use Rattle.ooo_grammar.specs.Units.{start_tail}
use Rattle.ooo_grammar.specs.Steps.{stops_first, got_second}
use Rattle.ooo_simple.specs.Steps.{gives_made}
use Rattle.ooo_units.proofs.units.read_start_tail.Goals as goal

pub returns-then-starts : goal.returns-then-starts
unfolding start_tail
returns-then-starts c = rw (sym c.starts.ensures ∙ c.if-starts.true) c.followed.ensures

pub returns-in-Err : goal.returns-in-Err
unfolding start_tail
returns-in-Err c = rw (sym c.starts.ensures ∙ c.if-starts.false) (stops_first _ _ _ (stops_first _ _ _ c.in-Err.ensures))

pub returns : goal.returns
unfolding start_tail
returns c =
    rw (sym c.starts.ensures ∙ c.if-starts.false)
    (gives_made (reads_at c.args.limits (quoted terminal.Close) c.in-Ok.found.1.now) c.in-Ok.found.0 _ (λ (t : TimeForm). start_form.Limited c.args.first.position t) _ (got_second _ c.in-Ok.ensures refl) refl c.followed-2.ensures)
