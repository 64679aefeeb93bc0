use Rattle.std.proofs.Common.{ap, sym}
use Rattle.ooo_grammar.specs.Forms.{Got}
use Rattle.ooo_grammar.specs.Statements.{parens}
use Rattle.ooo_grammar.specs.Steps.{stops_first, stops_second, got_second}
use Rattle.ooo_syntax.specs.declared.stat.Stat.{Stat}
use Rattle.ooo_statements.proofs.statements.read_closed_do.Goals as goal

pub returns-in-Err : goal.returns-in-Err
unfolding parens
returns-in-Err c = stops_first _ _ _ c.in-Err.ensures

pub returns-in-Err-read_parens : goal.returns-in-Err-read_parens
unfolding parens
returns-in-Err-read_parens c = stops_second _ _ c.in-Ok.ensures (stops_first _ _ _ (stops_first _ _ _ c.in-Err-read_parens.ensures))

pub returns-in-Err-followed : goal.returns-in-Err-followed
unfolding parens
returns-in-Err-followed c = stops_second _ _ c.in-Ok.ensures (stops_first _ _ _ (stops_second _ _ c.in-Ok-read_parens.ensures c.in-Err-followed.ensures))

pub returns : goal.returns
unfolding parens
returns c = got_second _ c.in-Ok.ensures (got_second _ (got_second _ c.in-Ok-read_parens.ensures c.in-Ok-followed.ensures) (ap (λ (s : Stat). Got s c.in-Ok-followed.found.1.now) (sym c.in_ok-do_of.ensures)))
