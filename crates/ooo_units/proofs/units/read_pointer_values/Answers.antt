use Rattle.std.proofs.Common.{refl, Option}
use Rattle.ooo_syntax.specs.declared.leaves.Word.{Word}
use Rattle.ooo_syntax.specs.declared.terminal.Terminal.TheVariants as terminal
use Rattle.ooo_syntax.specs.declared.unit.MainValues.TheVariants as values_form
use Rattle.ooo_grammar.specs.Combinators.{quoted}
use Rattle.ooo_grammar.specs.Gives.{reads_at}
use Rattle.ooo_grammar.specs.Steps.{stops_first, stops_second, got_second}
use Rattle.ooo_simple.specs.Steps.{gives_second, gives_made}
use Rattle.ooo_units.proofs.units.read_pointer_values.Goals as goal

pub returns-in-Err : goal.returns-in-Err
returns-in-Err c = stops_first _ _ _ c.in-Err.ensures

pub returns-in-Err-read_maybe_word_inside : goal.returns-in-Err-read_maybe_word_inside
returns-in-Err-read_maybe_word_inside c = stops_second _ _ c.in-Ok.ensures (stops_first _ _ _ (stops_first _ _ _ c.in-Err-read_maybe_word_inside.ensures))

pub returns : goal.returns
returns c =
    gives_second _ _ c.in-Ok.ensures
    (gives_made (reads_at c.args.limits (quoted terminal.Close) c.in-Ok-read_maybe_word_inside.found.1.now) c.in-Ok-read_maybe_word_inside.found.0 _ (λ (w : Option Word). values_form.Pointer w) _ (got_second _ c.in-Ok-read_maybe_word_inside.ensures refl) refl c.followed.ensures)
