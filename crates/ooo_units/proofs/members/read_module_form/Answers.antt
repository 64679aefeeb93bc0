use Rattle.std.proofs.Common.{refl, List}
use Rattle.ooo_syntax.specs.declared.leaves.Word.{Word}
use Rattle.ooo_syntax.specs.declared.module.Member.{Member}
use Rattle.ooo_syntax.specs.declared.module.Module.{Module}
use Rattle.ooo_syntax.specs.declared.terminal.Terminal.TheVariants as terminal
use Rattle.ooo_grammar.specs.Combinators.{quoted}
use Rattle.ooo_grammar.specs.Gives.{reads_at}
use Rattle.ooo_grammar.specs.Members.{module_form}
use Rattle.ooo_grammar.specs.Steps.{stops_first, stops_second, got_second}
use Rattle.ooo_simple.specs.Steps.{gives_second, gives_made}
use Rattle.ooo_units.proofs.members.read_module_form.Goals as goal

abbrev module_of : Word → List Member → Module
module_of w ms = record { name = w; members = ms }

pub returns-in-Err : goal.returns-in-Err
unfolding module_form
returns-in-Err c = stops_first _ _ _ c.in-Err.ensures

pub returns-in-Err-read_parens_word : goal.returns-in-Err-read_parens_word
unfolding module_form
returns-in-Err-read_parens_word c = stops_second _ _ c.in-Ok.ensures (stops_first _ _ _ c.in-Err-read_parens_word.ensures)

pub returns-in-Err-read_braced_members : goal.returns-in-Err-read_braced_members
unfolding module_form
returns-in-Err-read_braced_members c = stops_second _ _ c.in-Ok.ensures (stops_second _ _ c.in-Ok-read_parens_word.ensures (stops_first _ _ _ (stops_first _ _ _ c.in-Err-read_braced_members.ensures)))

pub returns : goal.returns
unfolding module_form
returns c =
    gives_second _ _ c.in-Ok.ensures
    (gives_second _ _ c.in-Ok-read_parens_word.ensures
    (gives_made (reads_at c.args.limits (quoted terminal.Semicolon) c.in-Ok-read_braced_members.found.1.now) c.in-Ok-read_braced_members.found.0 _ (module_of c.in-Ok-read_parens_word.found.0) _ (got_second _ c.in-Ok-read_braced_members.ensures refl) refl c.followed.ensures))
