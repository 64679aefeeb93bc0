use Rattle.std.proofs.Common.{ap, sym, ◌∙◌, subst}
use Rattle.std.specs.Result.{result_ok}
use Rattle.ooo_lexer.proofs.Numerals.{IsAnswer, answer_sound}
use Rattle.ooo_lexer.proofs.numbers.read_number.Goals as goal

pub returns : goal.returns
returns c = subst (IsAnswer c.args.bytes.now) (sym (c.ok.ensures.value ∙ ap result_ok c.number_of.ensures)) (answer_sound c.args.bytes.now)
