use Rattle.std.proofs.Common.{refl}
use Rattle.ooo_grammar.specs.Lexis.{type_name}
use Rattle.ooo_grammar.proofs.Codes.{code_good}
use Rattle.ooo_grammar.proofs.law.types.Goals as goal

pub returns : goal.returns
returns c = λ n room ts t. (λ e. (code_good n room type_name).sound e, λ h. (code_good n room type_name).only h refl)
