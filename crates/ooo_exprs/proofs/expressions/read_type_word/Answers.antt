use Rattle.std.proofs.Common.{sym, ap}
use Rattle.ooo_syntax.specs.declared.leaves.TypeName.{TypeName}
use Rattle.ooo_grammar.specs.Forms.{Got}
use Rattle.ooo_grammar.specs.Steps.{stops_first, got_second}
use Rattle.ooo_exprs.proofs.expressions.read_type_word.Goals as goal

pub returns-in-Err : goal.returns-in-Err
returns-in-Err c = stops_first _ _ _ c.in-Err.ensures

pub returns : goal.returns
returns c = got_second _ c.in-Ok.ensures (ap (λ (t : TypeName). Got t c.in-Ok.found.1.now) (sym c.named_type.ensures))
