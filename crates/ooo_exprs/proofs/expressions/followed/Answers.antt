use Rattle.std.proofs.Common.{refl}
use Rattle.ooo_grammar.specs.Steps.{stops_first, got_second}
use Rattle.ooo_exprs.proofs.expressions.followed.Goals as goal

pub returns-in-Err : goal.returns-in-Err
returns-in-Err g c = stops_first _ _ _ c.in-Err.ensures

pub returns : goal.returns
returns g c = got_second _ c.in-Ok.ensures refl
