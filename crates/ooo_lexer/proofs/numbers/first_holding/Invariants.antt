use Rattle.std.proofs.Common.{◌≡◌, drop}
use Rattle.ooo_lexer.specs.Numbers.{first_holding}
use Rattle.ooo_lexer.proofs.numbers.first_holding.Given as goal

abbrev pub invariant-loop-kind : goal.invariant-loop-kind
invariant-loop-kind l = first_holding l.kinds l.value ≡ first_holding (drop l.kind-index l.kinds) l.value
