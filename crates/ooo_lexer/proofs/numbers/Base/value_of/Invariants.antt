use Rattle.std.proofs.Common.{◌<◌, drop}
use Rattle.ooo_lexer.specs.Numbers.{value_of}
use Rattle.ooo_lexer.proofs.Digits.{SoFar}
use Rattle.ooo_lexer.proofs.numbers.Base.value_of.Given as goal

abbrev pub invariant-loop-digit : goal.invariant-loop-digit
invariant-loop-digit l = (SoFar l.self (value_of l.self l.digits) l.value (drop l.digit-index l.digits)) × (l.value < 18446744073709551616)
