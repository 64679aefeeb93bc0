use Rattle.std.proofs.Common.{◌≡◌, ◌+◌, ◌≤◌, ◌++◌, length, vec_len, vec_capacity}
use Rattle.ooo_lexer.specs.Texts.{unescaped}
use Rattle.ooo_lexer.proofs.texts.unescape.Given as goal

abbrev pub invariant-bytes : goal.invariant-bytes
invariant-bytes l = record {
  value : l.out.items ++ unescaped l.rest ≡ l.initial.out.items ++ unescaped l.inside;
  room : vec_len l.out + length l.rest ≤ vec_capacity l.out;
}

abbrev pub decreases-bytes : goal.decreases-bytes
decreases-bytes l = length l.rest
