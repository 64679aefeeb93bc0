use Rattle.std.proofs.Common.{◌≡◌, ◌≤◌, ◌+◌, ◌-◌, length}
use Rattle.std.specs.Option.{option_map}
use Rattle.ooo_lexer.specs.Heads.{close_at}
use Rattle.ooo_lexer.proofs.marks.close_at.Given as goal

abbrev pub invariant-bytes : goal.invariant-bytes
invariant-bytes l = record {
  within : length l.rest ≤ length l.bytes;
  same : option_map (λ n. n + (length l.bytes - length l.rest)) (close_at l.rest) ≡ close_at l.bytes;
}

abbrev pub decreases-bytes : goal.decreases-bytes
decreases-bytes l = length l.rest
