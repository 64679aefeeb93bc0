use Rattle.std.proofs.Common.{◌≡◌, ◌≤◌, length, ◌+◌}
use Rattle.ooo_lexer.specs.Heads.{parts_length}
use Rattle.ooo_lexer.proofs.texts.parts_length.Given as goal

-- what is left is no longer than the bytes, and the parts that were passed are those that are missing from it
abbrev pub invariant-parts : goal.invariant-parts
invariant-parts l = (length l.rest ≤ length l.bytes) × (length l.rest + parts_length l.strays l.bytes ≡ length l.bytes + parts_length l.strays l.rest)

abbrev pub decreases-parts : goal.decreases-parts
decreases-parts l = length l.rest
