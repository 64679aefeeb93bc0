use Rattle.std.proofs.Common.{◌≡◌, ◌++◌, All, None, length, map}
use Rattle.ooo_lexer.specs.Spans.{IsWithin}
use Rattle.ooo_parser.specs.Symbols.{joined, single}
use Rattle.ooo_parser.proofs.join.joined.Given as goal

abbrev pub invariant-tokens : goal.invariant-tokens
invariant-tokens l = record {
  whole : l.symbols.items ++ joined l.pairs (map (single l.source.bytes) l.rest) ≡ joined None (map (single l.source.bytes) l.tokens);
  within : All (IsWithin l.source.bytes.now) l.rest;
}

abbrev pub decreases-tokens : goal.decreases-tokens
decreases-tokens l = length l.rest
