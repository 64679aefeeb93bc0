use Rattle.std.proofs.Common.{◌≡◌, ◌+◌, ◌<◌, ◌^◌, length, drop}
use Rattle.ooo_lexer.specs.Steps.{cursor_after}
use Rattle.ooo_lexer.proofs.cursor.Cursor.after.Given as goal

abbrev pub invariant-loop-byte : goal.invariant-loop-byte
invariant-loop-byte l = record {
  whole : cursor_after l.cursor (drop l.byte-index l.bytes) ≡ cursor_after l.fn.self l.bytes;
  start : l.cursor.start + length (drop l.byte-index l.bytes) < 2 ^ 32;
  line : l.cursor.line + length (drop l.byte-index l.bytes) < 2 ^ 32;
  column : l.cursor.column + length (drop l.byte-index l.bytes) < 2 ^ 32;
}
