use Rattle.std.proofs.Common.{◌≡◌, ◌++◌, ◌≤◌, false, take, drop}
use Rattle.ooo_parser.specs.Symbols.{numbered}
use Rattle.ooo_parser.proofs.number.number.Given as goal

abbrev pub invariant-loop-symbol : goal.invariant-loop-symbol
invariant-loop-symbol l = record {
  whole : take l.symbol-index l.symbols ++ numbered l.behind_type l.before (drop l.symbol-index l.symbols) ≡ numbered false 0 l.initial.symbols;
  few : l.before ≤ l.symbol-index;
}
