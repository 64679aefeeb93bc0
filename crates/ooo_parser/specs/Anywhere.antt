-- What is read and what is refused doesn't depend on where the bytes of a source stand in memory.
use Rattle.std.specs.Prelude.{List, map}
use Rattle.ooo_lexer.specs.declared.position.Position.{Position}
use Rattle.ooo_syntax.specs.declared.error.ParseBreach.{ParseBreach}
use Rattle.ooo_syntax.specs.declared.symbol.Symbol.{Symbol}
use Rattle.ooo_grammar.specs.Sets.{anywhere}
use Rattle.ooo_grammar.specs.Roots.{Root, Tree}
use Rattle.ooo_parser.specs.Refusals.{IsTreeOf, IsRefused}

-- symbols spell the tree that they spell wherever their bytes stand
abbrev pub IsTreeAnywhere : Type 0
IsTreeAnywhere = (x : Root) (ts : List Symbol) (tree : Tree x) → IsTreeOf x ts tree → IsTreeOf x (map anywhere ts) tree

-- symbols are refused as they are wherever their bytes stand
abbrev pub IsRefusedAnywhere : Type 0
IsRefusedAnywhere = (x : Root) (ts : List Symbol) (end : Position) (b : ParseBreach) (p : Position) → IsRefused x ts end b p → IsRefused x (map anywhere ts) end b p
