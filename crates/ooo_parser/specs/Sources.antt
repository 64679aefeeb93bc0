-- The symbols of a source, by its bytes and its tokens alone.
use Rattle.std.specs.Prelude.{ℕ, List, map}
use Rattle.std.specs.Borrow.{Bor}
use Rattle.ooo_lexer.specs.declared.token.Token.{Token}
use Rattle.ooo_syntax.specs.declared.symbol.Symbol.{Symbol}
use Rattle.ooo_grammar.specs.Sets.{anywhere}
use Rattle.ooo_parser.specs.Symbols.{single, symbols_of}

-- bytes as they are lent, at some place in memory
abbrev pub lent : List ℕ → Bor (List ℕ)
lent bytes = record { ref_ptr = (0, 0); now = bytes }

-- the symbols of the source's tokens, wherever its bytes stand in memory
abbrev pub symbols_in : List ℕ → List Token → List Symbol
symbols_in source tokens = symbols_of (map (λ t. anywhere (single (lent source) t)) tokens)
