-- Words that might stand in the place of a symbol.
use Rattle.std.specs.Prelude.{Bool, false, not, ◌&&◌, ◌||◌, ◌==◌, ◌-◌, List, [], ◌∷◌, Option, Some, None, length, slice_get}
use Rattle.ooo_syntax.specs.declared.terminal.Terminal.{Terminal}
use Rattle.ooo_syntax.specs.declared.terminal.Terminal.TheVariants as terminal
use Rattle.ooo_syntax.specs.declared.symbol.Symbol.{Symbol}
use Rattle.ooo_grammar.specs.Numbers.{number}
use Rattle.ooo_grammar.specs.Sets.{Terminals, has, in_set}
use Rattle.ooo_grammar.specs.Names.{type_words}
use Rattle.ooo_parser.specs.declared.words.TheConstants.{WORDS}

-- every terminal that is a word, but for those that no text holds
unfoldable pub words : Terminals
words = WORDS

-- pairs `std ::` or `sc_core ::` stand right before the symbol, or belong to it
abbrev pub has_pairs : Symbol → Bool
has_pairs k = not ((k.first.line == k.position.line) && (k.first.column == k.position.column))

-- the symbol begins with `std` or `sc_core`, which some word might follow after `::`
abbrev pub opens_word : Symbol → Bool
opens_word k = in_set (terminal.Std ∷ terminal.ScCore ∷ []) k || has_pairs k

-- what it opens comes to no word: `std` or `sc_core` without `::`, or pairs without a word
abbrev pub lacks_word : Symbol → Bool
lacks_word k = in_set (terminal.Std ∷ terminal.ScCore ∷ terminal.Scope ∷ []) k

-- the symbols end in a type word
abbrev pub is_type_word : Option Symbol → Bool
is_type_word None = false
is_type_word (Some k) = in_set type_words k

abbrev pub ends_in_type_word : List Symbol → Bool
ends_in_type_word read = is_type_word (slice_get read (length read - 1))

-- the word t in the place of the symbol k, which stands after the symbols `read`: it counts as an operator where it is the first word of a type
abbrev pub in_place : List Symbol → Symbol → Terminal → Symbol
in_place read k t = record k { terminal = t; counts = has type_words (number t) && not (ends_in_type_word read) }
