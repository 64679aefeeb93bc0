-- Which tokens are refused, as what and where.
use Rattle.std.specs.Prelude.{◌≡◌, true, false, if◌then◌else◌, ◌&&◌, not, List, [], ◌∷◌, ◌++◌, ◌⊎◌, None, Any, ℕ, length}
use Rattle.ooo_lexer.specs.declared.position.Position.{Position}
use Rattle.ooo_syntax.specs.declared.error.ParseBreach.{ParseBreach}
use Rattle.ooo_syntax.specs.declared.error.ParseBreach.TheVariants as breach
use Rattle.ooo_syntax.specs.declared.terminal.Terminal.TheVariants as terminal
use Rattle.ooo_syntax.specs.declared.symbol.Symbol.{Symbol}
use Rattle.ooo_syntax.specs.declared.leaves.TypeName.{TypeName}
use Rattle.ooo_grammar.specs.Sets.{Terminals, in_set}
use Rattle.ooo_grammar.specs.Lexis.{type_name}
use Rattle.ooo_grammar.specs.Readings.{form, front}
use Rattle.ooo_grammar.specs.Roots.{Root, Tree, roots}
use Rattle.ooo_grammar.specs.Gives.{level_limit, room_at}
use Rattle.ooo_grammar.specs.Laws.{Derives, Begins, Refuses, Keeps, ExceedsAt}
use Rattle.ooo_parser.specs.Words.{words, has_pairs, opens_word, lacks_word, in_place}

-- the symbols spell the tree within the limits, and no other on any number of levels
pub record IsTreeOf (x : Root) (ts : List Symbol) (tree : Tree x) : Type 0 where
  pub spelled : form level_limit (room_at None) (roots x) ts tree []
  pub only : (other : Tree x) → Derives (roots x) ts other → tree ≡ other

-- the symbols up to where so many are left spell the tree within the limits, and no text goes on with the next
pub record IsPartOf (x : Root) (ts : List Symbol) (tree : Tree x) (left : ℕ) : Type 0 where
  pub read : List Symbol
  pub rest : List Symbol
  pub is : ts ≡ read ++ rest
  pub counted : length rest ≡ left
  pub spelled : IsTreeOf x read tree
  pub ended : (k : Symbol) (later : List Symbol) → rest ≡ k ∷ later → Begins (roots x) (read ++ k ∷ []) → ⊥

-- ---- what may follow

-- the symbols begin a text within the limits
abbrev pub IsWithin : Root → List Symbol → Type 0
IsWithin x ts = front level_limit (room_at None) (roots x) ts

-- some text goes on with a word in the place of k after the symbols `read`
abbrev pub AWordMayFollow : Root → List Symbol → Symbol → Type 0
AWordMayFollow x read k = Any (λ t. Begins (roots x) (read ++ in_place read k t ∷ [])) words

-- one does that keeps to the limits as far as that word
abbrev pub AWordIsWithin : Root → List Symbol → Symbol → Type 0
AWordIsWithin x read k = Any (λ t. IsWithin x (read ++ in_place read k t ∷ [])) words

-- ---- as what a symbol is refused

-- words that C++ or SystemC has, and that the grammar hasn't or hasn't everywhere
abbrev pub foreign_words : Terminals
foreign_words = terminal.Outside ∷ terminal.Char ∷ terminal.Namespace ∷ []

abbrev pub IsType : List Symbol → Type 0
IsType ts = (t : TypeName) × form level_limit (room_at None) type_name ts t []

-- "sc_signal" "<" type
abbrev pub IsSignalOfType : List Symbol → Type 0
IsSignalOfType [] = ⊥
IsSignalOfType (s ∷ []) = ⊥
IsSignalOfType (s ∷ l ∷ ts) = (in_set (terminal.ScSignal ∷ []) s ≡ true) × (in_set (terminal.Less ∷ []) l ≡ true) × IsType ts

abbrev pub EndsInSignalOfType : List Symbol → Type 0
EndsInSignalOfType read = (before after : List Symbol) × (read ≡ before ++ after) × IsSignalOfType after

-- the symbol k after the symbols `read` is what C++ or SystemC has there and the grammar hasn't: such a word, or the `,` of a signal's second argument
abbrev pub IsForeign : List Symbol → Symbol → Type 0
IsForeign read k = (in_set foreign_words k ≡ true) ⊎ ((in_set (terminal.Comma ∷ []) k ≡ true) × EndsInSignalOfType read)

abbrev pub BreachOf : List Symbol → Symbol → ParseBreach → Type 0
BreachOf read k b = (IsForeign read k × (b ≡ breach.NotInProfile)) ⊎ ((IsForeign read k → ⊥) × (b ≡ breach.Syntax))

-- the first token of a symbol, which is that of its pairs where it has any
abbrev pub breach_of_first : Symbol → ParseBreach
breach_of_first k = if in_set foreign_words k && not (has_pairs k) then breach.NotInProfile else breach.Syntax

-- the token that these symbols begin with is refused, or the end of the source where there are none
abbrev pub IsAtFirst : List Symbol → Position → ParseBreach → Position → Type 0
IsAtFirst [] end b p = (b ≡ breach.Syntax) × (p ≡ end)
IsAtFirst (k ∷ ts) end b p = (b ≡ breach_of_first k) × (p ≡ k.first)

-- ---- what is told of a refused symbol

-- the symbols `read` keep to the limits, and `rest` begins with the refused symbol, or is empty where more has to follow
pub record StopsAt (x : Root) (read rest : List Symbol) : Type 0 where
  pub refuses : Refuses (roots x) (read ++ rest) rest
  pub keeps : Keeps level_limit (room_at None) (roots x) (read ++ rest) rest

-- the refused token and its breach, where the symbol k is refused, which stands after `read` and before `later`
pub data IsToldOf (x : Root) (read : List Symbol) (k : Symbol) (later : List Symbol) (end : Position) (b : ParseBreach) (p : Position) : Type 0 where
  -- a symbol that opens no word is the refused token
  itself : opens_word k ≡ false → BreachOf read k b → p ≡ k.position → IsToldOf x read k later end b p
  -- where no word may follow, it is the `std` or `sc_core` that opens one
  no_word : opens_word k ≡ true → (AWordMayFollow x read k → ⊥) → b ≡ breach.Syntax → p ≡ k.first → IsToldOf x read k later end b p
  -- where some word may follow, it is the word that stands there
  other_word : opens_word k ≡ true → AWordIsWithin x read k → lacks_word k ≡ false → BreachOf read k b → p ≡ k.position → IsToldOf x read k later end b p
  -- or, where none stands there, the token after `std`, `sc_core` or the pairs
  word_missing : opens_word k ≡ true → AWordIsWithin x read k → lacks_word k ≡ true → IsAtFirst later end b p → IsToldOf x read k later end b p
  -- where words may follow, but none within the limits, the `std` or `sc_core` is too deep
  word_too_deep : opens_word k ≡ true → AWordMayFollow x read k → (AWordIsWithin x read k → ⊥) → b ≡ breach.TooDeep → p ≡ k.first → IsToldOf x read k later end b p

-- the symbols are refused, with this breach at this place
pub data IsRefused (x : Root) (ts : List Symbol) (end : Position) (b : ParseBreach) (p : Position) : Type 0 where
  -- they end where a text has to go on: the refused token is the end of the source
  ends_early : StopsAt x ts [] → b ≡ breach.Syntax → p ≡ end → IsRefused x ts end b p
  -- the symbol k is the first after which no text goes on
  refused : (read : List Symbol) (k : Symbol) (later : List Symbol) → ts ≡ read ++ k ∷ later → StopsAt x read (k ∷ later) → IsToldOf x read k later end b p → IsRefused x ts end b p
  -- the symbol k is too deep, and no symbol before it or at it is refused
  too_deep : (k : Symbol) (later : List Symbol) → ExceedsAt level_limit (room_at None) (roots x) ts (k ∷ later) → b ≡ breach.TooDeep → p ≡ k.first → IsRefused x ts end b p
