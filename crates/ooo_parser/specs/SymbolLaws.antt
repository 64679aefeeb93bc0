-- What holds of the symbols of every list of tokens.
use Rattle.std.specs.Prelude.{◌≡◌, ℕ, ◌+◌, Bool, true, false, not, ◌||◌, List, [], ◌∷◌, ◌++◌, None, All, Contains, map}
use Rattle.std.specs.Borrow.{Bor}
use Rattle.ooo_lexer.specs.declared.numbers.Number.{Number}
use Rattle.ooo_lexer.specs.declared.position.Position.{Position}
use Rattle.ooo_lexer.specs.declared.token.Token.{Token}
use Rattle.ooo_lexer.specs.declared.token.TokenKind.{TokenKind}
use Rattle.ooo_lexer.specs.declared.token.TokenKind.TheVariants as kind
use Rattle.ooo_lexer.specs.Numbers.{IsNumberOf}
use Rattle.ooo_lexer.specs.Pieces.{IsOfKind}
use Rattle.ooo_syntax.specs.declared.symbol.Symbol.{Symbol}
use Rattle.ooo_syntax.specs.Words.{terminal_of}
use Rattle.ooo_parser.specs.Classes.{is_word, is_library, is_scope, is_type_word, counts}
use Rattle.ooo_parser.specs.Symbols.{value_in, value_of, place, single, joined, one_if, numbered, symbols_of}

-- ---- single symbols

abbrev pub is_word_kind : TokenKind → Bool
is_word_kind kind.Word = true
is_word_kind kind.Number = false
is_word_kind kind.Text = false
is_word_kind kind.Sign = false

-- the words among the terminals are those of the words among the tokens
abbrev pub WordsAreWords : Type 0
WordsAreWords = (k : TokenKind) (bs : List ℕ) → IsOfKind k bs → is_word (terminal_of k bs) ≡ is_word_kind k

-- the value of a number is the one that its bytes mean, of the kind that they have
abbrev pub NumbersHaveTheirValues : Type 0
NumbersHaveTheirValues = (bs : List ℕ) (n : Number) → IsNumberOf bs n → value_in kind.Number bs ≡ value_of n.kind n.value

-- ---- beginnings

-- no pair is begun or open at the end: the last is no library's name and no `::`, or there is none
abbrev pub is_closed : List Symbol → Bool
is_closed [] = true
is_closed (k ∷ []) = not (is_library k.terminal || is_scope k.terminal)
is_closed (k ∷ l ∷ ks) = is_closed (l ∷ ks)

-- a type word stands last, or none stands and one stood before
abbrev pub ends_in_type : Bool → List Symbol → Bool
ends_in_type behind_type [] = behind_type
ends_in_type behind_type (k ∷ ks) = ends_in_type (is_type_word k.terminal) ks

-- how many symbols count, right behind a type word or not
abbrev pub count_of : Bool → List Symbol → ℕ
count_of behind_type [] = 0
count_of behind_type (k ∷ ks) = one_if (counts behind_type k.terminal) + count_of (is_type_word k.terminal) ks

-- the symbols of a closed beginning stay the same, whatever single symbols follow it, and those of what follows are joined and numbered by themselves
abbrev pub BeginningsStay : Type 0
BeginningsStay = (xs ys : List Symbol) → is_closed xs ≡ true
    → symbols_of (xs ++ ys) ≡ symbols_of xs ++ numbered (ends_in_type false (joined None xs)) (count_of false (joined None xs)) (joined None ys)

-- ---- places

abbrev pub IsPlaceIn : List Token → Position → Type 0
IsPlaceIn tokens p = Contains (map place tokens) p

pub record StandsIn (tokens : List Token) (k : Symbol) : Type 0 where
  pub position : IsPlaceIn tokens k.position
  pub first : IsPlaceIn tokens k.first

-- a symbol's text and its first pair stand where tokens of the source do
abbrev pub SymbolsStandAtTokens : Type 0
SymbolsStandAtTokens = (source : Bor (List ℕ)) (tokens : List Token) → All (StandsIn tokens) (symbols_of (map (single source) tokens))
