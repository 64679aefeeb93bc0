-- The symbols of a list of tokens.
use Rattle.std.specs.Prelude.{pos, ℕ, ◌+◌, Bool, true, false, ◌&&◌, if◌then◌else◌, List, [], ◌∷◌, ◌++◌, Option, Some, None, Result, Ok, Err, slice_range, option_to_list}
use Rattle.std.specs.Borrow.{Bor}
use Rattle.ooo_lexer.specs.declared.breach.LexBreach.{LexBreach}
use Rattle.ooo_lexer.specs.declared.numbers.Number.{Number}
use Rattle.ooo_lexer.specs.declared.numbers.NumberKind.{NumberKind}
use Rattle.ooo_lexer.specs.declared.numbers.NumberKind.TheVariants as number_kind
use Rattle.ooo_lexer.specs.declared.position.Position.{Position}
use Rattle.ooo_lexer.specs.declared.token.Token.{Token}
use Rattle.ooo_lexer.specs.declared.token.TokenKind.{TokenKind}
use Rattle.ooo_lexer.specs.declared.token.TokenKind.TheVariants as kind
use Rattle.ooo_lexer.specs.Numerals.{number_of}
use Rattle.ooo_value.specs.declared.values.Value.{Value}
use Rattle.ooo_value.specs.declared.values.Value.TheVariants as value
use Rattle.ooo_syntax.specs.declared.symbol.Symbol.{Symbol}
use Rattle.ooo_syntax.specs.Words.{terminal_of}
use Rattle.ooo_parser.specs.Classes.{is_word, is_library, is_scope, is_type_word, counts}

-- ---- a token as a single symbol

-- a number as a value of its kind
abbrev pub value_of : NumberKind → ℕ → Value
value_of number_kind.Int n = value.Int (pos n)
value_of number_kind.Uint n = value.Uint n
value_of number_kind.Long n = value.Long (pos n)
value_of number_kind.Ulong n = value.Ulong n

abbrev pub zero_value : Value
zero_value = value.Int (pos 0)

abbrev pub value_or_zero : Result Number LexBreach → Value
value_or_zero (Ok n) = value_of n.kind n.value
value_or_zero (Err e) = zero_value

-- a number's value; anything else has the `int` 0
abbrev pub value_in : TokenKind → List ℕ → Value
value_in kind.Word bs = zero_value
value_in kind.Number bs = value_or_zero (number_of bs)
value_in kind.Text bs = zero_value
value_in kind.Sign bs = zero_value

-- the part of borrowed bytes between two places
abbrev pub part : Bor (List ℕ) → ℕ → ℕ → Bor (List ℕ)
part bytes from to = record { ref_ptr = (bytes.ref_ptr.0, bytes.ref_ptr.1 + from); now = slice_range bytes.now from to }

abbrev pub place : Token → Position
place t = record { line = t.line; column = t.column }

-- a token of a source as a symbol of its own
abbrev pub single : Bor (List ℕ) → Token → Symbol
single source t = record {
  terminal = terminal_of t.kind (slice_range source.now t.start t.end);
  text = part source t.start t.end;
  value = value_in t.kind (slice_range source.now t.start t.end);
  counts = false;
  before = 0;
  position = place t;
  first = place t;
}

-- ---- pairs

-- `std ::` or `sc_core ::`
abbrev pub is_pair : Symbol → Symbol → Bool
is_pair k l = is_library k.terminal && is_scope l.terminal

-- a pair begins with this symbol, by what follows it
abbrev pub begins_pair : Symbol → List Symbol → Bool
begins_pair k [] = false
begins_pair k (l ∷ ks) = is_pair k l

-- the symbol that pairs are where no word follows, behind earlier pairs or none
abbrev pub with_pair : Option Symbol → Symbol → Symbol → Symbol
with_pair None k l = record l { first = k.position }
with_pair (Some p) k l = record l { first = p.first }

-- a symbol right behind pairs: a word takes them in, and before any other they stay a symbol
abbrev pub behind : Option Symbol → Symbol → List Symbol
behind None k = k ∷ []
behind (Some p) k = if is_word k.terminal then record k { first = p.first } ∷ [] else p ∷ k ∷ []

-- single symbols right behind pairs, or behind none, with their own pairs taken in
abbrev pub joined : Option Symbol → List Symbol → List Symbol
joined p [] = option_to_list p
joined p (k ∷ []) = behind p k
joined p (k ∷ l ∷ ks) = if is_pair k l then joined (Some (with_pair p k l)) ks else behind p k ++ joined None (l ∷ ks)

-- ---- operators

abbrev pub one_if : Bool → ℕ
one_if true = 1
one_if false = 0

-- the symbols with their numbers, right behind a type word or not, and behind so many that count
abbrev pub numbered : Bool → ℕ → List Symbol → List Symbol
numbered behind_type n [] = []
numbered behind_type n (k ∷ ks) = record k { counts = counts behind_type k.terminal; before = n } ∷ numbered (is_type_word k.terminal) (n + one_if (counts behind_type k.terminal)) ks

-- the symbols of single symbols
abbrev pub symbols_of : List Symbol → List Symbol
symbols_of ks = numbered false 0 (joined None ks)
