-- Classes of bytes, each a test, and where a run of a class ends. Letters and digits are those of the basic source character set (ISO/IEC 14882, [lex.charset]).
use Rattle.std.specs.Prelude.{◌≡◌, ℕ, Bool, false, List, [], ◌∷◌, not, ◌||◌, ◌&&◌, ◌==◌, nat_le}

-- a tab, a line feed, a carriage return or a blank: what parts tokens ([lex.token])
abbrev pub is_space : ℕ → Bool
is_space b = b == 9 || b == 10 || b == 13 || b == 32

-- a tab, a carriage return or a blank: what may stand between the parts of a directive ([cpp])
abbrev pub is_blank : ℕ → Bool
is_blank b = b == 9 || b == 13 || b == 32

-- a decimal digit ([lex.icon])
abbrev pub is_digit : ℕ → Bool
is_digit b = nat_le 48 b && nat_le b 57

-- a hexadecimal digit ([lex.icon])
abbrev pub is_hex_digit : ℕ → Bool
is_hex_digit b = is_digit b || (nat_le 97 b && nat_le b 102) || (nat_le 65 b && nat_le b 70)

-- a letter or `_`: what begins a word ([lex.name])
abbrev pub begins_word : ℕ → Bool
begins_word b = (nat_le 97 b && nat_le b 122) || (nat_le 65 b && nat_le b 90) || b == 95

-- a letter, a digit or `_`: what goes on with a word
abbrev pub is_word_byte : ℕ → Bool
is_word_byte b = begins_word b || is_digit b

-- any byte but a line feed, a carriage return, a double quote and a backslash: what stands between a text's quotes ([lex.string])
abbrev pub is_text_byte : ℕ → Bool
is_text_byte b = not (b == 10 || b == 13 || b == 34 || b == 92)

-- a letter, a backslash or a double quote that makes an escape with a backslash before it ([lex.ccon])
abbrev pub is_escape : ℕ → Bool
is_escape b = b == 110 || b == 116 || b == 92 || b == 34

-- a line feed or a carriage return: what no text goes over
abbrev pub ends_line : ℕ → Bool
ends_line b = b == 10 || b == 13

-- any byte but a line feed: what stands on a line
abbrev pub is_line_byte : ℕ → Bool
is_line_byte b = not (b == 10)

-- nothing follows, or a byte that fails the test
abbrev pub StopsBefore : (ℕ → Bool) → List ℕ → Type 0
StopsBefore test [] = Unit {0}
StopsBefore test (b ∷ bs) = test b ≡ false
