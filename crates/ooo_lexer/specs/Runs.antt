-- Fronts of lists of bytes, as the code computes them.
use Rattle.std.specs.Prelude.{ℕ, Bool, true, false, ◌==◌, List, [], ◌∷◌, drop}
use Rattle.std.specs.List.{prefix_len}
use Rattle.ooo_lexer.specs.declared.bytes.Class.{Class}
use Rattle.ooo_lexer.specs.declared.bytes.Class.TheVariants as class
use Rattle.ooo_lexer.specs.Bytes.{is_blank, is_digit, is_hex_digit, is_word_byte, is_line_byte}

-- the test of a class of bytes
abbrev pub has : Class → ℕ → Bool
has class.Word b = is_word_byte b
has class.Digit b = is_digit b
has class.HexDigit b = is_hex_digit b
has class.Line b = is_line_byte b
has class.Blank b = is_blank b

-- what stands after the first bytes of a class
abbrev pub after_run : Class → List ℕ → List ℕ
after_run c bs = drop (prefix_len (has c) bs) bs

-- whether the first byte is this one
abbrev pub begins_with : ℕ → List ℕ → Bool
begins_with x [] = false
begins_with x (b ∷ bs) = b == x

-- whether there is no byte
abbrev pub is_nothing : List ℕ → Bool
is_nothing [] = true
is_nothing (b ∷ bs) = false
