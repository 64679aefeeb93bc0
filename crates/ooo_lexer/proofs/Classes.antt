-- How the classes of bytes lie to one another.
use Rattle.std.proofs.Common.{◌≡◌, ℕ, true, false, arith}
use Rattle.std.proofs.lemmas.Bool.Decides.{nat_tests}
use Rattle.ooo_lexer.specs.Bytes.{is_space, is_blank, is_digit, begins_word, is_word_byte, is_line_byte}

pub word_begins : (b : ℕ) → begins_word b ≡ true → is_word_byte b ≡ true
word_begins b h = grind (arith, nat_tests)

pub digit_goes_on : (b : ℕ) → is_digit b ≡ true → is_word_byte b ≡ true
digit_goes_on b h = grind (arith, nat_tests)

pub digit_begins_no_word : (b : ℕ) → is_digit b ≡ true → begins_word b ≡ false
digit_begins_no_word b h = grind (arith, nat_tests)

pub word_is_no_space : (b : ℕ) → is_word_byte b ≡ true → is_space b ≡ false
word_is_no_space b h = grind (arith, nat_tests)

pub blank_is_on_line : (b : ℕ) → is_blank b ≡ true → is_line_byte b ≡ true
blank_is_on_line b h = grind (arith, nat_tests)
