-- The number so far and one digit more is the value of the digits read, which is at most that of all of them.
use Rattle.std.proofs.Common.{◌≡◌, ℕ, ◌+◌, ◌*◌, ◌-◌, ◌<◌, ◌≤◌, ◌^◌, Bool, true, false, List, length, get_or, take, refl, arith, rules}
use Rattle.std.proofs.lemmas.Bool.{false≢true}
use Rattle.std.proofs.lemmas.Int.Digits.{digits_value_more}
use Rattle.std.proofs.lemmas.List.Folds.{list_all_at}
use Rattle.std.proofs.lemmas.Str.{digit_value_digit}
use Rattle.std.proofs.lemmas.Str.Parse.{digits_value-take-le, digits_value_short, numerals_by_value, IsNumeralModel}
use Rattle.std.specs.Char.{is_ascii_digit}
use Rattle.std.specs.Int.{IsInRange}
use Rattle.std.specs.List.{list_all}
use Rattle.std.specs.Str.Parse.{digits_value}
use Rattle.ooo_words.proofs.numbers.value.Goals as goal

own : IsNumeralModel (λ ds. list_all is_ascii_digit ds ≡ true) (digits_value 10)
own = numerals_by_value _ (search rules)

small : (digits : List ℕ) (i : ℕ) → length digits ≤ 19 → list_all is_ascii_digit digits ≡ true
    → digits_value 10 (take i digits) < 10 ^ 19
small digits i few all =
    omega (arith, digits_value-take-le 10 digits i (omega arith), digits_value_short own digits 19 all few)

in_range : (digit : ℕ) → is_ascii_digit digit ≡ true → IsInRange 48 57 digit
in_range digit is = search rules

digit_of : (digits : List ℕ) (i : ℕ) → list_all is_ascii_digit digits ≡ true → i < length digits
    → (b : Bool) → is_ascii_digit (get_or digits i 0) ≡ b → is_ascii_digit (get_or digits i 0) ≡ true
digit_of digits i all below true is = is
digit_of digits i all below false is = absurd (false≢true (cc (list_all_at is_ascii_digit digits i 0 below is)))

step : (digits : List ℕ) (i : ℕ) → list_all is_ascii_digit digits ≡ true → i < length digits
    → digits_value 10 (take (i + 1) digits) ≡ digits_value 10 (take i digits) * 10 + (get_or digits i 0 - 48)
step digits i all below =
    let digit = digit_value_digit (get_or digits i 0)
    (in_range (get_or digits i 0) (digit_of digits i all below (is_ascii_digit (get_or digits i 0)) refl)) in
    omega (arith, digits_value_more 10 digits i below, digit)

pub overflow_mul-value : goal.overflow_mul-value
overflow_mul-value c =
    let next = step c.args.digits.now c.loop-digit.digit-index c.requires.all_digits c.loop-digit-test.true in
    let fits = small c.args.digits.now (c.loop-digit.digit-index + 1) c.requires.few c.requires.all_digits in
    omega arith

pub overflow_add-value : goal.overflow_add-value
overflow_add-value c =
    let next = step c.args.digits.now c.loop-digit.digit-index c.requires.all_digits c.loop-digit-test.true in
    let fits = small c.args.digits.now (c.loop-digit.digit-index + 1) c.requires.few c.requires.all_digits in
    omega arith

pub loop-digit-preserved : goal.loop-digit-preserved
loop-digit-preserved c =
    let next = step c.args.digits.now c.loop-digit.digit-index c.requires.all_digits c.loop-digit-test.true in
    omega arith
