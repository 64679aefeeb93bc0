-- What the code computes of a number. No public clause cites this: `Numbers` says what a number is.
use Rattle.std.specs.Prelude.{ℕ, Bool, true, false, not, ◌||◌, ◌==◌, nat_le, nat_eq, if◌then◌else◌, List, [], ◌∷◌, Option, Some, None, Result, Ok, Err, codes, drop}
use Rattle.std.specs.List.{list_any, take_while, starts_with}
use Rattle.std.specs.Str.{bytes_eq}
use Rattle.ooo_lexer.specs.declared.bytes.Class.{Class}
use Rattle.ooo_lexer.specs.declared.bytes.Class.TheVariants as class
use Rattle.ooo_lexer.specs.declared.breach.LexBreach.{LexBreach}
use Rattle.ooo_lexer.specs.declared.breach.LexBreach.TheVariants as breach
use Rattle.ooo_lexer.specs.declared.numbers.Base.{Base}
use Rattle.ooo_lexer.specs.declared.numbers.Base.TheVariants as base
use Rattle.ooo_lexer.specs.declared.numbers.Suffix.{Suffix}
use Rattle.ooo_lexer.specs.declared.numbers.Suffix.TheVariants as suffix
use Rattle.ooo_lexer.specs.declared.numbers.NumberKind.{NumberKind}
use Rattle.ooo_lexer.specs.declared.numbers.Number.{Number}
use Rattle.ooo_lexer.specs.Numbers.{endings, value_of, kinds_of, first_holding}
use Rattle.ooo_lexer.specs.Runs.{has, after_run, is_nothing}

abbrev pub has_hex_prefix : List ℕ → Bool
has_hex_prefix bs = starts_with nat_eq bs (codes "0x") || starts_with nat_eq bs (codes "0X")

-- the class of a base's digits
abbrev pub class_of : Base → Class
class_of base.Decimal = class.Digit
class_of base.Hexadecimal = class.HexDigit

-- whether a run of a base's digits may be a number's: there is one, and no leading zero in a decimal one
abbrev pub are_digits : Base → List ℕ → Bool
are_digits b [] = false
are_digits base.Decimal (d ∷ ds) = not (d == 48) || is_nothing ds
are_digits base.Hexadecimal (d ∷ ds) = true

abbrev pub is_ending : Suffix → List ℕ → Bool
is_ending s bs = list_any (λ e. bytes_eq bs e) (endings s)

-- the suffix that bytes are, if they are one
abbrev pub suffix_of : List ℕ → Option Suffix
suffix_of bs = if is_ending suffix.Bare bs then Some suffix.Bare else (if is_ending suffix.Unsigned bs then Some suffix.Unsigned
    else (if is_ending suffix.Long bs then Some suffix.Long else (if is_ending suffix.UnsignedLong bs then Some suffix.UnsignedLong else None)))

-- a value that is below 2^64
abbrev pub fitting : ℕ → Option ℕ
fitting value = if nat_le value 18446744073709551615 then Some value else None

-- the number of a value and a kind, if there is a kind
abbrev pub sized : ℕ → Option NumberKind → Result Number LexBreach
sized value None = Err breach.NumberTooWide
sized value (Some kind) = Ok (record { kind = kind; value = value })

-- the number of these digits and this suffix, if there is a suffix
abbrev pub number_with : Base → List ℕ → Option Suffix → Result Number LexBreach
number_with b ds None = Err breach.BadNumber
number_with b ds (Some s) = sized (value_of b ds) (first_holding (kinds_of b s) (value_of b ds))

-- a number, by what follows its prefix
abbrev pub number_after : Base → List ℕ → Result Number LexBreach
number_after b bs = if are_digits b (take_while (has (class_of b)) bs) then number_with b (take_while (has (class_of b)) bs) (suffix_of (after_run (class_of b) bs)) else Err breach.BadNumber

-- the number that bytes are, or why they are none
unfoldable pub number_of : List ℕ → Result Number LexBreach
number_of bs = if has_hex_prefix bs then number_after base.Hexadecimal (drop 2 bs) else number_after base.Decimal bs
