-- How a number is written, what its value is, and of which kind it is (ISO/IEC 14882, [lex.icon]).
use Rattle.std.specs.Prelude.{◌≡◌, ◌≢◌, ℕ, ◌+◌, ◌-◌, ◌*◌, ◌^◌, nat_le, if◌then◌else◌, List, [], ◌∷◌, ◌++◌, ◌⊎◌, Option, Some, None, IsTrue, Contains, codes, length}
use Rattle.std.specs.List.{list_all}
use Rattle.ooo_lexer.specs.declared.numbers.Base.{Base}
use Rattle.ooo_lexer.specs.declared.numbers.Base.TheVariants as base
use Rattle.ooo_lexer.specs.declared.numbers.Suffix.{Suffix}
use Rattle.ooo_lexer.specs.declared.numbers.Suffix.TheVariants as suffix
use Rattle.ooo_lexer.specs.declared.numbers.NumberKind.{NumberKind}
use Rattle.ooo_lexer.specs.declared.numbers.NumberKind.TheVariants as kind
use Rattle.ooo_lexer.specs.declared.numbers.Number.{Number}
use Rattle.ooo_lexer.specs.Bytes.{is_digit, is_hex_digit}

-- digits that don't begin with `0`
abbrev pub IsDecimal : List ℕ → Type 0
IsDecimal [] = ⊥
IsDecimal (b ∷ bs) = (b ≢ 48) × IsTrue (list_all is_digit (b ∷ bs))

-- a lone `0`, or digits that begin with another one; or hexadecimal digits, at least one
abbrev pub AreDigits : Base → List ℕ → Type 0
AreDigits base.Decimal ds = (ds ≡ codes "0") ⊎ IsDecimal ds
AreDigits base.Hexadecimal ds = (ds ≢ []) × IsTrue (list_all is_hex_digit ds)

-- what stands before the digits
abbrev pub prefixes : Base → List (List ℕ)
prefixes base.Decimal = [] ∷ []
prefixes base.Hexadecimal = codes "0x" ∷ codes "0X" ∷ []

-- what stands after the digits
abbrev pub endings : Suffix → List (List ℕ)
endings suffix.Bare = [] ∷ []
endings suffix.Unsigned = codes "u" ∷ codes "U" ∷ []
endings suffix.Long = codes "ll" ∷ codes "LL" ∷ []
endings suffix.UnsignedLong = codes "ull" ∷ codes "ULL" ∷ []

-- a number as it is written, whatever its value
pub record IsNumeral (bs : List ℕ) (b : Base) (digits : List ℕ) (s : Suffix) : Type 0 where
  pub prefix : List ℕ
  pub ending : List ℕ
  pub begins : Contains (prefixes b) prefix
  pub are_digits : AreDigits b digits
  pub ends : Contains (endings s) ending
  pub is : bs ≡ prefix ++ (digits ++ ending)

abbrev pub radix : Base → ℕ
radix base.Decimal = 10
radix base.Hexadecimal = 16

-- the value of one digit
abbrev pub digit_value : ℕ → ℕ
digit_value d = if is_digit d then d - 48 else (if nat_le 97 d then d - 87 else d - 55)

-- the value of digits: the first one by its weight, and that of the others
abbrev pub value_of : Base → List ℕ → ℕ
value_of b [] = 0
value_of b (d ∷ ds) = digit_value d * radix b ^ length ds + value_of b ds

-- the kinds that are tried, in this order
abbrev pub kinds_of : Base → Suffix → List NumberKind
kinds_of base.Decimal suffix.Bare = kind.Int ∷ kind.Long ∷ []
kinds_of base.Hexadecimal suffix.Bare = kind.Int ∷ kind.Uint ∷ kind.Long ∷ kind.Ulong ∷ []
kinds_of b suffix.Unsigned = kind.Uint ∷ kind.Ulong ∷ []
kinds_of base.Decimal suffix.Long = kind.Long ∷ []
kinds_of base.Hexadecimal suffix.Long = kind.Long ∷ kind.Ulong ∷ []
kinds_of b suffix.UnsignedLong = kind.Ulong ∷ []

-- the greatest value that a kind holds
abbrev pub greatest_of : NumberKind → ℕ
greatest_of kind.Int = 2147483647
greatest_of kind.Uint = 4294967295
greatest_of kind.Long = 9223372036854775807
greatest_of kind.Ulong = 18446744073709551615

-- the first of these kinds that holds the value
abbrev pub first_holding : List NumberKind → ℕ → Option NumberKind
first_holding [] value = None
first_holding (k ∷ ks) value = if nat_le value (greatest_of k) then Some k else first_holding ks value

-- the bytes are written as a number of this value, and its kind is the first of its list that holds the value
pub record IsNumberOf (bs : List ℕ) (n : Number) : Type 0 where
  pub base : Base
  pub digits : List ℕ
  pub suffix : Suffix
  pub numeral : IsNumeral bs base digits suffix
  pub value : n.value ≡ value_of base digits
  pub kind : first_holding (kinds_of base suffix) n.value ≡ Some n.kind

-- a number of some value
abbrev pub IsNumber : List ℕ → Type 0
IsNumber bs = (n : Number) × IsNumberOf bs n

-- a number of no value
abbrev pub HasNoNumber : List ℕ → Type 0
HasNoNumber bs = (n : Number) → ¬ IsNumberOf bs n

-- the bytes are written as a number, and none of its kinds holds the value
pub record IsTooWide (bs : List ℕ) : Type 0 where
  pub base : Base
  pub digits : List ℕ
  pub suffix : Suffix
  pub numeral : IsNumeral bs base digits suffix
  pub none : first_holding (kinds_of base suffix) (value_of base digits) ≡ None

-- the bytes are written as no number, whatever its value
abbrev pub IsNoNumeral : List ℕ → Type 0
IsNoNumeral bs = (b : Base) (digits : List ℕ) (s : Suffix) → IsNumeral bs b digits s → ⊥
