-- How a value is printed.
use Rattle.std.specs.Prelude.{ℕ, List}
use Rattle.std.specs.Fmt.{signed_decimal}
use Rattle.ooo_value.specs.declared.values.Value.{Value}
use Rattle.ooo_value.specs.Values.{number_of}

-- the integer that the value stands for, in decimal, so a bool as 0 or 1 (ISO C++ [ostream.inserters.arithmetic])
abbrev pub value_text : Value → List ℕ
value_text v = signed_decimal (number_of v)
