-- A command keeps its limits, since each value that an option takes does, and so does its default.
use Rattle.std.proofs.Common.{◌≡◌, ◌≤◌, ◌*◌, ◌&&◌, ℕ, Bool, true, false, cond, Option, Some, None, option_and_then, option_map, unwrap_or, refl, arith}
use Rattle.std.specs.Prelude.{nat_le, List, length, drop, take_while}
use Rattle.std.specs.Char.{is_ascii_digit}
use Rattle.std.proofs.lemmas.Bool.Decides.{nat_tests}
use Rattle.ooo_time.specs.Scales.{greatest_time, ticks_of}
use Rattle.ooo_time.specs.declared.time.Scale.{Scale}
use Rattle.ooo_words.specs.declared.options.CommandName.{CommandName}
use Rattle.ooo_words.specs.declared.options.CommandName.TheVariants.{Run, Plain, Check, Tables, Bench}
use Rattle.ooo_words.specs.declared.options.OptionName.TheVariants.{Stop, Workers, Deltas, Statements, Stages, Items, Seed}
use Rattle.ooo_words.specs.Limits.{AreWithinLimits, IsBetween, IsWithinLimits, StopsInTime}
use Rattle.ooo_words.specs.Numbers.{number_within, numeral_value, time_of, unit_named, within}
use Rattle.ooo_words.specs.Options.{Text}
use Rattle.ooo_words.specs.Reading.{Setting, command_of, given, run_options}

in_range : (least greatest default n : ℕ) → IsBetween least greatest default → (b : Bool) → (nat_le least n && nat_le n greatest) ≡ b
    → IsBetween least greatest (unwrap_or (cond b (Some n) None) default)
in_range least greatest default n d true test = record { from = grind (arith, nat_tests); to = grind (arith, nat_tests) }
in_range least greatest default n d false test = d

number_in : (least greatest default : ℕ) → IsBetween least greatest default → (found : Option ℕ)
    → IsBetween least greatest (unwrap_or (option_and_then (within least greatest) found) default)
number_in least greatest default d None = d
number_in least greatest default d (Some n) = in_range least greatest default n d (nat_le least n && nat_le n greatest) refl

given_in : (least greatest default : ℕ) → IsBetween least greatest default → (text : Option Text)
    → IsBetween least greatest (unwrap_or (option_and_then (number_within least greatest) text) default)
given_in least greatest default d None = d
given_in least greatest default d (Some text) = number_in least greatest default d (numeral_value 10 text)

ticks_in : (n : ℕ) (b : Bool) → (nat_le 0 n && nat_le n greatest_time) ≡ b
    → StopsInTime (option_map (λ (ticks : ℕ). record { 0 = ticks }) (cond b (Some n) None))
ticks_in n true test = grind (arith, nat_tests)
ticks_in n false test = tt

time_from : (count : Option ℕ) (unit : Option Scale)
    → StopsInTime (option_map (λ (ticks : ℕ). record { 0 = ticks })
    (option_and_then (λ n. option_and_then (λ u. within 0 greatest_time (n * ticks_of u)) unit) count))
time_from None unit = tt
time_from (Some n) None = tt
time_from (Some n) (Some unit) =
    ticks_in (n * ticks_of unit) (nat_le 0 (n * ticks_of unit) && nat_le (n * ticks_of unit) greatest_time) refl

stop_in : (text : Option Text) → StopsInTime (option_and_then time_of text)
stop_in None = tt
stop_in (Some text) =
    let digits = take_while is_ascii_digit text in
    time_from (numeral_value 19 digits) (unit_named (drop (length digits) text))

between : (least greatest n : ℕ) → least ≤ n → n ≤ greatest → IsBetween least greatest n
between least greatest n from to = record { from = from; to = to }

run_options-limits : (settings : List Setting) → AreWithinLimits (run_options settings)
run_options-limits settings = record {
  stop = stop_in (given settings Stop);
  deltas = given_in 1 1_000_000 10_000 (between _ _ _ (omega arith) (omega arith)) (given settings Deltas);
  statements = given_in 1 1_000_000_000 1_000_000 (between _ _ _ (omega arith) (omega arith)) (given settings Statements);
}

pub command_of-limits : (command : CommandName) (settings : List Setting) → IsWithinLimits (command_of command settings)
command_of-limits Run settings =
    (run_options-limits settings, given_in 1 64 1 (between 1 64 1 (omega arith) (omega arith)) (given settings Workers))
command_of-limits Plain settings = run_options-limits settings
command_of-limits Check settings = tt
command_of-limits Tables settings = tt
command_of-limits Bench settings = (
  given_in 1 200 4 (between _ _ _ (omega arith) (omega arith)) (given settings Stages),
  given_in 1 10_000 16 (between _ _ _ (omega arith) (omega arith)) (given settings Items),
  given_in 0 4_294_967_295 1 (between _ _ _ (omega arith) (omega arith)) (given settings Seed),
  given_in 1 64 1 (between _ _ _ (omega arith) (omega arith)) (given settings Workers),
)
