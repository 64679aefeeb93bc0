-- Numbers, times, and the values that options take.
use Rattle.std.specs.Prelude.{ℕ, ◌*◌, ◌==◌, ◌&&◌, ◌||◌, not, Bool, [], ◌∷◌, length, drop, slice_index, take_while}
use Rattle.std.specs.Prelude.{Option, Some, None, option_and_then, option_map, find, is_some, nat_le, if◌then◌else◌}
use Rattle.std.specs.Char.{is_ascii_digit}
use Rattle.std.specs.List.{list_all}
use Rattle.std.specs.Str.{bytes_eq}
use Rattle.std.specs.Str.Parse.{digits_value}
use Rattle.ooo_time.specs.declared.time.Scale.{Scale}
use Rattle.ooo_time.specs.declared.time.Scale.TheVariants.{Ps, Ns, Us, Ms, Sec}
use Rattle.ooo_time.specs.declared.time.Time.{Time}
use Rattle.ooo_time.specs.Scales.{ticks_of, unit_text, greatest_time}
use Rattle.ooo_words.specs.declared.options.OptionName.{OptionName}
use Rattle.ooo_words.specs.declared.options.OptionName.TheVariants.{Stop, Workers, Deltas, Statements}
use Rattle.ooo_words.specs.declared.options.OptionName.TheVariants.{Stages, Items, Seed}
use Rattle.ooo_words.specs.Limits.{number_digits, time_digits, most_workers, most_deltas, most_statements}
use Rattle.ooo_words.specs.Limits.{most_stages, most_items, most_seed}
use Rattle.ooo_words.specs.Options.{Text}

-- 1 to `most` decimal digits, of which the first is no `0` (48) unless it is the only one
abbrev pub is_numeral : ℕ → Text → Bool
is_numeral most text = nat_le 1 (length text) && nat_le (length text) most && list_all is_ascii_digit text
    && (not (slice_index text 0 == 48) || length text == 1)

-- the number that such digits write
abbrev pub numeral_value : ℕ → Text → Option ℕ
numeral_value most text = if is_numeral most text then Some (digits_value 10 text) else None

-- the number, where it is in this range
abbrev pub within : ℕ → ℕ → ℕ → Option ℕ
within least greatest n = if nat_le least n && nat_le n greatest then Some n else None

-- a number of a few digits, in this range
abbrev pub number_within : ℕ → ℕ → Text → Option ℕ
number_within least greatest text = option_and_then (within least greatest) (numeral_value number_digits text)

-- the unit of time that a text names
abbrev pub unit_named : Text → Option Scale
unit_named text = find (λ unit. bytes_eq text (unit_text unit)) (Ps ∷ Ns ∷ Us ∷ Ms ∷ Sec ∷ [])

-- the ticks of a time: a number of a few more digits and then its unit, no more than the greatest time
abbrev pub time_ticks : Text → Option ℕ
time_ticks text =
    let digits = take_while is_ascii_digit text in
    option_and_then (λ n. option_and_then (λ unit. within 0 greatest_time (n * ticks_of unit))
    (unit_named (drop (length digits) text))) (numeral_value time_digits digits)

-- the time that a text writes
abbrev pub time_of : Text → Option Time
time_of text = option_map (λ (ticks : ℕ). record { 0 = ticks }) (time_ticks text)

-- the number that an option's value stands for, in the option's range; None for any other text, and for stop, which
-- takes a time
abbrev pub number_of : OptionName → Text → Option ℕ
number_of Stop text = None
number_of Workers text = number_within 1 most_workers text
number_of Deltas text = number_within 1 most_deltas text
number_of Statements text = number_within 1 most_statements text
number_of Stages text = number_within 1 most_stages text
number_of Items text = number_within 1 most_items text
number_of Seed text = number_within 0 most_seed text

-- the option takes the value
abbrev pub takes_value : OptionName → Text → Bool
takes_value Stop text = is_some (time_of text)
takes_value option text = is_some (number_of option text)
