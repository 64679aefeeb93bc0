-- What the words after the program's name ask for.
use Rattle.std.specs.Prelude.{ℕ, ◌==◌, Bool, List, [], ◌∷◌, ◌++◌, Option, Some, None, Result, Ok, Err, option_and_then}
use Rattle.std.specs.Prelude.{unwrap_or, find, if◌then◌else◌}
use Rattle.std.specs.List.{list_any, before_first, after_first}
use Rattle.std.specs.Str.{bytes_eq}
use Rattle.ooo_time.specs.declared.time.Time.{Time}
use Rattle.ooo_words.specs.declared.options.CommandName.{CommandName}
use Rattle.ooo_words.specs.declared.options.CommandName.TheVariants as name
use Rattle.ooo_words.specs.declared.options.OptionName.{OptionName}
use Rattle.ooo_words.specs.declared.options.OptionName.TheVariants.{Stop, Workers, Deltas, Statements}
use Rattle.ooo_words.specs.declared.options.OptionName.TheVariants.{Stages, Items, Seed}
use Rattle.ooo_words.specs.declared.command.Command.{Command}
use Rattle.ooo_words.specs.declared.command.RunOptions.{RunOptions}
use Rattle.ooo_words.specs.declared.command.Command.TheVariants.{Run, Plain, Check, Tables, Bench}
use Rattle.ooo_words.specs.declared.refused.WordsBreach.{WordsBreach}
use Rattle.ooo_words.specs.declared.refused.WordsBreach.TheVariants.{NoCommand, UnknownCommand}
use Rattle.ooo_words.specs.declared.refused.WordsBreach.TheVariants.{UnknownOption, NoValue, BadValue, Twice}
use Rattle.ooo_words.specs.declared.refused.WordsError.{WordsError}
use Rattle.ooo_words.specs.declared.refused.WordsError.TheVariants.{Refused}
use Rattle.ooo_words.specs.Limits.{default_workers, default_deltas, default_statements}
use Rattle.ooo_words.specs.Limits.{default_stages, default_items, default_seed}
use Rattle.ooo_words.specs.Options.{Text, command_named, option_named, option_word}
use Rattle.ooo_words.specs.Numbers.{number_of, takes_value, time_of}

-- ---- settings

-- an option as it is written, and its value, if a word is left for it
pub record Setting : Type 0 where
  pub option : Text
  pub value : Option Text

-- the byte is `=`
abbrev pub is_equals : ℕ → Bool
is_equals byte = byte == 61

-- `--name=VALUE`, which its first `=` splits
abbrev pub joined_setting : Text → Setting
joined_setting word = record { option = before_first is_equals word; value = Some (after_first is_equals word) }

-- the settings that the words after the command make: a word with a `=` is one by itself, and any other takes the
-- next word as its value
abbrev pub settings_of : List Text → List Setting
settings_of [] = []
settings_of (word ∷ []) =
    (if list_any is_equals word then joined_setting word else record { option = word; value = None }) ∷ []
settings_of (word ∷ next ∷ rest) =
    if list_any is_equals word then joined_setting word ∷ settings_of (next ∷ rest)
    else record { option = word; value = Some next } ∷ settings_of rest

-- ---- breaches

-- words are refused with this one
abbrev pub refused_with : WordsBreach → Text → WordsError
refused_with breach word = Refused breach (Some word)

-- an earlier setting is of the option that is written so
abbrev pub is_met : Text → List Text → Bool
is_met option earlier = list_any (λ word. bytes_eq word option) earlier

-- the breach of a value, of which the option takes only some
abbrev pub value_breach : OptionName → Text → Option Text → Option WordsError
value_breach option word None = Some (refused_with NoValue word)
value_breach option word (Some value) = if takes_value option value then None else Some (refused_with BadValue word)

-- the breach of a setting of this option of the command, if it is of one
abbrev pub option_breach : List Text → Setting → Option OptionName → Option WordsError
option_breach earlier setting None = Some (refused_with UnknownOption setting.option)
option_breach earlier setting (Some option) =
    if is_met setting.option earlier then Some (refused_with Twice setting.option)
    else value_breach option setting.option setting.value

-- the breach of a setting after those of the earlier options: it is of no option of the command, or of an earlier one,
-- or it has no value, or none that the option takes
abbrev pub breach_of : CommandName → List Text → Setting → Option WordsError
breach_of command earlier setting = option_breach earlier setting (option_named command setting.option)

-- the first breach, where it is there, or the other
abbrev pub breach_or : Option WordsError → Option WordsError → Option WordsError
breach_or None other = other
breach_or (Some e) other = Some e

-- the first breach from left to right of the settings that follow those of the earlier options
abbrev pub first_breach : CommandName → List Text → List Setting → Option WordsError
first_breach command earlier [] = None
first_breach command earlier (setting ∷ rest) =
    breach_or (breach_of command earlier setting) (first_breach command (earlier ++ setting.option ∷ []) rest)

-- ---- the command

-- the value of the first setting of an option
abbrev pub given : List Setting → OptionName → Option Text
given settings option =
    option_and_then (λ setting. setting.value)
    (find (λ setting. bytes_eq setting.option (option_word option)) settings)

-- the number that is given for an option, or this one where none is
abbrev pub number_or : ℕ → List Setting → OptionName → ℕ
number_or default settings option =
    unwrap_or (option_and_then (number_of option) (given settings option)) default

-- the stop time, where it is given
abbrev pub stop_time : List Setting → Option Time
stop_time settings = option_and_then time_of (given settings Stop)

-- what settings without a breach ask of a run
abbrev pub run_options : List Setting → RunOptions
run_options settings = record {
  stop = stop_time settings;
  deltas = number_or default_deltas settings Deltas;
  statements = number_or default_statements settings Statements;
}

-- the command that settings without a breach ask for
abbrev pub command_of : CommandName → List Setting → Command
command_of name.Run settings = Run (run_options settings) (number_or default_workers settings Workers)
command_of name.Plain settings = Plain (run_options settings)
command_of name.Check settings = Check
command_of name.Tables settings = Tables
command_of name.Bench settings =
    Bench (number_or default_stages settings Stages) (number_or default_items settings Items) (number_or default_seed settings Seed)
    (number_or default_workers settings Workers)

-- the command, where there is no breach
abbrev pub unless_breached : Option WordsError → Command → Result Command WordsError
unless_breached None command = Ok command
unless_breached (Some e) command = Err e

-- what a first word and the settings after it ask for, where the word names this command
abbrev pub reading_of : Text → Option CommandName → List Setting → Result Command WordsError
reading_of word None settings = Err (refused_with UnknownCommand word)
reading_of word (Some command) settings =
    unless_breached (first_breach command [] settings) (command_of command settings)

-- the command that the words ask for, or their first breach from left to right
abbrev pub reading : List Text → Result Command WordsError
reading [] = Err (Refused NoCommand None)
reading (word ∷ rest) = reading_of word (command_named word) (settings_of rest)
