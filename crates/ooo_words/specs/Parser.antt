-- The parser of `clap` that reads the words of a command, and the values that it finds.
use Rattle.std.specs.Prelude.{◌≡◌, List, [], Option, Some, map, true}
use Rattle.clap.specs.Matches.{found_of, first_value}
use Rattle.clap.specs.Simple.{App, new_rule, new_shape}
use Rattle.clap.specs.Walk.{Rule}
use Rattle.clap.specs.declared.parser.matches.ArgMatches.{ArgMatches}
use Rattle.ooo_words.specs.declared.options.CommandName.{CommandName}
use Rattle.ooo_words.specs.declared.options.OptionName.{OptionName}
use Rattle.ooo_words.specs.Options.{Text, command_text, option_text, options_of}
use Rattle.ooo_words.specs.Reading.{Setting, given}

-- an option by its name, which takes one value
abbrev pub argument_of : OptionName → Rule
argument_of option = record (new_rule (option_text option)) { long = Some (option_text option) }

-- a simple command with these arguments, and no help
abbrev pub parser_with : CommandName → List Rule → App
parser_with command rules = record {
  top = record (new_shape (command_text command)) { rules = rules; disable_help_flag = true };
  subs = [];
}

-- the parser of a command has each of its options
abbrev pub parser_of : CommandName → App
parser_of command = parser_with command (map argument_of (options_of command))

-- the value that a parse found for an option
abbrev pub value_found : ArgMatches → OptionName → Option Text
value_found matches option = first_value (found_of matches) (option_text option)

-- a parse found for each option the value that the settings give
abbrev pub HasValuesOf : List Setting → ArgMatches → Type 0
HasValuesOf settings matches = (option : OptionName) → value_found matches option ≡ given settings option
