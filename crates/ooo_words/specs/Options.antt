-- The commands, the options that each takes, and how both are written.
use Rattle.std.specs.Prelude.{ℕ, List, [], ◌∷◌, ◌++◌, Option, codes, find}
use Rattle.std.specs.Str.{bytes_eq}
use Rattle.ooo_words.specs.declared.options.CommandName.{CommandName}
use Rattle.ooo_words.specs.declared.options.CommandName.TheVariants.{Run, Plain, Check, Tables, Bench}
use Rattle.ooo_words.specs.declared.options.OptionName.{OptionName}
use Rattle.ooo_words.specs.declared.options.OptionName.TheVariants.{Stop, Workers, Deltas, Statements}
use Rattle.ooo_words.specs.declared.options.OptionName.TheVariants.{Stages, Items, Seed}

-- a word, as its bytes
abbrev pub Text : Type 0
Text = List ℕ

-- how a command is written
abbrev pub command_text : CommandName → Text
command_text Run = codes "run"
command_text Plain = codes "plain"
command_text Check = codes "check"
command_text Tables = codes "tables"
command_text Bench = codes "bench"

-- the name of an option
abbrev pub option_text : OptionName → Text
option_text Stop = codes "stop"
option_text Workers = codes "workers"
option_text Deltas = codes "deltas"
option_text Statements = codes "statements"
option_text Stages = codes "stages"
option_text Items = codes "items"
option_text Seed = codes "seed"

-- how an option is written: two hyphens and its name
abbrev pub option_word : OptionName → Text
option_word option = codes "--" ++ option_text option

-- the options that a command takes
abbrev pub options_of : CommandName → List OptionName
options_of Run = Stop ∷ Workers ∷ Deltas ∷ Statements ∷ []
options_of Plain = Stop ∷ Deltas ∷ Statements ∷ []
options_of Check = []
options_of Tables = []
options_of Bench = Stages ∷ Items ∷ Seed ∷ Workers ∷ []

-- the command that a word names
abbrev pub command_named : Text → Option CommandName
command_named word =
    find (λ command. bytes_eq word (command_text command)) (Run ∷ Plain ∷ Check ∷ Tables ∷ Bench ∷ [])

-- the option of this command that a word names
abbrev pub option_named : CommandName → Text → Option OptionName
option_named command word =
    find (λ option. bytes_eq word (option_word option)) (options_of command)
