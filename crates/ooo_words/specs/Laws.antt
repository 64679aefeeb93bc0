-- What holds of the reading of words: how a setting may be written, and in which order.
use Rattle.std.specs.Prelude.{◌≡◌, ◌⊎◌, List, [], ◌∷◌, ◌++◌, IsPermutation, Ok, codes}
use Rattle.ooo_words.specs.declared.command.Command.{Command}
use Rattle.ooo_words.specs.declared.options.OptionName.{OptionName}
use Rattle.ooo_words.specs.Options.{Text, option_word}
use Rattle.ooo_words.specs.Reading.{reading}

-- an option and its value
abbrev pub Given : Type 0
Given = OptionName × Text

-- the words are those of a setting and then the rest: `--name VALUE`, or `--name=VALUE`
abbrev pub Begins : Given → List Text → List Text → Type 0
Begins setting rest words =
    (words ≡ option_word setting.0 ∷ setting.1 ∷ rest)
    ⊎ (words ≡ (option_word setting.0 ++ codes "=" ++ setting.1) ∷ rest)

-- the words are those of these settings, one after the other
abbrev pub Writes : List Given → List Text → Type 0
Writes [] words = words ≡ []
Writes (setting ∷ settings) words =
    (rest : List Text) × Begins setting rest words × Writes settings rest

-- words that write the same settings are read alike
abbrev pub IsReadOneWay : Type 0
IsReadOneWay = (command : Text) (settings : List Given) (words others : List Text)
    → Writes settings words → Writes settings others
    → reading (command ∷ words) ≡ reading (command ∷ others)

-- words that write the same settings in another order ask for the same command
abbrev pub IsReadInAnyOrder : Type 0
IsReadInAnyOrder = (command : Text) (settings reordered : List Given) (words others : List Text)
    → IsPermutation settings reordered → Writes settings words → Writes reordered others
    → (asked : Command) → reading (command ∷ words) ≡ Ok asked
    → reading (command ∷ others) ≡ Ok asked
