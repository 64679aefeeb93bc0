-- The names of what is wrong with words, and the line that says so.
use Rattle.std.specs.Prelude.{[], ◌∷◌, ◌++◌, Option, Some, None, codes}
use Rattle.ooo_words.specs.declared.refused.WordsBreach.{WordsBreach}
use Rattle.ooo_words.specs.declared.refused.WordsBreach.TheVariants.{NoCommand, UnknownCommand}
use Rattle.ooo_words.specs.declared.refused.WordsBreach.TheVariants.{UnknownOption, NoValue, BadValue, Twice}
use Rattle.ooo_words.specs.declared.refused.WordsError.{WordsError}
use Rattle.ooo_words.specs.declared.refused.WordsError.TheVariants.{Refused, OutOfMemory}
use Rattle.ooo_words.specs.Options.{Text}

-- the name of a breach
abbrev pub name_of : WordsBreach → Text
name_of NoCommand = codes "NoCommand"
name_of UnknownCommand = codes "UnknownCommand"
name_of UnknownOption = codes "UnknownOption"
name_of NoValue = codes "NoValue"
name_of BadValue = codes "BadValue"
name_of Twice = codes "Twice"

-- a space and the word, where there is one
abbrev pub word_part : Option Text → Text
word_part None = []
word_part (Some word) = codes " " ++ word

-- the breach's name and its word, in a line
abbrev pub line_of : Text → Option Text → Text
line_of name word = codes "refused words " ++ name ++ word_part word ++ 10 ∷ []

-- the line that refuses the words; out of memory refuses nothing, and has none
abbrev pub refusal_line : WordsError → Option Text
refusal_line (Refused breach word) = Some (line_of (name_of breach) word)
refusal_line OutOfMemory = None
