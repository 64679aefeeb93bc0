-- What is wrong, in words.
use Rattle.std.specs.Prelude.{ℕ, List, codes}
use Rattle.ooo_lexer.specs.declared.breach.LexBreach.{LexBreach}
use Rattle.ooo_lexer.specs.declared.breach.LexBreach.TheVariants as lexer
use Rattle.ooo_syntax.specs.declared.error.ParseBreach.{ParseBreach}
use Rattle.ooo_syntax.specs.declared.error.ParseBreach.TheVariants as parser
use Rattle.ooo_checked.specs.declared.breach.TypeBreach.{TypeBreach}
use Rattle.ooo_checked.specs.declared.breach.TypeBreach.TheVariants as types
use Rattle.ooo_walk.specs.declared.refusal.ElabBreach.{ElabBreach}
use Rattle.ooo_walk.specs.declared.refusal.ElabBreach.TheVariants as elab
use Rattle.ooo_words.specs.declared.refused.WordsBreach.{WordsBreach}
use Rattle.ooo_words.specs.declared.refused.WordsBreach.TheVariants as words

-- what is wrong with words
abbrev pub words_reason : WordsBreach → List ℕ
words_reason words.NoCommand = codes "there is no command"
words_reason words.UnknownCommand = codes "there is no such command"
words_reason words.UnknownOption = codes "the command has no such option"
words_reason words.NoValue = codes "the option has no value"
words_reason words.BadValue = codes "the option's value is out of form or range"
words_reason words.Twice = codes "the option is given twice"

-- what is wrong with words that ask for the run of a text, where neither of them stops it
abbrev pub stop_reason : List ℕ
stop_reason = codes "neither --stop nor the text's sc_start says when the run ends"

-- why a model can't be lowered
abbrev pub code_reason : List ℕ
code_reason = codes "the code of its processes is too large, where that of each function counts anew for each call"

-- why a model's design can't be used
abbrev pub segments_reason : List ℕ
segments_reason = codes "its processes have more than 1024 segments: one from each start, and one from each wait on"

-- what is wrong with a text that can't be cut
abbrev pub lexer_reason : LexBreach → List ℕ
lexer_reason lexer.BadByte = codes "this byte begins no token and no escape"
lexer_reason lexer.NumberTooWide = codes "this number is too great for each of its kinds"
lexer_reason lexer.TextNotClosed = codes "this text isn't closed on its line"
lexer_reason lexer.CommentNotClosed = codes "this comment isn't closed"
lexer_reason lexer.Directive = codes "this line includes none of the headers that may be included"
lexer_reason lexer.BadNumber = codes "this is no number"

-- what is wrong with a text that the grammar refuses
abbrev pub parser_reason : ParseBreach → List ℕ
parser_reason parser.Syntax = codes "the grammar doesn't go on with this"
parser_reason parser.TooDeep = codes "this stands too deep, or is one operator too many"
parser_reason parser.NotInProfile = codes "C++ or SystemC has this here, but the simulator doesn't take it"

-- what is wrong with the names and types of a text that the grammar spells
abbrev pub types_reason : TypeBreach → List ℕ
types_reason types.UnknownName = codes "nothing of this name is known here"
types_reason types.DeclaredTwice = codes "this is declared, or registered, a second time"
types_reason types.WrongKind = codes "what this names, or says, can't stand here"
types_reason types.WaitInMethod = codes "a function that SC_METHOD registers can't wait"
types_reason types.WaitInFunction = codes "a function that is called, or that is no process, can't wait"
types_reason types.RecursiveCall = codes "by this call a function may call itself"
types_reason types.NotAPort = codes "the instance's module has no port of this name"
types_reason types.WrongCount = codes "there are too many arguments, too few, or arguments of another form"
types_reason types.EffectInside = codes "this call can't stand inside an expression: give its value to a local first"
types_reason types.NotConstant = codes "this has to be known before the simulation, and isn't"

-- why a text whose names and types are right can't be elaborated
abbrev pub elab_reason : ElabBreach → List ℕ
elab_reason elab.PortNotBound = codes "nothing is bound to this port"
elab_reason elab.PortBoundTwice = codes "this port is bound already"
elab_reason elab.PortKind = codes "a port of this sort can't be bound to this"
elab_reason elab.TwoWriters = codes "two processes write to this"
elab_reason elab.TwoReaders = codes "two processes read from this"
elab_reason elab.TooManyProcesses = codes "this process is one too many"
elab_reason elab.TooManyObjects = codes "this instance, channel, event or variable is one too many"
elab_reason elab.TooManyCells = codes "the variables have too many elements with this one"
elab_reason elab.FifoSize = codes "a fifo holds 1 to 65536 values"
elab_reason elab.TimeTooLarge = codes "this time is too great"
elab_reason elab.OddClock = codes "a clock's period has to be a positive even number of picoseconds"
elab_reason elab.BadConstant = codes "this has no value, or none that may stand here"
