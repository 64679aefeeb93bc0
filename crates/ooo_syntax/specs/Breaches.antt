-- What is wrong with a text that is cut into tokens.
use Rattle.std.specs.Prelude.{ℕ, List, codes}
use Rattle.ooo_syntax.specs.declared.error.ParseBreach.{ParseBreach}
use Rattle.ooo_syntax.specs.declared.error.ParseBreach.TheVariants as breach

-- a breach's name, as refusals write it
abbrev pub name_of : ParseBreach → List ℕ
name_of breach.Syntax = codes "Syntax"
name_of breach.TooDeep = codes "TooDeep"
name_of breach.NotInProfile = codes "NotInProfile"
