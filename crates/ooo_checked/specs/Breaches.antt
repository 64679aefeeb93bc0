-- The breaches of names and types: their names, and which of two is told.
use Rattle.std.specs.Prelude.{ℕ, List, codes}
use Rattle.ooo_checked.specs.declared.breach.TypeBreach.{TypeBreach}
use Rattle.ooo_checked.specs.declared.breach.TypeBreach.TheVariants as what

-- how refusals write a breach
abbrev pub name_of : TypeBreach → List ℕ
name_of what.UnknownName = codes "UnknownName"
name_of what.DeclaredTwice = codes "DeclaredTwice"
name_of what.WrongKind = codes "WrongKind"
name_of what.WaitInMethod = codes "WaitInMethod"
name_of what.WaitInFunction = codes "WaitInFunction"
name_of what.RecursiveCall = codes "RecursiveCall"
name_of what.NotAPort = codes "NotAPort"
name_of what.WrongCount = codes "WrongCount"
name_of what.EffectInside = codes "EffectInside"
name_of what.NotConstant = codes "NotConstant"

-- the rank of a breach among those of one place
abbrev pub rank_of : TypeBreach → ℕ
rank_of what.UnknownName = 1
rank_of what.DeclaredTwice = 2
rank_of what.WrongKind = 3
rank_of what.WaitInMethod = 4
rank_of what.WaitInFunction = 5
rank_of what.RecursiveCall = 6
rank_of what.NotAPort = 7
rank_of what.WrongCount = 8
rank_of what.EffectInside = 9
rank_of what.NotConstant = 10
