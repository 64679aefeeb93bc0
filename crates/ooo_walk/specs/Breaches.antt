-- How refusals write what is wrong.
use Rattle.std.specs.Prelude.{ℕ, List, codes}
use Rattle.ooo_walk.specs.declared.refusal.ElabBreach.{ElabBreach}
use Rattle.ooo_walk.specs.declared.refusal.ElabBreach.TheVariants as what

-- the name of a breach
abbrev pub name_of : ElabBreach → List ℕ
name_of what.PortNotBound = codes "PortNotBound"
name_of what.PortBoundTwice = codes "PortBoundTwice"
name_of what.PortKind = codes "PortKind"
name_of what.TwoWriters = codes "TwoWriters"
name_of what.TwoReaders = codes "TwoReaders"
name_of what.TooManyProcesses = codes "TooManyProcesses"
name_of what.TooManyObjects = codes "TooManyObjects"
name_of what.TooManyCells = codes "TooManyCells"
name_of what.FifoSize = codes "FifoSize"
name_of what.TimeTooLarge = codes "TimeTooLarge"
name_of what.OddClock = codes "OddClock"
name_of what.BadConstant = codes "BadConstant"
