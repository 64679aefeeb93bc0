-- What is noted of a text without breaches.
use Rattle.std.specs.Prelude.{List, ⊤}
use Rattle.std.specs.List.{AllByRecursion}
use Rattle.ooo_checked.specs.Notes.{Note, Breaks, Calls, Waits, Triggers}

-- it is no breach
abbrev pub IsRight : Note → Type 0
IsRight (Breaks what at) = ⊥
IsRight (Calls at f) = ⊤
IsRight (Waits at) = ⊤
IsRight (Triggers at) = ⊤

-- none of these is
abbrev pub AreRight : List Note → Type 0
AreRight ns = AllByRecursion IsRight ns
