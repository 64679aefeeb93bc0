-- What is kept of what is noted: the breach that is told of those met so far, and all calls, waits and triggers.
use Rattle.std.specs.Prelude.{◌≡◌, refl, ◌==◌, nat_lt, List, [], ◌∷◌, ◌++◌, Bool, ◌&&◌, ◌||◌, Option, Some, None, if◌then◌else◌}
use Rattle.ooo_lexer.specs.declared.position.Position.{Position}
use Rattle.ooo_checked.specs.declared.breach.Breach.{Breach}
use Rattle.ooo_checked.specs.Breaches.{rank_of}
use Rattle.ooo_checked.specs.Notes.{Note, Breaks, Calls, Waits, Triggers}
use Rattle.ooo_bodies.specs.declared.notes.Notes.{Notes}

-- an earlier place of a text
abbrev pub is_earlier : Position → Position → Bool
is_earlier a b = nat_lt a.line b.line || (a.line == b.line && nat_lt a.column b.column)

-- the same place
abbrev pub is_same : Position → Position → Bool
is_same a b = a.line == b.line && a.column == b.column

-- the breach is told rather than the other: it stands earlier, or at the same place with the lesser rank
abbrev pub precedes : Breach → Breach → Bool
precedes a b = is_earlier a.at b.at || (is_same a.at b.at && nat_lt (rank_of a.what) (rank_of b.what))

-- of the breach that was told so far and one more, the one that is told
abbrev pub told : Option Breach → Breach → Option Breach
told None b = Some b
told (Some a) b = if precedes b a then Some b else Some a

-- what is kept with one note more
abbrev pub with_note : Notes → Note → Notes
with_note n (Breaks what at) = record n { breach = told n.breach (record { what = what; at = at }) }
with_note n (Calls at function) = record n { calls = n.calls ++ record { at = at; function = function } ∷ [] }
with_note n (Waits at) = record n { waits = n.waits ++ at ∷ [] }
with_note n (Triggers at) = record n { triggers = n.triggers ++ at ∷ [] }

-- what is kept with these notes more
abbrev pub noted : Notes → List Note → Notes
noted n [] = n
noted n (x ∷ xs) = noted (with_note n x) xs

-- notes and then others are noted one after the other
pub noted_append : (n : Notes) (xs ys : List Note) → noted n (xs ++ ys) ≡ noted (noted n xs) ys
noted_append n [] ys = refl
noted_append n (x ∷ xs) ys = noted_append (with_note n x) xs ys
