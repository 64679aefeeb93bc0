-- The bytes of a run's report.
use Rattle.std.specs.Prelude.{ℕ, ◌-◌, ◌<◌, ◌==◌, List, [], ◌∷◌, ◌++◌, Option, Some, None, codes, decimal, length, slice_get, slice_index_or, if◌then◌else◌}
use Rattle.std.specs.List.{flat_map}
use Rattle.ooo_time.specs.declared.stamp.Stamp.{Stamp}
use Rattle.ooo_time.specs.declared.stamp.Place.{Place}
use Rattle.ooo_time.specs.TimeText.{time_text}
use Rattle.ooo_value.specs.declared.naming.Names.{Names}
use Rattle.ooo_value.specs.ValueText.{value_text}
use Rattle.ooo_value.specs.FaultNames.{fault_name}
use Rattle.ooo_history.specs.declared.run.What.{What}
use Rattle.ooo_history.specs.declared.run.What.TheVariants.{Took, Put, Changed}
use Rattle.ooo_history.specs.declared.run.Entry.{Entry}
use Rattle.ooo_history.specs.declared.run.Piece.{Piece}
use Rattle.ooo_history.specs.declared.run.End.{End}
use Rattle.ooo_history.specs.declared.run.End.TheVariants as end
use Rattle.ooo_history.specs.declared.run.Run.{Run}

-- a newline after a text whose last byte is another
abbrev pub closed_after : Option ℕ → List ℕ → List ℕ
closed_after None text = text
closed_after (Some last) text = if last == 10 then text else text ++ 10 ∷ []

-- the text, with a newline at its end unless it is empty
abbrev pub closed : List ℕ → List ℕ
closed text = closed_after (slice_get text (length text - 1)) text

-- what was printed, piece by piece
abbrev pub output_text : List Piece → List ℕ
output_text pieces = flat_map (λ piece. piece.bytes) pieces

-- a time, a blank, and the number of the delta cycle
abbrev pub stamp_text : Stamp → List ℕ
stamp_text s = time_text s.time ++ codes " " ++ decimal s.delta

-- what stands between a stamp and a value
abbrev pub sign_of : What → List ℕ
sign_of Took = codes " out "
sign_of Put = codes " in "
sign_of Changed = codes " = "

-- the line of an entry of the channel of this name
abbrev pub entry_line : List ℕ → Entry → List ℕ
entry_line name e = name ++ codes " @ " ++ stamp_text e.stamp ++ sign_of e.what ++ value_text e.value ++ codes "\n"

-- the lines of a channel
abbrev pub history_text : List ℕ → List Entry → List ℕ
history_text name entries = flat_map (entry_line name) entries

-- the lines of all channels, one channel after the other
abbrev pub histories_text : List (List ℕ) → List (List Entry) → List ℕ
histories_text names [] = []
histories_text [] (entries ∷ others) = []
histories_text (name ∷ names) (entries ∷ others) = history_text name entries ++ histories_text names others

-- the name of a process
abbrev pub process_name : List (List ℕ) → ℕ → List ℕ
process_name names p = slice_index_or names p []

-- a stamp, the name of the process, and the number of a line
abbrev pub place_text : List (List ℕ) → Place → ℕ → List ℕ
place_text names at line = stamp_text at.stamp ++ codes " " ++ process_name names at.process ++ codes " " ++ decimal line

-- how a run ended, by the names of the processes
abbrev pub end_text : List (List ℕ) → End → List ℕ
end_text names (end.Time t) = codes "time " ++ time_text t
end_text names (end.Idle s) = codes "idle " ++ stamp_text s
end_text names (end.Stop s) = codes "stop " ++ stamp_text s
end_text names (end.Fault f at line) = codes "fault " ++ fault_name f ++ codes " " ++ place_text names at line
end_text names (end.Statements at line) = codes "statements " ++ place_text names at line
end_text names (end.Deltas s) = codes "deltas " ++ stamp_text s

-- the report: what was printed, the histories, and how the run ended
abbrev pub report_text : Run → Names → List ℕ
report_text run names =
    closed (output_text run.pieces) ++ codes "== histories\n" ++ histories_text names.channels run.channels
    ++ codes "== end\n" ++ end_text names.processes run.end ++ codes "\n"

-- the process that an ending speaks of, if any, has a name
abbrev pub IsNamed : End → List (List ℕ) → Type 0
IsNamed (end.Fault f at line) names = at.process < length names
IsNamed (end.Statements at line) names = at.process < length names
IsNamed _ names = Unit {0}
