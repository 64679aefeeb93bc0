-- The run that is read off a board that is over.
use Rattle.std.specs.Prelude.{ℕ, nat_lt, List, [], ◌∷◌, ◌++◌, length, map, Bool, if◌then◌else◌, Option, Some, None}
use Rattle.std.specs.List.{list_any}
use Rattle.ooo_time.specs.declared.stamp.Stamp.{Stamp}
use Rattle.ooo_history.specs.declared.run.End.{End}
use Rattle.ooo_history.specs.declared.run.End.TheVariants as end
use Rattle.ooo_history.specs.declared.run.Entry.{Entry}
use Rattle.ooo_history.specs.declared.run.Piece.{Piece}
use Rattle.ooo_history.specs.declared.run.Run.{Run}
use Rattle.ooo_meaning.specs.Runs.{numbers_from}
use Rattle.ooo_meaning.specs.World.{broken_by, place_of, zero_stamp}
use Rattle.ooo_channels.specs.Cycles.{cycle_of, history_in, whole_history}
use Rattle.ooo_schedules.specs.Model.{Act}
use Rattle.ooo_schedules.specs.Reports.{next_stamp, reported}
use Rattle.ooo_schedules.specs.Tables.{program}
use Rattle.ooo_dispatch.specs.declared.reads.Reads.{Reads}
use Rattle.ooo_dispatch.specs.Rules.{Rules, deed_of, is_stop, operations_of, outcome_of, tables}
use Rattle.ooo_dispatch.specs.Boards.{Board}

-- ---- how a run ends that made these activations, the last in order of place first

-- at the stamp of the last one, or at time zero where there is none
abbrev pub last_stamp : List (Act Stamp Reads) → Stamp
last_stamp [] = zero_stamp
last_stamp (y ∷ ys) = y.stamp

-- by a fault of the last one, or since it came to the statement limit
abbrev pub broken_at_last : Rules → List (Act Stamp Reads) → Option End
broken_at_last r [] = None
broken_at_last r (y ∷ ys) = broken_by (place_of y.stamp y.process) (outcome_of r y).deed.end

-- since one of them called sc_stop
abbrev pub has_stopped : Rules → List (Act Stamp Reads) → Bool
has_stopped r ys = list_any (λ y. list_any is_stop (deed_of r y).effects) ys

-- since no process will run next, or only after the stop time, or at the limit of deltas
abbrev pub end_before : Rules → List (Act Stamp Reads) → (next : Option Stamp) → End
end_before r ys None = end.Idle (last_stamp ys)
end_before r ys (Some s) = if nat_lt r.limits.stop.0 s.time.0 then end.Time r.limits.stop else end.Deltas s

abbrev pub end_after : Rules → List (Act Stamp Reads) → (next : Option Stamp) → End
end_after r ys next = elim (broken_at_last r ys) [
  | Some e ↦ e
  | None ↦ if has_stopped r ys then end.Stop (last_stamp ys) else end_before r ys next
]

-- ---- what it shows

-- what an activation printed, at its place
abbrev pub piece_of : Rules → Act Stamp Reads → Piece
piece_of r y = record { place = place_of y.stamp y.process; bytes = (outcome_of r y).deed.output }

-- the first in order of place first
abbrev pub pieces_after : Rules → List (Act Stamp Reads) → List Piece
pieces_after r [] = []
pieces_after r (y ∷ ys) = pieces_after r ys ++ piece_of r y ∷ []

-- the history of channel c: all that their operations make of it; where the last one ended the run, up to its cycle, which
-- has no update then
abbrev pub history_after : Rules → List (Act Stamp Reads) → (c : ℕ) → List Entry
history_after r ys c = elim (broken_at_last r ys) [
  | Some e ↦ history_in (last_stamp ys) (operations_of r ys) c
  | None ↦ whole_history (cycle_of (operations_of r ys) c)
]

-- ---- the whole run

-- the run that made these activations, and would go on at a stamp
abbrev pub run_after : Rules → List (Act Stamp Reads) → (next : Option Stamp) → Run
run_after r ys next = record {
  pieces = pieces_after r ys;
  channels = map (history_after r ys) (numbers_from 0 (length r.design.channels));
  end = end_after r ys next;
  activations = length ys;
}

-- the activations that a board reports, the last in order of place first
abbrev pub reported_by : (r : Rules) → Board r → List (Act Stamp Reads)
reported_by r b = reported (program (tables r)) b

-- the run that a board reports
abbrev pub run_of_board : (r : Rules) → Board r → Run
run_of_board r b = run_after r (reported_by r b) (next_stamp (program (tables r)) b)
