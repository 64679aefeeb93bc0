-- The run of a board that is over, computed from what is kept of its activations in the order of the commits.
use Rattle.std.specs.Prelude.{◌≡◌, ℕ, ◌<◌, ◌==◌, nat_lt, Bool, true, false, not, ◌&&◌, ◌||◌, if◌then◌else◌, List, [], ◌∷◌, ◌++◌, length, fold, filter, slice_index_or, Option, Some, None}
use Rattle.std.specs.List.{list_any}
use Rattle.std.specs.List.Sorted.{IsPermutation, IsSortedBy}
use Rattle.ooo_time.specs.declared.stamp.Place.{Place}
use Rattle.ooo_time.specs.declared.stamp.Stamp.{Stamp}
use Rattle.ooo_time.specs.Stamps.{ComesBefore, IsBefore, is_before}
use Rattle.ooo_history.specs.declared.run.End.{End}
use Rattle.ooo_history.specs.declared.run.End.TheVariants as end
use Rattle.ooo_history.specs.declared.run.Entry.{Entry}
use Rattle.ooo_history.specs.declared.run.Piece.{Piece}
use Rattle.ooo_history.specs.declared.run.Run.{Run}
use Rattle.ooo_meaning.specs.Runs.{Shows as ShowsRun}
use Rattle.ooo_meaning.specs.Sequence.{Result}
use Rattle.ooo_meaning.specs.World.{broken_by, next_delta, place_of, zero_stamp}
use Rattle.ooo_channels.specs.Conditions.{AreOrdered}
use Rattle.ooo_channels.specs.Cycles.{cycle_of, whole_history}
use Rattle.ooo_channels.specs.Operations.{Operations, operations_before}
use Rattle.ooo_schedules.specs.Model.{Act, Front, In, front_of}
use Rattle.ooo_schedules.specs.Reports.{is_below_limit}
use Rattle.ooo_dispatch.specs.declared.reads.Reads.{Reads}
use Rattle.ooo_dispatch.specs.Banks.{operations_on}
use Rattle.ooo_dispatch.specs.Boards.{Board, IsFront, IsOverBoard, model}
use Rattle.ooo_dispatch.specs.Least.{Advance}
use Rattle.ooo_dispatch.specs.Reports.{piece_of, run_of_board}
use Rattle.ooo_dispatch.specs.Rules.{Rules, breaks_by, deed_of, is_stop, outcome_of}
use Rattle.ooo_dispatch.specs.Steps.{Replay}

-- ---- what is kept of activations, in the order of the commits

-- the output of an activation, if it printed something
abbrev pub piece_in : Rules → Act Stamp Reads → List Piece
piece_in r y = elim (outcome_of r y).deed.output [ [] ↦ [] | c ∷ cs ↦ piece_of r y ∷ [] ]

-- the pieces of activations
abbrev pub pieces_in : Rules → List (Act Stamp Reads) → List Piece
pieces_in r [] = []
pieces_in r (y ∷ ys) = pieces_in r ys ++ piece_in r y

-- their places
abbrev pub places_in : List (Act Stamp Reads) → List Place
places_in [] = []
places_in (y ∷ ys) = places_in ys ++ place_of y.stamp y.process ∷ []

-- ---- what may end a run

-- where an activation ended the run first, and how; the first stamp at which one called sc_stop; the earliest stamp of a front
pub record Ends : Type 0 where
  pub broken : Option (Place × End)
  pub stopped : Option Stamp
  pub next : Option Stamp

-- an activation ended the run at this place, in this way
pub record IsBreakAt (r : Rules) (y : Act Stamp Reads) (x : Place × End) : Type 0 where
  pub at : x.0 ≡ place_of y.stamp y.process
  pub how : broken_by x.0 (outcome_of r y).deed.end ≡ Some x.1

-- one of these activations did, and none at an earlier place
abbrev pub IsFirstBreak : (r : Rules) → List (Act Stamp Reads) → Option (Place × End) → Type 0
IsFirstBreak r ys None = (y : Act Stamp Reads) → In y ys → breaks_by (outcome_of r y).deed.end ≡ false
IsFirstBreak r ys (Some x) =
    ((y : Act Stamp Reads) × In y ys × IsBreakAt r y x)
    × ((y : Act Stamp Reads) → In y ys → breaks_by (outcome_of r y).deed.end ≡ true → ComesBefore (place_of y.stamp y.process) x.0 → ⊥)

-- an activation called sc_stop
abbrev pub calls_stop : Rules → Act Stamp Reads → Bool
calls_stop r y = list_any is_stop (deed_of r y).effects

-- the first stamp at which one of these activations did
abbrev pub IsFirstStop : (r : Rules) → List (Act Stamp Reads) → Option Stamp → Type 0
IsFirstStop r ys None = (y : Act Stamp Reads) → In y ys → calls_stop r y ≡ false
IsFirstStop r ys (Some s) =
    ((y : Act Stamp Reads) × In y ys × (calls_stop r y ≡ true) × (y.stamp ≡ s))
    × ((y : Act Stamp Reads) → In y ys → calls_stop r y ≡ true → IsBefore y.stamp s → ⊥)

-- the earliest stamp of a front; none where no process has one
abbrev pub IsNextStamp : (r : Rules) → Board r → Option Stamp → Type 0
IsNextStamp r b None = (q : ℕ) → front_of (model r) b q ≡ None
IsNextStamp r b (Some s) =
    ((q : ℕ) × (g : Front Stamp) × IsFront r b q g × (g.stamp ≡ s)) × ((q : ℕ) (g : Front Stamp) → IsFront r b q g → IsBefore g.stamp s → ⊥)

-- what may end the run of a board
pub record AreEnds (r : Rules) (b : Board r) (e : Ends) : Type 0 where
  pub broken : IsFirstBreak r b.log e.broken
  pub stopped : IsFirstStop r b.log e.stopped
  pub next : IsNextStamp r b e.next

-- ---- what is shown

-- the order of places, as a test
abbrev pub precedes : Place → Place → Bool
precedes a b = is_before a.stamp b.stamp || (not (is_before b.stamp a.stamp) && nat_lt a.process b.process)

-- a place is after that of the first break
abbrev pub is_past_break : Option (Place × End) → Place → Bool
is_past_break None at = false
is_past_break (Some x) at = precedes x.0 at

-- a stamp is after the first one of sc_stop
abbrev pub is_past_stop : Option Stamp → Stamp → Bool
is_past_stop None s = false
is_past_stop (Some t) s = is_before t s

-- what was done at a place is shown: it is past no end, and below the limit of deltas
abbrev pub is_shown : (limit : ℕ) → Ends → Place → Bool
is_shown limit e at = not (is_past_break e.broken at || is_past_stop e.stopped at.stamp) && is_below_limit limit e.next at.stamp

-- ---- how it ends

-- the first break, where it is shown
abbrev pub break_shown : (limit : ℕ) → Ends → Option (Place × End) → Option (Place × End)
break_shown limit e None = None
break_shown limit e (Some x) = if is_shown limit e x.0 then Some x else None

-- the first stamp of sc_stop, where it is below the limit
abbrev pub stop_shown : (limit : ℕ) → (next stopped : Option Stamp) → Option Stamp
stop_shown limit next None = None
stop_shown limit next (Some t) = if is_below_limit limit next t then Some t else None

-- the earliest stamp of a front, where it is at the limit
abbrev pub limit_reached : (limit : ℕ) → (next : Option Stamp) → Option Stamp
limit_reached limit None = None
limit_reached limit (Some s) = if s.delta == limit then Some s else None

-- the stamp before which operations count, if not all do: by a break, else by a stop, else by the limit
abbrev pub counted_by : Option (Place × End) → (stop limit : Option Stamp) → Option Stamp
counted_by (Some x) stop limit = Some x.0.stamp
counted_by None (Some t) limit = Some (next_delta t)
counted_by None None limit = limit

abbrev pub counted_before : (limit : ℕ) → Ends → Option Stamp
counted_before limit e = counted_by (break_shown limit e e.broken) (stop_shown limit e.next e.stopped) (limit_reached limit e.next)

-- the history of channel c by the operations before a stamp, if one is given
abbrev pub history_by : Operations → (before : Option Stamp) → (c : ℕ) → List Entry
history_by ops None c = whole_history (cycle_of ops c)
history_by ops (Some s) c = whole_history (cycle_of (operations_before s ops) c)

-- the latest stamp of some places, or time zero where there are none
abbrev pub latest_stamp : List Place → Stamp
latest_stamp places = fold (λ s at. if is_before s at.stamp then at.stamp else s) zero_stamp places

-- since no process runs next, or only after the stop time, or at the limit
abbrev pub end_at : Rules → (latest : Stamp) → (next : Option Stamp) → End
end_at r latest None = end.Idle latest
end_at r latest (Some s) = if nat_lt r.limits.stop.0 s.time.0 then end.Time r.limits.stop else end.Deltas s

-- by a break, else by a stop, else so
abbrev pub ended_by : Option (Place × End) → (stop : Option Stamp) → (other : End) → End
ended_by (Some x) stop other = x.1
ended_by None (Some t) other = end.Stop t
ended_by None None other = other

-- ---- the run

-- the places of a board that are shown
abbrev pub shown_places : (r : Rules) → Board r → Ends → List Place
shown_places r b e = filter (is_shown r.limits.deltas e) (places_in b.log)

-- the pieces of a board that are shown
abbrev pub shown_pieces : (r : Rules) → Board r → Ends → List Piece
shown_pieces r b e = filter (λ x. is_shown r.limits.deltas e x.place) (pieces_in r b.log)

-- a run is read off a board: the pieces that are shown, in order of place, and how many activations are; the histories by the
-- operations that count; and how it ends
pub record IsReadOff (r : Rules) (b : Board r) (e : Ends) (run : Run) : Type 0 where
  pub pieces : IsPermutation (shown_pieces r b e) run.pieces
  pub in_order : IsSortedBy (λ x y. precedes x.place y.place) run.pieces
  pub channels : length run.channels ≡ length r.design.channels
  pub histories :
      (c : ℕ) → c < length r.design.channels →
      slice_index_or run.channels c [] ≡ history_by (operations_on r b) (counted_before r.limits.deltas e) c
  pub end :
      run.end
      ≡ ended_by (break_shown r.limits.deltas e e.broken) (stop_shown r.limits.deltas e.next e.stopped)
      (end_at r (latest_stamp (shown_places r b e)) e.next)
  pub activations : run.activations ≡ length (shown_places r b e)

-- each committed activation ran below the limit of deltas; the operations on each channel were applied in the order of their
-- stamps; and once a board is over, a run that is read off it so shows what the run shows that its activations give in order of place
pub record ReportsAreReadOff (r : Rules) (least : Advance) (s : Replay r) : Type 0 where
  pub below_limit : (y : Act Stamp Reads) → In y s.board.log → y.stamp.delta < r.limits.deltas
  pub ordered : (c : ℕ) → AreOrdered (operations_on r s.board) c
  pub read_off :
      (e : Ends) (run : Run) → IsOverBoard r s.board → AreEnds r s.board e → IsReadOff r s.board e run → (result : Result) →
      ShowsRun (run_of_board r s.board) result → ShowsRun run result
