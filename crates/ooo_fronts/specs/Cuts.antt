-- The cut, by the endings that were committed, and the least front.
use Rattle.std.specs.Prelude.{◌≡◌, ◌≤◌, ℕ, Bool, true, false, List, Option, None, Some}
use Rattle.std.specs.List.{list_any}
use Rattle.ooo_time.specs.declared.stamp.Stamp.{Stamp}
use Rattle.ooo_time.specs.declared.stamp.Place.{Place}
use Rattle.ooo_time.specs.Stamps.{IsBefore, ComesBefore}
use Rattle.ooo_meaning.specs.World.{broken_by, place_of}
use Rattle.ooo_schedules.specs.Model.{Act, Front, In, front_of}
use Rattle.ooo_dispatch.specs.declared.reads.Reads.{Reads}
use Rattle.ooo_dispatch.specs.Boards.{Board, IsFront, model}
use Rattle.ooo_dispatch.specs.Rules.{Rules, breaks_by, deed_of, is_stop, outcome_of}
use Rattle.ooo_fronts.specs.declared.cut.Break.{Break}
use Rattle.ooo_fronts.specs.declared.cut.Cut.{Cut}

-- ---- what ends the run

-- an activation ended the run
abbrev pub breaks : Rules → Act Stamp Reads → Bool
breaks r y = breaks_by (outcome_of r y).deed.end

-- it did so at this place, in this way
pub record IsBreakOf (r : Rules) (y : Act Stamp Reads) (x : Break) : Type 0 where
  pub at : x.place ≡ place_of y.stamp y.process
  pub how : broken_by x.place (outcome_of r y).deed.end ≡ Some x.end

-- the first break of these activations: one of them ended the run so, and none did at an earlier place
abbrev pub IsFirstBreak : (r : Rules) → List (Act Stamp Reads) → Option Break → Type 0
IsFirstBreak r ys None = (y : Act Stamp Reads) → In y ys → breaks r y ≡ false
IsFirstBreak r ys (Some x) =
    ((y : Act Stamp Reads) × In y ys × IsBreakOf r y x)
    × ((y : Act Stamp Reads) → In y ys → breaks r y ≡ true → ComesBefore (place_of y.stamp y.process) x.place → ⊥)

-- an activation called sc_stop
abbrev pub calls_stop : Rules → Act Stamp Reads → Bool
calls_stop r y = list_any is_stop (deed_of r y).effects

-- the first stamp at which one of these activations called sc_stop
abbrev pub IsFirstStop : (r : Rules) → List (Act Stamp Reads) → Option Stamp → Type 0
IsFirstStop r ys None = (y : Act Stamp Reads) → In y ys → calls_stop r y ≡ false
IsFirstStop r ys (Some s) =
    ((y : Act Stamp Reads) × In y ys × (calls_stop r y ≡ true) × (y.stamp ≡ s))
    × ((y : Act Stamp Reads) → In y ys → calls_stop r y ≡ true → IsBefore y.stamp s → ⊥)

-- ---- the cut

-- the cut is that of these activations, with the limits
pub record IsCutOf (r : Rules) (ys : List (Act Stamp Reads)) (cut : Cut) : Type 0 where
  pub stop : cut.stop ≡ r.limits.stop
  pub deltas : cut.deltas ≡ r.limits.deltas
  pub broken : IsFirstBreak r ys cut.broken
  pub stopped : IsFirstStop r ys cut.stopped

-- a place is in time, and none of these activations cuts it off
pub record IsUncut (r : Rules) (ys : List (Act Stamp Reads)) (at : Place) : Type 0 where
  pub in_time : at.stamp.time.0 ≤ r.limits.stop.0
  pub uncut : (y : Act Stamp Reads) → In y ys → (model r).Cuts y at.stamp at.process → ⊥

-- ---- the least front

-- the earliest stamp of a front; none where no process has one
abbrev pub IsLeastStamp : (r : Rules) → Board r → Option Stamp → Type 0
IsLeastStamp r b None = (q : ℕ) → front_of (model r) b q ≡ None
IsLeastStamp r b (Some s) =
    ((q : ℕ) × (g : Front Stamp) × IsFront r b q g × (g.stamp ≡ s)) × ((q : ℕ) (g : Front Stamp) → IsFront r b q g → IsBefore g.stamp s → ⊥)
