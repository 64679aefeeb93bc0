-- The cut of a board, and that it never rises.
use Rattle.std.specs.Prelude.{◌≡◌, ℕ, Some}
use Rattle.ooo_time.specs.declared.stamp.Stamp.{Stamp}
use Rattle.ooo_schedules.specs.Model.{Front, In, Model, ActOf, NotAfter, State, front_of, Allowed, dispatched, committed, Lawful, IsLeast}
use Rattle.ooo_schedules.specs.Program.{Sound}
use Rattle.ooo_schedules.specs.Tables.{Tables, board, program}

-- the cut is at this place or before it, whatever the stop time
pub data IsCut (m : Model) (st : State m) (s : m.Stamp) (p : ℕ) : Type 0 where
  by_end : (y : ActOf m) → In y st.log → m.Cuts y s p → IsCut m st s p
  by_limit : (r : ℕ) (f : Front m.Stamp) → front_of m st r ≡ Some f → IsLeast m st r f → m.AtLimit f.stamp → NotAfter m f.stamp s → IsCut m st s p

-- what is cut off stays so, through a dispatch and a commit
pub record CutStays {R : Type 0} (t : Tables R) : Type 0 where
  pub dispatches :
      (st : State (board t)) → Lawful (board t) st → (p : ℕ) (f : Front Stamp) → Allowed (board t) st p f → (s : Stamp) (q : ℕ) → IsCut (board t) st s q →
      IsCut (board t) (dispatched (board t) st p f) s q
  pub commits :
      (st : State (board t)) → Lawful (board t) st → (j : ActOf (board t)) → In j st.out → (s : Stamp) (q : ℕ) → IsCut (board t) st s q →
      IsCut (board t) (committed (board t) st j) s q

-- the law, for programs whose activations read an R
abbrev pub EveryCut : Type 0 → Type 0
EveryCut R = (t : Tables R) → Sound (program t) → CutStays t
