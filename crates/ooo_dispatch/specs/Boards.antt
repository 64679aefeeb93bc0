-- The board of a design: which steps are lawful, which process may be dispatched, and when it is over.
use Rattle.std.specs.Prelude.{◌≡◌, ℕ, All, slice_get, Some, length}
use Rattle.ooo_time.specs.declared.stamp.Stamp.{Stamp}
use Rattle.ooo_code.specs.declared.segment.Segment.{Segment}
use Rattle.ooo_segments.specs.Beginnings.{AreSegments}
use Rattle.ooo_segments.specs.Edges.{AreEdges}
use Rattle.ooo_access.specs.declared.access.Access.{Access}
use Rattle.ooo_access.specs.Access.{IsAccess}
use Rattle.ooo_conflicts.specs.Kinds.{IsTable}
use Rattle.ooo_schedules.specs.Model.{Model, State, Front, Allowed, Lawful, IsOver, front_of}
use Rattle.ooo_schedules.specs.Tables.{board}
use Rattle.ooo_dispatch.specs.Rules.{Rules, tables}

-- the tables are those of the design
pub record AreRules (r : Rules) : Type 0 where
  pub segments : AreSegments r.design r.segments
  pub edges : AreEdges r.design r.segments r.edges
  pub access_count : length r.access ≡ length r.segments
  pub access : (g : ℕ) (s : Segment) (a : Access) → slice_get r.segments g ≡ Some s → slice_get r.access g ≡ Some a → IsAccess r.design s a
  pub clashes : IsTable r.design.events r.access r.clashes
  pub wide : All (λ row. length row ≡ length r.clashes) r.clashes

-- the model over which the theorem on schedules speaks
abbrev pub model : Rules → Model
model r = board (tables r)

-- a board: the committed activations, the last one first, and the jobs out
abbrev pub Board : Rules → Type 0
Board r = State (model r)

-- process p has this front: the segment that it runs next, or runs, with its stamp
abbrev pub IsFront : (r : Rules) → Board r → (p : ℕ) → Front Stamp → Type 0
IsFront r b p f = front_of (model r) b p ≡ Some f

-- process p may be dispatched at its front
abbrev pub IsAllowed : (r : Rules) → Board r → (p : ℕ) → Front Stamp → Type 0
IsAllowed r b p f = Allowed (model r) b p f

-- lawful steps lead to the board
abbrev pub IsLawful : (r : Rules) → Board r → Type 0
IsLawful r b = Lawful (model r) b

-- no process runs, and no front is below the cut
abbrev pub IsOverBoard : (r : Rules) → Board r → Type 0
IsOverBoard r b = IsOver (model r) b
