-- What holds of a job that is committed, and of the board after it.
use Rattle.std.specs.Prelude.{◌≡◌, ℕ, ◌+◌, ◌<◌, ◌≤◌, ◌^◌, ◌⊎◌, List, [], ◌∷◌, length, Option, Some, Contains, IfSome, true, if◌then◌else◌}
use Rattle.ooo_time.specs.declared.time.Time.{Time}
use Rattle.ooo_time.specs.declared.stamp.Stamp.{Stamp}
use Rattle.ooo_time.specs.declared.stamp.Place.{Place}
use Rattle.ooo_time.specs.Scales.{greatest_time}
use Rattle.ooo_history.specs.declared.run.Piece.{Piece}
use Rattle.ooo_code.specs.declared.activation.JobEnd.{JobEnd}
use Rattle.ooo_code.specs.declared.design.Design.{Design}
use Rattle.ooo_code.specs.declared.limits.Limits.{Limits}
use Rattle.ooo_code.specs.declared.segment.SegmentEntry.{SegmentEntry}
use Rattle.ooo_channels.specs.Conditions.{IsCountableStamp}
use Rattle.ooo_schedules.specs.Design.{Wait}
use Rattle.ooo_schedules.specs.Model.{Act, Front, In, committed, count, front_at, last}
use Rattle.ooo_schedules.specs.Program.{Waits, wait_by}
use Rattle.ooo_schedules.specs.Tables.{program}
use Rattle.ooo_tables.specs.declared.tables.Tables.{Tables}
use Rattle.ooo_tables.specs.Tables.{AreTables}
use Rattle.ooo_dispatch.specs.declared.reads.Reads.{Reads}
use Rattle.ooo_dispatch.specs.Banks.{FrontsAreTold, LeavesWait, MayCommit}
use Rattle.ooo_dispatch.specs.Boards.{IsFront, model}
use Rattle.ooo_dispatch.specs.Least.{rules_of}
use Rattle.ooo_dispatch.specs.Reach.{FrontsInReach, LeavesInReach}
use Rattle.ooo_dispatch.specs.Rules.{Rules, access_of, deed_of, has, left_by, process_of, tables, waits_on}
use Rattle.ooo_dispatch.specs.Schedules.{HadFront, Leads, cells_left, cells_on}
use Rattle.ooo_dispatch.specs.Steps.{Replay}
use Rattle.ooo_fronts.specs.Fronts.{AreAligned}
use Rattle.ooo_board.specs.declared.links.Links.{Links}
use Rattle.ooo_board.specs.Links.{AreLinks}
use Rattle.ooo_board.specs.Waking.{front_told}

-- ---- a process that is left

-- a time-out after a time at a stamp can be counted
pub record WaitsInTime (at : Stamp) (time : Option Time) : Type 0 where
  pub countable : IsCountableStamp at
  pub counted : IfSome time (λ k. k.0 ≤ greatest_time)

-- process p is left so at a stamp: if it waits, one of its segments begins at the entry, and its time-out can be counted
pub record MayLeave (design : Design) (limits : Limits) (t : Tables) (l : Links) (p : ℕ) (entry : SegmentEntry) (end : JobEnd) (at : Stamp) : Type 0 where
  pub are_tables : AreTables design t
  pub links : AreLinks design t l
  pub countable : IsCountableStamp at
  pub next :
      (n : ℕ) (time : Option Time) (es : List ℕ) → left_by (rules_of design limits t) p entry end ≡ Waits n time es →
      (n < length t.graph.segments) × IfSome time (λ k. k.0 ≤ greatest_time)

-- ---- what was printed

-- what was printed at a place, if it is something
abbrev pub piece_at : Place → List ℕ → List Piece
piece_at place [] = []
piece_at place (c ∷ cs) = record { place = place; bytes = c ∷ cs } ∷ []

-- ---- a commit

-- the replay once a job is committed
abbrev pub once_committed : (r : Rules) → Replay r → Act Stamp Reads → Replay r
once_committed r s j = record { board = committed (model r) s.board j; abandoned = s.abandoned }

-- the wait of process q is for a segment of its own, whose entry waits on its events
pub record IsOwnWait (r : Rules) (q : ℕ) (w : Wait Stamp) : Type 0 where
  pub within : q < length r.design.processes
  pub own : process_of r w.segment ≡ q
  pub waits : (e : ℕ) → In e w.events → waits_on r w.segment e ≡ true

-- j is the job out of process p, and is committed
pub record IsCommit (r : Rules) (t : Tables) (s : Replay r) (p : ℕ) (j : Act Stamp Reads) : Type 0 where
  pub process : j.process ≡ p
  pub own : process_of r j.segment ≡ p
  pub within : p < length r.design.processes
  pub counted : count p s.board.log + 1 < 2 ^ 128
  pub aligned : AreAligned t
  pub access_count : length r.access ≡ length r.segments
  pub front : IsFront r s.board p (front_at j)
  pub alone : (k : Act Stamp Reads) → In k s.board.out → k.process ≡ p → k ≡ j
  -- what it did may be taken in
  pub may : MayCommit r s.board j
  pub countable : IsCountableStamp j.stamp
  pub sized : length j.reads.variables ≡ length r.design.variables
  pub written : (x : ℕ) → Contains (access_of r j.segment).written x → x < length r.design.variables
  pub leaves : LeavesInReach r j
  -- what its commit changes
  pub cells :
      (x : ℕ) → cells_on r (once_committed r s j).board x ≡ (if has (access_of r j.segment).written x then cells_left r j x else cells_on r s.board x)
  pub stays :
      (w : Wait Stamp) → LeavesWait r (deed_of r j).effects w → front_told r (once_committed r s j).board (Some w) ≡ front_told r s.board (Some w)
  -- what holds of the fronts after it
  pub waits : (q : ℕ) (w : Wait Stamp) → wait_by (program (tables r)) q (last q s.board.log) ≡ Some w → IsOwnWait r q w
  pub walks :
      (q : ℕ) (g : Front Stamp) → IsFront r (once_committed r s j).board q g → HadFront r s.board q g ⊎ Leads t.advance (front_at j) g
  pub told : FrontsAreTold r t.advance (once_committed r s j)
  pub in_reach : FrontsInReach r t.advance (once_committed r s j)
