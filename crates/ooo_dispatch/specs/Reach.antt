-- How far fronts go: what is counted of them stays in range.
use Rattle.std.specs.Prelude.{◌≡◌, ℕ, ◌<◌, ◌≤◌, List, Option, None, Some, IfSome, length}
use Rattle.ooo_time.specs.declared.time.Time.{Time}
use Rattle.ooo_time.specs.declared.stamp.Stamp.{Stamp}
use Rattle.ooo_time.specs.Delays.{greatest_wait}
use Rattle.ooo_time.specs.Scales.{greatest_time}
use Rattle.ooo_schedules.specs.Model.{Act, Front}
use Rattle.ooo_schedules.specs.Program.{Waits}
use Rattle.ooo_dispatch.specs.declared.reads.Reads.{Reads}
use Rattle.ooo_dispatch.specs.Boards.{Board, IsFront}
use Rattle.ooo_dispatch.specs.Least.{Advance}
use Rattle.ooo_dispatch.specs.Rules.{Rules, deed_of, process_of}
use Rattle.ooo_dispatch.specs.Steps.{Replay, job_of}

-- a front is of a segment of its process, at a stamp to which delays can be added, with a delta index up to the limit
pub record IsInReach (r : Rules) (q : ℕ) (g : Front Stamp) : Type 0 where
  pub segment : g.segment < length r.segments
  pub process : process_of r g.segment ≡ q
  pub within : q < length r.design.processes
  pub time : g.stamp.time.0 ≤ greatest_wait
  pub delta : g.stamp.delta ≤ r.limits.deltas

-- so is each front of a board
abbrev pub FrontsInReach : (r : Rules) → Advance → Replay r → Type 0
FrontsInReach r least s = (q : ℕ) (g : Front Stamp) → IsFront r s.board q g → IsInReach r q g

-- a job that is out leaves its process to one of its segments, after a time that can be counted
pub record LeavesInReach (r : Rules) (j : Act Stamp Reads) : Type 0 where
  pub next : (n : ℕ) (t : Option Time) (es : List ℕ) → (deed_of r j).left ≡ Waits n t es → (n < length r.segments) × (process_of r n ≡ j.process)
  pub time : (n : ℕ) (t : Option Time) (es : List ℕ) → (deed_of r j).left ≡ Waits n t es → IfSome t (λ k. k.0 ≤ greatest_time)

abbrev pub JobsLeaveInReach : (r : Rules) → Advance → Replay r → Type 0
JobsLeaveInReach r least s = (p : ℕ) (j : Act Stamp Reads) → job_of r s p ≡ Some j → LeavesInReach r j
