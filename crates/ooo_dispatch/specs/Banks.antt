-- What a board shows to whom keeps its variables and applies the effects of its jobs in the order of their commits.
use Rattle.std.specs.Prelude.{◌≡◌, ◌≢◌, ℕ, suc, ◌<◌, ◌≤◌, Bool, true, false, List, [], ◌∷◌, ◌++◌, Option, None, Some, All}
use Rattle.ooo_time.specs.declared.stamp.Stamp.{Stamp}
use Rattle.ooo_time.specs.Stamps.{is_before}
use Rattle.ooo_value.specs.declared.bound.BoundChannel.{BoundChannel}
use Rattle.ooo_value.specs.declared.bound.BoundEvent.{BoundEvent}
use Rattle.ooo_value.specs.declared.bound.BoundEvent.TheVariants as event
use Rattle.ooo_value.specs.declared.bound.ChannelKind.{ChannelKind}
use Rattle.ooo_value.specs.declared.bound.ChannelKind.TheVariants as kind
use Rattle.ooo_code.specs.declared.activation.Effect.{Effect}
use Rattle.ooo_code.specs.declared.activation.Seen.{Seen}
use Rattle.ooo_code.specs.declared.activation.Seen.TheVariants as seen
use Rattle.ooo_code.specs.Channels.{Channel}
use Rattle.ooo_meaning.specs.World.{zero_stamp}
use Rattle.ooo_events.specs.Firings.{IsFirstAfter}
use Rattle.ooo_access.specs.declared.access.Access.{Access}
use Rattle.ooo_channels.specs.Operations.{Operations, is_call_on}
use Rattle.ooo_channels.specs.Cycles.{channel_before, channel_in}
use Rattle.ooo_channels.specs.Calls.{FiresAt, bears_on}
use Rattle.ooo_channels.specs.Conditions.{HasEventAt, MayApplyAll, Names}
use Rattle.ooo_schedules.specs.Design.{Wait, front_when, only, slot, sort}
use Rattle.ooo_schedules.specs.Model.{Act, Front, In, job, last}
use Rattle.ooo_schedules.specs.Program.{design, sees, touches, wait_by}
use Rattle.ooo_schedules.specs.Slots.{first_of}
use Rattle.ooo_schedules.specs.Tables.{program}
use Rattle.ooo_dispatch.specs.declared.reads.Reads.{Reads}
use Rattle.ooo_dispatch.specs.Boards.{Board, model}
use Rattle.ooo_dispatch.specs.Least.{Advance, MayRun}
use Rattle.ooo_dispatch.specs.Rules.{Rules, access_of, cells_after, deed_of, operations_of, origin_of, sight_of, tables, uses}
use Rattle.ooo_dispatch.specs.Schedules.{cells_on}
use Rattle.ooo_dispatch.specs.Steps.{Replay, job_of}

-- the effects of a board's activations, in the order of their commits
abbrev pub operations_on : (r : Rules) → Board r → Operations
operations_on r b = operations_of r b.log

-- ---- what is applied

-- the effects of a job may be applied once it is committed, and it ran in time, below the limit of deltas
pub record MayCommit (r : Rules) (b : Board r) (j : Act Stamp Reads) : Type 0 where
  pub names : All (Names (operations_on r b)) (deed_of r j).effects
  pub may : MayApplyAll (operations_on r b) j.stamp (deed_of r j).effects
  pub in_time : j.stamp.time.0 ≤ r.limits.stop.0
  pub below_limit : j.stamp.delta < r.limits.deltas

-- so it is of each job of a process that runs
abbrev pub JobsMayCommit : (r : Rules) → Advance → Replay r → Type 0
JobsMayCommit r least s = (p : ℕ) (j : Act Stamp Reads) → job_of r s p ≡ Some j → MayCommit r s.board j

-- ---- what a job reads

-- channel c, as it is shown at a stamp by operations among which there may be later ones: of a signal those before the stamp count
abbrev pub channel_shown : Stamp → Operations → (c : ℕ) → ChannelKind → Channel
channel_shown s ops c kind.Signal = channel_before ops c s
channel_shown s ops c kind.Fifo = channel_in s ops c

-- what is seen of all channels that the access has, of which the first has the number c
abbrev pub sights_by : Access → Stamp → Operations → (c : ℕ) → List BoundChannel → List Seen
sights_by a s ops c [] = []
sights_by a s ops c (x ∷ xs) = sight_of a s.time c (channel_shown s ops c x.kind) ++ sights_by a s ops (suc c) xs

-- what the next job of a process reads is what the operations on the board show of channels, and the cells on the board of
-- each variable that its segment uses
pub record IsReadOf (r : Rules) (b : Board r) (p : ℕ) (f : Front Stamp) : Type 0 where
  pub seen : (job (model r) b p f).reads.seen ≡ sights_by (access_of r f.segment) f.stamp (operations_on r b) 0 r.design.channels
  pub cells :
      (x : ℕ) → uses r f.segment x ≡ true →
      cells_after r x (only (sees (program (tables r)) p f.segment f.stamp) (sort (design (program (tables r))) b.log)) ≡ cells_on r b x

-- so it is of each process that may run
abbrev pub JobsReadBoard : (r : Rules) → Advance → Replay r → Type 0
JobsReadBoard r least s = (p : ℕ) (f : Front Stamp) → MayRun r least s.board p f → IsReadOf r s.board p f

-- ---- fronts

-- the stamp since which is waited; as a simulation starts, that of its start, at which nothing can fire
abbrev pub since_of : Option Stamp → Stamp
since_of None = zero_stamp
since_of (Some s) = s

-- when event e first fires, since which a wait began, as the log of a board has it
abbrev pub first_on : (r : Rules) → Board r → (e : ℕ) → (since : Option Stamp) → Option Stamp
first_on r b e since = first_of Stamp is_before (slot (design (program (tables r))) e (sort (design (program (tables r))) b.log)).event since

-- what the operations tell of the events of a wait is what the log says
pub record IsToldOf (r : Rules) (b : Board r) (w : Wait Stamp) : Type 0 where
  pub there : (e : ℕ) → In e w.events → HasEventAt (operations_on r b) e
  pub told : (e : ℕ) (t : Option Stamp) → In e w.events → IsFirstAfter (FiresAt (operations_on r b) e) (since_of w.since) t → t ≡ first_on r b e w.since

-- so it is of each process
abbrev pub FrontsAreTold : (r : Rules) → Advance → Replay r → Type 0
FrontsAreTold r least s = (q : ℕ) (w : Wait Stamp) → wait_by (program (tables r)) q (last q s.board.log) ≡ Some w → IsToldOf r s.board w

-- an effect touches event e, which is of a kind
abbrev pub affects : (e : ℕ) → BoundEvent → Effect → Bool
affects e event.Own f = is_call_on e f
affects e k f = bears_on k f

-- none of the effects touches an event of a wait
abbrev pub LeavesWait : (r : Rules) → List Effect → Wait Stamp → Type 0
LeavesWait r effects w = (e : ℕ) → In e w.events → All (λ f. affects e (origin_of r e) f ≡ false) effects

-- a commit whose effects touch no event of a wait leaves the front by that wait as it was
abbrev pub FrontsStay : (r : Rules) → Advance → Replay r → Type 0
FrontsStay r least s =
    (p : ℕ) (j : Act Stamp Reads) → job_of r s p ≡ Some j → (w : Wait Stamp) → LeavesWait r (deed_of r j).effects w →
    front_when (design (program (tables r))) (sort (design (program (tables r))) (j ∷ s.board.log)) (Some w)
    ≡ front_when (design (program (tables r))) (sort (design (program (tables r))) s.board.log) (Some w)
