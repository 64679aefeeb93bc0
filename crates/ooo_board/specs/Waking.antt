-- Fronts that are asked anew of a bank.
use Rattle.std.specs.Prelude.{◌≡◌, ℕ, ◌<◌, ◌≤◌, ◌⊎◌, List, [], length, Option, Some, slice_get, slice_index_or, ⊤}
use Rattle.ooo_time.specs.declared.stamp.Stamp.{Stamp}
use Rattle.ooo_time.specs.Scales.{greatest_delta}
use Rattle.ooo_time.specs.Stamps.{IsBefore}
use Rattle.ooo_meaning.specs.World.{zero_stamp}
use Rattle.ooo_code.specs.declared.activation.Effect.{Effect}
use Rattle.ooo_code.specs.declared.activation.Effect.TheVariants as effect
use Rattle.ooo_code.specs.declared.design.Design.{Design}
use Rattle.ooo_channels.specs.Bank.{BankState, IsBankAfter}
use Rattle.ooo_channels.specs.Operations.{later_of}
use Rattle.ooo_schedules.specs.Design.{Wait, front_when, sort}
use Rattle.ooo_schedules.specs.Model.{Act, Front, front_of, last}
use Rattle.ooo_schedules.specs.Program.{design, wait_by}
use Rattle.ooo_schedules.specs.Tables.{program}
use Rattle.ooo_dispatch.specs.declared.reads.Reads.{Reads}
use Rattle.ooo_dispatch.specs.Banks.{IsToldOf, operations_on, since_of}
use Rattle.ooo_dispatch.specs.Boards.{Board, model}
use Rattle.ooo_dispatch.specs.Reach.{FrontsInReach}
use Rattle.ooo_dispatch.specs.Rules.{Rules, tables}
use Rattle.ooo_dispatch.specs.Steps.{Replay}
use Rattle.ooo_tables.specs.declared.tables.Tables.{Tables}
use Rattle.ooo_fronts.specs.declared.front.Front as kept
use Rattle.ooo_fronts.specs.Fronts.{AreAligned, AreFit, kept_front}
use Rattle.ooo_fronts.specs.Holds.{AreKept}
use Rattle.ooo_board.specs.declared.cores.Core.{Core}
use Rattle.ooo_board.specs.declared.links.Links.{Links}
use Rattle.ooo_board.specs.Cores.{AreProcesses, AreStatesAfter}
use Rattle.ooo_board.specs.Forgetting.{HasBank, forgetting}
use Rattle.ooo_board.specs.Links.{AreLinks}

-- ---- one front

-- the front of a process that waits so
abbrev pub front_told : (r : Rules) → Board r → Option (Wait Stamp) → Option (Front Stamp)
front_told r b w = front_when (design (program (tables r))) (sort (design (program (tables r))) b.log) w

-- it is after a stamp, unless that is the first of all
abbrev pub IsPastFront : (r : Rules) → Board r → (below : Stamp) → Option (Wait Stamp) → Type 0
IsPastFront r b below w = (below ≡ zero_stamp) ⊎ ((g : Front Stamp) → front_told r b w ≡ Some g → IsBefore below g.stamp)

-- a bank of the board, which forgot what was before a stamp, may be asked for it
pub record MayAskFront (r : Rules) (b : Board r) (bank : BankState) (below : Stamp) (w : Option (Wait Stamp)) : Type 0 where
  pub applied : IsBankAfter bank (forgetting below (operations_on r b))
  pub told : (x : Wait Stamp) → w ≡ Some x → IsToldOf r b x
  pub past : IsPastFront r b below w

-- of a bank of the board it is asked when the events of a wait fire since it began, after what is forgotten
pub record IsAsked (r : Rules) (b : Board r) (bank : BankState) (w : Wait Stamp) (events : List ℕ) (from : Stamp) : Type 0 where
  pub below : Stamp
  pub applied : IsBankAfter bank (forgetting below (operations_on r b))
  pub told : IsToldOf r b w
  pub past : IsPastFront r b below (Some w)
  pub are_events : w.events ≡ events
  pub is_from : later_of (since_of w.since) below ≡ from

-- ---- all fronts

-- the front that is kept of process q is the one that it has
abbrev pub IsRight : (r : Rules) (b : Board r) → List (Option kept.Front) → (q : ℕ) → Type 0
IsRight r b fronts q = front_of (model r) b q ≡ kept_front fronts q

-- after a commit all is kept but the fronts: of those that wait they are still to be asked anew, and those of the jobs out are right
pub record IsWaking (r : Rules) (t : Tables) (s : Replay r) (c : Core) : Type 0 where
  pub has_bank : HasBank r s.board c.bank c.below
  pub told : (q : ℕ) (w : Wait Stamp) → wait_by (program (tables r)) q (last q s.board.log) ≡ Some w → IsToldOf r s.board w
  pub has_processes : AreProcesses r s.board c.processes.items
  pub has_states : AreStatesAfter r s c.states.items
  pub count : length c.fronts.fronts ≡ length r.design.processes
  pub running : (q : ℕ) (j : Act Stamp Reads) → last q s.board.out ≡ Some j → IsRight r s.board c.fronts.fronts q
  pub segments : t.graph.segments ≡ r.segments
  pub in_reach : FrontsInReach r t.advance s
  pub deltas : r.limits.deltas ≤ greatest_delta
  pub aligned : AreAligned t
  pub kept : AreKept t c.fronts
  pub fit : AreFit t c.fronts.fronts

-- so it is, with the look-ups
pub record MayWake (r : Rules) (t : Tables) (s : Replay r) (l : Links) (c : Core) : Type 0 where
  pub waking : IsWaking r t s c
  pub links : AreLinks r.design t l

-- fronts were asked anew: those of some processes are right now, and each that was right is still so
pub record Woken (r : Rules) (t : Tables) (s : Replay r) (some : ℕ → Type 0) (old new : Core) : Type 0 where
  pub waking : IsWaking r t s new
  pub others : new ≡ record old { fronts = new.fronts }
  pub stay : (q : ℕ) → IsRight r s.board old.fronts.fronts q → IsRight r s.board new.fronts.fronts q
  pub right : (q : ℕ) → some q → IsRight r s.board new.fronts.fronts q

-- ---- who may wait on what effects touch

-- what an effect is on is there
abbrev pub IsThere : Design → Effect → Type 0
IsThere design (effect.Request c v) = c < length design.channels
IsThere design (effect.Put c v) = c < length design.channels
IsThere design (effect.Take c) = c < length design.channels
IsThere design (effect.Notify e k) = e < length design.events
IsThere design (effect.Cancel e) = e < length design.events
IsThere design effect.Stop = ⊤

-- a number is among the first n of some
pub record IsAmong (numbers : List ℕ) (n x : ℕ) : Type 0 where
  pub place : ℕ
  pub before : place < n
  pub there : slice_get numbers place ≡ Some x

-- process q is one of those that may wait on event e
abbrev pub ReachesAll : Links → (e q : ℕ) → Type 0
ReachesAll l e q = IsAmong (slice_index_or l.waiters.items e []) (length (slice_index_or l.waiters.items e [])) q

-- it may wait on one of the first n of these events
abbrev pub EventsReach : Links → List ℕ → (n q : ℕ) → Type 0
EventsReach l events n q = (e : ℕ) × IsAmong events n e × ReachesAll l e q

-- it may wait on an event of channel c
abbrev pub ChannelReaches : Links → (c q : ℕ) → Type 0
ChannelReaches l c q = EventsReach l (slice_index_or l.channel_events.items c []) (length (slice_index_or l.channel_events.items c [])) q

-- it may wait on an event of what an effect is on
abbrev pub Reaches : Links → Effect → (q : ℕ) → Type 0
Reaches l (effect.Request c v) q = ChannelReaches l c q
Reaches l (effect.Put c v) q = ChannelReaches l c q
Reaches l (effect.Take c) q = ChannelReaches l c q
Reaches l (effect.Notify e k) q = ReachesAll l e q
Reaches l (effect.Cancel e) q = ReachesAll l e q
Reaches l effect.Stop q = ⊥

-- so it may for one of the first n of these effects
pub record EffectsReach (l : Links) (effects : List Effect) (n q : ℕ) : Type 0 where
  pub place : ℕ
  pub one : Effect
  pub before : place < n
  pub there : slice_get effects place ≡ Some one
  pub reached : Reaches l one q
