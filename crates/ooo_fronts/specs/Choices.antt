-- Which process may run, and which one is picked.
use Rattle.std.specs.Prelude.{◌≡◌, ◌≢◌, ◌↔◌, ℕ, ◌<◌, ◌≤◌, List, [], Option, None, Some, length, slice_index_or}
use Rattle.ooo_time.specs.declared.stamp.Stamp.{Stamp}
use Rattle.ooo_time.specs.declared.stamp.Place.{Place}
use Rattle.ooo_time.specs.Stamps.{ComesBefore}
use Rattle.ooo_meaning.specs.World.{place_of}
use Rattle.ooo_schedules.specs.Model.{Front, IsLeast, last}
use Rattle.ooo_dispatch.specs.Boards.{Board, IsFront, model}
use Rattle.ooo_dispatch.specs.Least.{Advance, HoldsUp, IsBelowCut, MayRun}
use Rattle.ooo_dispatch.specs.Rules.{Rules}
use Rattle.ooo_dispatch.specs.Steps.{Replay}
use Rattle.ooo_fronts.specs.declared.choice.Choice.{Choice}
use Rattle.ooo_fronts.specs.declared.choice.State.{State}
use Rattle.ooo_fronts.specs.declared.choice.State.TheVariants.{Waiting}
use Rattle.ooo_fronts.specs.declared.front.Front as fronts
use Rattle.ooo_fronts.specs.Cuts.{IsCutOf}
use Rattle.ooo_fronts.specs.Fronts.{AreFrontsOf, kept_front}

-- ---- what is chosen from

-- there is a state of each process: it waits just where no job of it is out
pub record AreStatesOf (r : Rules) (b : Board r) (states : List State) : Type 0 where
  pub count : length states ≡ length r.design.processes
  pub each : (p : ℕ) → p < length states → (slice_index_or states p Waiting ≡ Waiting) ↔ (last p b.out ≡ None)

-- a process with a front has the count 0 just where no front of another process holds that front up
abbrev pub CountHolds : Rules → Advance → List (Option fronts.Front) → List ℕ → Type 0
CountHolds r least kept held =
    (p : ℕ) (f : Front Stamp) → kept_front kept p ≡ Some f →
    (slice_index_or held p 0 ≡ 0) ↔ ((q : ℕ) (g : Front Stamp) → q ≢ p → kept_front kept q ≡ Some g → HoldsUp r least g p f → ⊥)

-- all of it is told of the board
pub record IsChoiceOf (r : Rules) (least : Advance) (b : Board r) (choice : Choice) : Type 0 where
  pub states : AreStatesOf r b choice.states.now
  pub fronts : AreFrontsOf r b choice.fronts.now
  pub held : CountHolds r least choice.fronts.now choice.held.now
  pub cut : IsCutOf r b.log choice.cut.now

-- the front of process p, if it has one, is below the limit of deltas
abbrev pub IsBelowLimit : Choice → (p : ℕ) → Type 0
IsBelowLimit choice p = (f : fronts.Front) → slice_index_or choice.fronts.now p None ≡ Some f → f.stamp.delta < choice.cut.now.deltas

-- each front is
abbrev pub AllBelowLimit : Choice → Type 0
AllBelowLimit choice = (p : ℕ) → IsBelowLimit choice p

-- ---- who may run

-- process p may run
abbrev pub MayRunNow : (r : Rules) → Advance → Board r → (p : ℕ) → Type 0
MayRunNow r least b p = (f : Front Stamp) × MayRun r least b p f

-- it may but for the cut: at its front, if that is below the cut
pub record IsReady (r : Rules) (least : Advance) (b : Board r) (p : ℕ) (f : Front Stamp) : Type 0 where
  pub idle : last p b.out ≡ None
  pub front : IsFront r b p f
  pub below_limit : f.stamp.delta < r.limits.deltas
  pub free : (q : ℕ) (g : Front Stamp) → q ≢ p → IsFront r b q g → HoldsUp r least g p f → ⊥

-- it may so at this place, if there is one; else it may not
abbrev pub IsReadyAt : (r : Rules) → Advance → Board r → (p : ℕ) → Option Place → Type 0
IsReadyAt r least b p None = (f : Front Stamp) → IsReady r least b p f → ⊥
IsReadyAt r least b p (Some at) = (f : Front Stamp) × IsReady r least b p f × (at ≡ place_of f.stamp p)

-- a process that may run before each other one that may; none where none may
abbrev pub IsPick : (r : Rules) → Advance → Board r → Option ℕ → Type 0
IsPick r least b None = (p : ℕ) (f : Front Stamp) → MayRun r least b p f → ⊥
IsPick r least b (Some p) =
    (f : Front Stamp) × MayRun r least b p f
    × ((q : ℕ) (g : Front Stamp) → q ≢ p → MayRun r least b q g → ComesBefore (place_of f.stamp p) (place_of g.stamp q))

-- of the processes below n that may run but for the cut, the one at this place comes first
pub record IsBest (r : Rules) (least : Advance) (b : Board r) (n : ℕ) (at : Place) : Type 0 where
  pub front : Front Stamp
  pub ready : IsReady r least b at.process front
  pub place : at ≡ place_of front.stamp at.process
  pub below : at.process < n
  pub first : (q : ℕ) (g : Front Stamp) → q < n → q ≢ at.process → IsReady r least b q g → ComesBefore at (place_of g.stamp q)

abbrev pub IsBestBelow : (r : Rules) → Advance → Board r → (n : ℕ) → Option Place → Type 0
IsBestBelow r least b n None = (q : ℕ) (g : Front Stamp) → q < n → IsReady r least b q g → ⊥
IsBestBelow r least b n (Some at) = IsBest r least b n at

-- ---- when none will

-- process p has a front below the cut
abbrev pub HasFrontBelow : (r : Rules) → Board r → (p : ℕ) → Type 0
HasFrontBelow r b p = (f : Front Stamp) × IsFront r b p f × IsBelowCut r b f.stamp p

-- no process has one
abbrev pub NoFrontBelow : (r : Rules) → Board r → Type 0
NoFrontBelow r b = (p : ℕ) (f : Front Stamp) → IsFront r b p f → IsBelowCut r b f.stamp p → ⊥

-- ---- who is picked where no process runs

-- no front is beyond the limit of deltas
abbrev pub UpToLimit : (r : Rules) → Board r → Type 0
UpToLimit r b = (p : ℕ) (f : Front Stamp) → IsFront r b p f → f.stamp.delta ≤ r.limits.deltas

-- process p has the front of least place, and is picked
pub record PicksLeastOf (r : Rules) (least : Advance) (b : Board r) (pick : Option ℕ) : Type 0 where
  pub process : ℕ
  pub front : Front Stamp
  pub has : IsFront r b process front
  pub is_least : IsLeast (model r) b process front
  pub picked : pick ≡ Some process

-- where no process runs, and some front is below the cut, that of least place is picked
abbrev pub PicksLeast : (r : Rules) → Advance → Replay r → Type 0
PicksLeast r least s =
    s.board.out ≡ [] → UpToLimit r s.board → (kept : List (Option fronts.Front)) → AreFrontsOf r s.board kept → (p : ℕ) → HasFrontBelow r s.board p →
    (pick : Option ℕ) → IsPick r least s.board pick → PicksLeastOf r least s.board pick
