-- A core whose bank forgets what was before all fronts is still that of its board.
use Rattle.std.proofs.Common.{◌≡◌, inr, ⊎_elim, Bool, true, false, if◌then◌else◌, Some, None, sym, subst}
use Rattle.ooo_time.specs.declared.stamp.Stamp.{Stamp}
use Rattle.ooo_time.specs.Stamps.{IsBefore, is_before}
use Rattle.ooo_code.specs.declared.design.Design.{Design}
use Rattle.ooo_code.specs.declared.limits.Limits.{Limits}
use Rattle.ooo_channels.specs.Bank.{IsBankAfter}
use Rattle.ooo_channels.specs.Operations.{Operations, after_forgetting, later_of}
use Rattle.ooo_tables.specs.declared.tables.Tables.{Tables}
use Rattle.ooo_dispatch.specs.Banks.{operations_on}
use Rattle.ooo_dispatch.specs.Boards.{Board}
use Rattle.ooo_dispatch.specs.Least.{rules_of}
use Rattle.ooo_dispatch.specs.Rules.{Rules}
use Rattle.ooo_dispatch.specs.Steps.{Replay}
use Rattle.ooo_fronts.specs.Cuts.{IsLeastStamp}
use Rattle.ooo_fronts.specs.Fronts.{AreFrontsOf, IsLeastOf}
use Rattle.ooo_board.specs.declared.cores.Core.{Core}
use Rattle.ooo_board.specs.Cores.{IsCore}
use Rattle.ooo_board.specs.Forgetting.{HasForgotten, IsJustBefore, IsPast, forgetting}
use Rattle.ooo_board.proofs.Past.{before_or, compare, later_past, transitive}

-- the later of two stamps that a board is past, it is past
past_later : (r : Rules) (b : Board r) (s t : Stamp) → IsPast r b s → IsPast r b t → IsPast r b (later_of s t)
past_later r b s t one other = at (is_before s t)
  where
    at : (c : Bool) → IsPast r b (if c then t else s)
    at true = other
    at false = one

-- a board is past what is before its least front
past_least : (r : Rules) (b : Board r) (least below : Stamp) → IsLeastStamp r b (Some least) → IsBefore below least → IsPast r b below
past_least r b least below is before = inr (λ q g front. before_or below g.stamp least before (is.1 q g front))

-- so what is before it may be forgotten
pub forgotten_core :
    (design : Design) (limits : Limits) (t : Tables) (s : Replay (rules_of design limits t)) (c new : Core) (least below : Stamp) → IsCore design limits t s c →
    new ≡ record c { bank = new.bank; below = later_of c.below below } →
    ((ops : Operations) → IsBankAfter c.bank ops → IsBankAfter new.bank (after_forgetting below ops)) →
    ((r : Rules) (b : Board r) → AreFrontsOf r b c.fronts.fronts → IsLeastStamp r b (Some least)) → IsBefore below least → IsCore design limits t s new
forgotten_core design limits t s c new least below h is forgets lowest before = subst (IsCore design limits t s) (sym is) (record {
  has_bank = record {
    applied = forgets (forgetting c.below (operations_on (rules_of design limits t) s.board)) h.has_bank.applied;
    past = past_later (rules_of design limits t) s.board c.below below h.has_bank.past (past_least (rules_of design limits t) s.board least below (lowest (rules_of design limits t) s.board h.has_fronts) before);
  };
  has_variables = h.has_variables;
  has_processes = h.has_processes;
  has_states = h.has_states;
  has_fronts = h.has_fronts;
  has_kept = h.has_kept;
  fit = h.fit;
  has_cut = h.has_cut;
  has_pieces = h.has_pieces;
  has_places = h.has_places;
})

-- a stamp before the one least front is before the other
sooner : (c : Core) (least other : Stamp) → IsLeastOf c.fronts.fronts (Some least) → IsLeastOf c.fronts.fronts (Some other) → (u : Stamp) → IsBefore u other → IsBefore u least
sooner c least other one two u before =
    before_or u least other before (λ h. two.1 one.0.0 one.0.1 one.0.2 (subst (λ s. IsBefore s other) (sym one.0.3) h))

-- where nothing is before the least front, there is nothing to forget
pub first_forgets : (c : Core) (least : Stamp) → IsLeastOf c.fronts.fronts (Some least) → IsJustBefore least None → HasForgotten c
first_forgets c least lowest none other u is low before after = none u (sooner c least other lowest is u before)

pub has_forgotten : (c new : Core) (least below : Stamp) → new ≡ record c { bank = new.bank; below = later_of c.below below } → IsLeastOf c.fronts.fronts (Some least) → IsJustBefore least (Some below) → HasForgotten new
has_forgotten c new least below is lowest just = subst HasForgotten (sym is) (λ other u two low before after.
    just.1 u low (sooner c least other lowest two u before) (beyond u after))
  where
    beyond : (u : Stamp) → IsBefore (later_of c.below below) u → IsBefore below u
    beyond u after =
        ⊎_elim (λ h. transitive below (later_of c.below below) u h after)
        (λ k. ⊎_elim (λ e. subst (λ s. IsBefore s u) (sym e) after) (λ h. absurd (later_past c.below below h)) k) (compare below (later_of c.below below))
