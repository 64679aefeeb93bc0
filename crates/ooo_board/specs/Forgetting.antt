-- What a board's bank forgets: what was before all fronts, which nothing asks for any more.
use Rattle.std.specs.Prelude.{◌≡◌, ℕ, ◌<◌, ◌^◌, ◌⊎◌, Option, None, Some}
use Rattle.ooo_time.specs.declared.stamp.Stamp.{Stamp}
use Rattle.ooo_time.specs.Stamps.{IsBefore}
use Rattle.ooo_meaning.specs.World.{zero_stamp}
use Rattle.ooo_channels.specs.Bank.{BankState, IsBankAfter}
use Rattle.ooo_channels.specs.Operations.{Operations}
use Rattle.ooo_schedules.specs.Model.{Front}
use Rattle.ooo_dispatch.specs.Banks.{operations_on}
use Rattle.ooo_dispatch.specs.Boards.{Board, IsFront}
use Rattle.ooo_dispatch.specs.Rules.{Rules}
use Rattle.ooo_fronts.specs.Fronts.{IsLeastOf}
use Rattle.ooo_board.specs.declared.cores.Core.{Core}

-- the same operations, where what was before a stamp is forgotten
abbrev pub forgetting : (below : Stamp) → Operations → Operations
forgetting below ops = record ops { below = below }

-- a board is past a stamp: it is the first of all, or each front is after it
abbrev pub IsPast : (r : Rules) → Board r → (below : Stamp) → Type 0
IsPast r b below = (below ≡ zero_stamp) ⊎ ((q : ℕ) (g : Front Stamp) → IsFront r b q g → IsBefore below g.stamp)

-- a bank to which the effects of a board's log were applied, and which forgot what was before a stamp that the board is past
pub record HasBank (r : Rules) (b : Board r) (bank : BankState) (below : Stamp) : Type 0 where
  pub applied : IsBankAfter bank (forgetting below (operations_on r b))
  pub past : IsPast r b below

-- the last stamp before another one, of those whose delta cycle has a number of 32 bits; none where there is none
abbrev pub IsJustBefore : (at : Stamp) → Option Stamp → Type 0
IsJustBefore at None = (u : Stamp) → ¬ IsBefore u at
IsJustBefore at (Some s) = IsBefore s at × ((u : Stamp) → u.delta < 2 ^ 32 → IsBefore u at → ¬ IsBefore s u)

-- all is forgotten that may be: no such stamp before all fronts is after the one before which the bank forgets
abbrev pub HasForgotten : Core → Type 0
HasForgotten c = (least u : Stamp) → IsLeastOf c.fronts.fronts (Some least) → u.delta < 2 ^ 32 → IsBefore u least → ¬ IsBefore c.below u
