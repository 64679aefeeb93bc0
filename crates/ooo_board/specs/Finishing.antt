-- The run that a board shows which is over, by its cut and the earliest stamp of a front.
use Rattle.std.specs.Prelude.{◌≡◌, ℕ, ◌<◌, Bool, List, [], length, slice_index_or, Option, None, Some}
use Rattle.ooo_time.specs.declared.stamp.Place.{Place}
use Rattle.ooo_time.specs.declared.stamp.Stamp.{Stamp}
use Rattle.ooo_code.specs.declared.design.Design.{Design}
use Rattle.ooo_code.specs.declared.limits.Limits.{Limits}
use Rattle.ooo_history.specs.declared.run.End.{End}
use Rattle.ooo_history.specs.declared.run.Entry.{Entry}
use Rattle.ooo_channels.specs.Bank.{BankState, IsBankAfter}
use Rattle.ooo_channels.specs.Conditions.{AreOrdered}
use Rattle.ooo_channels.specs.Operations.{Operations}
use Rattle.ooo_dispatch.specs.Boards.{IsOverBoard}
use Rattle.ooo_dispatch.specs.Least.{rules_of}
use Rattle.ooo_dispatch.specs.ReadOff.{Ends, history_by, is_shown}
use Rattle.ooo_dispatch.specs.declared.step.Step.{Step}
use Rattle.ooo_tables.specs.declared.tables.Tables.{Tables}
use Rattle.ooo_fronts.specs.declared.cut.Break.{Break}
use Rattle.ooo_fronts.specs.declared.cut.Cut.{Cut}
use Rattle.ooo_board.specs.Cores.{HasCore, after}
use Rattle.ooo_board.specs.declared.cores.Core.{Core}

-- where the run was broken, and how
abbrev pub break_of : Option Break → Option (Place × End)
break_of None = None
break_of (Some x) = Some (x.place, x.end)

-- what may end a run, by the cut and the earliest stamp of a front
abbrev pub ends_of : Cut → (next : Option Stamp) → Ends
ends_of cut next = record { broken = break_of cut.broken; stopped = cut.stopped; next = next }

-- what was done at a place is shown
abbrev pub shows : Cut → (next : Option Stamp) → Place → Bool
shows cut next at = is_shown cut.deltas (ends_of cut next) at

-- operations that a bank had, those on each channel in the order of their stamps
pub record IsAskedFor (bank : BankState) (ops : Operations) : Type 0 where
  pub after : IsBankAfter bank ops
  pub ordered : (c : ℕ) → AreOrdered ops c

-- the histories of the first n channels, by the operations before a stamp, if one is given
pub record AreHistoriesBy (ops : Operations) (before : Option Stamp) (n : ℕ) (made : List (List Entry)) : Type 0 where
  pub count : length made ≡ n
  pub each : (c : ℕ) → c < n → slice_index_or made c [] ≡ history_by ops before c

-- what a board keeps that is over
pub record IsFinished (design : Design) (limits : Limits) (t : Tables) (steps : List Step) (c : Core) : Type 0 where
  pub has : HasCore design limits t steps c
  pub over : IsOverBoard (rules_of design limits t) (after design limits t steps).board
