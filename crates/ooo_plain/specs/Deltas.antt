-- Two rows, for delta cycles by their numbers: the even, and the odd.
use Rattle.std.specs.Prelude.{◌||◌, Bool}
use Rattle.ooo_plain.specs.declared.agenda.Due.{Due}
use Rattle.ooo_plain.specs.Row.{RowState, stands_in}

-- both rows
pub record DeltasState : Type 0 where
  pub even : RowState
  pub odd : RowState

-- a row has a process for the stamp at which it is due
abbrev pub stands_among : DeltasState → Due → Bool
stands_among rows k = stands_in rows.even k || stands_in rows.odd k
