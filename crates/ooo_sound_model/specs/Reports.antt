-- What a report needs of the model of a text: its stop time is in range, and each process and each channel has a name.
use Rattle.std.specs.Prelude.{◌≡◌, ◌≤◌, length, IfSome, Ok}
use Rattle.ooo_time.specs.Scales.{greatest_time}
use Rattle.ooo_bound.specs.declared.model.Bound.{Bound}
use Rattle.ooo_checked.specs.declared.unit.CheckedUnit.{CheckedUnit}
use Rattle.ooo_elaborate.specs.Elaborated.{bound_of}

-- the stop time of a model, where it has one, is at most the greatest time
abbrev pub StopsInTime : Type 0
StopsInTime = (u : CheckedUnit) (b : Bound) → bound_of u ≡ Ok b → IfSome b.stop (λ t. t.0 ≤ greatest_time)

-- each process and each channel of a model has a name
pub record HasNames (b : Bound) : Type 0 where
  pub processes : length b.names.processes ≡ length b.processes
  pub channels : length b.names.channels ≡ length b.channels

abbrev pub AllHaveNames : Type 0
AllHaveNames = (u : CheckedUnit) (b : Bound) → bound_of u ≡ Ok b → HasNames b
