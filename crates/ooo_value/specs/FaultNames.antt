-- The names of the run faults.
use Rattle.std.specs.Prelude.{ℕ, List, codes}
use Rattle.ooo_value.specs.declared.operators.Fault.{Fault}
use Rattle.ooo_value.specs.declared.operators.Fault.TheVariants.{Overflow, DivideByZero, ShiftRange, IndexRange, BadTime}

-- the name of a run fault
abbrev pub fault_name : Fault → List ℕ
fault_name Overflow = codes "Overflow"
fault_name DivideByZero = codes "DivideByZero"
fault_name ShiftRange = codes "ShiftRange"
fault_name IndexRange = codes "IndexRange"
fault_name BadTime = codes "BadTime"
