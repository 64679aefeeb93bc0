-- The processes of clocks in a bound model.
use Rattle.std.specs.Prelude.{◌≡◌, ℕ, Ok, Some, slice_get}
use Rattle.ooo_time.specs.declared.time.Time.{Time}
use Rattle.ooo_bound.specs.declared.model.Bound.{Bound}
use Rattle.ooo_bound.specs.declared.model.BoundProcess.{BoundProcess}
use Rattle.ooo_checked.specs.declared.unit.CheckedUnit.{CheckedUnit}
use Rattle.ooo_walk.specs.declared.state.ProcessForm.TheVariants.{Clock}
use Rattle.ooo_walk.specs.declared.state.WalkedProcess.{WalkedProcess}
use Rattle.ooo_walk.specs.Texts.{walk_of}
use Rattle.ooo_elaborate.specs.Elaborated.{bound_of}
use Rattle.ooo_activation.specs.Sound.{FitsProcess}

-- a clock's process fits its model
abbrev pub ClocksFit : Type 0
ClocksFit = (u : CheckedUnit) (b : Bound) → bound_of u ≡ Ok b → (p : ℕ) (x : WalkedProcess) (c : ℕ) (half : Time) (line : ℕ)
    (process : BoundProcess) → slice_get (walk_of u).processes p ≡ Some x → x.form ≡ Clock c half line →
    slice_get b.processes p ≡ Some process → FitsProcess b process
