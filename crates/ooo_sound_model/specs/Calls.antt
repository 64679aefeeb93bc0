-- The calls of a bound model lie among the functions that its processes reach, and lead to functions of less.
use Rattle.std.specs.Prelude.{◌≡◌, ℕ, Ok, List}
use Rattle.ooo_bound.specs.declared.model.Bound.{Bound}
use Rattle.ooo_bound.specs.declared.model.BoundFunction.{BoundFunction}
use Rattle.ooo_checked.specs.declared.unit.CheckedUnit.{CheckedUnit}
use Rattle.ooo_walk.specs.Plans.{view_at}
use Rattle.ooo_walk.specs.Texts.{file_of, walk_of}
use Rattle.ooo_elaborate.specs.Elaborated.{bound_of}
use Rattle.ooo_elaborate.specs.Functions.{numbered}
use Rattle.ooo_sound_model.specs.Ranks.{FallsIn}
use Rattle.ooo_sound_model.specs.Ends.{AreClosed}
use Rattle.ooo_sound_model.specs.Bodies.{AreRegistered, FitInstances, HasOrder}

-- the names that each process reaches are all that its code calls, where the bodies of each instance fit
abbrev pub CallsAreClosed : Type 0
CallsAreClosed = (u : CheckedUnit) (b : Bound) → bound_of u ≡ Ok b → AreRegistered (file_of u) (walk_of u) → FitInstances u b →
    let w = walk_of u in AreClosed (file_of u) (numbered (file_of u) w.instances).instances w.processes b

-- some measure falls along each call
pub record Falls (functions : List BoundFunction) : Type 0 where
  pub measure : ℕ → ℕ
  pub falls : FallsIn functions measure

-- where the bodies of each instance fit, and no call of a module lies on a cycle
abbrev pub CallsFall : Type 0
CallsFall = (u : CheckedUnit) (b : Bound) → bound_of u ≡ Ok b → FitInstances u b → ((n : ℕ) → HasOrder (view_at (file_of u) n)) →
    Falls b.functions
