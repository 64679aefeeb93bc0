-- The answers that are kept beside the calls.
use Rattle.std.specs.Prelude.{◌≡◌, map}
use Rattle.ooo_calls.specs.Cycles.{is_called, is_on_cycle}
use Rattle.ooo_calls.specs.Marks.{AreMarksOf}
use Rattle.ooo_calls.specs.declared.calls.Calls.TheInside.{Inside}

-- of each function whether it is called, and of each call whether it lies on a cycle
pub record AreAnswers (inside : Inside) : Type 0 where
  pub called : AreMarksOf (is_called inside.calls.items) inside.called.items
  pub on_cycle : inside.on_cycle.items ≡ map (is_on_cycle inside.calls.items) inside.calls.items
