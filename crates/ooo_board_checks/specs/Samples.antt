-- What boards are made of.
use Rattle.std.specs.Prelude.{◌≤◌, length}
use Rattle.ooo_code.specs.Sound.{IsSound}
use Rattle.ooo_segments.specs.Beginnings.{beginnings, greatest_segments}
use Rattle.ooo_board.specs.Starting.{AreInRange}
use Rattle.ooo_board_checks.specs.declared.sample.Sample.{Sample}

-- boards can be made of it: its design is sound and has no more segments than it may have, and its limits are in range
pub record IsReady (s : Sample) : Type 0 where
  pub sound : IsSound s.design.value
  pub few : length (beginnings s.design.value) ≤ greatest_segments
  pub range : AreInRange s.limits
