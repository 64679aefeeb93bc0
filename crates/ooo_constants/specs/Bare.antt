-- Bodies without the blocks around all of them. No public clause cites this.
use Rattle.std.specs.Prelude.{◌≡◌, List}
use Rattle.ooo_checked.specs.declared.stat.CheckedStat.{CheckedStat}
use Rattle.ooo_constants.specs.Bodies.{body_calls, body_refusals}
use Rattle.ooo_constants.specs.Meanings.{Constants}

-- the statements inside call the same functions as the body, and the same is wrong with their times
pub record IsBare (inside body : List CheckedStat) : Type 0 where
  pub calls_are : body_calls inside ≡ body_calls body
  pub refusals_are : (c : Constants) → body_refusals c inside ≡ body_refusals c body
