-- A lawful list of steps goes on until the board is over.
use Rattle.std.specs.Prelude.{◌≡◌, List, []}
use Rattle.ooo_dispatch.specs.declared.step.Step.{Step}
use Rattle.ooo_dispatch.specs.Boards.{IsOverBoard}
use Rattle.ooo_dispatch.specs.Least.{Advance}
use Rattle.ooo_dispatch.specs.Rules.{Rules}
use Rattle.ooo_dispatch.specs.Steps.{AreLawful, Replay, replayed}

-- some further steps are lawful, after which the board is over
pub record IsOverAfter (r : Rules) (least : Advance) (s : Replay r) : Type 0 where
  pub steps : List Step
  pub lawful : AreLawful r least s steps
  pub over : IsOverBoard r (replayed r s steps).board

-- there are some where no job was abandoned
abbrev pub ComesToEnd : (r : Rules) → Advance → Replay r → Type 0
ComesToEnd r least s = s.abandoned ≡ [] → IsOverAfter r least s
