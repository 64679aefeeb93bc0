use Rattle.std.specs.Prelude.{All}
use Rattle.ooo_dispatch.specs.Rules.{Rules}
use Rattle.ooo_dispatch.specs.Steps.{Replay}
use Rattle.ooo_board.specs.Waking.{EffectsReach, IsThere, MayWake, Woken}
use Rattle.ooo_board.proofs.cores.Core.wake.Given as goal

abbrev pub invariant-loop-effect : goal.invariant-loop-effect
invariant-loop-effect l =
    (r : Rules) (s : Replay r) → MayWake r l.tables s l.links l.fn.self → All (IsThere r.design) l.effects →
    Woken r l.tables s (EffectsReach l.links l.effects l.effect-index) l.fn.self l.self
