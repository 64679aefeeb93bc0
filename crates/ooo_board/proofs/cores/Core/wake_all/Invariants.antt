use Rattle.std.proofs.Common.{◌<◌, length}
use Rattle.std.specs.Prelude.{All}
use Rattle.ooo_dispatch.specs.Rules.{Rules}
use Rattle.ooo_dispatch.specs.Steps.{Replay}
use Rattle.ooo_board.specs.Waking.{EventsReach, MayWake, Woken}
use Rattle.ooo_board.proofs.cores.Core.wake_all.Given as goal

abbrev pub invariant-loop-e : goal.invariant-loop-e
invariant-loop-e l =
    (r : Rules) (s : Replay r) → MayWake r l.tables s l.links l.fn.self → All (λ e. e < length r.design.events) l.events →
    Woken r l.tables s (EventsReach l.links l.events l.e-index) l.fn.self l.self
