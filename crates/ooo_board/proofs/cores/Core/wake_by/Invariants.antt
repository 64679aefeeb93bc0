use Rattle.std.proofs.Common.{◌<◌, length}
use Rattle.ooo_dispatch.specs.Rules.{Rules}
use Rattle.ooo_dispatch.specs.Steps.{Replay}
use Rattle.ooo_board.specs.Waking.{IsAmong, MayWake, Woken}
use Rattle.ooo_board.proofs.cores.Core.wake_by.Given as goal

abbrev pub invariant-loop-q : goal.invariant-loop-q
invariant-loop-q l =
    (r : Rules) (s : Replay r) → MayWake r l.tables s l.links l.fn.self → l.e < length r.design.events →
    Woken r l.tables s (λ q. IsAmong l.waiters l.q-index q) l.fn.self l.self
