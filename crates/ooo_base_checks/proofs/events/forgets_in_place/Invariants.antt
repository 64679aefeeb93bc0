use Rattle.std.proofs.Common.{◌<◌, ◌*◌}
use Rattle.std.specs.Option.{ForSome}
use Rattle.ooo_base_checks.proofs.events.forgets_in_place.Given as goal

abbrev pub invariant-loop-i : goal.invariant-loop-i
invariant-loop-i g l = record { last : ForSome l.event.last (λ s. s.time.0 < 1000 * l.i) }
