use Rattle.std.proofs.Common.{◌≡◌, ◌++◌, drop}
use Rattle.ooo_elaborate.specs.Elaborated.{first_events}
use Rattle.ooo_elaborate.proofs.elaborated.first_events.Given as goal

abbrev pub invariant-parts : goal.invariant-parts
invariant-parts l = l.all ++ first_events (drop l.e-index l.channels) ≡ first_events l.channels
