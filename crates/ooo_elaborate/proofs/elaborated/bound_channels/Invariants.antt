use Rattle.std.proofs.Common.{◌≡◌, ◌++◌, drop}
use Rattle.ooo_elaborate.specs.Elaborated.{bound_channels}
use Rattle.ooo_elaborate.proofs.elaborated.bound_channels.Given as goal

abbrev pub invariant-parts : goal.invariant-parts
invariant-parts l = l.all ++ bound_channels (drop l.e-index l.channels) ≡ bound_channels l.channels
