use Rattle.std.proofs.Common.{◌≡◌, ◌++◌, drop}
use Rattle.ooo_elaborate.specs.Elaborated.{channel_names}
use Rattle.ooo_elaborate.proofs.elaborated.channel_names.Given as goal

abbrev pub invariant-parts : goal.invariant-parts
invariant-parts l = l.all ++ channel_names (drop l.e-index l.channels) ≡ channel_names l.channels
