use Rattle.std.proofs.Common.{◌≡◌, ◌++◌, drop}
use Rattle.ooo_elaborate.specs.Bindings.{channels_of}
use Rattle.ooo_elaborate.proofs.bindings.Links.channels.Given as goal

abbrev pub invariant-parts : goal.invariant-parts
invariant-parts l = l.all ++ channels_of l.self.ends (drop l.e-index l.e-items) ≡ channels_of l.self.ends l.e-items
