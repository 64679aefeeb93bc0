use Rattle.std.proofs.Common.{◌≡◌, ◌++◌, drop}
use Rattle.ooo_elaborate.proofs.elaborated.copied_names.Given as goal

abbrev pub invariant-parts : goal.invariant-parts
invariant-parts l = l.all ++ drop l.e-index l.names ≡ l.names
