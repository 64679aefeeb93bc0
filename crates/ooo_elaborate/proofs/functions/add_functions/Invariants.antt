use Rattle.std.proofs.Common.{◌≡◌, ◌++◌, drop}
use Rattle.ooo_elaborate.specs.Functions.{of_instance}
use Rattle.ooo_elaborate.proofs.functions.add_functions.Given as goal

abbrev pub invariant-parts : goal.invariant-parts
invariant-parts l =
    l.all ++ of_instance l.instance (drop l.e-index l.functions) ≡ l.initial.all ++ of_instance l.instance l.functions
