use Rattle.std.proofs.Common.{◌≡◌, drop}
use Rattle.ooo_elaborate.specs.Functions.{meanings_with}
use Rattle.ooo_elaborate.proofs.functions.number_functions.Given as goal

abbrev pub invariant-parts : goal.invariant-parts
invariant-parts l =
    meanings_with l.number (drop l.e-index l.functions) l.members ≡ meanings_with l.first l.functions l.initial.members
