use Rattle.std.proofs.Common.{◌≡◌, ◌++◌, drop}
use Rattle.ooo_numbers.specs.Names.{numbering_of}
use Rattle.ooo_elaborate.specs.Processes.{sensitive_by}
use Rattle.ooo_elaborate.proofs.processes.add_sensitive.Given as goal

abbrev pub invariant-parts : goal.invariant-parts
invariant-parts l =
    l.all ++ sensitive_by (numbering_of l.numbers) (drop l.e-index l.setups)
    ≡ l.initial.all ++ sensitive_by (numbering_of l.numbers) l.setups
