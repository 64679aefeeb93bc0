use Rattle.std.proofs.Common.{◌≡◌, ◌++◌, drop}
use Rattle.ooo_numbers.specs.Simples.{declarators_of}
use Rattle.ooo_numbers.specs.Names.{numbering_of}
use Rattle.ooo_numbers.proofs.simples.declarators.Given as goal

abbrev pub invariant-parts : goal.invariant-parts
invariant-parts l =
    l.all ++ declarators_of (numbering_of l.numbers) l.kind l.line (drop l.part-index l.names)
    ≡ declarators_of (numbering_of l.numbers) l.kind l.line l.names
