use Rattle.std.proofs.Common.{◌≡◌, ◌++◌, drop}
use Rattle.ooo_numbers.specs.Exprs.{exprs_of}
use Rattle.ooo_numbers.specs.Names.{numbering_of}
use Rattle.ooo_numbers.proofs.exprs.exprs.Given as goal

abbrev pub invariant-parts : goal.invariant-parts
invariant-parts l =
    l.all ++ exprs_of (numbering_of l.numbers) (drop l.e-index l.es) ≡ exprs_of (numbering_of l.numbers) l.es
