use Rattle.std.proofs.Common.{◌≡◌, ◌++◌, drop}
use Rattle.ooo_numbers.specs.Stats.{stats_of}
use Rattle.ooo_numbers.specs.Names.{numbering_of}
use Rattle.ooo_numbers.proofs.statements.+stat.Given as goal

abbrev pub invariant-stats-parts : goal.invariant-stats-parts
invariant-stats-parts l =
    l.all ++ stats_of (numbering_of l.numbers) (drop l.part-index l.body) ≡ stats_of (numbering_of l.numbers) l.body
