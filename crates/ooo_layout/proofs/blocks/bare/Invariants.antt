use Rattle.ooo_layout.specs.Blocks.{IsBare}
use Rattle.ooo_layout.proofs.Opened.{nests}
use Rattle.ooo_layout.proofs.blocks.bare.Given as goal

abbrev pub invariant-turns : goal.invariant-turns
invariant-turns l = IsBare l.inside l.body

abbrev pub decreases-turns : goal.decreases-turns
decreases-turns l = nests l.inside
