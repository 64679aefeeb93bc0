use Rattle.ooo_constants.specs.Bare.{IsBare}
use Rattle.ooo_constants.proofs.Opened.{nests}
use Rattle.ooo_constants.proofs.bare.bare.Given as goal

abbrev pub invariant-turns : goal.invariant-turns
invariant-turns l = IsBare l.inside l.body

abbrev pub decreases-turns : goal.decreases-turns
decreases-turns l = nests l.inside
