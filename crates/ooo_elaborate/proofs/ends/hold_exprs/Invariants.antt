use Rattle.std.proofs.Common.{◌≡◌, drop}
use Rattle.ooo_elaborate.specs.Ends.{exprs_hold}
use Rattle.ooo_elaborate.proofs.ends.hold_exprs.Given as goal

abbrev pub invariant-parts : goal.invariant-parts
invariant-parts l = exprs_hold l.process (drop l.part-index l.es) l.all ≡ exprs_hold l.process l.es l.initial.all
