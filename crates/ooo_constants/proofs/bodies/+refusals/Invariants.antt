use Rattle.std.proofs.Common.{◌≡◌, drop}
use Rattle.ooo_constants.specs.Bodies.{body_refusals, told_of}
use Rattle.ooo_constants.specs.Meanings.{constants_of}
use Rattle.ooo_constants.proofs.bodies.+refusals.Given as goal

abbrev pub invariant-refuse_stats-parts : goal.invariant-refuse_stats-parts
invariant-refuse_stats-parts l =
    told_of l.told (body_refusals (constants_of l.known) (drop l.statement-index l.body))
    ≡ told_of l.initial.told (body_refusals (constants_of l.known) l.body)
