use Rattle.std.proofs.Common.{◌≡◌, drop}
use Rattle.ooo_elaborate.specs.Ends.{body_holds}
use Rattle.ooo_elaborate.proofs.ends.+stat.Given as goal

abbrev pub invariant-hold_body-parts : goal.invariant-hold_body-parts
invariant-hold_body-parts l = body_holds l.process (drop l.part-index l.body) l.all ≡ body_holds l.process l.body l.initial.all
