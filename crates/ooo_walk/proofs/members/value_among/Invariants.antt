use Rattle.std.proofs.Common.{◌≡◌, drop}
use Rattle.ooo_walk.specs.Members.{value_among}
use Rattle.ooo_walk.proofs.members.value_among.Given as goal

abbrev pub invariant-parts : goal.invariant-parts
invariant-parts l = value_among (drop l.e-index l.args) ≡ value_among l.args
