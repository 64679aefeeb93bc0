use Rattle.std.proofs.Common.{◌≡◌, drop}
use Rattle.ooo_elaborate.specs.Holders.{functions_hold}
use Rattle.ooo_elaborate.proofs.holders.hold_functions.Given as goal

abbrev pub invariant-parts : goal.invariant-parts
invariant-parts l =
    functions_hold l.process l.functions l.members (drop l.e-index l.names) l.all
    ≡ functions_hold l.process l.functions l.members l.names l.initial.all
