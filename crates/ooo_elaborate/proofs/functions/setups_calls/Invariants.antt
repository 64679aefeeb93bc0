use Rattle.std.proofs.Common.{◌≡◌, ◌++◌, drop}
use Rattle.ooo_elaborate.specs.Functions.{setups_calls}
use Rattle.ooo_walk.specs.Plans.{viewed}
use Rattle.ooo_elaborate.proofs.functions.setups_calls.Given as goal

abbrev pub invariant-parts : goal.invariant-parts
invariant-parts l =
    l.all ++ setups_calls (viewed l.view) (drop l.e-index l.view.setups.now) ≡ setups_calls (viewed l.view) l.view.setups.now
