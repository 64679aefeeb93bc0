use Rattle.std.proofs.Common.{◌≡◌, drop}
use Rattle.ooo_constants.specs.Meanings.{constants_of}
use Rattle.ooo_walk.specs.Plans.{viewed}
use Rattle.ooo_walk.specs.Setups.{told_times}
use Rattle.ooo_walk.proofs.setups.tell_functions.Given as goal

abbrev pub invariant-parts : goal.invariant-parts
invariant-parts l =
    told_times (viewed l.view) (constants_of l.known) l.told (drop l.e-index l.functions)
    ≡ told_times (viewed l.view) (constants_of l.known) l.initial.told l.functions
