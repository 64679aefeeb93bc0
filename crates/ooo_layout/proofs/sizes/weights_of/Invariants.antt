use Rattle.std.proofs.Common.{◌++◌, List, drop}
use Rattle.ooo_layout.specs.declared.sizes.Weight.{Weight}
use Rattle.ooo_layout.specs.Weighing.{AreWeighed}
use Rattle.ooo_layout.proofs.sizes.weights_of.Given as goal

abbrev pub invariant-functions : goal.invariant-functions
invariant-functions l = (rest : List Weight) → AreWeighed rest (drop l.function-index l.functions) → AreWeighed (l.all ++ rest) l.functions
