use Rattle.std.proofs.Common.{◌≡◌, ◌++◌, drop}
use Rattle.ooo_layout.specs.Weighing.{owed_calls}
use Rattle.ooo_layout.proofs.sizes.owe.Given as goal

abbrev pub invariant-calls : goal.invariant-calls
invariant-calls l = l.owed ++ owed_calls l.depth (drop l.f-index l.calls) ≡ l.initial.owed ++ owed_calls l.depth l.calls
