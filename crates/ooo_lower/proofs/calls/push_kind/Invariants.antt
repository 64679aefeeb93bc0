use Rattle.std.proofs.Common.{◌≡◌, ◌++◌, replicate}
use Rattle.ooo_lower.proofs.calls.push_kind.Given as goal

abbrev pub invariant-slots : goal.invariant-slots
invariant-slots l = (l.code.nodes ≡ l.initial.code.nodes) × (l.code.slots ≡ l.initial.code.slots ++ replicate l.counter l.kind)
