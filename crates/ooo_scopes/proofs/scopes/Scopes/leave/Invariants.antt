use Rattle.std.proofs.Common.{◌≡◌, drop}
use Rattle.ooo_scopes.proofs.scopes.Scopes.leave.Given as goal

-- the latest names are forgotten, and the counts of the blocks outside stay
abbrev pub invariant-loop-forgotten : goal.invariant-loop-forgotten
invariant-loop-forgotten l =
    (l.self-inside.names ≡ drop l._forgotten l.initial.self-inside.names) × (l.self-inside.counts ≡ l.initial.self-inside.counts)
