use Rattle.std.proofs.Common.{ℕ, ◌<◌, drop}
use Rattle.ooo_parser.specs.Refusals.{IsSignalOfType}
use Rattle.ooo_parser.proofs.breaches.ends_in_signal_of_type.Given as goal

abbrev pub invariant-loop-at : goal.invariant-loop-at
invariant-loop-at l = (k : ℕ) → k < l.at → IsSignalOfType (drop k l.symbols) → ⊥
