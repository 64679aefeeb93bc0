-- The answers of the calls so far.
use Rattle.std.proofs.Common.{◌≡◌, map, take}
use Rattle.ooo_calls.specs.Cycles.{is_on_cycle}
use Rattle.ooo_calls.proofs.closure.calls_on_cycle.Given as goal

abbrev pub invariant-calls : goal.invariant-calls
invariant-calls l = l.answers.items ≡ map (is_on_cycle l.calls) (take l.call-index l.calls)
