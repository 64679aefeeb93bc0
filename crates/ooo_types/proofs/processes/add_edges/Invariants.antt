use Rattle.std.proofs.Common.{◌≡◌, ◌++◌, drop, map}
use Rattle.ooo_calls.specs.declared.call.Call.{Call as Edge}
use Rattle.ooo_bodies.specs.declared.notes.Call.{Call}
use Rattle.ooo_types.proofs.processes.add_edges.Given as goal

abbrev pub invariant-parts : goal.invariant-parts
invariant-parts l =
    let f : Call → Edge = λ c. record { from = l.function.number; to = c.function } in
    l.edges ++ map f (drop l.e-index l.e-items) ≡ l.initial.edges ++ map f l.e-items
