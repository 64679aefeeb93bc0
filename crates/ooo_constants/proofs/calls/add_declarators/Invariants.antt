use Rattle.std.proofs.Common.{◌≡◌, ◌++◌, drop}
use Rattle.ooo_constants.specs.Bodies.{declarator_calls}
use Rattle.ooo_constants.proofs.calls.add_declarators.Given as goal

abbrev pub invariant-parts : goal.invariant-parts
invariant-parts l =
    l.calls.items ++ declarator_calls (drop l.declared-index l.names) ≡ l.initial.calls.items ++ declarator_calls l.names
