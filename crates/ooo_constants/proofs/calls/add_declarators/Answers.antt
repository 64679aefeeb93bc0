use Rattle.std.proofs.Common.{refl, ◌++◌}
use Rattle.ooo_constants.specs.Bodies.{declarator_calls, initial_calls}
use Rattle.ooo_constants.proofs.Lists.{appended}
use Rattle.ooo_constants.proofs.calls.add_declarators.Goals as goal

pub parts-preserved : goal.parts-preserved
parts-preserved c =
    appended (λ d. initial_calls d.value) declarator_calls (λ x xs. refl) c.parts.calls.items c.add_initial.new.calls.items
    (c.args.calls.now.items ++ declarator_calls c.args.names.now) c.args.names.now c.parts.declared-index c.declared-item.result
    c.parts-test.true c.declared-item.is c.in_ok-add_initial.ensures c.parts.invariant
