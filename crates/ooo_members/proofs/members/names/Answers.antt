use Rattle.std.proofs.Common.{List}
use Rattle.ooo_syntax.specs.declared.leaves.Word.{Word}
use Rattle.ooo_checked.specs.declared.denotation.Resolved.{Resolved}
use Rattle.ooo_checked.specs.Exprs.{resolved}
use Rattle.ooo_members.specs.Turns.{map_step}
use Rattle.ooo_members.proofs.members.names.Goals as goal

pub parts-preserved : goal.parts-preserved
parts-preserved c =
    let xs : List Word = c.as_slice-e-items.result.now in
    let f : Word → Resolved = λ w. resolved c.args.scopes.now w in
    map_step f c.parts.all c.push.new.self xs c.parts.e-index c.e-item.result c.in-Ok.made c.parts-test.true c.e-item.is
    c.in-Ok.ensures c.in-Ok-push.ensures.ok c.parts.invariant
