use Rattle.std.proofs.Common.{◌∙◌, ap, List}
use Rattle.ooo_syntax.specs.declared.module.Init.{Init}
use Rattle.ooo_checked.specs.declared.denotation.Denotation.{Denotation}
use Rattle.ooo_checked.specs.Scopes.{meaning_of}
use Rattle.ooo_members.specs.Turns.{map_step}
use Rattle.ooo_members.proofs.constructors.denotations.Goals as goal

pub parts-preserved : goal.parts-preserved
parts-preserved c =
    let xs : List Init = c.as_slice-e-items.result.now in
    let f : Init → Denotation = λ i. meaning_of c.args.scopes.now i.name.name in
    map_step f c.parts.all c.push.new.self xs c.parts.e-index c.e-item.result c.denotes-denotes.result c.parts-test.true c.e-item.is
    (c.denotes-denotes.ensures ∙ ap (λ n. meaning_of c.args.scopes.now n) c.as_bytes.ensures) c.in-Ok.ensures.ok c.parts.invariant
