use Rattle.std.proofs.Common.{◌∙◌, List}
use Rattle.ooo_syntax.specs.declared.module.Param.{Param}
use Rattle.ooo_checked.specs.declared.module.CheckedParam.{CheckedParam}
use Rattle.ooo_checked.specs.Scopes.{Scope}
use Rattle.ooo_checked.specs.Stats.{Stepped}
use Rattle.ooo_bodies.specs.Noting.{noted}
use Rattle.ooo_bodies.specs.Parts.{ordered_trees, ordered_scope, ordered_notes}
use Rattle.ooo_members.specs.Bodies.{param_of, params_of}
use Rattle.ooo_members.proofs.bodies.params.Goals as goal

pub parts-preserved : goal.parts-preserved
parts-preserved c =
    let xs : List Param = c.as_slice-e-items.result.now in
    let f : Param → Scope → Stepped CheckedParam = λ p s. param_of c.args.outside p s in
    let whole : Stepped (List CheckedParam) = params_of c.args.outside xs c.args.scopes.now in record {
      trees = ordered_trees f c.parts.all c.push.new.self xs c.parts.e-index c.e-item.result c.in-Ok.made
          c.parts.scopes c.param.new.scopes whole.tree c.parts-test.true c.e-item.is c.in-Ok.ensures.tree
          c.in-Ok.ensures.scope c.in-Ok-push.ensures.ok c.parts.invariant.trees;
      scope = ordered_scope f xs c.parts.e-index c.e-item.result c.parts.scopes c.param.new.scopes whole.scope
          c.parts-test.true c.e-item.is c.in-Ok.ensures.scope c.parts.invariant.scope;
      notes = ordered_notes f c.parts.notes c.param.new.notes (noted c.args.notes.now whole.notes) xs c.parts.e-index
          c.e-item.result c.parts.scopes c.param.new.scopes c.parts-test.true c.e-item.is
          c.in-Ok.ensures.scope c.in-Ok.ensures.notes c.parts.invariant.notes;
      outer = c.in-Ok.ensures.outer ∙ c.parts.invariant.outer;
    }
