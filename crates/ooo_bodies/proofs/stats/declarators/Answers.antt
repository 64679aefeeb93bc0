use Rattle.std.proofs.Common.{◌∙◌, List}
use Rattle.ooo_syntax.specs.declared.stat.Declarator.{Declarator}
use Rattle.ooo_checked.specs.declared.stat.CheckedDeclarator.{CheckedDeclarator}
use Rattle.ooo_checked.specs.Scopes.{Scope}
use Rattle.ooo_checked.specs.Stats.{Stepped, declarator_of, declarators_of}
use Rattle.ooo_bodies.specs.Noting.{noted}
use Rattle.ooo_bodies.specs.Parts.{ordered_trees, ordered_scope, ordered_notes}
use Rattle.ooo_bodies.proofs.stats.declarators.Goals as goal

pub parts-preserved : goal.parts-preserved
parts-preserved c =
    let xs : List Declarator = c.as_slice-e-items.result.now in
    let f : Declarator → Scope → Stepped CheckedDeclarator = λ d s. declarator_of c.args.kind c.args.context d s in
    let whole : Stepped (List CheckedDeclarator) = declarators_of c.args.kind c.args.context xs c.args.scopes.now in record {
      trees = ordered_trees f c.parts.all c.push.new.self xs c.parts.e-index c.e-item.result c.in-Ok.made
          c.parts.scopes c.declarator.new.scopes whole.tree c.parts-test.true c.e-item.is c.in-Ok.ensures.tree
          c.in-Ok.ensures.scope c.in-Ok-push.ensures.ok c.parts.invariant.trees;
      scope = ordered_scope f xs c.parts.e-index c.e-item.result c.parts.scopes c.declarator.new.scopes whole.scope
          c.parts-test.true c.e-item.is c.in-Ok.ensures.scope c.parts.invariant.scope;
      notes = ordered_notes f c.parts.notes c.declarator.new.notes (noted c.args.notes.now whole.notes) xs c.parts.e-index
          c.e-item.result c.parts.scopes c.declarator.new.scopes c.parts-test.true c.e-item.is
          c.in-Ok.ensures.scope c.in-Ok.ensures.notes c.parts.invariant.notes;
      outer = c.in-Ok.ensures.outer ∙ c.parts.invariant.outer;
    }
