use Rattle.std.proofs.Common.{◌≡◌, ◌∙◌, List}
use Rattle.ooo_syntax.specs.declared.module.Part.{Part}
use Rattle.ooo_checked.specs.declared.denotation.Resolved.{Resolved}
use Rattle.ooo_checked.specs.Scopes.{Scope}
use Rattle.ooo_checked.specs.Stats.{Stepped}
use Rattle.ooo_bodies.specs.Noting.{noted}
use Rattle.ooo_bodies.specs.Parts.{ordered_scope, ordered_notes}
use Rattle.ooo_members.specs.Declarations.{name_of, parts_of}
use Rattle.ooo_members.proofs.declarations.parts.Goals as goal

pub parts-preserved : goal.parts-preserved
parts-preserved c =
    let xs : List Part = c.as_slice-e-items.result.now in
    let f : Part → Scope → Stepped Resolved = λ p s. name_of c.args.outside c.args.thing p.name s in
    let whole : Stepped (List Resolved) = parts_of c.args.outside c.args.thing xs c.args.scopes.now in
    let behind : c.declare.new.scopes ≡ (f c.e-item.result c.parts.scopes).scope = c.in_ok-declare.ensures.scope in
    let first : c.declare.new.notes ≡ noted c.parts.notes (f c.e-item.result c.parts.scopes).notes = c.in_ok-declare.ensures.notes in record {
      scope = ordered_scope f xs c.parts.e-index c.e-item.result c.parts.scopes c.declare.new.scopes whole.scope
          c.parts-test.true c.e-item.is behind c.parts.invariant.scope;
      notes = ordered_notes f c.parts.notes c.declare.new.notes (noted c.args.notes.now whole.notes) xs c.parts.e-index
          c.e-item.result c.parts.scopes c.declare.new.scopes c.parts-test.true c.e-item.is behind first c.parts.invariant.notes;
      outer = c.in_ok-declare.ensures.outer ∙ c.parts.invariant.outer;
    }
