use Rattle.std.proofs.Common.{◌≡◌, ◌∙◌, ap, List}
use Rattle.ooo_syntax.specs.declared.module.Field.{Field}
use Rattle.ooo_checked.specs.Exprs.{kind_written}
use Rattle.ooo_checked.specs.declared.denotation.Resolved.{Resolved}
use Rattle.ooo_checked.specs.Scopes.{Scope}
use Rattle.ooo_checked.specs.Stats.{Stepped, in_order}
use Rattle.ooo_bodies.specs.Noting.{noted}
use Rattle.ooo_bodies.specs.Parts.{ordered_scope, ordered_notes}
use Rattle.ooo_members.specs.Declarations.{field_thing, name_of}
use Rattle.ooo_members.proofs.declarations.fields.Goals as goal

pub parts-preserved : goal.parts-preserved
parts-preserved c =
    let xs : List Field = c.as_slice-e-items.result.now in
    let f : Field → Scope → Stepped Resolved = λ x s. name_of c.args.outside (field_thing c.args.fields.now.is_const (kind_written c.args.fields.now.form.form) x.form) x.name s in
    let whole : Stepped (List Resolved) = in_order f xs c.args.scopes.now in
    let thing : c.field_thing-thing.result ≡ field_thing c.args.fields.now.is_const (kind_written c.args.fields.now.form.form) c.e-item.result.form =
    c.field_thing-thing.ensures ∙ ap (λ k. field_thing c.args.fields.now.is_const k c.e-item.result.form) c.kind_written-kind.ensures in
    let behind : c.declare.new.scopes ≡ (f c.e-item.result c.parts.scopes).scope = c.in_ok-declare.ensures.scope
    ∙ ap (λ t. (name_of c.args.outside t c.e-item.result.name c.parts.scopes).scope) thing in
    let first : c.declare.new.notes ≡ noted c.parts.notes (f c.e-item.result c.parts.scopes).notes = c.in_ok-declare.ensures.notes
    ∙ ap (λ t. noted c.parts.notes (name_of c.args.outside t c.e-item.result.name c.parts.scopes).notes) thing in record {
      scope = ordered_scope f xs c.parts.e-index c.e-item.result c.parts.scopes c.declare.new.scopes whole.scope
          c.parts-test.true c.e-item.is behind c.parts.invariant.scope;
      notes = ordered_notes f c.parts.notes c.declare.new.notes (noted c.args.notes.now whole.notes) xs c.parts.e-index
          c.e-item.result c.parts.scopes c.declare.new.scopes c.parts-test.true c.e-item.is behind first c.parts.invariant.notes;
      outer = c.in_ok-declare.ensures.outer ∙ c.parts.invariant.outer;
    }
