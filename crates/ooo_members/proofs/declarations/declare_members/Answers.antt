use Rattle.std.proofs.Common.{◌≡◌, ◌∙◌, List}
use Rattle.ooo_syntax.specs.declared.module.Member.{Member}
use Rattle.ooo_checked.specs.declared.denotation.Resolved.{Resolved}
use Rattle.ooo_checked.specs.Scopes.{Scope}
use Rattle.ooo_checked.specs.Stats.{Stepped}
use Rattle.ooo_bodies.specs.Noting.{noted}
use Rattle.ooo_bodies.specs.Parts.{ordered_scope, ordered_notes}
use Rattle.ooo_members.specs.Declarations.{member_names, members_names}
use Rattle.ooo_members.proofs.declarations.declare_members.Goals as goal

pub parts-preserved : goal.parts-preserved
parts-preserved c =
    let xs : List Member = c.args.members.now in
    let f : Member → Scope → Stepped (List Resolved) = λ m s. member_names c.args.outside m s in
    let whole : Stepped (List (List Resolved)) = members_names c.args.outside xs c.args.scopes.now in
    let behind : c.declare_member.new.scopes ≡ (f c.e-item.result c.parts.scopes).scope = c.in_ok-declare_member.ensures.scope in
    let first : c.declare_member.new.notes ≡ noted c.parts.notes (f c.e-item.result c.parts.scopes).notes = c.in_ok-declare_member.ensures.notes in record {
      scope = ordered_scope f xs c.parts.e-index c.e-item.result c.parts.scopes c.declare_member.new.scopes whole.scope
          c.parts-test.true c.e-item.is behind c.parts.invariant.scope;
      notes = ordered_notes f c.parts.notes c.declare_member.new.notes (noted c.args.notes.now whole.notes) xs c.parts.e-index
          c.e-item.result c.parts.scopes c.declare_member.new.scopes c.parts-test.true c.e-item.is behind first c.parts.invariant.notes;
      outer = c.in_ok-declare_member.ensures.outer ∙ c.parts.invariant.outer;
    }
