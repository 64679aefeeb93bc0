use Rattle.std.proofs.Common.{◌≡◌, drop}
use Rattle.ooo_syntax.specs.declared.module.Field.{Field}
use Rattle.ooo_checked.specs.declared.denotation.Resolved.{Resolved}
use Rattle.ooo_checked.specs.Exprs.{kind_written}
use Rattle.ooo_checked.specs.Scopes.{Scope, left}
use Rattle.ooo_checked.specs.Stats.{Stepped, in_order}
use Rattle.ooo_bodies.specs.Noting.{noted}
use Rattle.ooo_members.specs.Declarations.{field_thing, name_of}
use Rattle.ooo_members.proofs.declarations.fields.Given as goal

abbrev pub invariant-parts : goal.invariant-parts
invariant-parts l =
    let f : Field → Scope → Stepped Resolved =
    λ x s. name_of l.outside (field_thing l.fields.is_const (kind_written l.fields.form.form) x.form) x.name s in record {
      scope : (in_order f (drop l.e-index l.e-items) l.scopes).scope ≡ (in_order f l.e-items l.initial.scopes).scope;
      notes : noted l.notes (in_order f (drop l.e-index l.e-items) l.scopes).notes
          ≡ noted l.initial.notes (in_order f l.e-items l.initial.scopes).notes;
      outer : left l.scopes ≡ left l.initial.scopes;
    }
