use Rattle.std.proofs.Common.{◌≡◌, drop}
use Rattle.ooo_checked.specs.Exprs.{kind_written}
use Rattle.ooo_walk.specs.Members.{field_of}
use Rattle.ooo_walk.specs.Plans.{viewed}
use Rattle.ooo_walk.specs.States.{in_order}
use Rattle.ooo_walk.proofs.state.Walk.fields.Given as goal

abbrev pub invariant-parts : goal.invariant-parts
invariant-parts l =
    in_order (field_of (viewed l.view) l.fields.is_const (kind_written l.fields.form.form)) (drop l.e-index l.e-items) l.self
    ≡ in_order (field_of (viewed l.view) l.fields.is_const (kind_written l.fields.form.form)) l.e-items l.initial.self
