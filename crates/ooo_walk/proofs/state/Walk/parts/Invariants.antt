use Rattle.std.proofs.Common.{◌≡◌, drop}
use Rattle.ooo_checked.specs.Exprs.{kind_written}
use Rattle.ooo_walk.specs.Members.{part_of}
use Rattle.ooo_walk.specs.Plans.{viewed}
use Rattle.ooo_walk.specs.States.{in_order}
use Rattle.ooo_walk.proofs.state.Walk.parts.Given as goal

abbrev pub invariant-parts : goal.invariant-parts
invariant-parts l =
    in_order (part_of (viewed l.view) l.channels.channel (kind_written l.channels.form.form)) (drop l.e-index l.e-items) l.self
    ≡ in_order (part_of (viewed l.view) l.channels.channel (kind_written l.channels.form.form)) l.e-items l.initial.self
