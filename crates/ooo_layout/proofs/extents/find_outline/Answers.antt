use Rattle.ooo_layout.proofs.Measured.{more_known}
use Rattle.ooo_layout.proofs.extents.find_outline.Goals as goal

pub returns-in_ok-outline-in-Some : goal.returns-in_ok-outline-in-Some
returns-in_ok-outline-in-Some c =
    more_known c.args.model.now c.args.outlines.now c.set.new.self c.args.f c.in_ok-outline-in-Some.outline c.in-Some.function.now c.requires c.in-Some.ensures c.in_ok-outline-in-Some.ensures c.set.ensures
