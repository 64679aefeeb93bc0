use Rattle.ooo_layout.proofs.Measured.{call_measures}
use Rattle.ooo_layout.proofs.extents.of_found.Goals as goal

pub returns : goal.returns
returns c =
    λ line into.
    call_measures c.args.known.model.now c.in_ok-called.called.extent _ c.args.function.now c.args.f c.given.result line into c.args.args.now c.requires.found
    (c.requires.known c.args.f c.args.function.now c.in_ok-called.called c.requires.found c.in_ok-called.ensures).extent_is
    c.given.ensures
    c.in_ok-nodes.ensures
    c.in_ok-depth.ensures
