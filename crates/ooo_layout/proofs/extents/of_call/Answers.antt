use Rattle.ooo_layout.proofs.Measured.{no_call_measures}
use Rattle.ooo_layout.proofs.extents.of_call.Goals as goal

pub returns-in-None : goal.returns-in-None
returns-in-None c =
    λ line into. no_call_measures c.args.known.model.now _ c.args.f line into c.args.args.now c.in-None.ensures c.plain.ensures.nodes

pub returns-in-Some : goal.returns-in-Some
returns-in-Some c = c.of_found.ensures
