use Rattle.std.proofs.Common.{◌∙◌}
use Rattle.std.proofs.lemmas.Result.{IfOk-weaker}
use Rattle.ooo_layout.proofs.extents.lineds_size.Goals as goal

pub returns : goal.returns
returns c =
    IfOk-weaker c.nodes_within.result _ _ (λ n p. p.0 ∙ c.in_ok-extent.ensures c.args.scene.sensitive.now c.args.depth p.1) c.nodes_within.ensures
