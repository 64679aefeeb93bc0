use Rattle.std.proofs.Common.{replicate, ◌∙◌}
use Rattle.ooo_plain.proofs.Filling.{made_more}
use Rattle.ooo_plain.proofs.starting.first_variables.Goals as goal

pub loop-x-preserved : goal.loop-x-preserved
loop-x-preserved c =
    made_more (λ x. replicate x.length x.start) c.loop-x.made.items _ _ c.args.bound.now _ c.loop-x.x-index c.loop-x-test.true c.loop-x.invariant
    (c.from_vec.ensures ∙ c.in_ok-cells.ensures.items_if_clones_equal (λ y h. h)) c.in_ok-push.ensures.items
