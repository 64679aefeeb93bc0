-- The model and the design of an accepted text are sound.
use Rattle.std.specs.Prelude.{Ok}
use Rattle.ooo_front.proofs.Answers.{elaboration_of}
use Rattle.ooo_front.proofs.layers.front.Goals as goal

pub segment_count-requires : goal.segment_count-requires
segment_count-requires c =
    c.in-Ok-lower.ensures.sound
    (c.sound.ensures c.in-Ok.made c.in-Ok-elaborate.made c.in_ok-checked.ensures.1
    (elaboration_of c.in-Ok.made c.in_ok-checked.checked c.tree.result.now (Ok c.in-Ok-elaborate.made) c.in_ok-checked.ensures.0 c.tree.ensures c.in-Ok-elaborate.ensures))

pub returns-clause-model : goal.returns-clause-model
returns-clause-model c =
    c.sound.ensures c.in-Ok.made c.in-Ok-elaborate.made c.in_ok-checked.ensures.1
    (elaboration_of c.in-Ok.made c.in_ok-checked.checked c.tree.result.now (Ok c.in-Ok-elaborate.made) c.in_ok-checked.ensures.0 c.tree.ensures c.in-Ok-elaborate.ensures)

pub returns-clause-design : goal.returns-clause-design
returns-clause-design c =
    c.in-Ok-lower.ensures.sound
    (c.sound.ensures c.in-Ok.made c.in-Ok-elaborate.made c.in_ok-checked.ensures.1
    (elaboration_of c.in-Ok.made c.in_ok-checked.checked c.tree.result.now (Ok c.in-Ok-elaborate.made) c.in_ok-checked.ensures.0 c.tree.ensures c.in-Ok-elaborate.ensures))
