use Rattle.ooo_code.specs.Nodes.{by_nodes}
use Rattle.ooo_meaning.specs.Runs.{ascending, start_of}
use Rattle.ooo_shapes.specs.Designs.{design_of}
use Rattle.ooo_sim.proofs.Answers.{one_reply as one}
use Rattle.ooo_sim.proofs.law.one_reply.Goals as goal

pub returns : goal.returns
returns c =
    one c.one_answer.ensures.one c.accepted_are_ready.ensures c.one_tables.ensures c.same_runs.ensures
    (λ r b limits q x y. c.one_run.ensures (by_nodes (design_of b) limits.statements) (ascending (design_of b)) limits (start_of (design_of b)) r q x y)
