use Rattle.std.proofs.Common.{arith, rules}
use Rattle.std.proofs.lemmas.Grind.{common_steps}
use Rattle.ooo_sim.proofs.Summaries.{sum_of_output}
use Rattle.ooo_sim.proofs.summary.byte_sum.Goals as goal

pub returns : goal.returns
returns c = rw (sum_of_output c.args.pieces.now) (first_of (search rules, grind (arith, common_steps)))
