use Rattle.ooo_layout.proofs.Sized.{all_weighed}
use Rattle.ooo_layout.proofs.sizes.weights_of.Goals as goal

pub returns : goal.returns
returns c = all_weighed c.functions.all c.functions.function-index c.args.functions.now c.functions-test.false c.functions.invariant
