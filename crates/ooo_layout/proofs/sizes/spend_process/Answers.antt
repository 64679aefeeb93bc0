use Rattle.std.proofs.Common.{◌-◌, subst, length}
use Rattle.ooo_layout.specs.Weighing.{IsLeft, IsWeightOf}
use Rattle.ooo_layout.proofs.Sized.{body_is, one_less}
use Rattle.ooo_layout.proofs.sizes.spend_process.Goals as goal

pub returns : goal.returns
returns c =
    let fs = c.args.functions.now in
    let weighed = subst (λ xs. IsWeightOf c.in_ok-w.w xs) c.as_slice.ensures c.in_ok-w.ensures in
    let body = body_is (length fs) c.args.weights.now fs c.in_ok-w.w c.args.process.now.body c.requires weighed in
    one_less _ c.args.left c.in_ok-rest.rest c.if-left-eq0.false (subst (λ n. IsLeft n (c.args.left - 1) c.in_ok-rest.rest) body c.in_ok-rest.ensures)
