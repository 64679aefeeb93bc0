use Rattle.std.proofs.Common.{ap, arith}
use Rattle.ooo_layout.specs.Weighing.{calls_size}
use Rattle.ooo_layout.proofs.sizes.weight_of.Goals as goal

pub returns : goal.returns
returns c =
    λ sizes.
    omega (arith, c.in_ok-weigh_body.ensures sizes, c.bare.ensures.size_is sizes, c.new-w.ensures.own, ap (calls_size sizes) c.new-w.ensures.calls)
