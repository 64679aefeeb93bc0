use Rattle.std.proofs.Common.{◌≡◌, ◌+◌, drop}
use Rattle.ooo_shapes.specs.Sizes.{Sizes, body_size}
use Rattle.ooo_layout.specs.Weighing.{weight_by}
use Rattle.ooo_layout.proofs.sizes.+weigh.Given as goal

abbrev pub invariant-weigh_body-parts : goal.invariant-weigh_body-parts
invariant-weigh_body-parts l = (sizes : Sizes) → weight_by sizes l.w + body_size sizes (drop l.stat-index l.body) ≡ weight_by sizes l.initial.w + body_size sizes l.body
