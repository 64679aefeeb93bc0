use Rattle.std.proofs.Common.{◌≡◌, ◌+◌, drop}
use Rattle.ooo_shapes.specs.Sizes.{Sizes, simples_size}
use Rattle.ooo_layout.specs.Weighing.{weight_by}
use Rattle.ooo_layout.proofs.sizes.weigh_simples.Given as goal

abbrev pub invariant-parts : goal.invariant-parts
invariant-parts l = (sizes : Sizes) → weight_by sizes l.w + simples_size sizes (drop l.part-index l.simples) ≡ weight_by sizes l.initial.w + simples_size sizes l.simples
