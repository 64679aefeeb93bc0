use Rattle.std.proofs.Common.{◌≡◌, drop}
use Rattle.ooo_shapes.specs.Widths.{both, simples_widths}
use Rattle.ooo_layout.proofs.widths.of_simples.Given as goal

abbrev pub invariant-parts : goal.invariant-parts
invariant-parts l = both l.all (simples_widths (drop l.part-index l.simples)) ≡ simples_widths l.simples
