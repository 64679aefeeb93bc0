use Rattle.std.proofs.Common.{◌≡◌, drop}
use Rattle.ooo_shapes.specs.Widths.{both, exprs_widths}
use Rattle.ooo_layout.proofs.widths.of_exprs.Given as goal

abbrev pub invariant-parts : goal.invariant-parts
invariant-parts l = both l.all (exprs_widths (drop l.part-index l.es)) ≡ exprs_widths l.es
