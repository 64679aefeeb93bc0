use Rattle.std.proofs.Common.{◌≡◌, drop}
use Rattle.ooo_shapes.specs.Widths.{both, params_widths}
use Rattle.ooo_layout.proofs.widths.of_params.Given as goal

abbrev pub invariant-parts : goal.invariant-parts
invariant-parts l =
    (l.slot ≡ l.kind-index)
    × (both l.all (params_widths l.slot (drop l.kind-index l.kinds)) ≡ params_widths 0 l.kinds)
