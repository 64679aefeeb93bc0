use Rattle.std.proofs.Common.{drop}
use Rattle.ooo_layout.proofs.Measured.{MeasuresBut}
use Rattle.ooo_shapes.specs.Shapes.{lined_shapes}
use Rattle.ooo_layout.proofs.extents.of_lineds.Given as goal

abbrev pub invariant-parts : goal.invariant-parts
invariant-parts l =
    MeasuresBut l.all l.known.model.now
    (λ h callees. (lined_shapes h callees (drop l.x-index l.xs)).size)
    (λ h callees. (lined_shapes h callees l.xs).size)
