use Rattle.std.proofs.Common.{◌+◌, ap, drop, arith}
use Rattle.std.proofs.Math.ListN.{drop_of_length-le}
use Rattle.ooo_shapes.specs.Shapes.{lined_shape, lined_shapes}
use Rattle.ooo_layout.proofs.Measured.{but_less, but_nothing, from_part}
use Rattle.ooo_layout.proofs.extents.of_lineds.Goals as goal

pub parts-init : goal.parts-init
parts-init c = λ s d le. omega (arith, c.plain-all.ensures.nodes)

pub parts-preserved : goal.parts-preserved
parts-preserved c =
    let xs = c.args.xs.now in
    let i = c.parts.x-index in
    but_less c.args.known.model.now c.parts.all c.in_ok-part.part _
    (λ h cs. (lined_shape h cs c.x-item.result).size)
    (λ h cs. (lined_shapes h cs (drop i xs)).size)
    (λ h cs. (lined_shapes h cs (drop (i + 1) xs)).size)
    (λ h cs. (lined_shapes h cs xs).size)
    (λ h cs. ap (λ ys. (lined_shapes h cs ys).size) (from_part xs i c.x-item.result c.parts-test.true c.x-item.is))
    c.parts.invariant c.in_ok-part.ensures c.in_ok-all.ensures

pub returns : goal.returns
returns c =
    let xs = c.args.xs.now in
    but_nothing c.args.known.model.now c.parts.all
    (λ h cs. (lined_shapes h cs (drop c.parts.x-index xs)).size)
    (λ h cs. (lined_shapes h cs xs).size)
    (λ h cs. ap (λ ys. (lined_shapes h cs ys).size) (drop_of_length-le xs (omega (arith, c.parts-test.false))))
    c.parts.invariant
