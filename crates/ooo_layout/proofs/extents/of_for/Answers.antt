use Rattle.std.proofs.Common.{◌+◌}
use Rattle.std.proofs.lemmas.Result.{IfOk-weaker}
use Rattle.ooo_layout.specs.Extents.{Count}
use Rattle.ooo_layout.proofs.Measured.{more_measures, then_measures}
use Rattle.ooo_shapes.specs.Shapes.{after_shape, lead_size, lined_shapes}
use Rattle.ooo_layout.proofs.extents.of_for.Goals as goal

pub returns : goal.returns
returns c =
    λ count p.
    let model = c.args.known.model.now in
    let first : Count = λ h cs. (lined_shapes h cs c.args.begin.now).size in
    let lead : Count = λ h cs. lead_size (after_shape h cs c.args.after.now) in
    let turn : Count = λ h cs. 1 + count h cs in
    let turned = more_measures model c.args.body c.in_ok-turn.turn count p c.in_ok-turn.ensures in
    let repeated = then_measures model c.in_ok-lead.lead c.in_ok-turn.turn c.in_ok-repeated.repeated lead turn c.in_ok-lead.ensures turned c.in_ok-repeated.ensures in
    IfOk-weaker c.then-2.result _ _
    (λ e t. then_measures model c.in_ok-begin.begin c.in_ok-repeated.repeated e first (λ h cs. lead h cs + turn h cs) c.in_ok-begin.ensures repeated t)
    c.then-2.ensures
