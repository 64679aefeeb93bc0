use Rattle.std.proofs.Common.{subst, sym}
use Rattle.std.proofs.lemmas.Result.{IfOk-weaker}
use Rattle.ooo_layout.specs.Extents.{Measures}
use Rattle.ooo_layout.proofs.Measured.{more_measures}
use Rattle.ooo_shapes.specs.Shapes.{after_shape, lead_size, lined_shape}
use Rattle.ooo_layout.proofs.extents.of_lead.Goals as goal

pub returns-in_ok-step-in-Some : goal.returns-in_ok-step-in-Some
returns-in_ok-step-in-Some c =
    let model = c.args.known.model.now in
    let step = c.in_ok-step-in-Some.step in
    IfOk-weaker c.one_more.result _ _
    (λ e t. subst (λ o. Measures e model (λ h cs. lead_size (after_shape h cs o))) (sym c.in-Some.is)
    (more_measures model step e (λ h cs. (lined_shape h cs c.in-Some.x).size)
    (subst (λ x. Measures step model (λ h cs. (lined_shape h cs x).size)) c.get.ensures c.in_ok-step-in-Some.ensures) t))
    c.one_more.ensures
