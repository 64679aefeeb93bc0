use Rattle.std.proofs.Common.{◌≡◌, ◌∙◌, ap, subst, sym}
use Rattle.std.proofs.lemmas.Result.{IfOk-weaker}
use Rattle.ooo_bound.specs.declared.stat.BoundRight.TheVariants as right
use Rattle.ooo_bound.specs.declared.stat.BoundSimple.TheVariants as simple
use Rattle.ooo_layout.specs.Extents.{Measures}
use Rattle.ooo_layout.proofs.Measured.{same_measures}
use Rattle.ooo_shapes.specs.Shapes.{call_shape, lined_shape, simple_shape}
use Rattle.ooo_layout.proofs.extents.of_lined.Goals as goal

pub returns-in-Call : goal.returns-in-Call
returns-in-Call c =
    let model = c.args.known.model.now in
    let x = c.args.x.now in
    let into = c.in-Assign.field-0 in
    let is : x.simple ≡ simple.Assign into (right.Call c.in-Call.f c.in-Call.args) = c.in-Assign.is ∙ ap (simple.Assign into) c.in-Call.is in
    IfOk-weaker c.of_call.result _ _
    (λ e p. same_measures model e
    (λ h cs. (call_shape h x.line into c.in-Call.args (cs c.in-Call.f)).size)
    (λ h cs. (lined_shape h cs x).size)
    (λ h cs. ap (λ s. (simple_shape h cs x.line s).size) (sym is))
    (subst (λ xs. Measures e model (λ h cs. (call_shape h x.line into xs (cs c.in-Call.f)).size)) c.as_slice.ensures p))
    (c.of_call.ensures x.line into)
