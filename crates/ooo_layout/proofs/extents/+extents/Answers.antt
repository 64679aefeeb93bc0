use Rattle.std.proofs.Common.{◌≡◌, ◌+◌, ◌∙◌, ap, drop, subst, sym, None, arith}
use Rattle.std.proofs.Math.ListN.{drop_of_length-le}
use Rattle.std.proofs.lemmas.Result.{IfOk-weaker}
use Rattle.ooo_bound.specs.declared.stat.BoundStat.{BoundStat}
use Rattle.ooo_layout.specs.declared.extents.Extent.{Extent}
use Rattle.ooo_bound.specs.declared.model.Bound.{Bound}
use Rattle.ooo_layout.specs.Extents.{Count, Measures, else_shape, for_shape}
use Rattle.ooo_layout.proofs.Measured.{but_less, but_nothing, from_part, loop_measures, measures_more, more_measures, stat_measures, then_measures}
use Rattle.ooo_layout.proofs.Shaped.{shape_Block, shape_Do, shape_For, shape_If, shape_Simple, shape_While}
use Rattle.ooo_shapes.specs.Shapes.{after_shape, body_shape, do_shape, if_shape, lead_size, lined_shape, lined_shapes, loop_shape, shape_of}
use Rattle.ooo_layout.proofs.extents.+extents.Goals as goal

-- the size of a statement
abbrev size_of : BoundStat → Count
size_of s = λ h cs. (shape_of h cs s).size

-- what is measured is the statement that was taken out of its box
same_stat : (m : Bound) (e : Extent) (s1 s : BoundStat) → s1 ≡ s → Measures e m (size_of s1) → Measures e m (size_of s)
same_stat m e s1 s same p = subst (λ s. Measures e m (size_of s)) same p

pub of_stat-returns-in-Block : goal.of_stat-returns-in-Block
of_stat-returns-in-Block t c =
    let model = c.args.known.model.now in
    let i = c.in-Block in
    IfOk-weaker c.of_stats.result _ _
    (λ e p. stat_measures model e c.args.stat.now (λ h cs. body_shape h cs i.body) (λ h cs. ap (shape_of h cs) i.is ∙ shape_Block h cs i.body)
    (subst (λ xs. Measures e model (λ h cs. (body_shape h cs xs).size)) c.as_slice.ensures p))
    c.of_stats.ensures

pub of_stat-returns-in-Simple : goal.of_stat-returns-in-Simple
of_stat-returns-in-Simple t c =
    let model = c.args.known.model.now in
    let i = c.in-Simple in
    IfOk-weaker c.of_lined.result _ _
    (λ e p. stat_measures model e c.args.stat.now (λ h cs. lined_shape h cs i.x) (λ h cs. ap (shape_of h cs) i.is ∙ shape_Simple h cs i.x)
    (subst (λ x. Measures e model (λ h cs. (lined_shape h cs x).size)) c.get.ensures p))
    c.of_lined.ensures

pub of_stat-returns-in_ok-branches-in-If : goal.of_stat-returns-in_ok-branches-in-If
of_stat-returns-in_ok-branches-in-If t c =
    let model = c.args.known.model.now in
    let i = c.in-If in
    let other : Count = λ h cs. (else_shape h cs i.no).size in
    let branches = then_measures model c.in_ok-yes-in-If.yes c.in_ok-no-in-If.no c.in_ok-branches-in-If.branches (size_of i.yes) other (same_stat model c.in_ok-yes-in-If.yes _ i.yes c.get-in-If.ensures c.in_ok-yes-in-If.ensures) c.in_ok-no-in-If.ensures c.in_ok-branches-in-If.ensures in
    IfOk-weaker c.one_more.result _ _
    (λ e t. stat_measures model e c.args.stat.now (λ h cs. if_shape i.field-0 i.field-1 (shape_of h cs i.yes) (else_shape h cs i.no)) (λ h cs. ap (shape_of h cs) i.is ∙ shape_If h cs i.field-0 i.field-1 i.yes i.no)
    (more_measures model c.in_ok-branches-in-If.branches e (λ h cs. size_of i.yes h cs + other h cs) branches t))
    c.one_more.ensures

pub of_stat-returns-in_ok-body-in-While : goal.of_stat-returns-in_ok-body-in-While
of_stat-returns-in_ok-body-in-While t c =
    let model = c.args.known.model.now in
    let i = c.in-While in
    IfOk-weaker c.one_more-in-While.result _ _
    (λ e t. stat_measures model e c.args.stat.now (λ h cs. loop_shape i.field-0 i.field-1 None (shape_of h cs i.body)) (λ h cs. ap (shape_of h cs) i.is ∙ shape_While h cs i.field-0 i.field-1 i.body)
    (loop_measures model c.in_ok-body-in-While.body e (size_of i.body) (same_stat model c.in_ok-body-in-While.body _ i.body c.get-in-While.ensures c.in_ok-body-in-While.ensures) t))
    c.one_more-in-While.ensures

pub of_stat-returns-in_ok-body-in-Do : goal.of_stat-returns-in_ok-body-in-Do
of_stat-returns-in_ok-body-in-Do t c =
    let model = c.args.known.model.now in
    let i = c.in-Do in
    IfOk-weaker c.one_more-in-Do.result _ _
    (λ e t. stat_measures model e c.args.stat.now (λ h cs. do_shape i.field-0 i.field-2 (shape_of h cs i.body)) (λ h cs. ap (shape_of h cs) i.is ∙ shape_Do h cs i.field-0 i.body i.field-2)
    (measures_more model c.in_ok-body-in-Do.body e (size_of i.body) (same_stat model c.in_ok-body-in-Do.body _ i.body c.get-in-Do.ensures c.in_ok-body-in-Do.ensures) t))
    c.one_more-in-Do.ensures

pub of_stat-returns-in_ok-body-in-For : goal.of_stat-returns-in_ok-body-in-For
of_stat-returns-in_ok-body-in-For t c =
    let model = c.args.known.model.now in
    let i = c.in-For in
    IfOk-weaker c.of_for.result _ _
    (λ e p. stat_measures model e c.args.stat.now (λ h cs. for_shape h cs i.field-0 i.begin i.field-2 i.after i.body) (λ h cs. ap (shape_of h cs) i.is ∙ shape_For h cs i.field-0 i.begin i.field-2 i.after i.body)
    (subst (λ xs. Measures e model (λ h cs. (lined_shapes h cs xs).size + (lead_size (after_shape h cs i.after) + (1 + size_of i.body h cs)))) c.as_slice-in-For.ensures p))
    (c.of_for.ensures (size_of i.body) (same_stat model c.in_ok-body-in-For.body _ i.body c.get-in-For.ensures c.in_ok-body-in-For.ensures))

pub of_stats-parts-init : goal.of_stats-parts-init
of_stats-parts-init t c = λ s d le. omega (arith, c.plain-all.ensures.nodes)

pub of_stats-parts-preserved : goal.of_stats-parts-preserved
of_stats-parts-preserved t c =
    let body = c.args.body.now in
    let i = c.parts.stat-index in
    but_less c.args.known.model.now c.parts.all c.in_ok-part.part _
    (λ h cs. (shape_of h cs c.stat-item.result).size)
    (λ h cs. (body_shape h cs (drop i body)).size)
    (λ h cs. (body_shape h cs (drop (i + 1) body)).size)
    (λ h cs. (body_shape h cs body).size)
    (λ h cs. ap (λ ys. (body_shape h cs ys).size) (from_part body i c.stat-item.result c.parts-test.true c.stat-item.is))
    c.parts.invariant c.in_ok-part.ensures c.in_ok-all.ensures

pub of_stats-returns : goal.of_stats-returns
of_stats-returns t c =
    let body = c.args.body.now in
    but_nothing c.args.known.model.now c.parts.all
    (λ h cs. (body_shape h cs (drop c.parts.stat-index body)).size)
    (λ h cs. (body_shape h cs body).size)
    (λ h cs. ap (λ ys. (body_shape h cs ys).size) (drop_of_length-le body (omega (arith, c.parts-test.false))))
    c.parts.invariant

pub of_else-returns-in-Some : goal.of_else-returns-in-Some
of_else-returns-in-Some t c =
    let model = c.args.known.model.now in
    IfOk-weaker c.of_stat.result _ _
    (λ e p. subst (λ o. Measures e model (λ h cs. (else_shape h cs o).size)) (sym c.in-Some.is) (same_stat model e _ c.in-Some.stat c.get.ensures p))
    c.of_stat.ensures
