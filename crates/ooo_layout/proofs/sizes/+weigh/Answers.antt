use Rattle.std.proofs.Common.{◌∙◌, ap, arith}
use Rattle.std.proofs.lemmas.Result.{on_ok_weaker}
use Rattle.ooo_layout.proofs.Sized.{size_Block, size_Do, size_For, size_If, size_Simple, size_While}
use Rattle.ooo_shapes.specs.Sizes.{body_size, simple_size, simples_size, stat_size}
use Rattle.ooo_layout.proofs.sizes.+weigh.Goals as goal

pub weigh_stat-returns-in-Block : goal.weigh_stat-returns-in-Block
weigh_stat-returns-in-Block t c =
    let i = c.in-Block in
    on_ok_weaker c.weigh_body.result
    (λ h sizes. omega (arith, h sizes, ap (body_size sizes) c.as_slice.ensures, ap (stat_size sizes) i.is ∙ size_Block sizes i.body))
    c.weigh_body.ensures

pub weigh_stat-returns-in-Simple : goal.weigh_stat-returns-in-Simple
weigh_stat-returns-in-Simple t c =
    let i = c.in-Simple in
    on_ok_weaker c.weigh_simple.result
    (λ h sizes. omega (arith, h sizes, ap (λ x. simple_size sizes x.simple) c.get.ensures, ap (stat_size sizes) i.is ∙ size_Simple sizes i.part))
    c.weigh_simple.ensures

pub weigh_stat-returns-in_ok-weigh_else-in-If : goal.weigh_stat-returns-in_ok-weigh_else-in-If
weigh_stat-returns-in_ok-weigh_else-in-If t c =
    let i = c.in-If in
    on_ok_weaker c.count.result
    (λ h sizes. omega (arith, h sizes, c.in_ok-weigh_else-in-If.ensures sizes, c.in_ok-weigh_stat-in-If.ensures sizes, ap (stat_size sizes) c.get-in-If.ensures, ap (stat_size sizes) i.is ∙ size_If sizes i.field-0 i.field-1 i.yes i.no))
    c.count.ensures

pub weigh_stat-returns-in_ok-weigh_stat-in-While : goal.weigh_stat-returns-in_ok-weigh_stat-in-While
weigh_stat-returns-in_ok-weigh_stat-in-While t c =
    let i = c.in-While in
    on_ok_weaker c.count-in-While.result
    (λ h sizes. omega (arith, h sizes, c.in_ok-weigh_stat-in-While.ensures sizes, ap (stat_size sizes) c.get-in-While.ensures, ap (stat_size sizes) i.is ∙ size_While sizes i.field-0 i.field-1 i.body))
    c.count-in-While.ensures

pub weigh_stat-returns-in_ok-weigh_stat-in-Do : goal.weigh_stat-returns-in_ok-weigh_stat-in-Do
weigh_stat-returns-in_ok-weigh_stat-in-Do t c =
    let i = c.in-Do in
    on_ok_weaker c.count-in-Do.result
    (λ h sizes. omega (arith, h sizes, c.in_ok-weigh_stat-in-Do.ensures sizes, ap (stat_size sizes) c.get-in-Do.ensures, ap (stat_size sizes) i.is ∙ size_Do sizes i.field-0 i.body i.field-2))
    c.count-in-Do.ensures

pub weigh_stat-returns-in_ok-weigh_stat-in-For : goal.weigh_stat-returns-in_ok-weigh_stat-in-For
weigh_stat-returns-in_ok-weigh_stat-in-For t c =
    let i = c.in-For in
    on_ok_weaker c.count-in-For.result
    (λ h sizes. omega (arith, h sizes, c.in_ok-weigh_simples-in-For.ensures sizes, c.in_ok-weigh_after-in-For.ensures sizes, ap (simples_size sizes) c.as_slice-in-For.ensures, c.in_ok-weigh_stat-in-For.ensures sizes, ap (stat_size sizes) c.get-in-For.ensures, ap (stat_size sizes) i.is ∙ size_For sizes i.field-0 i.begin i.field-2 i.after i.body))
    c.count-in-For.ensures
