use Rattle.std.proofs.Common.{Some, ap, subst, sym, ◌∙◌}
use Rattle.std.specs.Prelude.{slice_get, ◌≡◌}
use Rattle.ooo_code.specs.Dependence.{AgreeOn}
use Rattle.ooo_code.specs.Segments.{Accesses}
use Rattle.ooo_dispatch.specs.Rules.{entry_of, view_at}
use Rattle.ooo_dispatch.proofs.Reading.{found}
use Rattle.ooo_dispatch.proofs.law.every_job_reads.Goals as goal

pub returns : goal.returns
returns c = λ r result b rules sound some is lawful y out v process read at.
    let agrees = c.every_board_agrees.ensures r result b rules sound some is lawful in
    let f = found r result.made agrees.log agrees.made y.process y.number read.made read.is in
    let same = agrees.jobs y f.act out f.there f.process f.number in
    let there : slice_get r.design.processes f.act.process ≡ Some process = ap (slice_get r.design.processes) f.process ∙ at in
    subst (λ w. AgreeOn (Accesses r.design process (entry_of r y.segment)) w (view_at y.stamp y.reads)) read.view
    (subst (λ x. AgreeOn (Accesses r.design process (entry_of r x.segment)) read.made.view (view_at x.stamp x.reads)) (sym same) (f.made.reads process there))
