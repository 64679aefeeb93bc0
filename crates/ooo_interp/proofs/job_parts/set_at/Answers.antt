-- The variable at the place has other elements.
use Rattle.std.proofs.Common.{slice_set, ap, ◌∙◌}
use Rattle.ooo_interp.proofs.Listed.{set_listed}
use Rattle.ooo_interp.proofs.job_parts.set_at.Goals as goal

pub returns-clause-listed : goal.returns-clause-listed
returns-clause-listed c = λ x stands.
    ap (λ cells. slice_set c.args.carried.now.items c.args.place (c.index_mut.result.now.0, cells)) c.set_item.ensures ∙ set_listed c.args.carried.now.items x c.args.place c.index_mut.result.now (λ cells. slice_set cells c.args.at c.args.v) c.requires.ascending stands c.index_mut.ensures.value
