-- Event by event.
use Rattle.std.proofs.Common.{sym, subst}
use Rattle.std.proofs.lemmas.List.{take_more}
use Rattle.ooo_conflicts.proofs.SetLemmas.{Has, has_more}
use Rattle.ooo_conflicts.proofs.called.add_all.Goals as goal

pub loop-e-preserved : goal.loop-e-preserved
loop-e-preserved c = subst (λ xs. Has c.args.set.now c.add.new.self xs) (sym (take_more c.args.events.now c.loop-e.e-index 0 c.loop-e-test.true)) (has_more _ _ _ _ _ c.loop-e.invariant c.in_ok-add.ensures)
