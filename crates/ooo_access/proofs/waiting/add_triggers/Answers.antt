-- Node by node.
use Rattle.std.proofs.Common.{◌≡◌, refl, sym, ap, ◌∙◌, subst}
use Rattle.ooo_access.specs.Told.{triggers_of, triggers_at}
use Rattle.ooo_access.proofs.NumberLemmas.{Has, has_none, has_more}
use Rattle.ooo_access.proofs.Tellings.{triggers_more}
use Rattle.ooo_access.proofs.waiting.add_triggers.Goals as goal

pub loop-n-init : goal.loop-n-init
unfolding triggers_of
loop-n-init c = has_none c.args.waited.now

pub loop-n-preserved : goal.loop-n-preserved
loop-n-preserved c =
    let e = triggers_more c.args.design.now c.args.nodes.now c.loop-n.n-index _ c.loop-n-test.true refl in
    subst (λ xs. Has c.args.waited.now c.add_triggers_at.new.waited xs) (sym e) (has_more _ _ _ _ _ c.loop-n.invariant c.in_ok-add_triggers_at.ensures)
