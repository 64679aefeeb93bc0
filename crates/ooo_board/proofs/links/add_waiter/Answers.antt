use Rattle.std.proofs.Common.{get_or, subst, sym, take}
use Rattle.std.proofs.lemmas.List.{take_more}
use Rattle.ooo_board.specs.Links.{Adds}
use Rattle.ooo_board.proofs.Looking.{adds_more}
use Rattle.ooo_board.proofs.links.add_waiter.Goals as goal

pub loop-e-preserved : goal.loop-e-preserved
loop-e-preserved c =
    let events = c.args.events.now in
    let i = c.loop-e.e-index in
    subst (λ xs. Adds xs c.args.p c.args.waiters.now.items c.add_once.new.lists.items) (sym (take_more events i 0 c.loop-e-test.true))
    (adds_more (take i events) (get_or events i 0) c.args.p c.args.waiters.now.items c.loop-e.waiters.items c.add_once.new.lists.items c.loop-e.invariant c.in_ok-add_once.ensures)
