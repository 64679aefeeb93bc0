-- The front of least place may run, and it comes before all others.
use Rattle.ooo_dispatch.specs.Least.{rules_of}
use Rattle.ooo_dispatch.specs.Steps.{nothing_done, replayed}
use Rattle.ooo_fronts.proofs.Choosing.{picks_least}
use Rattle.ooo_fronts.proofs.law.least_is_picked.Goals as goal

pub returns : goal.returns
returns c = λ design limits t ready steps h.
    let r = rules_of design limits t in
    let s = replayed r (nothing_done r) steps in
    picks_least r t.advance s (c.no_dead_end.ensures design limits t ready steps h)
