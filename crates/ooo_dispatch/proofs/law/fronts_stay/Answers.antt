use Rattle.ooo_dispatch.specs.Least.{rules_of}
use Rattle.ooo_dispatch.specs.Steps.{nothing_done, replayed}
use Rattle.ooo_dispatch.proofs.Untouched.{fronts_stay}
use Rattle.ooo_dispatch.proofs.law.fronts_stay.Goals as goal

pub returns : goal.returns
returns c = λ design limits t ready steps h.
    fronts_stay (rules_of design limits t) t.advance (replayed (rules_of design limits t) (nothing_done (rules_of design limits t)) steps)
