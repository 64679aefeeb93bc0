use Rattle.ooo_fronts.proofs.Ruling.{hold_by_rule, hold_found, tables_aligned}
use Rattle.ooo_fronts.proofs.law.holds_are_of_the_rule.Goals as goal

pub returns-clause-up : goal.returns-clause-up
returns-clause-up c = hold_by_rule

pub returns-clause-found : goal.returns-clause-found
returns-clause-found c = λ design limits t fronts p q g f tables differs there own up.
    hold_found design limits t fronts p q g f (tables_aligned design t tables) differs there own up
