-- The static events of a method, and then its triggers.
use Rattle.ooo_access.proofs.NumberLemmas.{has_more}
use Rattle.ooo_access.proofs.waiting.add_start.Goals as goal

pub returns-in_ok-add_triggers-in-Method : goal.returns-in_ok-add_triggers-in-Method
returns-in_ok-add_triggers-in-Method c =
    rw c.in-Method.is ((has_more _ _ _ c.args.process.now.sensitive _ (record { has = rw c.as_slice-in-Method.ensures at c.in_ok-add_all-in-Method.ensures }) c.in_ok-add_triggers-in-Method.ensures).has)
