use Rattle.ooo_schedules.specs.Model.{empty}
use Rattle.ooo_dispatch.specs.Least.{rules_of}
use Rattle.ooo_dispatch.specs.Steps.{nothing_done}
use Rattle.ooo_dispatch.proofs.Allowed.{goes_on, lawful_lists}
use Rattle.ooo_dispatch.proofs.law.steps_are_lawful.Goals as goal

pub returns-clause-empty : goal.returns-clause-empty
returns-clause-empty c = λ design limits t. tt

pub returns-clause-on : goal.returns-clause-on
returns-clause-on c = λ design limits t s steps step h next. goes_on design limits t s steps step h next

pub returns-clause-leads : goal.returns-clause-leads
returns-clause-leads c = λ design limits t steps are fits h. lawful_lists design limits t are fits (nothing_done (rules_of design limits t)) steps empty h
