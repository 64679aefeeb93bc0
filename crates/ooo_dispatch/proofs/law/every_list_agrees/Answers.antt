use Rattle.ooo_schedules.specs.Model.{empty}
use Rattle.ooo_dispatch.specs.Least.{rules_of}
use Rattle.ooo_dispatch.specs.Steps.{nothing_done, replayed}
use Rattle.ooo_dispatch.proofs.Allowed.{are_rules, lawful_lists}
use Rattle.ooo_dispatch.proofs.law.every_list_agrees.Goals as goal

pub returns-clause-agrees : goal.returns-clause-agrees
returns-clause-agrees c = λ design limits t result ready is steps h.
    c.every_board_agrees.ensures (rules_of design limits t) result
    (replayed (rules_of design limits t) (nothing_done (rules_of design limits t)) steps).board (are_rules design limits t ready.tables) ready.sound ready.deltas is
    (lawful_lists design limits t ready.tables ready.stop (nothing_done (rules_of design limits t)) steps empty h)

pub returns-clause-reads : goal.returns-clause-reads
returns-clause-reads c = λ design limits t result ready is steps h.
    c.every_job_reads.ensures (rules_of design limits t) result
    (replayed (rules_of design limits t) (nothing_done (rules_of design limits t)) steps).board (are_rules design limits t ready.tables) ready.sound ready.deltas is
    (lawful_lists design limits t ready.tables ready.stop (nothing_done (rules_of design limits t)) steps empty h)

pub returns-clause-reports : goal.returns-clause-reports
returns-clause-reports c = λ design limits t result ready is steps h over.
    c.every_board_reports.ensures (rules_of design limits t) result
    (replayed (rules_of design limits t) (nothing_done (rules_of design limits t)) steps).board (are_rules design limits t ready.tables) ready.sound ready.deltas is
    (lawful_lists design limits t ready.tables ready.stop (nothing_done (rules_of design limits t)) steps empty h) over
