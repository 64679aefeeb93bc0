use Rattle.ooo_schedules.specs.Model.{empty}
use Rattle.ooo_dispatch.specs.Least.{rules_of}
use Rattle.ooo_dispatch.specs.Steps.{nothing_done, replayed}
use Rattle.ooo_dispatch.proofs.Allowed.{allowed, are_rules, lawful_lists}
use Rattle.ooo_dispatch.proofs.Sighted.{is_read}
use Rattle.ooo_dispatch.proofs.law.jobs_read_board.Goals as goal

pub returns : goal.returns
returns c = λ design limits t ready steps h p f may.
    let rules = are_rules design limits t ready.tables in
    let r = rules_of design limits t in
    let s = replayed r (nothing_done r) steps in
    is_read r rules ready.sound c.does_as_said.ensures (c.every_schedule.ensures r rules ready.sound ready.deltas) (c.tables_are_sound.ensures r rules ready.sound) s.board
    (lawful_lists design limits t ready.tables ready.stop (nothing_done r) steps empty h) p f (allowed design limits t ready.tables ready.stop s.board p f may)
