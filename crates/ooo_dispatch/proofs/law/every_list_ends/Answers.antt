use Rattle.std.proofs.Common.{arith, length, subst, suc, sym}
use Rattle.ooo_schedules.specs.Model.{empty}
use Rattle.ooo_dispatch.specs.Goes.{IsOverAfter}
use Rattle.ooo_dispatch.specs.Least.{rules_of}
use Rattle.ooo_dispatch.specs.Rules.{tables}
use Rattle.ooo_dispatch.specs.Steps.{nothing_done, replayed}
use Rattle.ooo_dispatch.proofs.Allowed.{are_rules, lawful_lists}
use Rattle.ooo_dispatch.proofs.Goes.{ends}
use Rattle.ooo_dispatch.proofs.law.every_list_ends.Goals as goal

pub returns : goal.returns
returns c = λ design limits t ready steps h none.
    let r = rules_of design limits t in
    let rules = are_rules design limits t ready.tables in
    let boards = c.every_board.ensures (tables r) (c.tables_are_sound.ensures r rules ready.sound) (c.processes_start.ensures r rules ready.deltas) in
    let s = replayed r (nothing_done r) steps in
    let lawful = lawful_lists design limits t ready.tables ready.stop (nothing_done r) steps empty h in
    subst (λ xs. IsOverAfter r t.advance (record { board = s.board; abandoned = xs })) (sym none)
    (ends design limits t ready (c.every_schedule.ensures r rules ready.sound ready.deltas) boards (suc (length s.board.out)) s.board lawful (omega arith))
