use Rattle.std.proofs.Common.{subst, sym}
use Rattle.ooo_sim.specs.Boards.{IsRunError}
use Rattle.ooo_sim.proofs.Boards.{all_driven, all_tellable, fresh_is_quiet, no_memory}
use Rattle.ooo_sim.proofs.workers.driven.Goals as goal

pub drive_board-requires-clause-board : goal.drive_board-requires-clause-board
drive_board-requires-clause-board g c = λ κs more. fresh_is_quiet _ _ _ c.in_ok-started.ensures.started.fresh

pub returns-clause-driven : goal.returns-clause-driven
returns-clause-driven g c =
    all_driven c.args.options c.args.text.now c.in_ok-started.started c.in-Ok.made c.in_ok-started.ensures.started c.in-Ok.ensures.begins
    c.once_over.result c.once_over.ensures.same c.once_over.ensures.over

pub returns-clause-ready : goal.returns-clause-ready
returns-clause-ready g c =
    all_tellable c.in_ok-started.started c.in-Ok.made c.in_ok-started.ensures.ready c.in-Ok.ensures.begins c.once_over.result
    c.once_over.ensures.same c.once_over.ensures.over

pub returns-clause-refused : goal.returns-clause-refused
returns-clause-refused g c = no_memory c.args.options c.args.text.now c.once_over.result c.once_over.ensures.memory

pub returns-in-Err-clause-refused : goal.returns-in-Err-clause-refused
returns-in-Err-clause-refused g c = subst (IsRunError c.args.options c.args.text.now) (sym c.in-Err.ensures.memory) tt
