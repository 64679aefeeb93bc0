use Rattle.std.proofs.Common.{ap}
use Rattle.ooo_board.specs.declared.cores.Core.{Core}
use Rattle.ooo_board.proofs.Remaining.{first_forgets, forgotten_core, has_forgotten}
use Rattle.ooo_board.proofs.cores.Core.forget.Goals as goal

pub returns-in_default-just_before-clause-forgotten : goal.returns-in_default-just_before-clause-forgotten
returns-in_default-just_before-clause-forgotten c = first_forgets c.args.self.now c.in-Some.least c.in-Some.ensures.least c.in_default-just_before.ensures

pub returns-clause-kept : goal.returns-clause-kept
returns-clause-kept c = λ design limits t s h.
    let new : Core = record c.args.self.now { bank = c.forget.new.self; below = c.later-self.result } in
    forgotten_core design limits t s c.args.self.now new c.in-Some.least c.in-Some-just_before.below h
    (ap (λ at. record new { below = at }) c.later-self.ensures) c.forget.ensures.after c.in-Some.ensures.board c.in-Some-just_before.ensures.0

pub returns-clause-forgotten : goal.returns-clause-forgotten
returns-clause-forgotten c =
    let new : Core = record c.args.self.now { bank = c.forget.new.self; below = c.later-self.result } in
    has_forgotten c.args.self.now new c.in-Some.least c.in-Some-just_before.below
    (ap (λ at. record new { below = at }) c.later-self.ensures) c.in-Some.ensures.least c.in-Some-just_before.ensures
