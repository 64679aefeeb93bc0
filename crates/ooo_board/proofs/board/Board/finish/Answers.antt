-- What the board keeps gives the run.
use Rattle.std.proofs.Common.{subst, sym}
use Rattle.std.specs.Prelude.{IfOk}
use Rattle.std.proofs.lemmas.Result.{IfOk-weaker}
use Rattle.ooo_meaning.specs.Runs.{IsSequentialRun, Shows}
use Rattle.ooo_meaning.specs.Sequence.{Result}
use Rattle.ooo_board.specs.Boards.{IsOver}
use Rattle.ooo_board.specs.Finishing.{IsFinished}
use Rattle.ooo_board.proofs.board.Board.finish.Goals as goal

pub finish-requires-clause-over : goal.finish-requires-clause-over
finish-requires-clause-over c =
    let i = c.self.inside in
    let over = subst IsOver (sym c.self.view_is) c.requires in (
      i.limits,
      i.tables,
      i.schedule.items,
      subst (λ d. IsFinished d i.limits i.tables i.schedule.items i.core) (sym c.deref.ensures) (record { has = c.self.invariant.has; over = over.1 }),
    )

pub returns : goal.returns
returns c =
    let i = c.self.inside in
    let over = subst IsOver (sym c.self.view_is) c.requires in
    let finished : IsFinished c.deref.result.now i.limits i.tables i.schedule.items i.core =
    subst (λ d. IsFinished d i.limits i.tables i.schedule.items i.core) (sym c.deref.ensures) (record { has = c.self.invariant.has; over = over.1 }) in
    subst (λ x. IfOk c.finish.result (λ run. (found : Result) → IsSequentialRun x.design x.limits found → Shows run found)) c.self.view_is
    (IfOk-weaker c.finish.result _ _
    (λ run h found run_is. h i.limits i.tables i.schedule.items found finished (subst (λ d. IsSequentialRun d i.limits found) (sym c.deref.ensures) run_is)) c.finish.ensures)
