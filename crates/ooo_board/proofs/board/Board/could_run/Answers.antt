-- Each test decides a part of what a process needs.
use Rattle.std.proofs.Common.{subst, sym, ◌∙◌}
use Rattle.ooo_board.specs.Boards.{rules, state}
use Rattle.ooo_board.proofs.Chosen.{could, could_at, not_both, within_limit}
use Rattle.ooo_board.proofs.States.{found_waiting}
use Rattle.ooo_board.proofs.Steps.{IsKept}
use Rattle.ooo_board.proofs.board.Board.could_run.Goals as goal
use Rattle.ooo_board.proofs.board.Board.could_run.Goals.{then-is_waiting, else-is_waiting}

pub returns-then-is_below_limit : goal.returns-then-is_below_limit
returns-then-is_below_limit c =
    let b = c.args.self.now in
    let has = subst (λ x. IsKept x c.self.inside.core) c.self.view_is c.self.invariant.has in
    let f = c.in-Some.front in
    let own = sym c.in-Some.ensures in
    let below = c.is_below.ensures (rules b) (state b).board has.core.has_cut (c.least.ensures.board (rules b) (state b).board has.core.has_fronts) in
    let waiting = found_waiting (rules b) (state b) c.self.inside.core.states.items has.core.has_states c.args.p c.index.result.now c.requires c.index.ensures in
    elim c.if-is_waiting.branch [
      | then-is_waiting w ↦
          let idle = waiting.0 (c.is_waiting.ensures.0 w.if-is_waiting.true) in
          let limit = w.is_below_limit.ensures.0 (sym w.value-is ∙ c.if-is_below_limit.true) in
          (λ t. could b c.self.inside.core has c.args.p f own idle limit (below.0 t), λ h. below.1 (could_at b c.self.inside.core has c.args.p f own h).below_cut)
      | else-is_waiting w ↦ absurd (not_both _ c.if-is_below_limit.true (w.value-is ∙ w.if-is_waiting.false))
    ]

pub returns-else-is_below_limit : goal.returns-else-is_below_limit
returns-else-is_below_limit c =
    let b = c.args.self.now in
    let has = subst (λ x. IsKept x c.self.inside.core) c.self.view_is c.self.invariant.has in
    let f = c.in-Some.front in
    let own = sym c.in-Some.ensures in
    let waiting = found_waiting (rules b) (state b) c.self.inside.core.states.items has.core.has_states c.args.p c.index.result.now c.requires c.index.ensures in (
      λ t. absurd (not_both _ t c.if-is_below_limit.false),
      λ h. elim c.if-is_waiting.branch [
        | then-is_waiting w ↦ absurd (not_both _ (w.value-is ∙ w.is_below_limit.ensures.1 (within_limit b c.self.inside.core has c.args.p f own h)) c.if-is_below_limit.false)
        | else-is_waiting w ↦ absurd (not_both _ (c.is_waiting.ensures.1 (waiting.1 (could_at b c.self.inside.core has c.args.p f own h).idle)) w.if-is_waiting.false)
      ],
    )
