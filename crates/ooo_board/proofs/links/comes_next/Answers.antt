use Rattle.std.proofs.Common.{arith, sym}
use Rattle.ooo_board.proofs.Looking.{not_next}
use Rattle.ooo_board.proofs.links.comes_next.Goals as goal
use Rattle.ooo_board.proofs.links.comes_next.Goals.{else-at-numbers-via-then-at-numbers+else-numbers-at, else-at-numbers-via-else-at-numbers}

pub returns-clause-has : goal.returns-clause-has
returns-clause-has c =
    sym (not_next c.args.numbers.now c.args.at.now c.args.c c.requires.ascending c.requires.up_to
    (λ lt e. elim c.else-at-numbers.branch [
      | else-at-numbers-via-then-at-numbers+else-numbers-at w ↦ w.if-numbers-at.false e
      | else-at-numbers-via-else-at-numbers w ↦ absurd (omega arith)
    ]))
