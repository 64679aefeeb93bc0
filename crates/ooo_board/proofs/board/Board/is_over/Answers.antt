-- No process runs, and no front is below the cut.
use Rattle.std.proofs.Common.{◌≡◌, arith, subst, sym, ◌∙◌}
use Rattle.std.proofs.lemmas.Bool.{eqb-true, eqb-false}
use Rattle.ooo_board.specs.Boards.{rules, some_of, state}
use Rattle.ooo_board.proofs.Chosen.{out_within}
use Rattle.ooo_board.proofs.Steps.{IsKept, few, is_some_of, none_of}
use Rattle.ooo_board.proofs.States.{quiet, still}
use Rattle.ooo_board.proofs.board.Board.is_over.Goals as goal
use Rattle.ooo_board.proofs.board.Board.is_over.Goals.{then-not-self, else-not-self}

pub is_over-requires : goal.is_over-requires
is_over-requires c =
    let has = subst (λ x. IsKept x c.self.inside.core) c.self.view_is c.self.invariant.has in
    let n = few c.args.self.now c.self.inside.core has in
    let m = c.choice.ensures.fronts in
    omega (arith, n, m)

pub returns-then-self-eq0 : goal.returns-then-self-eq0
returns-then-self-eq0 c =
    let b = c.args.self.now in
    let has = subst (λ x. IsKept x c.self.inside.core) c.self.view_is c.self.invariant.has in
    let lost = subst (λ x. c.self.inside.lost ≡ some_of (state x).abandoned) c.self.view_is c.self.invariant.is_lost in
    elim c.if-not-self.branch [
      | then-not-self w ↦
          let none = none_of (state b).abandoned (sym lost ∙ w.if-not-self.true) in
          let zero_run = eqb-true c.self.inside.running 0 (sym w.value-is ∙ c.if-self-eq0.true) in
          let out = quiet (rules b) (state b) c.self.inside.core.states.items has.core.has_states none (out_within b c.self.inside.core has c.laws.ensures) (sym c.self.invariant.counted ∙ zero_run) in
          let over = c.is_over.ensures.over (rules b) b.tables.advance (state b).board c.choice.ensures.of out in
          (λ t. ((λ x. x none), over.0 t), λ h. over.1 h.1)
      | else-not-self w ↦ absurd cc
    ]

pub returns-else-self-eq0 : goal.returns-else-self-eq0
returns-else-self-eq0 c =
    let b = c.args.self.now in
    let has = subst (λ x. IsKept x c.self.inside.core) c.self.view_is c.self.invariant.has in
    let lost = subst (λ x. c.self.inside.lost ≡ some_of (state x).abandoned) c.self.view_is c.self.invariant.is_lost in (
      λ t. absurd cc,
      λ h. elim c.if-not-self.branch [
        | then-not-self w ↦
            let none = c.self.invariant.counted ∙ still (rules b) (state b) c.self.inside.core.states.items has.core.has_states h.1.quiet in
            absurd (eqb-false c.self.inside.running 0 (sym w.value-is ∙ c.if-self-eq0.false) none)
        | else-not-self w ↦ absurd (h.0 (is_some_of (state b).abandoned (sym lost ∙ w.if-not-self.false)))
      ],
    )
