-- Event by event.
use Rattle.std.proofs.Common.{sym, subst, ◌∙◌}
use Rattle.std.specs.Prelude.{slice_get}
use Rattle.std.proofs.lemmas.Bool.{false≢true}
use Rattle.std.proofs.lemmas.List.{take_more}
use Rattle.ooo_code.specs.Sound.{IsOwn}
use Rattle.ooo_conflicts.proofs.SetLemmas.{HasThose, those_more, those_other}
use Rattle.ooo_conflicts.proofs.called.own_of.Goals as goal
use Rattle.ooo_conflicts.proofs.called.own_of.Goals.{then-is_own+in_ok-add, else-is_own}

pub loop-e-preserved : goal.loop-e-preserved
loop-e-preserved c =
    let more = take_more c.args.called.now c.loop-e.e-index 0 c.loop-e-test.true in
    let own = rw c.at.ensures at c.is_own.ensures in
    elim c.if-is_own.branch [
      | then-is_own+in_ok-add w ↦
          rw w.own-is (subst (λ xs. HasThose (λ e. IsOwn (slice_get c.args.events.now e)) xs w.add.new.self) (sym more) (those_more _ _ _ _ _ c.loop-e.invariant (own.0 w.if-is_own.true) w.in_ok-add.ensures))
      | else-is_own w ↦
          rw w.own-is (subst (λ xs. HasThose (λ e. IsOwn (slice_get c.args.events.now e)) xs c.loop-e.own) (sym more) (those_other _ _ _ _ c.loop-e.invariant (λ h. false≢true (sym w.if-is_own.false ∙ own.1 h))))
    ]
