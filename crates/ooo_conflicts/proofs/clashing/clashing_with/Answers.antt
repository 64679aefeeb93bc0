-- Segment by segment.
use Rattle.std.proofs.Common.{◌≡◌, ◌∙◌, length, ap, sym, true, arith}
use Rattle.std.proofs.lemmas.Bool.{false≢true}
use Rattle.ooo_conflicts.specs.declared.kind.ClashKind.{ClashKind}
use Rattle.ooo_conflicts.specs.Kinds.{is_clash}
use Rattle.ooo_conflicts.proofs.ClashingLemmas.{before_all, before_one, before_other, row_kind}
use Rattle.ooo_conflicts.proofs.clashing.clashing_with.Goals as goal
use Rattle.ooo_conflicts.proofs.clashing.clashing_with.Goals.{then-holds+in_ok-push, else-holds}

pub loop-b-preserved : goal.loop-b-preserved
loop-b-preserved c =
    let kind = row_kind c.args.rows.now c.loop-b.b c.args.g _ _ c.loop-b-test.true c.index-rows-b.is c.as_slice.ensures in
    let holds = c.holds.ensures ∙ ap (λ (k : ClashKind). is_clash k true) kind in
    elim c.if-holds.branch [
      | then-holds+in_ok-push w ↦ rw (w.clashing-is, w.in_ok-push.ensures.ok) (before_one _ _ _ _ c.loop-b.invariant (sym holds ∙ w.if-holds.true))
      | else-holds w ↦ rw w.clashing-is (before_other _ _ _ _ c.loop-b.invariant (λ t. false≢true (sym w.if-holds.false ∙ holds ∙ t)))
    ]

pub returns : goal.returns
returns c =
    let end : c.loop-b.b ≡ length c.args.rows.now = let a = c.loop-b-test.false in let b = c.loop-b.auto.b-end in omega arith in
    before_all _ _ _ _ end c.loop-b.invariant
