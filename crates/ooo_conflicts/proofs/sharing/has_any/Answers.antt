-- Number by number.
use Rattle.std.proofs.Common.{sym, ◌∙◌}
use Rattle.std.proofs.lemmas.List.{take_more, take_all}
use Rattle.std.proofs.lemmas.Bool.{false≢true}
use Rattle.ooo_conflicts.proofs.SetLemmas.{share_more}
use Rattle.ooo_conflicts.proofs.sharing.has_any.Goals as goal

pub loop-n-preserved : goal.loop-n-preserved
loop-n-preserved c =
    let more = take_more c.args.numbers.now c.loop-n.n-index 0 c.loop-n-test.true in
    λ s. share_more _ _ _ c.loop-n.invariant (λ h. false≢true (sym c.if-has_number.false ∙ c.has_number.ensures.1 h)) (rw more at s)

pub returns : goal.returns
returns c =
    let all = take_all _ _ c.loop-n-test.false in
    let out = rw all at c.loop-n.invariant in
    (λ e. absurd (false≢true e), λ s. absurd (out s))
