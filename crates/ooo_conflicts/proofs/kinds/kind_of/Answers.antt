-- By the two tests.
use Rattle.std.proofs.Common.{sym, ◌∙◌}
use Rattle.std.proofs.lemmas.Bool.{false≢true}
use Rattle.ooo_conflicts.proofs.CalledLemmas.{same_kind, earlier_kind, apart_kind}
use Rattle.ooo_conflicts.proofs.kinds.kind_of.Goals as goal

pub returns-then-clashes_same : goal.returns-then-clashes_same
returns-then-clashes_same c = λ events p q. same_kind events _ _ _ _ p q (c.clashes_same.ensures.0 c.if-clashes_same.true)

pub returns-then-clashes_earlier : goal.returns-then-clashes_earlier
returns-then-clashes_earlier c = λ events p q.
    earlier_kind events _ _ _ _ p q (λ h. false≢true (sym c.if-clashes_same.false ∙ c.clashes_same.ensures.1 h)) (c.clashes_earlier.ensures.0 c.if-clashes_earlier.true)

pub returns-else-clashes_earlier : goal.returns-else-clashes_earlier
returns-else-clashes_earlier c = λ events p q.
    apart_kind events _ _ _ _ p q (λ h. false≢true (sym c.if-clashes_same.false ∙ c.clashes_same.ensures.1 h)) (λ h. false≢true (sym c.if-clashes_earlier.false ∙ c.clashes_earlier.ensures.1 h))
