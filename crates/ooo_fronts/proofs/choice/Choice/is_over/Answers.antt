-- One front is below the cut, or all were asked.
use Rattle.std.proofs.Common.{⊎_elim, refl, subst, arith}
use Rattle.std.proofs.lemmas.Bool.{cases_eq, cases_lt}
use Rattle.ooo_fronts.specs.Choices.{HasFrontBelow}
use Rattle.ooo_fronts.proofs.Choosing.{front_within}
use Rattle.ooo_fronts.proofs.Leasts.{from_over, to_over}
use Rattle.ooo_fronts.proofs.choice.Choice.is_over.Goals as goal

pub returns-then-has_front_below-clause-none : goal.returns-then-has_front_below-clause-none
returns-then-has_front_below-clause-none c = λ r least b k.
    let x = (c.has_front_below.ensures r least b k (c.least-first.ensures r least b k)).0 c.if-has_front_below.true in (λ t. absurd cc, λ h. absurd (h c.loop-p.p x.0 x.1 x.2))

pub returns-then-has_front_below-clause-over : goal.returns-then-has_front_below-clause-over
returns-then-has_front_below-clause-over c = λ r least b k e.
    let x = (c.has_front_below.ensures r least b k (c.least-first.ensures r least b k)).0 c.if-has_front_below.true in
    (λ t. absurd cc, λ h. absurd (from_over r b c.least-first.result (c.least-first.ensures r least b k) h c.loop-p.p x.0 x.1 x.2))

pub loop-p-preserved : goal.loop-p-preserved
loop-p-preserved c = λ r least b k q l h.
    ⊎_elim (λ e. let y = (c.has_front_below.ensures r least b k (c.least-first.ensures r least b k)).1 (subst (HasFrontBelow r b) e h) in absurd cc)
    (λ d. c.loop-p.invariant r least b k q (⊎_elim (λ x. x) (λ x. absurd (d (omega (arith, x, l)))) (cases_lt q c.loop-p.p)) h)
    (cases_eq q c.loop-p.p)

pub returns-clause-none : goal.returns-clause-none
returns-clause-none c = λ r least b k.
    (λ t p f i w. c.loop-p.invariant r least b k p (let x = front_within r b c.args.self.now.fronts.now k.fronts p f i in omega (arith, x)) (f, i, w), λ h. refl)

pub returns-clause-over : goal.returns-clause-over
returns-clause-over c = λ r least b k e.
    (λ t. to_over r b e (λ p f i w. c.loop-p.invariant r least b k p (let x = front_within r b c.args.self.now.fronts.now k.fronts p f i in omega (arith, x)) (f, i, w)), λ h. refl)
