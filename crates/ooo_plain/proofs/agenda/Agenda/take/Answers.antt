use Rattle.std.proofs.Common.{◌≡◌, sym, ◌∙◌, None, Some, ap, subst, refl, set, true, false}
use Rattle.ooo_plain.specs.DueQueue.{is_in}
use Rattle.ooo_plain.specs.Agenda.{AllFrom, TakesNone, Takes}
use Rattle.ooo_plain.specs.Agenda.{due_in}
use Rattle.ooo_plain.proofs.Exact.{exact_removed, takes_none, never_due, first_takes, first_due, first_within}
use Rattle.ooo_plain.proofs.agenda.Agenda.take.Goals as goal

pub returns-in_err-first-clause-none : goal.returns-in_err-first-clause-none
returns-in_err-first-clause-none c = rw (c.from_residual.ensures) (record {
  none = λ p e. let none = never_due c.self.inside.dues.items (is_in c.self.inside.queue) c.self.invariant c.in_err-first.ensures p in let f : None ≡ Some c.args.now = sym none ∙ ap (λ xs. due_in xs p) c.self.view_is ∙ e in absurd cc;
  same = refl;
})

pub returns-then-is_before-clause-none : goal.returns-then-is_before-clause-none
returns-then-is_before-clause-none c =
    let k = c.in_ok-first.first in
    subst (λ xs. TakesNone c.args.now xs xs) c.self.view_is
    (takes_none c.self.inside.dues.items (is_in c.self.inside.queue) c.self.invariant k c.in_ok-first.ensures.member c.in_ok-first.ensures.lowest c.args.now (c.if-is_before.ensures.0 refl))

pub invariant_of-self : goal.invariant_of-self
invariant_of-self c =
    let k = c.in_ok-first.first in
    let is = c.in_ok-first.ensures.member in
    let lowest = c.in_ok-first.ensures.lowest in
    exact_removed c.self.inside.dues.items k.process k.stamp
    (first_within c.self.inside.dues.items (is_in c.self.inside.queue) c.self.invariant k is lowest)
    (is_in c.self.inside.queue) (is_in c.take.new.self) c.self.invariant
    (first_due c.self.inside.dues.items (is_in c.self.inside.queue) c.self.invariant k is lowest) c.take.ensures

pub returns-clause-taken : goal.returns-clause-taken
returns-clause-taken c =
    let k = c.in_ok-first.first in
    let items : c.self.inside.dues.items ≡ c.args.self.now = c.self.view_is in
    subst (λ xs. Takes k.process c.args.now xs (set c.self.inside.dues.items k.process None)) items
    (first_takes c.self.inside.dues.items (is_in c.self.inside.queue) c.self.invariant k c.in_ok-first.ensures.member c.in_ok-first.ensures.lowest c.args.now (set c.self.inside.dues.items k.process None)
    (subst (AllFrom c.args.now) (sym items) c.requires) (λ lt. let e : false ≡ true = c.if-is_before.ensures.1 lt in absurd cc) refl)
