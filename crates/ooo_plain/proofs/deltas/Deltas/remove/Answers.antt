use Rattle.std.proofs.Common.{◌≡◌, ◌||◌, true, sym, subst, ap, ◌∙◌}
use Rattle.std.proofs.lemmas.Bool.{or_left}
use Rattle.ooo_plain.specs.Row.{Loses, stands_in}
use Rattle.ooo_plain.specs.Deltas.{stands_among}
use Rattle.ooo_plain.proofs.Rows.{apart_less, apart_loses, loses_both, loses_left, rows_of}
use Rattle.ooo_plain.proofs.deltas.Deltas.remove.Goals as goal

pub invariant_of-self : goal.invariant_of-self
invariant_of-self c = apart_less c.args.due (stands_in c.self.inside.even) (stands_in c.self.inside.odd) (stands_in c.remove.new.self) c.remove.ensures.left c.self.invariant

pub returns-then-remove-clause-stood : goal.returns-then-remove-clause-stood
returns-then-remove-clause-stood c = subst (λ d. true ≡ stands_among d c.args.due) c.self.view_is (sym (or_left _ _ (sym c.remove.ensures.stood ∙ c.if-remove.true)))

pub returns-then-remove-clause-left : goal.returns-then-remove-clause-left
returns-then-remove-clause-left c =
    subst (λ d. Loses c.args.due (stands_among d) (stands_among (rows_of c.remove.new.self c.self.inside.odd))) c.self.view_is
    (loses_left c.args.due (stands_in c.self.inside.even) (stands_in c.self.inside.odd) (stands_in c.remove.new.self) c.remove.ensures.left (sym c.remove.ensures.stood ∙ c.if-remove.true) c.self.invariant)

pub invariant_of-self-2 : goal.invariant_of-self-2
invariant_of-self-2 c =
    apart_loses c.args.due (stands_in c.self.inside.even) (stands_in c.self.inside.odd) (stands_in c.remove.new.self) (stands_in c.remove-2.new.self) c.remove.ensures.left c.remove-2.ensures.left c.self.invariant

pub returns-clause-stood : goal.returns-clause-stood
returns-clause-stood c =
    subst (λ d. c.remove-2.result ≡ stands_among d c.args.due) c.self.view_is
    (c.remove-2.ensures.stood ∙ sym (ap (λ b. b || stands_in c.self.inside.odd c.args.due) (sym c.remove.ensures.stood ∙ c.if-remove.false)))

pub returns-clause-left : goal.returns-clause-left
returns-clause-left c =
    subst (λ d. Loses c.args.due (stands_among d) (stands_among (rows_of c.remove.new.self c.remove-2.new.self))) c.self.view_is
    (loses_both c.args.due (stands_in c.self.inside.even) (stands_in c.self.inside.odd) (stands_in c.remove.new.self) (stands_in c.remove-2.new.self) c.remove.ensures.left c.remove-2.ensures.left)
