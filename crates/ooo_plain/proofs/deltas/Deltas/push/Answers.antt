use Rattle.std.proofs.Common.{◌≡◌, false, sym, subst}
use Rattle.std.specs.Prelude.{IfOk, MatchBool, OnErr}
use Rattle.ooo_plain.specs.Row.{Gains}
use Rattle.ooo_plain.specs.Deltas.{stands_among}
use Rattle.ooo_plain.proofs.Rows.{rows_of, pushed_even, pushed_odd, apart_even, apart_odd}
use Rattle.ooo_plain.proofs.deltas.Deltas.push.Goals as goal

pub invariant_of-self : goal.invariant_of-self
invariant_of-self c =
    let none : stands_among (rows_of c.self.inside.even c.self.inside.odd) c.args.due ≡ false = subst (λ d. stands_among d c.args.due ≡ false) (sym c.self.view_is) c.requires in
    apart_even c.args.due c.self.inside.even c.self.inside.odd none c.self.invariant c.push.new.self c.push.result (c.push.ensures.done, c.push.ensures.failed)

pub returns-then-due-eq0-clause-done : goal.returns-then-due-eq0-clause-done
returns-then-due-eq0-clause-done c =
    subst (λ old. IfOk c.push.result (λ done. MatchBool done (Gains c.args.due (stands_among old) (stands_among (rows_of c.push.new.self c.self.inside.odd))) (rows_of c.push.new.self c.self.inside.odd ≡ old))) c.self.view_is
    (pushed_even c.args.due c.self.inside.even c.self.inside.odd c.push.new.self c.push.result (c.push.ensures.done, c.push.ensures.failed)).0

pub invariant_of-self-2 : goal.invariant_of-self-2
invariant_of-self-2 c =
    let none : stands_among (rows_of c.self.inside.even c.self.inside.odd) c.args.due ≡ false = subst (λ d. stands_among d c.args.due ≡ false) (sym c.self.view_is) c.requires in
    apart_odd c.args.due c.self.inside.even c.self.inside.odd none c.self.invariant c.push-2.new.self c.push-2.result (c.push-2.ensures.done, c.push-2.ensures.failed)

pub returns-clause-done : goal.returns-clause-done
returns-clause-done c =
    subst (λ old. IfOk c.push-2.result (λ done. MatchBool done (Gains c.args.due (stands_among old) (stands_among (rows_of c.self.inside.even c.push-2.new.self))) (rows_of c.self.inside.even c.push-2.new.self ≡ old))) c.self.view_is
    (pushed_odd c.args.due c.self.inside.even c.self.inside.odd c.push-2.new.self c.push-2.result (c.push-2.ensures.done, c.push-2.ensures.failed)).0

pub returns-then-due-eq0-clause-failed : goal.returns-then-due-eq0-clause-failed
returns-then-due-eq0-clause-failed c =
    subst (λ old. OnErr c.push.result (rows_of c.push.new.self c.self.inside.odd ≡ old)) c.self.view_is
    (pushed_even c.args.due c.self.inside.even c.self.inside.odd c.push.new.self c.push.result (c.push.ensures.done, c.push.ensures.failed)).1

pub returns-clause-failed : goal.returns-clause-failed
returns-clause-failed c =
    subst (λ old. OnErr c.push-2.result (rows_of c.self.inside.even c.push-2.new.self ≡ old)) c.self.view_is
    (pushed_odd c.args.due c.self.inside.even c.self.inside.odd c.push-2.new.self c.push-2.result (c.push-2.ensures.done, c.push-2.ensures.failed)).1
