use Rattle.std.proofs.Common.{◌≡◌, ◌||◌, false, sym, subst}
use Rattle.std.specs.BTreeSet.{contains}
use Rattle.ooo_plain.specs.Agenda.{due_cmp}
use Rattle.ooo_plain.specs.Row.{AreApart, Gains}
use Rattle.ooo_plain.specs.Deltas.{stands_among}
use Rattle.ooo_plain.specs.DueQueue.{is_in}
use Rattle.ooo_plain.proofs.Rows.{apart_left, apart_right, gains_left, gains_right, neither_part}
use Rattle.ooo_plain.proofs.due_queue.DueQueue.insert.Goals as goal

pub invariant_of-self-then-branch : goal.invariant_of-self-then-branch
invariant_of-self-then-branch c =
    let none : (stands_among c.self.inside.rows c.args.due || contains due_cmp c.self.inside.others c.args.due) ≡ false = subst (λ l. is_in l c.args.due ≡ false) (sym c.self.view_is) c.requires in
    let gains : Gains c.args.due (stands_among c.self.inside.rows) (stands_among c.push.new.self) = rw c.if-branch.true at c.in_ok-push.ensures.done in
    apart_left c.args.due (stands_among c.self.inside.rows) (contains due_cmp c.self.inside.others) (stands_among c.push.new.self) gains (neither_part none).1 c.self.invariant

pub invariant_of-self-2 : goal.invariant_of-self-2
invariant_of-self-2 c =
    let none : (stands_among c.self.inside.rows c.args.due || contains due_cmp c.self.inside.others c.args.due) ≡ false = subst (λ l. is_in l c.args.due ≡ false) (sym c.self.view_is) c.requires in
    let same : c.push.new.self ≡ c.self.inside.rows = rw c.if-branch.false at c.in_ok-push.ensures.done in
    subst (λ rows. AreApart (stands_among rows) (contains due_cmp c.insert.new.self)) (sym same)
    (apart_right c.args.due (stands_among c.self.inside.rows) (contains due_cmp c.self.inside.others) (contains due_cmp c.insert.new.self) c.in_ok-insert.ensures.updates.0 (neither_part none).0 c.self.invariant)

pub returns-then-branch-clause-done : goal.returns-then-branch-clause-done
returns-then-branch-clause-done c =
    let gains : Gains c.args.due (stands_among c.self.inside.rows) (stands_among c.push.new.self) = rw c.if-branch.true at c.in_ok-push.ensures.done in
    subst (λ l. Gains c.args.due (is_in l) (λ q. stands_among c.push.new.self q || contains due_cmp c.self.inside.others q)) c.self.view_is
    (gains_left c.args.due (stands_among c.self.inside.rows) (contains due_cmp c.self.inside.others) (stands_among c.push.new.self) gains)

pub returns-clause-done : goal.returns-clause-done
returns-clause-done c =
    let same : c.push.new.self ≡ c.self.inside.rows = rw c.if-branch.false at c.in_ok-push.ensures.done in
    subst (λ rows. Gains c.args.due (is_in c.args.self.now) (λ q. stands_among rows q || contains due_cmp c.insert.new.self q)) (sym same)
    (subst (λ l. Gains c.args.due (is_in l) (λ q. stands_among c.self.inside.rows q || contains due_cmp c.insert.new.self q)) c.self.view_is
    (gains_right c.args.due (stands_among c.self.inside.rows) (contains due_cmp c.self.inside.others) (contains due_cmp c.insert.new.self) c.in_ok-insert.ensures.updates.0))
