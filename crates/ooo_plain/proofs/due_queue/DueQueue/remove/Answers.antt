use Rattle.std.proofs.Common.{◌||◌, sym, subst, ◌∙◌}
use Rattle.std.specs.BTreeSet.{contains}
use Rattle.ooo_plain.specs.Agenda.{due_cmp}
use Rattle.ooo_plain.specs.Row.{Loses}
use Rattle.ooo_plain.specs.Deltas.{stands_among}
use Rattle.ooo_plain.specs.DueQueue.{is_in}
use Rattle.ooo_plain.proofs.Rows.{apart_less, apart_loses, loses_both, loses_left}
use Rattle.ooo_plain.proofs.due_queue.DueQueue.remove.Goals as goal

pub invariant_of-self : goal.invariant_of-self
invariant_of-self c = apart_less c.args.due (stands_among c.self.inside.rows) (contains due_cmp c.self.inside.others) (stands_among c.remove.new.self) c.remove.ensures.left c.self.invariant

pub returns-then-remove : goal.returns-then-remove
returns-then-remove c =
    subst (λ l. Loses c.args.due (is_in l) (λ q. stands_among c.remove.new.self q || contains due_cmp c.self.inside.others q)) c.self.view_is
    (loses_left c.args.due (stands_among c.self.inside.rows) (contains due_cmp c.self.inside.others) (stands_among c.remove.new.self) c.remove.ensures.left (sym c.remove.ensures.stood ∙ c.if-remove.true) c.self.invariant)

pub invariant_of-self-2 : goal.invariant_of-self-2
invariant_of-self-2 c =
    apart_loses c.args.due (stands_among c.self.inside.rows) (contains due_cmp c.self.inside.others) (stands_among c.remove.new.self) (contains due_cmp c.remove-2.new.self) c.remove.ensures.left c.remove-2.ensures.updates.0 c.self.invariant

pub returns : goal.returns
returns c =
    subst (λ l. Loses c.args.due (is_in l) (λ q. stands_among c.remove.new.self q || contains due_cmp c.remove-2.new.self q)) c.self.view_is
    (loses_both c.args.due (stands_among c.self.inside.rows) (contains due_cmp c.self.inside.others) (stands_among c.remove.new.self) (contains due_cmp c.remove-2.new.self) c.remove.ensures.left c.remove-2.ensures.updates.0)
