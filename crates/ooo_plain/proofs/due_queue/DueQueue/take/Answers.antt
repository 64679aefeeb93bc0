use Rattle.std.proofs.Common.{◌≡◌, ◌||◌, false, sym, subst, ◌∙◌}
use Rattle.std.specs.BTreeSet.{contains}
use Rattle.ooo_plain.specs.Agenda.{due_cmp}
use Rattle.ooo_plain.specs.Row.{IsLowest, Loses}
use Rattle.ooo_plain.specs.Deltas.{stands_among}
use Rattle.ooo_plain.specs.DueQueue.{is_in}
use Rattle.ooo_plain.proofs.Rows.{apart_less, apart_loses, first_right, loses_both, loses_left, loses_popped}
use Rattle.ooo_plain.proofs.due_queue.DueQueue.take.Goals as goal

pub invariant_of-self : goal.invariant_of-self
invariant_of-self c = apart_less c.args.first (stands_among c.self.inside.rows) (contains due_cmp c.self.inside.others) (stands_among c.remove.new.self) c.remove.ensures.left c.self.invariant

pub returns-then-remove : goal.returns-then-remove
returns-then-remove c =
    subst (λ l. Loses c.args.first (is_in l) (λ q. stands_among c.remove.new.self q || contains due_cmp c.self.inside.others q)) c.self.view_is
    (loses_left c.args.first (stands_among c.self.inside.rows) (contains due_cmp c.self.inside.others) (stands_among c.remove.new.self) c.remove.ensures.left (sym c.remove.ensures.stood ∙ c.if-remove.true) c.self.invariant)

pub invariant_of-self-2 : goal.invariant_of-self-2
invariant_of-self-2 c =
    let none : stands_among c.self.inside.rows c.args.first ≡ false = sym c.remove.ensures.stood ∙ c.if-remove.false in
    let first : IsLowest (λ q. stands_among c.self.inside.rows q || contains due_cmp c.self.inside.others q) c.args.first = subst (λ l. IsLowest (is_in l) c.args.first) (sym c.self.view_is) c.requires in
    let popped : Loses c.args.first (contains due_cmp c.self.inside.others) (contains due_cmp c.pop_first.new.self) =
    loses_popped c.self.inside.others c.pop_first.new.self c.args.first c.pop_first.result c.pop_first.ensures.variant c.pop_first.ensures.member c.pop_first.ensures.least c.pop_first.ensures.updates
    (first_right (stands_among c.self.inside.rows) (contains due_cmp c.self.inside.others) c.args.first none first) in
    apart_loses c.args.first (stands_among c.self.inside.rows) (contains due_cmp c.self.inside.others) (stands_among c.remove.new.self) (contains due_cmp c.pop_first.new.self) c.remove.ensures.left popped c.self.invariant

pub returns : goal.returns
returns c =
    let none : stands_among c.self.inside.rows c.args.first ≡ false = sym c.remove.ensures.stood ∙ c.if-remove.false in
    let first : IsLowest (λ q. stands_among c.self.inside.rows q || contains due_cmp c.self.inside.others q) c.args.first = subst (λ l. IsLowest (is_in l) c.args.first) (sym c.self.view_is) c.requires in
    let popped : Loses c.args.first (contains due_cmp c.self.inside.others) (contains due_cmp c.pop_first.new.self) =
    loses_popped c.self.inside.others c.pop_first.new.self c.args.first c.pop_first.result c.pop_first.ensures.variant c.pop_first.ensures.member c.pop_first.ensures.least c.pop_first.ensures.updates
    (first_right (stands_among c.self.inside.rows) (contains due_cmp c.self.inside.others) c.args.first none first) in
    subst (λ l. Loses c.args.first (is_in l) (λ q. stands_among c.remove.new.self q || contains due_cmp c.pop_first.new.self q)) c.self.view_is
    (loses_both c.args.first (stands_among c.self.inside.rows) (contains due_cmp c.self.inside.others) (stands_among c.remove.new.self) (contains due_cmp c.pop_first.new.self) c.remove.ensures.left popped)
