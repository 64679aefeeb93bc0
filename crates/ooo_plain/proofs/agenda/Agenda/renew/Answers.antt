use Rattle.std.proofs.Common.{◌≡◌, ◌<◌, sym, ◌∙◌, None, Some, length, ap, set}
use Rattle.std.proofs.lemmas.List.{get_or-set_same, length-set, set-set}
use Rattle.ooo_meaning.specs.World.{is_at}
use Rattle.ooo_plain.specs.DueQueue.{is_in}
use Rattle.ooo_plain.specs.Agenda.{due_in}
use Rattle.ooo_plain.proofs.Exact.{exact_added, due_at}
use Rattle.ooo_plain.proofs.agenda.Agenda.renew.Goals as goal

pub invariant_of-self-in-Some : goal.invariant_of-self-in-Some
invariant_of-self-in-Some c =
    let items : c.self.inside.dues.items ≡ set c.args.self.now c.args.p None = c.self.view_is ∙ c.clear.ensures in
    let lt : c.args.p < length c.self.inside.dues.items = rw (items, length-set c.args.self.now c.args.p None) c.requires in
    let none : due_in c.self.inside.dues.items c.args.p ≡ None = ap (λ xs. due_in xs c.args.p) items ∙ get_or-set_same c.args.self.now c.args.p None None c.requires in
    exact_added c.self.inside.dues.items c.args.p c.in-Some.stamp lt (is_in c.self.inside.queue) (is_in c.insert.new.self) c.self.invariant none c.in_ok-insert.ensures.done

pub returns-in_ok-insert : goal.returns-in_ok-insert
returns-in_ok-insert c =
    ap (λ xs. set xs c.args.p (Some c.in-Some.stamp)) (c.self.view_is ∙ c.clear.ensures) ∙ set-set c.args.self.now c.args.p None (Some c.in-Some.stamp) ∙ ap (set c.args.self.now c.args.p) (sym c.in-Some.is)

pub insert-requires : goal.insert-requires
insert-requires c =
    let items : c.self.inside.dues.items ≡ set c.args.self.now c.args.p None = c.self.view_is ∙ c.clear.ensures in
    let none : due_in c.self.inside.dues.items c.args.p ≡ None = ap (λ xs. due_in xs c.args.p) items ∙ get_or-set_same c.args.self.now c.args.p None None c.requires in
    c.self.invariant (due_at c.in-Some.stamp c.args.p) ∙ ap (is_at c.in-Some.stamp) none
