use Rattle.std.proofs.Common.{◌≡◌, ◌<◌, sym, ◌∙◌, None, Some, length}
use Rattle.std.proofs.lemmas.List.{get_or_read}
use Rattle.ooo_plain.specs.DueQueue.{is_in}
use Rattle.ooo_plain.specs.Agenda.{due_in}
use Rattle.ooo_plain.proofs.Exact.{exact_removed}
use Rattle.ooo_plain.proofs.agenda.Agenda.clear.Goals as goal

pub invariant_of-self : goal.invariant_of-self
invariant_of-self c =
    let lt : c.args.p < length c.self.inside.dues.items = rw (c.self.view_is) c.requires in
    let due : due_in c.self.inside.dues.items c.args.p ≡ Some c.in-Some.stamp = sym (get_or_read c.self.inside.dues.items c.args.p c.index.result.now lt c.index.ensures None) ∙ c.in-Some.is in
    exact_removed c.self.inside.dues.items c.args.p c.in-Some.stamp lt (is_in c.self.inside.queue) (is_in c.remove.new.self) c.self.invariant due c.remove.ensures
