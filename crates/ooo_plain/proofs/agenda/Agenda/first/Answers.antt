use Rattle.std.proofs.Common.{sym, ◌∙◌, ap}
use Rattle.ooo_plain.specs.DueQueue.{is_in}
use Rattle.ooo_meaning.specs.World.{least}
use Rattle.ooo_plain.proofs.Exact.{least_is, least_none, never_due, first_due, first_within, all_from}
use Rattle.ooo_plain.proofs.agenda.Agenda.first.Goals as goal

pub returns-in_err-first : goal.returns-in_err-first
returns-in_err-first c =
    let none = never_due c.self.inside.dues.items (is_in c.self.inside.queue) c.self.invariant c.in_err-first.ensures in
    c.from_residual.ensures ∙ sym (least_none c.self.inside.dues.items none) ∙ ap least c.self.view_is

pub returns : goal.returns
returns c =
    let k = c.in_ok-first.field-0 in
    let is = c.in_ok-first.ensures.member in
    let lowest = c.in_ok-first.ensures.lowest in
    sym (least_is c.self.inside.dues.items k.stamp k.process
    (all_from c.self.inside.dues.items (is_in c.self.inside.queue) c.self.invariant k is lowest)
    (first_due c.self.inside.dues.items (is_in c.self.inside.queue) c.self.invariant k is lowest)
    (first_within c.self.inside.dues.items (is_in c.self.inside.queue) c.self.invariant k is lowest)) ∙ ap least c.self.view_is
