use Rattle.std.proofs.Common.{subst}
use Rattle.std.specs.BTreeSet.{contains}
use Rattle.ooo_plain.specs.Agenda.{due_cmp}
use Rattle.ooo_plain.specs.Deltas.{stands_among}
use Rattle.ooo_plain.specs.DueQueue.{is_in}
use Rattle.ooo_plain.specs.Row.{IsFirstOf}
use Rattle.ooo_plain.proofs.Rows.{first_of_both}
use Rattle.ooo_plain.proofs.due_queue.DueQueue.first.Goals as goal

pub returns : goal.returns
returns c = subst (λ l. IsFirstOf (is_in l) c.lower.result) c.self.view_is
    (first_of_both (stands_among c.self.inside.rows) (contains due_cmp c.self.inside.others) c.first.result c.first_of.result c.lower.result c.first.ensures c.first_of.ensures c.lower.ensures)
