use Rattle.std.specs.BTreeSet.{contains}
use Rattle.ooo_plain.specs.Agenda.{due_cmp}
use Rattle.ooo_plain.proofs.Exact.{lowest_of}
use Rattle.ooo_plain.proofs.due_queue.first_of.Goals as goal

pub returns : goal.returns
returns c = lowest_of (contains due_cmp c.args.others.now) c.in_ok-first.field-0.now c.in_ok-first.ensures.member c.in_ok-first.ensures.least
