use Rattle.ooo_plain.proofs.Rows.{found_in}
use Rattle.ooo_plain.proofs.row.place_of.Goals as goal

pub returns : goal.returns
returns c = rw c.ok.ensures.value (found_in c.args.processes.now.items c.args.p _ c.binary_search.result c.requires c.binary_search.ensures.bound c.binary_search.ensures.position)
