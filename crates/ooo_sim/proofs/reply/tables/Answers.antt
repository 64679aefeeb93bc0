-- The processes have names.
use Rattle.ooo_sim.proofs.Reports.{processes_named}
use Rattle.ooo_sim.proofs.reply.tables.Goals as goal

pub text-requires-clause-named : goal.text-requires-clause-named
text-requires-clause-named c = rw c.as_slice-names.ensures (processes_named c.args.accepted.now c.requires)
