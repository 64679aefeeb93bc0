-- What the ports show after the put, with the values that the job sees.
use Rattle.std.proofs.Common.{List, ap}
use Rattle.ooo_code.specs.declared.activation.Seen.{Seen}
use Rattle.ooo_code.specs.Expressions.{Sight}
use Rattle.ooo_interp.specs.Carrying.{all_cells}
use Rattle.ooo_interp.specs.Ports.{values_in}
use Rattle.ooo_interp.proofs.job_parts.JobPartsLent.put.Goals as goal

pub returns-clause-sight : goal.returns-clause-sight
returns-clause-sight c =
    ap (λ (v : List Seen). let s : Sight = record { slots = c.args.self.now.slots; variables = all_cells c.args.self.now.count c.args.self.now.owned.items c.args.self.now.copied.items; seen = v } in s)
    (c.put.ensures (values_in c.args.self.now.fifos.seen.items))
