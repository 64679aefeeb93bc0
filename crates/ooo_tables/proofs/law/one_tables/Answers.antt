use Rattle.ooo_tables.proofs.OneLemmas.{same_tables}
use Rattle.ooo_tables.proofs.law.one_tables.Goals as goal

pub returns : goal.returns
returns c = same_tables
