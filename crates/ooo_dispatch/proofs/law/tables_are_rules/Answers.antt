use Rattle.ooo_dispatch.proofs.Allowed.{are_rules}
use Rattle.ooo_dispatch.proofs.law.tables_are_rules.Goals as goal

pub returns : goal.returns
returns c = λ design limits t are. are_rules design limits t are
