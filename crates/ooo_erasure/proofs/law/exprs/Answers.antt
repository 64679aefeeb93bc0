use Rattle.ooo_erasure.proofs.Exprs.{expr_same, exprs_same, right_same}
use Rattle.ooo_erasure.proofs.law.exprs.Goals as goal

pub returns : goal.returns
returns c = record { expr = expr_same; exprs = exprs_same; right = right_same }
