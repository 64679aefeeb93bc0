use Rattle.std.proofs.Common.{subst}
use Rattle.ooo_plain.specs.Row.{IsFirstOf, stands_in}
use Rattle.ooo_plain.specs.Deltas.{stands_among}
use Rattle.ooo_plain.proofs.Rows.{first_of_both}
use Rattle.ooo_plain.proofs.deltas.Deltas.first.Goals as goal

pub returns : goal.returns
returns c = subst (λ d. IsFirstOf (stands_among d) c.lower.result) c.self.view_is
    (first_of_both (stands_in c.self.inside.even) (stands_in c.self.inside.odd) c.first.result c.first-2.result c.lower.result c.first.ensures c.first-2.ensures c.lower.ensures)
