use Rattle.std.proofs.Common.{subst}
use Rattle.ooo_plain.specs.Row.{IsLowest, stands_in}
use Rattle.ooo_plain.proofs.Exact.{due_at}
use Rattle.ooo_plain.proofs.Rows.{first_stands}
use Rattle.ooo_plain.proofs.row.Row.first.Goals as goal

pub returns : goal.returns
returns c =
    let x = c.in_ok-process.field-0.now in
    subst (λ r. IsLowest (stands_in r) (due_at c.self.inside.stamp x)) c.self.view_is
    (first_stands c.self.inside.stamp c.self.inside.processes.items x c.self.invariant c.in_ok-process.ensures.item.3.0 c.in_ok-process.ensures.lookup)
