-- The elements that are carried of a variable stand in its place.
use Rattle.std.proofs.Common.{◌≡◌, Some, sym, ap, [], ◌∙◌, arith}
use Rattle.std.specs.Prelude.{is_some, unwrap_or}
use Rattle.ooo_interp.specs.Carrying.{listed}
use Rattle.ooo_interp.proofs.Listed.{listed_below, stands_in_order, stands_listed}
use Rattle.ooo_interp.proofs.Placed.{cells_below}
use Rattle.ooo_interp.proofs.job_parts.JobPartsLent.cells.Goals as goal

pub returns-then-at-self : goal.returns-then-at-self
returns-then-at-self c =
    let stands = stands_in_order c.args.self.now.owned.items c.args.self.now.first c.args.self.now.in_order c.args.variable c.args.self.now.owned_in_order (omega (arith, c.ranges.variable)) c.if-at-self.true in
    let there : listed c.args.self.now.owned.items c.args.variable ≡ Some c.index.result.now.1 = stands_listed c.args.self.now.owned.items c.args.variable _ c.index.result.now c.args.self.now.owned_ascending stands c.index.ensures in
    let lt = listed_below c.args.self.now.owned.items c.args.variable c.args.self.now.count c.args.self.now.owned_below (ap is_some there) in
    c.as_slice.ensures ∙ sym (cells_below c.args.self.now.count c.args.self.now.owned.items c.args.self.now.copied.items c.args.variable lt ∙ ap (λ o. unwrap_or o (unwrap_or (listed c.args.self.now.copied.items c.args.variable) [])) there)
