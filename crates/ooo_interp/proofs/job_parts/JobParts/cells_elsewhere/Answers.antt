-- It stands in one of the lists, or has no elements.
use Rattle.std.proofs.Common.{sym, ap, [], ◌∙◌, arith}
use Rattle.std.specs.Prelude.{unwrap_or}
use Rattle.ooo_interp.specs.Carrying.{listed}
use Rattle.ooo_interp.proofs.Placed.{cells_below, cells_past}
use Rattle.ooo_interp.proofs.job_parts.JobParts.cells_elsewhere.Goals as goal

pub returns-then-variable-self : goal.returns-then-variable-self
returns-then-variable-self c = sym (cells_past c.args.self.now.count c.args.self.now.owned.items c.args.self.now.copied.items c.args.variable c.if-variable-self.true)

pub returns : goal.returns
returns c =
    c.cells_in_either.ensures
    ∙ ap (λ xs. unwrap_or (listed xs c.args.variable) (unwrap_or (listed c.deref-2.result.now c.args.variable) [])) c.deref.ensures.value
    ∙ ap (λ xs. unwrap_or (listed c.args.self.now.owned.items c.args.variable) (unwrap_or (listed xs c.args.variable) [])) c.deref-2.ensures.value
    ∙ sym (cells_below c.args.self.now.count c.args.self.now.owned.items c.args.self.now.copied.items c.args.variable (omega arith))
