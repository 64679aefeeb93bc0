-- What stands at the place is what is listed.
use Rattle.std.proofs.Common.{◌≡◌, Some, ap, sym, ◌∙◌}
use Rattle.ooo_interp.specs.Carrying.{Carried}
use Rattle.ooo_interp.proofs.Listed.{stands_listed}
use Rattle.ooo_interp.proofs.job_parts.cells_in.Goals as goal

pub returns-in-Some : goal.returns-in-Some
returns-in-Some c =
    let listed_there = stands_listed c.args.carried.now c.args.variable c.in-Some.at c.index-carried-at.result c.requires c.in-Some.ensures c.index-carried-at.is in
    let whole : c.as_slice.result.now ≡ c.index-carried-at.result.1 = c.as_slice.ensures ∙ ap (λ (z : Carried). z.1) (sym c.index-carried-at.is) in
    listed_there ∙ ap Some (sym whole)
