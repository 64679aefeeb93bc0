-- The segment's nodes are those of the definition.
use Rattle.std.proofs.Common.{◌≡◌, sym, ap, ◌∙◌, Some}
use Rattle.std.specs.Prelude.{slice_get}
use Rattle.ooo_code.specs.declared.design.Proc.{Proc}
use Rattle.ooo_access.proofs.Gathered.{access_is}
use Rattle.ooo_access.proofs.gathering.sets.Goals as goal

pub returns-in_ok-gather-in-Some-clause-exact : goal.returns-in_ok-gather-in-Some-clause-exact
returns-in_ok-gather-in-Some-clause-exact c =
    let is : slice_get c.args.design.now.processes c.args.segment.now.process ≡ Some c.in-Some.process.now =
    ap (λ ps. slice_get ps c.args.segment.now.process) (sym c.as_slice.ensures) ∙ sym c.in-Some.ensures in
    rw is (access_is c.args.design.now c.in-Some.process.now c.args.segment.now _ (rw is at c.requires) c.in_ok-gather-in-Some.ensures.exact)
