-- What is told is what the nodes touch.
use Rattle.std.proofs.Common.{ap, ◌∙◌}
use Rattle.std.specs.Prelude.{Contains}
use Rattle.std.proofs.lemmas.Result.{IfOk-weaker}
use Rattle.ooo_access.specs.Access.{AreThose}
use Rattle.ooo_access.specs.Told.{all_meant, touched_of, entry_waits}
use Rattle.ooo_access.proofs.Gathered.{same_lists}
use Rattle.ooo_access.proofs.gathering.gather.Goals as goal

pub returns-clause-exact : goal.returns-clause-exact
returns-clause-exact c =
    let design = c.args.design.now in
    let same = ap (λ es. all_meant es c.as_slice-2.result.now) c.as_slice.ensures ∙ (ap (λ ts. all_meant design.events ts) c.as_slice-2.ensures.value ∙ (c.in_ok-told.ensures ∙ ap (λ ns. touched_of design ns) c.as_slice-nodes.ensures)) in
    let waits : AreThose (Contains (entry_waits design c.args.process.now c.args.segment.now.nodes c.args.segment.now.entry)) c.in-Ok.made = rw (← c.as_slice-nodes.ensures) c.in-Ok.ensures.members in
    IfOk-weaker _ _ _ (λ a lists. same_lists _ _ _ _ a same waits lists) c.lists_of.ensures.exact
