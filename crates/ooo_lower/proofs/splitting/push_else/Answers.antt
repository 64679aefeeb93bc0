use Rattle.std.proofs.Common.{◌≡◌, Option, Some, ◌∙◌, ap, sym}
use Rattle.std.proofs.lemmas.Result.{on_ok_weaker}
use Rattle.ooo_bound.specs.declared.stat.BoundStat.{BoundStat}
use Rattle.ooo_layout.specs.Extents.{else_shape}
use Rattle.ooo_lower.specs.Tasks.{Rest, before, left_of}
use Rattle.ooo_lower.proofs.Apart.{nothing_before}
use Rattle.ooo_lower.proofs.Left.{splits_same}
use Rattle.ooo_shapes.specs.Shapes.{callees_within}
use Rattle.ooo_lower.proofs.splitting.push_else.Goals as goal

pub returns-in-None : goal.returns-in-None
returns-in-None c =
    λ h at. rw (c.in-None.is) (nothing_before c.args.spot.around c.args.spot.next (left_of h c.args.tasks.now) at)

pub returns-in-Some : goal.returns-in-Some
returns-in-Some c =
    λ h at.
    let new = left_of h c.push.new.tasks in
    let first : Option BoundStat → Rest = λ o. before (else_shape h (callees_within c.args.spot.depth h) o) c.args.spot.around c.args.spot.next (left_of h c.args.tasks.now) in
    on_ok_weaker c.push.result
    (λ (e : new ≡ first (Some c.get-stat.result.now)). splits_same (first c.args.no.now) new at (ap first (c.in-Some.is ∙ ap Some (sym c.get-stat.ensures)) ∙ sym e))
    (c.push.ensures h)
