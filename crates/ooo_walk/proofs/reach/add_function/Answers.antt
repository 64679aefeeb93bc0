use Rattle.std.proofs.Common.{◌≡◌, ◌∙◌, ◌<◌, sym, subst}
use Rattle.ooo_walk.proofs.Marked.{marked, marks_more, unmarked_within}
use Rattle.ooo_walk.proofs.reach.add_function.Goals as goal

pub returns-clause-marks : goal.returns-clause-marks
returns-clause-marks c =
    rw (c.in-Ok.ensures.ok, c.set.ensures)
    (marks_more _ _ _ c.args.number
    (subst (λ x. c.args.number < x) c.requires.all
    (unmarked_within c.args.marks.now c.args.number (sym c.is_marked.ensures ∙ c.if-is_marked.false)))
    c.requires)
