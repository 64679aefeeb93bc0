-- A place is below the cut where no activation cuts it off, and it is before the limit.
use Rattle.ooo_fronts.proofs.Below.{from_below, to_below, uncut_below}
use Rattle.ooo_fronts.proofs.cut.Cut.is_below.Goals as goal

pub returns-then-is_uncut : goal.returns-then-is_uncut
returns-then-is_uncut c = λ r b k l.
    let uncut = (c.is_uncut.ensures r b.log k).0 c.if-is_uncut.true in
    (λ t. to_below r b c.args.at c.args.self.now k c.args.first l uncut (c.is_before_limit.ensures.0 t), λ h. c.is_before_limit.ensures.1 (from_below r b c.args.at c.args.self.now k c.args.first l h))

pub returns-else-is_uncut : goal.returns-else-is_uncut
returns-else-is_uncut c = λ r b k l.
    (λ t. absurd cc, λ h. let y = (c.is_uncut.ensures r b.log k).1 (uncut_below r b c.args.at h) in absurd cc)
