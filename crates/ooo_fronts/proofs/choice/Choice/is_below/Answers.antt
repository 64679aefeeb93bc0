-- The whole cut is asked, or all fronts are below the limit of deltas.
use Rattle.ooo_fronts.proofs.Below.{below_uncut, uncut_below}
use Rattle.ooo_fronts.proofs.Choosing.{all_below}
use Rattle.ooo_fronts.proofs.choice.Choice.is_below.Goals as goal

pub returns-then-limited : goal.returns-then-limited
returns-then-limited c = λ r least b k. c.is_below.ensures r b k.cut (c.least.ensures r least b k)

pub returns-else-limited : goal.returns-else-limited
returns-else-limited c = λ r least b k.
    let u = c.is_uncut.ensures r b.log k.cut in
    let all = all_below r least b c.args.self.now k (c.requires c.if-limited.false) in
    (λ t. below_uncut r b c.args.at all (u.0 t), λ h. u.1 (uncut_below r b c.args.at h))
