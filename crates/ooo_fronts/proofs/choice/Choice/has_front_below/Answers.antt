-- The place of the front is asked.
use Rattle.std.proofs.Common.{subst}
use Rattle.ooo_dispatch.specs.Least.{IsBelowCut}
use Rattle.ooo_fronts.specs.Fronts.{front_is}
use Rattle.ooo_fronts.proofs.Choosing.{has_front, no_front, same_front}
use Rattle.ooo_fronts.proofs.choice.Choice.has_front_below.Goals as goal

pub returns-in-Some : goal.returns-in-Some
returns-in-Some c = λ r least b k l.
    let f = c.in-Some.front in (
      λ t. (front_is f, has_front r b c.args.self.now.fronts.now k.fronts c.args.p f c.in-Some.is, (c.is_below.ensures r b k.cut l).0 t),
      λ h. (c.is_below.ensures r b k.cut l).1
          (subst (λ x. IsBelowCut r b x.stamp c.args.p) (same_front r b c.args.self.now.fronts.now k.fronts c.args.p f h.0 c.in-Some.is h.1) h.2),
    )

pub returns-in-None : goal.returns-in-None
returns-in-None c = λ r least b k l.
    (λ t. absurd cc, λ h. absurd (no_front r b c.args.self.now.fronts.now k.fronts c.args.p h.0 c.in-None.is h.1))
