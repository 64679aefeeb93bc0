use Rattle.std.proofs.Common.{◌≡◌, arith, drop, subst}
use Rattle.ooo_plain.specs.Schedule.{IsLeastOf}
use Rattle.ooo_plain.proofs.Asking.{least_more}
use Rattle.ooo_plain.proofs.schedule.first_of_many.Goals as goal

pub events-preserved : goal.events-preserved
events-preserved c = record {
  within = let h = c.events.invariant.within in omega (arith, h);
  found = least_more c.args.bank.now c.args.now c.args.events.now c.events.left c.events.found c.earlier-found.result c.first.result c.events-test.true c.events.invariant.within c.events.invariant.found c.first.ensures c.earlier-found.ensures;
}

pub returns : goal.returns
returns c =
    let none : c.events.left ≡ 0 = (let h = c.events-test.false in omega (arith, h)) in
    subst (λ i. IsLeastOf c.args.bank.now c.args.now (drop i c.args.events.now) c.events.found) none c.events.invariant.found
