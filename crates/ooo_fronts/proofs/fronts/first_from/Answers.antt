use Rattle.ooo_fronts.proofs.Counted.{fit_at, fit_itself}
use Rattle.ooo_fronts.proofs.fronts.first_from.Goals as goal

pub first_of-requires-clause-front : goal.first_of-requires-clause-front
first_of-requires-clause-front c = (fit_at c.args.tables.now c.args.fronts.now c.requires.fit c.args.p c.args.f c.requires.own).segment

pub first_of-requires-clause-fit : goal.first_of-requires-clause-fit
first_of-requires-clause-fit c = fit_itself c.args.tables.now c.args.q c.in_ok-fronts.field-0 (fit_at c.args.tables.now c.args.fronts.now c.requires.fit c.args.q c.in_ok-fronts.field-0 c.in_ok-fronts.was)
