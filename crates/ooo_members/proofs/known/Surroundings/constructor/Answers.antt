use Rattle.ooo_members.proofs.known.Surroundings.constructor.Goals as goal

pub returns-in-Written-clause-behind : goal.returns-in-Written-clause-behind
returns-in-Written-clause-behind c = rw c.in-Written.is c.written.ensures.behind
