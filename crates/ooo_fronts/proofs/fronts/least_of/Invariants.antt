-- The earliest of those so far.
use Rattle.ooo_fronts.proofs.Earliest.{EarliestBelow}
use Rattle.ooo_fronts.proofs.fronts.least_of.Given as goal

abbrev pub invariant-loop-front : goal.invariant-loop-front
invariant-loop-front l = EarliestBelow l.fronts l.front-index l.least
