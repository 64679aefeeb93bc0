use Rattle.ooo_board.proofs.Looking.{IsWatching}
use Rattle.ooo_board.proofs.links.watched_by.Given as goal

abbrev pub invariant-loop-c : goal.invariant-loop-c
invariant-loop-c l = IsWatching l.access l.design.channels l.c l.signals l.taken l.put l.all
