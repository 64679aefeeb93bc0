-- Those so far, with their entries.
use Rattle.ooo_fronts.proofs.Counted.{AreCounted}
use Rattle.ooo_fronts.proofs.Entries.{AreColumns}
use Rattle.ooo_fronts.proofs.fronts.counts_of.Given as goal

abbrev pub invariant-loop-p : goal.invariant-loop-p
invariant-loop-p l = record {
  counted : AreCounted l.tables l.fronts l.p l.counts.items;
  columns : AreColumns l.tables l.fronts l.p l.holds;
}
