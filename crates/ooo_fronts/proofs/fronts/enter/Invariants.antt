-- Those so far are mended, and their entries are set.
use Rattle.std.proofs.Common.{set, None}
use Rattle.ooo_fronts.proofs.Entries.{IsRowBy}
use Rattle.ooo_fronts.proofs.Mending.{AreMended}
use Rattle.ooo_fronts.proofs.fronts.enter.Given as goal

abbrev pub invariant-loop-q : goal.invariant-loop-q
invariant-loop-q l = record {
  mended : AreMended l.tables l.p (set l.fronts l.p None) l.fronts l.affected l.q-index l.counts;
  row : IsRowBy l.tables l.fronts l.p l.new l.affected l.fn.holds l.q-index l.holds;
}
