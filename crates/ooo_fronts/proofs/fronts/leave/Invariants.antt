-- Those so far are mended, and nothing holds the process up.
use Rattle.std.proofs.Common.{◌≡◌, get_or, set, None}
use Rattle.ooo_fronts.proofs.Mending.{AreMended}
use Rattle.ooo_fronts.proofs.fronts.leave.Given as goal

abbrev pub invariant-loop-q : goal.invariant-loop-q
invariant-loop-q l = record {
  mended : AreMended l._tables l.p l.fronts (set l.fronts l.p None) l.affected l.q-index l.counts;
  own : get_or l.counts l.p 0 ≡ 0;
}
