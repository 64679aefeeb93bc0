-- So many by the fronts of the processes below the next that can hold it up, and the entries of those so far are set.
use Rattle.std.proofs.Common.{◌≡◌, ◌+◌, length, get_or}
use Rattle.ooo_fronts.specs.Holds.{holds_from, total}
use Rattle.ooo_fronts.proofs.Entries.{IsColumnBy}
use Rattle.ooo_fronts.proofs.fronts.count_of.Given as goal

abbrev pub invariant-loop-q : goal.invariant-loop-q
invariant-loop-q l = record {
  count : l.count ≡ total (holds_from l.tables l.fronts l.p l.f) (get_or l.holders l.q-index (length l.fronts + length l.reaches.holders));
  column : IsColumnBy l.tables l.fronts l.p l.f l.holders l.fn.holds l.q-index l.holds;
}
