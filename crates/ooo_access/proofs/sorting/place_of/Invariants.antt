-- All from this place on is later.
use Rattle.std.proofs.Common.{◌≡◌, ℕ, ◌<◌, ◌≤◌, length, get_or}
use Rattle.ooo_access.specs.Notices.{Notice, IsNoticeBefore}
use Rattle.ooo_access.proofs.sorting.place_of.Given as goal

abbrev pub invariant-later : goal.invariant-later
invariant-later l = record {
  within : l.place ≤ length l.notices;
  later : (k : ℕ) (d : Notice) → l.place ≤ k → k < length l.notices → IsNoticeBefore l.new (get_or l.notices k d);
}

abbrev pub decreases-later : goal.decreases-later
decreases-later l = l.place
