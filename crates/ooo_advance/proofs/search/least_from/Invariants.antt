-- The search is under way, and the nearest segment that isn't done is known. In each turn one segment more is done.
use Rattle.std.proofs.Common.{not, ◌<◌, length}
use Rattle.std.specs.Prelude.{count_by, MatchOption}
use Rattle.ooo_advance.specs.Turns.{HasNone, IsNearest}
use Rattle.ooo_advance.proofs.SearchLemmas.{IsSearch}
use Rattle.ooo_advance.proofs.search.least_from.Given as goal

abbrev pub invariant-turns : goal.invariant-turns
invariant-turns l = record {
  search : IsSearch l.links l.source l.least.items l.done.items;
  next : MatchOption l.next (HasNone l.least.items l.done.items (length l.least.items))
      (λ x. IsNearest l.least.items l.done.items x.0 x.1 × (x.0 < length l.least.items));
}

abbrev pub decreases-turns : goal.decreases-turns
decreases-turns l = count_by not l.done.items
