-- One after the other.
use Rattle.ooo_segments.proofs.SearchLemmas.{finds_then}
use Rattle.ooo_segments.proofs.searching.find_both.Goals as goal

pub returns : goal.returns
returns c = finds_then _ _ _ _ _ _ _ _ c.in_ok-find.ensures c.in_ok-find-2.ensures
