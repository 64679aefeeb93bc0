-- A node that isn't found yet gets its mark, and is to be followed.
use Rattle.ooo_segments.proofs.SearchLemmas.{finds_new}
use Rattle.std.proofs.lemmas.Bool.{false≢true}
use Rattle.ooo_segments.proofs.searching.find.Goals as goal

pub returns : goal.returns
returns c = rw (c.mark.ensures, c.in_ok-push.ensures.items) (finds_new _ _ _ c.requires (λ h. false≢true (c.if-contains.ensures.1 h)))
