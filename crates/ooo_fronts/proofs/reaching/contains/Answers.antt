use Rattle.ooo_lemmas.proofs.Ascending.{found_iff}
use Rattle.ooo_fronts.proofs.reaching.contains.Goals as goal

pub returns : goal.returns
returns c = rw c.is_ok.ensures.value (found_iff c.args.numbers.now c.args.n c.binary_search.result c.requires c.binary_search.ensures.position)
