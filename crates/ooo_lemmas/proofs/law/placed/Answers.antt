use Rattle.ooo_lemmas.proofs.Placed.{kept_at}
use Rattle.ooo_lemmas.proofs.law.placed.Goals as goal

pub returns : goal.returns
returns c = λ xs ys k x h. kept_at xs ys k x h
