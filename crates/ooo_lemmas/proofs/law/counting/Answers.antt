use Rattle.ooo_lemmas.proofs.Counting.{count_more}
use Rattle.ooo_lemmas.proofs.law.counting.Goals as goal

pub returns : goal.returns
returns c = λ p q n h. count_more p q h n
