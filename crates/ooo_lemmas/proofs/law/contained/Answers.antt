use Rattle.ooo_lemmas.proofs.Contained.{in_mapped}
use Rattle.ooo_lemmas.proofs.law.contained.Goals as goal

pub returns : goal.returns
returns c = λ f xs x h. in_mapped f xs x h
