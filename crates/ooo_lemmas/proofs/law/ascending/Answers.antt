use Rattle.ooo_lemmas.proofs.Ascending.{found_iff}
use Rattle.ooo_lemmas.proofs.law.ascending.Goals as goal

pub returns : goal.returns
returns c = λ xs x r up h. found_iff xs x r up h
