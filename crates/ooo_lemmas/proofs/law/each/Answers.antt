use Rattle.std.proofs.Common.{◌<◌}
use Rattle.ooo_lemmas.proofs.Each.{first_part}
use Rattle.ooo_lemmas.proofs.law.each.Goals as goal

pub returns : goal.returns
returns c = λ n xs ys h. first_part (λ x. x < n) xs ys h
