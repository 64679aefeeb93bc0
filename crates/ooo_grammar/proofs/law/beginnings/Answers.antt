use Rattle.ooo_grammar.specs.Roots.{roots}
use Rattle.ooo_grammar.proofs.Whole.{completes, begins}
use Rattle.ooo_grammar.proofs.law.beginnings.Goals as goal

pub returns : goal.returns
returns c = λ x ts. (λ b. completes (roots x) ts b, λ g. begins (roots x) ts g.0 g.1 g.2)
