use Rattle.ooo_grammar.specs.Roots.{roots}
use Rattle.ooo_grammar.proofs.Once.{one_tree}
use Rattle.ooo_grammar.proofs.law.one_tree.Goals as goal

pub returns : goal.returns
returns c = λ x ts a b d e. one_tree (roots x) ts a b d e
