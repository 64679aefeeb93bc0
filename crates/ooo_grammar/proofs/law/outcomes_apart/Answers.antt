use Rattle.ooo_grammar.specs.Roots.{roots}
use Rattle.ooo_grammar.proofs.Apart.{too_deep_once, refused_or_too_deep, spelled_or_too_deep}
use Rattle.ooo_grammar.proofs.law.outcomes_apart.Goals as goal

pub returns : goal.returns
returns c = λ x n room. record {
  too_deep_once = λ ts r s p q. too_deep_once n room (roots x) ts r s p q;
  refused_or_too_deep = λ ts r s p k q. refused_or_too_deep n room (roots x) ts r s p k q;
  spelled_or_too_deep = λ ts rest a h q. spelled_or_too_deep n room (roots x) ts rest a h q;
}
