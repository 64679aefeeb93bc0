use Rattle.std.proofs.Common.{[]}
use Rattle.ooo_grammar.specs.Lexis.{type_name}
use Rattle.ooo_grammar.specs.Roots.{roots}
use Rattle.ooo_grammar.proofs.Anywhere.{form_on, front_on, front_off, spells}
use Rattle.ooo_grammar.proofs.law.anywhere.Goals as goal

pub returns-clause-texts : goal.returns-clause-texts
returns-clause-texts c = λ x n room. record {
  spelled = λ ts a h. form_on n room (roots x) ts a [] h;
  spells = λ ts a h. spells n room (roots x) ts a h;
  begun = λ ts h. front_on n room (roots x) ts h;
  begins = λ ts h. front_off n room (roots x) ts h;
}

pub returns-clause-types : goal.returns-clause-types
returns-clause-types c = λ n room. record { spelled = λ ts t h. form_on n room type_name ts t [] h; spells = λ ts t h. spells n room type_name ts t h }
