use Rattle.std.proofs.Common.{[], ◌∷◌, ◌++◌}
use Rattle.ooo_grammar.specs.Roots.{roots}
use Rattle.ooo_grammar.proofs.Once.{once, no_tree, front_begins}
use Rattle.ooo_grammar.proofs.Whole.{completes, begins}
use Rattle.ooo_grammar.proofs.law.refused_token.Goals as goal

pub returns-clause-first : goal.returns-clause-first
returns-clause-first c = λ x ts rest r. record {
  read = r.read;
  is = r.is;
  before = λ front back e. completes (roots x) front (front_begins (roots x) r.read front back e r.begins);
  here = λ k us e g. r.refused k us e (begins (roots x) (r.read ++ k ∷ []) g.0 g.1 g.2);
  unfinished = r.unfinished;
}

pub returns-clause-once : goal.returns-clause-once
returns-clause-once c = λ x ts r s a b. once (roots x) ts r s a b

pub returns-clause-no_tree : goal.returns-clause-no_tree
returns-clause-no_tree c = λ x ts rest a r d. no_tree (roots x) ts rest a r d
