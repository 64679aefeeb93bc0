use Rattle.std.proofs.Common.{ap}
use Rattle.ooo_grammar.specs.Laws.{whole}
use Rattle.ooo_grammar.specs.Roots.{roots}
use Rattle.ooo_grammar.proofs.Codes.{code_good}
use Rattle.ooo_grammar.proofs.Whole.{finds, one, whole_found, whole_refused, whole_exceeded}
use Rattle.ooo_grammar.proofs.law.readers.Goals as goal

pub returns : goal.returns
returns c = λ x n room. record {
  found = λ ts a h. (code_good n room (roots x)).sound (whole_found (roots x) n room ts a h);
  one = λ ts a b h d. one (roots x) n room ts a b (whole_found (roots x) n room ts a h) d;
  refused = λ ts rest h. whole_refused (roots x) n room ts rest h;
  exceeded = λ ts rest h. whole_exceeded (roots x) n room ts rest h;
  finds = λ ts a h. ap whole (finds (roots x) n room ts a h);
}
