use Rattle.ooo_grammar.specs.Roots.{roots}
use Rattle.ooo_grammar.proofs.Prefixes.{front_prefix, spelled, spelled_begins, found, begins_free}
use Rattle.ooo_grammar.proofs.law.beginnings_within.Goals as goal

pub returns : goal.returns
returns c = λ x n room. record {
  derives = λ ts a h. spelled (roots x) n room ts a h;
  begins = λ ts a h. spelled_begins (roots x) n room ts a h;
  found = λ ts rest a e. found (roots x) n room ts rest a e;
  free = λ ts s. begins_free (roots x) n room ts s;
  prefix = λ before after s. front_prefix n room (roots x) before after s;
}
