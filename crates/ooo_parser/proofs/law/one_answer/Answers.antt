use Rattle.ooo_parser.proofs.Decisions.{answered}
use Rattle.ooo_parser.proofs.Once.{not_refused, refused_once, tree_once}
use Rattle.ooo_parser.proofs.law.one_answer.Goals as goal

pub returns : goal.returns
returns c = λ x ts end.
    let read = c.readers.ensures in
    let begun = c.beginnings.ensures in
    let within = c.beginnings_within.ensures in
    let once = c.refused_token.ensures.once in
    let none = c.refused_token.ensures.no_tree in
    record {
      answered = answered c.types.ensures read begun within x ts end;
      not_both = not_refused read begun within once none x ts end;
      one_tree = tree_once read begun within once none x ts;
      one_refusal = refused_once read begun within once none x ts end;
    }
