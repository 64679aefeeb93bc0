use Rattle.std.proofs.Common.{◌≡◌, map, rules, subst}
use Rattle.ooo_lexer.specs.Positions.{position_of_end}
use Rattle.ooo_parser.specs.Symbols.{single, symbols_of}
use Rattle.ooo_grammar.specs.Roots.{whole_text}
use Rattle.ooo_parser.specs.Refusals.{IsRefused}
use Rattle.ooo_parser.proofs.Sources.{tree_of_source, refusal_of_source}
use Rattle.ooo_parser.proofs.source.parse.Goals as goal

pub returns-clause-tree : goal.returns-clause-tree
returns-clause-tree c =
    let are : c.as_slice.result.now ≡ symbols_of (map (single c.args.source) c.args.tokens.now) = search rules in
    tree_of_source c.args.source c.args.tokens.now c.as_slice.result.now are c.anywhere.ensures.tree c.parse_symbols.result c.parse_symbols.ensures.tree

pub returns-clause-refused : goal.returns-clause-refused
returns-clause-refused c =
    let are : c.as_slice.result.now ≡ symbols_of (map (single c.args.source) c.args.tokens.now) = search rules in
    λ breach at e. refusal_of_source c.args.source c.args.tokens.now c.as_slice.result.now are c.anywhere.ensures.refused (position_of_end c.args.source.now) breach at
    (subst (λ end. IsRefused whole_text c.as_slice.result.now end breach at) c.position_of_end.ensures (c.parse_symbols.ensures.refused breach at e))
