use Rattle.ooo_parser.specs.Symbols.{single}
use Rattle.ooo_parser.proofs.Joins.{joins_pair, joins_other, within_rest}
use Rattle.ooo_parser.proofs.join.joined.Goals as goal

pub tokens-preserved-in-Some-scope_after : goal.tokens-preserved-in-Some-scope_after
tokens-preserved-in-Some-scope_after c = record {
  whole = joins_pair _ _ (single c.args.source.bytes) _ c.single-symbol.result c.in-Some-scope_after.scope _ c.in-Some.token.now _ c.in-Some.after.now _
      c.tokens.invariant.whole c.in-Some.ensures.cases.0 c.single-symbol.ensures c.in-Some-scope_after.ensures.next c.in-Some-scope_after.ensures.pair c.with_pair.ensures;
  within = c.in-Some-scope_after.ensures.within;
}

pub tokens-preserved : goal.tokens-preserved
tokens-preserved c = record {
  whole = joins_other _ _ _ (single c.args.source.bytes) _ c.single-symbol.result c.in-Some.token.now _ c.in-Some.after.now
      c.tokens.invariant.whole c.in-Some.ensures.cases.0 c.single-symbol.ensures c.in-None.ensures.none c.in_ok-push_behind-in-None.ensures;
  within = within_rest c.args.source.bytes.now c.in-Some.token.now _ c.in-Some.after.now c.tokens.invariant.within c.in-Some.ensures.cases.0;
}
