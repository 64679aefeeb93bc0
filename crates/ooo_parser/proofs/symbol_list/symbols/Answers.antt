use Rattle.std.proofs.Common.{length, map, arith, ap}
use Rattle.std.proofs.lemmas.List.{length-map}
use Rattle.ooo_parser.specs.Symbols.{single}
use Rattle.ooo_parser.proofs.Lengths.{joined_few, few_tokens}
use Rattle.ooo_parser.proofs.symbol_list.symbols.Goals as goal

pub number-requires : goal.number-requires
number-requires c =
    let singles = map (single c.args.source) c.args.tokens.now in
    omega (arith, ap length c.deref_mut.ensures.value, ap length c.in_ok-symbols.ensures, joined_few singles, length-map c.args.tokens.now (single c.args.source), few_tokens c.args.source.now c.args.tokens.now c.requires.within c.requires.in_order, c.requires.short)
