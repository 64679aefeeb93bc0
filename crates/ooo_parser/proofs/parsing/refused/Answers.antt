use Rattle.std.proofs.Common.{arith}
use Rattle.ooo_parser.specs.Reaches.{root_of}
use Rattle.ooo_parser.proofs.Outcomes.{left_within, stops_at, deep_left, deep_answer}
use Rattle.ooo_parser.proofs.parsing.refused.Goals as goal

pub overflow_sub-symbols : goal.overflow_sub-symbols
overflow_sub-symbols c =
    left_within c.readers.ensures (root_of c.args.start) c.args.symbols.now c.in-Syntax.left (rw c.in-Syntax.is at c.requires.stops)

pub of_rest-requires : goal.of_rest-requires
of_rest-requires c =
    let s = stops_at c.readers.ensures (root_of c.args.start) c.args.symbols.now c.in-Syntax.left (rw c.in-Syntax.is at c.requires.stops) in
    rw (c.split_at.ensures.front, c.split_at.ensures.back) s

pub overflow_sub-symbol : goal.overflow_sub-symbol
overflow_sub-symbol c = (deep_left c.readers.ensures (root_of c.args.start) c.args.symbols.now c.in-TooDeep.left (rw c.in-TooDeep.is at c.requires.stops)).1

pub bounds-symbols-symbols : goal.bounds-symbols-symbols
bounds-symbols-symbols c =
    let b = deep_left c.readers.ensures (root_of c.args.start) c.args.symbols.now c.in-TooDeep.left (rw c.in-TooDeep.is at c.requires.stops) in
    omega (arith, b.0, b.1)

pub returns-in-TooDeep : goal.returns-in-TooDeep
returns-in-TooDeep c = λ b p e.
    deep_answer c.readers.ensures (root_of c.args.start) c.args.symbols.now c.in-TooDeep.left c.args.end _ b p (rw c.in-TooDeep.is at c.requires.stops) e
