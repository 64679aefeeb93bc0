-- An expression gives what its form says of what its parts give.
use Rattle.ooo_interp.proofs.Readings.{gives_binary, gives_both, gives_choice, gives_conversion, gives_either, gives_element, gives_inversion, gives_negation, gives_opposite}
use Rattle.ooo_interp.proofs.expressions.+evaluate.Goals as goal

pub evaluate-returns-in-Element : goal.evaluate-returns-in-Element
evaluate-returns-in-Element g t c = gives_element (g.L.Lent.sight c.args.lent.now) c.args.e.now c.element_of.result c.in-Element.x c.in-Element.i c.get.result.now c.in-Element.is c.get.ensures c.element_of.ensures

pub evaluate-returns-in-Convert : goal.evaluate-returns-in-Convert
evaluate-returns-in-Convert g t c = gives_conversion (g.L.Lent.sight c.args.lent.now) c.args.e.now c.converted.result c.in-Convert.kind c.in-Convert.a c.get-in-Convert.result.now c.in-Convert.is c.get-in-Convert.ensures c.converted.ensures

pub evaluate-returns-in-Negate : goal.evaluate-returns-in-Negate
evaluate-returns-in-Negate g t c = gives_negation (g.L.Lent.sight c.args.lent.now) c.args.e.now c.negated.result c.in-Negate.a c.get-in-Negate.result.now c.in-Negate.is c.get-in-Negate.ensures c.negated.ensures

pub evaluate-returns-in-Invert : goal.evaluate-returns-in-Invert
evaluate-returns-in-Invert g t c = gives_inversion (g.L.Lent.sight c.args.lent.now) c.args.e.now c.inverted.result c.in-Invert.a c.get-in-Invert.result.now c.in-Invert.is c.get-in-Invert.ensures c.inverted.ensures

pub evaluate-returns-in-Not : goal.evaluate-returns-in-Not
evaluate-returns-in-Not g t c = gives_opposite (g.L.Lent.sight c.args.lent.now) c.args.e.now c.opposite.result c.in-Not.a c.get-in-Not.result.now c.in-Not.is c.get-in-Not.ensures c.opposite.ensures

pub evaluate-returns-in-Binary : goal.evaluate-returns-in-Binary
evaluate-returns-in-Binary g t c = gives_binary (g.L.Lent.sight c.args.lent.now) c.args.e.now c.combined.result c.in-Binary.op c.in-Binary.a c.get-in-Binary.result.now c.in-Binary.b c.get-in-Binary-2.result.now c.in-Binary.is c.get-in-Binary.ensures c.get-in-Binary-2.ensures c.combined.ensures

pub evaluate-returns-in-And : goal.evaluate-returns-in-And
evaluate-returns-in-And g t c = gives_both (g.L.Lent.sight c.args.lent.now) c.args.e.now c.both.result c.in-And.a c.get-in-And.result.now c.in-And.b c.get-in-And-2.result.now c.in-And.is c.get-in-And.ensures c.get-in-And-2.ensures c.both.ensures

pub evaluate-returns-in-Or : goal.evaluate-returns-in-Or
evaluate-returns-in-Or g t c = gives_either (g.L.Lent.sight c.args.lent.now) c.args.e.now c.either.result c.in-Or.a c.get-in-Or.result.now c.in-Or.b c.get-in-Or-2.result.now c.in-Or.is c.get-in-Or.ensures c.get-in-Or-2.ensures c.either.ensures

pub evaluate-returns-in-Choose : goal.evaluate-returns-in-Choose
evaluate-returns-in-Choose g t c = gives_choice (g.L.Lent.sight c.args.lent.now) c.args.e.now c.chosen.result c.in-Choose.c c.get-in-Choose.result.now c.in-Choose.a c.get-in-Choose-2.result.now c.in-Choose.b c.get-in-Choose-3.result.now c.in-Choose.is c.get-in-Choose.ensures c.get-in-Choose-2.ensures c.get-in-Choose-3.ensures c.chosen.ensures
