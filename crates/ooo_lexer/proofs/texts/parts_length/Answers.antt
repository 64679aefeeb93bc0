use Rattle.std.proofs.Common.{arith, length, length-drop, ap}
use Rattle.ooo_lexer.proofs.Parts.{parts_more}
use Rattle.ooo_lexer.proofs.texts.parts_length.Goals as goal

pub parts-preserved : goal.parts-preserved
parts-preserved c = (
  omega (arith, ap length c.split_at.ensures.back, length-drop c.first_part-length.result c.parts.rest.now),
  parts_more c.args.strays c.args.bytes.now c.parts.rest.now c.split_at.result.1.now c.first_part-length.result c.parts.invariant.1 c.first_part-length.ensures.exact c.first_part-length.ensures.within c.split_at.ensures.back,
)
