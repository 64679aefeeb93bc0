use Rattle.std.proofs.Common.{arith, length-drop}
use Rattle.std.proofs.lemmas.List.{take_rest}
use Rattle.ooo_sim.proofs.Bytes.{Appends_more}
use Rattle.ooo_sim.proofs.pump.write_text.Goals as goal

pub writing-preserved : goal.writing-preserved
writing-preserved g c =
    let bound = rw (take_rest c.args.text.now c.writing.written) at c.in_ok-written.ensures.bound in
    let bytes = rw (take_rest c.args.text.now c.writing.written) at c.in_ok-written.ensures.bytes in
    record {
      within = omega (arith, bound, length-drop c.writing.written c.args.text.now);
      bytes = Appends_more _ _ _ c.writing.written c.in_ok-written.field-0 c.args.text.now c.writing.invariant.bytes bytes;
      later = omega (arith, c.in_ok-written.ensures.cause.later);
    }
