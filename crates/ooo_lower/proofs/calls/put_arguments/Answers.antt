use Rattle.std.proofs.Common.{◌∙◌, ap, sym, ◌++◌, length, append-nil}
use Rattle.ooo_lower.proofs.Given.{no_more}
use Rattle.ooo_lower.proofs.calls.put_arguments.Goals as goal

pub returns : goal.returns
returns c =
    let none = no_more c.args.spot.around c.args.u c.args.spot.line c.args-2.n c.min-given.result c.args.kinds.now c.args.args.now (length c.args-2.code.nodes) c.min-given.ensures c.args-2-test.false in
    record {
      nodes_are = sym (append-nil c.args-2.code.nodes) ∙ ap (λ xs. c.args-2.code.nodes ++ xs) (sym none) ∙ c.args-2.invariant.1;
      slots_are = c.args-2.invariant.0;
    }
