use Rattle.std.proofs.Common.{rules, IsTrue}
use Rattle.ooo_value.specs.Values.{is_in_range, kind_of, number_of}
use Rattle.ooo_value.proofs.Exact.{right_shift-floor}
use Rattle.ooo_value.proofs.law.right_shift_rounds_down.Goals as goal

pub returns : goal.returns
returns c =
    let in_range : IsTrue (is_in_range (kind_of c.args.v) (number_of c.args.v)) = search rules in
    right_shift-floor c.args.v c.args.by in_range
