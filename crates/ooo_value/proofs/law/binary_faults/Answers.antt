use Rattle.std.proofs.Common.{rules, IsTrue}
use Rattle.ooo_value.specs.Values.{is_in_range, kind_of, number_of}
use Rattle.ooo_value.specs.Operators.{class_of}
use Rattle.ooo_value.proofs.Causes.{answer-divide_by_zero, answer-overflow, answer-shift_range, answer-no_index_range, answer-no_bad_time}
use Rattle.ooo_value.proofs.law.binary_faults.Goals as goal

pub returns-clause-overflow : goal.returns-clause-overflow
returns-clause-overflow c = answer-overflow (class_of c.args.op) c.args.a c.args.b

pub returns-clause-shift_range : goal.returns-clause-shift_range
returns-clause-shift_range c = answer-shift_range (class_of c.args.op) c.args.a c.args.b

pub returns-clause-no_index_range : goal.returns-clause-no_index_range
returns-clause-no_index_range c = answer-no_index_range (class_of c.args.op) c.args.a c.args.b

pub returns-clause-no_bad_time : goal.returns-clause-no_bad_time
returns-clause-no_bad_time c = answer-no_bad_time (class_of c.args.op) c.args.a c.args.b

pub returns-clause-divide_by_zero : goal.returns-clause-divide_by_zero
returns-clause-divide_by_zero c =
    let in_range : IsTrue (is_in_range (kind_of c.args.b) (number_of c.args.b)) = search rules in
    answer-divide_by_zero (class_of c.args.op) c.args.a c.args.b in_range
