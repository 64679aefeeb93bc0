-- What the expressions of a bound model give (ISO C++ [expr]; IEEE 1666-2011, clause 6 for channels).
use Rattle.std.specs.Prelude.{List, length, true, false, not, pos, Option, Some, None, Result, Ok}
use Rattle.ooo_time.specs.declared.time.Time.{Time}
use Rattle.ooo_value.specs.declared.operators.Fault.{Fault}
use Rattle.ooo_value.specs.declared.values.Value.{Value}
use Rattle.ooo_value.specs.declared.values.Value.TheVariants as value
use Rattle.ooo_value.specs.Kinds.{promoted_kind}
use Rattle.ooo_value.specs.Values.{kind_of, number_of, conversion_of, truth_of}
use Rattle.ooo_value.specs.Operators.{Answer, binary_of, negation_of, inversion_of}
use Rattle.ooo_code.specs.declared.activation.Seen.{Seen}
use Rattle.ooo_code.specs.Expressions.{signal_seen, fifo_seen, cells_of, scalar_of, index_in, element_at, on_value, is_edge, by_truth, time_by}
use Rattle.ooo_code.specs.Nodes.{some_time}
use Rattle.ooo_bound.specs.declared.expr.BoundExpr.{BoundExpr, BoundExpr-F, fold-BoundExpr}
use Rattle.ooo_bound.specs.declared.expr.BoundExpr.TheOpen as layer
use Rattle.ooo_bound.specs.declared.expr.BoundTime.{BoundTime}
use Rattle.ooo_bound.specs.declared.expr.BoundTime.TheVariants as time
use Rattle.ooo_activation.specs.Locals.{Locals}

-- what an expression reads: the locals, the variables, and what is seen of channels
pub record Sight : Type 0 where
  pub locals : Locals
  pub variables : List (List Value)
  pub seen : List Seen

-- what an expression gives, by what it reads
abbrev pub Reading : Type 0
Reading = Sight → Answer

-- a value in its promoted kind ([conv.prom])
abbrev pub promoted : Value → Value
promoted v = conversion_of v (promoted_kind (kind_of v))

-- what each form of expression gives, by what its parts give. Operands are evaluated from left to right; `&&`, `||` and
-- `? :` leave out what isn't needed ([expr.log.and], [expr.log.or], [expr.cond]).
abbrev pub reading_step : BoundExpr-F Reading → Reading
reading_step (layer.Constant v) s = Ok v
reading_step (layer.Local k n) s = Ok (s.locals k n)
reading_step (layer.Variable x) s = Ok (scalar_of s.variables x)
reading_step (layer.Element x i) s =
    let cells = cells_of s.variables x in on_value (i s) (λ v. element_at cells (index_in (length cells) (number_of v)))
reading_step (layer.Signal c) s = Ok (signal_seen s.seen c).value
reading_step (layer.Changed c) s = Ok (value.Bool (signal_seen s.seen c).changed)
reading_step (layer.Edge c up) s = Ok (value.Bool (is_edge (signal_seen s.seen c) up))
reading_step (layer.Available c) s = Ok (value.Int (pos (length (fifo_seen s.seen c).values)))
reading_step (layer.Free c) s = Ok (value.Int (pos (fifo_seen s.seen c).free))
reading_step (layer.Convert k e) s = on_value (e s) (λ v. Ok (conversion_of v k))
reading_step (layer.Promote e) s = on_value (e s) (λ v. Ok (promoted v))
reading_step (layer.Negate e) s = on_value (e s) (λ v. negation_of v)
reading_step (layer.Invert e) s = on_value (e s) (λ v. Ok (inversion_of v))
reading_step (layer.Not e) s = on_value (e s) (λ v. Ok (value.Bool (not (truth_of v))))
reading_step (layer.Binary op a b) s = on_value (a s) (λ v. on_value (b s) (λ w. binary_of op v w))
reading_step (layer.Both a b) s =
    on_value (a s) (λ v. by_truth v (on_value (b s) (λ w. Ok (value.Bool (truth_of w)))) (Ok (value.Bool false)))
reading_step (layer.Either a b) s =
    on_value (a s) (λ v. by_truth v (Ok (value.Bool true)) (on_value (b s) (λ w. Ok (value.Bool (truth_of w)))))
reading_step (layer.Choose k c a b) s =
    on_value (c s) (λ v. on_value (by_truth v (a s) (b s)) (λ w. Ok (conversion_of w k)))

-- what an expression gives
unfoldable pub reading_of : BoundExpr → Reading
reading_of e = fold-BoundExpr Reading reading_step e

-- the time that a time gives (IEEE 1666-2011, 5.11)
abbrev pub time_given : BoundTime → Sight → Result Time Fault
time_given (time.Fixed t) s = Ok t
time_given (time.Amount e scale) s = time_by scale (reading_of e s)

-- the time of a wait, if it has one
abbrev pub wait_time : Option BoundTime → Sight → Result (Option Time) Fault
wait_time None s = Ok None
wait_time (Some t) s = some_time (time_given t s)
