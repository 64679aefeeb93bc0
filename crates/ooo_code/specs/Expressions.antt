-- What the expressions in nodes give (ISO C++ [expr]; IEEE 1666-2011, clause 6 for channels).
use Rattle.std.specs.Prelude.{ℕ, ◌==◌, nat_lt, List, [], ◌∷◌, length, Bool, true, false, not, ◌&&◌, if◌then◌else◌, ℤ, pos, negsuc, Option, Some, None, Result, Ok, Err, slice_index_or}
use Rattle.ooo_time.specs.declared.time.Time.{Time}
use Rattle.ooo_time.specs.declared.time.Scale.{Scale}
use Rattle.ooo_value.specs.declared.operators.Fault.{Fault}
use Rattle.ooo_value.specs.declared.operators.Fault.TheVariants.{IndexRange}
use Rattle.ooo_value.specs.declared.values.Value.{Value}
use Rattle.ooo_value.specs.declared.values.Value.TheVariants as value
use Rattle.ooo_value.specs.Values.{number_of, conversion_of, truth_of}
use Rattle.ooo_value.specs.Times.{time_of}
use Rattle.ooo_value.specs.Operators.{Answer, binary_of, negation_of, inversion_of}
use Rattle.ooo_code.specs.declared.activation.Seen.{Seen}
use Rattle.ooo_code.specs.declared.activation.Seen.TheVariants as seen
use Rattle.ooo_code.specs.declared.expression.NodeExpr.{NodeExpr, NodeExpr-F, fold-NodeExpr}
use Rattle.ooo_code.specs.declared.expression.NodeExpr.TheOpen as layer
use Rattle.ooo_code.specs.declared.node.NodeTime.{NodeTime}
use Rattle.ooo_code.specs.declared.node.NodeTime.TheVariants as time

-- ---- what an expression reads

-- the locals, the variables, and what is seen of channels
pub record Sight : Type 0 where
  pub slots : List Value
  pub variables : List (List Value)
  pub seen : List Seen

-- what stands where there is no value
abbrev pub no_value : Value
no_value = value.Int (pos 0)

-- what is seen of one signal
pub record SignalSeen : Type 0 where
  pub value : Value
  pub changed : Bool

-- what is seen of one fifo: the values that may be taken, and how many may be put
pub record FifoSeen : Type 0 where
  pub values : List Value
  pub free : ℕ

-- what is seen of signal number c
abbrev pub signal_seen : List Seen → ℕ → SignalSeen
signal_seen [] c = record { value = no_value; changed = false }
signal_seen (seen.Signal d v changed ∷ others) c =
    if c == d then record { value = v; changed = changed } else signal_seen others c
signal_seen (seen.Fifo d values free ∷ others) c = signal_seen others c

-- what is seen of fifo number c
abbrev pub fifo_seen : List Seen → ℕ → FifoSeen
fifo_seen [] c = record { values = []; free = 0 }
fifo_seen (seen.Signal d v changed ∷ others) c = fifo_seen others c
fifo_seen (seen.Fifo d values free ∷ others) c =
    if c == d then record { values = values; free = free } else fifo_seen others c

-- the elements of variable number x
abbrev pub cells_of : List (List Value) → ℕ → List Value
cells_of variables x = slice_index_or variables x []

-- the value of a scalar variable
abbrev pub scalar_of : List (List Value) → ℕ → Value
scalar_of variables x = slice_index_or (cells_of variables x) 0 no_value

-- ---- indices

-- the index that an integer is: from 0 to below the length ([expr.sub])
abbrev pub index_in : ℕ → ℤ → Option ℕ
index_in n (pos i) = if nat_lt i n then Some i else None
index_in n (negsuc i) = None

-- the element at an index, or the fault of the index
abbrev pub element_at : List Value → Option ℕ → Answer
element_at cells None = Err IndexRange
element_at cells (Some i) = Ok (slice_index_or cells i no_value)

-- ---- expressions

-- what is done with a value, unless a fault came in its place
abbrev pub on_value : Answer → (Value → Answer) → Answer
on_value (Err f) go = Err f
on_value (Ok v) go = go v

-- what an expression gives, by what it reads
abbrev pub Reading : Type 0
Reading = Sight → Answer

-- `event()`, and of these the changes to one value: `posedge()` and `negedge()` (6.4)
abbrev pub is_edge : SignalSeen → Bool → Bool
is_edge s true = s.changed && truth_of s.value
is_edge s false = s.changed && not (truth_of s.value)

-- a choice by truth
abbrev pub by_truth : {A : Type 0} → Value → A → A → A
by_truth v a b = if truth_of v then a else b

-- what each form of expression gives, by what its parts give. Operands are evaluated from left to right; `&&`, `||` and
-- `? :` leave out what isn't needed ([expr.log.and], [expr.log.or], [expr.cond]).
abbrev pub reading_step : NodeExpr-F Reading → Reading
reading_step (layer.Constant v) s = Ok v
reading_step (layer.Slot n) s = Ok (slice_index_or s.slots n no_value)
reading_step (layer.Variable x) s = Ok (scalar_of s.variables x)
reading_step (layer.Element x i) s =
    let cells = cells_of s.variables x in on_value (i s) (λ v. element_at cells (index_in (length cells) (number_of v)))
reading_step (layer.Signal c) s = Ok (signal_seen s.seen c).value
reading_step (layer.Event c) s = Ok (value.Bool (signal_seen s.seen c).changed)
reading_step (layer.Edge c up) s = Ok (value.Bool (is_edge (signal_seen s.seen c) up))
reading_step (layer.Available c) s = Ok (value.Int (pos (length (fifo_seen s.seen c).values)))
reading_step (layer.Free c) s = Ok (value.Int (pos (fifo_seen s.seen c).free))
reading_step (layer.Convert k e) s = on_value (e s) (λ v. Ok (conversion_of v k))
reading_step (layer.Negate e) s = on_value (e s) (λ v. negation_of v)
reading_step (layer.Invert e) s = on_value (e s) (λ v. Ok (inversion_of v))
reading_step (layer.Not e) s = on_value (e s) (λ v. Ok (value.Bool (not (truth_of v))))
reading_step (layer.Binary op a b) s = on_value (a s) (λ v. on_value (b s) (λ w. binary_of op v w))
reading_step (layer.And a b) s =
    on_value (a s) (λ v. by_truth v (on_value (b s) (λ w. Ok (value.Bool (truth_of w)))) (Ok (value.Bool false)))
reading_step (layer.Or a b) s =
    on_value (a s) (λ v. by_truth v (Ok (value.Bool true)) (on_value (b s) (λ w. Ok (value.Bool (truth_of w)))))
reading_step (layer.Choose c a b) s = on_value (c s) (λ v. by_truth v (a s) (b s))

-- what an expression gives
unfoldable pub reading_of : NodeExpr → Reading
reading_of e = fold-NodeExpr Reading reading_step e

-- ---- times

-- the time in a unit that an answer gives
abbrev pub time_by : Scale → Answer → Result Time Fault
time_by scale (Ok v) = time_of v scale
time_by scale (Err f) = Err f

-- the time that a time in a node gives
abbrev pub time_given : NodeTime → Sight → Result Time Fault
time_given (time.Fixed t) s = Ok t
time_given (time.Amount e scale) s = time_by scale (reading_of e s)
