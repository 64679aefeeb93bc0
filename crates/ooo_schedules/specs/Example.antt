-- Two processes: the first notifies event 0 after two ticks, the second waits for it. Segment 2 is the second one's after its wait.
use Rattle.std.specs.Prelude.{ℕ, zero, suc, false, ◌&&◌, ◌||◌, ◌==◌, List, [], ◌∷◌, Option, Some, None}
use Rattle.ooo_time.specs.declared.stamp.Stamp.{Stamp}
use Rattle.ooo_schedules.specs.Design.{Wait}
use Rattle.ooo_value.specs.declared.bound.BoundEvent.TheVariants as event
use Rattle.ooo_code.specs.declared.activation.Effect.{Effect}
use Rattle.ooo_code.specs.declared.activation.Effect.TheVariants as effect
use Rattle.ooo_code.specs.Expressions.{no_value}
use Rattle.ooo_meaning.specs.World.{zero_stamp}
use Rattle.ooo_schedules.specs.Delays.{one_delta}
use Rattle.ooo_schedules.specs.Program.{Left, Waits, Ended, Sound}
use Rattle.ooo_schedules.specs.Sequence.{Starts}
use Rattle.ooo_schedules.specs.Tables.{Tables, program}

abbrev pub effects_of : ℕ → List Effect
effects_of zero = effect.Notify 0 (record { 0 = 2 }) ∷ []
effects_of (suc n) = []

abbrev pub left_of : ℕ → Left
left_of zero = Ended
left_of (suc zero) = Waits 2 None (0 ∷ [])
left_of (suc (suc n)) = Ended

abbrev pub process_of : ℕ → ℕ
process_of zero = 0
process_of (suc n) = 1

abbrev pub start_of : ℕ → Option (Wait Stamp)
start_of zero = Some (record { segment = 0; timeout = Some zero_stamp; events = []; since = None })
start_of (suc zero) = Some (record { segment = 1; timeout = Some zero_stamp; events = []; since = None })
start_of (suc (suc n)) = None

abbrev pub example : Tables (List ℕ)
example = record {
  edges = record { from = 0; delay = record { time = record { 0 = 2 }; deltas = 0 }; to = 2 } ∷ record { from = 1; delay = one_delta; to = 2 } ∷ [];
  origin = λ e. event.Own;
  first_value = λ e. no_value;
  process_of = process_of;
  clash = λ a b strict. ((a == 0) && (b == 0)) || (strict && ((a == 0) && (b == 2)));
  notifies = λ a e. (a == 0) && (e == 0);
  waits_on = λ a e. (a == 2) && (e == 0);
  act = λ x. record { effects = effects_of x.segment; left = left_of x.segment };
  start = start_of;
  look = λ q g s z ys. [];
  processes = 2;
  stop = record { 0 = 100 };
  limit = 10;
  breaks = λ x. false;
  stops = λ x. false;
}

-- what is asked of a program can be met
pub record Met (t : Tables (List ℕ)) : Type 0 where
  pub sound : Sound (program t)
  pub starts : Starts (program t)

abbrev pub ExampleMet : Type 0
ExampleMet = Met example
