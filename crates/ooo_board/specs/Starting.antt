-- What a board keeps as it starts.
use Rattle.std.specs.Prelude.{◌≡◌, ℕ, ◌<◌, ◌≤◌, ◌^◌, List, Option, None, Some, length, map, replicate, pos}
use Rattle.ooo_time.specs.declared.stamp.Stamp.{Stamp}
use Rattle.ooo_time.specs.Scales.{greatest_delta, greatest_time}
use Rattle.ooo_value.specs.declared.bound.BoundVariable.{BoundVariable}
use Rattle.ooo_value.specs.declared.kinds.Kind.{Kind}
use Rattle.ooo_value.specs.declared.values.Value.{Value}
use Rattle.ooo_value.specs.Values.{value_of}
use Rattle.ooo_code.specs.declared.design.Design.{Design}
use Rattle.ooo_code.specs.declared.design.Proc.{Proc}
use Rattle.ooo_code.specs.declared.limits.Limits.{Limits}
use Rattle.ooo_dispatch.specs.Rules.{start_wait}
use Rattle.ooo_fronts.specs.declared.front.Front.{Front}
use Rattle.ooo_board.specs.Cores.{maybe_wait}
use Rattle.ooo_board.specs.declared.process.Process.{Process}
use Rattle.ooo_board.specs.declared.process.Waiting.{Waiting}

-- the limits are in range: there may be a delta cycle, and stamps up to the limits can be counted
pub record AreInRange (limits : Limits) : Type 0 where
  pub some : 0 < limits.deltas
  pub deltas : limits.deltas ≤ greatest_delta
  pub stop : limits.stop.0 ≤ greatest_time

-- each channel and event has a number of 32 bits
pub record HaveNumbers (design : Design) : Type 0 where
  pub channels : length design.channels < 2 ^ 32
  pub events : length design.events < 2 ^ 32

-- so many values of kinds, each 0
abbrev pub zeros_of : List Kind → List Value
zeros_of kinds = map (λ k. value_of k (pos 0)) kinds

-- the cells of variables as they start
abbrev pub first_cells : List BoundVariable → List (List Value)
first_cells variables = map (λ x. replicate x.length x.start) variables

-- a process at its start, of which this is the first segment
pub record IsFirst (segment : ℕ) (process : Proc) (x : Process) : Type 0 where
  pub slots : x.slots ≡ zeros_of process.slots
  pub waiting : maybe_wait x.waiting ≡ Some (start_wait segment process)
  pub activations : x.activations ≡ 0

-- a segment at a stamp, if there is one
abbrev pub front_at : (segment : ℕ) → Option Stamp → Option Front
front_at segment None = None
front_at segment (Some s) = Some (record { segment = segment; stamp = s })

-- the front by a wait whose events don't fire
abbrev pub timed_front : Option Waiting → Option Front
timed_front None = None
timed_front (Some w) = front_at w.segment w.timeout

-- the front of a process at its start
abbrev pub first_front : Process → Option Front
first_front x = timed_front x.waiting
