-- What a segment touches is there.
use Rattle.std.specs.Prelude.{◌≡◌, ℕ, ◌<◌, Some, IsSome, length, slice_get, Contains}
use Rattle.ooo_code.specs.declared.design.Design.{Design}
use Rattle.ooo_code.specs.Sound.{fifo_kind, signal_kind}
use Rattle.ooo_access.specs.declared.access.Access.{Access}
use Rattle.ooo_dispatch.specs.Rules.{Rules}

-- the variables, signals and fifos of an access are there, and the events on which its entry waits
pub record IsInside (design : Design) (a : Access) : Type 0 where
  pub read : (x : ℕ) → Contains a.read x → x < length design.variables
  pub written : (x : ℕ) → Contains a.written x → x < length design.variables
  pub signals : (c : ℕ) → Contains a.signals_read c → IsSome (signal_kind (slice_get design.channels c))
  pub takes : (c : ℕ) → Contains a.takes c → IsSome (fifo_kind (slice_get design.channels c))
  pub puts : (c : ℕ) → Contains a.puts c → IsSome (fifo_kind (slice_get design.channels c))
  pub waited : (e : ℕ) → Contains a.waited e → e < length design.events

-- so it is of each segment
abbrev pub AreInside : Rules → Type 0
AreInside r = (g : ℕ) (a : Access) → slice_get r.access g ≡ Some a → IsInside r.design a
