-- Delays: how much later than a stamp something may come at the earliest.
use Rattle.std.specs.Prelude.{ℕ, ◌≡◌, ◌+◌, ◌-◌, ◌^◌, ◌<◌, ◌==◌, ◌⊎◌, if◌then◌else◌}
use Rattle.ooo_time.specs.declared.stamp.Stamp.{Stamp}
use Rattle.ooo_time.specs.declared.delay.Delay.{Delay}

-- a lesser time, or fewer delta cycles of the same time
abbrev pub IsLess : Delay → Delay → Type 0
IsLess d e = (d.time.0 < e.time.0) ⊎ ((d.time.0 ≡ e.time.0) × (d.deltas < e.deltas))

-- one delay and then another: without a time of its own the second adds its delta cycles, else it begins them anew
abbrev pub joined : Delay → Delay → Delay
joined d e =
    if e.time.0 == 0 then record { time = d.time; deltas = d.deltas + e.deltas }
    else record { time = record { 0 = d.time.0 + e.time.0 }; deltas = e.deltas }

-- the stamp by a delay after a stamp: the same time where the delay has none, else a later time, counted anew
abbrev pub advanced : Stamp → Delay → Stamp
advanced s d =
    if d.time.0 == 0 then record { time = s.time; delta = s.delta + d.deltas }
    else record { time = record { 0 = s.time.0 + d.time.0 }; delta = d.deltas }

-- the most delta cycles of a delay: each segment of a walk, of which there are at most 1,024, adds one at most
abbrev pub greatest_deltas : ℕ
greatest_deltas = 1024

-- the greatest time of a stamp that a delay is added to: a wait of the greatest time that begins at the greatest stop
abbrev pub greatest_wait : ℕ
greatest_wait = 2 ^ 63 - 2
