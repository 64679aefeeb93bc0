-- When two segments clash: by what they touch, and by what one waits on.
use Rattle.std.specs.Prelude.{◌≡◌, ℕ, ◌⊎◌, List, Bool, true, Option, Contains, slice_get}
use Rattle.ooo_time.specs.declared.time.Time.{Time}
use Rattle.ooo_value.specs.declared.bound.BoundEvent.{BoundEvent}
use Rattle.ooo_code.specs.Sound.{IsOwn}
use Rattle.ooo_access.specs.declared.access.Access.{Access}

-- a number is in both lists
abbrev pub Share : List ℕ → List ℕ → Type 0
Share xs ys = (n : ℕ) × Contains xs n × Contains ys n

-- it notifies the event, by whatever delay, or cancels it
abbrev pub Calls : Access → ℕ → Type 0
Calls access e = ((t : Option Time) × Contains access.notified (e, t)) ⊎ Contains access.cancelled e

-- one writes a variable that the other reads or writes
abbrev pub ShareVariable : Access → Access → Type 0
ShareVariable b g = Share b.written g.written ⊎ (Share b.written g.read ⊎ Share b.read g.written)

-- both notify or cancel one event of type sc_event
abbrev pub ShareEvent : List BoundEvent → Access → Access → Type 0
ShareEvent events b g = (e : ℕ) × IsOwn (slice_get events e) × Calls b e × Calls g e

-- b notifies or cancels an event on which the entry of g waits
abbrev pub CallsWaited : Access → Access → Type 0
CallsWaited b g = (e : ℕ) × Calls b e × Contains g.waited e

-- b writes a signal that g reads
abbrev pub WritesRead : Access → Access → Type 0
WritesRead b g = Share b.signals_written g.signals_read

-- they hold the two different ends of one fifo
abbrev pub ShareFifo : Access → Access → Type 0
ShareFifo b g = Share b.takes g.puts ⊎ Share b.puts g.takes

-- they clash even at one stamp
abbrev pub ClashSame : List BoundEvent → Access → Access → Type 0
ClashSame events b g = ShareVariable b g ⊎ ShareEvent events b g

-- they clash where b comes at an earlier stamp
abbrev pub ClashEarlier : Access → Access → Type 0
ClashEarlier b g = CallsWaited b g ⊎ (WritesRead b g ⊎ ShareFifo b g)

-- segment b clashes with segment g, strictly where b comes at an earlier stamp
abbrev pub Clash : List BoundEvent → Access → Access → (strict : Bool) → Type 0
Clash events b g strict = ClashSame events b g ⊎ ((strict ≡ true) × ClashEarlier b g)
