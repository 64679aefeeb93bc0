-- The access of a segment: what its nodes touch, and the events on which its entry waits.
use Rattle.std.specs.Prelude.{◌≡◌, ℕ, ◌<◌, ◌↔◌, ◌⊎◌, List, Option, AllPairs, Contains, IsSomeAnd, slice_get}
use Rattle.ooo_time.specs.declared.time.Time.{Time}
use Rattle.ooo_code.specs.declared.design.Design.{Design}
use Rattle.ooo_code.specs.declared.design.Proc.{Proc}
use Rattle.ooo_code.specs.declared.segment.Segment.{Segment}
use Rattle.ooo_code.specs.declared.segment.SegmentEntry.{SegmentEntry}
use Rattle.ooo_code.specs.Segments.{Accesses, EntryWaitsOn}
use Rattle.ooo_code.specs.Touches.{Touch, Reads, Writes, ReadsSignal, WritesSignal, HoldsReading, HoldsWriting, Notifies, Cancels}
use Rattle.ooo_access.specs.declared.access.Access.{Access}
use Rattle.ooo_access.specs.Notices.{AreInOrder}

-- these numbers are just those of which a fact holds
abbrev pub AreThose : (ℕ → Type 0) → List ℕ → Type 0
AreThose P numbers = (n : ℕ) → Contains numbers n ↔ P n

-- each list holds just what is touched in this way, and the last one just what is waited on
pub record Lists (T : Touch → Type 0) (W : ℕ → Type 0) (access : Access) : Type 0 where
  pub read : AreThose (λ x. T (Reads x)) access.read
  pub written : AreThose (λ x. T (Writes x)) access.written
  pub signals_read : AreThose (λ c. T (ReadsSignal c)) access.signals_read
  pub signals_written : AreThose (λ c. T (WritesSignal c)) access.signals_written
  pub takes : AreThose (λ c. T (HoldsReading c)) access.takes
  pub puts : AreThose (λ c. T (HoldsWriting c)) access.puts
  pub cancelled : AreThose (λ e. T (Cancels e)) access.cancelled
  pub notified : (e : ℕ) (t : Option Time) → Contains access.notified (e, t) ↔ T (Notifies e t)
  pub waited : AreThose W access.waited

-- numbers in order, none of them twice
abbrev pub AreAscending : List ℕ → Type 0
AreAscending numbers = AllPairs (λ m n. m < n) numbers

-- each list is in order, and nothing stands in it twice
pub record IsInOrder (access : Access) : Type 0 where
  pub read : AreAscending access.read
  pub written : AreAscending access.written
  pub signals_read : AreAscending access.signals_read
  pub signals_written : AreAscending access.signals_written
  pub takes : AreAscending access.takes
  pub puts : AreAscending access.puts
  pub cancelled : AreAscending access.cancelled
  pub waited : AreAscending access.waited
  pub notified : AreInOrder access.notified

-- the access of the segment of this process that begins at this entry
abbrev pub IsAccessOf : Design → Proc → SegmentEntry → Access → Type 0
IsAccessOf design process entry access = Lists (Accesses design process entry) (EntryWaitsOn design process entry) access

-- the access of a segment of the design
abbrev pub IsAccess : Design → Segment → Access → Type 0
IsAccess design segment access = IsSomeAnd (slice_get design.processes segment.process) (λ process. IsAccessOf design process segment.entry access)
