-- What a board looks up at each step.
use Rattle.std.specs.Prelude.{◌≡◌, ◌≢◌, ℕ, suc, ◌<◌, ◌≤◌, ◌^◌, ◌==◌, List, [], ◌∷◌, ◌++◌, Some, Bool, true, false, ◌||◌, ◌&&◌, not, if◌then◌else◌, filter, length, All, Contains, slice_get, slice_index_or}
use Rattle.ooo_value.specs.declared.bound.BoundChannel.{BoundChannel}
use Rattle.ooo_value.specs.declared.bound.BoundEvent.{BoundEvent}
use Rattle.ooo_value.specs.declared.bound.BoundEvent.TheVariants as event
use Rattle.ooo_value.specs.declared.bound.ChannelKind.{ChannelKind}
use Rattle.ooo_value.specs.declared.bound.ChannelKind.TheVariants as kind
use Rattle.ooo_code.specs.declared.design.Design.{Design}
use Rattle.ooo_code.specs.declared.segment.Segment.{Segment}
use Rattle.ooo_code.specs.declared.segment.SegmentEntry.{SegmentEntry}
use Rattle.ooo_channels.specs.Calls.{channel_of}
use Rattle.ooo_access.specs.declared.access.Access.{Access}
use Rattle.ooo_tables.specs.declared.tables.Tables.{Tables}
use Rattle.ooo_tables.specs.Tables.{AreTables}
use Rattle.ooo_dispatch.specs.Rules.{has, same_entry}
use Rattle.ooo_fronts.specs.Reaching.{AreReaches}
use Rattle.ooo_board.specs.declared.links.Links.{Links}
use Rattle.ooo_board.specs.declared.links.Watched.{Watched}

-- each process, channel and event has a number of 32 bits
pub record IsFew (design : Design) : Type 0 where
  pub processes : length design.processes < 2 ^ 32
  pub channels : length design.channels < 2 ^ 32
  pub events : length design.events < 2 ^ 32

-- ---- what a segment sees and only reads

-- what is seen of channel c: a signal that is read, or the ends of a fifo that are held
abbrev pub watched_if : (reads takes puts : Bool) → (c : ℕ) → ChannelKind → List Watched
watched_if reads takes puts c kind.Signal = if reads then record { channel = c; takes = false; puts = false } ∷ [] else []
watched_if reads takes puts c kind.Fifo =
    if takes || puts then record { channel = c; takes = takes; puts = puts } ∷ [] else []

-- what a segment with this access sees of channel c
abbrev pub watched_of : Access → (c : ℕ) → ChannelKind → List Watched
watched_of a c k = watched_if (has a.signals_read c) (has a.takes c) (has a.puts c) c k

-- the same of these channels, of which the first has the number c
abbrev pub watched_from : Access → (c : ℕ) → List BoundChannel → List Watched
watched_from a c [] = []
watched_from a c (x ∷ xs) = watched_of a c x.kind ++ watched_from a (suc c) xs

-- the variables that are read and not written
abbrev pub only_read : Access → List ℕ
only_read a = filter (λ x. not (has a.written x)) a.read

-- so many of these numbers are below c, and the others aren't
pub record IsUpTo (numbers : List ℕ) (at c : ℕ) : Type 0 where
  pub within : at ≤ length numbers
  pub before : (k : ℕ) → k < at → slice_index_or numbers k 0 < c
  pub after : (k : ℕ) → at ≤ k → k < length numbers → c ≤ slice_index_or numbers k 0

-- ---- who may wait on an event

-- a number stands in each of these lists, and nothing else is new in any list
pub record Adds (places : List ℕ) (n : ℕ) (old new : List (List ℕ)) : Type 0 where
  pub count : length new ≡ length old
  pub added : (e : ℕ) → Contains places e → Contains (slice_index_or new e []) n
  pub kept : (e m : ℕ) → Contains (slice_index_or old e []) m → Contains (slice_index_or new e []) m
  pub within : (bound : ℕ) → n < bound → ((e : ℕ) → All (λ m. m < bound) (slice_index_or old e [])) → (e : ℕ) → All (λ m. m < bound) (slice_index_or new e [])

-- the lists of events have each process of the first n segments whose entry waits on the event, and only processes
pub record AreWaiters (design : Design) (n : ℕ) (segments : List Segment) (access : List Access) (lists : List (List ℕ)) : Type 0 where
  pub count : length lists ≡ length design.events
  pub all :
      (g e : ℕ) (s : Segment) (a : Access) → g < n → slice_get segments g ≡ Some s → slice_get access g ≡ Some a → has a.waited e ≡ true →
      Contains (slice_index_or lists e []) s.process
  pub within : (e : ℕ) → All (λ q. q < length design.processes) (slice_index_or lists e [])

-- the lists of channels have the first n events, and only events
pub record AreChannelEvents (design : Design) (n : ℕ) (lists : List (List ℕ)) : Type 0 where
  pub count : length lists ≡ length design.channels
  pub all :
      (e : ℕ) (k : BoundEvent) → e < n → slice_get design.events e ≡ Some k → k ≢ event.Own → Contains (slice_index_or lists (channel_of k) []) e
  pub within : (c : ℕ) → All (λ e. e < length design.events) (slice_index_or lists c [])

-- the events on which segments with these accesses wait are there
abbrev pub WaitsOnEvents : Design → List Access → Type 0
WaitsOnEvents design access = (g e : ℕ) (a : Access) → slice_get access g ≡ Some a → Contains a.waited e → e < length design.events

-- ---- where a process's segments begin

-- none of the segments from the one of number n on that are of a process is before its start
pub record AreStarts (design : Design) (n : ℕ) (segments : List Segment) (starts : List ℕ) : Type 0 where
  pub count : length starts ≡ length design.processes
  pub first : (g : ℕ) (s : Segment) → n ≤ g → slice_get segments g ≡ Some s → slice_index_or starts s.process 0 ≤ g

-- a segment is that of process p that begins at an entry
abbrev pub begins_at : (p : ℕ) → SegmentEntry → Segment → Bool
begins_at p entry s = (s.process == p) && same_entry s.entry entry

-- ---- all of it

-- these are the look-ups of a design with its tables
pub record AreLinks (design : Design) (t : Tables) (l : Links) : Type 0 where
  pub watched_count : length l.watched.items ≡ length t.access
  pub watched : (g : ℕ) (a : Access) → slice_get t.access g ≡ Some a → slice_index_or l.watched.items g [] ≡ watched_from a 0 design.channels
  pub read_count : length l.only_read.items ≡ length t.access
  pub only_read : (g : ℕ) (a : Access) → slice_get t.access g ≡ Some a → slice_index_or l.only_read.items g [] ≡ only_read a
  pub waiters : AreWaiters design (length t.graph.segments) t.graph.segments t.access l.waiters.items
  pub channel_events : AreChannelEvents design (length design.events) l.channel_events.items
  pub starts : AreStarts design 0 t.graph.segments l.starts.items
  pub reaches : AreReaches t l.reaches

-- the look-ups are those of a design with its tables, which has these segments, and some segment of process p begins at an entry
pub record HasSegment (l : Links) (segments : List Segment) (p : ℕ) (entry : SegmentEntry) : Type 0 where
  pub design : Design
  pub tables : Tables
  pub are_tables : AreTables design tables
  pub segments_are : tables.graph.segments ≡ segments
  pub links : AreLinks design tables l
  pub number : ℕ
  pub segment : Segment
  pub there : slice_get segments number ≡ Some segment
  pub begins : begins_at p entry segment ≡ true
