-- What a front can come to, whatever its stamp: to which segments it leads, and which fronts it can hold up.
use Rattle.std.specs.Prelude.{◌≡◌, ◌≢◌, ℕ, ◌<◌, ◌↔◌, ◌==◌, if◌then◌else◌, List, [], Option, None, Some, IsTrue, true, Contains, is_some, length, slice_index_or}
use Rattle.ooo_time.specs.declared.delay.Delay.{Delay}
use Rattle.ooo_time.specs.Delays.{IsLess}
use Rattle.ooo_access.specs.Access.{AreAscending}
use Rattle.ooo_conflicts.specs.Kinds.{is_clash, kind_at}
use Rattle.ooo_advance.specs.Rows.{delay_at, entry_at}
use Rattle.ooo_advance.specs.Walks.{no_delay}
use Rattle.ooo_tables.specs.declared.tables.Tables.{Tables}
use Rattle.ooo_fronts.specs.declared.reaching.Relation.{Relation}
use Rattle.ooo_fronts.specs.declared.reaching.Relation.TheVariants.{Leads, AtOnce, Met}
use Rattle.ooo_fronts.specs.Fronts.{process_in}

-- ---- segments

-- segment a leads to segment b
abbrev pub LeadsTo : Tables → (a b : ℕ) → Type 0
LeadsTo t a b = (b < length t.graph.segments) × IsTrue (is_some (entry_at t.advance a b))

-- segment a leads to segment b with no delay, so that it stays at its stamp
abbrev pub LeadsAtOnce : Tables → (a b : ℕ) → Type 0
LeadsAtOnce t a b = (b < length t.graph.segments) × (entry_at t.advance a b ≡ Some no_delay)

-- segment c is of another process than segment b, which clashes with it where it comes at an earlier stamp
abbrev pub Meets : Tables → (b c : ℕ) → Type 0
Meets t b c = (process_in t b ≢ process_in t c) × IsTrue (is_clash (kind_at t.clash b c) true)

-- segment b is one that meets segment c
abbrev pub IsMetBy : Tables → (c b : ℕ) → Type 0
IsMetBy t c b = (b < length t.graph.segments) × Meets t b c

-- segment a stands so to segment b
abbrev pub Relates : Tables → Relation → (a b : ℕ) → Type 0
Relates t Leads a b = IsTrue (is_some (entry_at t.advance a b))
Relates t AtOnce a b = entry_at t.advance a b ≡ Some no_delay
Relates t Met a b = Meets t b a

-- which there is
abbrev pub RelatesTo : Tables → Relation → (a b : ℕ) → Type 0
RelatesTo t k a b = (b < length t.graph.segments) × Relates t k a b

-- a front of segment a can hold up one of segment c: by a segment to which it leads
pub record CanHold (t : Tables) (a c : ℕ) : Type 0 where
  pub by : ℕ
  pub leads : LeadsTo t a by
  pub meets : Meets t by c

-- ---- processes

-- segment b meets one of process p
abbrev pub MeetsProcess : Tables → (b p : ℕ) → Type 0
MeetsProcess t b p = (c : ℕ) × (c < length t.graph.segments) × (process_in t c ≡ p) × Meets t b c

-- a front of segment a can hold up one of process p
abbrev pub CanHoldProcess : Tables → (a p : ℕ) → Type 0
CanHoldProcess t a p = (c : ℕ) × (c < length t.graph.segments) × (process_in t c ≡ p) × CanHold t a c

-- a front of process p can be held up by one of process q
abbrev pub CanBeHeldBy : Tables → (p q : ℕ) → Type 0
CanBeHeldBy t p q = (a : ℕ) × (a < length t.graph.segments) × (process_in t a ≡ q) × CanHoldProcess t a p

-- ---- delays

-- segment a leads by this delay to one that meets segment c
pub record MeetsAfter (t : Tables) (a c : ℕ) (d : Delay) : Type 0 where
  pub by : ℕ
  pub within : by < length t.graph.segments
  pub leads : entry_at t.advance a by ≡ Some d
  pub meets : Meets t by c

-- the least of these delays; none where it leads to no such segment
abbrev pub IsSoonest : Tables → (a c : ℕ) → Option Delay → Type 0
IsSoonest t a c None = (d : Delay) → MeetsAfter t a c d → ⊥
IsSoonest t a c (Some d) = MeetsAfter t a c d × ((e : Delay) → MeetsAfter t a c e → IsLess e d → ⊥)

-- the delay by which segment a leads to segment b, if that is of another process than segment c
abbrev pub delay_by : Tables → (a b c : ℕ) → Option Delay
delay_by t a b c = if process_in t b == process_in t c then None else entry_at t.advance a b

-- the least delays by which segment a leads to what meets each of the first i segments
pub record IsSoonestRow (t : Tables) (a i : ℕ) (row : List (Option Delay)) : Type 0 where
  pub count : length row ≡ i
  pub each : (c : ℕ) → c < i → IsSoonest t a c (delay_at row c)

-- one such row for each of the first i segments
pub record AreSoonest (t : Tables) (i : ℕ) (rows : List (List (Option Delay))) : Type 0 where
  pub count : length rows ≡ i
  pub each : (a : ℕ) → a < i → IsSoonestRow t a (length t.graph.segments) (slice_index_or rows a [])

-- ---- lists

-- the numbers of which this holds, ascending
pub record IsListOf (P : ℕ → Type 0) (numbers : List ℕ) : Type 0 where
  pub exact : (n : ℕ) → Contains numbers n ↔ P n
  pub ascending : AreAscending numbers

-- for each number below the count those that stand in this relation to it
pub record AreListsOf (P : ℕ → ℕ → Type 0) (count : ℕ) (lists : List (List ℕ)) : Type 0 where
  pub many : length lists ≡ count
  pub each : (k : ℕ) → k < count → IsListOf (P k) (slice_index_or lists k [])

-- of each segment those to which it leads, those of them to which it does with no delay, those that meet it, and the processes
-- that it can hold up; of each process those by which it can be held up; and of each two segments the least delay by which the
-- first leads to one that meets the second
pub record Reached : Type 0 where
  pub leads : List (List ℕ)
  pub at_once : List (List ℕ)
  pub meeting : List (List ℕ)
  pub affected : List (List ℕ)
  pub holders : List (List ℕ)
  pub soonest : List (List (Option Delay))

-- they are those of the tables, and there are holders of each process that has a segment
pub record AreReaches (t : Tables) (r : Reached) : Type 0 where
  pub leads : AreListsOf (LeadsTo t) (length t.graph.segments) r.leads
  pub at_once : AreListsOf (LeadsAtOnce t) (length t.graph.segments) r.at_once
  pub meeting : AreListsOf (IsMetBy t) (length t.graph.segments) r.meeting
  pub affected : AreListsOf (CanHoldProcess t) (length t.graph.segments) r.affected
  pub holders : AreListsOf (CanBeHeldBy t) (length r.holders) r.holders
  pub soonest : AreSoonest t (length t.graph.segments) r.soonest
  pub processes : (a : ℕ) → a < length t.graph.segments → process_in t a < length r.holders
