-- What holds a front up, and how many clashes do.
use Rattle.std.specs.Prelude.{◌≡◌, ◌≢◌, ℕ, zero, suc, ◌+◌, ◌*◌, ◌<◌, ◌⊎◌, ◌==◌, nat_lt, List, Option, None, Some, is_some, length, Bool, true, false, ◌&&◌, if◌then◌else◌, slice_index_or, Contains}
use Rattle.ooo_code.specs.declared.design.Design.{Design}
use Rattle.ooo_code.specs.declared.limits.Limits.{Limits}
use Rattle.ooo_lemmas.specs.Counting.{count}
use Rattle.ooo_access.specs.Access.{AreAscending}
use Rattle.ooo_time.specs.declared.stamp.Stamp.{Stamp}
use Rattle.ooo_time.specs.Stamps.{is_before}
use Rattle.ooo_time.specs.Delays.{advanced}
use Rattle.ooo_meaning.specs.World.{same_stamp}
use Rattle.ooo_conflicts.specs.Kinds.{is_clash, kind_at}
use Rattle.ooo_advance.specs.Rows.{entry_at}
use Rattle.ooo_tables.specs.declared.tables.Tables.{Tables}
use Rattle.ooo_dispatch.specs.Least.{HoldsUp, rules_of}
use Rattle.ooo_fronts.specs.declared.front.Front.{Front}
use Rattle.ooo_fronts.specs.declared.front.Hold.{Hold}
use Rattle.ooo_fronts.specs.Fronts.{Kept, front_is, process_in}
use Rattle.ooo_fronts.specs.Reaching.{CanHoldProcess}

-- ---- one front and one segment

-- segment b at a stamp clashes with the front f of process p: strictly where it comes earlier, and else at the same stamp by a lower
-- process
abbrev pub clashes_at : Tables → (b : ℕ) → Stamp → (p : ℕ) → Front → Bool
clashes_at t b s p f =
    if is_before s f.stamp then is_clash (kind_at t.clash b f.segment) true
    else same_stamp s f.stamp && (nat_lt (process_in t b) p && is_clash (kind_at t.clash b f.segment) false)

-- the stamp, if segment b at it clashes with the front f of process p
abbrev pub if_clashing : Tables → (p : ℕ) → (f : Front) → (b : ℕ) → Stamp → Option Stamp
if_clashing t p f b s = if clashes_at t b s p f then Some s else None

-- the stamp at which the front g leads to segment b, where that isn't of process p and clashes there with the front f of p
unfoldable pub hold_at : Tables → (g : Front) → (p : ℕ) → (f : Front) → (b : ℕ) → Option Stamp
hold_at t g p f b =
    if process_in t b == p then None
    else elim (entry_at t.advance g.segment b) [ None ↦ None | Some d ↦ if_clashing t p f b (advanced g.stamp d) ]

-- ---- how many

-- by how many segments the front g holds the front f of process p up
unfoldable pub holds_of : Tables → (g : Front) → (p : ℕ) → (f : Front) → ℕ
holds_of t g p f = count (λ b. is_some (hold_at t g p f b)) (length t.graph.segments)

-- the same of a front or none
abbrev pub maybe_holds_of : Tables → Option Front → (p : ℕ) → (f : Front) → ℕ
maybe_holds_of t None p f = 0
maybe_holds_of t (Some g) p f = holds_of t g p f

-- by how many segments the front of process q does; p's own doesn't
abbrev pub holds_from : Tables → List (Option Front) → (p : ℕ) → (f : Front) → (q : ℕ) → ℕ
holds_from t fronts p f q = if q == p then 0 else maybe_holds_of t (slice_index_or fronts q None) p f

-- what a function gives of all numbers below n, added up
abbrev pub total : (ℕ → ℕ) → (n : ℕ) → ℕ
total f zero = 0
total f (suc n) = total f n + f n

-- by how many segments the fronts of all other processes hold a front of process p up; none without one
abbrev pub held_at : Tables → List (Option Front) → (p : ℕ) → Option Front → ℕ
held_at t fronts p None = 0
held_at t fronts p (Some f) = total (holds_from t fronts p f) (length fronts)

-- how many pairs of a front of another process and a segment hold process p up
unfoldable pub held : Tables → List (Option Front) → (p : ℕ) → ℕ
held t fronts p = held_at t fronts p (slice_index_or fronts p None)

-- these are the counts of the fronts
pub record AreCounts (t : Tables) (fronts : List (Option Front)) (counts : List ℕ) : Type 0 where
  pub count : length counts ≡ length fronts
  pub each : (p : ℕ) → slice_index_or counts p 0 ≡ held t fronts p

-- the entry in the row of process p for process q, of a table with a row for each of so many processes
abbrev pub entry_in : (processes : ℕ) → (table : List ℕ) → (p q : ℕ) → ℕ
entry_in n table p q = slice_index_or table (p * n + q) 0

-- if process q has a front and the segment of g can hold it up, the table has by how many segments the front g of process p does
abbrev pub IsEntry : Tables → List (Option Front) → (holds : List ℕ) → (p q : ℕ) → (g : Front) → Type 0
IsEntry t fronts holds p q g = (f : Front) → slice_index_or fronts q None ≡ Some f → CanHoldProcess t g.segment q →
    entry_in (length fronts) holds p q ≡ holds_of t g q f

-- so it is of the fronts of all others on that of process q
abbrev pub IsColumn : Tables → List (Option Front) → (q : ℕ) → (holds : List ℕ) → Type 0
IsColumn t fronts q holds = (p : ℕ) (g : Front) → p ≢ q → slice_index_or fronts p None ≡ Some g → IsEntry t fronts holds p q g

-- and so it is of all fronts
pub record AreHolds (t : Tables) (fronts : List (Option Front)) (holds : List ℕ) : Type 0 where
  pub size : length holds ≡ length fronts * length fronts
  pub column : (q : ℕ) → IsColumn t fronts q holds

-- the counts and the table that are kept are those of the fronts
pub record AreKept (t : Tables) (k : Kept) : Type 0 where
  pub counts : AreCounts t k.fronts k.counts
  pub holds : AreHolds t k.fronts k.holds

-- a table before and after is the same but for the entry of processes p and q
pub record ChangesEntry (processes p q : ℕ) (before after : List ℕ) : Type 0 where
  pub size : length after ≡ length before
  pub others : (k l : ℕ) → l < processes → (k ≢ p) ⊎ (l ≢ q) → entry_in processes after k l ≡ entry_in processes before k l

-- the same but for the column of process q
pub record ChangesColumn (processes q : ℕ) (before after : List ℕ) : Type 0 where
  pub size : length after ≡ length before
  pub others : (k l : ℕ) → l < processes → l ≢ q → entry_in processes after k l ≡ entry_in processes before k l

-- the counts before and after are the same but for that of process q
pub record ChangesOnly (q : ℕ) (before after : List ℕ) : Type 0 where
  pub count : length after ≡ length before
  pub others : (k : ℕ) → k ≢ q → slice_index_or after k 0 ≡ slice_index_or before k 0

-- ---- some of many numbers

-- the numbers ascend and are below n, and this holds of each other number below n
pub record HoldsOfOthers (P : ℕ → Type 0) (n : ℕ) (numbers : List ℕ) : Type 0 where
  pub ascending : AreAscending numbers
  pub within : (b : ℕ) → Contains numbers b → b < n
  pub others : (b : ℕ) → b < n → (Contains numbers b → ⊥) → P b

-- the front g holds the front f of process p up by none but these segments
abbrev pub HoldsByNoOther : Tables → (g : Front) → (p : ℕ) → (f : Front) → (segments : List ℕ) → Type 0
HoldsByNoOther t g p f segments = HoldsOfOthers (λ b. is_some (hold_at t g p f b) ≡ false) (length t.graph.segments) segments

-- ---- which one

-- the front of another process holds that of process p up, by that segment and at that stamp
pub record IsHold (t : Tables) (fronts : List (Option Front)) (p : ℕ) (h : Hold) : Type 0 where
  pub holding : Front
  pub held : Front
  pub other : h.front ≢ p
  pub front : slice_index_or fronts h.front None ≡ Some holding
  pub own : slice_index_or fronts p None ≡ Some held
  pub within : h.segment < length t.graph.segments
  pub at : hold_at t holding p held h.segment ≡ Some h.at

-- by the rule, the front of the one process holds that of the other up by that segment, to which it leads at that stamp
pub record IsHoldByRule (design : Design) (limits : Limits) (t : Tables) (p : ℕ) (h : Hold) (holding held : Front) : Type 0 where
  pub up : HoldsUp (rules_of design limits t) t.advance (front_is holding) p (front_is held)
  pub segment : up.segment ≡ h.segment
  pub at : advanced holding.stamp up.delay ≡ h.at

-- a front of a lower process, or a lower segment by the same front
abbrev pub IsSooner : Hold → Hold → Type 0
IsSooner g h = (g.front < h.front) ⊎ ((g.front ≡ h.front) × (g.segment < h.segment))

-- the first that holds process p up; none where nothing does
abbrev pub IsFirstHold : Tables → List (Option Front) → (p : ℕ) → Option Hold → Type 0
IsFirstHold t fronts p None = (h : Hold) → IsHold t fronts p h → ⊥
IsFirstHold t fronts p (Some h) = IsHold t fronts p h × ((g : Hold) → IsHold t fronts p g → IsSooner g h → ⊥)

-- the first segment by which the front g holds the front f of process p up, with the stamp; none where none does
abbrev pub IsFirstBy : Tables → (g : Front) → (p : ℕ) → (f : Front) → Option (ℕ × Stamp) → Type 0
IsFirstBy t g p f None = (b : ℕ) → b < length t.graph.segments → hold_at t g p f b ≡ None
IsFirstBy t g p f (Some (b, s)) =
    (b < length t.graph.segments) × (hold_at t g p f b ≡ Some s) × ((a : ℕ) → a < b → hold_at t g p f a ≡ None)

-- the first hold by the front of process q on process p; none where that doesn't hold p up
abbrev pub IsFirstFrom : Tables → List (Option Front) → (p q : ℕ) → Option Hold → Type 0
IsFirstFrom t fronts p q None = (h : Hold) → h.front ≡ q → IsHold t fronts p h → ⊥
IsFirstFrom t fronts p q (Some h) =
    (h.front ≡ q) × IsHold t fronts p h × ((g : Hold) → g.front ≡ q → IsHold t fronts p g → g.segment < h.segment → ⊥)
