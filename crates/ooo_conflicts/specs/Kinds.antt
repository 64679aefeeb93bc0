-- A table of clashes.
use Rattle.std.specs.Prelude.{◌≡◌, ℕ, ◌↔◌, List, [], Bool, true, false, IsTrue, Contains, slice_get, slice_index_or, Some, length}
use Rattle.ooo_value.specs.declared.bound.BoundEvent.{BoundEvent}
use Rattle.ooo_code.specs.Sound.{IsOwn}
use Rattle.ooo_access.specs.declared.access.Access.{Access}
use Rattle.ooo_access.specs.Access.{AreAscending}
use Rattle.ooo_conflicts.specs.declared.kind.ClashKind.{ClashKind}
use Rattle.ooo_conflicts.specs.declared.kind.ClashKind.TheVariants.{Apart, Earlier, Same}
use Rattle.ooo_conflicts.specs.declared.called.Called.{Called}
use Rattle.ooo_conflicts.specs.Clashes.{Calls, Clash}

-- whether there is a clash, strictly or not
abbrev pub is_clash : ClashKind → (strict : Bool) → Bool
is_clash Apart strict = false
is_clash Earlier strict = strict
is_clash Same strict = true

-- the kind says when the two clash
abbrev pub IsKindOf : List BoundEvent → Access → Access → ClashKind → Type 0
IsKindOf events b g k = (strict : Bool) → IsTrue (is_clash k strict) ↔ Clash events b g strict

-- what a table says of two segments
abbrev pub kind_at : List (List ClashKind) → (b g : ℕ) → ClashKind
kind_at rows b g = slice_index_or (slice_index_or rows b []) g Apart

-- the row of a segment: the kind of each of these that follow
pub record IsRow (events : List BoundEvent) (b : Access) (access : List Access) (row : List ClashKind) : Type 0 where
  pub count : length row ≡ length access
  pub kinds : (g : ℕ) (y : Access) → slice_get access g ≡ Some y → IsKindOf events b y (slice_index_or row g Apart)

-- a table of the segments that have these accesses: of any two of them it says when they clash
pub record IsTable (events : List BoundEvent) (access : List Access) (rows : List (List ClashKind)) : Type 0 where
  pub count : length rows ≡ length access
  pub kinds : (b g : ℕ) (x y : Access) → slice_get access b ≡ Some x → slice_get access g ≡ Some y → IsKindOf events x y (kind_at rows b g)

-- the events that are notified or cancelled, and those of them that are of type sc_event
pub record AreCalled (events : List BoundEvent) (access : Access) (called : Called) : Type 0 where
  pub all : (e : ℕ) → Contains called.all e ↔ Calls access e
  pub own : (e : ℕ) → Contains called.own e ↔ (Calls access e × IsOwn (slice_get events e))

-- both lists are in order
pub record AreListed (called : Called) : Type 0 where
  pub all : AreAscending called.all
  pub own : AreAscending called.own

-- what each of these accesses calls, in their order
pub record AllCalled (events : List BoundEvent) (access : List Access) (called : List Called) : Type 0 where
  pub count : length called ≡ length access
  pub each : (k : ℕ) (x : Access) (c : Called) → slice_get access k ≡ Some x → slice_get called k ≡ Some c → AreCalled events x c
  pub listed : (k : ℕ) (c : Called) → slice_get called k ≡ Some c → AreListed c
