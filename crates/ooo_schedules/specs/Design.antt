-- A board whose fronts come from waits, and from what was done to events in order of place.
use Rattle.std.specs.Prelude.{◌≡◌, ℕ, ◌⊎◌, ◌<◌, Bool, true, false, not, ◌&&◌, ◌||◌, nat_lt, List, [], ◌∷◌, map, Option, Some, None, if◌then◌else◌}
use Rattle.ooo_schedules.specs.Model.{Act, Front, In, last, Model}

-- how the last activation of a process left it: the segment that runs next, the time-out, and the events with the stamp since which it waits
pub record Wait (S : Type 0) : Type 0 where
  pub segment : ℕ
  pub timeout : Option S
  pub events : List ℕ
  pub since : Option S

pub record Design : Type 1 where
  pub Stamp : Type 0
  pub Reads : Type 0
  pub before : Stamp → Stamp → Type 0
  pub is_before : Stamp → Stamp → Bool
  pub process_of : ℕ → ℕ
  pub Clash : ℕ → ℕ → Bool → Type 0
  pub Wakes : ℕ → ℕ → Type 0
  pub Reaches : ℕ → Stamp → ℕ → Stamp → Type 0
  pub LeadsTo : ℕ → Stamp → ℕ → Stamp → Type 0
  -- an event: what is kept of it, what an activation does to it, and the least stamp after one at which it fires or is to fire
  pub Slot : Type 0
  pub no_slot : ℕ → Slot
  pub touches : ℕ → Act Stamp Reads → Bool
  pub step : ℕ → Act Stamp Reads → Slot → Slot
  pub first : Slot → Option Stamp → Option Stamp
  -- the wait of a process whose last activation is this one; None where it ended
  pub wait : ℕ → Option (Act Stamp Reads) → Option (Wait Stamp)
  -- what a segment of a process reads at a stamp: of its last activation, and of those that it may see
  pub sees : ℕ → ℕ → Stamp → Act Stamp Reads → Bool
  pub look : ℕ → ℕ → Stamp → Option (Act Stamp Reads) → List (Act Stamp Reads) → Reads
  pub processes : ℕ
  pub Within : Stamp → Type 0
  pub AtLimit : Stamp → Type 0
  pub Cuts : Act Stamp Reads → Stamp → ℕ → Type 0

abbrev pub Acts : Design → Type 0
Acts d = List (Act d.Stamp d.Reads)

-- ---- in order of place, the last first

abbrev pub is_earlier : (d : Design) → Act d.Stamp d.Reads → Act d.Stamp d.Reads → Bool
is_earlier d x y = d.is_before x.stamp y.stamp || (not (d.is_before y.stamp x.stamp) && nat_lt x.process y.process)

abbrev pub insert : (d : Design) → Act d.Stamp d.Reads → Acts d → Acts d
insert d x [] = x ∷ []
insert d x (y ∷ ys) = if is_earlier d y x then x ∷ y ∷ ys else y ∷ insert d x ys

abbrev pub sort : (d : Design) → Acts d → Acts d
sort d [] = []
sort d (x ∷ xs) = insert d x (sort d xs)

abbrev pub only : {A : Type 0} → (A → Bool) → List A → List A
only test [] = []
only test (x ∷ xs) = if test x then x ∷ only test xs else only test xs

-- ---- fronts

abbrev pub slot : (d : Design) → ℕ → Acts d → d.Slot
slot d e [] = d.no_slot e
slot d e (x ∷ xs) = d.step e x (slot d e xs)

abbrev pub sooner : (d : Design) → Option d.Stamp → Option d.Stamp → Option d.Stamp
sooner d None b = b
sooner d (Some a) None = Some a
sooner d (Some a) (Some b) = if d.is_before b a then Some b else Some a

abbrev pub soonest : (d : Design) → List (Option d.Stamp) → Option d.Stamp
soonest d [] = None
soonest d (t ∷ ts) = sooner d t (soonest d ts)

abbrev pub times : (d : Design) → Wait d.Stamp → Acts d → List (Option d.Stamp)
times d w xs = w.timeout ∷ map (λ e. d.first (slot d e xs) w.since) w.events

abbrev pub front_by : {S : Type 0} → ℕ → Option S → Option (Front S)
front_by g None = None
front_by g (Some s) = Some (record { segment = g; stamp = s })

abbrev pub front_when : (d : Design) → Acts d → Option (Wait d.Stamp) → Option (Front d.Stamp)
front_when d xs None = None
front_when d xs (Some w) = front_by w.segment (soonest d (times d w xs))

abbrev pub model : Design → Model
model d = record {
  Stamp = d.Stamp;
  Reads = d.Reads;
  before = d.before;
  process_of = d.process_of;
  Clash = d.Clash;
  Wakes = d.Wakes;
  Reaches = d.Reaches;
  LeadsTo = d.LeadsTo;
  front = λ xs q. front_when d (sort d xs) (d.wait q (last q xs));
  reads = λ xs p g s. d.look p g s (last p xs) (only (d.sees p g s) (sort d xs));
  processes = d.processes;
  Within = d.Within;
  AtLimit = d.AtLimit;
  Cuts = d.Cuts;
}

-- ---- what is asked of it

abbrev pub Not_after : (d : Design) → d.Stamp → d.Stamp → Type 0
Not_after d s t = d.before s t ⊎ (s ≡ t)

pub record DesignLaws (d : Design) : Type 1 where
  pub irreflexive : (s : d.Stamp) → d.before s s → ⊥
  pub transitive : (s t u : d.Stamp) → d.before s t → d.before t u → d.before s u
  pub is_yes : (s t : d.Stamp) → d.is_before s t ≡ true → d.before s t
  pub is_no : (s t : d.Stamp) → d.is_before s t ≡ false → Not_after d t s
  pub stays : (a : ℕ) (s t : d.Stamp) → Not_after d s t → d.Reaches a s a t
  pub joins : (a : ℕ) (s : d.Stamp) (b : ℕ) (t : d.Stamp) (c : ℕ) (u : d.Stamp) → d.Reaches a s b t → d.Reaches b t c u → d.Reaches a s c u
  pub edges : (a : ℕ) (s : d.Stamp) (b : ℕ) (t : d.Stamp) → d.LeadsTo a s b t → d.Reaches a s b t
  pub forward : (a : ℕ) (s : d.Stamp) (b : ℕ) (t : d.Stamp) → d.Reaches a s b t → d.before s t ⊎ (s ≡ t) × (a ≡ b)
  pub mirrored : (a b : ℕ) → d.Clash a b false → d.Clash b a false
  pub wakes : (a b : ℕ) → d.Wakes a b → d.Clash a b true
  -- an event: what doesn't touch it leaves it; what is done at a stamp or later changes no firing up to it; and each firing was there or is made
  pub Notes : ℕ → Act d.Stamp d.Reads → d.Stamp → Type 0
  pub idle : (e : ℕ) (x : Act d.Stamp d.Reads) (s : d.Slot) → d.touches e x ≡ false → d.step e x s ≡ s
  pub keeps : (e : ℕ) (x : Act d.Stamp d.Reads) (s : d.Slot) (since : Option d.Stamp) (t : d.Stamp) → Not_after d t x.stamp → d.first s since ≡ Some t → d.first (d.step e x s) since ≡ Some t
  pub makes :
      (e : ℕ) (x : Act d.Stamp d.Reads) (s : d.Slot) (since : Option d.Stamp) (t : d.Stamp) → d.first (d.step e x s) since ≡ Some t →
      ((u : d.Stamp) × (d.first s since ≡ Some u) × Not_after d u t) ⊎ Notes e x t
  pub noted : (e : ℕ) (x : Act d.Stamp d.Reads) (t : d.Stamp) → Notes e x t → d.before x.stamp t
  -- access: who touches an event clashes with others that do, or is of the same process; it wakes who waits on it; what it makes is along an edge
  pub joint : (e : ℕ) (x y : Act d.Stamp d.Reads) → d.touches e x ≡ true → d.touches e y ≡ true → (d.process_of x.segment ≡ d.process_of y.segment) ⊎ d.Clash x.segment y.segment false
  pub wake : (e q : ℕ) (x : Act d.Stamp d.Reads) (z : Option (Act d.Stamp d.Reads)) (w : Wait d.Stamp) → d.wait q z ≡ Some w → In e w.events → d.touches e x ≡ true → d.Wakes x.segment w.segment
  pub edge : (e q : ℕ) (x : Act d.Stamp d.Reads) (z : Option (Act d.Stamp d.Reads)) (w : Wait d.Stamp) (t : d.Stamp) → d.wait q z ≡ Some w → In e w.events → Notes e x t → d.LeadsTo x.segment x.stamp w.segment t
  -- waits
  pub begins : (q : ℕ) (w : Wait d.Stamp) → d.wait q None ≡ Some w → d.process_of w.segment ≡ q
  pub next : (q : ℕ) (z : Act d.Stamp d.Reads) (w : Wait d.Stamp) → d.wait q (Some z) ≡ Some w → d.process_of w.segment ≡ d.process_of z.segment
  pub timed : (q : ℕ) (z : Act d.Stamp d.Reads) (w : Wait d.Stamp) (t : d.Stamp) → d.wait q (Some z) ≡ Some w → w.timeout ≡ Some t → d.LeadsTo z.segment z.stamp w.segment t × d.before z.stamp t
  pub fired : (q : ℕ) (z : Act d.Stamp d.Reads) (w : Wait d.Stamp) (e : ℕ) (s : d.Slot) (t : d.Stamp) → d.wait q (Some z) ≡ Some w → In e w.events → d.first s w.since ≡ Some t → d.LeadsTo z.segment z.stamp w.segment t × d.before z.stamp t
  -- what may be seen is of the process itself, or conflicts
  pub seen : (p g : ℕ) (s : d.Stamp) (y : Act d.Stamp d.Reads) → d.sees p g s y ≡ true → (y.process ≡ p) ⊎ (d.Clash y.segment g false ⊎ d.before y.stamp s × d.Clash y.segment g true)
  pub starting : (q : ℕ) (w : Wait d.Stamp) → d.wait q None ≡ Some w → q < d.processes
  pub going : (q : ℕ) (z : Act d.Stamp d.Reads) (w : Wait d.Stamp) → d.wait q (Some z) ≡ Some w → d.process_of w.segment < d.processes
  pub within_back : (s t : d.Stamp) → Not_after d s t → d.Within t → d.Within s
  pub at_limit : (s : d.Stamp) → d.AtLimit s ⊎ (d.AtLimit s → ⊥)
  pub cuts_on : (y : Act d.Stamp d.Reads) (s : d.Stamp) (p : ℕ) (t : d.Stamp) (q : ℕ) → d.Cuts y s p → (d.before s t ⊎ (s ≡ t) × (p < q)) → d.Cuts y t q
  pub cuts : (y : Act d.Stamp d.Reads) (s : d.Stamp) (p : ℕ) → d.Cuts y s p → (d.before y.stamp s ⊎ (y.stamp ≡ s) × (y.process < p)) ⊎ (y.stamp ≡ s) × (y.process ≡ p)
