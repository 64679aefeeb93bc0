-- What is due next in the scheduler's world, and when nothing is.
use Rattle.std.proofs.Common.{◌≡◌, ℕ, zero, suc, ◌≤◌, ◌⊎◌, inl, inr, ⊎_elim, List, [], ◌∷◌, map, Bool, true, false, if◌then◌else◌, Option, Some, None, refl, sym, ap, ◌∙◌, subst}
use Rattle.std.specs.Prelude.{slice_get}
use Rattle.ooo_time.specs.declared.stamp.Stamp.{Stamp}
use Rattle.ooo_time.specs.declared.time.Time.{Time}
use Rattle.ooo_time.specs.Stamps.{IsBefore, is_before}
use Rattle.ooo_events.specs.Slots.{Slot, due_of}
use Rattle.ooo_meaning.specs.World as real
use Rattle.ooo_meaning.specs.World.{Wait, World, slot_at, wait_at}
use Rattle.ooo_schedules.specs.Going.{IsDue}
use Rattle.ooo_schedules.specs.Model.{In}
use Rattle.ooo_schedules.specs.Sequence.{AllLate}
use Rattle.ooo_schedules.specs.Worlds as cycle
use Rattle.ooo_schedules.specs.Worlds.{Waiting}
use Rattle.ooo_dispatch.proofs.Edges.{in_map}
use Rattle.ooo_dispatch.proofs.Settling.{AlikeWorlds}
use Rattle.ooo_dispatch.proofs.Turning.{WaitsAlike}
use Rattle.ooo_dispatch.proofs.Stamps.{irreflexive, is_no, is_yes, transitive}

some_stamp : (a b : Stamp) → Some a ≡ Some b → a ≡ b
some_stamp a b e = cc

asymmetric : (s t : Stamp) → IsBefore s t → IsBefore t s → ⊥
asymmetric s t a b = irreflexive s (transitive s t s a b)

-- what is before a stamp that isn't after another is before that
before_not : (u s t : Stamp) → IsBefore u s → is_before t s ≡ false → IsBefore u t
before_not u s t lt e = ⊎_elim (λ k. transitive u s t lt k) (λ k. subst (IsBefore u) k lt) (is_no t s e)

-- ---- the least of some stamps

-- no stamp at all, or none before this one
abbrev pub Least : Option Stamp → Stamp → Type 0
Least None u = ⊥
Least (Some s) u = IsBefore u s → ⊥

sooner_least : (a b : Option Stamp) (u : Stamp) → (a ≡ Some u) ⊎ Least b u → Least (real.sooner a b) u
sooner_least None b u h = ⊎_elim (λ e. absurd (let k : None ≡ Some u = e in cc)) (λ k. k) h
sooner_least (Some s) None u h = ⊎_elim (λ e. let same : s ≡ u = some_stamp s u e in λ lt. irreflexive s (subst (λ x. IsBefore x s) (sym same) lt)) (λ k. absurd k) h
sooner_least (Some s) (Some t) u h = at (is_before t s) refl
  where
    at : (b : Bool) → is_before t s ≡ b → Least (if b then Some t else Some s) u
    at true e = ⊎_elim (λ i. let same : s ≡ u = some_stamp s u i in λ lt. asymmetric t s (is_yes t s e) (subst (λ x. IsBefore x t) (sym same) lt)) (λ k. k) h
    at false e = ⊎_elim (λ i. let same : s ≡ u = some_stamp s u i in λ lt. irreflexive s (subst (λ x. IsBefore x s) (sym same) lt)) (λ k lt. k (before_not u s t lt e)) h

pub in_least : (xs : List (Option Stamp)) (u : Stamp) → In (Some u) xs → Least (real.least xs) u
in_least [] u i = absurd i
in_least (x ∷ xs) u (inl e) = sooner_least x (real.least xs) u (inl (sym e))
in_least (x ∷ xs) u (inr i) = sooner_least x (real.least xs) u (inr (in_least xs u i))

first_least : (a b : Option Stamp) (u : Stamp) → Least a u → Least (real.sooner a b) u
first_least None b u h = absurd h
first_least (Some s) None u h = h
first_least (Some s) (Some t) u h = at (is_before t s) refl
  where
    at : (b : Bool) → is_before t s ≡ b → Least (if b then Some t else Some s) u
    at true e = λ lt. h (transitive u t s lt (is_yes t s e))
    at false e = h

second_least : (a b : Option Stamp) (u : Stamp) → Least b u → Least (real.sooner a b) u
second_least a b u h = sooner_least a b u (inr h)

each_least : (xs : List (Option Stamp)) (n : ℕ) (o : Option Stamp) (u : Stamp) → slice_get xs n ≡ Some o → Least o u → Least (real.least xs) u
each_least [] n o u e h = absurd cc
each_least (x ∷ xs) zero o u e h = first_least x (real.least xs) u (let same : x ≡ o = cc in subst (λ y. Least y u) (sym same) h)
each_least (x ∷ xs) (suc n) o u e h = second_least x (real.least xs) u (each_least xs n o u e h)

-- when a process runs next isn't after its time-out, nor after what is pending of its events
pub timeout_least : (slots : List Slot) (x : Wait) (u : Stamp) → due_of x.timeout ≡ Some u → Least (real.activity slots x) u
timeout_least slots x u e = sooner_least (due_of x.timeout) (real.least (map (λ d. due_of (slot_at slots d)) x.events)) u (inl e)

pub event_least : (slots : List Slot) (x : Wait) (e : ℕ) (u : Stamp) → In e x.events → due_of (slot_at slots e) ≡ Some u → Least (real.activity slots x) u
event_least slots x e u i k =
    sooner_least (due_of x.timeout) (real.least (map (λ d. due_of (slot_at slots d)) x.events)) u
    (inr (in_least (map (λ d. due_of (slot_at slots d)) x.events) u (subst (λ o. In o (map (λ d. due_of (slot_at slots d)) x.events)) k (in_map (λ d. due_of (slot_at slots d)) x.events e i))))

pub wait_there : (slots : List Slot) (waits : List Wait) (q : ℕ) (u : Stamp) → Least (real.activity slots (wait_at waits q)) u → Least (real.least (map (real.activity slots) waits)) u
wait_there slots [] q u h = h
wait_there slots (x ∷ waits) zero u h = first_least (real.activity slots x) (real.least (map (real.activity slots) waits)) u h
wait_there slots (x ∷ waits) (suc q) u h = second_least (real.activity slots x) (real.least (map (real.activity slots) waits)) u (wait_there slots waits q u h)

-- where the earliest activity is late, all is
pub all_late : (stop : Time) (w : World) (v : cycle.World) → AlikeWorlds w v → ((q : ℕ) → v.runnable q ≡ false) → ((u : Stamp) → Least (real.least_activity w) u → u.time.0 ≤ stop.0 → ⊥) → AllLate stop v
all_late stop w v a none late = record {
  times = λ q x u i j o. late u (wait_there w.slots w.waits q u (timeout_least w.slots (wait_at w.waits q) u (sym (alike q x i).0 ∙ j))) o;
  events = λ q x e u i j k o.
      late u (wait_there w.slots w.waits q u (event_least w.slots (wait_at w.waits q) e u (subst (λ es. In e es) (alike q x i).1 j) (sym (a.slots e) ∙ k))) o;
}
  where
    alike : (q : ℕ) (x : Waiting) → v.waits q ≡ Some x → (x.timeout ≡ due_of (wait_at w.waits q).timeout) × (x.events ≡ (wait_at w.waits q).events)
    alike q x i = subst (λ y. WaitsAlike y (wait_at w.waits q)) i (a.waits q (none q))

-- ---- where the least comes from

sooner_source : (a b : Option Stamp) (u : Stamp) → real.sooner a b ≡ Some u → (a ≡ Some u) ⊎ (b ≡ Some u)
sooner_source None b u e = inr e
sooner_source (Some s) None u e = inl e
sooner_source (Some s) (Some t) u e = at (is_before t s) e
  where
    at : (b : Bool) → (if b then Some t else Some s) ≡ Some u → (Some s ≡ Some u) ⊎ (Some t ≡ Some u)
    at true e = inr e
    at false e = inl e

least_source : (xs : List (Option Stamp)) (u : Stamp) → real.least xs ≡ Some u → In (Some u) xs
least_source [] u e = absurd (let k : None ≡ Some u = e in cc)
least_source (x ∷ xs) u e = ⊎_elim (λ k. inl (sym k)) (λ k. inr (least_source xs u k)) (sooner_source x (real.least xs) u e)

slot_source : (slots : List Slot) (u : Stamp) → In (Some u) (map due_of slots) → (e : ℕ) × (due_of (slot_at slots e) ≡ Some u)
slot_source [] u i = absurd i
slot_source (x ∷ xs) u (inl e) = (0, sym e)
slot_source (x ∷ xs) u (inr i) = let r = slot_source xs u i in (suc r.0, r.1)

time_source : (waits : List Wait) (u : Stamp) → In (Some u) (map (λ x. due_of x.timeout) waits) → (q : ℕ) × (due_of (wait_at waits q).timeout ≡ Some u)
time_source [] u i = absurd i
time_source (x ∷ xs) u (inl e) = (0, sym e)
time_source (x ∷ xs) u (inr i) = let r = time_source xs u i in (suc r.0, r.1)

-- what is pending first is pending of an event, or as a time-out
pub pending_source : (w : World) (u : Stamp) → real.least_pending w ≡ Some u → ((e : ℕ) × (due_of (slot_at w.slots e) ≡ Some u)) ⊎ ((q : ℕ) × (due_of (wait_at w.waits q).timeout ≡ Some u))
pending_source w u e =
    ⊎_elim (λ k. inl (slot_source w.slots u (least_source (map due_of w.slots) u k))) (λ k. inr (time_source w.waits u (least_source (map (λ x. due_of x.timeout) w.waits) u k)))
    (sooner_source (real.least (map due_of w.slots)) (real.least (map (λ x. due_of x.timeout) w.waits)) u e)

activity_source : (slots : List Slot) (x : Wait) (u : Stamp) → real.activity slots x ≡ Some u → (due_of x.timeout ≡ Some u) ⊎ ((e : ℕ) × (due_of (slot_at slots e) ≡ Some u))
activity_source slots x u e =
    ⊎_elim (λ k. inl k) (λ k. inr (events x.events (least_source (map (λ d. due_of (slot_at slots d)) x.events) u k)))
    (sooner_source (due_of x.timeout) (real.least (map (λ d. due_of (slot_at slots d)) x.events)) u e)
  where
    events : (es : List ℕ) → In (Some u) (map (λ d. due_of (slot_at slots d)) es) → (e : ℕ) × (due_of (slot_at slots e) ≡ Some u)
    events [] i = absurd i
    events (d ∷ es) (inl k) = (d, sym k)
    events (d ∷ es) (inr i) = events es i

waits_source : (slots : List Slot) (waits : List Wait) (u : Stamp) → In (Some u) (map (real.activity slots) waits) → ((q : ℕ) × (due_of (wait_at waits q).timeout ≡ Some u)) ⊎ ((e : ℕ) × (due_of (slot_at slots e) ≡ Some u))
waits_source slots [] u i = absurd i
waits_source slots (x ∷ xs) u (inl e) = ⊎_elim (λ k. inl (0, k)) (λ k. inr k) (activity_source slots x u (sym e))
waits_source slots (x ∷ xs) u (inr i) = ⊎_elim (λ k. inl (suc k.0, k.1)) (λ k. inr k) (waits_source slots xs u i)

-- what a process waits for is pending
pub active_source : (w : World) (u : Stamp) → real.least_activity w ≡ Some u → ((q : ℕ) × (due_of (wait_at w.waits q).timeout ≡ Some u)) ⊎ ((e : ℕ) × (due_of (slot_at w.slots e) ≡ Some u))
active_source w u e = waits_source w.slots w.waits u (least_source (map (real.activity w.slots) w.waits) u e)

in_slots : (slots : List Slot) (e : ℕ) (u : Stamp) → due_of (slot_at slots e) ≡ Some u → In (Some u) (map due_of slots)
in_slots [] e u h = absurd (let k : None ≡ Some u = h in cc)
in_slots (x ∷ xs) zero u h = inl (sym h)
in_slots (x ∷ xs) (suc e) u h = inr (in_slots xs e u h)

in_times : (waits : List Wait) (q : ℕ) (u : Stamp) → due_of (wait_at waits q).timeout ≡ Some u → In (Some u) (map (λ x. due_of x.timeout) waits)
in_times [] q u h = absurd (let k : None ≡ Some u = h in cc)
in_times (x ∷ xs) zero u h = inl (sym h)
in_times (x ∷ xs) (suc q) u h = inr (in_times xs q u h)

-- what is pending isn't before what is pending first
pub pending_least : (w : World) (u : Stamp) → ((q : ℕ) × (due_of (wait_at w.waits q).timeout ≡ Some u)) ⊎ ((e : ℕ) × (due_of (slot_at w.slots e) ≡ Some u)) → Least (real.least_pending w) u
pending_least w u h =
    ⊎_elim
    (λ k. second_least (real.least (map due_of w.slots)) (real.least (map (λ x. due_of x.timeout) w.waits)) u (in_least (map (λ x. due_of x.timeout) w.waits) u (in_times w.waits k.0 u k.1)))
    (λ k. first_least (real.least (map due_of w.slots)) (real.least (map (λ x. due_of x.timeout) w.waits)) u (in_least (map due_of w.slots) u (in_slots w.slots k.0 u k.1))) h

-- ---- who is due

activity_at : (slots : List Slot) (waits : List Wait) (u : Stamp) → In (Some u) (map (real.activity slots) waits) → (q : ℕ) × (real.activity slots (wait_at waits q) ≡ Some u)
activity_at slots [] u i = absurd i
activity_at slots (x ∷ xs) u (inl e) = (0, sym e)
activity_at slots (x ∷ xs) u (inr i) = let r = activity_at slots xs u i in (suc r.0, r.1)

event_at : (slots : List Slot) (es : List ℕ) (u : Stamp) → In (Some u) (map (λ d. due_of (slot_at slots d)) es) → (e : ℕ) × In e es × (due_of (slot_at slots e) ≡ Some u)
event_at slots [] u i = absurd i
event_at slots (d ∷ es) u (inl e) = (d, inl refl, sym e)
event_at slots (d ∷ es) u (inr i) = let r = event_at slots es u i in (r.0, inr r.1, r.2)

module _ (w : World) (v : cycle.World) (a : AlikeWorlds w v) (none : (q : ℕ) → v.runnable q ≡ false) where
  -- who is due in the steps isn't before the earliest activity
  pub due_least : (q : ℕ) (u : Stamp) → IsDue v q u → Least (real.least_activity w) u
  due_least q u (x, i, h) = ⊎_elim timed noted h
    where
      alike : (x.timeout ≡ due_of (wait_at w.waits q).timeout) × (x.events ≡ (wait_at w.waits q).events)
      alike = subst (λ y. WaitsAlike y (wait_at w.waits q)) i (a.waits q (none q))

      timed : x.timeout ≡ Some u → Least (real.least_activity w) u
      timed t = wait_there w.slots w.waits q u (timeout_least w.slots (wait_at w.waits q) u (sym alike.0 ∙ t))

      noted : (e : ℕ) × In e x.events × (v.slots e ≡ Some u) → Least (real.least_activity w) u
      noted (e, j, k) = wait_there w.slots w.waits q u (event_least w.slots (wait_at w.waits q) e u (subst (λ es. In e es) alike.1 j) (sym (a.slots e) ∙ k))

  -- and who has the earliest activity is due
  pub due_source : (u : Stamp) → real.least_activity w ≡ Some u → (q : ℕ) × IsDue v q u
  due_source u e = (s.0, at (v.waits s.0) refl)
    where
      s : (q : ℕ) × (real.activity w.slots (wait_at w.waits q) ≡ Some u)
      s = activity_at w.slots w.waits u (least_source (map (real.activity w.slots) w.waits) u e)

      y : Wait
      y = wait_at w.waits s.0

      at : (o : Option Waiting) → v.waits s.0 ≡ o → IsDue v s.0 u
      at None i =
          let alike = subst (λ o. WaitsAlike o y) i (a.waits s.0 (none s.0)) in
          let nothing : real.activity w.slots y ≡ None = ap (λ t. real.sooner (due_of t) (real.least (map (λ d. due_of (slot_at w.slots d)) y.events))) alike.1 ∙ ap (λ es. real.least (map (λ d. due_of (slot_at w.slots d)) es)) alike.0 in
          absurd (let k : None ≡ Some u = sym nothing ∙ s.1 in cc)
      at (Some x) i =
          let alike = subst (λ o. WaitsAlike o y) i (a.waits s.0 (none s.0)) in (
            x,
            i,
            ⊎_elim (λ t. inl (alike.0 ∙ t))
                (λ t. let k = event_at w.slots y.events u (least_source (map (λ d. due_of (slot_at w.slots d)) y.events) u t) in inr (k.0, subst (λ es. In k.0 es) (sym alike.1) k.1, a.slots k.0 ∙ k.2))
                (sooner_source (due_of y.timeout) (real.least (map (λ d. due_of (slot_at w.slots d)) y.events)) u s.1),
          )
