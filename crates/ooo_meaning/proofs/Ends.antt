-- Every run is over after as many cycles as the limits allow.
use Rattle.std.proofs.Common.{◌≡◌, ℕ, zero, suc, ◌+◌, ◌-◌, ◌*◌, ◌<◌, ◌≤◌, List, [], ◌∷◌, map, Option, Some, None, Bool, true, false, ◌||◌, not, if◌then◌else◌, nat_lt, ◌==◌, refl, sym, ◌∙◌, subst, arith, ltb-false, eq-eqb, inl, ⊎_elim}
use Rattle.std.specs.Prelude.{slice_get, slice_set}
use Rattle.std.specs.List.{list_any}
use Rattle.std.specs.Bool.{Decides}
use Rattle.std.proofs.lemmas.Bool.{eqb-false, cases_lt}
use Rattle.std.proofs.lemmas.Bool.Decides.{Decides-or, Decides-and, Decides-ltb, Decides-eqb, not_from_Decides}
use Rattle.std.proofs.Math.Nat.{mul-le-mul_right, suc-mul}
use Rattle.ooo_time.specs.declared.time.Time.{Time}
use Rattle.ooo_time.specs.declared.stamp.Stamp.{Stamp}
use Rattle.ooo_time.specs.Stamps.{IsBefore, is_before}
use Rattle.ooo_value.specs.declared.bound.BoundEvent.{BoundEvent}
use Rattle.ooo_events.specs.Slots.{Slot, Nothing, NextDelta, AtTime, due_of, slot_left_at, slot_after_delta, slot_after_timed, slot_after_notify}
use Rattle.ooo_code.specs.declared.activation.Effect.{Effect}
use Rattle.ooo_code.specs.declared.activation.Effect.TheVariants as effect
use Rattle.ooo_code.specs.declared.activation.JobEnd.{JobEnd}
use Rattle.ooo_code.specs.declared.activation.JobEnd.TheVariants as job
use Rattle.ooo_code.specs.declared.limits.Limits.{Limits}
use Rattle.ooo_code.specs.Channels.{Channel, is_notified}
use Rattle.ooo_code.specs.Outcomes.{Deed, Activate}
use Rattle.ooo_history.specs.declared.run.End.{End}
use Rattle.ooo_meaning.specs.World.{World, Wait, awake, slot_at, apply, apply_all, timeout_of, wait_after, after_deed, runs_now, notified_slots, update, same_stamp, is_due, woken, reach, sooner, least, activity, least_activity, least_pending, next_delta, some_runnable, Progress, Over, Goes, advance, later, in_delta, notified, settle_at, settle, view_of}
use Rattle.ooo_meaning.specs.Sequence.{State, Result, state_of, turn_at, turn, evaluate, finish, result_of, run, run_whole}
use Rattle.ooo_meaning.specs.Laws.{IsLater, AllLater, timeouts, IsBetween, cycles_left}

-- ---- the order of stamps

is_before_decides : (s t : Stamp) → Decides (is_before s t) (IsBefore s t)
is_before_decides s t =
    Decides-or _ _ (Decides-ltb s.time.0 t.time.0) (Decides-and _ _ (Decides-eqb s.time.0 t.time.0) (Decides-ltb s.delta t.delta))

is_before-yes : (s t : Stamp) → IsBefore s t → is_before s t ≡ true
is_before-yes s t = (is_before_decides s t).1

is_before-self : (s : Stamp) → is_before s s ≡ false
is_before-self s = at (is_before s s) refl
  where
    at : (b : Bool) → is_before s s ≡ b → is_before s s ≡ false
    at true e = let h : IsBefore s s = (is_before_decides s s).0 e in absurd (grind arith)
    at false e = e

same_stamp-self : (s : Stamp) → same_stamp s s ≡ true
same_stamp-self s = rw (eq-eqb s.time.0 s.time.0 refl, eq-eqb s.delta s.delta refl) refl

-- ---- what is pending during the cycle of a stamp

-- nothing, a delta notification of this cycle, or a later time
Fits : Stamp → Slot → Type 0
Fits s Nothing = Unit {0}
Fits s (NextDelta made) = made ≡ s
Fits s (AtTime t) = s.time.0 < t.0

AllFit : Stamp → List Slot → Type 0
AllFit s [] = Unit {0}
AllFit s (x ∷ xs) = Fits s x × AllFit s xs

later_fits : (s : Stamp) (x : Slot) → IsLater s.time.0 x → Fits s x
unfolding Fits
later_fits s Nothing h = tt
later_fits s (NextDelta made) h = absurd h
later_fits s (AtTime t) h = h

all_later_fit : (s : Stamp) (xs : List Slot) → AllLater s.time.0 xs → AllFit s xs
unfolding AllFit
all_later_fit s [] h = tt
all_later_fit s (x ∷ xs) h = (later_fits s x h.0, all_later_fit s xs h.1)

delta_fits : (s : Stamp) (x : Slot) → Fits s x → Fits s (slot_after_delta x s)
unfolding Fits
delta_fits s Nothing h = refl
delta_fits s (NextDelta made) h = h
delta_fits s (AtTime t) h = refl

if_fits : (s : Stamp) (b : Bool) (x y : Slot) → Fits s x → Fits s y → Fits s (if b then x else y)
if_fits s true x y h k = h
if_fits s false x y h k = k

timed_fits : (s : Stamp) (t : Time) (x : Slot) → s.time.0 < t.0 → Fits s x → Fits s (slot_after_timed x t)
unfolding Fits
timed_fits s t Nothing lt h = lt
timed_fits s t (NextDelta made) lt h = h
timed_fits s t (AtTime u) lt h = if_fits s (nat_lt t.0 u.0) (AtTime t) (AtTime u) lt h

notify_fits : (s : Stamp) (k : Time) (x : Slot) → Fits s x → Fits s (slot_after_notify x s k)
notify_fits s k x h = at (k.0 == 0) refl
  where
    at : (b : Bool) → (k.0 == 0) ≡ b → Fits s (if b then slot_after_delta x s else slot_after_timed x (record { 0 = s.time.0 + k.0 }))
    at true e = delta_fits s x h
    at false e = let n = eqb-false k.0 0 e in timed_fits s (record { 0 = s.time.0 + k.0 }) x (omega (arith, n)) h

set_fits : (s : Stamp) (xs : List Slot) (i : ℕ) (x : Slot) → AllFit s xs → Fits s x → AllFit s (slice_set xs i x)
unfolding AllFit
set_fits s [] i x all h = tt
set_fits s (y ∷ ys) zero x all h = (h, all.1)
set_fits s (y ∷ ys) (suc i) x all h = (all.0, set_fits s ys i x all.1 h)

get_fits : (s : Stamp) (xs : List Slot) (i : ℕ) → AllFit s xs → Fits s (slot_at xs i)
unfolding AllFit Fits
get_fits s [] i all = tt
get_fits s (y ∷ ys) zero all = all.0
get_fits s (y ∷ ys) (suc i) all = get_fits s ys i all.1

set_waits : (s : Stamp) (xs : List Wait) (i : ℕ) (x : Wait) → AllFit s (timeouts xs) → Fits s x.timeout → AllFit s (timeouts (slice_set xs i x))
unfolding AllFit
set_waits s [] i x all h = tt
set_waits s (y ∷ ys) zero x all h = (h, all.1)
set_waits s (y ∷ ys) (suc i) x all h = (all.0, set_waits s ys i x all.1 h)

timeout_fits : (s : Stamp) (k : Option Time) → Fits s (timeout_of s k)
unfolding Fits
timeout_fits s None = tt
timeout_fits s (Some k) = notify_fits s k Nothing tt

wait_fits : (s : Stamp) (e : JobEnd) → Fits s (wait_after s e).timeout
unfolding Fits
wait_fits s (job.Waits on) = timeout_fits s on.time
wait_fits s job.Ended = tt
wait_fits s (job.Faulted f line) = tt
wait_fits s (job.Limit line) = tt

-- ---- an evaluation

record Good (w : World) : Type 0 where
  slots : AllFit w.stamp w.slots
  waits : AllFit w.stamp (timeouts w.waits)

record Held (w w' : World) : Type 0 where
  stamp : w'.stamp ≡ w.stamp
  waits : w'.waits ≡ w.waits
  slots : AllFit w.stamp w.slots → AllFit w.stamp w'.slots

apply_held : (w : World) (f : Effect) → Held w (apply w f)
unfolding Fits
apply_held w (effect.Request c v) = record { stamp = refl; waits = refl; slots = λ h. h }
apply_held w (effect.Put c v) = record { stamp = refl; waits = refl; slots = λ h. h }
apply_held w (effect.Take c) = record { stamp = refl; waits = refl; slots = λ h. h }
apply_held w (effect.Notify e k) = record { stamp = refl; waits = refl; slots = λ h. set_fits w.stamp w.slots e _ h (notify_fits w.stamp k _ (get_fits w.stamp w.slots e h)) }
apply_held w (effect.Cancel e) = record { stamp = refl; waits = refl; slots = λ h. set_fits w.stamp w.slots e Nothing h tt }
apply_held w effect.Stop = record { stamp = refl; waits = refl; slots = λ h. h }

apply_all_held : (w : World) (fs : List Effect) → Held w (apply_all w fs)
apply_all_held w [] = record { stamp = refl; waits = refl; slots = λ h. h }
apply_all_held w (f ∷ fs) =
    let a = apply_held w f in
    let b = apply_all_held (apply w f) fs in
    record {
      stamp = b.stamp ∙ a.stamp;
      waits = b.waits ∙ a.waits;
      slots = λ h. subst (λ s. AllFit s (apply_all (apply w f) fs).slots) a.stamp (b.slots (subst (λ s. AllFit s (apply w f).slots) (sym a.stamp) (a.slots h)));
    }

record Kept (w w' : World) : Type 0 where
  stamp : w'.stamp ≡ w.stamp
  good : Good w → Good w'

deed_kept : (p : ℕ) (w : World) (d : Deed) → Kept w (after_deed p w d)
unfolding after_deed
deed_kept p w d =
    let a = apply_all_held w d.effects in
    record {
      stamp = a.stamp;
      good = λ h. record {
        slots = subst (λ s. AllFit s (apply_all w d.effects).slots) (sym a.stamp) (a.slots h.slots);
        waits = subst (λ s. AllFit s (timeouts (slice_set w.waits p (wait_after w.stamp d.end)))) (sym a.stamp) (set_waits w.stamp w.waits p (wait_after w.stamp d.end) h.waits (wait_fits w.stamp d.end));
      };
    }

same_kept : (w : World) → Kept w w
same_kept w = record { stamp = refl; good = λ h. h }

module _ (K : Type 0) (activate : Activate K) where
  turned_kept : (s : State K) (p : ℕ) (x : Option K) → Kept s.world (turn_at activate s p x).world
  turned_kept s p None = same_kept s.world
  turned_kept s p (Some k) = deed_kept p s.world (activate p k (view_of p s.world)).deed

  if_kept : (b : Bool) (w : World) (s t : State K) → Kept w s.world → Kept w t.world → Kept w (if b then s else t).world
  if_kept true w s t h k = h
  if_kept false w s t h k = k

  turn_kept : (s : State K) (p : ℕ) → Kept s.world (turn activate s p).world
  unfolding turn
  turn_kept s p = if_kept (runs_now p s.world) s.world _ _ (turned_kept s p (slice_get s.places p)) (same_kept s.world)

  evaluate_kept : (order : List ℕ) (s : State K) → Kept s.world (evaluate activate order s).world
  unfolding evaluate
  evaluate_kept [] s = same_kept s.world
  evaluate_kept (p ∷ ps) s =
      let a = turn_kept s p in
      let b = evaluate_kept ps (turn activate s p) in
      record { stamp = b.stamp ∙ a.stamp; good = λ h. b.good (a.good h) }

-- ---- the update

notified_fit : (s : Stamp) (cs : List Channel) (es : List BoundEvent) (xs : List Slot) → AllFit s xs → AllFit s (notified_slots s cs es xs)
unfolding AllFit
notified_fit s cs (e ∷ es) (x ∷ xs) h = (if_fits s (is_notified cs e) _ _ (delta_fits s x h.0) h.0, notified_fit s cs es xs h.1)
notified_fit s cs [] xs h = h
notified_fit s cs (e ∷ es) [] h = h

update_kept : (w : World) → Kept w (update w)
unfolding update
update_kept w = record { stamp = refl; good = λ h. record { slots = notified_fit w.stamp w.channels w.events w.slots h.slots; waits = h.waits } }

-- ---- the next delta cycle is reached

left_later : (s : Stamp) (x : Slot) → Fits s x → IsLater s.time.0 (slot_left_at x (next_delta s))
unfolding Fits
left_later s Nothing h = tt
left_later s (NextDelta made) h = subst (λ m. IsLater s.time.0 (slot_left_at (NextDelta m) (next_delta s))) (sym h) (rw (is_before-self (next_delta s)) tt)
left_later s (AtTime t) h = let e = is_before-yes (next_delta s) (record { time = t; delta = 0 }) (inl h) in rw e h

all_left_later : (s : Stamp) (xs : List Slot) → AllFit s xs → AllLater s.time.0 (map (λ x. slot_left_at x (next_delta s)) xs)
unfolding AllFit
all_left_later s [] h = tt
all_left_later s (x ∷ xs) h = (left_later s x h.0, all_left_later s xs h.1)

undue_later : (s : Stamp) (x : Slot) → Fits s x → is_due (next_delta s) x ≡ false → IsLater s.time.0 x
unfolding Fits
undue_later s Nothing h e = tt
undue_later s (NextDelta made) h e = let f : is_due (next_delta s) (NextDelta made) ≡ true = subst (λ m. is_due (next_delta s) (NextDelta m) ≡ true) (sym h) (same_stamp-self (next_delta s)) in absurd cc
undue_later s (AtTime t) h e = h

-- a time-out after a stamp is reached, where what isn't due then passes a test
module _ (s : Stamp) (P : Slot → Type 0) (none : P Nothing) where
  woken_has : (slots : List Slot) (x : Wait) → (is_due s x.timeout ≡ false → P x.timeout) → P (woken s slots x).timeout
  woken_has slots x h = at (is_due s x.timeout) (list_any (λ e. is_due s (slot_at slots e)) x.events) refl
    where
      at : (a b : Bool) → is_due s x.timeout ≡ a → P (if a || b then awake else x).timeout
      at true b e = none
      at false true e = none
      at false false e = h e

all_woken_later : (s : Stamp) (slots : List Slot) (xs : List Wait) → AllFit s (timeouts xs) → AllLater s.time.0 (timeouts (map (woken (next_delta s) slots) xs))
unfolding AllFit
all_woken_later s slots [] h = tt
all_woken_later s slots (x ∷ xs) h = (woken_has (next_delta s) (IsLater s.time.0) tt slots x (undue_later s x.timeout h.0), all_woken_later s slots xs h.1)

-- ---- the least stamps

-- a fact of a stamp, if there is one
Holds : (Stamp → Type 0) → Option Stamp → Type 0
Holds P None = Unit {0}
Holds P (Some s) = P s

sooner_holds : (P : Stamp → Type 0) (a b : Option Stamp) → Holds P a → Holds P b → Holds P (sooner a b)
unfolding Holds
sooner_holds P None b h k = k
sooner_holds P (Some a) None h k = h
sooner_holds P (Some a) (Some b) h k = at (is_before b a)
  where
    at : (x : Bool) → Holds P (if x then Some b else Some a)
    at true = k
    at false = h

-- it is of no time before n
From : ℕ → Option Stamp → Type 0
From n o = Holds (λ s. n ≤ s.time.0) o

sooner_from : (n : ℕ) (a b : Option Stamp) → From n (sooner a b) → From n a × From n b
unfolding From Holds
sooner_from n None b h = (tt, h)
sooner_from n (Some a) None h = (h, tt)
sooner_from n (Some a) (Some b) h = at (is_before b a) refl h
  where
    at : (x : Bool) → is_before b a ≡ x → From n (if x then Some b else Some a) → (n ≤ a.time.0) × (n ≤ b.time.0)
    at true e k = let l : IsBefore b a = (is_before_decides b a).0 e in (grind arith, k)
    at false e k = let l : IsBefore b a → ⊥ = not_from_Decides _ (is_before_decides b a) e in (k, ⊎_elim (λ lt. absurd (l (inl lt))) (λ le. omega arith) (cases_lt b.time.0 a.time.0))

-- what is pending is of no time before n
IsFrom : ℕ → Slot → Type 0
IsFrom n Nothing = Unit {0}
IsFrom n (NextDelta made) = ⊥
IsFrom n (AtTime t) = n ≤ t.0

AllFrom : ℕ → List Slot → Type 0
AllFrom n [] = Unit {0}
AllFrom n (x ∷ xs) = IsFrom n x × AllFrom n xs

is_from : (n m : ℕ) (x : Slot) → IsLater m x → From n (due_of x) → IsFrom n x
unfolding From Holds IsFrom
is_from n m Nothing l h = tt
is_from n m (NextDelta made) l h = absurd l
is_from n m (AtTime t) l h = h

all_from : (n m : ℕ) (xs : List Slot) → AllLater m xs → From n (least (map due_of xs)) → AllFrom n xs
unfolding AllFrom
all_from n m [] l h = tt
all_from n m (x ∷ xs) l h = let b = sooner_from n (due_of x) (least (map due_of xs)) h in (is_from n m x l.0 b.0, all_from n m xs l.1 b.1)

all_waits_from : (n m : ℕ) (xs : List Wait) → AllLater m (timeouts xs) → From n (least (map (λ x. due_of x.timeout) xs)) → AllFrom n (timeouts xs)
unfolding AllFrom
all_waits_from n m [] l h = tt
all_waits_from n m (x ∷ xs) l h = let b = sooner_from n (due_of x.timeout) (least (map (λ x. due_of x.timeout) xs)) h in (is_from n m x.timeout l.0 b.0, all_waits_from n m xs l.1 b.1)

-- a fact of the stamp at which each of these is due holds of the least ones
module _ (P : Stamp → Type 0) where
  record Dues (Q : Slot → Type 0) : Type 0 where
    due : (x : Slot) → Q x → Holds P (due_of x)
    none : Q Nothing

  data Each (Q : Slot → Type 0) : List Slot → Type 0 where
    end : Each Q []
    more : {x : Slot} {xs : List Slot} → Q x → Each Q xs → Each Q (x ∷ xs)

  least_slots : (Q : Slot → Type 0) → Dues Q → {xs : List Slot} → Each Q xs → Holds P (least (map due_of xs))
  unfolding Holds
  least_slots Q d end = tt
  least_slots Q d (more h hs) = sooner_holds P _ _ (d.due _ h) (least_slots Q d hs)

  slot_each : (Q : Slot → Type 0) → Dues Q → {xs : List Slot} → Each Q xs → (i : ℕ) → Q (slot_at xs i)
  slot_each Q d end i = d.none
  slot_each Q d (more h hs) zero = h
  slot_each Q d (more h hs) (suc i) = slot_each Q d hs i

  least_events : (Q : Slot → Type 0) → Dues Q → (xs : List Slot) → Each Q xs → (es : List ℕ) → Holds P (least (map (λ e. due_of (slot_at xs e)) es))
  unfolding Holds
  least_events Q d xs all [] = tt
  least_events Q d xs all (e ∷ es) = sooner_holds P _ _ (d.due _ (slot_each Q d all e)) (least_events Q d xs all es)

  least_waits : (Q : Slot → Type 0) → Dues Q → (ws : List Wait) → Each Q (timeouts ws) → Holds P (least (map (λ x. due_of x.timeout) ws))
  unfolding Holds
  least_waits Q d [] all = tt
  least_waits Q d (w ∷ ws) (more h hs) = sooner_holds P _ _ (d.due _ h) (least_waits Q d ws hs)

  activities : (Q : Slot → Type 0) → Dues Q → (xs : List Slot) → Each Q xs → (ws : List Wait) → Each Q (timeouts ws) → Holds P (least (map (activity xs) ws))
  unfolding Holds
  activities Q d xs all [] each = tt
  activities Q d xs all (w ∷ ws) (more h hs) =
      sooner_holds P _ _ (sooner_holds P _ _ (d.due _ h) (least_events Q d xs all w.events)) (activities Q d xs all ws hs)

later_each : (n : ℕ) (P : Stamp → Type 0) (xs : List Slot) → AllLater n xs → Each P (IsLater n) xs
later_each n P [] h = end
later_each n P (x ∷ xs) h = more h.0 (later_each n P xs h.1)

from_each : (n : ℕ) (P : Stamp → Type 0) (xs : List Slot) → AllFrom n xs → Each P (IsFrom n) xs
unfolding AllFrom
from_each n P [] h = end
from_each n P (x ∷ xs) h = more h.0 (from_each n P xs h.1)

-- what is pending later is due in the first delta cycle of a later time
IsFirstAfter : ℕ → Stamp → Type 0
IsFirstAfter n s = (n < s.time.0) × (s.delta ≡ 0)

later_dues : (n : ℕ) → Dues (IsFirstAfter n) (IsLater n)
unfolding Holds IsFirstAfter
later_dues n = record { due = due; none = tt }
  where
    due : (x : Slot) → IsLater n x → Holds (IsFirstAfter n) (due_of x)
    due Nothing h = tt
    due (NextDelta made) h = absurd h
    due (AtTime t) h = (h, refl)

from_dues : (n : ℕ) → Dues (λ s. n ≤ s.time.0) (IsFrom n)
unfolding Holds IsFrom
from_dues n = record { due = due; none = tt }
  where
    due : (x : Slot) → IsFrom n x → Holds (λ s. n ≤ s.time.0) (due_of x)
    due Nothing h = tt
    due (NextDelta made) h = absurd h
    due (AtTime t) h = h

-- ---- a later time is reached

come_later : (u : Stamp) (x : Slot) → IsFrom u.time.0 x → IsLater u.time.0 (slot_left_at x u)
unfolding IsFrom
come_later u Nothing h = tt
come_later u (NextDelta made) h = absurd h
come_later u (AtTime t) h = at (is_before u (record { time = t; delta = 0 })) refl
  where
    at : (b : Bool) → is_before u (record { time = t; delta = 0 }) ≡ b → IsLater u.time.0 (if not b then Nothing else AtTime t)
    at true e = let l : IsBefore u (record { time = t; delta = 0 }) = (is_before_decides u (record { time = t; delta = 0 })).0 e in ⊎_elim (λ lt. lt) (λ (same, below). absurd (omega (arith, below))) l
    at false e = tt

all_come_later : (u : Stamp) (xs : List Slot) → AllFrom u.time.0 xs → AllLater u.time.0 (map (λ x. slot_left_at x u) xs)
unfolding AllFrom
all_come_later u [] h = tt
all_come_later u (x ∷ xs) h = (come_later u x h.0, all_come_later u xs h.1)

undue_after : (u : Stamp) (x : Slot) → u.delta ≡ 0 → IsFrom u.time.0 x → is_due u x ≡ false → IsLater u.time.0 x
unfolding IsFrom
undue_after u Nothing d h e = tt
undue_after u (NextDelta made) d h e = absurd h
undue_after u (AtTime t) d h e =
    ⊎_elim
    (λ lt. lt)
    (λ le. let same : u.time.0 ≡ t.0 = omega arith in let f : is_due u (AtTime t) ≡ true = rw (eq-eqb u.time.0 t.0 same, eq-eqb u.delta 0 d) refl in absurd cc)
    (cases_lt u.time.0 t.0)

all_woken_after : (u : Stamp) (slots : List Slot) (xs : List Wait) → u.delta ≡ 0 → AllFrom u.time.0 (timeouts xs) → AllLater u.time.0 (timeouts (map (woken u slots) xs))
unfolding AllFrom
all_woken_after u slots [] d h = tt
all_woken_after u slots (x ∷ xs) d h = (woken_has u (IsLater u.time.0) tt slots x (undue_after u x.timeout d h.0), all_woken_after u slots xs d h.1)

-- ---- the rest of a cycle

-- what goes on is between two cycles, and has fewer cycles left than n
Shrinks : Limits → ℕ → Progress → Type 0
Shrinks limits n (Over w e) = Unit {0}
Shrinks limits n (Goes w) = IsBetween limits w × (cycles_left limits w < n)

if_shrinks : (limits : Limits) (n : ℕ) (b : Bool) (x y : Progress) → (b ≡ true → Shrinks limits n x) → (b ≡ false → Shrinks limits n y) → Shrinks limits n (if b then x else y)
if_shrinks limits n true x y h k = h refl
if_shrinks limits n false x y h k = k refl

less_time : (stop n t d m : ℕ) → n < t → t ≤ stop → (stop - n) * (d + 1) ≤ m → (stop - t) * (d + 1) + (d - 0) < m
less_time stop n t d m h k le =
    let a : suc (stop - t) * (d + 1) ≤ (stop - n) * (d + 1) = mul-le-mul_right (d + 1) (omega arith) in
    let b : suc (stop - t) * (d + 1) ≡ (stop - t) * (d + 1) + (d + 1) = suc-mul (stop - t) (d + 1) in
    omega (arith, a, b)

-- a world whose notifications are made
record IsReached (limits : Limits) (n : ℕ) (w : World) : Type 0 where
  time : w.stamp.time.0 ≤ limits.stop.0
  some : 0 < limits.deltas
  delta : w.stamp.delta ≤ limits.deltas
  slots : AllLater w.stamp.time.0 w.slots
  waits : AllLater w.stamp.time.0 (timeouts w.waits)
  now : w.stamp.delta < limits.deltas → cycles_left limits w < n
  later : (limits.stop.0 - w.stamp.time.0) * (limits.deltas + 1) ≤ n

module _ (limits : Limits) (n : ℕ) (w : World) (h : IsReached limits n w) where
  delta_shrinks : Shrinks limits n (in_delta limits w)
  unfolding Shrinks
  delta_shrinks =
      if_shrinks limits n (w.stamp.delta == limits.deltas) _ _ (λ e. tt) (λ e.
      let ne = eqb-false w.stamp.delta limits.deltas e in
      let le = h.delta in
      let lt : w.stamp.delta < limits.deltas = omega (arith, ne, le) in
      (record { time = h.time; delta = lt; slots = h.slots; waits = h.waits }, h.now lt))

  time_shrinks : (t : Stamp) → least_activity w ≡ Some t → t.time.0 ≤ limits.stop.0 → (o : Option Stamp) → least_pending w ≡ o → Shrinks limits n (advance w o)
  unfolding Shrinks From Holds IsFirstAfter reach
  time_shrinks t e le None f = tt
  time_shrinks t e le (Some u) f =
      let now = w.stamp.time.0 in
      let P = IsFirstAfter now in
      let first : P u =
      subst (Holds P) f
      (sooner_holds P (least (map due_of w.slots)) (least (map (λ x. due_of x.timeout) w.waits))
      (least_slots P (IsLater now) (later_dues now) (later_each now P w.slots h.slots))
      (least_waits P (IsLater now) (later_dues now) w.waits (later_each now P (timeouts w.waits) h.waits)))
      in
      let pending : From u.time.0 (least_pending w) = subst (From u.time.0) (sym f) (omega arith) in
      let both = sooner_from u.time.0 (least (map due_of w.slots)) (least (map (λ x. due_of x.timeout) w.waits)) pending in
      let slots = all_from u.time.0 now w.slots h.slots both.0 in
      let waits = all_waits_from u.time.0 now w.waits h.waits both.1 in
      let N : Stamp → Type 0 = λ s. u.time.0 ≤ s.time.0 in
      let below : u.time.0 ≤ t.time.0 =
      subst (Holds N) e
      (activities N (IsFrom u.time.0) (from_dues u.time.0) w.slots (from_each u.time.0 N w.slots slots) w.waits (from_each u.time.0 N (timeouts w.waits) waits))
      in
      let d : u.delta ≡ 0 = first.1 in
      let m : (limits.stop.0 - now) * (limits.deltas + 1) ≤ n = h.later in
      let some : 0 < limits.deltas = h.some in
      let less : (limits.stop.0 - u.time.0) * (limits.deltas + 1) + (limits.deltas - 0) < n = less_time limits.stop.0 now u.time.0 limits.deltas n first.0 (omega (arith, below, le)) m in (
        record {
          time = omega (arith, below, le);
          delta = omega (arith, d, some);
          slots = all_come_later u w.slots slots;
          waits = all_woken_after u w.slots w.waits d waits;
        },
        rw d less,
      )

  later_shrinks : (o : Option Stamp) → least_activity w ≡ o → Shrinks limits n (later limits w o)
  unfolding Shrinks
  later_shrinks None e = tt
  later_shrinks (Some t) e = if_shrinks limits n (nat_lt limits.stop.0 t.time.0) _ _ (λ f. tt) (λ f. time_shrinks t e (ltb-false limits.stop.0 t.time.0 f) (least_pending w) refl)

  notified_shrinks : Shrinks limits n (notified limits w)
  unfolding notified
  notified_shrinks = if_shrinks limits n (some_runnable w) _ _ (λ e. delta_shrinks) (λ e. later_shrinks _ refl)

less_delta : (x d e : ℕ) → e + 1 ≤ d → x + (d - (e + 1)) < x + (d - e)
less_delta x d e h = omega arith

-- the next delta cycle of a world whose evaluation and update are done
next_reached : (limits : Limits) (w : World) → w.stamp.time.0 ≤ limits.stop.0 → w.stamp.delta < limits.deltas → Good w → IsReached limits (cycles_left limits w) (reach (next_delta w.stamp) w)
unfolding reach
next_reached limits w time delta good = record {
  time = time;
  some = omega (arith, delta);
  delta = omega (arith, delta);
  slots = all_left_later w.stamp w.slots good.slots;
  waits = all_woken_later w.stamp w.slots w.waits good.waits;
  now = λ lt. less_delta _ limits.deltas w.stamp.delta (omega (arith, delta));
  later = omega arith;
}

settled_shrinks : (limits : Limits) (w : World) → w.stamp.time.0 ≤ limits.stop.0 → w.stamp.delta < limits.deltas → Good w → (e : Option End) → Shrinks limits (cycles_left limits w) (settle_at limits w e)
unfolding Shrinks
settled_shrinks limits w time delta good (Some e) = tt
settled_shrinks limits w time delta good None =
    let u = update_kept w in
    let r = next_reached limits (update w) (rw u.stamp time) (rw u.stamp delta) (u.good good) in
    let same : cycles_left limits (update w) ≡ cycles_left limits w = rw u.stamp refl in
    if_shrinks limits (cycles_left limits w) w.stopped _ _ (λ e. tt) (λ e.
    subst (λ n. Shrinks limits n (notified limits (reach (next_delta w.stamp) (update w)))) same
    (subst (λ s. Shrinks limits (cycles_left limits (update w)) (notified limits (reach (next_delta s) (update w)))) u.stamp
    (notified_shrinks limits (cycles_left limits (update w)) (reach (next_delta (update w).stamp) (update w)) r)))

-- ---- a run

module _ (K : Type 0) (activate : Activate K) (order : List ℕ) (limits : Limits) where
  OverIn : ℕ → State K → Type 0
  OverIn n s = (r : Result) × (run activate order limits n s ≡ Some r)

  finish_over : (m n : ℕ) (places : List K) (x : Progress) → Shrinks limits m x → m ≤ n → ((s : State K) → IsBetween limits s.world → cycles_left limits s.world < n → OverIn n s) → (r : Result) × (finish places x (run activate order limits n) ≡ Some r)
  unfolding Shrinks OverIn
  finish_over m n places (Over w e) h le go = (result_of w e, refl)
  finish_over m n places (Goes w) h le go = go (state_of w places) h.0 (omega (arith, h.1))

  over_in : (n : ℕ) (s : State K) → IsBetween limits s.world → cycles_left limits s.world < n → OverIn n s
  unfolding OverIn run settle
  over_in zero s b lt = absurd (omega arith)
  over_in (suc n) s b lt =
      let k = evaluate_kept K activate order s in
      let w = (evaluate activate order s).world in
      let good : Good w = k.good (record { slots = all_later_fit s.world.stamp s.world.slots b.slots; waits = all_later_fit s.world.stamp (timeouts s.world.waits) b.waits }) in
      let same : cycles_left limits w ≡ cycles_left limits s.world = rw k.stamp refl in
      finish_over (cycles_left limits w) n (evaluate activate order s).places _
      (settled_shrinks limits w (rw k.stamp b.time) (rw k.stamp b.delta) good w.broken)
      (omega (arith, same)) (over_in n)

  pub ends : (n : ℕ) (s : State K) → IsBetween limits s.world → cycles_left limits s.world < n → (r : Result) × (run_whole activate order limits n s ≡ Some r)
  unfolding run_whole
  ends n s b lt =
      finish_over (cycles_left limits s.world + 1) n s.places (notified limits s.world)
      (notified_shrinks limits (cycles_left limits s.world + 1) s.world (record {
        time = b.time;
        some = let d = b.delta in omega arith;
        delta = let d = b.delta in omega arith;
        slots = b.slots;
        waits = b.waits;
        now = λ h. omega arith;
        later = omega arith;
      }))
      (omega arith) (over_in n)
