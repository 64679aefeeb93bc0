-- The phases after an evaluation reach the least stamp at which a process runs.
use Rattle.std.proofs.Common.{◌≡◌, ℕ, zero, suc, ◌<◌, ◌≤◌, ◌+◌, Bool, true, false, if◌then◌else◌, arith, List, [], ◌∷◌, Option, Some, None, refl, sym, subst, ap, ◌∙◌, get_or, map, lt-ltb, le-ltb, eq-eqb, ⊎_elim}
use Rattle.std.proofs.lemmas.Bool.{or_parts, or_cases, or_left, or_right, ne_eqb}
use Rattle.std.specs.List.{list_any}
use Rattle.ooo_time.specs.declared.stamp.Stamp.{Stamp}
use Rattle.ooo_time.specs.Stamps.{IsBefore}
use Rattle.ooo_events.specs.Slots.{Slot, Nothing, due_of, has_come, slot_left_at}
use Rattle.ooo_plain.proofs.Order.{IsBefore-irrefl, IsBefore-trans, IsBefore-next, some_same}
use Rattle.ooo_code.specs.declared.limits.Limits.{Limits}
use Rattle.ooo_history.specs.declared.run.End.TheVariants as end
use Rattle.ooo_meaning.specs.World.{World, Wait, Progress, Over, Goes, slot_at, is_at, is_due, activity, least, woken, never, wait_at, some_runnable, reach, next_delta, least_activity, least_pending, in_delta, later, advance, notified, idle}
use Rattle.ooo_plain.specs.Tracking.{will_run}
use Rattle.ooo_plain.proofs.Slots.{Later, left_is_later, left_none, IsNear}
use Rattle.ooo_plain.proofs.Least.{From, at_same, at_is, at_sooner, at_least, sooner_from, from_sooner, from_least, least_from}
use Rattle.ooo_plain.proofs.Waits.{left, due_at, slot-left, woken_is, kept, timeout_later, reached, runnable_reached, woken-left, left-left}

-- no process is runnable, and what is pending is due later
pub record Rested (u : World) : Type 0 where
  pub idle : (p : ℕ) → (wait_at u.waits p).runnable ≡ false
  pub slots : (e : ℕ) → Later u.stamp (due_at u.slots e)
  pub timeouts : (p : ℕ) → Later u.stamp (due_of (wait_at u.waits p).timeout)

abbrev pub some_awake : List Wait → Bool
some_awake ws = list_any (λ x. x.runnable) ws

-- ---- each process, in the list of all

module _ (s : Stamp) (slots : List Slot) where
  abbrev Idle : List Wait → Type 0
  Idle ws = (p : ℕ) → (wait_at ws p).runnable ≡ false

  abbrev FromAll : List Wait → Type 0
  FromAll ws = From s (least (map (activity slots) ws))

  all_reached : (ws : List Wait) → Idle ws → FromAll ws → map (will_run s (left s slots)) (map (woken s slots) ws) ≡ map (activity slots) ws
  all_reached [] idle h = refl
  all_reached (x ∷ ws) idle h = let b = sooner_from s (activity slots x) (least (map (activity slots) ws)) h in rw (reached s slots x (idle 0) b.0, all_reached ws (λ p. idle (suc p)) b.1) refl

  any_runnable : (ws : List Wait) → Idle ws → FromAll ws → some_awake (map (woken s slots) ws) ≡ list_any (λ x. is_at s (activity slots x)) ws
  any_runnable [] idle h = refl
  any_runnable (x ∷ ws) idle h = let b = sooner_from s (activity slots x) (least (map (activity slots) ws)) h in rw (runnable_reached s slots x (idle 0) b.0, any_runnable ws (λ p. idle (suc p)) b.1) refl

  pub some_reached : (ws : List Wait) → Idle ws → FromAll ws → some_awake (map (woken s slots) ws) ≡ is_at s (least (map (activity slots) ws))
  some_reached ws idle h = any_runnable ws idle h ∙ sym (at_least (activity slots) s ws h)

  -- where none wakes, all waits stay
  none_woken : (ws : List Wait) → FromAll ws → list_any (λ x. is_at s (activity slots x)) ws ≡ false → map (woken s slots) ws ≡ ws
  none_woken [] h f = refl
  none_woken (x ∷ ws) h f =
      let b = sooner_from s (activity slots x) (least (map (activity slots) ws)) h in
      let g = or_parts _ _ f in
      let quiet : is_at s (activity slots x) ≡ false = g.0 in
      rw (woken_is s slots x b.0, quiet, none_woken ws b.1 g.1) refl

  all_kept : (ws : List Wait) → FromAll ws → list_any (λ x. is_at s (activity slots x)) ws ≡ false → map (activity (left s slots)) ws ≡ map (activity slots) ws
  all_kept [] h f = refl
  all_kept (x ∷ ws) h f =
      let b = sooner_from s (activity slots x) (least (map (activity slots) ws)) h in
      let g = or_parts _ _ f in
      rw (kept s slots x b.0 g.0, all_kept ws b.1 g.1) refl

  all_timeouts : (ws : List Wait) → FromAll ws → list_any (λ x. is_at s (activity slots x)) ws ≡ false → (p : ℕ) → Later s (due_of (wait_at ws p).timeout)
  all_timeouts [] h f p = tt
  all_timeouts (x ∷ ws) h f zero = let b = sooner_from s (activity slots x) (least (map (activity slots) ws)) h in timeout_later s slots x b.0 ((or_parts _ _ f).0)
  all_timeouts (x ∷ ws) h f (suc p) = let b = sooner_from s (activity slots x) (least (map (activity slots) ws)) h in all_timeouts ws b.1 ((or_parts _ _ f).1) p

  -- a time-out at a stamp is an activity then
  timeout_active : (ws : List Wait) → FromAll ws → list_any (λ x. is_due s x.timeout) ws ≡ true → list_any (λ x. is_at s (activity slots x)) ws ≡ true
  timeout_active [] h f = f
  timeout_active (x ∷ ws) h f =
      let b = sooner_from s (activity slots x) (least (map (activity slots) ws)) h in
      let c = sooner_from s (due_of x.timeout) (least (map (due_at slots) x.events)) b.0 in
      ⊎_elim
      (λ here. or_left _ _ (at_sooner s (due_of x.timeout) (least (map (due_at slots) x.events)) c.0 c.1 ∙ or_left _ _ here))
      (λ there. or_right _ _ (timeout_active ws b.1 there))
      (or_cases _ _ f)

woken_all-left : (s t : Stamp) → IsBefore s t → (slots : List Slot) (ws : List Wait) → map (woken t (left s slots)) ws ≡ map (woken t slots) ws
woken_all-left s t lt slots [] = refl
woken_all-left s t lt slots (x ∷ ws) = rw (woken-left s t lt slots x, woken_all-left s t lt slots ws) refl

-- ---- how much is pending

abbrev pub one_pending : Option Stamp → ℕ
one_pending None = 0
one_pending (Some t) = 1

abbrev pub pending : List Slot → ℕ
pending [] = 0
pending (x ∷ xs) = one_pending (due_of x) + pending xs

fewer_at : (s : Stamp) (x : Slot) → one_pending (due_of (slot_left_at x s)) ≤ one_pending (due_of x)
fewer_at s x = go (has_come (due_of x) s) where
  go : (b : Bool) → one_pending (due_of (if b then Nothing else x)) ≤ one_pending (due_of x)
  go true = omega arith
  go false = omega arith

fewer : (s : Stamp) (xs : List Slot) → pending (left s xs) ≤ pending xs
fewer s [] = omega arith
fewer s (x ∷ xs) = omega (arith, fewer_at s x, fewer s xs)

less : (s : Stamp) (xs : List Slot) → list_any (λ x. is_due s x) xs ≡ true → pending (left s xs) < pending xs
less s [] f = absurd cc
less s (x ∷ xs) f =
    ⊎_elim
    (λ here. let e = at_is s (due_of x) here in let g = left_none x s s e (IsBefore-irrefl s) in rw (g, e) (omega (arith, fewer s xs)))
    (λ there. omega (arith, fewer_at s x, less s xs there))
    (or_cases _ _ f)

-- ---- one stamp is reached

pub later_next : (now : Stamp) (o : Option Stamp) → Later now o → From (next_delta now) o
later_next now None h = tt
later_next now (Some t) h = IsBefore-next now t h

-- a process that isn't runnable, as the list of all says it
none_runnable : (ws : List Wait) → ((p : ℕ) → (wait_at ws p).runnable ≡ false) → some_awake ws ≡ false
none_runnable [] h = refl
none_runnable (x ∷ ws) h = rw (h 0, none_runnable ws (λ p. h (suc p))) refl

idle_each : (ws : List Wait) → some_awake ws ≡ false → (p : ℕ) → (wait_at ws p).runnable ≡ false
idle_each [] h p = refl
idle_each (x ∷ ws) h zero = (or_parts _ _ h).0
idle_each (x ∷ ws) h (suc p) = idle_each ws ((or_parts _ _ h).1) p

-- nothing is active before the next delta cycle
pub from_next : (u : World) → Rested u → From (next_delta u.stamp) (least_activity u)
from_next u h = from_least (activity u.slots) (next_delta u.stamp) u.waits never (λ p.
    from_sooner (next_delta u.stamp) (due_of (wait_at u.waits p).timeout) (least (map (due_at u.slots) (wait_at u.waits p).events))
    (later_next u.stamp _ (h.timeouts p))
    (from_least (due_at u.slots) (next_delta u.stamp) (wait_at u.waits p).events 0 (λ i. later_next u.stamp _ (h.slots (get_or (wait_at u.waits p).events i 0)))))

pending_next : (u : World) → Rested u → From (next_delta u.stamp) (least_pending u)
pending_next u h =
    from_sooner (next_delta u.stamp) (least (map due_of u.slots)) (least (map (λ x. due_of x.timeout) u.waits))
    (from_least due_of (next_delta u.stamp) u.slots Nothing (λ e. later_next u.stamp _ (h.slots e)))
    (from_least (λ x. due_of x.timeout) (next_delta u.stamp) u.waits never (λ p. later_next u.stamp _ (h.timeouts p)))

-- what is active is pending
pending_active : (u : World) (s : Stamp) → From s (least_pending u) → From s (least_activity u)
pending_active u s h =
    let b = sooner_from s (least (map due_of u.slots)) (least (map (λ x. due_of x.timeout) u.waits)) h in
    from_least (activity u.slots) s u.waits never (λ p.
    from_sooner s (due_of (wait_at u.waits p).timeout) (least (map (due_at u.slots) (wait_at u.waits p).events))
    (least_from (λ x. due_of x.timeout) s u.waits never tt b.1 p)
    (from_least (due_at u.slots) s (wait_at u.waits p).events 0 (λ i. least_from due_of s u.slots Nothing tt b.0 (get_or (wait_at u.waits p).events i 0))))

module _ (u : World) (s : Stamp) (h : Rested u) (from : From s (least_activity u)) where
  -- when each process runs next stays the same
  pub will_reached : map (will_run s (reach s u).slots) (reach s u).waits ≡ map (activity u.slots) u.waits
  unfolding reach
  will_reached = all_reached s u.slots u.waits h.idle from

  pub runnable_at : some_runnable (reach s u) ≡ is_at s (least_activity u)
  unfolding reach
  runnable_at = some_reached s u.slots u.waits h.idle from

  module _ (none : is_at s (least_activity u) ≡ false) where
    nobody : list_any (λ x. is_at s (activity u.slots x)) u.waits ≡ false
    nobody = sym (at_least (activity u.slots) s u.waits from) ∙ none

    pub same_waits : (reach s u).waits ≡ u.waits
    unfolding reach
    same_waits = none_woken s u.slots u.waits from nobody

    pub same_activity : least_activity (reach s u) ≡ least_activity u
    unfolding reach same_waits
    same_activity = ap (λ ws. least (map (activity (left s u.slots)) ws)) (none_woken s u.slots u.waits from nobody) ∙ ap least (all_kept s u.slots u.waits from nobody)

    pub rested : Rested (reach s u)
    unfolding reach
    rested = record {
      idle = idle_each (map (woken s u.slots) u.waits) (some_reached s u.slots u.waits h.idle from ∙ none);
      slots = λ e. rw (slot-left s u.slots e) (left_is_later (slot_at u.slots e) s);
      timeouts = λ p. subst (λ ws. Later s (due_of (wait_at ws p).timeout)) (sym (none_woken s u.slots u.waits from nobody)) (all_timeouts s u.slots u.waits from nobody p);
    }

    pub reach-reach : (t : Stamp) → IsBefore s t → reach t (reach s u) ≡ reach t u
    unfolding reach
    reach-reach t lt = rw (none_woken s u.slots u.waits from nobody, woken_all-left s t lt u.slots u.waits, left-left s t lt u.slots) refl

-- ---- the phases move to a stamp at which nobody runs before

-- the rest of a cycle reaches a stamp that is no later than this one, and where it is earlier, less is pending then
pub record Moves (u : World) (t : Stamp) (x : Progress) : Type 0 where
  pub at : Stamp
  pub goes : x ≡ Goes (reach at u)
  pub after : IsBefore u.stamp at
  pub before : From at (Some t)
  pub nearer : is_at at (Some t) ≡ false → pending (left at u.slots) < pending u.slots

-- what bounds what is pending bounds what is active
some_pending : (d : World) (t : Stamp) → least_activity d ≡ Some t → (m : Stamp) × (least_pending d ≡ Some m)
some_pending d t e = go (least_pending d) refl where
  go : (o : Option Stamp) → least_pending d ≡ o → (m : Stamp) × (o ≡ Some m)
  go (Some m) f = (m, refl)
  go None f =
      let all : From (next_delta t) (Some t) = subst (From (next_delta t)) e (pending_active d (next_delta t) (subst (From (next_delta t)) (sym f) tt)) in
      absurd (all (grind arith))

-- what is pending at a stamp at which no process runs is an event's
pending_slot : (d : World) (m : Stamp) → least_pending d ≡ Some m → is_at m (least_activity d) ≡ false → list_any (λ x. is_due m x) d.slots ≡ true
pending_slot d m e f =
    let at : From m (least_pending d) = subst (From m) (sym e) (IsBefore-irrefl m) in
    let b = sooner_from m (least (map due_of d.slots)) (least (map (λ x. due_of x.timeout) d.waits)) at in
    let is : is_at m (least_pending d) ≡ true = ap (is_at m) e ∙ at_same m in
    let active : From m (least_activity d) = pending_active d m at in
    ⊎_elim
    (λ slot. sym (at_least due_of m d.slots b.0) ∙ slot)
    (λ timeout.
    let any = timeout_active m d.slots d.waits active (sym (at_least (λ x. due_of x.timeout) m d.waits b.1) ∙ timeout) in
    let yes : is_at m (least_activity d) ≡ true = at_least (activity d.slots) m d.waits active ∙ any in
    absurd (let no : true ≡ false = sym yes ∙ f in cc))
    (or_cases _ _ (sym (at_sooner m (least (map due_of d.slots)) (least (map (λ x. due_of x.timeout) d.waits)) b.0 b.1) ∙ is))

pub from_before : (a b : Stamp) → From (next_delta a) (Some b) → IsBefore a b
from_before a b h = grind arith

pub reached_stamp : (s : Stamp) (u : World) → (reach s u).stamp ≡ s
unfolding reach
reached_stamp s u = refl

pub reached_slots : (s : Stamp) (u : World) → (reach s u).slots ≡ left s u.slots
unfolding reach
reached_slots s u = refl

notified_is : (limits : Limits) (d : World) → notified limits d ≡ (if some_runnable d then in_delta limits d else later limits d (least_activity d))
unfolding notified
notified_is limits d = refl

module _ (limits : Limits) (u : World) (t : Stamp) (h : Rested u) (e : least_activity u ≡ Some t) where
  abbrev n : Stamp
  n = next_delta u.stamp

  abbrev d : World
  d = reach n u

  from_n : From n (least_activity u)
  from_n = from_next u h

  in_time_is : is_at n (least_activity u) ≡ true → notified limits d ≡ in_delta limits d
  in_time_is f = notified_is limits d ∙ rw (runnable_at u n h from_n ∙ f) refl

  stamp_d : d.stamp ≡ n
  stamp_d = reached_stamp n u

  same_n : is_at n (least_activity u) ≡ true → t ≡ n
  same_n f = some_same (sym e ∙ at_is n (least_activity u) f)

  in_time : ¬ (t.delta ≡ limits.deltas) → is_at n (least_activity u) ≡ true → Moves u t (notified limits d)
  in_time small f =
      let same : t ≡ n = same_n f in
      let ne : ¬ (d.stamp.delta ≡ limits.deltas) = λ k. small (ap (λ x. x.delta) (same ∙ sym stamp_d) ∙ k) in
      record {
        at = n;
        goes = in_time_is f ∙ rw (ne_eqb d.stamp.delta limits.deltas ne) refl;
        after = grind arith;
        before = subst (λ x. From n (Some x)) (sym same) (IsBefore-irrefl n);
        nearer = λ g. absurd (let no : true ≡ false = sym f ∙ ap (is_at n) e ∙ g in cc);
      }

  -- the delta limit is reached
  in_depth : t.delta ≡ limits.deltas → is_at n (least_activity u) ≡ true → notified limits d ≡ Over d (end.Deltas t)
  in_depth deep f =
      let same : d.stamp ≡ t = stamp_d ∙ sym (same_n f) in
      let is : d.stamp.delta ≡ limits.deltas = ap (λ x. x.delta) same ∙ deep in
      in_time_is f ∙ rw (eq-eqb d.stamp.delta limits.deltas is) (ap (λ x. Over d (end.Deltas x)) same)

  module _ (none : is_at n (least_activity u) ≡ false) where
    active : least_activity d ≡ Some t
    active = same_activity u n h from_n none ∙ e

    calm : Rested d
    calm = rested u n h from_n none

    notified_later : notified limits d ≡ later limits d (Some t)
    notified_later = notified_is limits d ∙ rw (runnable_at u n h from_n ∙ none) (ap (later limits d) active)

    in_later : t.time.0 ≤ limits.stop.0 → Moves u t (notified limits d)
    in_later le =
        let m = (some_pending d t active).0 in
        let is = (some_pending d t active).1 in
        let after : IsBefore n m = subst (λ x. IsBefore x m) stamp_d (from_before d.stamp m (subst (From (next_delta d.stamp)) is (pending_next d calm))) in
        let far : From m (least_pending d) = subst (From m) (sym is) (IsBefore-irrefl m) in
        let slots : is_at m (Some t) ≡ false → list_any (λ x. is_due m x) d.slots ≡ true = λ f. pending_slot d m is (ap (is_at m) active ∙ f) in
        record {
          at = m;
          goes = notified_later ∙ rw (le-ltb limits.stop.0 t.time.0 le) (ap (advance d) is ∙ ap Goes (reach-reach u n h from_n none m after));
          after = IsBefore-trans u.stamp n m (grind arith) after;
          before = subst (From m) active (pending_active d m far);
          nearer = λ f.
              let a : pending (left m (left n u.slots)) < pending (left n u.slots) = less m (left n u.slots) (subst (λ xs. list_any (λ x. is_due m x) xs ≡ true) (reached_slots n u) (slots f)) in
              let b : pending (left n u.slots) ≤ pending u.slots = fewer n u.slots in
              let c : pending (left m (left n u.slots)) ≡ pending (left m u.slots) = ap pending (left-left n m after u.slots u.slots) in
              omega (arith, a, b, c);
        }

    in_never : limits.stop.0 < t.time.0 → notified limits d ≡ Over d (end.Time limits.stop)
    in_never lt = notified_later ∙ rw (lt-ltb limits.stop.0 t.time.0 lt) refl

  pub moves : ¬ (t.delta ≡ limits.deltas) → t.time.0 ≤ limits.stop.0 → Moves u t (notified limits d)
  moves small le = go (is_at n (least_activity u)) refl where
    go : (b : Bool) → is_at n (least_activity u) ≡ b → Moves u t (notified limits d)
    go true f = in_time small f
    go false f = in_later f le

  -- after the stop time
  pub too_late : u.stamp.time.0 ≤ limits.stop.0 → limits.stop.0 < t.time.0 → notified limits d ≡ Over d (end.Time limits.stop)
  too_late le lt = go (is_at n (least_activity u)) refl where
    go : (b : Bool) → is_at n (least_activity u) ≡ b → notified limits d ≡ Over d (end.Time limits.stop)
    go true f = absurd (let time : t.time.0 ≡ u.stamp.time.0 = ap (λ x. x.time.0) (same_n f) in omega (arith, time))
    go false f = in_never f lt

  -- at the delta limit
  pub too_deep : 0 < limits.deltas → IsNear u.stamp t → t.delta ≡ limits.deltas → notified limits d ≡ Over d (end.Deltas t)
  too_deep some near deep =
      ⊎_elim
      (λ same. in_depth deep (ap (is_at n) (e ∙ ap Some same) ∙ at_same n))
      (λ zero. absurd (omega (arith, zero, deep, some)))
      near

pub no_more : (limits : Limits) (u : World) → Rested u → least_activity u ≡ None → notified limits (reach (next_delta u.stamp) u) ≡ idle (reach (next_delta u.stamp) u)
no_more limits u h e =
    let none : is_at (next_delta u.stamp) (least_activity u) ≡ false = ap (is_at (next_delta u.stamp)) e in
    let d = reach (next_delta u.stamp) u in
    notified_is limits d ∙ rw (runnable_at u (next_delta u.stamp) h (from_next u h) ∙ none) (ap (later limits d) (same_activity u (next_delta u.stamp) h (from_next u h) none ∙ e))
