-- When processes run, by the schedule and by the phases.
use Rattle.std.proofs.Common.{◌≡◌, ◌≢◌, ℕ, zero, suc, Bool, true, false, if◌then◌else◌, arith, List, [], ◌∷◌, Option, Some, None, refl, sym, subst, ap, ◌∙◌, get_or, map, length}
use Rattle.std.proofs.lemmas.Bool.{false_from_ne_true}
use Rattle.std.proofs.lemmas.List.{length-map}
use Rattle.std.proofs.Math.ListN.{get_or-map}
use Rattle.ooo_time.specs.declared.stamp.Stamp.{Stamp}
use Rattle.ooo_time.specs.Stamps.{IsBefore, is_before}
use Rattle.ooo_value.specs.declared.bound.BoundEvent.{BoundEvent}
use Rattle.ooo_events.specs.Slots.{Slot, due_of, slot_after_delta}
use Rattle.ooo_code.specs.Channels.{Channel, is_notified}
use Rattle.ooo_meaning.specs.World.{World, Wait, slot_at, wait_at, never, awake, notified_slots, update, is_at, activity, sooner, least, woken, reach, next_delta, least_activity}
use Rattle.ooo_channels.specs.Agreement.{IsTimely, IsAhead}
use Rattle.ooo_plain.specs.declared.schedule.Schedule.{Schedule}
use Rattle.ooo_plain.specs.Agenda.{due_in, AllFrom}
use Rattle.ooo_plain.specs.Tracking.{will_run, awaited_of, IsPlanned}
use Rattle.ooo_plain.proofs.Order.{IsBefore-irrefl, IsBefore-trans, some_same}
use Rattle.ooo_plain.proofs.Slots.{Later, ahead_later, ahead_near, delta_ahead, IsNear, Holds}
use Rattle.ooo_plain.proofs.Least.{From, from_sooner, from_least, least_from}
use Rattle.ooo_plain.proofs.Waits.{due_at, woken_is}
use Rattle.ooo_plain.proofs.Phases.{Rested, later_next, will_reached, from_before, from_next}

-- ---- what is pending after the update

notified_ahead : (now : Stamp) (cs : List Channel) (es : List BoundEvent) (xs : List Slot) → ((i : ℕ) → IsAhead now (slot_at xs i)) → (i : ℕ) → IsAhead now (slot_at (notified_slots now cs es xs) i)
notified_ahead now cs (e ∷ es) (x ∷ xs) h zero = go (is_notified cs e)
  where
    go : (b : Bool) → IsAhead now (if b then slot_after_delta x now else x)
    go true = delta_ahead now x (h 0)
    go false = h 0
notified_ahead now cs (e ∷ es) (x ∷ xs) h (suc i) = notified_ahead now cs es xs (λ j. h (suc j)) i
notified_ahead now cs [] xs h i = h i
notified_ahead now cs (e ∷ es) [] h i = h i

pub update_waits : (w : World) → (update w).waits ≡ w.waits
unfolding update
update_waits w = refl

pub update_stamp : (w : World) → (update w).stamp ≡ w.stamp
unfolding update
update_stamp w = refl

slots_ahead : (w : World) → IsTimely w → (e : ℕ) → IsAhead w.stamp (slot_at (update w).slots e)
unfolding update
slots_ahead w h e = notified_ahead w.stamp w.channels w.events w.slots h.slots e

-- a fact of the earlier of two stamps
sooner_holds : (P : Stamp → Type 0) (a b : Option Stamp) → Holds P a → Holds P b → Holds P (sooner a b)
sooner_holds P None b h k = k
sooner_holds P (Some a) None h k = h
sooner_holds P (Some a) (Some b) h k = go (is_before b a) where
  go : (x : Bool) → Holds P (if x then Some b else Some a)
  go true = k
  go false = h

least_holds : {A : Type 0} (P : Stamp → Type 0) (f : A → Option Stamp) (xs : List A) (d : A) → ((i : ℕ) → Holds P (f (get_or xs i d))) → Holds P (least (map f xs))
least_holds P f [] d h = tt
least_holds P f (x ∷ xs) d h = sooner_holds P (f x) (least (map f xs)) (h 0) (least_holds P f xs d (λ i. h (suc i)))

module _ (w : World) (timely : IsTimely w) where
  pub slots_later : (e : ℕ) → Later w.stamp (due_at (update w).slots e)
  slots_later e = ahead_later w.stamp (slot_at (update w).slots e) (slots_ahead w timely e)

  timeout_later : (p : ℕ) → Later w.stamp (due_of (wait_at w.waits p).timeout)
  timeout_later p = ahead_later w.stamp (wait_at w.waits p).timeout (timely.timeouts p)

  pub rest : ((p : ℕ) → (wait_at w.waits p).runnable ≡ false) → Rested (update w)
  unfolding update
  rest idle = record { idle = idle; slots = slots_later; timeouts = timeout_later }

  pub activity_next : (p : ℕ) → From (next_delta w.stamp) (activity (update w).slots (wait_at w.waits p))
  activity_next p =
      from_sooner (next_delta w.stamp) (due_of (wait_at w.waits p).timeout) (least (map (due_at (update w).slots) (wait_at w.waits p).events))
      (later_next w.stamp _ (timeout_later p))
      (from_least (due_at (update w).slots) (next_delta w.stamp) (wait_at w.waits p).events 0 (λ i. later_next w.stamp _ (slots_later (get_or (wait_at w.waits p).events i 0))))

  activity_near : (p : ℕ) → Holds (IsNear w.stamp) (activity (update w).slots (wait_at w.waits p))
  activity_near p =
      sooner_holds (IsNear w.stamp) (due_of (wait_at w.waits p).timeout) (least (map (due_at (update w).slots) (wait_at w.waits p).events))
      (ahead_near w.stamp (wait_at w.waits p).timeout (timely.timeouts p))
      (least_holds (IsNear w.stamp) (due_at (update w).slots) (wait_at w.waits p).events 0 (λ i. ahead_near w.stamp _ (slots_ahead w timely (get_or (wait_at w.waits p).events i 0))))

  pub near_least : (t : Stamp) → least (map (activity (update w).slots) w.waits) ≡ Some t → IsNear w.stamp t
  near_least t e = subst (Holds (IsNear w.stamp)) e (least_holds (IsNear w.stamp) (activity (update w).slots) w.waits never activity_near)

  -- who isn't runnable isn't due now
  pub not_now : (p : ℕ) → (wait_at w.waits p).runnable ≡ false → will_run w.stamp (update w).slots (wait_at w.waits p) ≢ Some w.stamp
  not_now p idle e =
      let f : activity (update w).slots (wait_at w.waits p) ≡ Some w.stamp = sym (rw idle refl) ∙ e in
      let g : From (next_delta w.stamp) (Some w.stamp) = subst (From (next_delta w.stamp)) f (activity_next p) in
      g (grind arith)

-- ---- what the schedule has

module _ (s : Schedule) (w : World) (timely : IsTimely w) (h : IsPlanned s w) where
  pub due_is : (p : ℕ) → due_in s.agenda p ≡ will_run w.stamp (update w).slots (wait_at w.waits p)
  due_is p = ap (λ xs. due_in xs p) h.dues ∙ get_or-map (will_run w.stamp (update w).slots) w.waits p never

  pub due_now : (p : ℕ) → (wait_at w.waits p).runnable ≡ true → due_in s.agenda p ≡ Some w.stamp
  due_now p runs = due_is p ∙ rw runs refl

  pub due_not_now : (p : ℕ) → (wait_at w.waits p).runnable ≡ false → due_in s.agenda p ≢ Some w.stamp
  due_not_now p idle e = not_now w timely p idle (sym (due_is p) ∙ e)

  pub runs_if_due : (p : ℕ) → due_in s.agenda p ≡ Some w.stamp → (wait_at w.waits p).runnable ≡ true
  runs_if_due p due = go (wait_at w.waits p).runnable refl where
    go : (b : Bool) → (wait_at w.waits p).runnable ≡ b → b ≡ true
    go true e = refl
    go false e = absurd (due_not_now p e due)

  pub all_from : AllFrom w.stamp s.agenda
  all_from p t is = go (wait_at w.waits p).runnable refl where
    go : (b : Bool) → (wait_at w.waits p).runnable ≡ b → ¬ IsBefore t w.stamp
    go true r = let same : w.stamp ≡ t = some_same (sym (due_is p ∙ rw r refl) ∙ is) in subst (λ x. ¬ IsBefore x w.stamp) same (IsBefore-irrefl w.stamp)
    go false r = λ k.
        let act : activity (update w).slots (wait_at w.waits p) ≡ Some t = sym (due_is p ∙ rw r refl) ∙ is in
        let far : From (next_delta w.stamp) (Some t) = subst (From (next_delta w.stamp)) act (activity_next w timely p) in
        far (IsBefore-trans t w.stamp (next_delta w.stamp) k (grind arith))

  pub same_count : length s.agenda ≡ length w.waits
  same_count = ap length h.dues ∙ length-map w.waits (will_run w.stamp (update w).slots)

  all_idle : (ws : List Wait) → ((p : ℕ) → (wait_at ws p).runnable ≡ false) → map (will_run w.stamp (update w).slots) ws ≡ map (activity (update w).slots) ws
  all_idle [] i = refl
  all_idle (x ∷ ws) i = rw (i 0, all_idle ws (λ p. i (suc p))) refl

  -- where no process is due now
  module _ (nobody : (p : ℕ) → due_in s.agenda p ≢ Some w.stamp) where
    pub idle : (p : ℕ) → (wait_at w.waits p).runnable ≡ false
    idle p = false_from_ne_true _ (λ e. nobody p (due_now p e))

    pub next_is : least s.agenda ≡ least_activity (update w)
    unfolding update
    next_is = ap least (h.dues ∙ all_idle w.waits idle)

    pub next_later : (t : Stamp) → least s.agenda ≡ Some t → IsBefore w.stamp t
    next_later t e = subst (λ x. IsBefore x t) (update_stamp w) (from_before (update w).stamp t (subst (From (next_delta (update w).stamp)) (sym next_is ∙ e) (from_next (update w) (rest w timely idle))))

    pub next_near : (t : Stamp) → least s.agenda ≡ Some t → IsNear w.stamp t
    next_near t e = near_least w timely t (sym (ap least (h.dues ∙ all_idle w.waits idle)) ∙ e)

    -- ---- all stays as a stamp is reached that isn't later than the next

    module _ (t : Stamp) (from : From t (least_activity (update w))) (settled : (update (reach t (update w))).slots ≡ (reach t (update w)).slots) where
      abbrev pub next : World
      next = reach t (update w)

      next_waits : next.waits ≡ map (woken t (update w).slots) w.waits
      unfolding reach update
      next_waits = refl

      next_stamp : next.stamp ≡ t
      unfolding reach
      next_stamp = refl

      woken_at : (p : ℕ) → wait_at next.waits p ≡ woken t (update w).slots (wait_at w.waits p)
      woken_at p = ap (λ ws. wait_at ws p) next_waits ∙ get_or-map (woken t (update w).slots) w.waits p never

      from_each : (p : ℕ) → From t (activity (update w).slots (wait_at w.waits p))
      from_each p = subst (λ ws. From t (activity (update w).slots (wait_at ws p))) (update_waits w) (least_from (activity (update w).slots) t (update w).waits never tt from p)

      awaited_still : (x : Wait) (b : Bool) → (if b then awake else x).runnable ≡ false → (if b then awake else x) ≡ x
      awaited_still x true f = absurd (let no : true ≡ false = f in cc)
      awaited_still x false f = refl

      -- who doesn't wake waits for the same
      pub wait_kept : (p : ℕ) → (wait_at next.waits p).runnable ≡ false → wait_at next.waits p ≡ wait_at w.waits p
      wait_kept p f =
          let x : Wait = wait_at w.waits p in
          let is = woken_at p ∙ woken_is t (update w).slots x (from_each p) in
          is ∙ awaited_still x (is_at t (activity (update w).slots x)) (ap (λ y. y.runnable) (sym is) ∙ f)

      dues_next : s.agenda ≡ map (will_run next.stamp (update next).slots) next.waits
      dues_next =
          h.dues ∙ all_idle w.waits idle ∙ ap (map (activity (update w).slots)) (sym (update_waits w))
          ∙ sym (will_reached (update w) t (rest w timely idle) from)
          ∙ ap (λ xs. map (will_run t xs) next.waits) (sym settled) ∙ ap (λ x. map (will_run x (update next).slots) next.waits) (sym next_stamp)

      pub moves_on : IsPlanned s next
      moves_on = record {
        dues = dues_next;
        awaited = λ p f. h.awaited p (idle p) ∙ ap awaited_of (sym (wait_kept p f));
        known = h.known;
        knows = h.knows;
      }
