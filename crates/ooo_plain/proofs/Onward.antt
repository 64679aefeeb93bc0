-- A run goes on from the least stamp at which a process runs, however many cycles lie between.
use Rattle.std.proofs.Common.{◌≡◌, ◌≢◌, ◌⊎◌, inl, inr, ℕ, zero, suc, ◌<◌, ◌≤◌, Bool, true, false, not, ◌&&◌, ◌||◌, if◌then◌else◌, arith, List, [], ◌∷◌, Some, None, refl, sym, subst, ap, ◌∙◌, map, length, ⊎_elim}
use Rattle.std.proofs.lemmas.List.{length-map}
use Rattle.std.proofs.lemmas.Bool.Decides.{Decides-int_eq}
use Rattle.std.proofs.Math.ListN.{get_or-map}
use Rattle.std.specs.Prelude.{fold, slice_get, nat_lt, ℤ, is_none}
use Rattle.std.specs.Ordering.{int_eq}
use Rattle.ooo_time.specs.declared.time.Time.{Time}
use Rattle.ooo_time.specs.declared.stamp.Stamp.{Stamp}
use Rattle.ooo_value.specs.declared.bound.BoundEvent.{BoundEvent}
use Rattle.ooo_value.specs.declared.bound.BoundEvent.TheVariants as event
use Rattle.ooo_value.specs.Values.{number_of, truth_of}
use Rattle.ooo_events.specs.Slots.{Slot}
use Rattle.ooo_code.specs.declared.limits.Limits.{Limits}
use Rattle.ooo_code.specs.Channels.{Channel, Signal, Fifo, IsSignal, IsFifo, on_signal, on_fifo, changes, next_value, updated, is_notified}
use Rattle.ooo_code.specs.Outcomes.{Activate}
use Rattle.ooo_history.specs.declared.run.End.{End}
use Rattle.ooo_meaning.specs.World.{World, Wait, Over, Goes, wait_at, awake, never, notified_slots, update, reach, woken, next_delta, least, least_activity, is_at, is_due, slot_at, settle, notified, runs_now}
use Rattle.ooo_meaning.specs.Sequence.{State, Result, state_of, result_of, turn, evaluate, finish, run, IsRunFrom}
use Rattle.ooo_channels.specs.Agreement.{Agrees, IsTimely, GoesOn, shown_up_to}
use Rattle.ooo_channels.specs.Operations.{Operations}
use Rattle.ooo_plain.specs.declared.schedule.Schedule.{Schedule}
use Rattle.ooo_plain.specs.Agenda.{due_in}
use Rattle.ooo_plain.specs.Tracking.{IsPlanned}
use Rattle.ooo_plain.specs.Seeing.{ends_of}
use Rattle.ooo_plain.specs.Laws.{Laws}
use Rattle.ooo_plain.proofs.Least.{From, at_is}
use Rattle.ooo_plain.proofs.Waits.{left}
use Rattle.ooo_plain.proofs.Order.{some_same}
use Rattle.ooo_plain.proofs.Phases.{Rested, Moves, moves, pending, rested, reached_stamp, reached_slots}
use Rattle.ooo_plain.proofs.Tracking.{rest, idle, next_is, moves_on, due_not_now}
use Rattle.std.specs.List.{list_any}

-- ---- an update with nothing to do

same_int : (z : ℤ) → int_eq z z ≡ true
same_int z = (Decides-int_eq z z).1 refl

changes_none : (x : Signal) → x.requested ≡ None → changes x ≡ false
changes_none x e =
    let same : next_value x ≡ x.current = ap (λ r. elim r [ None ↦ x.current | Some v ↦ v ]) e in
    ap (λ v. not (int_eq (number_of x.current) (number_of v))) same ∙ ap not (same_int (number_of x.current))

module _ (now : Time) where
  quiet_signal : (test : Signal → Bool) → ((x : Signal) → x.requested ≡ None → test x ≡ false) → (cs : List Channel) (c : ℕ) → on_signal test (slice_get (map (updated now) cs) c) ≡ false
  quiet_signal test h [] c = refl
  quiet_signal test h (IsSignal s ∷ cs) zero = h _ refl
  quiet_signal test h (IsFifo f ∷ cs) zero = refl
  quiet_signal test h (x ∷ cs) (suc c) = quiet_signal test h cs c

  quiet_fifo : (test : Fifo → Bool) → ((x : Fifo) → x.read ≡ 0 → x.written ≡ [] → test x ≡ false) → (cs : List Channel) (c : ℕ) → on_fifo test (slice_get (map (updated now) cs) c) ≡ false
  quiet_fifo test h [] c = refl
  quiet_fifo test h (IsSignal s ∷ cs) zero = refl
  quiet_fifo test h (IsFifo f ∷ cs) zero = h _ refl refl
  quiet_fifo test h (x ∷ cs) (suc c) = quiet_fifo test h cs c

  quiet : (cs : List Channel) (k : BoundEvent) → is_notified (map (updated now) cs) k ≡ false
  quiet cs event.Own = refl
  quiet cs (event.Changed c) = quiet_signal changes changes_none cs c
  quiet cs (event.Rise c) = quiet_signal (λ s. changes s && truth_of (next_value s)) (λ x e. rw (changes_none x e) refl) cs c
  quiet cs (event.Fall c) = quiet_signal (λ s. changes s && not (truth_of (next_value s))) (λ x e. rw (changes_none x e) refl) cs c
  quiet cs (event.Written c) = quiet_fifo (λ f. nat_lt 0 (length f.written)) (λ x r w. rw w refl) cs c
  quiet cs (event.Taken c) = quiet_fifo (λ f. nat_lt 0 f.read) (λ x r w. rw r refl) cs c

  quiet_slots : (at : Stamp) (cs : List Channel) (es : List BoundEvent) (xs : List Slot) → notified_slots at (map (updated now) cs) es xs ≡ xs
  quiet_slots at cs [] xs = refl
  quiet_slots at cs (e ∷ es) [] = refl
  quiet_slots at cs (e ∷ es) (x ∷ xs) = rw (quiet cs e, quiet_slots at cs es xs) refl

  same_ends : (cs : List Channel) → map ends_of (map (updated now) cs) ≡ map ends_of cs
  same_ends [] = refl
  same_ends (IsSignal s ∷ cs) = ap (λ es. None ∷ es) (same_ends cs)
  same_ends (IsFifo f ∷ cs) = ap (λ es. Some (record { size = f.size; reader = f.reader; writer = f.writer }) ∷ es) (same_ends cs)

pub settled : (t : Stamp) (w : World) → (update (reach t (update w))).slots ≡ (reach t (update w)).slots
unfolding update reach
settled t w = quiet_slots w.stamp.time t w.channels w.events _

-- ---- what stays as a stamp is reached

pub record Keeps (w v : World) : Type 0 where
  pub made : v.made ≡ w.made
  pub variables : v.variables ≡ w.variables
  pub stopped : v.stopped ≡ w.stopped
  pub broken : v.broken ≡ w.broken
  pub ends : map ends_of v.channels ≡ map ends_of w.channels
  pub count : length v.waits ≡ length w.waits
  pub waits : (p : ℕ) → (wait_at v.waits p ≡ wait_at w.waits p) ⊎ (wait_at v.waits p ≡ awake)

keeps_self : (w : World) → Keeps w w
keeps_self w = record { made = refl; variables = refl; stopped = refl; broken = refl; ends = refl; count = refl; waits = λ p. inl refl }

keeps_both : (u v w : World) → Keeps u v → Keeps v w → Keeps u w
keeps_both u v w h k = record {
  made = k.made ∙ h.made;
  variables = k.variables ∙ h.variables;
  stopped = k.stopped ∙ h.stopped;
  broken = k.broken ∙ h.broken;
  ends = k.ends ∙ h.ends;
  count = k.count ∙ h.count;
  waits = λ p. elim (k.waits p) [
    | inl a ↦ ⊎_elim (λ b. inl (a ∙ b)) (λ b. inr (a ∙ b)) (h.waits p)
    | inr a ↦ inr a
  ];
}

woken_or : (s : Stamp) (slots : List Slot) (x : Wait) → (woken s slots x ≡ x) ⊎ (woken s slots x ≡ awake)
woken_or s slots x = go (is_due s x.timeout || list_any (λ e. is_due s (slot_at slots e)) x.events) where
  go : (b : Bool) → ((if b then awake else x) ≡ x) ⊎ ((if b then awake else x) ≡ awake)
  go true = inr refl
  go false = inl refl

reach_keeps : (t : Stamp) (w : World) → Keeps w (reach t (update w))
unfolding reach update
reach_keeps t w = record {
  made = refl;
  variables = refl;
  stopped = refl;
  broken = refl;
  ends = same_ends w.stamp.time w.channels;
  count = length-map w.waits (woken t (update w).slots);
  waits = λ p.
      let is = get_or-map (woken t (update w).slots) w.waits p never in
      ⊎_elim (λ a. inl (is ∙ a)) (λ a. inr (is ∙ a)) (woken_or t (update w).slots (wait_at w.waits p));
}

-- ---- a run

module _ (K : Type 0) (activate : Activate K) (order : List ℕ) (limits : Limits) where
  pub turn_idle : (s : State K) (p : ℕ) → runs_now p s.world ≡ false → turn activate s p ≡ s
  unfolding turn
  turn_idle s p h = rw h refl

  pub turns_idle : (ps : List ℕ) (s : State K) → ((p : ℕ) → runs_now p s.world ≡ false) → fold (turn activate) s ps ≡ s
  turns_idle [] s h = refl
  turns_idle (p ∷ ps) s h = ap (λ x. fold (turn activate) x ps) (turn_idle s p (h p)) ∙ turns_idle ps s h

  evaluate_idle : (s : State K) → ((p : ℕ) → runs_now p s.world ≡ false) → evaluate activate order s ≡ s
  unfolding evaluate
  evaluate_idle s h = turns_idle order s h

  pub ends_here : (s : State K) (w v : World) (ks : List K) (e : End) → evaluate activate order s ≡ state_of w ks → settle limits w ≡ Over v e → IsRunFrom activate order limits s (result_of v e)
  unfolding run
  ends_here s w v ks e c h = record {
    cycles = 1;
    is = ap (λ x. finish x.places (settle limits x.world) (run activate order limits 0)) c ∙ ap (λ x. finish ks x (run activate order limits 0)) h;
  }

  goes_on : (s : State K) (w v : World) (ks : List K) → evaluate activate order s ≡ state_of w ks → settle limits w ≡ Goes v → (r : Result) → IsRunFrom activate order limits (state_of v ks) r → IsRunFrom activate order limits s r
  unfolding run
  goes_on s w v ks c h r rest = record {
    cycles = suc rest.cycles;
    is = ap (λ x. finish x.places (settle limits x.world) (run activate order limits rest.cycles)) c ∙ ap (λ x. finish ks x (run activate order limits rest.cycles)) h ∙ rest.is;
  }

  pub settle_is : (w : World) → w.broken ≡ None → w.stopped ≡ false → settle limits w ≡ notified limits (reach (next_delta (update w).stamp) (update w))
  unfolding settle update
  settle_is w b s = rw (b, s) refl

  pub no_runs : (w : World) → ((p : ℕ) → (wait_at w.waits p).runnable ≡ false) → (p : ℕ) → runs_now p w ≡ false
  unfolding runs_now
  no_runs w h p = rw (h p) (and_no (is_none w.broken))
    where
      and_no : (b : Bool) → (b && false) ≡ false
      and_no true = refl
      and_no false = refl

  module _ (laws : Laws) (s : Schedule) (ops : Operations) (t : Stamp) (first : least s.agenda ≡ Some t) (small : t.delta ≢ limits.deltas) (le : t.time.0 ≤ limits.stop.0) (ks : List K) where
    -- the world of the next stamp at which a process runs
    pub record Onward (w : World) : Type 0 where
      pub world : World
      pub agrees : Agrees ops world
      pub timely : IsTimely world
      pub planned : IsPlanned s world
      pub stamp : world.stamp ≡ t
      pub keeps : Keeps w world
      pub run : (r : Result) → IsRunFrom activate order limits (state_of world ks) r → (x : State K) → evaluate activate order x ≡ state_of w ks → IsRunFrom activate order limits x r

    pub onward : (n : ℕ) (w : World) → pending (update w).slots < n → Agrees ops w → IsTimely w → w.broken ≡ None → w.stopped ≡ false → IsPlanned s w → ((p : ℕ) → due_in s.agenda p ≢ Some w.stamp) → Onward w
    onward zero w lt agrees timely whole going planned nobody = absurd (omega (arith, lt))
    onward (suc n) w lt agrees timely whole going planned nobody = choose (is_at m.at (Some t)) refl
        (λ f. onward n next (omega (arith, lt, fewer f)) agrees_next timely_next (keeps.broken ∙ whole) (keeps.stopped ∙ going) planned_next (λ p. due_not_now s next timely_next planned_next p (idle_next f p)))
      where
        calm : Rested (update w)
        calm = rest w timely (idle s w timely planned nobody)

        active : least_activity (update w) ≡ Some t
        active = sym (next_is s w timely planned nobody) ∙ first

        m : Moves (update w) t (notified limits (reach (next_delta (update w).stamp) (update w)))
        m = moves limits (update w) t calm active small le

        next : World
        next = reach m.at (update w)

        goes : settle limits w ≡ Goes next
        goes = settle_is w whole going ∙ m.goes

        gone : GoesOn ops (shown_up_to w) (Goes next)
        gone = subst (GoesOn ops (shown_up_to w)) goes (laws.settles ops w limits agrees timely)

        agrees_next : Agrees ops next
        agrees_next = gone.0

        timely_next : IsTimely next
        timely_next = gone.1

        keeps : Keeps w next
        keeps = reach_keeps m.at w

        from : From m.at (least_activity (update w))
        from = subst (From m.at) (sym active) m.before

        planned_next : IsPlanned s next
        planned_next = moves_on s w timely planned nobody m.at from (settled m.at w)

        idle_next : is_at m.at (Some t) ≡ false → (p : ℕ) → (wait_at next.waits p).runnable ≡ false
        idle_next f p = (rested (update w) m.at calm from (ap (is_at m.at) active ∙ f)).idle p

        left_slots : next.slots ≡ left m.at (update w).slots
        left_slots = reached_slots m.at (update w)

        fewer : is_at m.at (Some t) ≡ false → pending (update next).slots < pending (update w).slots
        fewer f = subst (λ xs. pending xs < pending (update w).slots) (sym (settled m.at w ∙ left_slots)) (m.nearer f)

        choose : (b : Bool) → is_at m.at (Some t) ≡ b → (is_at m.at (Some t) ≡ false → Onward next) → Onward w
        choose true f go = record {
          world = next;
          agrees = agrees_next;
          timely = timely_next;
          planned = planned_next;
          stamp = reached_stamp m.at (update w) ∙ sym (some_same (at_is m.at (Some t) f));
          keeps = keeps;
          run = λ r h x e. goes_on x w next ks e goes r h;
        }
        choose false f go =
            let o = go f in
            record {
              world = o.world;
              agrees = o.agrees;
              timely = o.timely;
              planned = o.planned;
              stamp = o.stamp;
              keeps = keeps_both w next o.world keeps o.keeps;
              run = λ r h x e. goes_on x w next ks e goes r (o.run r h (state_of next ks) (evaluate_idle (state_of next ks) (no_runs next (idle_next f))));
            }
