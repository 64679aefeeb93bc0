-- The end of a cycle: a run is over as the steps say, or goes on as they do.
use Rattle.std.proofs.Common.{◌≡◌, ◌≢◌, ℕ, ◌<◌, inl, inr, ⊎_elim, List, map, false, Option, Some, None, refl, sym, ap, ◌∙◌, subst, arith}
use Rattle.std.specs.Prelude.{slice_get}
use Rattle.std.proofs.lemmas.List.{length-map}
use Rattle.ooo_time.specs.declared.stamp.Stamp.{Stamp}
use Rattle.ooo_time.specs.declared.time.Time.{Time}
use Rattle.ooo_time.specs.Stamps.{IsBefore}
use Rattle.ooo_value.specs.declared.bound.BoundEvent.{BoundEvent}
use Rattle.ooo_value.specs.declared.bound.BoundEvent.TheVariants as event
use Rattle.ooo_code.specs.declared.activation.Frame.{Frame}
use Rattle.ooo_code.specs.Channels.{is_notified}
use Rattle.ooo_code.specs.Sound.{IsSound}
use Rattle.ooo_events.specs.Slots.{AtTime, NextDelta, Nothing, Slot, due_of, slot_left_at}
use Rattle.ooo_meaning.specs.World as real
use Rattle.ooo_meaning.specs.World.{Progress, Wait, World, next_delta, notified_slots, slot_at, wait_at, woken}
use Rattle.ooo_channels.specs.Agreement.{IsAhead}
use Rattle.ooo_dispatch.proofs.Ahead.{From, delta_stays, delta_timed, later_stays, left_ahead, left_timed, woken_timeout}
use Rattle.ooo_schedules.specs.Program.{Program}
use Rattle.ooo_schedules.specs.Sequence as steps
use Rattle.ooo_schedules.specs.Sequence.{Fires, NextStamp, NoStop, RunsTo, Sched, goes, late, limited, next_cycle, no_more, stopped, unheard}
use Rattle.ooo_schedules.specs.Tables.{program}
use Rattle.ooo_schedules.specs.Worlds as cycle
use Rattle.ooo_schedules.specs.Worlds.{fire_at}
use Rattle.ooo_dispatch.specs.Boards.{AreRules}
use Rattle.ooo_dispatch.specs.Rules.{Rules, origin_of, tables}
use Rattle.ooo_dispatch.proofs.Accessed.{origin_is}
use Rattle.ooo_dispatch.proofs.Ending.{pending_source}
use Rattle.ooo_dispatch.proofs.Onward.{IsWorldAt, ahead_after, delta_alike, next_stamp, no_origin, note_left, other_slot, updated_count}
use Rattle.ooo_dispatch.proofs.Settling.{AlikeWorlds, FromStamp, least_from, reached, slot_left, wait_woken}
use Rattle.ooo_dispatch.proofs.Turning.{Activation, Alike}
use Rattle.ooo_dispatch.proofs.Stamps.{irreflexive}

some_stamp : (a b : Stamp) → Some a ≡ Some b → a ≡ b
some_stamp a b e = cc

-- the first delta cycle of a time
abbrev first_at : Time → Stamp
first_at v = record { time = v; delta = 0 }

module _ (r : Rules) (rules : AreRules r) (sound : IsSound r.design) where
  abbrev p : Program
  p = program (tables r)

  module _ (w : World) (places : List Frame) (t : Sched) (ys : List Activation) (a : Alike r rules sound w places t ys) (none : (q : ℕ) → t.world.runnable q ≡ false) where
    -- the world of the next delta cycle
    abbrev nd : Stamp
    nd = next_delta w.stamp

    abbrev first : World
    first = real.reach nd (real.update w)

    abbrev fired : cycle.World
    fired = fire_at (steps.update p t) nd

    pub first_alike : AlikeWorlds first fired
    first_alike = delta_alike r rules sound w places t ys a none

    delta_later : IsBefore w.stamp nd
    delta_later = inr (refl, omega arith)

    -- no slot of a channel's event is pending there
    first_quiet : (e : ℕ) → origin_of r e ≢ event.Own → slot_at first.slots e ≡ Nothing
    unfolding real.reach
    first_quiet e n = at (slice_get r.design.events e) refl
      where
        at : (o : Option BoundEvent) → slice_get r.design.events e ≡ o → slot_at (map (λ x. slot_left_at x nd) (real.update w).slots) e ≡ Nothing
        at None is = absurd (n (no_origin r e is))
        at (Some b) is =
            slot_left nd (real.update w).slots e ∙ ap (λ x. slot_left_at x nd) (other_slot r rules sound w places t ys a none e b is (λ o. n (origin_is r rules sound e b is ∙ o)))
            ∙ note_left w.stamp nd (is_notified w.channels b) (irreflexive nd)

    first_times : (q : ℕ) → IsAhead nd (wait_at first.waits q).timeout
    unfolding real.reach real.update
    first_times q =
        subst (λ x. IsAhead nd x.timeout) (sym (wait_woken nd (real.update w).slots w.waits q))
        (woken_timeout (IsAhead nd) nd (real.update w).slots (wait_at w.waits q) tt (λ off. delta_stays w.stamp (wait_at w.waits q).timeout (a.timeouts q) off))

    first_ahead : (e : ℕ) → IsAhead nd (slot_at first.slots e)
    unfolding real.reach
    first_ahead e = subst (IsAhead nd) (sym (slot_left nd (real.update w).slots e)) (left_ahead w.stamp nd (slot_at (real.update w).slots e) delta_later (ahead_after r rules sound w places t ys a none e))

    pub first_world : IsWorldAt r rules sound w places t ys a none (steps.update p t) first nd
    unfolding real.reach real.update
    first_world = record {
      alike = first_alike;
      stamp = refl;
      next = inl refl;
      waits_count = length-map w.waits (woken nd (notified_slots w.stamp w.channels w.events w.slots));
      slots_count = length-map (notified_slots w.stamp w.channels w.events w.slots) (λ x. slot_left_at x nd) ∙ updated_count w.stamp w.channels w.events w.slots;
      timeouts = first_times;
      ahead = first_ahead;
      quiet = first_quiet;
      channels = refl;
      histories = refl;
      variables = refl;
      events = refl;
      made = refl;
      broken = refl;
      stopped = refl;
    }

    -- what is pending there is for a later time
    slot_later : (e : ℕ) (u : Stamp) → due_of (slot_at first.slots e) ≡ Some u → w.stamp.time.0 < u.time.0
    unfolding real.reach
    slot_later e u i = left_timed w.stamp u (slot_at (real.update w).slots e) (ahead_after r rules sound w places t ys a none e) (ap due_of (sym (slot_left nd (real.update w).slots e)) ∙ i)

    time_later : (q : ℕ) (u : Stamp) → due_of (wait_at first.waits q).timeout ≡ Some u → w.stamp.time.0 < u.time.0
    unfolding real.reach real.update
    time_later q u =
        subst (λ x. due_of x.timeout ≡ Some u → w.stamp.time.0 < u.time.0) (sym (wait_woken nd (real.update w).slots w.waits q))
        (woken_timeout (λ x. due_of x ≡ Some u → w.stamp.time.0 < u.time.0) nd (real.update w).slots (wait_at w.waits q) (λ e. absurd (let k : None ≡ Some u = e in cc))
        (λ off. delta_timed w.stamp u (wait_at w.waits q).timeout (a.timeouts q) off))

    -- at its first delta cycle
    timed : (x : Slot) → IsAhead nd x → (u : Stamp) → due_of x ≡ Some u → w.stamp.time.0 < u.time.0 → u.delta ≡ 0
    timed Nothing h u e lt = absurd (let k : None ≡ Some u = e in cc)
    timed (NextDelta made) h u e lt =
        let same : next_delta made ≡ u = some_stamp (next_delta made) u e in
        let now : made.time.0 ≡ w.stamp.time.0 = ap (λ m. m.time.0) h in
        let far : made.time.0 ≡ u.time.0 = ap (λ m. m.time.0) same in
        absurd (omega (arith, lt, now, far))
    timed (AtTime v) h u e lt = sym (ap (λ m. m.delta) (some_stamp (first_at v) u e))

    module _ (idle : (q : ℕ) → fired.runnable q ≡ false) (u : Stamp) (is : real.least_pending first ≡ Some u) where
      from : FromStamp first u
      from = least_from first u is

      pub moves : (w.stamp.time.0 < u.time.0) × (u.delta ≡ 0)
      moves =
          ⊎_elim (λ s. let lt = slot_later s.0 u s.1 in (lt, timed (slot_at first.slots s.0) (first_ahead s.0) u s.1 lt))
          (λ s. let lt = time_later s.0 u s.1 in (lt, timed (wait_at first.waits s.0).timeout (first_times s.0) u s.1 lt)) (pending_source first u is)

      later_than : IsBefore nd u
      later_than = inl moves.0

      pub later_next : NextStamp fired u
      later_next = next_stamp first fired u first_alike idle from later_than

      from_slot : (e : ℕ) → From u (due_of (slot_at first.slots e))
      from_slot e = holds_from (due_of (slot_at first.slots e)) (from.slots e)
        where
          holds_from : (o : Option Stamp) → ((v : Stamp) → o ≡ Some v → IsBefore v u → ⊥) → From u o
          holds_from None h = tt
          holds_from (Some v) h = h v refl

      from_time : (q : ℕ) → From u (due_of (wait_at first.waits q).timeout)
      from_time q = holds_from (due_of (wait_at first.waits q).timeout) (from.times q)
        where
          holds_from : (o : Option Stamp) → ((v : Stamp) → o ≡ Some v → IsBefore v u → ⊥) → From u o
          holds_from None h = tt
          holds_from (Some v) h = h v refl

      later_quiet : (e : ℕ) → origin_of r e ≢ event.Own → slot_at (real.reach u first).slots e ≡ Nothing
      unfolding real.reach
      later_quiet e n = slot_left u first.slots e ∙ ap (λ x. slot_left_at x u) (first_quiet e n)

      later_times : (q : ℕ) → IsAhead u (wait_at (real.reach u first).waits q).timeout
      unfolding real.reach
      later_times q =
          subst (λ x. IsAhead u x.timeout) (sym (wait_woken u first.slots first.waits q))
          (woken_timeout (IsAhead u) u first.slots (wait_at first.waits q) tt (λ off. later_stays nd u (wait_at first.waits q).timeout moves.0 (first_times q) (from_time q) off))

      later_ahead : (e : ℕ) → IsAhead u (slot_at (real.reach u first).slots e)
      unfolding real.reach
      later_ahead e = subst (IsAhead u) (sym (slot_left u first.slots e)) (left_ahead nd u (slot_at first.slots e) later_than (first_ahead e))

      pub later_world : IsWorldAt r rules sound w places t ys a none fired (real.reach u first) u
      unfolding real.reach real.update
      later_world = record {
        alike = reached first fired u first_alike idle from;
        stamp = refl;
        next = inr moves.0;
        waits_count = length-map first.waits (woken u first.slots) ∙ length-map w.waits (woken nd (notified_slots w.stamp w.channels w.events w.slots));
        slots_count = length-map first.slots (λ x. slot_left_at x u) ∙ length-map (notified_slots w.stamp w.channels w.events w.slots) (λ x. slot_left_at x nd) ∙ updated_count w.stamp w.channels w.events w.slots;
        timeouts = later_times;
        ahead = later_ahead;
        quiet = later_quiet;
        channels = refl;
        histories = refl;
        variables = refl;
        events = refl;
        made = refl;
        broken = refl;
        stopped = refl;
      }
