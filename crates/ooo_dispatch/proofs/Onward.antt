-- From the end of an evaluation to the next one: the scheduler's world beside that of the steps.
use Rattle.std.proofs.Common.{◌≡◌, ◌≢◌, ℕ, zero, suc, ◌<◌, ◌⊎◌, inl, inr, ⊎_elim, List, [], ◌∷◌, ◌++◌, length, map, Bool, true, false, not, if◌then◌else◌, Option, Some, None, refl, sym, ap, ◌∙◌, subst, arith}
use Rattle.std.specs.Prelude.{slice_get}
use Rattle.std.proofs.lemmas.List.{length-map}
use Rattle.std.proofs.lemmas.Option.{slice_get-get_or, slice_get_within}
use Rattle.ooo_time.specs.declared.stamp.Stamp.{Stamp}
use Rattle.ooo_time.specs.declared.time.Time.{Time}
use Rattle.ooo_time.specs.Stamps.{IsBefore, is_before}
use Rattle.ooo_value.specs.declared.bound.BoundEvent.{BoundEvent}
use Rattle.ooo_value.specs.declared.bound.BoundEvent.TheVariants as event
use Rattle.ooo_code.specs.declared.activation.Frame.{Frame}
use Rattle.ooo_code.specs.Channels.{Channel, is_notified, updated}
use Rattle.ooo_code.specs.Sound.{IsSound}
use Rattle.ooo_events.specs.Slots.{AtTime, NextDelta, Nothing, Slot, due_of, slot_after_delta, slot_left_at}
use Rattle.ooo_meaning.specs.Runs.{holder_of, holds_reading, holds_writing}
use Rattle.ooo_meaning.specs.World as real
use Rattle.ooo_meaning.specs.World.{Wait, World, channel_at, longer_histories, next_delta, no_channel, notified_slots, slot_at, wait_at, woken}
use Rattle.ooo_channels.specs.Agreement.{AreAlike, IsAhead, IsNextStamp}
use Rattle.ooo_channels.specs.Calls.{channel_of}
use Rattle.ooo_channels.specs.Agreement.{history_at}
use Rattle.ooo_channels.specs.Cycles.{Cycle, channel_in, cycle_of, history_in, later_channel, whole_history}
use Rattle.ooo_dispatch.proofs.Ahead.{notified_ahead}
use Rattle.ooo_dispatch.proofs.Cores.{later_here, later_there}
use Rattle.ooo_dispatch.proofs.Histories.{AreHistories, grown_count, history_grown, history_later, history_updated}
use Rattle.ooo_schedules.specs.Delays.{NotAfter}
use Rattle.ooo_schedules.specs.Program.{Program}
use Rattle.ooo_schedules.specs.Sequence as steps
use Rattle.ooo_schedules.specs.Sequence.{NextStamp, Sched, next_cycle, slot_updated}
use Rattle.ooo_schedules.specs.Tables.{program}
use Rattle.ooo_schedules.specs.Updates.{note, noted_by, value_by}
use Rattle.ooo_schedules.specs.Worlds as cycle
use Rattle.ooo_schedules.specs.Worlds.{Waiting, fire_at}
use Rattle.ooo_code.specs.Expressions.{cells_of}
use Rattle.ooo_dispatch.specs.Boards.{AreRules}
use Rattle.ooo_dispatch.specs.Scheduler.{AreMadeAs}
use Rattle.ooo_dispatch.specs.Rules.{Rules, operations_of, origin_of, tables}
use Rattle.ooo_dispatch.proofs.Accessed.{origin_is}
use Rattle.ooo_dispatch.proofs.Asked.{AskedAs, asked_updated, is_own, noted}
use Rattle.ooo_dispatch.proofs.Calls.{index_cases}
use Rattle.ooo_dispatch.proofs.Settling.{AlikeWorlds, FromStamp, reached, slot_notified, slot_unnotified}
use Rattle.ooo_dispatch.proofs.Turning.{Activation, Alike, WaitsAlike, channel_there}
use Rattle.ooo_dispatch.proofs.Viewed.{HeldBy, updated_held}
use Rattle.ooo_dispatch.proofs.Stamps.{before_no, before_yes, compare, irreflexive, transitive}

some_stamp : (a b : Stamp) → Some a ≡ Some b → a ≡ b
some_stamp a b e = cc

-- of an event that there isn't the origin stands for the model's own
pub no_origin : (r : Rules) (e : ℕ) → slice_get r.design.events e ≡ None → origin_of r e ≡ event.Own
no_origin r e is = ⊎_elim (λ x. absurd (let k : None ≡ Some x.0 = sym is ∙ x.1 in cc)) (λ n. n) (index_cases r.design.events e event.Own)

-- the first delta cycle of a time
abbrev first_at : Time → Stamp
first_at v = record { time = v; delta = 0 }

-- ---- what is ahead

ahead_from : (now : Stamp) (x : Slot) (t : Stamp) → IsAhead now x → due_of x ≡ Some t → IsBefore t (next_delta now) → ⊥
ahead_from now Nothing t h e lt = absurd (let k : None ≡ Some t = e in cc)
ahead_from now (NextDelta made) t h e lt =
    let same : next_delta made ≡ t = some_stamp (next_delta made) t e in
    irreflexive (next_delta now) (subst (λ m. IsBefore (next_delta m) (next_delta now)) h (subst (λ u. IsBefore u (next_delta now)) (sym same) lt))
ahead_from now (AtTime v) t h e lt =
    let same : first_at v ≡ t = some_stamp (first_at v) t e in
    ⊎_elim (λ k. omega (arith, h, k)) (λ k. let i = k.0 in omega (arith, h, i)) (subst (λ u. IsBefore u (next_delta now)) (sym same) lt)

due_note : (s : Stamp) (b : Bool) → note b s ≡ due_of (if b then slot_after_delta Nothing s else Nothing)
due_note s true = refl
due_note s false = refl

-- a delta notification is gone once the next delta cycle is reached
pub note_left : (s u : Stamp) (b : Bool) → (IsBefore u (next_delta s) → ⊥) → slot_left_at (if b then slot_after_delta Nothing s else Nothing) u ≡ Nothing
note_left s u true n = ap (λ b. if not b then Nothing else NextDelta s) (before_no u (next_delta s) n)
note_left s u false n = refl

channel_map : (f : Channel → Channel) (xs : List Channel) (c : ℕ) → c < length xs → channel_at (map f xs) c ≡ f (channel_at xs c)
channel_map f [] c lt = absurd (omega (arith, lt))
channel_map f (x ∷ xs) zero lt = refl
channel_map f (x ∷ xs) (suc c) lt = channel_map f xs c (omega (arith, lt))

pub updated_count : (s : Stamp) (cs : List Channel) (es : List BoundEvent) (xs : List Slot) → length (notified_slots s cs es xs) ≡ length xs
updated_count s cs [] xs = refl
updated_count s cs (j ∷ js) [] = refl
updated_count s cs (j ∷ js) (x ∷ xs) = ap suc (updated_count s cs js xs)

not_own : (o : BoundEvent) (old new : Option Stamp) → o ≢ event.Own → slot_updated o old new ≡ new
not_own event.Own old new n = absurd (n refl)
not_own (event.Changed c) old new n = refl
not_own (event.Rise c) old new n = refl
not_own (event.Fall c) old new n = refl
not_own (event.Written c) old new n = refl
not_own (event.Taken c) old new n = refl

-- a later stamp before which nothing is due is the next one of the steps
pub next_stamp : (w : World) (v : cycle.World) (s : Stamp) → AlikeWorlds w v → ((q : ℕ) → v.runnable q ≡ false) → FromStamp w s → IsBefore v.stamp s → NextStamp v s
next_stamp w v s a none from later = record {
  later = later;
  slots = λ e u i. not_before s u (from.slots e u (sym (a.slots e) ∙ i));
  times = λ q x u i j. not_before s u (from.times q u (by q x u i j));
}
  where
    not_before : (s u : Stamp) → (IsBefore u s → ⊥) → NotAfter s u
    not_before s u n = ⊎_elim (λ lt. inl lt) (λ k. ⊎_elim (λ e. inr e) (λ lt. absurd (n lt)) k) (compare s u)

    by : (q : ℕ) (x : Waiting) (u : Stamp) → v.waits q ≡ Some x → x.timeout ≡ Some u → due_of (wait_at w.waits q).timeout ≡ Some u
    by q x u i j = sym ((subst (λ y. WaitsAlike y (wait_at w.waits q)) i (a.waits q (none q))).0) ∙ j

module _ (r : Rules) (rules : AreRules r) (sound : IsSound r.design) where
  abbrev p : Program
  p = program (tables r)

  module _ (w : World) (places : List Frame) (t : Sched) (ys : List Activation) (a : Alike r rules sound w places t ys) (none : (q : ℕ) → t.world.runnable q ≡ false) where
    -- the slot of an event after the update
    data_slot : (e : ℕ) (b : BoundEvent) → slice_get r.design.events e ≡ Some b → slot_at (real.update w).slots e ≡ (if is_notified w.channels b then slot_after_delta (slot_at w.slots e) w.stamp else slot_at w.slots e)
    unfolding real.update
    data_slot e b is =
        slot_notified w.stamp w.channels w.events w.slots e b (ap (λ es. slice_get es e) a.events ∙ is) (let lt = slice_get_within r.design.events e b is in let c = a.slots_count in omega (arith, lt, c))

    noted_here : (e : ℕ) (b : BoundEvent) → slice_get r.design.events e ≡ Some b → b ≢ event.Own → is_notified w.channels b ≡ noted_by b (t.values e) (t.asked e)
    noted_here e b is n =
        noted w.channels b (channel_at w.channels (channel_of b)) (t.values e) (t.asked e)
        (slice_get-get_or w.channels (channel_of b) no_channel (channel_there r rules sound w places t ys a e b is n)) (a.asked e b is)

    pub other_slot : (e : ℕ) (b : BoundEvent) → slice_get r.design.events e ≡ Some b → b ≢ event.Own → slot_at (real.update w).slots e ≡ (if is_notified w.channels b then slot_after_delta Nothing w.stamp else Nothing)
    other_slot e b is n =
        data_slot e b is ∙ ap (λ x. if is_notified w.channels b then slot_after_delta x w.stamp else x) (a.quiet e (λ o. n (sym (origin_is r rules sound e b is) ∙ o)))

    own_slot : (e : ℕ) (b : BoundEvent) → slice_get r.design.events e ≡ Some b → b ≡ event.Own → slot_at (real.update w).slots e ≡ slot_at w.slots e
    own_slot e b is o = data_slot e b is ∙ ap (λ k. if is_notified w.channels k then slot_after_delta (slot_at w.slots e) w.stamp else slot_at w.slots e) o

    no_slot : (e : ℕ) → slice_get r.design.events e ≡ None → slot_at (real.update w).slots e ≡ slot_at w.slots e
    unfolding real.update
    no_slot e is = slot_unnotified w.stamp w.channels w.events w.slots e (ap (λ es. slice_get es e) a.events ∙ is)

    slot_here : (e : ℕ) → slot_updated (origin_of r e) (t.world.slots e) (note (noted_by (origin_of r e) (t.values e) (t.asked e)) t.world.stamp) ≡ due_of (slot_at (real.update w).slots e)
    slot_here e = at (slice_get r.design.events e) refl
      where
        by : (b : BoundEvent) → slice_get r.design.events e ≡ Some b → (b ≡ event.Own) ⊎ (b ≢ event.Own) →
            slot_updated (origin_of r e) (t.world.slots e) (note (noted_by (origin_of r e) (t.values e) (t.asked e)) t.world.stamp) ≡ due_of (slot_at (real.update w).slots e)
        by b is (inl o) =
            ap (λ k. slot_updated k (t.world.slots e) (note (noted_by k (t.values e) (t.asked e)) t.world.stamp)) (origin_is r rules sound e b is ∙ o)
            ∙ a.slots e ∙ sym (ap due_of (own_slot e b is o))
        by b is (inr n) =
            ap (λ k. slot_updated k (t.world.slots e) (note (noted_by k (t.values e) (t.asked e)) t.world.stamp)) (origin_is r rules sound e b is)
            ∙ not_own b (t.world.slots e) (note (noted_by b (t.values e) (t.asked e)) t.world.stamp) n
            ∙ ap (λ c. note c t.world.stamp) (sym (noted_here e b is n)) ∙ ap (note (is_notified w.channels b)) a.stamp ∙ due_note w.stamp (is_notified w.channels b)
            ∙ sym (ap due_of (other_slot e b is n))

        at : (o : Option BoundEvent) → slice_get r.design.events e ≡ o → slot_updated (origin_of r e) (t.world.slots e) (note (noted_by (origin_of r e) (t.values e) (t.asked e)) t.world.stamp) ≡ due_of (slot_at (real.update w).slots e)
        at (Some b) is = by b is (is_own b)
        at None is =
            ap (λ k. slot_updated k (t.world.slots e) (note (noted_by k (t.values e) (t.asked e)) t.world.stamp)) (no_origin r e is)
            ∙ a.slots e ∙ sym (ap due_of (no_slot e is))

    update_alike : AlikeWorlds (real.update w) (steps.update p t)
    unfolding real.update
    update_alike = record { stamp = a.stamp; runnable = a.runnable; waits = a.waits; slots = slot_here }

    -- what is pending after the update is ahead
    pub ahead_after : (e : ℕ) → IsAhead w.stamp (slot_at (real.update w).slots e)
    ahead_after e = at (slice_get r.design.events e) refl
      where
        at : (o : Option BoundEvent) → slice_get r.design.events e ≡ o → IsAhead w.stamp (slot_at (real.update w).slots e)
        at (Some b) is = subst (IsAhead w.stamp) (sym (data_slot e b is)) (notified_ahead w.stamp (is_notified w.channels b) (slot_at w.slots e) (a.ahead e))
        at None is = subst (IsAhead w.stamp) (sym (no_slot e is)) (a.ahead e)

    delta_from : FromStamp (real.update w) (next_delta w.stamp)
    unfolding real.update
    delta_from = record { slots = λ e u i. ahead_from w.stamp (slot_at (real.update w).slots e) u (ahead_after e) i; times = λ q u i. ahead_from w.stamp (wait_at w.waits q).timeout u (a.timeouts q) i }

    -- the next delta cycle is reached
    pub delta_alike : AlikeWorlds (real.reach (next_delta w.stamp) (real.update w)) (fire_at (steps.update p t) (next_delta w.stamp))
    delta_alike = reached (real.update w) (steps.update p t) (next_delta w.stamp) update_alike none delta_from

    pub delta_next : NextStamp (steps.update p t) (next_delta w.stamp)
    delta_next = next_stamp (real.update w) (steps.update p t) (next_delta w.stamp) update_alike none delta_from (subst (λ u. IsBefore u (next_delta w.stamp)) (sym a.stamp) (inr (refl, omega arith)))

    -- the histories after the update are the whole ones so far
    pub updated_histories : AreHistories r (longer_histories w.stamp w.channels w.histories) (λ c. whole_history (cycle_of (operations_of r ys) c))
    updated_histories = record {
      count = grown_count w.stamp w.channels w.histories ∙ a.histories.count;
      each = λ c lt.
          history_grown w.stamp w.channels w.histories c (let e = a.world.channels_count in omega (arith, lt, e)) (let e = a.histories.count in omega (arith, lt, e))
          ∙ ap (λ h. h ++ real.entries_of w.stamp (channel_at w.channels c)) (a.histories.each c lt)
          ∙ history_updated w.stamp (cycle_of (operations_of r ys) c) (a.by c) (channel_at w.channels c) (a.world.channels c lt);
    }

    -- ---- the next evaluation, at a later stamp

    -- the scheduler's world there: after the update, with the waits and the slots of that stamp
    pub record IsWorldAt (v : cycle.World) (n : World) (s : Stamp) : Type 0 where
      pub alike : AlikeWorlds n (fire_at v s)
      pub stamp : n.stamp ≡ s
      pub next : IsNextStamp w.stamp s
      pub waits_count : length n.waits ≡ length w.waits
      pub slots_count : length n.slots ≡ length w.slots
      pub timeouts : (q : ℕ) → IsAhead s (wait_at n.waits q).timeout
      pub ahead : (e : ℕ) → IsAhead s (slot_at n.slots e)
      pub quiet : (e : ℕ) → origin_of r e ≢ event.Own → slot_at n.slots e ≡ Nothing
      pub channels : n.channels ≡ map (updated w.stamp.time) w.channels
      pub histories : n.histories ≡ longer_histories w.stamp w.channels w.histories
      pub variables : n.variables ≡ w.variables
      pub events : n.events ≡ w.events
      pub made : n.made ≡ w.made
      pub broken : n.broken ≡ w.broken
      pub stopped : n.stopped ≡ w.stopped

    before_next : (s : Stamp) → IsNextStamp w.stamp s → IsBefore w.stamp s
    before_next s n = ⊎_elim (λ e. subst (IsBefore w.stamp) (sym e) (inr (refl, omega arith))) (λ lt. inl lt) n

    module _ (v : cycle.World) (n : World) (s : Stamp) (i : IsWorldAt v n s) where
      after_past : (u : Stamp) → NotAfter u w.stamp → IsBefore u s
      after_past u h = ⊎_elim (λ k. transitive u w.stamp s k (before_next s i.next)) (λ e. subst (λ x. IsBefore x s) (sym e) (before_next s i.next)) h

      cycle_past : (c : ℕ) → NotAfter (cycle_of (operations_of r ys) c).stamp w.stamp
      cycle_past c = ⊎_elim (λ k. inl k) (λ k. ⊎_elim (λ e. inr e) (λ k. absurd (a.by c k)) k) (compare (cycle_of (operations_of r ys) c).stamp w.stamp)

      histories_next : AreHistories r n.histories (λ c. history_in s (operations_of r ys) c)
      histories_next = record {
        count = ap length i.histories ∙ updated_histories.count;
        each = λ c lt. ap (λ hs. history_at hs c) i.histories ∙ updated_histories.each c lt ∙ sym (history_later s (cycle_of (operations_of r ys) c) (after_past (cycle_of (operations_of r ys) c).stamp (cycle_past c)));
      }

      channel_next : (c : ℕ) → c < length r.design.channels → AreAlike s.time (channel_in s (operations_of r ys) c) (channel_at n.channels c)
      channel_next c lt =
          subst (λ y. AreAlike s.time (channel_in s (operations_of r ys) c) y) (sym (ap (λ xs. channel_at xs c) i.channels ∙ channel_map (updated w.stamp.time) w.channels c here))
          (subst (λ y. AreAlike s.time y (updated w.stamp.time (channel_at w.channels c))) (sym moves) (by (compare z.stamp w.stamp)))
        where
          here : c < length w.channels
          here = let e = a.world.channels_count in omega (arith, lt, e)

          z : Cycle
          z = cycle_of (operations_of r ys) c

          later : IsBefore z.stamp s
          later = after_past z.stamp (cycle_past c)

          moves : channel_in s (operations_of r ys) c ≡ later_channel s z
          moves = ap (λ b. (let y : Cycle = if b then record { stamp = s; channel = later_channel s z; history = z.history ++ real.entries_of z.stamp z.channel } else z in y.channel)) (before_yes z.stamp s later)

          now_alike : AreAlike w.stamp.time (channel_in w.stamp (operations_of r ys) c) (channel_at w.channels c)
          now_alike = a.world.channels c lt

          now_is : (b : Bool) → is_before z.stamp w.stamp ≡ b → channel_in w.stamp (operations_of r ys) c ≡ (if b then later_channel w.stamp z else z.channel)
          now_is true e = ap (λ b. (let y : Cycle = if b then record { stamp = w.stamp; channel = later_channel w.stamp z; history = z.history ++ real.entries_of z.stamp z.channel } else z in y.channel)) e
          now_is false e = ap (λ b. (let y : Cycle = if b then record { stamp = w.stamp; channel = later_channel w.stamp z; history = z.history ++ real.entries_of z.stamp z.channel } else z in y.channel)) e

          by : IsBefore z.stamp w.stamp ⊎ ((z.stamp ≡ w.stamp) ⊎ IsBefore w.stamp z.stamp) → AreAlike s.time (later_channel s z) (updated w.stamp.time (channel_at w.channels c))
          by (inl k) = later_there w.stamp s z (channel_at w.channels c) i.next k (subst (λ y. AreAlike w.stamp.time y (channel_at w.channels c)) (now_is true (before_yes z.stamp w.stamp k)) now_alike)
          by (inr (inl e)) =
              later_here w.stamp s z (channel_at w.channels c) i.next e
              (subst (λ y. AreAlike w.stamp.time y (channel_at w.channels c)) (now_is false (before_no z.stamp w.stamp (λ k. irreflexive w.stamp (subst (λ x. IsBefore x w.stamp) e k)))) now_alike)
          by (inr (inr k)) = absurd (a.by c k)

      asked_next : (e : ℕ) (b : BoundEvent) → slice_get r.design.events e ≡ Some b → AskedAs b (channel_at n.channels (channel_of b)) (value_by (origin_of r e) (t.values e) (t.asked e)) None
      asked_next e b is = by (is_own b)
        where
          by : (b ≡ event.Own) ⊎ (b ≢ event.Own) → AskedAs b (channel_at n.channels (channel_of b)) (value_by (origin_of r e) (t.values e) (t.asked e)) None
          by (inl o) = subst (λ k. AskedAs k (channel_at n.channels (channel_of b)) (value_by (origin_of r e) (t.values e) (t.asked e)) None) (sym o) tt
          by (inr o) =
              subst (λ y. AskedAs b y (value_by (origin_of r e) (t.values e) (t.asked e)) None)
              (sym (ap (λ xs. channel_at xs (channel_of b)) i.channels ∙ channel_map (updated w.stamp.time) w.channels (channel_of b) (channel_there r rules sound w places t ys a e b is o)))
              (subst (λ k. AskedAs b (updated w.stamp.time (channel_at w.channels (channel_of b))) (value_by k (t.values e) (t.asked e)) None) (sym (origin_is r rules sound e b is))
              (asked_updated b w.stamp.time (channel_at w.channels (channel_of b)) (t.values e) (t.asked e) (a.asked e b is)))

      -- the next evaluation begins alike
      pub goes_alike : Alike r rules sound n places (next_cycle p t v s) ys
      goes_alike = record {
        stamp = sym i.stamp;
        broken = i.broken ∙ a.broken;
        stopped = i.stopped ∙ a.stopped;
        waits_count = i.waits_count ∙ a.waits_count;
        runnable = i.alike.runnable;
        waits = i.alike.waits;
        timeouts = λ q. subst (λ u. IsAhead u (wait_at n.waits q).timeout) (sym i.stamp) (i.timeouts q);
        events = i.events ∙ a.events;
        slots_count = i.slots_count ∙ a.slots_count;
        slots = i.alike.slots;
        quiet = i.quiet;
        ahead = λ e. subst (λ u. IsAhead u (slot_at n.slots e)) (sym i.stamp) (i.ahead e);
        asked = asked_next;
        world = record {
          variables_count = ap length i.variables ∙ a.world.variables_count;
          variables = λ x. ap (λ vs. cells_of vs x) i.variables ∙ a.world.variables x;
          channels_count = ap length i.channels ∙ length-map w.channels (updated w.stamp.time) ∙ a.world.channels_count;
          channels = λ c lt. subst (λ u. AreAlike u.time (channel_in u (operations_of r ys) c) (channel_at n.channels c)) (sym i.stamp) (channel_next c lt);
          held = λ c lt.
              subst (λ y. HeldBy y (holder_of r.design (holds_reading c)) (holder_of r.design (holds_writing c)))
              (sym (ap (λ xs. channel_at xs c) i.channels ∙ channel_map (updated w.stamp.time) w.channels c (let e = a.world.channels_count in omega (arith, lt, e))))
              (updated_held w.stamp.time (channel_at w.channels c) (holder_of r.design (holds_reading c)) (holder_of r.design (holds_writing c)) (a.world.held c lt));
        };
        by = λ c k. a.by c (transitive w.stamp n.stamp (cycle_of (operations_of r ys) c).stamp (subst (IsBefore w.stamp) (sym i.stamp) (before_next s i.next)) k);
        places_count = a.places_count;
        placed = a.placed;
        sorted = a.sorted;
        descend = a.descend;
        histories = subst (λ u. AreHistories r n.histories (λ c. history_in u (operations_of r ys) c)) (sym i.stamp) histories_next;
        past = λ y j. inl (subst (IsBefore y.stamp) (sym i.stamp) (after_past y.stamp (a.past y j)));
        made = subst (λ ms. AreMadeAs r ms ys) (sym i.made) a.made;
      }
