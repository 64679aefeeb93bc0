-- A turn, in the steps of the engine.
use Rattle.std.proofs.Common.{◌≡◌, ℕ, ◌<◌, ◌≤◌, ◌+◌, Bool, true, false, ◌||◌, if◌then◌else◌, arith, List, [], ◌++◌, Option, Some, None, refl, sym, subst, ap, ◌∙◌, get_or, set, length, ⊎_elim}
use Rattle.std.proofs.lemmas.List.{length-map, length-set, get_or-set_same, get_or-set_other, get_or_past}
use Rattle.std.proofs.lemmas.Bool.{cases_eq, cases_lt}
use Rattle.std.proofs.lemmas.Option.{slice_get-get_or, get_or_from_slice_get, slice_get_within}
use Rattle.std.specs.Prelude.{All, slice_get, slice_set}
use Rattle.std.specs.List.{list_any}
use Rattle.ooo_time.specs.declared.stamp.Stamp.{Stamp}
use Rattle.ooo_time.specs.Stamps.{IsBefore}
use Rattle.ooo_code.specs.declared.activation.Effect.{Effect}
use Rattle.ooo_code.specs.declared.activation.Effect.TheVariants as effect
use Rattle.ooo_code.specs.declared.activation.Frame.{Frame}
use Rattle.ooo_code.specs.declared.activation.JobEnd.{JobEnd}
use Rattle.ooo_code.specs.declared.activation.JobEnd.TheVariants as job
use Rattle.ooo_code.specs.declared.design.Design.{Design}
use Rattle.ooo_code.specs.declared.design.Proc.{Proc}
use Rattle.ooo_code.specs.Channels.{Channel, IsSignal, IsFifo, is_process, available, free_slots}
use Rattle.ooo_code.specs.Outcomes.{Deed, Outcome}
use Rattle.ooo_code.specs.Sound.{IsSound}
use Rattle.ooo_history.specs.declared.run.End.{End}
use Rattle.ooo_interp.specs.declared.doing.Emitted.{Emitted}
use Rattle.ooo_interp.specs.declared.doing.Halt.{Halt}
use Rattle.ooo_interp.specs.Acting.{job_end}
use Rattle.ooo_meaning.specs.World.{World, wait_at, never, channel_at, no_channel, view_of, after_deed, wait_after, broken_by, place_of}
use Rattle.ooo_channels.specs.Operations.{Operations, after_effects}
use Rattle.ooo_channels.specs.Cycles.{channel_in, readable, writable}
use Rattle.ooo_channels.specs.Conditions.{HasEventAt, Names, IsInOrder, MayApplyAll, IsCountableStamp}
use Rattle.ooo_channels.specs.Agreement.{Agrees, IsShown}
use Rattle.ooo_channels.specs.Bank.{IsBankAfter}
use Rattle.ooo_plain.specs.declared.engine.Engine.{Engine}
use Rattle.ooo_plain.specs.declared.schedule.Schedule.{Schedule}
use Rattle.ooo_plain.specs.Schedule.{awaited_at, lists_of, KnowsWaiters, Waits, MayAskAll, Touched}
use Rattle.ooo_plain.specs.Laws.{Laws}
use Rattle.ooo_plain.specs.Fitting.{FitsEntry, FitsEnd, IsFitting}
use Rattle.ooo_plain.specs.Tracking.{affects, awaited_of, IsPlannedBut}
use Rattle.ooo_plain.specs.Engine.{AreOf, AreShownChannels, AreChannelEvents, Stands, Prints, Mirrors, Acts, MayApply, Applied, HasLists, MayRefresh, Refreshed, Noted, MayClose, Closed, Rests, Stays, Breaks, Turns, TurnsTo, Turned, frames_of, no_frame, outcome_at, awaited_after, is_stop}
use Rattle.ooo_plain.proofs.Effects.{HasRoomLeft, below_after}
use Rattle.ooo_plain.proofs.Fitting.{activation_fits}
use Rattle.ooo_plain.proofs.Seen.{as_fifo, fifo_of_all}
use Rattle.ooo_plain.proofs.Acting.{process, at_p, fits}
use Rattle.ooo_plain.proofs.Deeding.{stamp_after, waits_after, variables_after, broken_after, stopped_after, ends_after, output_after, count_after, last_after}
use Rattle.ooo_plain.proofs.Turning.{have_events, agrees', timely', of', but_after, planned_after}

-- ---- as it begins

fewer_values : (p : ℕ) (x : Channel) → length (as_fifo p x).values ≤ length (readable x)
fewer_values p (IsSignal s) = omega arith
fewer_values p (IsFifo f) = go (is_process p f.reader) where
  go : (b : Bool) → length (if b then available f else []) ≤ length (available f)
  go true = omega arith
  go false = omega arith

fewer_free : (p : ℕ) (x : Channel) → (as_fifo p x).free ≤ writable x
fewer_free p (IsSignal s) = omega arith
fewer_free p (IsFifo f) = go (is_process p f.writer) where
  go : (b : Bool) → (if b then free_slots f else 0) ≤ free_slots f
  go true = omega arith
  go false = omega arith

module _ (laws : Laws) (ops : Operations) (w : World) (agrees : Agrees ops w) (p : ℕ) where
  room_at : (c : ℕ) → (length (as_fifo p (channel_at w.channels c)).values ≤ length (readable (channel_in w.stamp ops c))) × ((as_fifo p (channel_at w.channels c)).free ≤ writable (channel_in w.stamp ops c))
  room_at c = ⊎_elim
      (λ lt.
      let s : IsShown ops w c = laws.shows ops w c agrees lt in
      let v = fewer_values p (channel_at w.channels c) in
      let a = ap length s.available in
      let f = fewer_free p (channel_at w.channels c) in
      let b = s.free in
      (omega (arith, v, a), omega (arith, f, b)))
      (λ le.
      let none : channel_at w.channels c ≡ no_channel = get_or_past w.channels c no_channel (let n = agrees.channel_count in omega (arith, le, n)) in
      let a = ap (λ x. length (as_fifo p x).values) none in
      let b = ap (λ x. (as_fifo p x).free) none in
      (omega (arith, a), omega (arith, b)))
      (cases_lt c (length ops.channels))

  pub first_room : HasRoomLeft w.stamp ops (view_of p w).seen
  first_room = record {
    values = λ c. subst (λ x. length x.values ≤ length (readable (channel_in w.stamp ops c))) (sym (fifo_of_all w.stamp.time p w.channels c)) (room_at c).0;
    free = λ c. subst (λ x. x.free ≤ writable (channel_in w.stamp ops c)) (sym (fifo_of_all w.stamp.time p w.channels c)) (room_at c).1;
  }

  pub ordered : (fs : List Effect) → MayApplyAll ops w.stamp fs → (f : Effect) → Names (after_effects w.stamp ops fs) f → IsInOrder (after_effects w.stamp ops fs) w.stamp f
  ordered fs may f names =
      let d : Deed = record { output = []; variables = []; effects = fs; end = job.Ended } in
      subst (λ s. IsInOrder (after_effects w.stamp ops fs) s f) (stamp_after p w d) (laws.in_order (after_effects w.stamp ops fs) (after_deed p w d) f (laws.activates ops w p d agrees may) names)

-- ---- the steps

module _ (laws : Laws) (design : Design) (sound : IsSound design) (statements p : ℕ) (old : Engine) (lt : p < length design.processes) (e1 : Engine) (emitted : Emitted) (halt : Halt) (acts : Acts design statements p old e1 emitted halt)
    (w : World) (ops : Operations) (m : Mirrors design old ops w) where
  abbrev pub o : Outcome Frame
  o = outcome_at design statements p (frames_of old) w

  abbrev pub proc : Proc
  proc = process laws design sound statements p old lt

  -- how it ended
  abbrev pub end1 : JobEnd
  end1 = job_end halt

  abbrev pub did : Outcome Frame
  did = record { deed = record { output = emitted.output.items; variables = e1.variables.items; effects = emitted.effects.items; end = end1 }; next = acts.frame }

  did_is : o ≡ did
  did_is = acts.does w ops m

  pub fitting : IsFitting design proc ops w.stamp o
  fitting =
      activation_fits laws.sees design proc ops p statements (get_or (frames_of old) p no_frame) (view_of p w) (fits laws design sound statements p old lt) (at_p laws design sound statements p old lt) m.of.channels m.of.events
      (ordered laws ops w m.agrees p) (first_room laws ops w m.agrees p)
      (m.stands.entries p proc (get_or (frames_of old) p no_frame) (at_p laws design sound statements p old lt) (slice_get-get_or (frames_of old) p no_frame (let a = m.stands.frames_count in omega (arith, a, lt))))

  effects_is : o.deed.effects ≡ emitted.effects.items
  effects_is = ap (λ x. x.deed.effects) did_is

  end_is : o.deed.end ≡ end1
  end_is = ap (λ x. x.deed.end) did_is

  stamp1 : e1.stamp ≡ w.stamp
  stamp1 = ap {A = Engine} (λ e. e.stamp) acts.rest ∙ sym m.stamp

  names1 : All (Names ops) emitted.effects.items
  names1 = subst (All (Names ops)) effects_is fitting.names

  may1 : MayApplyAll ops e1.stamp emitted.effects.items
  may1 = subst (λ s. MayApplyAll ops s emitted.effects.items) (sym stamp1) (subst (MayApplyAll ops w.stamp) effects_is fitting.may)

  bank1 : IsBankAfter e1.bank ops
  bank1 = subst (λ e. IsBankAfter e.bank ops) (sym acts.rest) m.bank

  pub may_apply : MayApply e1 emitted.effects.items
  may_apply = record { ops = ops; bank = bank1; names = names1; may = may1; countable = subst (λ e. IsCountableStamp e.stamp) (sym acts.rest) m.countable }

  module _ (planned : IsPlannedBut p old.schedule w) (e2 : Engine) (applied : Applied emitted.effects.items e1 e2) where
    abbrev pub ops2 : Operations
    ops2 = after_effects w.stamp ops o.deed.effects

    bank2 : IsBankAfter e2.bank ops2
    bank2 = subst (λ fs. IsBankAfter e2.bank (after_effects w.stamp ops fs)) (sym effects_is) (subst (λ s. IsBankAfter e2.bank (after_effects s ops emitted.effects.items)) stamp1 (applied.after ops bank1 may1))

    pub of2 : AreOf design ops2
    of2 = of' laws design sound p w ops m.of m.agrees m.timely o.deed fitting.may

    lists : (f : Effect) → Names ops f → HasLists old f
    lists (effect.Request c v) h = let l = slice_get_within ops.channels c h.channel h.is in let n = ap length m.of.channels in let k = m.channel_events.count in let j = length-map old.channel_events.items (λ v. v.items) in omega (arith, l, n, k, j)
    lists (effect.Put c v) h = let l = slice_get_within ops.channels c h.channel h.is in let n = ap length m.of.channels in let k = m.channel_events.count in let j = length-map old.channel_events.items (λ v. v.items) in omega (arith, l, n, k, j)
    lists (effect.Take c) h = let l = slice_get_within ops.channels c h.channel h.is in let n = ap length m.of.channels in let k = m.channel_events.count in let j = length-map old.channel_events.items (λ v. v.items) in omega (arith, l, n, k, j)
    lists (effect.Notify e k) h = let l = slice_get_within ops.events e _ h in let n = ap length m.of.events in let j = m.lists in omega (arith, l, n, j)
    lists (effect.Cancel e) h = let l = slice_get_within ops.events e _ h in let n = ap length m.of.events in let j = m.lists in omega (arith, l, n, j)
    lists effect.Stop h = tt

    lists2 : (f : Effect) → HasLists old f → HasLists e2 f
    lists2 f h = subst (λ e. HasLists e f) (sym applied.rest) (go1 f (subst (λ e. HasLists e f) (sym acts.rest) (go0 f h)))
      where
        go0 : (f : Effect) → HasLists old f → HasLists (record old { processes = e1.processes; variables = e1.variables; ports = e1.ports }) f
        go0 (effect.Request c v) h = h
        go0 (effect.Put c v) h = h
        go0 (effect.Take c) h = h
        go0 (effect.Notify e k) h = h
        go0 (effect.Cancel e) h = h
        go0 effect.Stop h = h

        go1 : (f : Effect) → HasLists e1 f → HasLists (record e1 { bank = e2.bank }) f
        go1 (effect.Request c v) h = h
        go1 (effect.Put c v) h = h
        go1 (effect.Take c) h = h
        go1 (effect.Notify e k) h = h
        go1 (effect.Cancel e) h = h
        go1 effect.Stop h = h

    schedule2 : e2.schedule ≡ old.schedule
    schedule2 = ap {A = Engine} (λ e. e.schedule) applied.rest ∙ ap {A = Engine} (λ e. e.schedule) acts.rest

    channel_events2 : e2.channel_events ≡ old.channel_events
    channel_events2 = ap {A = Engine} (λ e. e.channel_events) applied.rest ∙ ap {A = Engine} (λ e. e.channel_events) acts.rest

    stamp2 : e2.stamp ≡ w.stamp
    stamp2 = ap {A = Engine} (λ e. e.stamp) applied.rest ∙ stamp1

    ask2 : MayAskAll e2.bank old.schedule
    ask2 = record { ops = ops2; bank_is = bank2; known = λ q. have_events design sound ops2 of2 (length old.schedule.waiters.items) m.lists (awaited_at old.schedule.awaited.items q).events (planned.known q) }

    pub may_refresh : MayRefresh design e2 emitted.effects.items
    may_refresh = record {
      lists = λ k d below. lists2 (get_or emitted.effects.items k d) (lists (get_or emitted.effects.items k d) (names1 k d below));
      channel_events = subst (λ n. AreChannelEvents design (lists_of n.items)) (sym channel_events2) m.channel_events;
      count = ap {A = Schedule} (λ s. length s.waiters.items) schedule2 ∙ m.lists;
      knows = subst KnowsWaiters (sym schedule2) planned.knows;
      may = subst (MayAskAll e2.bank) (sym schedule2) ask2;
    }

    module _ (e3 e5 : Engine) (refreshed : Refreshed design emitted.effects.items e2 e3) (noted : Noted emitted.output.items emitted.effects.items e3 e5) where
      stamp5 : e5.stamp ≡ w.stamp
      stamp5 = ap {A = Engine} (λ e. e.stamp) noted.rest ∙ ap {A = Engine} (λ e. e.stamp) refreshed.rest ∙ stamp2

      bank5 : e5.bank ≡ e2.bank
      bank5 = ap {A = Engine} (λ e. e.bank) noted.rest ∙ ap {A = Engine} (λ e. e.bank) refreshed.rest

      schedule5 : e5.schedule ≡ e3.schedule
      schedule5 = ap {A = Engine} (λ e. e.schedule) noted.rest

      bank_is5 : IsBankAfter e5.bank ops2
      bank_is5 = subst (λ b. IsBankAfter b ops2) (sym bank5) bank2

      below2 : ¬ IsBefore w.stamp ops2.below
      below2 = subst (λ b. ¬ IsBefore w.stamp b) (sym (below_after w.stamp o.deed.effects ops)) (subst (λ s. ¬ IsBefore s ops.below) (sym m.stamp) m.below)

      touched3 : Touched refreshed.events e2.bank w.stamp old.schedule e3.schedule
      touched3 = subst (λ s. Touched refreshed.events e2.bank w.stamp s e3.schedule) schedule2 (subst (λ t. Touched refreshed.events e2.bank t e2.schedule e3.schedule) stamp2 refreshed.touched)

      pub but3 : IsPlannedBut p e3.schedule (after_deed p w o.deed)
      but3 = but_after laws design sound p w ops m.of m.agrees m.timely o.deed fitting.may e2.bank bank2 below2 old.schedule e3.schedule planned m.lists refreshed.events touched3
          (λ e k is any. refreshed.all e k is (subst (λ fs. list_any (affects e k) fs ≡ true) effects_is any)) m.stands.known

      lists3 : length e3.schedule.waiters.items ≡ length design.events
      lists3 = ap {A = Schedule} (λ s. length s.waiters.items) refreshed.touched.rest ∙ ap {A = Schedule} (λ s. length s.waiters.items) schedule2 ∙ m.lists

      own_known : (end : JobEnd) → FitsEnd design end → All (λ e. e < length design.events) (wait_after w.stamp end).events
      own_known (job.Waits on) h = h.events
      own_known job.Ended h = λ k d l. absurd (omega (arith, l))
      own_known (job.Faulted f line) h = λ k d l. absurd (omega (arith, l))
      own_known (job.Limit line) h = λ k d l. absurd (omega (arith, l))

      own_idle : (end : JobEnd) → (wait_after w.stamp end).runnable ≡ false
      own_idle (job.Waits on) = refl
      own_idle job.Ended = refl
      own_idle (job.Faulted f line) = refl
      own_idle (job.Limit line) = refl

      own_same : (s : Stamp) (end : JobEnd) → (awaited_after s end).events ≡ (wait_after w.stamp end).events
      own_same s (job.Waits on) = refl
      own_same s job.Ended = refl
      own_same s (job.Faulted f line) = refl
      own_same s (job.Limit line) = refl

      known_end : All (λ e. e < length design.events) (wait_after w.stamp end1).events
      known_end = own_known end1 (subst (FitsEnd design) end_is fitting.end)

      within3 : p < length e3.schedule.awaited.items
      within3 = let a = but3.knows.count in let b = but3.count in let c = ap length (waits_after p w o.deed) in let d = length-set w.waits p (wait_after w.stamp o.deed.end) in let e = m.stands.waits_count in omega (arith, a, b, c, d, e, lt)

      pub may_close : MayClose design e5 p end1
      may_close = record {
        within = subst (λ s. p < length s.awaited.items) (sym schedule5) within3;
        knows = subst KnowsWaiters (sym schedule5) but3.knows;
        asked = record {
          asked = record { ops = ops2; bank_is = bank_is5; known = subst (All (HasEventAt ops2)) (sym (own_same e5.stamp end1)) (have_events design sound ops2 of2 (length design.events) refl (wait_after w.stamp end1).events known_end) };
          within = subst (All (λ e. e < length e5.schedule.waiters.items)) (sym (own_same e5.stamp end1))
              (subst (λ n. All (λ e. e < n) (wait_after w.stamp end1).events) (sym (ap {A = Schedule} (λ s. length s.waiters.items) schedule5 ∙ lists3)) known_end);
        };
        countable = subst IsCountableStamp (sym (stamp5 ∙ m.stamp)) m.countable;
        fits = subst (FitsEnd design) end_is fitting.end;
      }

      -- ---- the world after it

      abbrev pub world : World
      world = after_deed p w o.deed

      frames5 : frames_of e5 ≡ slice_set (frames_of old) p o.next
      frames5 =
          ap {A = Engine} frames_of noted.rest ∙ ap {A = Engine} frames_of refreshed.rest ∙ ap {A = Engine} frames_of applied.rest
          ∙ acts.frames ∙ ap (slice_set (frames_of old) p) (sym (ap (λ x. x.next) did_is))

      variables5 : world.variables ≡ e5.variables.items
      variables5 =
          variables_after p w o.deed ∙ ap (λ x. x.deed.variables) did_is
          ∙ sym (ap {A = Engine} (λ e. e.variables.items) noted.rest ∙ ap {A = Engine} (λ e. e.variables.items) refreshed.rest ∙ ap {A = Engine} (λ e. e.variables.items) applied.rest)

      output5 : e5.output.items ≡ old.output.items ++ emitted.output.items
      output5 = noted.output_is ∙ ap (λ xs. xs ++ emitted.output.items) (ap {A = Engine} (λ e. e.output.items) refreshed.rest ∙ ap {A = Engine} (λ e. e.output.items) applied.rest ∙ ap {A = Engine} (λ e. e.output.items) acts.rest)

      activations5 : e5.activations ≡ old.activations + 1
      activations5 = noted.activations_is ∙ ap (λ n. n + 1) (ap {A = Engine} (λ e. e.activations) refreshed.rest ∙ ap {A = Engine} (λ e. e.activations) applied.rest ∙ ap {A = Engine} (λ e. e.activations) acts.rest)

      last5 : e5.last ≡ w.stamp
      last5 = ap {A = Engine} (λ e. e.last) noted.rest ∙ ap {A = Engine} (λ e. e.stamp) refreshed.rest ∙ stamp2

      stopped5 : world.stopped ≡ e5.stopped
      stopped5 =
          stopped_after p w o.deed ∙ ap (λ fs. w.stopped || list_any is_stop fs) effects_is
          ∙ ap (λ b. b || list_any is_stop emitted.effects.items) (m.stopped ∙ sym (ap {A = Engine} (λ e. e.stopped) refreshed.rest ∙ ap {A = Engine} (λ e. e.stopped) applied.rest ∙ ap {A = Engine} (λ e. e.stopped) acts.rest))
          ∙ sym (noted.stopped_is)

      prints5 : Prints e5 world
      prints5 = record {
        output = output_after p w o.deed ∙ ap (λ xs. xs ++ o.deed.output) m.prints.output ∙ ap (λ xs. old.output.items ++ xs) (ap (λ x. x.deed.output) did_is) ∙ sym output5;
        activations = count_after p w o.deed ∙ ap (λ n. n + 1) m.prints.activations ∙ sym activations5;
        last = last_after p w o.deed ∙ sym last5;
      }

      shown_channels5 : e5.shown_channels ≡ old.shown_channels
      shown_channels5 = ap {A = Engine} (λ e. e.shown_channels) noted.rest ∙ ap {A = Engine} (λ e. e.shown_channels) refreshed.rest ∙ ap {A = Engine} (λ e. e.shown_channels) applied.rest ∙ ap {A = Engine} (λ e. e.shown_channels) acts.rest

      channel_events5 : e5.channel_events ≡ old.channel_events
      channel_events5 = ap {A = Engine} (λ e. e.channel_events) noted.rest ∙ ap {A = Engine} (λ e. e.channel_events) refreshed.rest ∙ channel_events2

      some_of : {A : Type 0} (a b : A) → Some a ≡ Some b → a ≡ b
      some_of a b e = cc

      entries5 : (q : ℕ) (pr : Proc) (frame : Frame) → slice_get design.processes q ≡ Some pr → slice_get (frames_of e5) q ≡ Some frame → FitsEntry design pr frame.entry
      entries5 q pr frame at is =
          let below : q < length (frames_of old) = (let l = slice_get_within (frames_of e5) q frame is in let n = ap length frames5 in let k = length-set (frames_of old) p o.next in omega (arith, l, n, k)) in
          let found : get_or (slice_set (frames_of old) p o.next) q frame ≡ frame = ap (λ xs. get_or xs q frame) (sym frames5) ∙ get_or_from_slice_get (frames_of e5) q frame frame is in
          ⊎_elim
          (λ e.
          let mine : proc ≡ pr = some_of proc pr (sym (at_p laws design sound statements p old lt) ∙ ap (slice_get design.processes) (sym e) ∙ at) in
          let next : o.next ≡ frame = sym (ap (λ i. get_or (slice_set (frames_of old) p o.next) i frame) e ∙ get_or-set_same (frames_of old) p o.next frame (let a = m.stands.frames_count in omega (arith, a, lt))) ∙ found in
          subst (λ f. FitsEntry design pr f.entry) next (subst (λ x. FitsEntry design x o.next.entry) mine fitting.entry))
          (λ ne. m.stands.entries q pr frame at (slice_get-get_or (frames_of old) q frame below ∙ ap Some (sym (get_or-set_other (frames_of old) p q o.next frame ne) ∙ found)))
          (cases_eq q p)

      known5 : (q : ℕ) → All (λ e. e < length design.events) (wait_at world.waits q).events
      known5 q =
          subst (λ ws. All (λ e. e < length design.events) (wait_at ws q).events) (sym (waits_after p w o.deed))
          (⊎_elim
          (λ e. subst (λ i. All (λ e. e < length design.events) (wait_at (set w.waits p (wait_after w.stamp o.deed.end)) i).events) (sym e)
          (subst (λ x. All (λ e. e < length design.events) x.events) (sym (get_or-set_same w.waits p (wait_after w.stamp o.deed.end) never (let a = m.stands.waits_count in omega (arith, a, lt)))) (own_known o.deed.end fitting.end)))
          (λ ne. subst (λ x. All (λ e. e < length design.events) x.events) (sym (get_or-set_other w.waits p q (wait_after w.stamp o.deed.end) never ne)) (m.stands.known q))
          (cases_eq q p))

      stands5 : Stands design world (frames_of e5)
      stands5 = record {
        frames_count = ap length frames5 ∙ length-set (frames_of old) p o.next ∙ m.stands.frames_count;
        waits_count = ap length (waits_after p w o.deed) ∙ length-set w.waits p (wait_after w.stamp o.deed.end) ∙ m.stands.waits_count;
        ends = ends_after p w o.deed ∙ m.stands.ends;
        entries = entries5;
        known = known5;
      }

      stamp_is : world.stamp ≡ e5.stamp
      stamp_is = stamp_after p w o.deed ∙ sym stamp5

      broken_is : (e : Option End) → broken_by (place_of e5.stamp p) end1 ≡ e → world.broken ≡ e
      broken_is e h = broken_after p w o.deed ∙ ap (λ s. broken_by (place_of s p) o.deed.end) (sym stamp5) ∙ ap (broken_by (place_of e5.stamp p)) end_is ∙ h

      mirrors5 : broken_by (place_of e5.stamp p) end1 ≡ None → Mirrors design e5 ops2 world
      mirrors5 whole = record {
        of = of2;
        agrees = agrees' laws design sound p w ops m.of m.agrees m.timely o.deed fitting.may;
        timely = timely' laws design sound p w ops m.of m.agrees m.timely o.deed fitting.may;
        below = subst (λ s. ¬ IsBefore s ops2.below) (sym stamp5) below2;
        bank = bank_is5;
        stamp = stamp_is;
        countable = may_close.countable;
        variables = variables5;
        prints = prints5;
        stopped = stopped5;
        whole = broken_is None whole;
        stands = stands5;
        shown_channels = subst (λ x. AreShownChannels design (length design.processes) (lists_of x.items)) (sym shown_channels5) m.shown_channels;
        channel_events = subst (λ x. AreChannelEvents design (lists_of x.items)) (sym channel_events5) m.channel_events;
        lists = ap {A = Schedule} (λ s. length s.waiters.items) schedule5 ∙ lists3;
      }

      -- the schedule may be another one
      scheduled : (e : Engine) (s : Schedule) → length s.waiters.items ≡ length design.events → Mirrors design e ops2 world → Mirrors design (record e { schedule = s }) ops2 world
      scheduled e s n h = record {
        of = h.of;
        agrees = h.agrees;
        timely = h.timely;
        below = h.below;
        bank = h.bank;
        stamp = h.stamp;
        countable = h.countable;
        variables = h.variables;
        prints = record { output = h.prints.output; activations = h.prints.activations; last = h.prints.last };
        stopped = h.stopped;
        whole = h.whole;
        stands = h.stands;
        shown_channels = h.shown_channels;
        channel_events = h.channel_events;
        lists = n;
      }

      awaited_same : awaited_after e5.stamp end1 ≡ awaited_of (wait_after w.stamp o.deed.end)
      awaited_same = ap (λ s. awaited_after s end1) stamp5 ∙ ap (awaited_after w.stamp) (sym end_is)

      turns : (new : Engine) → Rests p end1 e5 new → Turns design new world
      turns new r = record {
        ops = ops2;
        mirrors = subst (λ e. Mirrors design e ops2 world) (sym r.rest) (scheduled e5 new.schedule (r.waits.count ∙ ap {A = Schedule} (λ s. length s.waiters.items) schedule5 ∙ lists3) (mirrors5 r.whole));
        planned =
            planned_after laws design sound p w ops m.of m.agrees m.timely o.deed fitting.may e2.bank bank2 below2 e3.schedule new.schedule but3 (own_known o.deed.end fitting.end)
            (let a = m.stands.waits_count in omega (arith, a, lt)) lists3
            (subst (λ b. Waits p (awaited_of (wait_after w.stamp o.deed.end)) b w.stamp e3.schedule new.schedule) bank5
            (subst (λ h. Waits p h e5.bank w.stamp e3.schedule new.schedule) awaited_same
            (subst (λ s. Waits p (awaited_after e5.stamp end1) e5.bank s e3.schedule new.schedule) stamp5
            (subst (λ s. Waits p (awaited_after e5.stamp end1) e5.bank e5.stamp s new.schedule) schedule5 r.waits))))
            (own_idle o.deed.end);
      }

      breaks : (e : End) (new : Engine) → Stays p end1 e e5 new → Breaks design new e world
      breaks e new s = subst (λ x. Breaks design x e world) (sym s.rest) (record {
        ops = ops2;
        of = of2;
        agrees = agrees' laws design sound p w ops m.of m.agrees m.timely o.deed fitting.may;
        timely = timely' laws design sound p w ops m.of m.agrees m.timely o.deed fitting.may;
        bank = bank_is5;
        stamp = stamp_is;
        prints = prints5;
        broken = broken_is (Some e) s.broken;
      })

      turned_by : (x : Option End) (new : Engine) → Closed p end1 x e5 new → TurnsTo design new x world
      turned_by None new c = turns new c
      turned_by (Some e) new c = breaks e new c

      frames_by : (x : Option End) (new : Engine) → Closed p end1 x e5 new → frames_of new ≡ frames_of e5
      frames_by None new c = ap {A = Engine} frames_of c.rest
      frames_by (Some e) new c = ap {A = Engine} frames_of c.rest

      pub turned : (x : Option End) (new : Engine) → Closed p end1 x e5 new → Turned design statements p x old new w
      turned x new c = record { comes = turned_by x new c; frames = frames_by x new c ∙ frames5 }
