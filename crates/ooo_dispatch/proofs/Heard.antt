-- What the operations of a log tell of an event, beside what is kept of it in the order of the commits.
use Rattle.std.proofs.Common.{◌≡◌, ℕ, inl, inr, ⊎_elim, List, [], ◌∷◌, Bool, true, false, Option, Some, None, refl, sym, ap, ◌∙◌, subst, arith}
use Rattle.std.specs.Prelude.{slice_get, IsSome, pos}
use Rattle.std.specs.List.{list_any}
use Rattle.ooo_time.specs.declared.stamp.Stamp.{Stamp}
use Rattle.ooo_time.specs.Stamps.{IsBefore, is_before}
use Rattle.ooo_value.specs.declared.bound.BoundChannel.{BoundChannel}
use Rattle.ooo_value.specs.declared.bound.BoundEvent.{BoundEvent}
use Rattle.ooo_value.specs.declared.bound.BoundEvent.TheVariants as event
use Rattle.ooo_value.specs.declared.bound.ChannelKind.{ChannelKind}
use Rattle.ooo_value.specs.declared.bound.ChannelKind.TheVariants as channel
use Rattle.ooo_value.specs.declared.values.Value.{Value}
use Rattle.ooo_value.specs.Values.{value_of}
use Rattle.ooo_code.specs.declared.activation.Effect.{Effect}
use Rattle.ooo_events.specs.Firings.{slot_after}
use Rattle.ooo_code.specs.Channels.{IsFifo, IsSignal}
use Rattle.ooo_code.specs.Expressions.{no_value}
use Rattle.ooo_code.specs.Sound.{fifo_kind, signal_kind}
use Rattle.ooo_meaning.specs.World.{next_delta, zero_stamp}
use Rattle.ooo_schedules.specs.Design.{slot}
use Rattle.ooo_schedules.specs.Model.{In}
use Rattle.ooo_schedules.specs.Program as rule
use Rattle.ooo_schedules.specs.Program.{Slot, calls_of, design, is_some, touches}
use Rattle.ooo_schedules.specs.Slots.{calls_at}
use Rattle.ooo_schedules.specs.Tables.{program}
use Rattle.ooo_schedules.specs.Updates.{asked_by, value_by}
use Rattle.ooo_channels.specs.Calls.{Notified, bears_on, channel_of, notified_by, own_calls}
use Rattle.ooo_channels.specs.Cycles.{cycle_at, first_cycle}
use Rattle.ooo_channels.specs.Operations.{is_on}
use Rattle.ooo_dispatch.specs.Banks.{affects}
use Rattle.ooo_dispatch.specs.Rules.{Rules, deed_of, first_value, operations_of, origin_of, tables}
use Rattle.ooo_dispatch.proofs.Affected.{bears_any, none_in, touches_any}
use Rattle.ooo_dispatch.proofs.Asked.{AskedAs, SignalAsked}
use Rattle.ooo_dispatch.proofs.Commits.{Activation, WithEarlier}
use Rattle.ooo_dispatch.proofs.FifoCalls as fifo
use Rattle.ooo_dispatch.proofs.FifoCalls.{IsFifoNow, IsOfFifo}
use Rattle.ooo_dispatch.proofs.Fired.{IsBy, IsMadeBy, TellsAs, none_told, reached_later}
use Rattle.ooo_dispatch.proofs.OwnCalls.{no_calls, own_effects, own_unheard}
use Rattle.ooo_dispatch.proofs.Renewals.{Renewed, calls_unheard, cycle_unheard, none_renewed, notice, notified_after, notified_all, pending_once, told_once}
use Rattle.ooo_dispatch.proofs.SignalCalls as signal
use Rattle.ooo_dispatch.proofs.SignalCalls.{IsOfSignal}
use Rattle.ooo_dispatch.proofs.Slotted.{idle}
use Rattle.ooo_dispatch.proofs.Stamps.{delta_not_after, irreflexive, transitive}

zero_first : (s : Stamp) → IsBefore s zero_stamp → ⊥
zero_first s h = ⊎_elim (λ k. absurd (omega (arith, k))) (λ k. let n = k.1 in absurd (omega (arith, n))) h

-- ---- as a channel starts

first_stamp : (o : Option BoundChannel) → (first_cycle o).stamp ≡ zero_stamp
first_stamp None = refl
first_stamp (Some b) = refl

first_fifo : (o : Option BoundChannel) → IsSome (fifo_kind o) → IsFifoNow (first_cycle o).channel
first_fifo None h = let c : false ≡ true = h in absurd cc
first_fifo (Some b) h = at b.kind h
  where
    at : (k : ChannelKind) → IsSome (elim k [ channel.Signal ↦ None | channel.Fifo ↦ Some b.value ]) →
        IsFifoNow
        (elim k [
          | channel.Signal ↦ IsSignal (record { current = value_of b.value (pos 0); requested = None; changed = None })
          | channel.Fifo ↦ IsFifo (record { size = b.size; held = []; read = 0; written = []; reader = None; writer = None })
        ])
    at channel.Signal i = let c : false ≡ true = i in absurd cc
    at channel.Fifo i = tt

first_signal : (o : Option BoundChannel) → IsSome (signal_kind o) → SignalAsked (first_cycle o).channel (elim o [ None ↦ no_value | Some b ↦ value_of b.value (pos 0) ]) None
first_signal None h = let c : false ≡ true = h in absurd cc
first_signal (Some b) h = at b.kind h
  where
    at : (k : ChannelKind) → IsSome (elim k [ channel.Signal ↦ Some b.value | channel.Fifo ↦ None ]) →
        SignalAsked
        (elim k [
          | channel.Signal ↦ IsSignal (record { current = value_of b.value (pos 0); requested = None; changed = None })
          | channel.Fifo ↦ IsFifo (record { size = b.size; held = []; read = 0; written = []; reader = None; writer = None })
        ]) (value_of b.value (pos 0)) None
    at channel.Signal i = (refl, refl)
    at channel.Fifo i = let c : false ≡ true = i in absurd cc

first_asked : (cs : List BoundChannel) (k : BoundEvent) → IsOfSignal k → IsSome (signal_kind (slice_get cs (channel_of k))) → AskedAs k (first_cycle (slice_get cs (channel_of k))).channel (first_value cs k) None
first_asked cs (event.Changed c) s h = first_signal (slice_get cs c) h
first_asked cs (event.Rise c) s h = first_signal (slice_get cs c) h
first_asked cs (event.Fall c) s h = first_signal (slice_get cs c) h
first_asked cs event.Own s h = absurd s
first_asked cs (event.Written c) s h = absurd s
first_asked cs (event.Taken c) s h = absurd s

asked_some : (s : Stamp) (e : ℕ) (k : BoundEvent) (fs : List Effect) → IsOfSignal k → rule.touches_by s e k fs ≡ is_some (asked_by k None fs)
asked_some s e (event.Changed c) fs i = refl
asked_some s e (event.Rise c) fs i = refl
asked_some s e (event.Fall c) fs i = refl
asked_some s e event.Own fs i = absurd i
asked_some s e (event.Written c) fs i = absurd i
asked_some s e (event.Taken c) fs i = absurd i

module _ (r : Rules) (e : ℕ) where
  -- what is kept of the event, in the order of the commits
  abbrev pub kept : List Activation → Slot
  kept log = slot (design (program (tables r))) e log

  abbrev pub Touches : Activation → Type 0
  Touches x = touches (program (tables r)) e x ≡ true

  abbrev effects : Activation → List Effect
  effects x = (deed_of r x).effects

  -- no activation that touches the event is after a stamp
  abbrev pub Bounds : Stamp → List Activation → Type 0
  Bounds b log = (y : Activation) → In y log → Touches y → IsBy b y.stamp

  -- those that touch the event were committed in order of stamps
  abbrev pub Ascends : List Activation → Type 0
  Ascends log = WithEarlier (λ x y. Touches y → Touches x → IsBy x.stamp y.stamp) log

  -- each of them at a later stamp
  abbrev pub Rises : List Activation → Type 0
  Rises log = WithEarlier (λ x y. Touches y → Touches x → IsBefore y.stamp x.stamp) log

  same_kept : (x : Activation) (xs : List Activation) → touches (program (tables r)) e x ≡ false → kept (x ∷ xs) ≡ kept xs
  same_kept x xs h = idle r e x (kept xs) h

  module _ (k : BoundEvent) (is : origin_of r e ≡ k) where
    event_is : (x : Activation) (xs : List Activation) → (kept (x ∷ xs)).event ≡ calls_at Stamp is_before x.stamp (calls_of x.stamp e k (kept xs).value (effects x)) (kept xs).event
    event_is x xs = ap (λ o. calls_at Stamp is_before x.stamp (calls_of x.stamp e o (kept xs).value (effects x)) (kept xs).event) is

    value_is : (x : Activation) (xs : List Activation) → (kept (x ∷ xs)).value ≡ rule.value_of k (kept xs).value (effects x)
    value_is x xs = ap (λ o. rule.value_of o (kept xs).value (effects x)) is

    affected : (x : Activation) → touches (program (tables r)) e x ≡ false → list_any (affects e k) (effects x) ≡ false
    affected x h = sym (touches_any x.stamp e k (effects x)) ∙ ap (λ o. rule.touches_by x.stamp e o (effects x)) (sym is) ∙ h

  -- ---- an event of the model's own

  pub own_tells : origin_of r e ≡ event.Own → (log : List Activation) → Ascends log → (b : Stamp) → Bounds b log → TellsAs b (own_calls (operations_of r log) e) (kept log).event
  own_tells own [] h b bound = subst (λ cs. TellsAs b cs (kept []).event) (sym (no_calls r.design.channels r.design.events e)) (none_told b)
  own_tells own (x ∷ xs) h b bound = at (touches (program (tables r)) e x) refl (own_tells own xs h.1)
    where
      at : (t : Bool) → touches (program (tables r)) e x ≡ t → ((b : Stamp) → Bounds b xs → TellsAs b (own_calls (operations_of r xs) e) (kept xs).event) →
          TellsAs b (own_calls (operations_of r (x ∷ xs)) e) (kept (x ∷ xs)).event
      at true t rest =
          let after : TellsAs x.stamp (own_calls (operations_of r (x ∷ xs)) e) (calls_at Stamp is_before x.stamp (rule.own_calls x.stamp e [] (effects x)) (kept xs).event) =
          own_effects e x.stamp (kept xs).event (operations_of r xs) [] (effects x) (rest x.stamp (λ y i u. h.0 y i u t)) in
          reached_later x.stamp b (own_calls (operations_of r (x ∷ xs)) e) (kept (x ∷ xs)).event (bound x (inl refl) t)
          (subst (TellsAs x.stamp (own_calls (operations_of r (x ∷ xs)) e)) (sym (event_is event.Own own x xs)) after)
      at false t rest =
          subst (λ cs. TellsAs b cs (kept (x ∷ xs)).event) (sym (own_unheard e x.stamp (operations_of r xs) (effects x) (affected event.Own own x t)))
          (subst (λ s. TellsAs b (own_calls (operations_of r xs) e) s.event) (sym (same_kept x xs t)) (rest b (λ y i u. bound y (inr i) u)))

  -- ---- an event of a channel

  module _ (k : BoundEvent) (is : origin_of r e ≡ k) where
    -- the channel with the event, after the operations of a log
    abbrev pub heard : List Activation → Notified
    heard log = notified_by (operations_of r log) k

    pub record ChannelTold (log : List Activation) : Type 0 where
      pub tells : (b : Stamp) → Bounds b log → TellsAs b (heard log).calls (kept log).event
      pub pending : (t : Stamp) → (kept log).event.pending ≡ Some t → (y : Activation) × In y log × Touches y × (t ≡ next_delta y.stamp)

    heard_next : (x : Activation) (xs : List Activation) → heard (x ∷ xs) ≡ notified_all k x.stamp (effects x) (heard xs)
    heard_next x xs = notified_after (operations_of r xs) k x.stamp (effects x)

    heard_none : heard [] ≡ record { cycle = first_cycle (slice_get r.design.channels (channel_of k)); calls = [] }
    unfolding notified_by
    heard_none = refl

    none_told_yet : ChannelTold []
    none_told_yet = record {
      tells = λ b h. subst (λ y. TellsAs b y.calls (kept []).event) (sym heard_none) (none_told b);
      pending = λ t h. absurd (let c : None ≡ Some t = h in cc);
    }

    -- an activation that doesn't touch the event
    told_same : (x : Activation) (xs : List Activation) → touches (program (tables r)) e x ≡ false → (heard (x ∷ xs)).calls ≡ (heard xs).calls → ChannelTold xs → ChannelTold (x ∷ xs)
    told_same x xs h same told = record {
      tells = λ b bound. subst (λ cs. TellsAs b cs (kept (x ∷ xs)).event) (sym same) (subst (λ s. TellsAs b (heard xs).calls s.event) (sym (same_kept x xs h)) (told.tells b (λ y i u. bound y (inr i) u)));
      pending = λ t i. let y = told.pending t (sym (ap (λ s. s.event.pending) (same_kept x xs h)) ∙ i) in (y.0, inr y.1, y.2, y.3);
    }

    -- one that does, at a later stamp than those before it
    module _ (x : Activation) (xs : List Activation) (touching : Touches x) (rises : Rises (x ∷ xs)) (told : ChannelTold xs) where
      come : (t : Stamp) → (kept xs).event.pending ≡ Some t → IsBy x.stamp t
      come t h lt =
          let y = told.pending t h in
          let n = delta_not_after y.0.stamp x.stamp (rises.0 y.0 y.1 y.2 touching) in
          let before : IsBefore x.stamp (next_delta y.0.stamp) = subst (IsBefore x.stamp) y.3 lt in
          ⊎_elim (λ k. irreflexive x.stamp (transitive x.stamp (next_delta y.0.stamp) x.stamp before k)) (λ k. irreflexive x.stamp (subst (IsBefore x.stamp) k before)) n

      before_it : Bounds x.stamp xs
      before_it y i u lt = irreflexive x.stamp (transitive x.stamp y.stamp x.stamp lt (rises.0 y i u touching))

      told_next : (o : Option Bool) → Renewed x.stamp (heard xs).calls (heard (x ∷ xs)).calls o → calls_of x.stamp e k (kept xs).value (effects x) ≡ notice x.stamp o → ChannelTold (x ∷ xs)
      told_next o renewed noticed = record {
        tells = λ b bound. reached_later x.stamp b (heard (x ∷ xs)).calls (kept (x ∷ xs)).event (bound x (inl refl) touching)
            (subst (TellsAs x.stamp (heard (x ∷ xs)).calls) (sym next) (told_once x.stamp (heard xs).calls (heard (x ∷ xs)).calls o (kept xs).event (told.tells x.stamp before_it) come renewed));
        pending = λ t h. ⊎_elim (λ i. (x, inl refl, touching, i)) (λ i. let y = told.pending t i in (y.0, inr y.1, y.2, y.3)) (pending_once x.stamp o (kept xs).event t come (sym (ap (λ v. v.pending) next) ∙ h));
      }
        where
          next : (kept (x ∷ xs)).event ≡ calls_at Stamp is_before x.stamp (notice x.stamp o) (kept xs).event
          next = event_is k is x xs ∙ ap (λ cs. calls_at Stamp is_before x.stamp cs (kept xs).event) noticed

    not_affected : (k ≡ event.Own → ⊥) → (x : Activation) → touches (program (tables r)) e x ≡ false → list_any (bears_on k) (effects x) ≡ false
    not_affected n x h = sym (bears_any e k (effects x) n) ∙ affected k is x h

    same_calls : (k ≡ event.Own → ⊥) → (x : Activation) (xs : List Activation) → touches (program (tables r)) e x ≡ false → (heard (x ∷ xs)).calls ≡ (heard xs).calls
    same_calls n x xs h = ap (λ y. y.calls) (heard_next x xs) ∙ calls_unheard k x.stamp (effects x) (heard xs) (not_affected n x h)

    -- ---- of a fifo

    module _ (of_fifo : IsOfFifo k) (there : IsSome (fifo_kind (slice_get r.design.channels (channel_of k)))) where
      fifo_not_own : k ≡ event.Own → ⊥
      fifo_not_own h = subst IsOfFifo h of_fifo

      pub fifo_tells : (log : List Activation) → Rises log → ChannelTold log × IsFifoNow (heard log).cycle.channel
      fifo_tells [] h = (none_told_yet, subst (λ y. IsFifoNow y.cycle.channel) (sym heard_none) (first_fifo (slice_get r.design.channels (channel_of k)) there))
      fifo_tells (x ∷ xs) h = (told (touches (program (tables r)) e x) refl (fifo_tells xs h.1), now (fifo_tells xs h.1))
        where
          now : ChannelTold xs × IsFifoNow (heard xs).cycle.channel → IsFifoNow (heard (x ∷ xs)).cycle.channel
          now rest = subst (λ y. IsFifoNow y.cycle.channel) (sym (heard_next x xs)) (fifo.fifo_kept k of_fifo x.stamp (heard xs) (effects x) rest.1)

          told : (b : Bool) → touches (program (tables r)) e x ≡ b → ChannelTold xs × IsFifoNow (heard xs).cycle.channel → ChannelTold (x ∷ xs)
          told false t rest = told_same x xs t (same_calls fifo_not_own x xs t) rest.0
          told true t rest =
              let made : IsMadeBy x.stamp (slot_after (heard xs).calls) = (rest.0.tells x.stamp (before_it x xs t h rest.0)).made in
              told_next x xs t h rest.0 (fifo.bearing k None (effects x))
              (subst (λ y. Renewed x.stamp (heard xs).calls y.calls (fifo.bearing k None (effects x))) (sym (heard_next x xs))
              (fifo.all_effects k of_fifo x.stamp (heard xs).calls (heard xs) None (effects x) rest.1 (none_renewed x.stamp (heard xs).calls made)))
              (fifo.calls_told x.stamp e k (kept xs).value (effects x) of_fifo)

    -- ---- of a signal

    module _ (of_signal : IsOfSignal k) (there : IsSome (signal_kind (slice_get r.design.channels (channel_of k)))) where
      signal_not_own : k ≡ event.Own → ⊥
      signal_not_own h = subst IsOfSignal h of_signal

      -- what was asked of the signal, in the cycle of the last activation that did
      pub data Begun (log : List Activation) : Type 0 where
        not_yet : (heard log).cycle.stamp ≡ zero_stamp → AskedAs k (heard log).cycle.channel (kept log).value None → Begun log
        asked : (y : Activation) → In y log → Touches y → (heard log).cycle.stamp ≡ y.stamp → (v : Value) (a : Option Value) → AskedAs k (heard log).cycle.channel v a → value_by k v a ≡ (kept log).value → Begun log

      -- an activation acts on the signal by requests alone
      abbrev pub Requests : Activation → Type 0
      Requests x = (f : Effect) → In f (effects x) → is_on (channel_of k) f ≡ true → bears_on k f ≡ true

      begun_none : Begun []
      begun_none =
          not_yet (ap (λ y. y.cycle.stamp) heard_none ∙ first_stamp (slice_get r.design.channels (channel_of k)))
          (subst (λ y. AskedAs k y.cycle.channel (kept []).value None) (sym heard_none)
          (subst (λ o. AskedAs k (first_cycle (slice_get r.design.channels (channel_of k))).channel (first_value r.design.channels o) None) (sym is) (first_asked r.design.channels k of_signal there)))

      module _ (x : Activation) (xs : List Activation) where
        -- an activation that doesn't touch the event leaves the signal
        begun_same : Requests x → touches (program (tables r)) e x ≡ false → Begun xs → Begun (x ∷ xs)
        begun_same requests t = by
          where
            off : (f : Effect) → In f (effects x) → is_on (channel_of k) f ≡ false
            off f i = not_on (is_on (channel_of k) f) refl
              where
                not_on : (b : Bool) → is_on (channel_of k) f ≡ b → b ≡ false
                not_on true h = let c : true ≡ false = sym (requests f i h) ∙ none_in (bears_on k) (effects x) (not_affected signal_not_own x t) f i in absurd cc
                not_on false h = refl

            cycle : (heard (x ∷ xs)).cycle ≡ (heard xs).cycle
            cycle = ap (λ y. y.cycle) (heard_next x xs) ∙ cycle_unheard k x.stamp (effects x) (heard xs) off

            value : (kept (x ∷ xs)).value ≡ (kept xs).value
            value = ap (λ s. s.value) (same_kept x xs t)

            by : Begun xs → Begun (x ∷ xs)
            by (not_yet s a) = not_yet (ap (λ y. y.stamp) cycle ∙ s) (subst (λ y. AskedAs k y.channel (kept (x ∷ xs)).value None) (sym cycle) (subst (λ v. AskedAs k (heard xs).cycle.channel v None) (sym value) a))
            by (asked y i u s v a h c) = asked y (inr i) u (ap (λ y. y.stamp) cycle ∙ s) v a (subst (λ y. AskedAs k y.channel v a) (sym cycle) h) (c ∙ sym value)

        module _ (touching : Touches x) (rises : Rises (x ∷ xs)) (told : ChannelTold xs) where
          abbrev next : Option Value
          next = asked_by k None (effects x)

          -- before its effects, nothing is asked in its cycle
          asking_none : Begun xs → signal.Asking k of_signal x.stamp (heard xs).calls (kept xs).value (heard xs) None
          asking_none begun = record {
            by = by begun;
            asked = now begun;
            stamp = inl refl;
            told = none_renewed x.stamp (heard xs).calls (told.tells x.stamp (before_it x xs touching rises told)).made;
          }
            where
              by : Begun xs → IsBy x.stamp (heard xs).cycle.stamp
              by (not_yet s a) lt = zero_first x.stamp (subst (IsBefore x.stamp) s lt)
              by (asked y i u s v a h c) lt = irreflexive x.stamp (transitive x.stamp y.stamp x.stamp (subst (IsBefore x.stamp) s lt) (rises.0 y i u touching))

              now : Begun xs → AskedAs k (cycle_at x.stamp (heard xs).cycle).channel (kept xs).value None
              now (not_yet s a) = signal.reached_quiet k x.stamp (heard xs).cycle (kept xs).value a
              now (asked y i u s v a h c) =
                  subst (λ z. AskedAs k (cycle_at x.stamp (heard xs).cycle).channel z None) c
                  (signal.reached_asked k x.stamp (heard xs).cycle v a (subst (λ z. IsBefore z x.stamp) (sym s) (rises.0 y i u touching)) h)

          asking : Begun xs → signal.Asking k of_signal x.stamp (heard xs).calls (kept xs).value (heard (x ∷ xs)) (asked_by k None (effects x))
          asking begun =
              subst (λ y. signal.Asking k of_signal x.stamp (heard xs).calls (kept xs).value y (asked_by k None (effects x))) (sym (heard_next x xs))
              (signal.all_effects k of_signal x.stamp (heard xs).calls (kept xs).value (heard xs) None (effects x) (asking_none begun))

          begun_next : Begun xs → Begun (x ∷ xs)
          begun_next begun =
              asked x (inl refl) touching stamp (kept xs).value (asked_by k None (effects x))
              (subst (λ y. AskedAs k y.channel (kept xs).value (asked_by k None (effects x))) (signal.cycle_stays x.stamp (heard (x ∷ xs)).cycle (λ lt. irreflexive x.stamp (subst (λ z. IsBefore z x.stamp) stamp lt))) (asking begun).asked)
              (sym (value_is k is x xs ∙ signal.value_told k (kept xs).value (effects x) of_signal))
            where
              some : is_some (asked_by k None (effects x)) ≡ true
              some = sym (asked_some x.stamp e k (effects x) of_signal) ∙ ap (λ o. rule.touches_by x.stamp e o (effects x)) (sym is) ∙ touching

              stamp : (heard (x ∷ xs)).cycle.stamp ≡ x.stamp
              stamp = ⊎_elim (λ n. let c : false ≡ true = sym (ap is_some n) ∙ some in absurd cc) (λ s. s) (asking begun).stamp

          told_asked : Begun xs → ChannelTold (x ∷ xs)
          told_asked begun =
              told_next x xs touching rises told (signal.told_of k (kept xs).value (asked_by k None (effects x))) (asking begun).told (signal.calls_told x.stamp e k (kept xs).value (effects x) of_signal)

      pub signal_tells : (log : List Activation) → Rises log → ((x : Activation) → In x log → Requests x) → ChannelTold log × Begun log
      signal_tells [] h requests = (none_told_yet, begun_none)
      signal_tells (x ∷ xs) h requests = at (touches (program (tables r)) e x) refl (signal_tells xs h.1 (λ y i. requests y (inr i)))
        where
          at : (b : Bool) → touches (program (tables r)) e x ≡ b → ChannelTold xs × Begun xs → ChannelTold (x ∷ xs) × Begun (x ∷ xs)
          at true t rest = (told_asked x xs t h rest.0 rest.1, begun_next x xs t h rest.0 rest.1)
          at false t rest = (told_same x xs t (same_calls signal_not_own x xs t) rest.0, begun_same x xs (requests x (inl refl)) t rest.1)
