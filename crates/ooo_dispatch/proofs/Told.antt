-- What the operations of a lawful board tell of the events of a wait is what its log says.
use Rattle.std.proofs.Common.{◌≡◌, ◌≢◌, ℕ, ◌<◌, ◌||◌, ◌&&◌, not, nat_lt, inl, ⊎_elim, List, [], ◌∷◌, length, Bool, true, false, Option, Some, None, refl, sym, ap, ◌∙◌, subst}
use Rattle.std.specs.Prelude.{slice_get, IsSome}
use Rattle.std.proofs.lemmas.Bool.{eq-eqb}
use Rattle.ooo_time.specs.declared.stamp.Stamp.{Stamp}
use Rattle.ooo_time.specs.Stamps.{IsBefore, is_before}
use Rattle.ooo_value.specs.declared.bound.BoundEvent.{BoundEvent}
use Rattle.ooo_value.specs.declared.bound.BoundEvent.TheVariants as event
use Rattle.ooo_events.specs.Firings.{IsFirstAfter}
use Rattle.ooo_value.specs.declared.values.Value.{Value}
use Rattle.ooo_code.specs.declared.activation.Effect.{Effect}
use Rattle.ooo_code.specs.declared.activation.Effect.TheVariants as effect
use Rattle.ooo_code.specs.Sound.{FitsEvent, IsSound, fifo_kind, signal_kind}
use Rattle.ooo_meaning.specs.World.{zero_stamp}
use Rattle.ooo_channels.specs.Calls.{FiresAt, bears_on, calls_by, calls_of, channel_of, notified_by}
use Rattle.ooo_channels.specs.Operations.{is_on}
use Rattle.ooo_schedules.specs.Design as order
use Rattle.ooo_schedules.specs.Design.{Wait, sort}
use Rattle.ooo_schedules.specs.Model.{In, last}
use Rattle.ooo_schedules.specs.Program.{Left, Waits, Ended, Sound, time_out, touches, wait_by, wait_left}
use Rattle.ooo_schedules.specs.Slots.{first_of, is_since}
use Rattle.ooo_schedules.specs.Tables.{EveryScheduleOf, program}
use Rattle.ooo_dispatch.specs.Banks.{FrontsAreTold, first_on, since_of}
use Rattle.ooo_dispatch.specs.Boards.{AreRules, Board, IsLawful}
use Rattle.ooo_dispatch.specs.Least.{Advance}
use Rattle.ooo_dispatch.specs.Rules.{Rules, deed_of, operations_of, origin_of, process_of, tables, waits_on}
use Rattle.ooo_dispatch.specs.Steps.{Replay}
use Rattle.ooo_dispatch.proofs.Accessed.{element, origin_is}
use Rattle.ooo_dispatch.proofs.Acting.{Does}
use Rattle.ooo_dispatch.proofs.Applied.{Puts, Requests, Takes, UseOf, is_read_fifo, is_written_fifo, kinds_apart, use_on}
use Rattle.ooo_dispatch.proofs.Asked.{is_own}
use Rattle.ooo_dispatch.proofs.Commits.{Activation, OutOfOrder, P, Passes, Stands, WithEarlier, each_with, is_out_of_order, log_stands, owned}
use Rattle.ooo_dispatch.proofs.FifoCalls.{IsOfFifo}
use Rattle.ooo_dispatch.proofs.Fired.{IsBy, TellsAs, first_told, is_or_not}
use Rattle.ooo_dispatch.proofs.Heard.{Ascends, Bounds, Rises, Touches, fifo_tells, kept, own_tells, signal_tells}
use Rattle.ooo_dispatch.proofs.SignalCalls.{IsOfSignal}
use Rattle.ooo_dispatch.proofs.Slotted.{slot_sorted}
use Rattle.ooo_dispatch.proofs.Stamps.{before_yes, irreflexive, is_yes, transitive}
use Rattle.ooo_dispatch.proofs.There.{event_fits, events_of, has_event, is_bool, waited_there}

-- ---- events of signals

bears_request : (k : BoundEvent) → IsOfSignal k → (v : Value) → bears_on k (effect.Request (channel_of k) v) ≡ true
bears_request (event.Changed c) s v = eq-eqb c c refl
bears_request (event.Rise c) s v = eq-eqb c c refl
bears_request (event.Fall c) s v = eq-eqb c c refl
bears_request event.Own s v = absurd s
bears_request (event.Written c) s v = absurd s
bears_request (event.Taken c) s v = absurd s

-- ---- a log

-- a stamp after which no activation of a log stands
bounded : (log : List Activation) → (s : Stamp) × ((y : Activation) → In y log → IsBy s y.stamp)
bounded [] = (zero_stamp, λ y i. absurd i)
bounded (x ∷ xs) = by (bounded xs)
  where
    by : (s : Stamp) × ((y : Activation) → In y xs → IsBy s y.stamp) → (s : Stamp) × ((y : Activation) → In y (x ∷ xs) → IsBy s y.stamp)
    by (s, h) =
        ⊎_elim (λ lt. (x.stamp, λ y i. ⊎_elim (λ e. λ k. irreflexive x.stamp (subst (λ z. IsBefore x.stamp z.stamp) e k)) (λ j. λ k. h y j (transitive s x.stamp y.stamp lt k)) i))
        (λ n. (s, λ y i. ⊎_elim (λ e. λ k. n (subst (λ z. IsBefore s z.stamp) e k)) (λ j. h y j) i)) (is_or_not s x.stamp)

module _ (r : Rules) where
  not_after : (x y : Activation) → order.is_earlier (P r) y x ≡ true → IsBy x.stamp y.stamp
  not_after x y e lt = by (is_before y.stamp x.stamp) (is_before x.stamp y.stamp) refl refl e
    where
      by : (a c : Bool) → is_before y.stamp x.stamp ≡ a → is_before x.stamp y.stamp ≡ c → (a || (not c && nat_lt y.process x.process)) ≡ true → ⊥
      by true c f g h = irreflexive x.stamp (transitive x.stamp y.stamp x.stamp lt (is_yes y.stamp x.stamp f))
      by false true f g h = absurd cc
      by false false f g h = let c : true ≡ false = sym (before_yes x.stamp y.stamp lt) ∙ g in absurd cc

  -- the activations that touch an event, in the order of their commits
  abbrev InOrder : (e : ℕ) → List Activation → Type 0
  InOrder e log = WithEarlier (Passes r (touches (program (tables r)) e)) log

  ascends_by : (e : ℕ) (log : List Activation) → InOrder e log → Ascends r e log
  ascends_by e log h = each_with (Passes r (touches (program (tables r)) e)) (λ x y. Touches r e y → Touches r e x → IsBy x.stamp y.stamp) log (λ x y i j none u t. by x y none u t (order.is_earlier (P r) y x) refl) h
    where
      by : (x y : Activation) → Passes r (touches (program (tables r)) e) x y → Touches r e y → Touches r e x → (b : Bool) → order.is_earlier (P r) y x ≡ b → IsBy x.stamp y.stamp
      by x y none u t true k = not_after x y k
      by x y none u t false k = absurd (none k t u)

  module _ (sound : Sound (program (tables r))) (every : EveryScheduleOf (tables r)) where
    module _ (e : ℕ) (x y : Activation) (stands : Stands r every x y) (of_x : process_of r x.segment ≡ x.process) (of_y : process_of r y.segment ≡ y.process) (t : Touches r e x) (u : Touches r e y) where
      same_process : origin_of r e ≢ event.Own → x.process ≡ y.process
      same_process n = sym of_x ∙ sound.one_maker x.segment y.segment e n (sound.notified e x t) (sound.notified e y u) ∙ of_y

      not_late : OutOfOrder r x y → ⊥
      not_late late =
          let n = is_out_of_order r every x y stands late in
          ⊎_elim (λ own. stands.apart n.0 n.1 (inl (sound.own_clash x.segment y.segment e own (sound.notified e x t) (sound.notified e y u)))) (λ other. n.0 (same_process other)) (is_own (origin_of r e))

      later : origin_of r e ≢ event.Own → IsBefore y.stamp x.stamp
      later n = stands.own (sym (same_process n))

    module _ (e : ℕ) (log : List Activation) (stands : WithEarlier (Stands r every) log) (own : (y : Activation) → In y log → process_of r y.segment ≡ y.process) where
      -- what touches an event is committed in order of place
      in_order_by : InOrder e log
      in_order_by = each_with (Stands r every) (Passes r (touches (program (tables r)) e)) log (λ x y i j h late t u. not_late e x y h (own x i) (own y j) t u late) stands

      -- an event of a channel at ascending stamps
      rises_by : origin_of r e ≢ event.Own → Rises r e log
      rises_by n = each_with (Stands r every) (λ x y. Touches r e y → Touches r e x → IsBefore y.stamp x.stamp) log (λ x y i j h u t. later e x y h (own x i) (own y j) t u n) stands

module _ (r : Rules) (rules : AreRules r) (ready : IsSound r.design) (does : Does) (sound : Sound (program (tables r))) (every : EveryScheduleOf (tables r)) where
  -- an activation acts on a signal by requests alone
  requests : (k : BoundEvent) → IsOfSignal k → IsSome (signal_kind (slice_get r.design.channels (channel_of k))) → (x : Activation) (f : Effect) → In f (deed_of r x).effects →
      is_on (channel_of k) f ≡ true → bears_on k f ≡ true
  requests k s there x f i on = by (use_on r rules ready (channel_of k) does x f i on)
    where
      by : UseOf r rules ready (channel_of k) does x.segment f → bears_on k f ≡ true
      by (Requests v e t) = ap (bears_on k) e ∙ bears_request k s v
      by (Puts v e t) = absurd (kinds_apart r rules ready (channel_of k) there (is_written_fifo r rules ready (channel_of k) x.segment t))
      by (Takes e t) = absurd (kinds_apart r rules ready (channel_of k) there (is_read_fifo r rules ready (channel_of k) x.segment t))

  -- where a process waits on an event, the entry of its next segment does
  waits : (q : ℕ) (o : Option Activation) (w : Wait Stamp) → wait_by (program (tables r)) q o ≡ Some w → (e : ℕ) → In e w.events → waits_on r w.segment e ≡ true
  waits q None w h e i = sound.start_waits q w e h i
  waits q (Some z) w h e i = by (deed_of r z).left refl h
    where
      by : (l : Left) → (deed_of r z).left ≡ l → wait_left z.stamp l ≡ Some w → waits_on r w.segment e ≡ true
      by Ended k f = absurd cc
      by (Waits n t es) k f =
          let same : record { segment = n; timeout = time_out z.stamp t; events = es; since = Some z.stamp } ≡ w = cc in
          subst (λ v. waits_on r v.segment e ≡ true) same (sound.next_waits z n t es e k (subst (λ v. In e v.events) (sym same) i))

  module _ (b : Board r) (lawful : IsLawful r b) where
    own : (y : Activation) → In y b.log → process_of r y.segment ≡ y.process
    own y i = owned r sound b lawful y (inl i)

    in_order : (e : ℕ) → InOrder r e b.log
    in_order e = in_order_by r sound every e b.log (log_stands r every b lawful) own

    rises : (e : ℕ) → origin_of r e ≢ event.Own → Rises r e b.log
    rises e n = rises_by r sound every e b.log (log_stands r every b lawful) own n

    abbrev bound : Stamp
    bound = (bounded b.log).0

    bounds : (e : ℕ) → Bounds r e bound b.log
    bounds e y i u = (bounded b.log).1 y i

    -- ---- what the operations tell of an event

    of_fifo : (e : ℕ) (k : BoundEvent) → origin_of r e ≡ k → (s : IsOfFifo k) → IsSome (fifo_kind (slice_get r.design.channels (channel_of k))) → TellsAs bound (notified_by (operations_of r b.log) k).calls (kept r e b.log).event
    of_fifo e k o s there = (fifo_tells r e k o s there b.log (rises e (λ n. subst IsOfFifo (sym o ∙ n) s))).0.tells bound (bounds e)

    of_signal : (e : ℕ) (k : BoundEvent) → origin_of r e ≡ k → (s : IsOfSignal k) → IsSome (signal_kind (slice_get r.design.channels (channel_of k))) → TellsAs bound (notified_by (operations_of r b.log) k).calls (kept r e b.log).event
    of_signal e k o s there = (signal_tells r e k o s there b.log (rises e (λ n. subst IsOfSignal (sym o ∙ n) s)) (λ x i. requests k s there x)).0.tells bound (bounds e)

    tells_by : (e : ℕ) (k : BoundEvent) → origin_of r e ≡ k → FitsEvent r.design.channels k → TellsAs bound (calls_by (operations_of r b.log) e k) (kept r e b.log).event
    tells_by e event.Own o f = own_tells r e o b.log (ascends_by r e b.log (in_order e)) bound (bounds e)
    tells_by e (event.Changed c) o f = of_signal e (event.Changed c) o tt f
    tells_by e (event.Rise c) o f = of_signal e (event.Rise c) o tt (is_bool (signal_kind (slice_get r.design.channels c)) f)
    tells_by e (event.Fall c) o f = of_signal e (event.Fall c) o tt (is_bool (signal_kind (slice_get r.design.channels c)) f)
    tells_by e (event.Written c) o f = of_fifo e (event.Written c) o tt f
    tells_by e (event.Taken c) o f = of_fifo e (event.Taken c) o tt f

    tells : (e : ℕ) → e < length r.design.events → TellsAs bound (calls_of (operations_of r b.log) e) (kept r e b.log).event
    tells e lt =
        let k = element r.design.events e lt in
        let is : slice_get (operations_of r b.log).events e ≡ Some k.0 = ap (λ xs. slice_get xs e) (events_of r b.log) ∙ k.1 in
        subst (λ o. TellsAs bound (elim o [ None ↦ [] | Some x ↦ calls_by (operations_of r b.log) e x ]) (kept r e b.log).event) (sym is)
        (tells_by e k.0 (origin_is r rules ready e k.0 k.1) (event_fits r rules ready e k.0 k.1))

    -- ---- a wait

    since_is : (since : Option Stamp) (t : Stamp) → IsBefore zero_stamp t → is_since Stamp is_before since t ≡ is_before (since_of since) t
    since_is None t h = sym (before_yes zero_stamp t h)
    since_is (Some s) t h = refl

    first : (e : ℕ) → e < length r.design.events → (since t : Option Stamp) → IsFirstAfter (FiresAt (operations_of r b.log) e) (since_of since) t → t ≡ first_on r b e since
    first e lt since t h =
        let told = tells e lt in
        first_told since (since_of since) (kept r e b.log).event (FiresAt (operations_of r b.log) e) (λ u x. since_is since u (told.later u x)) told.told told.tells t h
        ∙ ap (λ s. first_of Stamp is_before s.event since) (sym (slot_sorted r e b.log (in_order e)))

  pub fronts_are_told : (least : Advance) (s : Replay r) → IsLawful r s.board → FrontsAreTold r least s
  fronts_are_told least s lawful q w h = record {
    there = λ e i. has_event r rules ready s.board.log w.segment e (waits q (last q s.board.log) w h e i);
    told = λ e t i f. first s.board lawful e (waited_there r rules ready w.segment e (waits q (last q s.board.log) w h e i)) w.since t f;
  }
