-- The history of a channel up to the cycle of a stamp is the whole history by the operations before the stamp; and the operations
-- of a log are in order, channel by channel.
use Rattle.std.proofs.Common.{◌≡◌, ℕ, zero, suc, ◌<◌, ◌⊎◌, inl, inr, ⊎_elim, Bool, true, false, not, if◌then◌else◌, List, [], ◌∷◌, ◌++◌, length, get_or, Option, Some, None, refl, sym, ap, ◌∙◌, subst, arith}
use Rattle.std.specs.Prelude.{AllPairs, pos, slice_get}
use Rattle.std.proofs.lemmas.List.Quantifiers.{all_pairs_push}
use Rattle.ooo_time.specs.declared.stamp.Stamp.{Stamp}
use Rattle.ooo_time.specs.Stamps.{ComesBefore, IsBefore, is_before}
use Rattle.ooo_value.specs.declared.bound.BoundChannel.{BoundChannel}
use Rattle.ooo_value.specs.declared.bound.ChannelKind.{ChannelKind}
use Rattle.ooo_value.specs.declared.bound.ChannelKind.TheVariants as channel
use Rattle.ooo_value.specs.declared.values.Value.{Value}
use Rattle.ooo_value.specs.Values.{value_of}
use Rattle.ooo_code.specs.declared.activation.Effect.{Effect}
use Rattle.ooo_code.specs.Channels.{IsFifo, IsSignal, first_channel}
use Rattle.ooo_code.specs.Expressions.{no_value}
use Rattle.ooo_code.specs.Sound.{IsSound}
use Rattle.ooo_history.specs.declared.run.What.TheVariants.{Changed}
use Rattle.ooo_meaning.specs.World.{entries_of, place_of, zero_stamp}
use Rattle.ooo_channels.specs.Conditions.{AreOrdered}
use Rattle.ooo_channels.specs.Cycles.{Cycle, cycle_after, cycle_at, cycle_of, cycle_step, first_cycle, history_in, whole_history}
use Rattle.ooo_channels.specs.Operations.{Operation, Operations, after_effect, after_effects, is_on}
use Rattle.ooo_schedules.specs.Delays.{NotAfter}
use Rattle.ooo_schedules.specs.Design.{only}
use Rattle.ooo_schedules.specs.Model.{In}
use Rattle.ooo_schedules.specs.Program.{Sound}
use Rattle.ooo_schedules.specs.Tables.{EveryScheduleOf, program}
use Rattle.ooo_dispatch.specs.Banks.{operations_on}
use Rattle.ooo_dispatch.specs.Boards.{AreRules, Board, IsLawful}
use Rattle.ooo_dispatch.specs.ReadOff.{precedes}
use Rattle.ooo_dispatch.specs.Rules.{Rules, deed_of, operations_of, process_of, tables}
use Rattle.ooo_dispatch.proofs.Acting.{Does}
use Rattle.ooo_dispatch.proofs.Applied.{ends_commute, is_early}
use Rattle.ooo_dispatch.proofs.Commits.{Activation, Falls, OutOfOrder, Stands, WithEarlier, log_stands}
use Rattle.ooo_dispatch.proofs.Cores.{same_self}
use Rattle.ooo_dispatch.proofs.Histories.{history_later, moved_history}
use Rattle.ooo_dispatch.proofs.Orderly.{applied_by}
use Rattle.ooo_dispatch.proofs.Owners.{owned}
use Rattle.ooo_dispatch.proofs.Reported.{not_true, precedes_is}
use Rattle.ooo_dispatch.proofs.Shown.{cycle_moved, moved, next_cycle}
use Rattle.ooo_dispatch.proofs.Stamps.{before_no, before_yes, irreflexive, is_no, is_yes, then_not_after, transitive}

-- ---- a channel as it starts

first_signal : (b : BoundChannel) → b.kind ≡ channel.Signal → first_channel b None None ≡ IsSignal (record { current = value_of b.value (pos 0); requested = None; changed = None })
first_signal b is = rw is refl

first_fifo : (b : BoundChannel) → b.kind ≡ channel.Fifo → first_channel b None None ≡ IsFifo (record { size = b.size; held = []; read = 0; written = []; reader = None; writer = None })
first_fifo b is = rw is refl

signal_quiet : (s : Stamp) (v : Value) → entries_of s (IsSignal (record { current = v; requested = None; changed = None })) ≡ []
signal_quiet s v = ap (λ b. if not b then record { stamp = s; what = Changed; value = v } ∷ [] else []) (same_self v)

first_quiet : (o : Option BoundChannel) → whole_history (first_cycle o) ≡ []
first_quiet None = signal_quiet zero_stamp no_value
first_quiet (Some b) = at b.kind refl
  where
    at : (k : ChannelKind) → b.kind ≡ k → entries_of zero_stamp (first_channel b None None) ≡ []
    at channel.Signal e = ap (entries_of zero_stamp) (first_signal b e) ∙ signal_quiet zero_stamp (value_of b.value (pos 0))
    at channel.Fifo e = ap (entries_of zero_stamp) (first_fifo b e)

first_none : (o : Option BoundChannel) → (first_cycle o).history ≡ []
first_none None = refl
first_none (Some b) = refl

pub zero_first : (s : Stamp) → IsBefore s zero_stamp → ⊥
zero_first s (inl h) = omega (arith, h)
zero_first s (inr h) = let k = h.1 in omega (arith, k)

module _ (r : Rules) (s : Stamp) (c : ℕ) where
  abbrev effects : Activation → List Effect
  effects y = (deed_of r y).effects

  abbrev cycle : List Activation → Cycle
  cycle ys = cycle_of (operations_of r ys) c

  -- effects at an earlier stamp leave the channel in an earlier cycle
  early_step : (at : Stamp) (f : Effect) (x : Cycle) → IsBefore at s → IsBefore x.stamp s → IsBefore (cycle_step c x (record { at = at; effect = f })).stamp s
  early_step at f x lt h = on (is_on c f) (is_before x.stamp at)
    where
      here : (b : Bool) → IsBefore (let y : Cycle = if b then next_cycle at x else x in y.stamp) s
      here true = lt
      here false = h

      on : (a b : Bool) → IsBefore (let y : Cycle = if a then cycle_after x (record { at = at; effect = f }) else x in y.stamp) s
      on true b = here (is_before x.stamp at)
      on false b = h

  early_moved : (at : Stamp) (fs : List Effect) (x : Cycle) → IsBefore at s → IsBefore x.stamp s → IsBefore (moved at c fs x).stamp s
  early_moved at [] x lt h = h
  early_moved at (f ∷ fs) x lt h = early_moved at fs (cycle_step c x (record { at = at; effect = f })) lt (early_step at f x lt h)

  start_stamp : (o : Option BoundChannel) → (first_cycle o).stamp ≡ zero_stamp
  start_stamp None = refl
  start_stamp (Some b) = refl

  early_cycle : IsBefore zero_stamp s → (ys : List Activation) → ((y : Activation) → In y ys → IsBefore y.stamp s) → IsBefore (cycle ys).stamp s
  unfolding cycle_of
  early_cycle begun [] early = subst (λ t. IsBefore t s) (sym (start_stamp (slice_get r.design.channels c))) begun
  early_cycle begun (y ∷ ys) early =
      subst (λ x. IsBefore x.stamp s) (sym (cycle_moved y.stamp (operations_of r ys) (effects y) c))
      (early_moved y.stamp (effects y) (cycle ys) (early y (inl refl)) (early_cycle begun ys (λ z i. early z (inr i))))

  stays_first : (x : Cycle) → is_before x.stamp s ≡ false → cycle_at s x ≡ x
  stays_first x e = ap (λ b. if b then next_cycle s x else x) e

  of_none : (ys : List Activation) → ((y : Activation) → In y ys → IsBefore y.stamp s) → is_before zero_stamp s ≡ false → (cycle_at s (cycle ys)).history ≡ whole_history (cycle ys)
  unfolding cycle_of
  of_none [] h e =
      ap (λ x. x.history) (stays_first (first_cycle (slice_get r.design.channels c)) (ap (λ t. is_before t s) (start_stamp (slice_get r.design.channels c)) ∙ e))
      ∙ first_none (slice_get r.design.channels c) ∙ sym (first_quiet (slice_get r.design.channels c))
  of_none (y ∷ ys) h e = absurd (zero_first y.stamp (then_not_after y.stamp s zero_stamp (h y (inl refl)) (is_no zero_stamp s e)))

  -- the history up to the cycle of the stamp, by activations before it
  of_early : (ys : List Activation) → ((y : Activation) → In y ys → IsBefore y.stamp s) → (cycle_at s (cycle ys)).history ≡ whole_history (cycle ys)
  of_early ys early = at (is_before zero_stamp s) refl
    where
      at : (b : Bool) → is_before zero_stamp s ≡ b → (cycle_at s (cycle ys)).history ≡ whole_history (cycle ys)
      at true e = history_later s (cycle ys) (early_cycle (is_yes zero_stamp s e) ys early)
      at false e = of_none ys early e

  all_early : (ys : List Activation) → ((y : Activation) → In y ys → IsBefore y.stamp s) → only (is_early r s) ys ≡ ys
  all_early [] h = refl
  all_early (y ∷ ys) h =
      ap (λ b. if b then y ∷ only (is_early r s) ys else only (is_early r s) ys) (before_yes y.stamp s (h y (inl refl))) ∙ ap (λ zs. y ∷ zs) (all_early ys (λ z i. h z (inr i)))

  -- of activations in order of place, none of which is after the stamp
  pub history_before : (ys : List Activation) → Falls ys → ((y : Activation) → In y ys → NotAfter y.stamp s) →
      history_in s (operations_of r ys) c ≡ whole_history (cycle (only (is_early r s) ys))
  history_before [] falls past = of_early [] (λ y i. absurd i)
  history_before (y ∷ ys) falls past = at (past y (inl refl)) (history_before ys falls.1 (λ z i. past z (inr i)))
    where
      at : NotAfter y.stamp s → history_in s (operations_of r ys) c ≡ whole_history (cycle (only (is_early r s) ys)) → history_in s (operations_of r (y ∷ ys)) c ≡ whole_history (cycle (only (is_early r s) (y ∷ ys)))
      at (inl lt) rec =
          let early : (z : Activation) → In z (y ∷ ys) → IsBefore z.stamp s = λ z i. ⊎_elim (λ e. subst (λ t. IsBefore t.stamp s) (sym e) lt) (λ j. not_later z (falls.0 z j)) i in
          of_early (y ∷ ys) early ∙ ap (λ zs. whole_history (cycle zs)) (sym (all_early (y ∷ ys) early))
        where
          not_later : (z : Activation) → NotAfter z.stamp y.stamp → IsBefore z.stamp s
          not_later z (inl h) = transitive z.stamp y.stamp s h lt
          not_later z (inr e) = subst (λ t. IsBefore t s) (sym e) lt
      at (inr e) rec =
          ap (λ x. (cycle_at s x).history) (cycle_moved y.stamp (operations_of r ys) (effects y) c)
          ∙ subst (λ t. (cycle_at t (moved y.stamp c (effects y) (cycle ys))).history ≡ (cycle_at t (cycle ys)).history) e (moved_history y.stamp c (effects y) (cycle ys))
          ∙ rec ∙ ap (λ b. whole_history (cycle (if b then y ∷ only (is_early r s) ys else only (is_early r s) ys))) (sym (before_no y.stamp s (λ k. irreflexive s (subst (λ t. IsBefore t s) e k))))

-- ---- the order of operations

module _ (r : Rules) (rules : AreRules r) (sound : IsSound r.design) (does : Does) (runs : Sound (program (tables r))) (every : EveryScheduleOf (tables r)) (c : ℕ) where
  abbrev InOrder : Operation → Operation → Type 0
  InOrder o p = is_on c o.effect ≡ true → is_on c p.effect ≡ true → IsBefore p.at o.at → ⊥

  effects_ordered : (s : Stamp) (fs : List Effect) (ops : Operations) →
      ((o : Operation) (f : Effect) → In o ops.applied → In f fs → is_on c o.effect ≡ true → is_on c f ≡ true → IsBefore s o.at → ⊥) →
      AllPairs InOrder ops.applied → AllPairs InOrder (after_effects s ops fs).applied
  effects_ordered s [] ops none h = h
  effects_ordered s (f ∷ fs) ops none h =
      effects_ordered s fs (after_effect s ops f) (λ o g i j. later o g j (in_more ops.applied o i))
      (all_pairs_push InOrder ops.applied (record { at = s; effect = f }) h
      (λ k d lt on_o on_f. none (get_or ops.applied k d) f (in_at ops.applied k d lt) (inl refl) on_o on_f))
    where
      in_more : (os : List Operation) (o : Operation) → In o (os ++ record { at = s; effect = f } ∷ []) → In o os ⊎ (o ≡ record { at = s; effect = f })
      in_more [] o (inl e) = inr e
      in_more [] o (inr i) = absurd i
      in_more (p ∷ os) o (inl e) = inl (inl e)
      in_more (p ∷ os) o (inr i) = ⊎_elim (λ j. inl (inr j)) (λ e. inr e) (in_more os o i)

      in_at : (os : List Operation) (k : ℕ) (d : Operation) → k < length os → In (get_or os k d) os
      in_at [] k d lt = absurd (omega (arith, lt))
      in_at (p ∷ os) zero d lt = inl refl
      in_at (p ∷ os) (suc k) d lt = inr (in_at os k d (omega (arith, lt)))

      later : (o : Operation) (g : Effect) → In g fs → In o ops.applied ⊎ (o ≡ record { at = s; effect = f }) → is_on c o.effect ≡ true → is_on c g ≡ true → IsBefore s o.at → ⊥
      later o g j (inl i) on_o on_g lt = none o g i (inr j) on_o on_g lt
      later o g j (inr e) on_o on_g lt = irreflexive s (subst (λ p. IsBefore s p.at) e lt)

  log_ordered : (log : List Activation) → ((y : Activation) → In y log → process_of r y.segment ≡ y.process) → WithEarlier (Stands r every) log → AreOrdered (operations_of r log) c
  log_ordered [] own h = λ i j d lt below. absurd (omega (arith, below))
  log_ordered (y ∷ log) own h =
      effects_ordered y.stamp (deed_of r y).effects (operations_of r log)
      (λ o f i j on_o on_f lt.
      let a = applied_by r log o i in
      let late : IsBefore y.stamp a.activation.stamp = subst (IsBefore y.stamp) a.stamp lt in
      let same = (ends_commute r rules sound c does every y a.activation (own y (inl refl)) (own a.activation (inr a.among)) (h.0 a.activation a.among) (out y a.activation late) f o.effect j a.effect on_f on_o).0 in
      irreflexive y.stamp (subst (IsBefore y.stamp) (sym same) late))
      (log_ordered log (λ z i. own z (inr i)) h.1)
    where
      out : (x z : Activation) → IsBefore x.stamp z.stamp → OutOfOrder r x z
      out x z lt = not_true (precedes (place_of z.stamp z.process) (place_of x.stamp x.process)) (λ h. at (precedes_is (place_of z.stamp z.process) (place_of x.stamp x.process) h))
        where
          at : ComesBefore (place_of z.stamp z.process) (place_of x.stamp x.process) → ⊥
          at (inl k) = irreflexive x.stamp (transitive x.stamp z.stamp x.stamp lt k)
          at (inr k) = irreflexive x.stamp (subst (IsBefore x.stamp) k.0 lt)

  pub ordered : (b : Board r) → IsLawful r b → AreOrdered (operations_on r b) c
  ordered b lawful = log_ordered b.log (λ y i. owned r runs lawful y (inl i)) (log_stands r every b lawful)
