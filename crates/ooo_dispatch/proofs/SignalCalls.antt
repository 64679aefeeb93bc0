-- The events of a signal through the effects of one activation: the last request counts.
use Rattle.std.proofs.Common.{◌≡◌, ℕ, ◌==◌, ◌⊎◌, inl, inr, ⊎_elim, List, [], ◌∷◌, ◌++◌, Bool, true, false, if◌then◌else◌, Option, Some, None, refl, sym, ap, ◌∙◌, subst, append-nil}
use Rattle.std.specs.Prelude.{⊤}
use Rattle.ooo_time.specs.declared.stamp.Stamp.{Stamp}
use Rattle.ooo_time.specs.Stamps.{IsBefore}
use Rattle.ooo_value.specs.declared.bound.BoundEvent.{BoundEvent}
use Rattle.ooo_value.specs.declared.bound.BoundEvent.TheVariants as event
use Rattle.ooo_value.specs.declared.values.Value.{Value}
use Rattle.ooo_events.specs.declared.call.Call.{Call}
use Rattle.ooo_code.specs.declared.activation.Effect.{Effect}
use Rattle.ooo_code.specs.declared.activation.Effect.TheVariants as effect
use Rattle.ooo_code.specs.Channels.{Channel, updated}
use Rattle.ooo_meaning.specs.World.{entries_of, next_delta, same_stamp}
use Rattle.ooo_schedules.specs.Program.{any_value, calls_of, changed_calls, falls, requested, rises, value_of}
use Rattle.ooo_schedules.specs.Updates.{asked_by, noted_by, value_by}
use Rattle.ooo_channels.specs.Calls.{Notified, bears_on, channel_of, notified_step, notifies, renewal, renewals}
use Rattle.ooo_channels.specs.Cycles.{Cycle, acted, cycle_after, cycle_at, later_channel}
use Rattle.ooo_channels.specs.Operations.{is_on}
use Rattle.ooo_dispatch.proofs.Asked.{AskedAs, asked_after, asked_updated, changed_noted, signal_noted, swap}
use Rattle.ooo_dispatch.proofs.Fired.{IsBy, is_or_not}
use Rattle.ooo_dispatch.proofs.Renewals.{Renewed, notice, notified_all, renewed}
use Rattle.ooo_dispatch.proofs.Stamps.{before_no, before_yes, compare, irreflexive}

-- an event of a signal
abbrev pub IsOfSignal : BoundEvent → Type 0
IsOfSignal (event.Changed c) = ⊤
IsOfSignal (event.Rise c) = ⊤
IsOfSignal (event.Fall c) = ⊤
IsOfSignal _ = ⊥

-- whether an update that was asked for notifies the event
abbrev pub told_of : BoundEvent → Value → Option Value → Option Bool
told_of k v None = None
told_of k v (Some w) = Some (noted_by k v (Some w))

-- ---- one effect

on_channel : (k : BoundEvent) (f : Effect) → IsOfSignal k → bears_on k f ≡ true → is_on (channel_of k) f ≡ true
on_channel (event.Changed c) (effect.Request d v) s h = h
on_channel (event.Changed c) f s h = absurd cc
on_channel (event.Rise c) (effect.Request d v) s h = h
on_channel (event.Rise c) f s h = absurd cc
on_channel (event.Fall c) (effect.Request d v) s h = h
on_channel (event.Fall c) f s h = absurd cc
on_channel event.Own f s h = absurd s
on_channel (event.Written c) f s h = absurd s
on_channel (event.Taken c) f s h = absurd s

asked_yes : (c d : ℕ) (a : Option Value) (w : Value) → (c == d) ≡ true → (if d == c then Some w else a) ≡ Some w
asked_yes c d a w h = ap (λ b. if b then Some w else a) (swap d c ∙ h)

asked_no : (c d : ℕ) (a : Option Value) (w : Value) → (c == d) ≡ false → (if d == c then Some w else a) ≡ a
asked_no c d a w h = ap (λ b. if b then Some w else a) (swap d c ∙ h)

asked_more : (k : BoundEvent) (a : Option Value) (f : Effect) → IsOfSignal k → bears_on k f ≡ true → (w : Value) × (asked_by k a (f ∷ []) ≡ Some w)
asked_more (event.Changed c) a (effect.Request d w) s h = (w, asked_yes c d a w h)
asked_more (event.Changed c) a f s h = absurd cc
asked_more (event.Rise c) a (effect.Request d w) s h = (w, asked_yes c d a w h)
asked_more (event.Rise c) a f s h = absurd cc
asked_more (event.Fall c) a (effect.Request d w) s h = (w, asked_yes c d a w h)
asked_more (event.Fall c) a f s h = absurd cc
asked_more event.Own a f s h = absurd s
asked_more (event.Written c) a f s h = absurd s
asked_more (event.Taken c) a f s h = absurd s

asked_same : (k : BoundEvent) (a : Option Value) (f : Effect) → IsOfSignal k → bears_on k f ≡ false → asked_by k a (f ∷ []) ≡ a
asked_same (event.Changed c) a (effect.Request d w) s h = asked_no c d a w h
asked_same (event.Changed c) a f s h = refl
asked_same (event.Rise c) a (effect.Request d w) s h = asked_no c d a w h
asked_same (event.Rise c) a f s h = refl
asked_same (event.Fall c) a (effect.Request d w) s h = asked_no c d a w h
asked_same (event.Fall c) a f s h = refl
asked_same event.Own a f s h = absurd s
asked_same (event.Written c) a f s h = absurd s
asked_same (event.Taken c) a f s h = absurd s

requested_on : (c : ℕ) (a : Option Value) (f : Effect) (fs : List Effect) → requested c (requested c a (f ∷ [])) fs ≡ requested c a (f ∷ fs)
requested_on c a (effect.Request d w) fs = refl
requested_on c a (effect.Put d w) fs = refl
requested_on c a (effect.Take d) fs = refl
requested_on c a (effect.Notify d k) fs = refl
requested_on c a (effect.Cancel d) fs = refl
requested_on c a effect.Stop fs = refl

asked_on : (k : BoundEvent) (a : Option Value) (f : Effect) (fs : List Effect) → IsOfSignal k → asked_by k (asked_by k a (f ∷ [])) fs ≡ asked_by k a (f ∷ fs)
asked_on (event.Changed c) a f fs s = requested_on c a f fs
asked_on (event.Rise c) a f fs s = requested_on c a f fs
asked_on (event.Fall c) a f fs s = requested_on c a f fs
asked_on event.Own a f fs s = absurd s
asked_on (event.Written c) a f fs s = absurd s
asked_on (event.Taken c) a f fs s = absurd s

none_asked : (k : BoundEvent) (a : Option Value) → IsOfSignal k → asked_by k a [] ≡ a
none_asked (event.Changed c) a s = refl
none_asked (event.Rise c) a s = refl
none_asked (event.Fall c) a s = refl
none_asked event.Own a s = absurd s
none_asked (event.Written c) a s = absurd s
none_asked (event.Taken c) a s = absurd s

notes : (k : BoundEvent) (x : Channel) (v : Value) (a : Option Value) → IsOfSignal k → AskedAs k x v a → notifies k x ≡ noted_by k v a
notes (event.Changed c) x v a s h = changed_noted x v a h
notes (event.Rise c) x v a s h = signal_noted rises x v a h
notes (event.Fall c) x v a s h = signal_noted falls x v a h
notes event.Own x v a s h = absurd s
notes (event.Written c) x v a s h = absurd s
notes (event.Taken c) x v a s h = absurd s

-- ---- a channel in a cycle

-- in the cycle of a later stamp
abbrev pub moved : Stamp → Cycle → Cycle
moved at x = record { stamp = at; channel = later_channel at x; history = x.history ++ entries_of x.stamp x.channel }

pub cycle_moved : (at : Stamp) (x : Cycle) → IsBefore x.stamp at → cycle_at at x ≡ moved at x
cycle_moved at x h = ap (λ b. if b then moved at x else x) (before_yes x.stamp at h)

pub cycle_stays : (at : Stamp) (x : Cycle) → IsBy x.stamp at → cycle_at at x ≡ x
cycle_stays at x h = ap (λ b. if b then moved at x else x) (before_no x.stamp at h)

cycle_there : (at : Stamp) (x : Cycle) → IsBy at x.stamp → (cycle_at at x).stamp ≡ at
cycle_there at x h =
    ⊎_elim (λ k. ap (λ y. y.stamp) (cycle_moved at x k))
    (λ r. ⊎_elim (λ e. ap (λ y. y.stamp) (cycle_stays at x (λ k. irreflexive at (subst (λ s. IsBefore s at) e k))) ∙ e) (λ k. absurd (h k)) r) (compare x.stamp at)

value_none : (k : BoundEvent) (v : Value) → value_by k v None ≡ v
value_none event.Own v = refl
value_none (event.Changed c) v = refl
value_none (event.Rise c) v = refl
value_none (event.Fall c) v = refl
value_none (event.Written c) v = refl
value_none (event.Taken c) v = refl

-- in a later cycle the signal has the value that was asked for, and nothing is asked
pub reached_asked : (k : BoundEvent) (at : Stamp) (x : Cycle) (v : Value) (a : Option Value) → IsBefore x.stamp at → AskedAs k x.channel v a → AskedAs k (cycle_at at x).channel (value_by k v a) None
reached_asked k at x v a lt h = subst (λ y. AskedAs k y.channel (value_by k v a) None) (sym (cycle_moved at x lt)) (by (same_stamp at (next_delta x.stamp)))
  where
    first : AskedAs k (updated x.stamp.time x.channel) (value_by k v a) None
    first = asked_updated k x.stamp.time x.channel v a h

    by : (b : Bool) → AskedAs k (if b then updated x.stamp.time x.channel else updated at.time (updated x.stamp.time x.channel)) (value_by k v a) None
    by true = first
    by false = subst (λ u. AskedAs k (updated at.time (updated x.stamp.time x.channel)) u None) (value_none k (value_by k v a)) (asked_updated k at.time (updated x.stamp.time x.channel) (value_by k v a) None first)

-- where nothing was asked, nothing is asked in any later cycle
pub reached_quiet : (k : BoundEvent) (at : Stamp) (x : Cycle) (v : Value) → AskedAs k x.channel v None → AskedAs k (cycle_at at x).channel v None
reached_quiet k at x v h =
    ⊎_elim (λ lt. subst (λ u. AskedAs k (cycle_at at x).channel u None) (value_none k v) (reached_asked k at x v None lt h))
    (λ n. subst (λ y. AskedAs k y.channel v None) (sym (cycle_stays at x n)) h) (is_or_not x.stamp at)

module _ (k : BoundEvent) (signal : IsOfSignal k) (at : Stamp) (calls : List Call) (v : Value) where
  -- what was asked of the signal in the cycle of the stamp so far
  pub record Asking (y : Notified) (a : Option Value) : Type 0 where
    pub by : IsBy at y.cycle.stamp
    pub asked : AskedAs k (cycle_at at y.cycle).channel v a
    pub stamp : (a ≡ None) ⊎ (y.cycle.stamp ≡ at)
    pub told : Renewed at calls y.calls (told_of k v a)

  module _ (y : Notified) (a : Option Value) (f : Effect) (h : Asking y a) where
    here : Cycle
    here = cycle_at at y.cycle

    next : Option Value
    next = asked_by k a (f ∷ [])

    -- the calls, by the channel after the effect
    more_calls : (x : Channel) → (bears_on k f ≡ true → notifies k x ≡ noted_by k v (asked_by k a (f ∷ []))) → Renewed at calls (y.calls ++ renewals k x (record { at = at; effect = f })) (told_of k v (asked_by k a (f ∷ [])))
    more_calls x notify = by (bears_on k f) refl
      where
        told_some : (o : Option Value) (w : Value) → o ≡ Some w → told_of k v o ≡ Some (noted_by k v o)
        told_some None w e = absurd cc
        told_some (Some u) w e = refl

        by : (b : Bool) → bears_on k f ≡ b → Renewed at calls (y.calls ++ (if b then renewal at (notifies k x) ∷ [] else [])) (told_of k v (asked_by k a (f ∷ [])))
        by true e =
            let w = asked_more k a f signal e in
            subst (λ o. Renewed at calls (y.calls ++ renewal at (notifies k x) ∷ []) o) (sym (told_some (asked_by k a (f ∷ [])) w.0 w.1 ∙ ap Some (sym (notify e))))
            (renewed at calls y.calls (told_of k v a) (notifies k x) h.told)
        by false e = subst (λ o. Renewed at calls (y.calls ++ []) (told_of k v o)) (sym (asked_same k a f signal e)) (subst (λ cs. Renewed at calls cs (told_of k v a)) (sym (append-nil y.calls)) h.told)

    pub one_effect : Asking (notified_step k y (record { at = at; effect = f })) (asked_by k a (f ∷ []))
    one_effect = by (is_on (channel_of k) f) refl
      where
        after : AskedAs k (if is_on (channel_of k) f then acted f (cycle_at at y.cycle).channel else (cycle_at at y.cycle).channel) v (asked_by k a (f ∷ []))
        after = asked_after k (cycle_at at y.cycle).channel v a (f ∷ []) h.asked

        by : (b : Bool) → is_on (channel_of k) f ≡ b → Asking (let z : Cycle = if b then cycle_after y.cycle (record { at = at; effect = f }) else y.cycle in record { cycle = z; calls = y.calls ++ renewals k z.channel (record { at = at; effect = f }) }) (asked_by k a (f ∷ []))
        by true e =
            let there : (cycle_at at y.cycle).stamp ≡ at = cycle_there at y.cycle h.by in
            let same : cycle_at at (cycle_after y.cycle (record { at = at; effect = f })) ≡ cycle_after y.cycle (record { at = at; effect = f }) = cycle_stays at (cycle_after y.cycle (record { at = at; effect = f })) (λ k. irreflexive at (subst (λ s. IsBefore s at) there k)) in
            let asked : AskedAs k (acted f (cycle_at at y.cycle).channel) v (asked_by k a (f ∷ [])) = subst (λ b. AskedAs k (if b then acted f (cycle_at at y.cycle).channel else (cycle_at at y.cycle).channel) v (asked_by k a (f ∷ []))) e after in
            record {
              by = λ k. irreflexive at (subst (λ s. IsBefore at s) there k);
              asked = subst (λ z. AskedAs k z.channel v (asked_by k a (f ∷ []))) (sym same) asked;
              stamp = inr there;
              told = more_calls (acted f (cycle_at at y.cycle).channel) (λ u. notes k (acted f (cycle_at at y.cycle).channel) v (asked_by k a (f ∷ [])) signal asked);
            }
        by false e =
            let bears : bears_on k f ≡ true → ⊥ = λ u. let c : true ≡ false = sym (on_channel k f signal u) ∙ e in absurd cc in
            record {
              by = h.by;
              asked = subst (λ b. AskedAs k (if b then acted f (cycle_at at y.cycle).channel else (cycle_at at y.cycle).channel) v (asked_by k a (f ∷ []))) e after;
              stamp = ⊎_elim (λ n. inl (asked_same k a f signal (is_false (bears_on k f) bears) ∙ n)) (λ n. inr n) h.stamp;
              told = more_calls y.cycle.channel (λ u. absurd (bears u));
            }
          where
            is_false : (b : Bool) → (b ≡ true → ⊥) → b ≡ false
            is_false true n = absurd (n refl)
            is_false false n = refl

  pub all_effects : (y : Notified) (a : Option Value) (fs : List Effect) → Asking y a → Asking (notified_all k at fs y) (asked_by k a fs)
  all_effects y a [] h = subst (λ o. Asking y o) (sym (none_asked k a signal)) h
  all_effects y a (f ∷ fs) h = subst (λ o. Asking (notified_all k at (f ∷ fs) y) o) (asked_on k a f fs signal) (all_effects (notified_step k y (record { at = at; effect = f })) (asked_by k a (f ∷ [])) fs (one_effect y a f h))

-- ---- in the words of the rule

pub calls_told : (at : Stamp) (e : ℕ) (k : BoundEvent) (v : Value) (fs : List Effect) → IsOfSignal k → calls_of at e k v fs ≡ notice at (told_of k v (asked_by k None fs))
calls_told at e (event.Changed c) v fs s = by (requested c None fs)
  where
    by : (a : Option Value) → changed_calls at any_value v a ≡ notice at (told_of (event.Changed c) v a)
    by None = refl
    by (Some w) = refl
calls_told at e (event.Rise c) v fs s = by (requested c None fs)
  where
    by : (a : Option Value) → changed_calls at rises v a ≡ notice at (told_of (event.Rise c) v a)
    by None = refl
    by (Some w) = refl
calls_told at e (event.Fall c) v fs s = by (requested c None fs)
  where
    by : (a : Option Value) → changed_calls at falls v a ≡ notice at (told_of (event.Fall c) v a)
    by None = refl
    by (Some w) = refl
calls_told at e event.Own v fs s = absurd s
calls_told at e (event.Written c) v fs s = absurd s
calls_told at e (event.Taken c) v fs s = absurd s

pub value_told : (k : BoundEvent) (v : Value) (fs : List Effect) → IsOfSignal k → value_of k v fs ≡ value_by k v (asked_by k None fs)
value_told (event.Changed c) v fs s = refl
value_told (event.Rise c) v fs s = refl
value_told (event.Fall c) v fs s = refl
value_told event.Own v fs s = absurd s
value_told (event.Written c) v fs s = absurd s
value_told (event.Taken c) v fs s = absurd s
