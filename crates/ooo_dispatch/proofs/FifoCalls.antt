-- The events of a fifo through the effects of one activation: each put notifies data written, and each take data read.
use Rattle.std.proofs.Common.{◌≡◌, ℕ, ◌+◌, ◌||◌, List, [], ◌∷◌, ◌++◌, Bool, true, false, if◌then◌else◌, Option, Some, None, refl, sym, ap, ◌∙◌, subst, arith, append-nil}
use Rattle.std.specs.Prelude.{⊤}
use Rattle.std.specs.List.{list_any}
use Rattle.std.proofs.lemmas.Bool.{lt-ltb}
use Rattle.ooo_time.specs.declared.time.Time.{Time}
use Rattle.ooo_time.specs.declared.stamp.Stamp.{Stamp}
use Rattle.ooo_time.specs.Stamps.{is_before}
use Rattle.ooo_value.specs.declared.bound.BoundEvent.{BoundEvent}
use Rattle.ooo_value.specs.declared.bound.BoundEvent.TheVariants as event
use Rattle.ooo_value.specs.declared.values.Value.{Value}
use Rattle.ooo_events.specs.declared.call.Call.{Call}
use Rattle.ooo_code.specs.declared.activation.Effect.{Effect}
use Rattle.ooo_code.specs.declared.activation.Effect.TheVariants as effect
use Rattle.ooo_code.specs.Channels.{Channel, IsFifo, IsSignal, updated}
use Rattle.ooo_meaning.specs.World.{next_delta, same_stamp}
use Rattle.ooo_schedules.specs.Program.{calls_of, when}
use Rattle.ooo_channels.specs.Calls.{Notified, bears_on, channel_of, notified_step, notifies, renewal}
use Rattle.ooo_channels.specs.Cycles.{Cycle, acted, cycle_after, cycle_at}
use Rattle.ooo_channels.specs.Operations.{is_on}
use Rattle.ooo_dispatch.proofs.Affected.{put_any, take_any}
use Rattle.ooo_dispatch.proofs.Asked.{some_more}
use Rattle.ooo_dispatch.proofs.Renewals.{Renewed, notice, notified_all, renewed}
use Rattle.ooo_dispatch.proofs.SignalCalls.{moved}

-- an event of a fifo
abbrev pub IsOfFifo : BoundEvent → Type 0
IsOfFifo (event.Written c) = ⊤
IsOfFifo (event.Taken c) = ⊤
IsOfFifo _ = ⊥

-- the channel is a fifo
abbrev pub IsFifoNow : Channel → Type 0
IsFifoNow (IsFifo f) = ⊤
IsFifoNow (IsSignal s) = ⊥

-- ---- one effect

on_channel : (k : BoundEvent) (f : Effect) → IsOfFifo k → bears_on k f ≡ true → is_on (channel_of k) f ≡ true
on_channel (event.Written c) (effect.Put d v) s h = h
on_channel (event.Written c) f s h = absurd cc
on_channel (event.Taken c) (effect.Take d) s h = h
on_channel (event.Taken c) f s h = absurd cc
on_channel event.Own f s h = absurd s
on_channel (event.Changed c) f s h = absurd s
on_channel (event.Rise c) f s h = absurd s
on_channel (event.Fall c) f s h = absurd s

notes : (k : BoundEvent) (f : Effect) (x : Channel) → IsOfFifo k → bears_on k f ≡ true → IsFifoNow x → notifies k (acted f x) ≡ true
notes k f (IsSignal x) s h i = absurd i
notes (event.Written c) (effect.Put d v) (IsFifo x) s h i = some_more x.written v
notes (event.Written c) f (IsFifo x) s h i = absurd cc
notes (event.Taken c) (effect.Take d) (IsFifo x) s h i = lt-ltb 0 (x.read + 1) (omega arith)
notes (event.Taken c) f (IsFifo x) s h i = absurd cc
notes event.Own f (IsFifo x) s h i = absurd s
notes (event.Changed c) f (IsFifo x) s h i = absurd s
notes (event.Rise c) f (IsFifo x) s h i = absurd s
notes (event.Fall c) f (IsFifo x) s h i = absurd s

-- it stays one
acted_fifo : (f : Effect) (x : Channel) → IsFifoNow x → IsFifoNow (acted f x)
acted_fifo f (IsSignal x) i = absurd i
acted_fifo (effect.Request c v) (IsFifo x) i = tt
acted_fifo (effect.Put c v) (IsFifo x) i = tt
acted_fifo (effect.Take c) (IsFifo x) i = tt
acted_fifo (effect.Notify e k) (IsFifo x) i = tt
acted_fifo (effect.Cancel e) (IsFifo x) i = tt
acted_fifo effect.Stop (IsFifo x) i = tt

updated_fifo : (t : Time) (x : Channel) → IsFifoNow x → IsFifoNow (updated t x)
updated_fifo t (IsSignal x) i = absurd i
updated_fifo t (IsFifo x) i = tt

reached_fifo : (at : Stamp) (x : Cycle) → IsFifoNow x.channel → IsFifoNow (cycle_at at x).channel
reached_fifo at x i = by (is_before x.stamp at)
  where
    first : IsFifoNow (updated x.stamp.time x.channel)
    first = updated_fifo x.stamp.time x.channel i

    later : (b : Bool) → IsFifoNow (if b then updated x.stamp.time x.channel else updated at.time (updated x.stamp.time x.channel))
    later true = first
    later false = updated_fifo at.time (updated x.stamp.time x.channel) first

    by : (b : Bool) → IsFifoNow (let y : Cycle = if b then moved at x else x in y.channel)
    by true = later (same_stamp at (next_delta x.stamp))
    by false = i

-- whether some effect so far notified
abbrev pub bearing : BoundEvent → Option Bool → List Effect → Option Bool
bearing k o [] = o
bearing k o (f ∷ fs) = bearing k (if bears_on k f then Some true else o) fs

module _ (k : BoundEvent) (fifo : IsOfFifo k) (at : Stamp) where
  kept_step : (y : Notified) (f : Effect) → IsFifoNow y.cycle.channel → IsFifoNow (notified_step k y (record { at = at; effect = f })).cycle.channel
  kept_step y f i = by (is_on (channel_of k) f)
    where
      by : (b : Bool) → IsFifoNow (let z : Cycle = if b then cycle_after y.cycle (record { at = at; effect = f }) else y.cycle in z.channel)
      by true = acted_fifo f (cycle_at at y.cycle).channel (reached_fifo at y.cycle i)
      by false = i

  pub fifo_kept : (y : Notified) (fs : List Effect) → IsFifoNow y.cycle.channel → IsFifoNow (notified_all k at fs y).cycle.channel
  fifo_kept y [] i = i
  fifo_kept y (f ∷ fs) i = fifo_kept (notified_step k y (record { at = at; effect = f })) fs (kept_step y f i)

  one_effect : (calls : List Call) (y : Notified) (o : Option Bool) (f : Effect) → IsFifoNow y.cycle.channel → Renewed at calls y.calls o →
      Renewed at calls (notified_step k y (record { at = at; effect = f })).calls (if bears_on k f then Some true else o)
  one_effect calls y o f i h = by (bears_on k f) refl
    where
      told : bears_on k f ≡ true → notifies k (notified_step k y (record { at = at; effect = f })).cycle.channel ≡ true
      told e =
          ap (λ b. notifies k (let z : Cycle = if b then cycle_after y.cycle (record { at = at; effect = f }) else y.cycle in z.channel)) (on_channel k f fifo e)
          ∙ notes k f (cycle_at at y.cycle).channel fifo e (reached_fifo at y.cycle i)

      by : (b : Bool) → bears_on k f ≡ b → Renewed at calls (y.calls ++ (if b then renewal at (notifies k (notified_step k y (record { at = at; effect = f })).cycle.channel) ∷ [] else [])) (if b then Some true else o)
      by true e = subst (λ b. Renewed at calls (y.calls ++ renewal at b ∷ []) (Some true)) (sym (told e)) (renewed at calls y.calls o true h)
      by false e = subst (λ cs. Renewed at calls cs o) (sym (append-nil y.calls)) h

  pub all_effects : (calls : List Call) (y : Notified) (o : Option Bool) (fs : List Effect) → IsFifoNow y.cycle.channel → Renewed at calls y.calls o → Renewed at calls (notified_all k at fs y).calls (bearing k o fs)
  all_effects calls y o [] i h = h
  all_effects calls y o (f ∷ fs) i h =
      all_effects calls (notified_step k y (record { at = at; effect = f })) (if bears_on k f then Some true else o) fs (kept_step y f i) (one_effect calls y o f i h)

-- ---- in the words of the rule

bearing_is : (k : BoundEvent) (o : Option Bool) (fs : List Effect) → bearing k o fs ≡ (if list_any (bears_on k) fs then Some true else o)
bearing_is k o [] = refl
bearing_is k o (f ∷ fs) = bearing_is k (if bears_on k f then Some true else o) fs ∙ by (bears_on k f) (list_any (bears_on k) fs)
  where
    by : (b c : Bool) → (if c then Some true else (if b then Some true else o)) ≡ (if b || c then Some true else o)
    by true true = refl
    by true false = refl
    by false c = refl

noticed : (at : Stamp) (b : Bool) → when b at ≡ notice at (if b then Some true else None)
noticed at true = refl
noticed at false = refl

pub calls_told : (at : Stamp) (e : ℕ) (k : BoundEvent) (v : Value) (fs : List Effect) → IsOfFifo k → calls_of at e k v fs ≡ notice at (bearing k None fs)
calls_told at e (event.Written c) v fs s = ap (λ b. when b at) (put_any c fs) ∙ noticed at (list_any (bears_on (event.Written c)) fs) ∙ ap (notice at) (sym (bearing_is (event.Written c) None fs))
calls_told at e (event.Taken c) v fs s = ap (λ b. when b at) (take_any c fs) ∙ noticed at (list_any (bears_on (event.Taken c)) fs) ∙ ap (notice at) (sym (bearing_is (event.Taken c) None fs))
calls_told at e event.Own v fs s = absurd s
calls_told at e (event.Changed c) v fs s = absurd s
calls_told at e (event.Rise c) v fs s = absurd s
calls_told at e (event.Fall c) v fs s = absurd s
