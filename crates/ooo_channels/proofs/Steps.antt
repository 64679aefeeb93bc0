-- One more effect: what it changes in the operations.
use Rattle.std.proofs.Common.{◌≡◌, ℕ, ◌++◌, true, false, List, [], ◌∷◌, refl, ap, sym, subst, ◌∙◌, append-nil}
use Rattle.std.specs.Prelude.{fold}
use Rattle.std.specs.List.{flat_map}
use Rattle.std.proofs.lemmas.Grind.{flat_map-append}
use Rattle.std.proofs.lemmas.List.Sums.{fold-append}
use Rattle.ooo_time.specs.declared.stamp.Stamp.{Stamp}
use Rattle.ooo_value.specs.declared.bound.BoundEvent.{BoundEvent}
use Rattle.ooo_value.specs.declared.bound.BoundEvent.TheVariants as event
use Rattle.ooo_events.specs.declared.call.Call.{Call}
use Rattle.ooo_code.specs.declared.activation.Effect.{Effect}
use Rattle.ooo_code.specs.declared.activation.Effect.TheVariants as effect
use Rattle.ooo_channels.specs.declared.channel.ChannelState.{ChannelState}
use Rattle.ooo_channels.specs.declared.channel.ChannelState.TheVariants as state
use Rattle.ooo_channels.specs.Operations.{Operation, Operations, after_effect, is_on}
use Rattle.ooo_channels.specs.Cycles.{Cycle, cycle_of, cycle_after, cycle_step}
use Rattle.ooo_channels.specs.Calls.{Notified, notified_by, notified_step, own_calls, own_call, channel_calls, channel_of, bears_on, renewals}
use Rattle.ooo_channels.specs.Kept.{IsChannelAfter, IsNotice}

-- the operation that an effect is
abbrev pub operation : Stamp → Effect → Operation
operation at f = record { at = at; effect = f }

module _ (ops : Operations) (at : Stamp) (f : Effect) where
  pub cycle_of-after : (c : ℕ) → cycle_of (after_effect at ops f) c ≡ cycle_step c (cycle_of ops c) (operation at f)
  unfolding cycle_of
  cycle_of-after c = fold-append (cycle_step c) _ ops.applied (operation at f ∷ [])

  pub own_calls-after : (e : ℕ) → own_calls (after_effect at ops f) e ≡ own_calls ops e ++ own_call e (operation at f)
  unfolding own_calls
  own_calls-after e = flat_map-append (own_call e) ops.applied (operation at f ∷ []) ∙ ap (λ cs. flat_map (own_call e) ops.applied ++ cs) (append-nil (own_call e (operation at f)))

  notified_by-after : (k : BoundEvent) → notified_by (after_effect at ops f) k ≡ notified_step k (notified_by ops k) (operation at f)
  unfolding notified_by
  notified_by-after k = fold-append (notified_step k) _ ops.applied (operation at f ∷ [])

-- a channel with one of its events goes on as the channel alone
notified_cycle : (k : BoundEvent) (x : Notified) (os : List Operation) → (fold (notified_step k) x os).cycle ≡ fold (cycle_step (channel_of k)) x.cycle os
notified_cycle k x [] = refl
notified_cycle k x (o ∷ os) = notified_cycle k (notified_step k x o) os

pub cycle-notified_by : (ops : Operations) (k : BoundEvent) → (notified_by ops k).cycle ≡ cycle_of ops (channel_of k)
unfolding notified_by cycle_of
cycle-notified_by ops k = notified_cycle k _ ops.applied

pub channel_calls-after :
    (ops : Operations) (at : Stamp) (f : Effect) (k : BoundEvent) →
    channel_calls (after_effect at ops f) k ≡ channel_calls ops k ++ renewals k (cycle_of (after_effect at ops f) (channel_of k)).channel (operation at f)
channel_calls-after ops at f k =
    ap (λ x. x.calls) (notified_by-after ops at f k)
    ∙ ap (λ y. channel_calls ops k ++ renewals k y.channel (operation at f))
    (ap (λ y. cycle_step (channel_of k) y (operation at f)) (cycle-notified_by ops k) ∙ sym (cycle_of-after ops at f (channel_of k)))

-- an effect that isn't on an event's channel doesn't bear on the event
pub bears_not : (k : BoundEvent) (f : Effect) → is_on (channel_of k) f ≡ false → bears_on k f ≡ false
bears_not event.Own f e = refl
bears_not (event.Changed c) (effect.Request d v) e = e
bears_not (event.Changed c) (effect.Put d v) e = refl
bears_not (event.Changed c) (effect.Take d) e = refl
bears_not (event.Changed c) (effect.Notify d t) e = refl
bears_not (event.Changed c) (effect.Cancel d) e = refl
bears_not (event.Changed c) effect.Stop e = refl
bears_not (event.Rise c) (effect.Request d v) e = e
bears_not (event.Rise c) (effect.Put d v) e = refl
bears_not (event.Rise c) (effect.Take d) e = refl
bears_not (event.Rise c) (effect.Notify d t) e = refl
bears_not (event.Rise c) (effect.Cancel d) e = refl
bears_not (event.Rise c) effect.Stop e = refl
bears_not (event.Fall c) (effect.Request d v) e = e
bears_not (event.Fall c) (effect.Put d v) e = refl
bears_not (event.Fall c) (effect.Take d) e = refl
bears_not (event.Fall c) (effect.Notify d t) e = refl
bears_not (event.Fall c) (effect.Cancel d) e = refl
bears_not (event.Fall c) effect.Stop e = refl
bears_not (event.Written c) (effect.Request d v) e = refl
bears_not (event.Written c) (effect.Put d v) e = e
bears_not (event.Written c) (effect.Take d) e = refl
bears_not (event.Written c) (effect.Notify d t) e = refl
bears_not (event.Written c) (effect.Cancel d) e = refl
bears_not (event.Written c) effect.Stop e = refl
bears_not (event.Taken c) (effect.Request d v) e = refl
bears_not (event.Taken c) (effect.Put d v) e = refl
bears_not (event.Taken c) (effect.Take d) e = e
bears_not (event.Taken c) (effect.Notify d t) e = refl
bears_not (event.Taken c) (effect.Cancel d) e = refl
bears_not (event.Taken c) effect.Stop e = refl

-- where an effect isn't on a channel, the channel and the calls on its events are as before
pub cycle_of-other : (ops : Operations) (at : Stamp) (f : Effect) (c : ℕ) → is_on c f ≡ false → cycle_of (after_effect at ops f) c ≡ cycle_of ops c
cycle_of-other ops at f c not = cycle_of-after ops at f c ∙ rw not refl

pub channel_calls-other :
    (ops : Operations) (at : Stamp) (f : Effect) (k : BoundEvent) → is_on (channel_of k) f ≡ false →
    channel_calls (after_effect at ops f) k ≡ channel_calls ops k
channel_calls-other ops at f k not =
    channel_calls-after ops at f k ∙ rw (bears_not k f not) (append-nil (channel_calls ops k))

pub cycle_of-on : (ops : Operations) (at : Stamp) (f : Effect) (c : ℕ) → is_on c f ≡ true → cycle_of (after_effect at ops f) c ≡ cycle_after (cycle_of ops c) (operation at f)
cycle_of-on ops at f c on = cycle_of-after ops at f c ∙ rw on refl

-- a channel with other calls that are the same
pub IsChannelAfter-calls :
    (c : ℕ) (below : Stamp) (x : Cycle) (calls more : BoundEvent → List Call) (s : ChannelState) → ((k : BoundEvent) → channel_of k ≡ c → calls k ≡ more k) →
    IsChannelAfter c below x calls s → IsChannelAfter c below x more s
IsChannelAfter-calls c below x calls more (state.Signal s) same h = record {
  cycle = h.cycle;
  changes = subst (IsNotice below x.stamp s.changes) (same (event.Changed c) refl) h.changes;
  rises = subst (IsNotice below x.stamp s.rises) (same (event.Rise c) refl) h.rises;
  falls = subst (IsNotice below x.stamp s.falls) (same (event.Fall c) refl) h.falls;
  room = h.room;
}
IsChannelAfter-calls c below x calls more (state.Fifo s) same h = record {
  cycle = h.cycle;
  puts = subst (IsNotice below x.stamp s.puts) (same (event.Written c) refl) h.puts;
  takes = subst (IsNotice below x.stamp s.takes) (same (event.Taken c) refl) h.takes;
  room = h.room;
}
