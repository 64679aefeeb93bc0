-- What a bank answers of an event.
use Rattle.std.proofs.Common.{◌≡◌, ◌≢◌, ℕ, ◌<◌, List, Option, Some, refl, ap, sym, subst, ◌∙◌, arith, length, get_or}
use Rattle.std.specs.Prelude.{slice_get}
use Rattle.std.proofs.lemmas.Option.{slice_get-get_or, slice_get_within, get_or_from_slice_get}
use Rattle.ooo_time.specs.declared.stamp.Stamp.{Stamp}
use Rattle.ooo_time.specs.Stamps.{IsBefore}
use Rattle.ooo_value.specs.declared.bound.BoundEvent.{BoundEvent}
use Rattle.ooo_value.specs.declared.bound.BoundEvent.TheVariants as event
use Rattle.ooo_value.specs.declared.bound.ChannelKind.TheVariants as kind
use Rattle.ooo_events.specs.declared.call.Call.{Call}
use Rattle.ooo_events.specs.Events.{EventState, IsEventAfter, Remembers}
use Rattle.ooo_events.specs.Firings.{Fires, IsFirstAfter}
use Rattle.ooo_channels.specs.declared.channel.ChannelState.{ChannelState}
use Rattle.ooo_channels.specs.declared.channel.ChannelState.TheVariants as state
use Rattle.ooo_channels.specs.Operations.{Operations}
use Rattle.ooo_channels.specs.Calls.{calls_of, calls_by, channel_calls, own_calls, channel_of, FiresAt}
use Rattle.ooo_channels.specs.Conditions.{HasEventAt, FitsChannels}
use Rattle.ooo_channels.specs.Kept.{HasKind, HasEvent, Keeps, IsEventKept, IsSignalEvent, IsFifoEvent}
use Rattle.ooo_channels.specs.Bank.{BankState, IsBankAfter, IsKeptIn}
use Rattle.ooo_channels.proofs.Banked.{channel_there, channel_kind}
use Rattle.ooo_channels.proofs.Keeping.{first_kept}

signal_has : (k : BoundEvent) (s : ChannelState) → IsSignalEvent k → HasKind kind.Signal s → HasEvent k s
signal_has k (state.Signal s) is h = is
signal_has k (state.Fifo s) is h = absurd h

fifo_has : (k : BoundEvent) (s : ChannelState) → IsFifoEvent k → HasKind kind.Fifo s → HasEvent k s
fifo_has k (state.Signal s) is h = absurd h
fifo_has k (state.Fifo s) is h = is

-- the calls on an event of a channel
pub calls_by-channel : (ops : Operations) (e : ℕ) (k : BoundEvent) → k ≢ event.Own → calls_by ops e k ≡ channel_calls ops k
calls_by-channel ops e event.Own ne = absurd (ne refl)
calls_by-channel ops e (event.Changed c) ne = refl
calls_by-channel ops e (event.Rise c) ne = refl
calls_by-channel ops e (event.Fall c) ne = refl
calls_by-channel ops e (event.Written c) ne = refl
calls_by-channel ops e (event.Taken c) ne = refl

pub calls_of-kind : (ops : Operations) (e : ℕ) (k : BoundEvent) → slice_get ops.events e ≡ Some k → calls_of ops e ≡ calls_by ops e k
calls_of-kind ops e k is = rw (is, calls_of) refl

module _ (xs : List ChannelState) (kinds : List BoundEvent) (es : List EventState) (below : Stamp) where
  abbrev bank : BankState
  bank = record { channels = xs; kinds = kinds; events = es; below = below }

  -- the kind of an event that is there
  kind_is : (ops : Operations) (e : ℕ) (k : BoundEvent) → IsBankAfter bank ops → e < length kinds → k ≡ get_or kinds e k → slice_get ops.events e ≡ Some k
  kind_is ops e k h lt is = ap (λ ks. slice_get ks e) (sym h.kinds) ∙ slice_get-get_or kinds e k lt ∙ ap Some (sym is)

  pub kind_there : (ops : Operations) (e : ℕ) → IsBankAfter bank ops → HasEventAt ops e → e < length kinds
  kind_there ops e h has = omega (arith, slice_get_within ops.events e has.kind has.is, ap length h.kinds)

  fits : (ops : Operations) (e : ℕ) (k : BoundEvent) → IsBankAfter bank ops → HasEventAt ops e → k ≡ get_or kinds e k → FitsChannels ops k
  fits ops e k h has is =
      let same : has.kind ≡ k = let a = kind_is ops e k h (kind_there ops e h has) is in cc (has.is, a) in
      subst (FitsChannels ops) same has.fits

  -- its channel is there, and has such an event
  there : (ops : Operations) (k : BoundEvent) (c : ℕ) → IsBankAfter bank ops → FitsChannels ops k → c ≡ channel_of k → k ≢ event.Own → c < length xs
  there ops event.Own c h f is ne = absurd (ne refl)
  there ops (event.Changed d) c h f is ne = subst (λ n. n < length xs) (sym is) (channel_there xs kinds es below ops d kind.Signal h f)
  there ops (event.Rise d) c h f is ne = subst (λ n. n < length xs) (sym is) (channel_there xs kinds es below ops d kind.Signal h f)
  there ops (event.Fall d) c h f is ne = subst (λ n. n < length xs) (sym is) (channel_there xs kinds es below ops d kind.Signal h f)
  there ops (event.Written d) c h f is ne = subst (λ n. n < length xs) (sym is) (channel_there xs kinds es below ops d kind.Fifo h f)
  there ops (event.Taken d) c h f is ne = subst (λ n. n < length xs) (sym is) (channel_there xs kinds es below ops d kind.Fifo h f)

  pub event_channel_there : (ops : Operations) (e : ℕ) (k : BoundEvent) (c : ℕ) → IsBankAfter bank ops → HasEventAt ops e → k ≡ get_or kinds e k → c ≡ channel_of k → k ≢ event.Own → c < length xs
  event_channel_there ops e k c h has is at ne = there ops k c h (fits ops e k h has is) at ne

  has_event : (ops : Operations) (k : BoundEvent) (c : ℕ) (s : ChannelState) → IsBankAfter bank ops → FitsChannels ops k → c ≡ channel_of k → k ≢ event.Own → s ≡ get_or xs c s → HasEvent k s
  has_event ops event.Own c s h f is ne at = absurd (ne refl)
  has_event ops (event.Changed d) c s h f is ne at = signal_has (event.Changed d) s tt (channel_kind xs kinds es below ops d kind.Signal s h f (subst (λ n. s ≡ get_or xs n s) is at))
  has_event ops (event.Rise d) c s h f is ne at = signal_has (event.Rise d) s tt (channel_kind xs kinds es below ops d kind.Signal s h f (subst (λ n. s ≡ get_or xs n s) is at))
  has_event ops (event.Fall d) c s h f is ne at = signal_has (event.Fall d) s tt (channel_kind xs kinds es below ops d kind.Signal s h f (subst (λ n. s ≡ get_or xs n s) is at))
  has_event ops (event.Written d) c s h f is ne at = fifo_has (event.Written d) s tt (channel_kind xs kinds es below ops d kind.Fifo s h f (subst (λ n. s ≡ get_or xs n s) is at))
  has_event ops (event.Taken d) c s h f is ne at = fifo_has (event.Taken d) s tt (channel_kind xs kinds es below ops d kind.Fifo s h f (subst (λ n. s ≡ get_or xs n s) is at))

  pub event_has : (ops : Operations) (e : ℕ) (k : BoundEvent) (c : ℕ) (s : ChannelState) → IsBankAfter bank ops → HasEventAt ops e → k ≡ get_or kinds e k → c ≡ channel_of k → k ≢ event.Own → s ≡ get_or xs c s → HasEvent k s
  event_has ops e k c s h has is at ne here = has_event ops k c s h (fits ops e k h has is) at ne here

  -- its channel keeps it
  pub event_kept : (ops : Operations) (e : ℕ) (k : BoundEvent) (c : ℕ) (s : ChannelState) → IsBankAfter bank ops → HasEventAt ops e → k ≡ get_or kinds e k → c ≡ channel_of k → k ≢ event.Own → s ≡ get_or xs c s → Keeps k s
  event_kept ops e k c s h has is at ne here = subst (Keeps k) (sym here) (subst (λ n. Keeps k (get_or xs n s)) (sym at) (kept s within)) where
    mine : slice_get ops.events e ≡ Some k
    mine = kind_is ops e k h (kind_there ops e h has) is

    kept : IsKeptIn xs k
    kept = subst (IsKeptIn xs) (get_or_from_slice_get ops.events e k k mine) (h.present e k (slice_get_within ops.events e k mine))

    within : channel_of k < length xs
    within = subst (λ n. n < length xs) at (event_channel_there ops e k c h has is at ne)

  -- an event of a channel
  pub first_of_channel :
      (ops : Operations) (e : ℕ) (k : BoundEvent) (since : Stamp) (first : Option Stamp) → IsBankAfter bank ops → e < length kinds → k ≡ get_or kinds e k → k ≢ event.Own →
      IsFirstAfter (Fires (channel_calls ops k)) since first → IsFirstAfter (FiresAt ops e) since first
  first_of_channel ops e k since first h lt is ne answer =
      subst (λ cs. IsFirstAfter (Fires cs) since first) (sym (calls_of-kind ops e k (kind_is ops e k h lt is) ∙ calls_by-channel ops e k ne)) answer

  -- an event of the model's own
  pub first_of_own :
      (ops : Operations) (e : ℕ) (k : BoundEvent) (x : EventState) (since : Stamp) (first : Option Stamp) → IsBankAfter bank ops → e < length kinds → k ≡ get_or kinds e k → k ≡ event.Own →
      x ≡ get_or es e x → ¬ IsBefore since ops.below → ((cs : List Call) → IsEventAfter x cs → Remembers x since → IsFirstAfter (Fires cs) since first) → IsFirstAfter (FiresAt ops e) since first
  first_of_own ops e k x since first h lt is own at later answers =
      let mine : slice_get ops.events e ≡ Some event.Own = kind_is ops e k h lt is ∙ ap Some own in
      subst (λ cs. IsFirstAfter (Fires cs) since first) (sym (calls_of-kind ops e event.Own mine))
      (first_kept ops.below x (own_calls ops e) since first (subst (λ y. IsEventKept ops.below y (own_calls ops e)) (sym at) (h.events e x mine)) later answers)
