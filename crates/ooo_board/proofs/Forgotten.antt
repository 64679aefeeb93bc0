-- Operations of which what was before a stamp is forgotten tell the same as all of them, but for that.
use Rattle.std.proofs.Common.{◌≡◌, ℕ, suc, List, [], ◌∷◌, ◌++◌, Option, Some, None, refl, ap, ◌∙◌, subst}
use Rattle.std.specs.Prelude.{All, slice_get}
use Rattle.ooo_time.specs.declared.stamp.Stamp.{Stamp}
use Rattle.ooo_value.specs.declared.bound.BoundChannel.{BoundChannel}
use Rattle.ooo_value.specs.declared.bound.BoundEvent.{BoundEvent}
use Rattle.ooo_value.specs.declared.bound.BoundEvent.TheVariants as event
use Rattle.ooo_value.specs.declared.bound.ChannelKind.{ChannelKind}
use Rattle.ooo_value.specs.declared.bound.ChannelKind.TheVariants as kind
use Rattle.ooo_code.specs.declared.activation.Effect.{Effect}
use Rattle.ooo_code.specs.declared.activation.Effect.TheVariants as effect
use Rattle.ooo_events.specs.declared.call.Call.{Call}
use Rattle.ooo_events.specs.Firings.{Fires, IsFirstAfter}
use Rattle.ooo_access.specs.declared.access.Access.{Access}
use Rattle.ooo_channels.specs.Calls.{FiresAt, calls_by, calls_of, own_calls, notified_by}
use Rattle.ooo_channels.specs.Conditions.{FindsPlace, FitsChannels, HasChannel, HasEventAt, IsInOrder, MayApply, MayApplyAll, Names}
use Rattle.ooo_channels.specs.Cycles.{cycle_of}
use Rattle.ooo_channels.specs.Operations.{Operations, after_effect, after_effects}
use Rattle.ooo_dispatch.specs.Banks.{channel_shown, sights_by}
use Rattle.ooo_dispatch.specs.ReadOff.{history_by}
use Rattle.ooo_dispatch.specs.Rules.{sight_of}
use Rattle.ooo_board.specs.Forgetting.{forgetting}

module _ (below : Stamp) where
  -- ---- one of the operations

  module _ (ops : Operations) where
    has_channel : (c : ℕ) (k : ChannelKind) → HasChannel ops c k → HasChannel (forgetting below ops) c k
    has_channel c k h = record { channel = h.channel; is = h.is; kind = h.kind }

    names : (f : Effect) → Names ops f → Names (forgetting below ops) f
    names (effect.Request c v) h = has_channel c kind.Signal h
    names (effect.Put c v) h = has_channel c kind.Fifo h
    names (effect.Take c) h = has_channel c kind.Fifo h
    names (effect.Notify e k) h = h
    names (effect.Cancel e) h = h
    names effect.Stop h = h

    pub all_named : (fs : List Effect) → All (Names ops) fs → All (Names (forgetting below ops)) fs
    all_named fs h k d lt = names _ (h k d lt)

    in_order : (at : Stamp) (f : Effect) → IsInOrder ops at f → IsInOrder (forgetting below ops) at f
    unfolding cycle_of own_calls
    in_order at (effect.Request c v) h = h
    in_order at (effect.Put c v) h = h
    in_order at (effect.Take c) h = h
    in_order at (effect.Notify e k) h = h
    in_order at (effect.Cancel e) h = h
    in_order at effect.Stop h = h

    place : (at : Stamp) (f : Effect) → FindsPlace ops at f → FindsPlace (forgetting below ops) at f
    unfolding cycle_of
    place at (effect.Request c v) h = h
    place at (effect.Put c v) h = h
    place at (effect.Take c) h = h
    place at (effect.Notify e k) h = h
    place at (effect.Cancel e) h = h
    place at effect.Stop h = h

    may_apply : (at : Stamp) (f : Effect) → MayApply ops at f → MayApply (forgetting below ops) at f
    may_apply at f h = record { names = names f h.names; in_order = in_order at f h.in_order; place = place at f h.place }

    -- ---- events

    fits : (k : BoundEvent) → FitsChannels ops k → FitsChannels (forgetting below ops) k
    fits event.Own h = h
    fits (event.Changed c) h = has_channel c kind.Signal h
    fits (event.Rise c) h = has_channel c kind.Signal h
    fits (event.Fall c) h = has_channel c kind.Signal h
    fits (event.Written c) h = has_channel c kind.Fifo h
    fits (event.Taken c) h = has_channel c kind.Fifo h

    pub has_event : (e : ℕ) → HasEventAt ops e → HasEventAt (forgetting below ops) e
    has_event e h = record { kind = h.kind; is = h.is; fits = fits h.kind h.fits }

    same_by : (e : ℕ) (k : BoundEvent) → calls_by (forgetting below ops) e k ≡ calls_by ops e k
    unfolding own_calls notified_by
    same_by e event.Own = refl
    same_by e (event.Changed c) = refl
    same_by e (event.Rise c) = refl
    same_by e (event.Fall c) = refl
    same_by e (event.Written c) = refl
    same_by e (event.Taken c) = refl

    same_calls : (e : ℕ) → calls_of (forgetting below ops) e ≡ calls_of ops e
    same_calls e = at (slice_get ops.events e)
      where
        at : (o : Option BoundEvent) → elim o as (λ o. List Call) [ None ↦ [] | Some k ↦ calls_by (forgetting below ops) e k ] ≡ elim o as (λ o. List Call) [ None ↦ [] | Some k ↦ calls_by ops e k ]
        at None = refl
        at (Some k) = same_by e k

    pub first_same : (e : ℕ) (s : Stamp) (t : Option Stamp) → IsFirstAfter (FiresAt (forgetting below ops) e) s t → IsFirstAfter (FiresAt ops e) s t
    first_same e s t h = subst (λ (calls : List Call). IsFirstAfter (Fires calls) s t) (same_calls e) h

    -- ---- channels

    pub shown_same : (s : Stamp) (c : ℕ) (k : ChannelKind) → channel_shown s (forgetting below ops) c k ≡ channel_shown s ops c k
    unfolding cycle_of
    shown_same s c kind.Signal = refl
    shown_same s c kind.Fifo = refl

    pub sights_same : (a : Access) (s : Stamp) (c : ℕ) (xs : List BoundChannel) → sights_by a s (forgetting below ops) c xs ≡ sights_by a s ops c xs
    sights_same a s c [] = refl
    sights_same a s c (x ∷ xs) =
        ap (λ v. sight_of a s.time c v ++ sights_by a s (forgetting below ops) (suc c) xs) (shown_same s c x.kind)
        ∙ ap (λ rest. sight_of a s.time c (channel_shown s ops c x.kind) ++ rest) (sights_same a s (suc c) xs)

    pub history_same : (before : Option Stamp) (c : ℕ) → history_by (forgetting below ops) before c ≡ history_by ops before c
    unfolding cycle_of
    history_same None c = refl
    history_same (Some s) c = refl

  -- ---- more operations

  pub effects_same : (at : Stamp) (fs : List Effect) (ops : Operations) → after_effects at (forgetting below ops) fs ≡ forgetting below (after_effects at ops fs)
  effects_same at [] ops = refl
  effects_same at (f ∷ fs) ops = effects_same at fs (after_effect at ops f)

  pub may_apply_all : (at : Stamp) (fs : List Effect) (ops : Operations) → MayApplyAll ops at fs → MayApplyAll (forgetting below ops) at fs
  may_apply_all at [] ops h = h
  may_apply_all at (f ∷ fs) ops h = (may_apply ops at f h.0, may_apply_all at fs (after_effect at ops f) h.1)
