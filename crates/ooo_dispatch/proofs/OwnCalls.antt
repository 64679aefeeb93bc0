-- The calls that an activation makes on an event of the model's own.
use Rattle.std.proofs.Common.{◌≡◌, ℕ, ◌==◌, List, [], ◌∷◌, ◌++◌, Bool, true, false, if◌then◌else◌, refl, sym, ap, ◌∙◌, subst, append-nil}
use Rattle.std.specs.List.{flat_map, list_any}
use Rattle.std.proofs.lemmas.Grind.{flat_map-append}
use Rattle.ooo_time.specs.declared.time.Time.{Time}
use Rattle.ooo_time.specs.declared.stamp.Stamp.{Stamp}
use Rattle.ooo_time.specs.Stamps.{is_before, stamp_after}
use Rattle.ooo_value.specs.declared.bound.BoundChannel.{BoundChannel}
use Rattle.ooo_value.specs.declared.bound.BoundEvent.{BoundEvent}
use Rattle.ooo_events.specs.declared.call.Call.TheVariants as call
use Rattle.ooo_code.specs.declared.activation.Effect.{Effect}
use Rattle.ooo_code.specs.declared.activation.Effect.TheVariants as effect
use Rattle.ooo_schedules.specs.Program as rule
use Rattle.ooo_schedules.specs.Slots as slots
use Rattle.ooo_schedules.specs.Slots.{Event, call_at, calls_at}
use Rattle.ooo_channels.specs.Calls.{own_call, own_calls}
use Rattle.ooo_channels.specs.Operations.{Operations, after_effect, after_effects, is_call_on, no_operations}
use Rattle.ooo_dispatch.proofs.Affected.{none_after, none_first}
use Rattle.ooo_dispatch.proofs.Asked.{swap}
use Rattle.ooo_dispatch.proofs.Fired.{TellsAs, cancelled, notified}

mapped_append : {A B : Type 0} (f : A → List B) (xs : List A) (y : A) → flat_map f (xs ++ y ∷ []) ≡ flat_map f xs ++ f y
mapped_append f xs y = flat_map-append f xs (y ∷ []) ∙ ap (λ zs. flat_map f xs ++ zs) (append-nil (f y))

one_more : (ops : Operations) (e : ℕ) (at : Stamp) (f : Effect) → own_calls (after_effect at ops f) e ≡ own_calls ops e ++ own_call e (record { at = at; effect = f })
unfolding own_calls
one_more ops e at f = mapped_append (own_call e) ops.applied (record { at = at; effect = f })

no_own_call : (e : ℕ) (at : Stamp) (f : Effect) → is_call_on e f ≡ false → own_call e (record { at = at; effect = f }) ≡ []
no_own_call e at (effect.Notify d k) h = ap (λ b. if b then call.Notify at k ∷ [] else []) h
no_own_call e at (effect.Cancel d) h = ap (λ b. if b then call.Cancel at ∷ [] else []) h
no_own_call e at (effect.Request c v) h = refl
no_own_call e at (effect.Put c v) h = refl
no_own_call e at (effect.Take c) h = refl
no_own_call e at effect.Stop h = refl

-- effects that call another event, or none, leave the calls as they were
pub own_unheard : (e : ℕ) (at : Stamp) (ops : Operations) (fs : List Effect) → list_any (is_call_on e) fs ≡ false → own_calls (after_effects at ops fs) e ≡ own_calls ops e
own_unheard e at ops [] h = refl
own_unheard e at ops (f ∷ fs) h =
    own_unheard e at (after_effect at ops f) fs (none_after (is_call_on e) f fs h)
    ∙ one_more ops e at f
    ∙ ap (λ ds. own_calls ops e ++ ds) (no_own_call e at f (none_first (is_call_on e) f fs h))
    ∙ append-nil (own_calls ops e)

module _ (e : ℕ) (at : Stamp) (v : Event Stamp) where
  -- the event after the calls so far
  abbrev After : Operations → List (slots.Call Stamp) → Type 0
  After ops cs = TellsAs at (own_calls ops e) (calls_at Stamp is_before at cs v)

  none : (ops : Operations) (cs : List (slots.Call Stamp)) (f : Effect) → own_call e (record { at = at; effect = f }) ≡ [] → After ops cs → After (after_effect at ops f) cs
  none ops cs f i h = subst (λ ds. TellsAs at ds (calls_at Stamp is_before at cs v)) (sym (one_more ops e at f ∙ ap (λ ds. own_calls ops e ++ ds) i ∙ append-nil (own_calls ops e))) h

  notify : (ops : Operations) (cs : List (slots.Call Stamp)) (d : ℕ) (k : Time) → After ops cs → After (after_effect at ops (effect.Notify d k)) (if d == e then slots.Notify (stamp_after at k) ∷ cs else cs)
  notify ops cs d k h = subst (λ ds. TellsAs at ds (calls_at Stamp is_before at (if d == e then slots.Notify (stamp_after at k) ∷ cs else cs) v)) (sym (one_more ops e at (effect.Notify d k))) (by (e == d) (swap d e))
    where
      by : (b : Bool) → (d == e) ≡ b → TellsAs at (own_calls ops e ++ (if b then call.Notify at k ∷ [] else [])) (calls_at Stamp is_before at (if d == e then slots.Notify (stamp_after at k) ∷ cs else cs) v)
      by true i = subst (λ b. TellsAs at (own_calls ops e ++ call.Notify at k ∷ []) (calls_at Stamp is_before at (if b then slots.Notify (stamp_after at k) ∷ cs else cs) v)) (sym i) (notified at (own_calls ops e) (calls_at Stamp is_before at cs v) h k)
      by false i = subst (λ b. TellsAs at (own_calls ops e ++ []) (calls_at Stamp is_before at (if b then slots.Notify (stamp_after at k) ∷ cs else cs) v)) (sym i) (subst (λ ds. TellsAs at ds (calls_at Stamp is_before at cs v)) (sym (append-nil (own_calls ops e))) h)

  cancel : (ops : Operations) (cs : List (slots.Call Stamp)) (d : ℕ) → After ops cs → After (after_effect at ops (effect.Cancel d)) (if d == e then slots.Cancel ∷ cs else cs)
  cancel ops cs d h = subst (λ ds. TellsAs at ds (calls_at Stamp is_before at (if d == e then slots.Cancel ∷ cs else cs) v)) (sym (one_more ops e at (effect.Cancel d))) (by (e == d) (swap d e))
    where
      by : (b : Bool) → (d == e) ≡ b → TellsAs at (own_calls ops e ++ (if b then call.Cancel at ∷ [] else [])) (calls_at Stamp is_before at (if d == e then slots.Cancel ∷ cs else cs) v)
      by true i = subst (λ b. TellsAs at (own_calls ops e ++ call.Cancel at ∷ []) (calls_at Stamp is_before at (if b then slots.Cancel ∷ cs else cs) v)) (sym i) (cancelled at (own_calls ops e) (calls_at Stamp is_before at cs v) h)
      by false i = subst (λ b. TellsAs at (own_calls ops e ++ []) (calls_at Stamp is_before at (if b then slots.Cancel ∷ cs else cs) v)) (sym i) (subst (λ ds. TellsAs at ds (calls_at Stamp is_before at cs v)) (sym (append-nil (own_calls ops e))) h)

  -- an activation's effects, in their order
  pub own_effects : (ops : Operations) (cs : List (slots.Call Stamp)) (fs : List Effect) → After ops cs → After (after_effects at ops fs) (rule.own_calls at e cs fs)
  own_effects ops cs [] h = h
  own_effects ops cs (effect.Notify d k ∷ fs) h = own_effects (after_effect at ops (effect.Notify d k)) (if d == e then slots.Notify (stamp_after at k) ∷ cs else cs) fs (notify ops cs d k h)
  own_effects ops cs (effect.Cancel d ∷ fs) h = own_effects (after_effect at ops (effect.Cancel d)) (if d == e then slots.Cancel ∷ cs else cs) fs (cancel ops cs d h)
  own_effects ops cs (effect.Request c x ∷ fs) h = own_effects (after_effect at ops (effect.Request c x)) cs fs (none ops cs (effect.Request c x) refl h)
  own_effects ops cs (effect.Put c x ∷ fs) h = own_effects (after_effect at ops (effect.Put c x)) cs fs (none ops cs (effect.Put c x) refl h)
  own_effects ops cs (effect.Take c ∷ fs) h = own_effects (after_effect at ops (effect.Take c)) cs fs (none ops cs (effect.Take c) refl h)
  own_effects ops cs (effect.Stop ∷ fs) h = own_effects (after_effect at ops effect.Stop) cs fs (none ops cs effect.Stop refl h)

pub no_calls : (channels : List BoundChannel) (events : List BoundEvent) (e : ℕ) → own_calls (no_operations channels events) e ≡ []
unfolding own_calls
no_calls channels events e = refl
