-- The calls on an event of a channel that the operations of one activation make: each makes anew what the cycle's update notifies.
use Rattle.std.proofs.Common.{◌≡◌, ◌⊎◌, inl, inr, ⊎_elim, List, [], ◌∷◌, ◌++◌, Bool, true, false, if◌then◌else◌, Option, Some, None, refl, sym, ap, ◌∙◌, subst, append-nil, append_assoc}
use Rattle.std.specs.List.{list_any}
use Rattle.std.specs.Prelude.{fold}
use Rattle.std.proofs.lemmas.List.Sums.{fold-append}
use Rattle.ooo_time.specs.declared.stamp.Stamp.{Stamp}
use Rattle.ooo_time.specs.Stamps.{IsBefore, is_before}
use Rattle.ooo_value.specs.declared.bound.BoundEvent.{BoundEvent}
use Rattle.ooo_events.specs.declared.call.Call.{Call}
use Rattle.ooo_events.specs.Events.{pending_at}
use Rattle.ooo_events.specs.Firings.{slot_after, slot_after_call}
use Rattle.ooo_events.specs.Slots.{Slot, Nothing, NextDelta, AtTime, due_of, slot_after_delta, slot_left_at}
use Rattle.ooo_code.specs.declared.activation.Effect.{Effect}
use Rattle.ooo_meaning.specs.World.{next_delta}
use Rattle.ooo_schedules.specs.Model.{In}
use Rattle.ooo_schedules.specs.Program.{when}
use Rattle.ooo_schedules.specs.Slots as slots
use Rattle.ooo_schedules.specs.Slots.{Event, Notify, calls_at, call_at, settled}
use Rattle.ooo_channels.specs.Calls.{Notified, bears_on, channel_of, notified_by, notified_step, notifies, renewal}
use Rattle.ooo_channels.specs.Operations.{Operations, after_effect, after_effects, is_on}
use Rattle.ooo_channels.specs.Cycles.{cycle_after}
use Rattle.ooo_channels.specs.Agreement.{IsAhead}
use Rattle.ooo_dispatch.proofs.Affected.{none_after, none_first}
use Rattle.ooo_dispatch.proofs.Fired.{AreAt, Goes, IsBy, IsMadeBy, Settles, TellsAs, ahead_made, gone, left_none, made_ahead, settles}
use Rattle.ooo_dispatch.proofs.Stamps.{after_later, before_no, irreflexive}

-- ---- an activation's effects, one after the other

abbrev pub notified_all : BoundEvent → Stamp → List Effect → Notified → Notified
notified_all k at fs x = fold (λ y f. notified_step k y (record { at = at; effect = f })) x fs

one_more : (ops : Operations) (k : BoundEvent) (at : Stamp) (f : Effect) → notified_by (after_effect at ops f) k ≡ notified_step k (notified_by ops k) (record { at = at; effect = f })
unfolding notified_by
one_more ops k at f = fold-append (notified_step k) _ ops.applied (record { at = at; effect = f } ∷ [])

pub notified_after : (ops : Operations) (k : BoundEvent) (at : Stamp) (fs : List Effect) → notified_by (after_effects at ops fs) k ≡ notified_all k at fs (notified_by ops k)
notified_after ops k at [] = refl
notified_after ops k at (f ∷ fs) = notified_after (after_effect at ops f) k at fs ∙ ap (notified_all k at fs) (one_more ops k at f)

-- effects that do not bear on the event make no calls on it
pub calls_unheard : (k : BoundEvent) (at : Stamp) (fs : List Effect) (y : Notified) → list_any (bears_on k) fs ≡ false → (notified_all k at fs y).calls ≡ y.calls
calls_unheard k at [] y h = refl
calls_unheard k at (f ∷ fs) y h =
    calls_unheard k at fs (notified_step k y (record { at = at; effect = f })) (none_after (bears_on k) f fs h)
    ∙ ap (λ b. y.calls ++ (if b then renewal at (notifies k (notified_step k y (record { at = at; effect = f })).cycle.channel) ∷ [] else [])) (none_first (bears_on k) f fs h)
    ∙ append-nil y.calls

-- effects on other channels leave the cycle of the channel
pub cycle_unheard : (k : BoundEvent) (at : Stamp) (fs : List Effect) (y : Notified) → ((f : Effect) → In f fs → is_on (channel_of k) f ≡ false) → (notified_all k at fs y).cycle ≡ y.cycle
cycle_unheard k at [] y h = refl
cycle_unheard k at (f ∷ fs) y h =
    cycle_unheard k at fs (notified_step k y (record { at = at; effect = f })) (λ g i. h g (inr i))
    ∙ ap (λ b. if b then cycle_after y.cycle (record { at = at; effect = f }) else y.cycle) (h f (inl refl))

-- ---- renewals at one stamp

-- what the last of the renewals left, if there was one
abbrev pub LeftBy : Stamp → Slot → List Call → Option Bool → Type 0
LeftBy at x more None = more ≡ []
LeftBy at x more (Some b) = due_of x ≡ (if b then Some (next_delta at) else None)

pub record Renewed (at : Stamp) (calls now : List Call) (b : Option Bool) : Type 0 where
  pub more : List Call
  pub is : now ≡ calls ++ more
  pub here : AreAt at more
  pub made : IsMadeBy at (slot_after now)
  pub last : LeftBy at (slot_after now) more b

pub none_renewed : (at : Stamp) (calls : List Call) → IsMadeBy at (slot_after calls) → Renewed at calls calls None
none_renewed at calls h = record { more = []; is = sym (append-nil calls); here = tt; made = h; last = refl }

delta_due : (at : Stamp) (x : Slot) → IsAhead at x → due_of (slot_after_delta x at) ≡ Some (next_delta at)
delta_due at Nothing h = refl
delta_due at (NextDelta made) h = ap (λ s. Some (next_delta s)) h
delta_due at (AtTime t) h = refl

delta_made : (at : Stamp) (x : Slot) → IsAhead at x → IsMadeBy at (slot_after_delta x at)
delta_made at Nothing h = irreflexive at
delta_made at (NextDelta made) h = ahead_made at (NextDelta made) h
delta_made at (AtTime t) h = irreflexive at

at_push : (at : Stamp) (cs : List Call) (b : Bool) → AreAt at cs → AreAt at (cs ++ renewal at b ∷ [])
at_push at [] true h = (refl, tt)
at_push at [] false h = (refl, tt)
at_push at (c ∷ cs) b h = (h.0, at_push at cs b h.1)

pub renewed : (at : Stamp) (calls now : List Call) (o : Option Bool) (b : Bool) → Renewed at calls now o → Renewed at calls (now ++ renewal at b ∷ []) (Some b)
renewed at calls now o b h = record {
  more = h.more ++ renewal at b ∷ [];
  is = ap (λ cs. cs ++ renewal at b ∷ []) h.is ∙ append_assoc calls h.more (renewal at b ∷ []);
  here = at_push at h.more b h.here;
  made = subst (λ x. IsMadeBy at x) (sym (step b)) (made b);
  last = ap due_of (step b) ∙ due b;
}
  where
    was : IsAhead at (slot_left_at (slot_after now) at)
    was = made_ahead at (slot_after now) h.made

    step : (c : Bool) → slot_after (now ++ renewal at c ∷ []) ≡ (if c then slot_after_delta (slot_left_at (slot_after now) at) at else Nothing)
    step true = fold-append slot_after_call Nothing now (renewal at true ∷ [])
    step false = fold-append slot_after_call Nothing now (renewal at false ∷ [])

    made : (c : Bool) → IsMadeBy at (if c then slot_after_delta (slot_left_at (slot_after now) at) at else Nothing)
    made true = delta_made at (slot_left_at (slot_after now) at) was
    made false = tt

    due : (c : Bool) → due_of (if c then slot_after_delta (slot_left_at (slot_after now) at) at else Nothing) ≡ (if c then Some (next_delta at) else None)
    due true = delta_due at (slot_left_at (slot_after now) at) was
    due false = refl

-- ---- what they come to

abbrev pub notice : Stamp → Option Bool → List (slots.Call Stamp)
notice at None = []
notice at (Some b) = when b at

delta_later : (at : Stamp) → IsBefore at (next_delta at)
delta_later at = after_later at (record { 0 = 0 })

-- where all that was pending has come by the stamp, one notification for the next delta cycle, or none, tells the same
pub told_once :
    (at : Stamp) (calls now : List Call) (o : Option Bool) (v : Event Stamp) → TellsAs at calls v → ((t : Stamp) → v.pending ≡ Some t → IsBy at t) → Renewed at calls now o →
    TellsAs at now (calls_at Stamp is_before at (notice at o) v)
told_once at calls now None v h come g = subst (λ cs. TellsAs at cs v) (sym (g.is ∙ ap (λ cs. calls ++ cs) g.last ∙ append-nil calls)) h
told_once at calls now (Some b) v h come g = subst (λ cs. TellsAs at cs (calls_at Stamp is_before at (when b at) v)) (sym g.is) (gone at calls g.more v (calls_at Stamp is_before at (when b at) v) h (by b due))
  where
    due : due_of (slot_after (calls ++ g.more)) ≡ (if b then Some (next_delta at) else None)
    due = ap (λ cs. due_of (slot_after cs)) (sym g.is) ∙ g.last

    made : IsMadeBy at (slot_after (calls ++ g.more))
    made = subst (λ cs. IsMadeBy at (slot_after cs)) g.is g.made

    nothing_left : (p : Option Stamp) → ((t : Stamp) → p ≡ Some t → IsBy at t) → None ≡ pending_at p at
    nothing_left None k = refl
    nothing_left (Some t) k = sym (left_none (Some t) at t refl (k t refl))

    before : Settles at v.fired v.pending (settled Stamp is_before at v.fired v.pending) (pending_at v.pending at)
    before = settles at v.fired v.pending h.reached

    none_before : (settled Stamp is_before at v.fired v.pending).pending ≡ None
    none_before = before.pending ∙ sym (nothing_left v.pending come)

    pending : (call_at Stamp is_before at (Notify (next_delta at)) v).pending ≡ Some (next_delta at)
    pending = ap (λ p. Some (slots.sooner_of Stamp is_before p (next_delta at))) none_before

    is_some : (t : Stamp) → Some (next_delta at) ≡ Some t → IsBefore at t
    is_some t e = let same : next_delta at ≡ t = cc in subst (λ y. IsBefore at y) same (delta_later at)

    by : (b : Bool) → due_of (slot_after (calls ++ g.more)) ≡ (if b then Some (next_delta at) else None) → Goes at calls g.more v (calls_at Stamp is_before at (when b at) v)
    by true d = record {
      here = g.here;
      made = made;
      left = ap (λ q. pending_at q at) (d ∙ sym pending);
      reached = before.reached;
      kept = λ t k x. inl (before.kept t k x);
      only = λ t k x. ⊎_elim (λ i. before.only t i) (λ e. absurd (k (is_some t (sym pending ∙ e)))) x;
      due = λ t k x. d ∙ ⊎_elim (λ i. absurd (before.reached t i k)) (λ e. sym pending ∙ e) x;
      has = λ t k e. inr (pending ∙ sym d ∙ e);
    }
    by false d = record {
      here = g.here;
      made = made;
      left = ap (λ q. pending_at q at) d ∙ nothing_left v.pending come;
      reached = h.reached;
      kept = λ t k x. x;
      only = λ t k x. x;
      due = λ t k x. ⊎_elim (λ i. absurd (h.reached t i k)) (λ e. absurd (come t e k)) x;
      has = λ t k e. absurd (let c : None ≡ Some t = sym d ∙ e in cc);
    }

-- what is pending then is for the next delta cycle, or was so before
pub pending_once :
    (at : Stamp) (o : Option Bool) (v : Event Stamp) (t : Stamp) → ((u : Stamp) → v.pending ≡ Some u → IsBy at u) → (calls_at Stamp is_before at (notice at o) v).pending ≡ Some t →
    (t ≡ next_delta at) ⊎ (v.pending ≡ Some t)
pending_once at None v t come e = inr e
pending_once at (Some false) v t come e = inr e
pending_once at (Some true) v t come e = inl (let same : next_delta at ≡ t = some_same (next_delta at) t (sym (pending v.pending come) ∙ e) in sym same)
  where
    some_same : (a b : Stamp) → Some a ≡ Some b → a ≡ b
    some_same a b h = cc

    pending : (p : Option Stamp) → ((u : Stamp) → p ≡ Some u → IsBy at u) → Some (slots.sooner_of Stamp is_before (settled Stamp is_before at v.fired p).pending (next_delta at)) ≡ Some (next_delta at)
    pending None k = refl
    pending (Some u) k = ap (λ b. Some (slots.sooner_of Stamp is_before (let w : Event Stamp = if b then record { fired = v.fired; pending = Some u } else record { fired = u ∷ v.fired; pending = None } in w.pending) (next_delta at))) (before_no at u (k u refl))
