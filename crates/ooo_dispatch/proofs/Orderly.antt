-- An effect may be applied at a stamp, as far as the order of stamps goes, where nothing that was applied to the same is later.
use Rattle.std.proofs.Common.{◌≡◌, ℕ, ◌==◌, ◌⊎◌, inl, inr, ⊎_elim, List, [], ◌∷◌, ◌++◌, Bool, true, false, if◌then◌else◌, Option, Some, None, refl, sym, ap, subst, arith}
use Rattle.std.specs.Prelude.{fold, slice_get}
use Rattle.std.specs.List.{flat_map}
use Rattle.ooo_time.specs.declared.stamp.Stamp.{Stamp}
use Rattle.ooo_time.specs.Stamps.{IsBefore, is_before}
use Rattle.ooo_value.specs.declared.bound.BoundChannel.{BoundChannel}
use Rattle.ooo_value.specs.declared.bound.ChannelKind.{ChannelKind}
use Rattle.ooo_events.specs.declared.call.Call.{Call}
use Rattle.ooo_events.specs.declared.call.Call.TheVariants as call
use Rattle.ooo_events.specs.Calls.{Follows, last_stamp, stamp_of}
use Rattle.ooo_code.specs.declared.activation.Effect.{Effect}
use Rattle.ooo_code.specs.declared.activation.Effect.TheVariants as effect
use Rattle.ooo_channels.specs.Operations.{Operation, Operations, after_effect, after_effects, is_call_on, is_on}
use Rattle.ooo_channels.specs.Cycles.{Cycle, cycle_after, cycle_of, cycle_step, first_cycle}
use Rattle.ooo_channels.specs.Calls.{own_call, own_calls}
use Rattle.ooo_channels.specs.Conditions.{ChannelIsBy, HasChannel, IsInOrder, MayApplyAll, Names}
use Rattle.ooo_schedules.specs.Model.{Act, In}
use Rattle.ooo_dispatch.specs.declared.reads.Reads.{Reads}
use Rattle.ooo_dispatch.specs.Rules.{Rules, deed_of, operations_of}
use Rattle.ooo_dispatch.proofs.Placing.{AllFind}
use Rattle.ooo_dispatch.proofs.Shown.{next_cycle}
use Rattle.ooo_dispatch.proofs.Stamps.{irreflexive}

in_either : {A : Type 0} (xs ys : List A) (x : A) → In x (xs ++ ys) → In x xs ⊎ In x ys
in_either [] ys x i = inr i
in_either (y ∷ xs) ys x (inl e) = inl (inl e)
in_either (y ∷ xs) ys x (inr i) = ⊎_elim (λ j. inl (inr j)) (λ j. inr j) (in_either xs ys x i)

-- ---- on the same

-- two effects are on one channel, or call one event
abbrev pub IsOnSame : Effect → Effect → Type 0
IsOnSame (effect.Request c v) g = is_on c g ≡ true
IsOnSame (effect.Put c v) g = is_on c g ≡ true
IsOnSame (effect.Take c) g = is_on c g ≡ true
IsOnSame (effect.Notify e k) g = is_call_on e g ≡ true
IsOnSame (effect.Cancel e) g = is_call_on e g ≡ true
IsOnSame effect.Stop g = ⊥

-- of these operations none on what an effect is on is later than a stamp
abbrev pub NoneLater : List Operation → Stamp → Effect → Type 0
NoneLater os s f = (o : Operation) → In o os → IsOnSame f o.effect → IsBefore s o.at → ⊥

-- ---- channels

by_steps : (s : Stamp) (c : ℕ) (os : List Operation) (x : Cycle) → (IsBefore s x.stamp → ⊥) → ((o : Operation) → In o os → is_on c o.effect ≡ true → IsBefore s o.at → ⊥) →
    IsBefore s (fold (cycle_step c) x os).stamp → ⊥
by_steps s c [] x n none lt = n lt
by_steps s c (o ∷ os) x n none lt = by_steps s c os (cycle_step c x o) (at (is_on c o.effect) refl) (λ p i. none p (inr i)) lt
  where
    here : (b : Bool) → is_on c o.effect ≡ true → IsBefore s (let y : Cycle = if b then next_cycle o.at x else x in y.stamp) → ⊥
    here true on k = none o (inl refl) on k
    here false on k = n k

    at : (b : Bool) → is_on c o.effect ≡ b → IsBefore s (let y : Cycle = if b then cycle_after x o else x in y.stamp) → ⊥
    at true on k = here (is_before x.stamp o.at) on k
    at false off k = n k

from_zero : (s : Stamp) (o : Option BoundChannel) → IsBefore s (first_cycle o).stamp → ⊥
from_zero s None lt = ⊎_elim (λ h. omega (arith, h)) (λ h. let k = h.1 in omega (arith, k)) lt
from_zero s (Some b) lt = ⊎_elim (λ h. omega (arith, h)) (λ h. let k = h.1 in omega (arith, k)) lt

channel_by : (ops : Operations) (c : ℕ) (s : Stamp) → ((o : Operation) → In o ops.applied → is_on c o.effect ≡ true → IsBefore s o.at → ⊥) → ChannelIsBy ops c s
unfolding cycle_of
channel_by ops c s none = by_steps s c ops.applied (first_cycle (slice_get ops.channels c)) (from_zero s (slice_get ops.channels c)) none

-- ---- events of the model's own

follows_all : (s : Stamp) (l : Option Stamp) (cs : List Call) → Follows l s → ((c : Call) → In c cs → IsBefore s (stamp_of c) → ⊥) → Follows (last_stamp l cs) s
follows_all s l [] h none = h
follows_all s l (c ∷ cs) h none =
    follows_all s (Some (stamp_of c)) cs (λ t e lt. none c (inl refl) (let same : stamp_of c ≡ t = cc in subst (IsBefore s) (sym same) lt)) (λ x i. none x (inr i))

call_from : (e : ℕ) (at : Stamp) (f : Effect) (c : Call) → In c (own_call e (record { at = at; effect = f })) → (stamp_of c ≡ at) × (is_call_on e f ≡ true)
call_from e at (effect.Notify g k) c i = by (e == g) i
  where
    by : (b : Bool) → In c (if b then call.Notify at k ∷ [] else []) → (stamp_of c ≡ at) × (b ≡ true)
    by true (inl h) = (ap stamp_of h, refl)
    by true (inr h) = absurd h
    by false h = absurd h
call_from e at (effect.Cancel g) c i = by (e == g) i
  where
    by : (b : Bool) → In c (if b then call.Cancel at ∷ [] else []) → (stamp_of c ≡ at) × (b ≡ true)
    by true (inl h) = (ap stamp_of h, refl)
    by true (inr h) = absurd h
    by false h = absurd h
call_from e at (effect.Request g v) c i = absurd i
call_from e at (effect.Put g v) c i = absurd i
call_from e at (effect.Take g) c i = absurd i
call_from e at effect.Stop c i = absurd i

calls_from : (e : ℕ) (os : List Operation) (c : Call) → In c (flat_map (own_call e) os) → (o : Operation) × In o os × (stamp_of c ≡ o.at) × (is_call_on e o.effect ≡ true)
calls_from e [] c i = absurd i
calls_from e (o ∷ os) c i =
    ⊎_elim (λ h. let k = call_from e o.at o.effect c h in (o, inl refl, k.0, k.1)) (λ h. let k = calls_from e os c h in (k.0, inr k.1, k.2, k.3))
    (in_either (own_call e o) (flat_map (own_call e) os) c i)

event_by : (ops : Operations) (e : ℕ) (s : Stamp) → ((o : Operation) → In o ops.applied → is_call_on e o.effect ≡ true → IsBefore s o.at → ⊥) → Follows (last_stamp None (own_calls ops e)) s
unfolding own_calls
event_by ops e s none =
    follows_all s None (flat_map (own_call e) ops.applied) (λ t h lt. absurd cc)
    (λ c i lt. let k = calls_from e ops.applied c i in none k.0 k.1 k.3 (subst (IsBefore s) k.2 lt))

-- ---- effects

in_order : (ops : Operations) (s : Stamp) (f : Effect) → NoneLater ops.applied s f → IsInOrder ops s f
in_order ops s (effect.Request c v) none = channel_by ops c s none
in_order ops s (effect.Put c v) none = channel_by ops c s none
in_order ops s (effect.Take c) none = channel_by ops c s none
in_order ops s (effect.Notify e k) none = event_by ops e s none
in_order ops s (effect.Cancel e) none = event_by ops e s none
in_order ops s effect.Stop none = tt

channel_after : (s : Stamp) (ops : Operations) (f : Effect) (c : ℕ) (k : ChannelKind) → HasChannel ops c k → HasChannel (after_effect s ops f) c k
channel_after s ops f c k h = record { channel = h.channel; is = h.is; kind = h.kind }

names_after : (s : Stamp) (ops : Operations) (f g : Effect) → Names ops g → Names (after_effect s ops f) g
names_after s ops f (effect.Request c v) h = channel_after s ops f c _ h
names_after s ops f (effect.Put c v) h = channel_after s ops f c _ h
names_after s ops f (effect.Take c) h = channel_after s ops f c _ h
names_after s ops f (effect.Notify e k) h = h
names_after s ops f (effect.Cancel e) h = h
names_after s ops f effect.Stop h = h

none_after : (os : List Operation) (s : Stamp) (f g : Effect) → NoneLater os s g → NoneLater (os ++ record { at = s; effect = f } ∷ []) s g
none_after os s f g none o i same lt =
    ⊎_elim (λ j. none o j same lt) (λ j. ⊎_elim (λ e. irreflexive s (subst (λ x. IsBefore s x.at) e lt)) (λ k. k) j) (in_either os (record { at = s; effect = f } ∷ []) o i)

-- effects at a stamp may be applied one after the other, where none on the same is later and each finds what it needs
pub may_all : (s : Stamp) (fs : List Effect) (ops : Operations) → ((f : Effect) → In f fs → Names ops f) → ((f : Effect) → In f fs → NoneLater ops.applied s f) → AllFind ops s fs → MayApplyAll ops s fs
may_all s [] ops names none find = tt
may_all s (f ∷ fs) ops names none find = (
  record { names = names f (inl refl); in_order = in_order ops s f (none f (inl refl)); place = find.0 },
  may_all s fs (after_effect s ops f) (λ g i. names_after s ops f g (names g (inr i))) (λ g i. none_after ops.applied s f g (none g (inr i))) find.1,
)

-- ---- the operations of a log

abbrev Activation : Type 0
Activation = Act Stamp Reads

applied_after : (s : Stamp) (fs : List Effect) (ops : Operations) (o : Operation) → In o (after_effects s ops fs).applied → In o ops.applied ⊎ (o.at ≡ s) × In o.effect fs
applied_after s [] ops o i = inl i
applied_after s (f ∷ fs) ops o i =
    ⊎_elim
    (λ j. ⊎_elim (λ k. inl k) (λ k. ⊎_elim (λ e. inr (ap (λ x. x.at) e, inl (ap (λ x. x.effect) e))) (λ l. absurd l) k) (in_either ops.applied (record { at = s; effect = f } ∷ []) o j))
    (λ h. inr (h.0, inr h.1)) (applied_after s fs (after_effect s ops f) o i)

-- an operation is an effect of an activation of the log, at its stamp
pub record IsApplied (r : Rules) (ys : List Activation) (o : Operation) : Type 0 where
  pub activation : Activation
  pub among : In activation ys
  pub stamp : o.at ≡ activation.stamp
  pub effect : In o.effect (deed_of r activation).effects

pub applied_by : (r : Rules) (ys : List Activation) (o : Operation) → In o (operations_of r ys).applied → IsApplied r ys o
applied_by r [] o i = absurd i
applied_by r (y ∷ ys) o i =
    ⊎_elim (λ j. let a = applied_by r ys o j in record { activation = a.activation; among = inr a.among; stamp = a.stamp; effect = a.effect })
    (λ h. record { activation = y; among = inl refl; stamp = h.0; effect = h.1 })
    (applied_after y.stamp (deed_of r y).effects (operations_of r ys) o i)
