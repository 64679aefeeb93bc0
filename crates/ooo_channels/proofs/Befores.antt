-- The operations before a stamp, and a channel by them.
use Rattle.std.proofs.Common.{◌≡◌, ℕ, ◌++◌, Bool, true, false, cond, List, [], ◌∷◌, refl, ap, sym, subst, ◌∙◌, append-nil}
use Rattle.std.specs.Prelude.{fold, filter, slice_get}
use Rattle.std.proofs.lemmas.List.Elements.{filter-append}
use Rattle.ooo_time.specs.declared.stamp.Stamp.{Stamp}
use Rattle.ooo_time.specs.Stamps.{IsBefore, is_before}
use Rattle.ooo_code.specs.declared.activation.Effect.{Effect}
use Rattle.ooo_channels.specs.Operations.{Operation, Operations, operations_before, after_effect, is_on}
use Rattle.ooo_channels.specs.Cycles.{Cycle, cycle_at, cycle_of, cycle_after, cycle_step, first_cycle, channel_before}
use Rattle.ooo_channels.specs.Versions.{IsContinued}
use Rattle.ooo_channels.proofs.Orders.{Earlier, earlier, not_earlier, earlier_or_not, is_before-yes, is_before-no, IsBefore-irrefl, not_after, not_before-trans, IsBefore-from_not}
use Rattle.ooo_channels.proofs.Moves.{stamp-cycle_at}
use Rattle.ooo_channels.proofs.Steps.{operation, cycle_of-other, cycle_of-on}

-- ---- one more effect

module _ (ops : Operations) (at : Stamp) (f : Effect) (t : Stamp) where
  one_more : operations_before t (after_effect at ops f) ≡ record ops { applied = (operations_before t ops).applied ++ cond (is_before at t) (operation at f ∷ []) [] }
  one_more = ap (λ os. record { channels = ops.channels; events = ops.events; applied = os; below = ops.below }) (filter-append (λ o. is_before o.at t) ops.applied (operation at f ∷ []))

  pub before-upto : ¬ IsBefore at t → operations_before t (after_effect at ops f) ≡ operations_before t ops
  before-upto not = one_more ∙ rw (is_before-no at t not) (ap (λ os. record { channels = ops.channels; events = ops.events; applied = os; below = ops.below }) (append-nil (operations_before t ops).applied))

  pub before-later : IsBefore at t → operations_before t (after_effect at ops f) ≡ after_effect at (operations_before t ops) f
  before-later later = one_more ∙ rw (is_before-yes at t later) refl

-- an effect that isn't on a channel changes nothing of what is seen of it
pub cycle_before-other : (ops : Operations) (at : Stamp) (f : Effect) (c : ℕ) → is_on c f ≡ false → (t : Stamp) → cycle_of (operations_before t (after_effect at ops f)) c ≡ cycle_of (operations_before t ops) c
cycle_before-other ops at f c off t = go (earlier_or_not at t) where
  go : {b : Bool} → Earlier at t b → cycle_of (operations_before t (after_effect at ops f)) c ≡ cycle_of (operations_before t ops) c
  go (earlier later) = ap (λ o. cycle_of o c) (before-later ops at f t later) ∙ cycle_of-other (operations_before t ops) at f c off
  go (not_earlier not) = ap (λ o. cycle_of o c) (before-upto ops at f t not)

pub channel_before-other : (ops : Operations) (at : Stamp) (f : Effect) (c : ℕ) → is_on c f ≡ false → (t : Stamp) → channel_before (after_effect at ops f) c t ≡ channel_before ops c t
channel_before-other ops at f c off t = ap (λ x. (cycle_at t x).channel) (cycle_before-other ops at f c off t)

-- ---- operations that are all before a stamp

-- no operation moves a channel back
step_on_time : (c : ℕ) (x : Cycle) (o : Operation) → ¬ IsBefore (cycle_step c x o).stamp x.stamp
step_on_time c x o = go (is_on c o.effect) where
  moved : {b : Bool} → Earlier x.stamp o.at b → ¬ IsBefore (cond b o.at x.stamp) x.stamp
  moved (earlier h) = not_after x.stamp o.at h
  moved (not_earlier h) = IsBefore-irrefl x.stamp

  go : (b : Bool) → ¬ IsBefore (cond b (cycle_after x o) x).stamp x.stamp
  go true = subst (λ s. ¬ IsBefore s x.stamp) (sym (stamp-cycle_at o.at x)) (moved (earlier_or_not x.stamp o.at))
  go false = IsBefore-irrefl x.stamp

pub steps_on_time : (c : ℕ) (x : Cycle) (os : List Operation) → ¬ IsBefore (fold (cycle_step c) x os).stamp x.stamp
steps_on_time c x [] = IsBefore-irrefl x.stamp
steps_on_time c x (o ∷ os) = not_before-trans x.stamp (cycle_step c x o).stamp (fold (cycle_step c) (cycle_step c x o) os).stamp (step_on_time c x o) (steps_on_time c (cycle_step c x o) os)

-- an operation on a channel isn't after the cycle in which it leaves it
pub on_time : (x : Cycle) (o : Operation) → ¬ IsBefore (cycle_after x o).stamp o.at
on_time x o = subst (λ s. ¬ IsBefore s o.at) (sym (stamp-cycle_at o.at x)) (go (earlier_or_not x.stamp o.at)) where
  go : {b : Bool} → Earlier x.stamp o.at b → ¬ IsBefore (cond b o.at x.stamp) o.at
  go (earlier h) = IsBefore-irrefl o.at
  go (not_earlier h) = h

-- those that leave it in a cycle before a stamp are before that stamp
step_before :
    (c : ℕ) (t : Stamp) (x : Cycle) (o : Operation) (os : List Operation) → IsBefore (fold (cycle_step c) (cycle_step c x o) os).stamp t →
    fold (cycle_step c) (cycle_step c x o) (filter (λ o. is_before o.at t) os) ≡ fold (cycle_step c) (cycle_step c x o) os →
    fold (cycle_step c) x (filter (λ o. is_before o.at t) (o ∷ os)) ≡ fold (cycle_step c) (cycle_step c x o) os
step_before c t x o os before rest = go (is_on c o.effect) refl where
  kept : {b : Bool} → is_before o.at t ≡ b → cycle_step c x o ≡ x → fold (cycle_step c) x (cond b (o ∷ filter (λ o. is_before o.at t) os) (filter (λ o. is_before o.at t) os)) ≡ fold (cycle_step c) (cycle_step c x o) os
  kept {b = true} e same = rest
  kept {b = false} e same = ap (λ y. fold (cycle_step c) y (filter (λ o. is_before o.at t) os)) (sym same) ∙ rest

  early : is_on c o.effect ≡ true → is_before o.at t ≡ true
  early on =
      let here : ¬ IsBefore (cycle_step c x o).stamp o.at = rw on (on_time x o) in
      is_before-yes o.at t
      (IsBefore-from_not o.at (fold (cycle_step c) (cycle_step c x o) os).stamp t
      (not_before-trans o.at (cycle_step c x o).stamp (fold (cycle_step c) (cycle_step c x o) os).stamp here (steps_on_time c (cycle_step c x o) os)) before)

  go : (b : Bool) → is_on c o.effect ≡ b → fold (cycle_step c) x (cond (is_before o.at t) (o ∷ filter (λ o. is_before o.at t) os) (filter (λ o. is_before o.at t) os)) ≡ fold (cycle_step c) (cycle_step c x o) os
  go true on = rw (early on) rest
  go false off = kept refl (rw off refl)

steps_before : (c : ℕ) (t : Stamp) (x : Cycle) (os : List Operation) → IsBefore (fold (cycle_step c) x os).stamp t → fold (cycle_step c) x (filter (λ o. is_before o.at t) os) ≡ fold (cycle_step c) x os
steps_before c t x [] before = refl
steps_before c t x (o ∷ os) before = step_before c t x o os before (steps_before c t (cycle_step c x o) os before)

-- where no operation on a channel is as late as a stamp, those before it are all
pub cycle_before-all : (ops : Operations) (c : ℕ) (t : Stamp) → IsBefore (cycle_of ops c).stamp t → cycle_of (operations_before t ops) c ≡ cycle_of ops c
unfolding cycle_of
cycle_before-all ops c t before = steps_before c t (first_cycle (slice_get ops.channels c)) ops.applied before

-- ---- an effect on a channel

pub continued : (ops : Operations) (at : Stamp) (f : Effect) (c : ℕ) → is_on c f ≡ true → ¬ IsBefore at (cycle_of ops c).stamp →
    IsContinued at (cycle_after (cycle_of ops c) (operation at f)) (channel_before ops c) (channel_before (after_effect at ops f) c)
continued ops at f c on order = record {
  before = λ t not. ap (λ o. (cycle_at t (cycle_of o c)).channel) (before-upto ops at f t not);
  later = λ t later. ap (λ x. (cycle_at t x).channel) (
      ap (λ o. cycle_of o c) (before-later ops at f t later)
      ∙ cycle_of-on (operations_before t ops) at f c on
      ∙ ap (λ x. cycle_after x (operation at f)) (cycle_before-all ops c t (IsBefore-from_not (cycle_of ops c).stamp at t order later)));
}
