-- Operations on one channel or event leave the others alone.
use Rattle.std.proofs.Common.{◌≡◌, ◌++◌, ◌||◌, ℕ, Bool, true, false, cond, List, [], ◌∷◌, refl, ap, sym, subst, ◌∙◌, append-nil}
use Rattle.std.specs.Prelude.{fold, filter, slice_get}
use Rattle.std.specs.List.{list_any}
use Rattle.ooo_time.specs.declared.stamp.Stamp.{Stamp}
use Rattle.ooo_time.specs.Stamps.{is_before}
use Rattle.ooo_value.specs.declared.bound.BoundEvent.{BoundEvent}
use Rattle.ooo_code.specs.declared.activation.Effect.{Effect}
use Rattle.ooo_code.specs.declared.activation.Effect.TheVariants as effect
use Rattle.ooo_channels.specs.Operations.{Operation, Operations, after_effect, after_effects, operations_before, is_on, is_call_on}
use Rattle.ooo_channels.specs.Cycles.{Cycle, cycle_of, cycle_after, cycle_step, first_cycle}
use Rattle.ooo_channels.specs.Calls.{Notified, notified_by, notified_step, own_calls, own_call, channel_calls, channel_of, bears_on, renewals}
use Rattle.ooo_channels.specs.Apart.{operations_on, SameOn, IsChannelSame, LeavesOthers}
use Rattle.ooo_channels.proofs.Befores.{cycle_before-other}
use Rattle.ooo_channels.proofs.Steps.{operation, cycle_of-other, own_calls-after, channel_calls-after, bears_not}

-- ---- one effect

pub own_none : (e : ℕ) (at : Stamp) (f : Effect) → is_call_on e f ≡ false → own_call e (operation at f) ≡ []
own_none e at (effect.Request d v) not = refl
own_none e at (effect.Put d v) not = refl
own_none e at (effect.Take d) not = refl
own_none e at (effect.Notify d k) not = rw not refl
own_none e at (effect.Cancel d) not = rw not refl
own_none e at effect.Stop not = refl

-- ---- effects, one after the other

none_first : (a b : Bool) → (a || b) ≡ false → a ≡ false
none_first true b e = e
none_first false b e = refl

none_after : (a b : Bool) → (a || b) ≡ false → b ≡ false
none_after true b e = absurd (cc)
none_after false b e = e

module _ (at : Stamp) where
  channels_left : (ops : Operations) (fs : List Effect) (c : ℕ) → list_any (is_on c) fs ≡ false → cycle_of (after_effects at ops fs) c ≡ cycle_of ops c
  channels_left ops [] c none = refl
  channels_left ops (f ∷ fs) c none =
      channels_left (after_effect at ops f) fs c (none_after (is_on c f) _ none) ∙ cycle_of-other ops at f c (none_first (is_on c f) _ none)

  before_left : (ops : Operations) (fs : List Effect) (c : ℕ) (t : Stamp) → list_any (is_on c) fs ≡ false → cycle_of (operations_before t (after_effects at ops fs)) c ≡ cycle_of (operations_before t ops) c
  before_left ops [] c t none = refl
  before_left ops (f ∷ fs) c t none =
      before_left (after_effect at ops f) fs c t (none_after (is_on c f) _ none) ∙ cycle_before-other ops at f c (none_first (is_on c f) _ none) t

  notices_left : (ops : Operations) (fs : List Effect) (k : BoundEvent) → list_any (bears_on k) fs ≡ false → channel_calls (after_effects at ops fs) k ≡ channel_calls ops k
  notices_left ops [] k none = refl
  notices_left ops (f ∷ fs) k none =
      notices_left (after_effect at ops f) fs k (none_after (bears_on k f) _ none)
      ∙ channel_calls-after ops at f k
      ∙ rw (none_first (bears_on k f) _ none) (append-nil (channel_calls ops k))

  own_left : (ops : Operations) (fs : List Effect) (e : ℕ) → list_any (is_call_on e) fs ≡ false → own_calls (after_effects at ops fs) e ≡ own_calls ops e
  own_left ops [] e none = refl
  own_left ops (f ∷ fs) e none =
      own_left (after_effect at ops f) fs e (none_after (is_call_on e f) _ none)
      ∙ own_calls-after ops at f e
      ∙ ap (λ cs. own_calls ops e ++ cs) (own_none e at f (none_first (is_call_on e f) _ none))
      ∙ append-nil (own_calls ops e)

  pub others_left : (ops : Operations) (fs : List Effect) → LeavesOthers at ops fs
  others_left ops fs = record { channels = channels_left ops fs; before = before_left ops fs; notices = notices_left ops fs; own = own_left ops fs }

-- ---- the operations on a channel

-- a channel goes on by the operations on it
by_operations : (c : ℕ) (x : Cycle) (os : List Operation) → fold (cycle_step c) x os ≡ fold cycle_after x (filter (λ o. is_on c o.effect) os)
by_operations c x [] = refl
by_operations c x (o ∷ os) = go (λ y. by_operations c y os) (is_on c o.effect) where
  go : ((y : Cycle) → fold (cycle_step c) y os ≡ fold cycle_after y (filter (λ o. is_on c o.effect) os)) → (b : Bool) → fold (cycle_step c) (cond b (cycle_after x o) x) os ≡ fold cycle_after x (cond b (o ∷ filter (λ o. is_on c o.effect) os) (filter (λ o. is_on c o.effect) os))
  go rest true = rest (cycle_after x o)
  go rest false = rest x

-- one of its events with it, after an operation on it
abbrev notified_on : BoundEvent → Notified → Operation → Notified
notified_on k x o =
    let next = cycle_after x.cycle o in
    record { cycle = next; calls = x.calls ++ renewals k next.channel o }

-- after an operation that may be on it
step_on : (k : BoundEvent) (x : Notified) (o : Operation) → is_on (channel_of k) o.effect ≡ true → notified_step k x o ≡ notified_on k x o
step_on k x o on = rw on refl

step_off : (k : BoundEvent) (x : Notified) (o : Operation) → is_on (channel_of k) o.effect ≡ false → notified_step k x o ≡ x
step_off k x o off = rw (off, bears_not k o.effect off, append-nil x.calls) refl

notified_operations : (k : BoundEvent) (x : Notified) (os : List Operation) → fold (notified_step k) x os ≡ fold (notified_on k) x (filter (λ o. is_on (channel_of k) o.effect) os)
notified_operations k x [] = refl
notified_operations k x (o ∷ os) = go (λ y. notified_operations k y os) (is_on (channel_of k) o.effect) refl where
  go : ((y : Notified) → fold (notified_step k) y os ≡ fold (notified_on k) y (filter (λ o. is_on (channel_of k) o.effect) os)) → (b : Bool) → is_on (channel_of k) o.effect ≡ b → fold (notified_step k) (notified_step k x o) os ≡ fold (notified_on k) x (cond b (o ∷ filter (λ o. is_on (channel_of k) o.effect) os) (filter (λ o. is_on (channel_of k) o.effect) os))
  go rest true on = ap (λ y. fold (notified_step k) y os) (step_on k x o on) ∙ rest (notified_on k x o)
  go rest false off = ap (λ y. fold (notified_step k) y os) (step_off k x o off) ∙ rest x

cycle_same : (ops others : Operations) (c : ℕ) → SameOn c ops others → cycle_of ops c ≡ cycle_of others c
unfolding cycle_of
cycle_same ops others c h =
    by_operations c (first_cycle (slice_get ops.channels c)) ops.applied
    ∙ ap (λ b. fold cycle_after (first_cycle b) (operations_on c ops)) h.channel
    ∙ ap (λ os. fold cycle_after (first_cycle (slice_get others.channels c)) os) h.operations
    ∙ sym (by_operations c (first_cycle (slice_get others.channels c)) others.applied)

-- two filters, in either order
filters_swap : (p q : Operation → Bool) (os : List Operation) → filter p (filter q os) ≡ filter q (filter p os)
filters_swap p q [] = refl
filters_swap p q (o ∷ os) = go (filters_swap p q os) (p o) (q o) refl refl where
  go : filter p (filter q os) ≡ filter q (filter p os) → (a b : Bool) → p o ≡ a → q o ≡ b → filter p (cond b (o ∷ filter q os) (filter q os)) ≡ filter q (cond a (o ∷ filter p os) (filter p os))
  go rest true true e f = rw (e, f) (ap (λ xs. o ∷ xs) rest)
  go rest true false e f = rw f rest
  go rest false true e f = rw e rest
  go rest false false e f = rest

-- the same operations on a channel are the same before a stamp
same_before : (ops others : Operations) (c : ℕ) (at : Stamp) → SameOn c ops others → SameOn c (operations_before at ops) (operations_before at others)
same_before ops others c at h = record {
  channel = h.channel;
  operations =
      filters_swap (λ o. is_on c o.effect) (λ o. is_before o.at at) ops.applied
      ∙ ap (filter (λ o. is_before o.at at)) h.operations
      ∙ filters_swap (λ o. is_before o.at at) (λ o. is_on c o.effect) others.applied;
}

module _ (ops others : Operations) (c : ℕ) (h : SameOn c ops others) where
  notified_same : (k : BoundEvent) → channel_of k ≡ c → notified_by ops k ≡ notified_by others k
  unfolding notified_by
  notified_same k is =
      notified_operations k (record { cycle = first_cycle (slice_get ops.channels (channel_of k)); calls = [] }) ops.applied
      ∙ subst (λ n. fold (notified_on k) (record { cycle = first_cycle (slice_get ops.channels n); calls = [] }) (operations_on n ops) ≡ fold (notified_on k) (record { cycle = first_cycle (slice_get others.channels n); calls = [] }) (operations_on n others)) (sym is)
      (ap (λ b. fold (notified_on k) (record { cycle = first_cycle b; calls = [] }) (operations_on c ops)) h.channel
      ∙ ap (λ os. fold (notified_on k) (record { cycle = first_cycle (slice_get others.channels c); calls = [] }) os) h.operations)
      ∙ sym (notified_operations k (record { cycle = first_cycle (slice_get others.channels (channel_of k)); calls = [] }) others.applied)

  pub channel_same : IsChannelSame c ops others
  channel_same = record { cycle = cycle_same ops others c h; before = λ at. cycle_same (operations_before at ops) (operations_before at others) c (same_before ops others c at h); events = λ k is. ap (λ x. x.calls) (notified_same k is) }
