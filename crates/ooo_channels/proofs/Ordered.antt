-- Operations that are applied in the order of their stamps, channel by channel, and the history by those before a stamp.
use Rattle.std.proofs.Common.{◌≡◌, ℕ, zero, suc, ◌<◌, ◌++◌, Bool, true, false, cond, arith, List, [], ◌∷◌, Option, None, Some, refl, ap, sym, subst, ◌∙◌, append-nil, length, get_or}
use Rattle.std.specs.Prelude.{pos, fold, filter, slice_get, All, AllPairs, MatchOption}
use Rattle.std.proofs.lemmas.Bool.{eqb-true}
use Rattle.std.proofs.lemmas.List.Quantifiers.{all_pairs_push}
use Rattle.ooo_time.specs.declared.stamp.Stamp.{Stamp}
use Rattle.ooo_time.specs.Stamps.{IsBefore, is_before}
use Rattle.ooo_value.specs.declared.bound.BoundChannel.{BoundChannel}
use Rattle.ooo_value.specs.declared.bound.BoundEvent.{BoundEvent}
use Rattle.ooo_value.specs.declared.bound.ChannelKind.{ChannelKind}
use Rattle.ooo_value.specs.declared.bound.ChannelKind.TheVariants as kind
use Rattle.ooo_value.specs.Values.{value_of}
use Rattle.ooo_code.specs.Channels.{first_channel}
use Rattle.ooo_code.specs.declared.activation.Effect.{Effect}
use Rattle.ooo_code.specs.declared.activation.Effect.TheVariants as effect
use Rattle.ooo_history.specs.declared.run.Entry.{Entry}
use Rattle.ooo_meaning.specs.World.{zero_stamp, entries_of}
use Rattle.ooo_channels.specs.Operations.{Operation, Operations, no_operations, operations_before, after_effect, after_effects, is_on}
use Rattle.ooo_channels.specs.Cycles.{Cycle, cycle_of, cycle_after, cycle_step, first_cycle, whole_history}
use Rattle.ooo_channels.specs.Conditions.{ChannelIsBy, AreOrdered, IsInOrder, MayApplyAll}
use Rattle.ooo_channels.specs.Entries.{entries_before}
use Rattle.ooo_channels.proofs.Orders.{Earlier, earlier, not_earlier, earlier_or_not, is_before-yes, is_before-no, IsBefore-trans, not_before-trans, stamps_same}
use Rattle.ooo_channels.proofs.Moves.{stamp-cycle_at, history-cycle_at}
use Rattle.ooo_channels.proofs.Steps.{operation}
use Rattle.ooo_channels.proofs.Starts.{first_signal, first_fifo}
use Rattle.ooo_channels.proofs.Cores.{same_self}
use Rattle.ooo_channels.proofs.Befores.{on_time, steps_on_time}
use Rattle.ooo_channels.proofs.Copying.{before_whole}

-- ---- a channel all operations on which are before a stamp

-- all that its updates add, with that of its cycle, is before the stamp
record Early (t : Stamp) (x : Cycle) : Type 0 where
  history : entries_before (Some t) x.history ≡ x.history
  update : cond (is_before x.stamp t) (entries_of x.stamp x.channel) [] ≡ entries_of x.stamp x.channel

early_whole : (t : Stamp) (x : Cycle) → Early t x → entries_before (Some t) (whole_history x) ≡ whole_history x
early_whole t x h =
    before_whole (Some t) x
    ∙ ap (λ es. es ++ cond (is_before x.stamp t) (entries_of x.stamp x.channel) []) h.history
    ∙ ap (λ es. x.history ++ es) h.update

-- an operation moves a channel to its stamp, unless it comes late
moved_to : (x : Cycle) (o : Operation) → ¬ IsBefore o.at x.stamp → (cycle_after x o).stamp ≡ o.at
moved_to x o order = stamp-cycle_at o.at x ∙ go (earlier_or_not x.stamp o.at) where
  go : {b : Bool} → Earlier x.stamp o.at b → cond b o.at x.stamp ≡ o.at
  go (earlier h) = refl
  go (not_earlier h) = stamps_same x.stamp o.at h order

early_step : (t : Stamp) (x : Cycle) (o : Operation) → ¬ IsBefore o.at x.stamp → IsBefore o.at t → Early t x → Early t (cycle_after x o)
early_step t x o order before h = record {
  history = subst (λ es. entries_before (Some t) es ≡ es) (sym (history-cycle_at o.at x)) (go (is_before x.stamp o.at));
  update = ap (λ b. cond b (entries_of (cycle_after x o).stamp (cycle_after x o).channel) []) (is_before-yes (cycle_after x o).stamp t (subst (λ s. IsBefore s t) (sym (moved_to x o order)) before));
} where
  go : (b : Bool) → entries_before (Some t) (cond b (whole_history x) x.history) ≡ cond b (whole_history x) x.history
  go true = early_whole t x h
  go false = h.history

-- ---- a channel that has reached a stamp

-- of what its updates add, these entries are before the stamp
record Late (t : Stamp) (es : List Entry) (x : Cycle) : Type 0 where
  history : entries_before (Some t) x.history ≡ es
  past : ¬ IsBefore x.stamp t

late_whole : (t : Stamp) (es : List Entry) (x : Cycle) → Late t es x → entries_before (Some t) (whole_history x) ≡ es
late_whole t es x h =
    before_whole (Some t) x
    ∙ ap (λ b. entries_before (Some t) x.history ++ cond b (entries_of x.stamp x.channel) []) (is_before-no x.stamp t h.past)
    ∙ append-nil (entries_before (Some t) x.history)
    ∙ h.history

late_step : (t : Stamp) (es : List Entry) (x : Cycle) (o : Operation) → Late t es x → Late t es (cycle_after x o)
late_step t es x o h = record {
  history = subst (λ hs. entries_before (Some t) hs ≡ es) (sym (history-cycle_at o.at x)) (go (is_before x.stamp o.at));
  past = subst (λ s. ¬ IsBefore s t) (sym (stamp-cycle_at o.at x)) (moved (earlier_or_not x.stamp o.at));
} where
  go : (b : Bool) → entries_before (Some t) (cond b (whole_history x) x.history) ≡ es
  go true = late_whole t es x h
  go false = h.history

  moved : {b : Bool} → Earlier x.stamp o.at b → ¬ IsBefore (cond b o.at x.stamp) t
  moved (earlier lt) = λ k. h.past (IsBefore-trans x.stamp o.at t lt k)
  moved (not_earlier not) = h.past

late_steps : (c : ℕ) (t : Stamp) (es : List Entry) (x : Cycle) (os : List Operation) → Late t es x → Late t es (fold (cycle_step c) x os)
late_steps c t es x [] h = h
late_steps c t es x (o ∷ os) h = late_steps c t es (cycle_step c x o) os (go (is_on c o.effect)) where
  go : (b : Bool) → Late t es (cond b (cycle_after x o) x)
  go true = late_step t es x o h
  go false = h

-- the first operation that isn't before the stamp
late_first : (t : Stamp) (x : Cycle) (o : Operation) → ¬ IsBefore o.at x.stamp → ¬ IsBefore o.at t → Early t x → Late t (whole_history x) (cycle_after x o)
late_first t x o order late h = record {
  history = subst (λ hs. entries_before (Some t) hs ≡ whole_history x) (sym (history-cycle_at o.at x)) (go (earlier_or_not x.stamp o.at));
  past = subst (λ s. ¬ IsBefore s t) (sym (moved_to x o order)) late;
} where
  go : {b : Bool} → Earlier x.stamp o.at b → entries_before (Some t) (cond b (whole_history x) x.history) ≡ whole_history x
  go (earlier lt) = early_whole t x h
  go (not_earlier not) =
      let past : ¬ IsBefore x.stamp t = subst (λ s. ¬ IsBefore s t) (sym (stamps_same x.stamp o.at not order)) late in
      let none : [] ≡ entries_of x.stamp x.channel = ap (λ b. cond b (entries_of x.stamp x.channel) []) (sym (is_before-no x.stamp t past)) ∙ h.update in
      h.history ∙ sym (append-nil x.history) ∙ ap (λ es. x.history ++ es) none

-- ---- the operations on a channel in order

-- of two operations on a channel, the later one isn't at an earlier stamp
abbrev InOrder : ℕ → Operation → Operation → Type 0
InOrder c o p = is_on c o.effect ≡ true → is_on c p.effect ≡ true → ¬ IsBefore p.at o.at

first_all : (c : ℕ) (o : Operation) (os : List Operation) → AllPairs (InOrder c) (o ∷ os) → All (InOrder c o) os
first_all c o os h = λ n d lt. h 0 (suc n) d (omega arith) (omega (arith, lt))

rest_pairs : (c : ℕ) (o : Operation) (os : List Operation) → AllPairs (InOrder c) (o ∷ os) → AllPairs (InOrder c) os
rest_pairs c o os h = λ i j d lt within. h (suc i) (suc j) d (omega (arith, lt)) (omega (arith, within))

-- no operation on a channel is before a stamp
abbrev NoneBefore : ℕ → Stamp → List Operation → Type 0
NoneBefore c s os = All (λ o. is_on c o.effect ≡ true → ¬ IsBefore o.at s) os

none_first : (c : ℕ) (s : Stamp) (o : Operation) (os : List Operation) → NoneBefore c s (o ∷ os) → is_on c o.effect ≡ true → ¬ IsBefore o.at s
none_first c s o os h = h 0 o (omega arith)

none_rest : (c : ℕ) (s : Stamp) (o : Operation) (os : List Operation) → NoneBefore c s (o ∷ os) → NoneBefore c s os
none_rest c s o os h = λ n d lt. h (suc n) d (omega (arith, lt))

-- those before a stamp leave a channel as it is, where none is on it
none_left : (c : ℕ) (t : Stamp) (x : Cycle) (os : List Operation) → NoneBefore c t os → fold (cycle_step c) x (filter (λ o. is_before o.at t) os) ≡ x
none_left c t x [] h = refl
none_left c t x (o ∷ os) h = go (none_left c t x os (none_rest c t o os h)) (earlier_or_not o.at t) where
  off : IsBefore o.at t → (b : Bool) → is_on c o.effect ≡ b → cond b (cycle_after x o) x ≡ x
  off lt true on = absurd (none_first c t o os h on lt)
  off lt false on = refl

  go : fold (cycle_step c) x (filter (λ o. is_before o.at t) os) ≡ x → {b : Bool} → Earlier o.at t b →
      fold (cycle_step c) x (cond b (o ∷ filter (λ o. is_before o.at t) os) (filter (λ o. is_before o.at t) os)) ≡ x
  go rest (earlier lt) = ap (λ y. fold (cycle_step c) y (filter (λ o. is_before o.at t) os)) (off lt (is_on c o.effect) refl) ∙ rest
  go rest (not_earlier not) = rest

-- ---- the history by the operations before a stamp

-- the entries before a stamp that operations add are what those before the stamp add
abbrev Splits : ℕ → Stamp → Cycle → List Operation → Type 0
Splits c t x os = entries_before (Some t) (whole_history (fold (cycle_step c) x os)) ≡ whole_history (fold (cycle_step c) x (filter (λ o. is_before o.at t) os))

module _ (c : ℕ) (t : Stamp) (x : Cycle) (o : Operation) (os : List Operation) where
  -- an operation on another channel
  splits_off : is_on c o.effect ≡ false → Splits c t x os → Splits c t x (o ∷ os)
  splits_off off rest =
      ap (λ y. entries_before (Some t) (whole_history (fold (cycle_step c) y os))) same ∙ rest
      ∙ ap whole_history (go (is_before o.at t))
    where
      same : cycle_step c x o ≡ x
      same = ap (λ b. cond b (cycle_after x o) x) off

      go : (b : Bool) →
          fold (cycle_step c) x (filter (λ o. is_before o.at t) os) ≡ fold (cycle_step c) x (cond b (o ∷ filter (λ o. is_before o.at t) os) (filter (λ o. is_before o.at t) os))
      go true = ap (λ y. fold (cycle_step c) y (filter (λ o. is_before o.at t) os)) (sym same)
      go false = refl

  module _ (on : is_on c o.effect ≡ true) where
    stepped : cycle_step c x o ≡ cycle_after x o
    stepped = ap (λ b. cond b (cycle_after x o) x) on

    -- an operation before the stamp
    splits_before : IsBefore o.at t → Splits c t (cycle_after x o) os → Splits c t x (o ∷ os)
    splits_before lt rest =
        ap (λ y. entries_before (Some t) (whole_history (fold (cycle_step c) y os))) stepped ∙ rest
        ∙ ap (λ y. whole_history (fold (cycle_step c) y (filter (λ o. is_before o.at t) os))) (sym stepped)
        ∙ ap (λ b. whole_history (fold (cycle_step c) x (cond b (o ∷ filter (λ o. is_before o.at t) os) (filter (λ o. is_before o.at t) os)))) (sym (is_before-yes o.at t lt))

    -- the first operation that isn't
    splits_late : ¬ IsBefore o.at x.stamp → ¬ IsBefore o.at t → Early t x → All (InOrder c o) os → Splits c t x (o ∷ os)
    splits_late order late h later =
        ap (λ y. entries_before (Some t) (whole_history (fold (cycle_step c) y os))) stepped
        ∙ late_whole t (whole_history x) _ (late_steps c t (whole_history x) (cycle_after x o) os (late_first t x o order late h))
        ∙ sym (ap whole_history (none_left c t x os none))
        ∙ ap (λ b. whole_history (fold (cycle_step c) x (cond b (o ∷ filter (λ o. is_before o.at t) os) (filter (λ o. is_before o.at t) os)))) (sym (is_before-no o.at t late))
      where
        none : NoneBefore c t os
        none = λ n d lt is. not_before-trans t o.at (get_or os n d).at late (later n d lt on is)

splits : (c : ℕ) (t : Stamp) (x : Cycle) (os : List Operation) → AllPairs (InOrder c) os → NoneBefore c x.stamp os → Early t x → Splits c t x os
splits c t x [] pairs none h = early_whole t x h
splits c t x (o ∷ os) pairs none h =
    go (λ y. splits c t y os (rest_pairs c o os pairs)) (is_on c o.effect) refl
  where
    go : ((y : Cycle) → NoneBefore c y.stamp os → Early t y → Splits c t y os) → (b : Bool) → is_on c o.effect ≡ b → Splits c t x (o ∷ os)
    go rest false off = splits_off c t x o os off (rest x (none_rest c x.stamp o os none) h)
    go rest true on = at (earlier_or_not o.at t) where
      order : ¬ IsBefore o.at x.stamp
      order = none_first c x.stamp o os none on

      later : NoneBefore c (cycle_after x o).stamp os
      later = λ n d lt is. subst (λ s. ¬ IsBefore (get_or os n d).at s) (sym (moved_to x o order)) (first_all c o os pairs n d lt on is)

      at : {b : Bool} → Earlier o.at t b → Splits c t x (o ∷ os)
      at (earlier lt) = splits_before c t x o os on lt (rest (cycle_after x o) later (early_step t x o order lt h))
      at (not_earlier not) = splits_late c t x o os on order not h (first_all c o os pairs)

-- a channel as it starts has no entries
first_entries : (b : Option BoundChannel) → entries_of zero_stamp (first_cycle b).channel ≡ []
first_entries None = refl
first_entries (Some b) = go b.kind refl where
  go : (k : ChannelKind) → b.kind ≡ k → entries_of zero_stamp (first_channel b None None) ≡ []
  go kind.Signal is = ap (entries_of zero_stamp) (first_signal b is) ∙ rw (same_self (value_of b.value (pos 0))) refl
  go kind.Fifo is = ap (entries_of zero_stamp) (first_fifo b is)

first_stamp : (b : Option BoundChannel) → (first_cycle b).stamp ≡ zero_stamp
first_stamp None = refl
first_stamp (Some b) = refl

first_history : (b : Option BoundChannel) → (first_cycle b).history ≡ []
first_history None = refl
first_history (Some b) = refl

first_early : (t : Stamp) (b : Option BoundChannel) → Early t (first_cycle b)
first_early t b = record {
  history = subst (λ es. entries_before (Some t) es ≡ es) (sym (first_history b)) refl;
  update = nothing (is_before (first_cycle b).stamp t) (entries_of (first_cycle b).stamp (first_cycle b).channel) none;
} where
  none : entries_of (first_cycle b).stamp (first_cycle b).channel ≡ []
  none = ap (λ s. entries_of s (first_cycle b).channel) (first_stamp b) ∙ first_entries b

  nothing : (a : Bool) (es : List Entry) → es ≡ [] → cond a es [] ≡ es
  nothing true es is = refl
  nothing false es is = sym is

-- where the operations on a channel are in order, the entries before a stamp are the history by those before it
ordered_history :
    (ops : Operations) (c : ℕ) (t : Stamp) → AreOrdered ops c →
    entries_before (Some t) (whole_history (cycle_of ops c)) ≡ whole_history (cycle_of (operations_before t ops) c)
unfolding cycle_of
ordered_history ops c t ordered = splits c t (first_cycle b) ops.applied ordered later (first_early t b) where
  b : Option BoundChannel
  b = slice_get ops.channels c

  later : NoneBefore c (first_cycle b).stamp ops.applied
  later = λ n d lt on. subst (λ s. ¬ IsBefore (get_or ops.applied n d).at s) (sym (first_stamp b)) (λ k. grind arith)

-- no entry is after no stamp
all_before : (es : List Entry) → entries_before None es ≡ es
all_before [] = refl
all_before (e ∷ es) = ap (λ xs. e ∷ xs) (all_before es)

pub history_before :
    (ops : Operations) (c : ℕ) (before : Option Stamp) (h : List Entry) → h ≡ entries_before before (whole_history (cycle_of ops c)) →
    MatchOption before (h ≡ whole_history (cycle_of ops c)) (λ s. AreOrdered ops c → h ≡ whole_history (cycle_of (operations_before s ops) c))
history_before ops c None h is = is ∙ all_before (whole_history (cycle_of ops c))
history_before ops c (Some s) h is = λ ordered. is ∙ ordered_history ops c s ordered

-- ---- operations that are applied as they may be

pub none_ordered : (channels : List BoundChannel) (events : List BoundEvent) (c : ℕ) → AreOrdered (no_operations channels events) c
none_ordered channels events c = λ i j d lt within. absurd (omega (arith, within))

-- no operation on a channel is after the cycle in which the channel is left
all_by : (c : ℕ) (x : Cycle) (os : List Operation) → All (λ o. is_on c o.effect ≡ true → ¬ IsBefore (fold (cycle_step c) x os).stamp o.at) os
all_by c x [] = λ n d lt. absurd (omega (arith, lt))
all_by c x (o ∷ os) = λ n d lt. go n d lt (all_by c (cycle_step c x o) os) where
  here : is_on c o.effect ≡ true → ¬ IsBefore (fold (cycle_step c) (cycle_step c x o) os).stamp o.at
  here on = not_before-trans o.at (cycle_step c x o).stamp (fold (cycle_step c) (cycle_step c x o) os).stamp
      (subst (λ (y : Cycle). ¬ IsBefore y.stamp o.at) (ap (λ b. cond b (cycle_after x o) x) (sym on)) (on_time x o))
      (steps_on_time c (cycle_step c x o) os)

  go : (n : ℕ) (d : Operation) → n < length (o ∷ os) →
      All (λ p. is_on c p.effect ≡ true → ¬ IsBefore (fold (cycle_step c) (cycle_step c x o) os).stamp p.at) os →
      is_on c (get_or (o ∷ os) n d).effect ≡ true → ¬ IsBefore (fold (cycle_step c) (cycle_step c x o) os).stamp (get_or (o ∷ os) n d).at
  go zero d lt rest = here
  go (suc n) d lt rest = rest n d (omega (arith, lt))

operations_by : (ops : Operations) (c : ℕ) → All (λ o. is_on c o.effect ≡ true → ¬ IsBefore (cycle_of ops c).stamp o.at) ops.applied
unfolding cycle_of
operations_by ops c = all_by c (first_cycle (slice_get ops.channels c)) ops.applied

-- an effect on a channel that is in order isn't before the channel's cycle
by_order : (ops : Operations) (at : Stamp) (f : Effect) (c : ℕ) → IsInOrder ops at f → is_on c f ≡ true → ChannelIsBy ops c at
by_order ops at (effect.Request d v) c h on = subst (λ n. ChannelIsBy ops n at) (sym (eqb-true c d on)) h
by_order ops at (effect.Put d v) c h on = subst (λ n. ChannelIsBy ops n at) (sym (eqb-true c d on)) h
by_order ops at (effect.Take d) c h on = subst (λ n. ChannelIsBy ops n at) (sym (eqb-true c d on)) h
by_order ops at (effect.Notify e k) c h on = absurd cc
by_order ops at (effect.Cancel e) c h on = absurd cc
by_order ops at effect.Stop c h on = absurd cc

one_ordered : (ops : Operations) (at : Stamp) (f : Effect) (c : ℕ) → AreOrdered ops c → IsInOrder ops at f → AreOrdered (after_effect at ops f) c
one_ordered ops at f c h order = all_pairs_push (InOrder c) ops.applied (operation at f) h
    (λ k d lt on_earlier on. not_before-trans (get_or ops.applied k d).at (cycle_of ops c).stamp at (operations_by ops c k d lt on_earlier) (by_order ops at f c order on))

pub effects_ordered : (ops : Operations) (at : Stamp) (fs : List Effect) (c : ℕ) → AreOrdered ops c → MayApplyAll ops at fs → AreOrdered (after_effects at ops fs) c
effects_ordered ops at [] c h may = h
effects_ordered ops at (f ∷ fs) c h may = effects_ordered (after_effect at ops f) at fs c (one_ordered ops at f c h may.0.in_order) may.1
