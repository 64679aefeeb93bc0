-- What stays of a channel whatever is applied to it: its kind and its size, and that it holds no more than its size.
use Rattle.std.proofs.Common.{◌≡◌, ℕ, ◌+◌, ◌<◌, ◌≤◌, List, [], ◌∷◌, ◌++◌, Bool, true, false, if◌then◌else◌, Some, None, length, refl, sym, ap, subst, ◌∙◌, arith, append-nil}
use Rattle.std.specs.Prelude.{fold, pos, slice_get, slice_index_or, ⊤}
use Rattle.std.proofs.lemmas.List.{length-append, length-drop}
use Rattle.std.proofs.lemmas.Option.{slice_get_within}
use Rattle.ooo_time.specs.declared.time.Time.{Time}
use Rattle.ooo_time.specs.declared.stamp.Stamp.{Stamp}
use Rattle.ooo_time.specs.Stamps.{is_before}
use Rattle.ooo_value.specs.declared.bound.BoundChannel.{BoundChannel}
use Rattle.ooo_value.specs.declared.bound.ChannelKind.{ChannelKind}
use Rattle.ooo_value.specs.declared.bound.ChannelKind.TheVariants as kind
use Rattle.ooo_value.specs.Values.{value_of}
use Rattle.ooo_code.specs.declared.activation.Effect.{Effect}
use Rattle.ooo_code.specs.declared.activation.Effect.TheVariants as effect
use Rattle.ooo_code.specs.Channels.{Channel, IsSignal, IsFifo, available, first_channel, updated}
use Rattle.ooo_meaning.specs.World.{entries_of, next_delta, same_stamp}
use Rattle.ooo_channels.specs.declared.channel.ChannelState.{ChannelState}
use Rattle.ooo_channels.specs.declared.channel.ChannelState.TheVariants as state
use Rattle.ooo_channels.specs.Operations.{Operation, Operations, is_on, operations_before}
use Rattle.ooo_channels.specs.Bank.{BankState, IsBankAfter}
use Rattle.ooo_channels.specs.Calls.{channel_calls}
use Rattle.ooo_channels.specs.Kept.{IsChannelAfter}
use Rattle.ooo_channels.specs.Cycles.{Cycle, acted, channel_before, channel_in, cycle_after, cycle_at, cycle_of, cycle_step, first_cycle, later_channel, readable, values_left}

-- ---- what stays in each cycle

abbrev next_cycle : Stamp → Cycle → Cycle
next_cycle s x = record { stamp = s; channel = later_channel s x; history = x.history ++ entries_of x.stamp x.channel }

-- what an update leaves is there in the cycle of a stamp
module _ (P : Channel → Type 0) (keeps : (t : Time) (x : Channel) → P x → P (updated t x)) where
  later_keeps : (s : Stamp) (x : Cycle) → P x.channel → P (later_channel s x)
  later_keeps s x h = at (same_stamp s (next_delta x.stamp))
    where
      next : P (updated x.stamp.time x.channel)
      next = keeps x.stamp.time x.channel h

      at : (b : Bool) → P (if b then updated x.stamp.time x.channel else updated s.time (updated x.stamp.time x.channel))
      at true = next
      at false = keeps s.time (updated x.stamp.time x.channel) next

  at_keeps : (s : Stamp) (x : Cycle) → P x.channel → P (cycle_at s x).channel
  at_keeps s x h = at (is_before x.stamp s)
    where
      at : (b : Bool) → P (let y : Cycle = if b then next_cycle s x else x in y.channel)
      at true = later_keeps s x h
      at false = h

-- ---- kind and size

-- a channel of a kind, of a size if it is a fifo
abbrev pub IsOf : ChannelKind → (size : ℕ) → Channel → Type 0
IsOf kind.Signal size (IsSignal x) = ⊤
IsOf kind.Fifo size (IsFifo f) = f.size ≡ size
IsOf _ size _ = ⊥

updated_of : (k : ChannelKind) (size : ℕ) (t : Time) (x : Channel) → IsOf k size x → IsOf k size (updated t x)
updated_of kind.Signal size t (IsSignal s) h = tt
updated_of kind.Fifo size t (IsFifo s) h = h
updated_of kind.Signal size t (IsFifo s) h = absurd h
updated_of kind.Fifo size t (IsSignal s) h = absurd h

acted_of : (k : ChannelKind) (size : ℕ) (f : Effect) (x : Channel) → IsOf k size x → IsOf k size (acted f x)
acted_of kind.Signal size (effect.Request c v) (IsSignal s) h = tt
acted_of kind.Signal size (effect.Put c v) (IsSignal s) h = tt
acted_of kind.Signal size (effect.Take c) (IsSignal s) h = tt
acted_of kind.Signal size (effect.Notify e d) (IsSignal s) h = tt
acted_of kind.Signal size (effect.Cancel e) (IsSignal s) h = tt
acted_of kind.Signal size effect.Stop (IsSignal s) h = tt
acted_of kind.Fifo size (effect.Request c v) (IsFifo s) h = h
acted_of kind.Fifo size (effect.Put c v) (IsFifo s) h = h
acted_of kind.Fifo size (effect.Take c) (IsFifo s) h = h
acted_of kind.Fifo size (effect.Notify e d) (IsFifo s) h = h
acted_of kind.Fifo size (effect.Cancel e) (IsFifo s) h = h
acted_of kind.Fifo size effect.Stop (IsFifo s) h = h
acted_of kind.Signal size f (IsFifo s) h = absurd h
acted_of kind.Fifo size f (IsSignal s) h = absurd h

step_of : (k : ChannelKind) (size c : ℕ) (o : Operation) (x : Cycle) → IsOf k size x.channel → IsOf k size (cycle_step c x o).channel
step_of k size c o x h = at (is_on c o.effect)
  where
    at : (b : Bool) → IsOf k size (let y : Cycle = if b then cycle_after x o else x in y.channel)
    at true = acted_of k size o.effect (cycle_at o.at x).channel (at_keeps (IsOf k size) (updated_of k size) o.at x h)
    at false = h

steps_of : (k : ChannelKind) (size c : ℕ) (os : List Operation) (x : Cycle) → IsOf k size x.channel → IsOf k size (fold (cycle_step c) x os).channel
steps_of k size c [] x h = h
steps_of k size c (o ∷ os) x h = steps_of k size c os (cycle_step c x o) (step_of k size c o x h)

first_of_kind : (b : BoundChannel) → IsOf b.kind b.size (first_channel b None None)
first_of_kind b = at b.kind
  where
    at : (k : ChannelKind) → IsOf k b.size (elim k [
      | kind.Signal ↦ IsSignal (record { current = value_of b.value (pos 0); requested = None; changed = None })
      | kind.Fifo ↦ IsFifo (record { size = b.size; held = []; read = 0; written = []; reader = None; writer = None })
    ])
    at kind.Signal = tt
    at kind.Fifo = refl

module _ (ops : Operations) (c : ℕ) (b : BoundChannel) (is : slice_get ops.channels c ≡ Some b) where
  cycle_is : IsOf b.kind b.size (cycle_of ops c).channel
  unfolding cycle_of
  cycle_is = steps_of b.kind b.size c ops.applied (first_cycle (slice_get ops.channels c)) (subst (λ o. IsOf b.kind b.size (first_cycle o).channel) (sym is) (first_of_kind b))

  -- a channel is always of the kind and the size that it has in the design
  pub channel_is : (s : Stamp) → IsOf b.kind b.size (channel_in s ops c)
  channel_is s = at_keeps (IsOf b.kind b.size) (updated_of b.kind b.size) s (cycle_of ops c) cycle_is

pub before_is : (ops : Operations) (c : ℕ) (b : BoundChannel) → slice_get ops.channels c ≡ Some b → (s : Stamp) → IsOf b.kind b.size (channel_before ops c s)
before_is ops c b is s = channel_is (operations_before s ops) c b is s

-- ---- how much a fifo holds

-- a fifo holds no more than its size
abbrev pub Holds : Channel → Type 0
Holds (IsSignal x) = ⊤
Holds (IsFifo f) = length f.held + length f.written ≤ f.size

updated_holds : (t : Time) (x : Channel) → Holds x → Holds (updated t x)
updated_holds t (IsSignal x) h = tt
updated_holds t (IsFifo f) h =
    let a = length-append (available f) f.written in
    let d = length-drop f.read f.held in
    omega arith

some_state : {A : Type 0} (xs : List A) (c : ℕ) → c < length xs → A
some_state [] c lt = absurd (omega arith)
some_state (x ∷ xs) c lt = x

-- what a bank keeps of a fifo holds no more than its size
cycle_holds : (bank : BankState) (ops : Operations) → IsBankAfter bank ops → (c : ℕ) (b : BoundChannel) → slice_get ops.channels c ≡ Some b → Holds (cycle_of ops c).channel
cycle_holds bank ops h c b is =
    let n = h.channel_count in
    let m = slice_get_within ops.channels c b is in
    let lt : c < length bank.channels = omega arith in
    let d = some_state bank.channels c lt in
    at (slice_index_or bank.channels c d) (h.channels c d lt)
  where
    at : (s : ChannelState) → IsChannelAfter c ops.below (cycle_of ops c) (channel_calls ops) s → Holds (cycle_of ops c).channel
    at (state.Signal s) after = subst Holds after.cycle.channel tt
    at (state.Fifo f) after = subst Holds after.cycle.channel after.cycle.fits

pub channel_holds : (bank : BankState) (ops : Operations) → IsBankAfter bank ops → (c : ℕ) (b : BoundChannel) → slice_get ops.channels c ≡ Some b → (s : Stamp) → Holds (channel_in s ops c)
channel_holds bank ops h c b is s = at_keeps Holds updated_holds s (cycle_of ops c) (cycle_holds bank ops h c b is)

-- ---- what may be read of a fifo

updated_readable : (t : Time) (x : Channel) → readable (updated t x) ≡ values_left x
updated_readable t (IsSignal x) = refl
updated_readable t (IsFifo f) = refl

updated_left : (t : Time) (x : Channel) → values_left (updated t x) ≡ values_left x
updated_left t (IsSignal x) = refl
updated_left t (IsFifo f) = append-nil (available f ++ f.written)

-- what may be read is among what isn't read yet
readable_few : (x : Channel) → length (readable x) ≤ length (values_left x)
readable_few (IsSignal x) = omega arith
readable_few (IsFifo f) = let a = length-append (available f) f.written in omega arith

pub readable_left : (s : Stamp) (x : Cycle) → length (readable (cycle_at s x).channel) ≤ length (values_left x.channel)
readable_left s x = at (is_before x.stamp s)
  where
    next : Channel
    next = updated x.stamp.time x.channel

    later : (b : Bool) → readable (if b then next else updated s.time next) ≡ values_left x.channel
    later true = updated_readable x.stamp.time x.channel
    later false = updated_readable s.time next ∙ updated_left x.stamp.time x.channel

    at : (b : Bool) → length (readable (let y : Cycle = if b then next_cycle s x else x in y.channel)) ≤ length (values_left x.channel)
    at true = let e = ap length (later (same_stamp s (next_delta x.stamp))) in omega arith
    at false = readable_few x.channel
