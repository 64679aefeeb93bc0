-- What is seen of a channel within the cycle of a stamp is made by the operations before the stamp; those at it change nothing of it.
use Rattle.std.proofs.Common.{◌≡◌, ℕ, ◌⊎◌, inl, inr, List, [], ◌∷◌, ◌++◌, Bool, true, false, if◌then◌else◌, Some, None, refl, sym, ap, ◌∙◌, subst}
use Rattle.std.specs.Prelude.{fold, pos, slice_get, ⊤}
use Rattle.std.proofs.lemmas.List.Sums.{fold-append}
use Rattle.ooo_time.specs.declared.time.Time.{Time}
use Rattle.ooo_time.specs.declared.stamp.Stamp.{Stamp}
use Rattle.ooo_time.specs.Stamps.{IsBefore, is_before}
use Rattle.ooo_value.specs.declared.bound.BoundChannel.{BoundChannel}
use Rattle.ooo_value.specs.declared.bound.BoundEvent.{BoundEvent}
use Rattle.ooo_value.specs.declared.values.Value.{Value}
use Rattle.ooo_value.specs.Values.{value_of}
use Rattle.ooo_value.specs.declared.bound.ChannelKind.{ChannelKind}
use Rattle.ooo_value.specs.declared.bound.ChannelKind.TheVariants as channel
use Rattle.ooo_code.specs.declared.activation.Effect.{Effect}
use Rattle.ooo_code.specs.declared.activation.Effect.TheVariants as effect
use Rattle.ooo_code.specs.Channels.{Channel, IsSignal, IsFifo, first_channel, updated}
use Rattle.ooo_channels.specs.Operations.{Operations, no_operations, after_effect, after_effects, is_on}
use Rattle.ooo_channels.specs.Cycles.{Cycle, acted, channel_in, cycle_after, cycle_at, cycle_of, cycle_step, first_cycle, later_channel, readable, writable}
use Rattle.ooo_meaning.specs.World.{entries_of, next_delta, same_stamp}
use Rattle.ooo_schedules.specs.Design.{only}
use Rattle.ooo_schedules.specs.Model.{Act, In}
use Rattle.ooo_dispatch.specs.declared.reads.Reads.{Reads}
use Rattle.ooo_dispatch.specs.Enough.{signal_shown}
use Rattle.ooo_dispatch.specs.Rules.{Rules, deed_of, operations_of}
use Rattle.ooo_dispatch.proofs.Stamps.{irreflexive, is_yes}

not_itself : (s : Stamp) → is_before s s ≡ false
not_itself s = at (is_before s s) refl
  where
    at : (b : Bool) → is_before s s ≡ b → b ≡ false
    at true e = absurd (irreflexive s (is_yes s s e))
    at false e = refl

-- ---- one channel, moved by effects at a stamp

-- the channel's cycle after effects at a stamp
abbrev pub moved : Stamp → ℕ → List Effect → Cycle → Cycle
moved s c fs x = fold (λ y f. cycle_step c y (record { at = s; effect = f })) x fs

pub one_more : (s : Stamp) (ops : Operations) (f : Effect) (c : ℕ) → cycle_of (after_effect s ops f) c ≡ cycle_step c (cycle_of ops c) (record { at = s; effect = f })
unfolding cycle_of
one_more s ops f c = fold-append (cycle_step c) (first_cycle (slice_get ops.channels c)) ops.applied (record { at = s; effect = f } ∷ [])

pub cycle_moved : (s : Stamp) (ops : Operations) (fs : List Effect) (c : ℕ) → cycle_of (after_effects s ops fs) c ≡ moved s c fs (cycle_of ops c)
cycle_moved s ops [] c = refl
cycle_moved s ops (f ∷ fs) c = cycle_moved s (after_effect s ops f) fs c ∙ ap (moved s c fs) (one_more s ops f c)

pub step_off : (s : Stamp) (c : ℕ) (f : Effect) (x : Cycle) → is_on c f ≡ false → cycle_step c x (record { at = s; effect = f }) ≡ x
step_off s c f x off = ap (λ b. if b then cycle_after x (record { at = s; effect = f }) else x) off

-- none of the effects is on the channel
pub moved_none : (s : Stamp) (c : ℕ) (fs : List Effect) (x : Cycle) → ((f : Effect) → In f fs → is_on c f ≡ true → ⊥) → moved s c fs x ≡ x
moved_none s c [] x none = refl
moved_none s c (f ∷ fs) x none = ap (moved s c fs) (step_off s c f x (off (is_on c f) refl)) ∙ moved_none s c fs x (λ g i. none g (inr i))
  where
    off : (b : Bool) → is_on c f ≡ b → b ≡ false
    off true e = absurd (none f (inl refl) e)
    off false e = refl

abbrev pub next_cycle : Stamp → Cycle → Cycle
next_cycle s x = record { stamp = s; channel = later_channel s x; history = x.history ++ entries_of x.stamp x.channel }

-- the cycle of a stamp, once it is there
pub here_now : (s : Stamp) (x : Cycle) → is_before (cycle_at s x).stamp s ≡ false
here_now s x = at (is_before x.stamp s) refl
  where
    at : (b : Bool) → is_before x.stamp s ≡ b → is_before (let y : Cycle = if b then next_cycle s x else x in y.stamp) s ≡ false
    at true e = not_itself s
    at false e = e

stays_now : (s : Stamp) (y : Cycle) → is_before y.stamp s ≡ false → (cycle_at s y).channel ≡ y.channel
stays_now s y e = ap (λ b. (let z : Cycle = if b then next_cycle s y else y in z.channel)) e

-- an effect at the stamp acts on the channel of the stamp's cycle
pub step_on : (s : Stamp) (c : ℕ) (f : Effect) (x : Cycle) → is_on c f ≡ true → (cycle_at s (cycle_step c x (record { at = s; effect = f }))).channel ≡ acted f (cycle_at s x).channel
step_on s c f x on =
    ap (λ y. (cycle_at s y).channel) (ap (λ b. if b then cycle_after x (record { at = s; effect = f }) else x) on)
    ∙ stays_now s (cycle_after x (record { at = s; effect = f })) (here_now s x)

module _ {X : Type 0} (shown : Channel → X) where
  -- effects at the stamp that change nothing of what is shown
  shown_moved : (s : Stamp) (c : ℕ) (fs : List Effect) (x : Cycle) → ((f : Effect) → In f fs → is_on c f ≡ true → (y : Channel) → shown (acted f y) ≡ shown y) →
      shown (cycle_at s (moved s c fs x)).channel ≡ shown (cycle_at s x).channel
  shown_moved s c [] x neutral = refl
  shown_moved s c (f ∷ fs) x neutral = shown_moved s c fs (cycle_step c x (record { at = s; effect = f })) (λ g i. neutral g (inr i)) ∙ at (is_on c f) refl
    where
      at : (b : Bool) → is_on c f ≡ b → shown (cycle_at s (cycle_step c x (record { at = s; effect = f }))).channel ≡ shown (cycle_at s x).channel
      at true on = ap shown (step_on s c f x on) ∙ neutral f (inl refl) on (cycle_at s x).channel
      at false off = ap (λ y. shown (cycle_at s y).channel) (step_off s c f x off)

-- ---- a list of activations

abbrev pub Activation : Type 0
Activation = Act Stamp Reads

module _ (r : Rules) (test : Activation → Bool) (c : ℕ) where
  abbrev effects : Activation → List Effect
  effects y = (deed_of r y).effects

  abbrev cycle : List Activation → Cycle
  cycle ys = cycle_of (operations_of r ys) c

  -- where each that acts on the channel passes the test
  abbrev pub AllPass : List Activation → Type 0
  AllPass ys = (y : Activation) → In y ys → (f : Effect) → In f (effects y) → is_on c f ≡ true → test y ≡ true

  made_same : (ys : List Activation) → AllPass ys → cycle (only test ys) ≡ cycle ys
  made_same [] pass = refl
  made_same (y ∷ ys) pass = at (test y) refl (made_same ys (λ z i. pass z (inr i)))
    where
      whole : cycle (y ∷ ys) ≡ moved y.stamp c (effects y) (cycle ys)
      whole = cycle_moved y.stamp (operations_of r ys) (effects y) c

      at : (b : Bool) → test y ≡ b → cycle (only test ys) ≡ cycle ys → cycle (if b then y ∷ only test ys else only test ys) ≡ cycle (y ∷ ys)
      at true h rest = cycle_moved y.stamp (operations_of r (only test ys)) (effects y) c ∙ ap (moved y.stamp c (effects y)) rest ∙ sym whole
      at false h rest =
          rest ∙ sym (whole ∙ moved_none y.stamp c (effects y) (cycle ys) (λ f i on. let e : false ≡ true = sym h ∙ pass y (inl refl) f i on in cc))

  -- first come those at a stamp, and then those before it
  abbrev pub Parted : Stamp → List Activation → Type 0
  Parted s [] = ⊤
  Parted s (y ∷ ys) = ((y.stamp ≡ s) × Parted s ys) ⊎ ((z : Activation) → In z (y ∷ ys) → IsBefore z.stamp s)

  -- those before a stamp that act on the channel pass the test, and those at it change nothing of what is shown
  pub shown_same : {X : Type 0} (shown : Channel → X) (s : Stamp) (ys : List Activation) → Parted s ys →
      ((y : Activation) → In y ys → IsBefore y.stamp s → (f : Effect) → In f (effects y) → is_on c f ≡ true → test y ≡ true) →
      ((y : Activation) → In y ys → y.stamp ≡ s → (f : Effect) → In f (effects y) → is_on c f ≡ true → (x : Channel) → shown (acted f x) ≡ shown x) →
      shown (channel_in s (operations_of r (only test ys)) c) ≡ shown (channel_in s (operations_of r ys) c)
  shown_same shown s [] parted pass neutral = refl
  shown_same shown s (y ∷ ys) (inr all) pass neutral = ap (λ x. shown (cycle_at s x).channel) (made_same (y ∷ ys) (λ z i f j on. pass z i (all z i) f j on))
  shown_same shown s (y ∷ ys) (inl (e, parted)) pass neutral =
      at (test y) (shown_same shown s ys parted (λ z i. pass z (inr i)) (λ z i. neutral z (inr i)))
    where
      moves : (zs : List Activation) → shown (cycle_at s (cycle (y ∷ zs))).channel ≡ shown (cycle_at s (cycle zs)).channel
      moves zs =
          ap (λ x. shown (cycle_at s x).channel) (cycle_moved y.stamp (operations_of r zs) (effects y) c ∙ ap (λ t. moved t c (effects y) (cycle zs)) e)
          ∙ shown_moved shown s c (effects y) (cycle zs) (neutral y (inl refl) e)

      at : (b : Bool) → shown (channel_in s (operations_of r (only test ys)) c) ≡ shown (channel_in s (operations_of r ys) c) →
          shown (channel_in s (operations_of r (if b then y ∷ only test ys else only test ys)) c) ≡ shown (channel_in s (operations_of r (y ∷ ys)) c)
      at true rest = moves (only test ys) ∙ rest ∙ sym (moves ys)
      at false rest = rest ∙ sym (moves ys)

-- ---- what effects leave of what is seen

pub signal_neutral : (now : Time) (f : Effect) (x : Channel) → signal_shown now (acted f x) ≡ signal_shown now x
signal_neutral now (effect.Request c v) (IsSignal x) = refl
signal_neutral now (effect.Request c v) (IsFifo x) = refl
signal_neutral now (effect.Put c v) (IsSignal x) = refl
signal_neutral now (effect.Put c v) (IsFifo x) = refl
signal_neutral now (effect.Take c) (IsSignal x) = refl
signal_neutral now (effect.Take c) (IsFifo x) = refl
signal_neutral now (effect.Notify e k) x = refl
signal_neutral now (effect.Cancel e) x = refl
signal_neutral now effect.Stop x = refl

pub put_neutral : (c : ℕ) (v : Value) (x : Channel) → readable (acted (effect.Put c v) x) ≡ readable x
put_neutral c v (IsSignal x) = refl
put_neutral c v (IsFifo x) = refl

pub take_neutral : (c : ℕ) (x : Channel) → writable (acted (effect.Take c) x) ≡ writable x
take_neutral c (IsSignal x) = refl
take_neutral c (IsFifo x) = refl

-- ---- a channel stays of its kind

abbrev pub IsOfKind : ChannelKind → Channel → Type 0
IsOfKind channel.Signal (IsSignal x) = ⊤
IsOfKind channel.Fifo (IsFifo x) = ⊤
IsOfKind _ _ = ⊥

updated_kept : (k : ChannelKind) (t : Time) (x : Channel) → IsOfKind k x → IsOfKind k (updated t x)
updated_kept channel.Signal t (IsSignal s) h = tt
updated_kept channel.Fifo t (IsFifo s) h = tt
updated_kept channel.Signal t (IsFifo s) h = absurd h
updated_kept channel.Fifo t (IsSignal s) h = absurd h

acted_kept : (k : ChannelKind) (f : Effect) (x : Channel) → IsOfKind k x → IsOfKind k (acted f x)
acted_kept channel.Signal (effect.Request c v) (IsSignal s) h = tt
acted_kept channel.Signal (effect.Put c v) (IsSignal s) h = tt
acted_kept channel.Signal (effect.Take c) (IsSignal s) h = tt
acted_kept channel.Fifo (effect.Request c v) (IsFifo s) h = tt
acted_kept channel.Fifo (effect.Put c v) (IsFifo s) h = tt
acted_kept channel.Fifo (effect.Take c) (IsFifo s) h = tt
acted_kept channel.Signal f (IsFifo s) h = absurd h
acted_kept channel.Fifo f (IsSignal s) h = absurd h
acted_kept channel.Signal (effect.Notify e d) (IsSignal s) h = tt
acted_kept channel.Signal (effect.Cancel e) (IsSignal s) h = tt
acted_kept channel.Signal effect.Stop (IsSignal s) h = tt
acted_kept channel.Fifo (effect.Notify e d) (IsFifo s) h = tt
acted_kept channel.Fifo (effect.Cancel e) (IsFifo s) h = tt
acted_kept channel.Fifo effect.Stop (IsFifo s) h = tt

later_kept : (k : ChannelKind) (s : Stamp) (x : Cycle) → IsOfKind k x.channel → IsOfKind k (later_channel s x)
later_kept k s x h = at (same_stamp s (next_delta x.stamp))
  where
    next : IsOfKind k (updated x.stamp.time x.channel)
    next = updated_kept k x.stamp.time x.channel h

    at : (b : Bool) → IsOfKind k (if b then updated x.stamp.time x.channel else updated s.time (updated x.stamp.time x.channel))
    at true = next
    at false = updated_kept k s.time (updated x.stamp.time x.channel) next

at_kept : (k : ChannelKind) (s : Stamp) (x : Cycle) → IsOfKind k x.channel → IsOfKind k (cycle_at s x).channel
at_kept k s x h = at (is_before x.stamp s)
  where
    at : (b : Bool) → IsOfKind k (let y : Cycle = if b then next_cycle s x else x in y.channel)
    at true = later_kept k s x h
    at false = h

step_kept : (k : ChannelKind) (c : ℕ) (s : Stamp) (f : Effect) (x : Cycle) → IsOfKind k x.channel → IsOfKind k (cycle_step c x (record { at = s; effect = f })).channel
step_kept k c s f x h = at (is_on c f)
  where
    at : (b : Bool) → IsOfKind k (let y : Cycle = if b then cycle_after x (record { at = s; effect = f }) else x in y.channel)
    at true = acted_kept k f (cycle_at s x).channel (at_kept k s x h)
    at false = h

moved_kept : (k : ChannelKind) (c : ℕ) (s : Stamp) (fs : List Effect) (x : Cycle) → IsOfKind k x.channel → IsOfKind k (moved s c fs x).channel
moved_kept k c s [] x h = h
moved_kept k c s (f ∷ fs) x h = moved_kept k c s fs (cycle_step c x (record { at = s; effect = f })) (step_kept k c s f x h)

first_kept : (b : BoundChannel) → IsOfKind b.kind (first_channel b None None)
first_kept b = at b.kind
  where
    at : (k : ChannelKind) → IsOfKind k (elim k [
      | channel.Signal ↦ IsSignal (record { current = value_of b.value (pos 0); requested = None; changed = None })
      | channel.Fifo ↦ IsFifo (record { size = b.size; held = []; read = 0; written = []; reader = None; writer = None })
    ])
    at channel.Signal = tt
    at channel.Fifo = tt

pub started : (channels : List BoundChannel) (events : List BoundEvent) (c : ℕ) → cycle_of (no_operations channels events) c ≡ first_cycle (slice_get channels c)
unfolding cycle_of
started channels events c = refl

module _ (r : Rules) (c : ℕ) (b : BoundChannel) (is : slice_get r.design.channels c ≡ Some b) where
  cycle_kept : (ys : List Activation) → IsOfKind b.kind (cycle_of (operations_of r ys) c).channel
  cycle_kept [] = subst (λ x. IsOfKind b.kind x.channel) (sym (started r.design.channels r.design.events c ∙ ap first_cycle is)) (first_kept b)
  cycle_kept (y ∷ ys) = subst (λ x. IsOfKind b.kind x.channel) (sym (cycle_moved y.stamp (operations_of r ys) (deed_of r y).effects c)) (moved_kept b.kind c y.stamp (deed_of r y).effects (cycle_of (operations_of r ys) c) (cycle_kept ys))

  pub channel_kept : (s : Stamp) (ys : List Activation) → IsOfKind b.kind (channel_in s (operations_of r ys) c)
  channel_kept s ys = at_kept b.kind s (cycle_of (operations_of r ys) c) (cycle_kept ys)
