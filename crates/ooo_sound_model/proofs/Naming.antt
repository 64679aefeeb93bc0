-- The names of a scope mean in a model what they denote.
use Rattle.std.proofs.Common.{◌≡◌, ◌∙◌, refl, sym, ap, subst, ℕ, zero, suc, List, [], ◌∷◌, length, Option, Some, None}
use Rattle.std.specs.Prelude.{Contains, IsSome, slice_get}
use Rattle.std.specs.List.{AllZip}
use Rattle.ooo_value.specs.declared.bound.BoundChannel.{BoundChannel}
use Rattle.ooo_value.specs.declared.bound.BoundVariable.{BoundVariable}
use Rattle.ooo_value.specs.declared.bound.ChannelKind.{ChannelKind}
use Rattle.ooo_value.specs.declared.bound.ChannelKind.TheVariants as channel
use Rattle.ooo_value.specs.declared.kinds.Kind.{Kind}
use Rattle.ooo_code.specs.Sound.{IsOwn, Typed, variable_kind, signal_kind, fifo_kind}
use Rattle.ooo_bound.specs.declared.model.Bound.{Bound}
use Rattle.ooo_checked.specs.declared.denotation.Denotation.{Denotation}
use Rattle.ooo_checked.specs.declared.denotation.Thing.{Thing}
use Rattle.ooo_checked.specs.declared.denotation.Thing.TheVariants as thing
use Rattle.ooo_checked.specs.declared.module.CheckedParam.{CheckedParam}
use Rattle.ooo_checked.specs.Scopes.{Scope, meaning_of}
use Rattle.ooo_constants.specs.declared.meaning.Meaning.{Meaning}
use Rattle.ooo_numbers.specs.Names.{Numbering, channel_meant, port_channel, event_meant, function_meant, variable_meant}
use Rattle.ooo_walk.specs.declared.state.Walk.{Walk}
use Rattle.ooo_walk.specs.declared.state.WalkedChannel.{WalkedChannel}
use Rattle.ooo_elaborate.specs.Bindings.{channels_of, links_of}
use Rattle.ooo_elaborate.specs.Elaborated.{bound_channels}
use Rattle.ooo_elaborate.specs.Processes.{kinds_of}
use Rattle.ooo_sound_model.specs.Naming.{Leave, Agrees, MeansFunction, MeansThing}
use Rattle.ooo_sound_walk.specs.Names.{IsChannel, IsOf, IsOwnEvent, IsPort, IsVariable}
use Rattle.ooo_sound_model.specs.Ports.{IsBoundTo}
use Rattle.ooo_sound_model.specs.Texts.{AllStand, IsDeclared, Stands}
use Rattle.ooo_sound_model.specs.Whole.{PortsEnd}
use Rattle.ooo_sound_model.proofs.Parts.{channel_at}
use Rattle.ooo_sound_model.proofs.Ports.{ports_fit}
use Rattle.ooo_walk.specs.Plans.{Viewed}

-- ---- lists

pub zip_length : {A B : Type 0} (R : A → B → Type 0) (xs : List A) (ys : List B) → AllZip R xs ys → length xs ≡ length ys
zip_length R [] [] h = refl
zip_length R [] (y ∷ ys) h = absurd h
zip_length R (x ∷ xs) [] h = absurd h
zip_length R (x ∷ xs) (y ∷ ys) h = ap suc (zip_length R xs ys h.1)

pub zip_at : {A B : Type 0} (R : A → B → Type 0) (xs : List A) (ys : List B) → AllZip R xs ys → (i : ℕ) (x : A) → slice_get xs i ≡ Some x →
    (y : B) × (slice_get ys i ≡ Some y) × R x y
zip_at R [] ys h i x at = absurd cc
zip_at R (z ∷ xs) [] h i x at = absurd h
zip_at {A} R (z ∷ xs) (y ∷ ys) h zero x at = let same : z ≡ x = cc in (y, refl, subst (λ (a : A). R a y) same h.0)
zip_at R (z ∷ xs) (y ∷ ys) h (suc i) x at = zip_at R xs ys h.1 i x at

pub params_length : (ps : List CheckedParam) → length (kinds_of ps) ≡ length ps
params_length [] = refl
params_length (p ∷ ps) = ap suc (params_length ps)

-- ---- channels

signal_is : (b : BoundChannel) (k : Kind) → b.kind ≡ channel.Signal → b.value ≡ k → signal_kind (Some b) ≡ Some k
signal_is b k kind value =
    ap (λ (j : ChannelKind). let t : Typed = elim j [ channel.Signal ↦ Some b.value | channel.Fifo ↦ None ] in t) kind ∙ ap Some value

fifo_is : (b : BoundChannel) (k : Kind) → b.kind ≡ channel.Fifo → b.value ≡ k → fifo_kind (Some b) ≡ Some k
fifo_is b k kind value =
    ap (λ (j : ChannelKind). let t : Typed = elim j [ channel.Signal ↦ None | channel.Fifo ↦ Some b.value ] in t) kind ∙ ap Some value

-- ---- what names mean

-- what a name of a module needs that is no function
pub record IsMeantAs (w : Walk) (n : Numbering) (d : Denotation) (t : Thing) : Type 0 where
  pub meaning : Meaning
  pub at : slice_get n.members d.number ≡ Some meaning
  pub is : IsOf w t meaning

module _ (w : Walk) (b : Bound) (n : Numbering) (ends : PortsEnd w) (same_variables : w.variables ≡ b.variables)
    (same_channels : bound_channels w.channels ≡ b.channels) (same_events : w.events ≡ b.events)
    (same_ports : channels_of (links_of w).ends (links_of w).ends ≡ n.ports) where
  signal_there : (c : ℕ) (d : WalkedChannel) (k : Kind) → slice_get w.channels c ≡ Some d → d.bound.kind ≡ channel.Signal → d.bound.value ≡ k →
      signal_kind (slice_get b.channels c) ≡ Some k
  signal_there c d k at kind value =
      ap (λ cs. signal_kind (slice_get cs c)) (sym same_channels) ∙ ap signal_kind (channel_at w.channels c d at) ∙ signal_is d.bound k kind value

  fifo_there : (c : ℕ) (d : WalkedChannel) (k : Kind) → slice_get w.channels c ≡ Some d → d.bound.kind ≡ channel.Fifo → d.bound.value ≡ k →
      fifo_kind (slice_get b.channels c) ≡ Some k
  fifo_there c d k at kind value =
      ap (λ cs. fifo_kind (slice_get cs c)) (sym same_channels) ∙ ap fifo_kind (channel_at w.channels c d at) ∙ fifo_is d.bound k kind value

  variable_there : (m : Meaning) → IsVariable w m → IsSome (variable_kind (slice_get b.variables (variable_meant (Some m))))
  variable_there m h =
      subst (λ (x : Meaning). IsSome (variable_kind (slice_get b.variables (variable_meant (Some x))))) (sym h.means)
      (subst (λ xs. IsSome (variable_kind (slice_get xs h.number))) same_variables (at (slice_get w.variables h.number) h.there))
    where
      at : (o : Option BoundVariable) → IsSome o → IsSome (variable_kind o)
      at None h = absurd cc
      at (Some x) h = refl

  event_there : (m : Meaning) → IsOwnEvent w m → IsOwn (slice_get b.events (event_meant (Some m)))
  event_there m h =
      subst (λ (x : Meaning). IsOwn (slice_get b.events (event_meant (Some x)))) (sym h.means)
      (subst (λ xs. IsOwn (slice_get xs h.number)) same_events (subst IsOwn (sym h.there) tt))

  -- the channel that a port is bound to in the end
  port_there : (t : Thing) (m : Meaning) → IsPort w t m → IsBoundTo w t (channel_meant n.ports (Some m))
  port_there t m h =
      let e = ends h.number h.port h.there in
      let bound : IsBoundTo w h.port.form e.channel = ports_fit w h.number e.channel h.port h.there e.is in
      let is : channel_meant n.ports (Some m) ≡ e.channel =
      ap (λ (x : Meaning). channel_meant n.ports (Some x)) h.means
      ∙ ap port_channel (ap (λ ps. slice_get ps h.number) (sym same_ports) ∙ e.is) in
      subst (IsBoundTo w t) (sym is) (subst (λ u. IsBoundTo w u e.channel) h.form bound)

  signal_named : (k : Kind) (m : Meaning) → IsChannel w channel.Signal k m → signal_kind (slice_get b.channels (channel_meant n.ports (Some m))) ≡ Some k
  signal_named k m h =
      ap (λ (x : Meaning). signal_kind (slice_get b.channels (channel_meant n.ports (Some x)))) h.means
      ∙ signal_there h.number h.channel k h.there h.kind h.value

  fifo_named : (k : Kind) (m : Meaning) → IsChannel w channel.Fifo k m → fifo_kind (slice_get b.channels (channel_meant n.ports (Some m))) ≡ Some k
  fifo_named k m h =
      ap (λ (x : Meaning). fifo_kind (slice_get b.channels (channel_meant n.ports (Some x)))) h.means
      ∙ fifo_there h.number h.channel k h.there h.kind h.value

  module _ (l : Leave) (d : Denotation) where
    meant_variable : (m : Meaning) → slice_get n.members d.number ≡ Some m → IsVariable w m →
        IsSome (variable_kind (slice_get b.variables (variable_meant (slice_get n.members d.number))))
    meant_variable m at h = subst (λ o. IsSome (variable_kind (slice_get b.variables (variable_meant o)))) (sym at) (variable_there m h)

    meant_signal : (k : Kind) (m : Meaning) → slice_get n.members d.number ≡ Some m →
        signal_kind (slice_get b.channels (channel_meant n.ports (Some m))) ≡ Some k →
        signal_kind (slice_get b.channels (channel_meant n.ports (slice_get n.members d.number))) ≡ Some k
    meant_signal k m at h = ap (λ o. signal_kind (slice_get b.channels (channel_meant n.ports o))) at ∙ h

    meant_fifo : (k : Kind) (m : Meaning) → slice_get n.members d.number ≡ Some m →
        fifo_kind (slice_get b.channels (channel_meant n.ports (Some m))) ≡ Some k →
        fifo_kind (slice_get b.channels (channel_meant n.ports (slice_get n.members d.number))) ≡ Some k
    meant_fifo k m at h = ap (λ o. fifo_kind (slice_get b.channels (channel_meant n.ports o))) at ∙ h

  module _ (v : Viewed) (l : Leave)
      (known : (d : Denotation) (t : Thing) → ((gives : Option Kind) (params : ℕ) → t ≡ thing.Function gives params → ⊥) → IsDeclared v d t → IsMeantAs w n d t)
      (called : (d : Denotation) (params : ℕ) → IsDeclared v d (thing.Function None params) → Contains l.calls d.number →
      MeansFunction b l (function_meant (slice_get n.members d.number)) params) where
    means : (d : Denotation) (t : Thing) → Stands v d t → MeansThing b n l d t
    means d (thing.Variable k) h = let r = known d (thing.Variable k) (λ g p e. cc) h in meant_variable l d r.meaning r.at r.is
    means d (thing.Array k) h = let r = known d (thing.Array k) (λ g p e. cc) h in meant_variable l d r.meaning r.at r.is
    means d (thing.FixedArray k) h = let r = known d (thing.FixedArray k) (λ g p e. cc) h in meant_variable l d r.meaning r.at r.is
    means d (thing.Signal k) h =
        let r = known d (thing.Signal k) (λ g p e. cc) h in meant_signal l d k r.meaning r.at (signal_named k r.meaning r.is)
    means d (thing.Fifo k) h =
        let r = known d (thing.Fifo k) (λ g p e. cc) h in meant_fifo l d k r.meaning r.at (fifo_named k r.meaning r.is)
    means d (thing.SignalPort direction k) h =
        let r = known d (thing.SignalPort direction k) (λ g p e. cc) h in
        let c = port_there (thing.SignalPort direction k) r.meaning r.is in
        meant_signal l d k r.meaning r.at (signal_there (channel_meant n.ports (Some r.meaning)) c.channel k c.there c.fits.0 c.fits.1)
    means d (thing.FifoIn k) h =
        let r = known d (thing.FifoIn k) (λ g p e. cc) h in
        let c = port_there (thing.FifoIn k) r.meaning r.is in
        meant_fifo l d k r.meaning r.at (fifo_there (channel_meant n.ports (Some r.meaning)) c.channel k c.there c.fits.0 c.fits.1)
    means d (thing.FifoOut k) h =
        let r = known d (thing.FifoOut k) (λ g p e. cc) h in
        let c = port_there (thing.FifoOut k) r.meaning r.is in
        meant_fifo l d k r.meaning r.at (fifo_there (channel_meant n.ports (Some r.meaning)) c.channel k c.there c.fits.0 c.fits.1)
    means d thing.Event h =
        let r = known d thing.Event (λ g p e. cc) h in
        subst (λ o. IsOwn (slice_get b.events (event_meant o))) (sym r.at) (event_there r.meaning r.is)
    means d (thing.Function gives params) h = λ at. called d params h at
    means d _ h = tt

    pub agrees : (s : Scope) → AllStand v s → Agrees b n l s
    agrees s h name = means (meaning_of s name) (meaning_of s name).thing (h name)
