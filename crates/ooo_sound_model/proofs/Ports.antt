-- The channel behind a port is of the kind and the type that the port needs.
use Rattle.std.proofs.Common.{◌≡◌, ◌∙◌, refl, ap, sym, subst, ℕ, zero, suc, List, [], ◌∷◌, length, slice_set, Bool, true, false, Option, Some, None, ◌⊎◌, inl, inr}
use Rattle.std.specs.Prelude.{slice_get, not, ◌&&◌, is_some, if◌then◌else◌}
use Rattle.std.proofs.lemmas.Bool.{and_parts}
use Rattle.ooo_lemmas.proofs.Placed.{replicated, set_cases}
use Rattle.ooo_value.specs.declared.bound.ChannelKind.{ChannelKind}
use Rattle.ooo_value.specs.declared.bound.ChannelKind.TheVariants as channel
use Rattle.ooo_value.specs.declared.kinds.Kind.{Kind}
use Rattle.ooo_value.specs.declared.kinds.Kind.TheVariants as kind
use Rattle.ooo_checked.specs.declared.denotation.Thing.{Thing}
use Rattle.ooo_checked.specs.declared.denotation.Thing.TheVariants as thing
use Rattle.ooo_constants.specs.declared.meaning.Meaning.{Meaning}
use Rattle.ooo_constants.specs.declared.meaning.Meaning.TheVariants as meaning
use Rattle.ooo_walk.specs.declared.refusal.ElabBreach.TheVariants as what
use Rattle.ooo_walk.specs.declared.state.Walk.{Walk}
use Rattle.ooo_walk.specs.declared.state.WalkedBinding.{WalkedBinding}
use Rattle.ooo_walk.specs.declared.state.WalkedChannel.{WalkedChannel}
use Rattle.ooo_walk.specs.declared.state.WalkedPort.{WalkedPort}
use Rattle.ooo_elaborate.specs.declared.bindings.Links.{Links}
use Rattle.ooo_elaborate.specs.Bindings.{same_kind, is_signal, is_in, fits_channel, fits_port, fits_found_channel, fits_found_port, fits, unbound, is_nothing, refusal_of, linked_port, linked_found, linked, links_by, links_of, channel_meant, channel_behind, channels_of}
use Rattle.ooo_sound_model.specs.Ports.{HasKind, IsBoundTo, PortsFit}

same_is : (j k : Kind) → same_kind j k ≡ true → j ≡ k
same_is kind.Bool kind.Bool h = refl
same_is kind.Bool kind.Int h = absurd cc
same_is kind.Bool kind.Uint h = absurd cc
same_is kind.Bool kind.Long h = absurd cc
same_is kind.Bool kind.Ulong h = absurd cc
same_is kind.Int kind.Bool h = absurd cc
same_is kind.Int kind.Int h = refl
same_is kind.Int kind.Uint h = absurd cc
same_is kind.Int kind.Long h = absurd cc
same_is kind.Int kind.Ulong h = absurd cc
same_is kind.Uint kind.Bool h = absurd cc
same_is kind.Uint kind.Int h = absurd cc
same_is kind.Uint kind.Uint h = refl
same_is kind.Uint kind.Long h = absurd cc
same_is kind.Uint kind.Ulong h = absurd cc
same_is kind.Long kind.Bool h = absurd cc
same_is kind.Long kind.Int h = absurd cc
same_is kind.Long kind.Uint h = absurd cc
same_is kind.Long kind.Long h = refl
same_is kind.Long kind.Ulong h = absurd cc
same_is kind.Ulong kind.Bool h = absurd cc
same_is kind.Ulong kind.Int h = absurd cc
same_is kind.Ulong kind.Uint h = absurd cc
same_is kind.Ulong kind.Long h = absurd cc
same_is kind.Ulong kind.Ulong h = refl

signal_is : (k : ChannelKind) → is_signal k ≡ true → k ≡ channel.Signal
signal_is channel.Signal h = refl
signal_is channel.Fifo h = absurd cc

fifo_is : (k : ChannelKind) → not (is_signal k) ≡ true → k ≡ channel.Fifo
fifo_is channel.Signal h = absurd cc
fifo_is channel.Fifo h = refl

-- ---- what fits

channel_fits : (t : Thing) (c : WalkedChannel) → fits_channel t c ≡ true → HasKind t c
channel_fits (thing.SignalPort d k) c h =
    let two = and_parts (is_signal c.bound.kind && same_kind c.bound.value k) (if c.is_clock then is_in d else true) h in
    let one = and_parts (is_signal c.bound.kind) (same_kind c.bound.value k) two.0 in
    (signal_is c.bound.kind one.0, same_is c.bound.value k one.1)
channel_fits (thing.FifoIn k) c h =
    let one = and_parts (not (is_signal c.bound.kind)) (same_kind c.bound.value k) h in
    (fifo_is c.bound.kind one.0, same_is c.bound.value k one.1)
channel_fits (thing.FifoOut k) c h =
    let one = and_parts (not (is_signal c.bound.kind)) (same_kind c.bound.value k) h in
    (fifo_is c.bound.kind one.0, same_is c.bound.value k one.1)
channel_fits _ c h = tt

-- what fits a port of the parent fits a port that is bound to it
port_fits : (t u : Thing) (c : WalkedChannel) → fits_port t u ≡ true → HasKind u c → HasKind t c
port_fits (thing.SignalPort d k) (thing.SignalPort e j) c h g =
    let one = and_parts (same_kind j k) (if is_in d then true else not (is_in e)) h in (g.0, g.1 ∙ same_is j k one.0)
port_fits (thing.FifoIn k) (thing.FifoIn j) c h g = (g.0, g.1 ∙ same_is j k h)
port_fits (thing.FifoOut k) (thing.FifoOut j) c h g = (g.0, g.1 ∙ same_is j k h)
port_fits (thing.SignalPort d k) u c h g = absurd cc
port_fits (thing.FifoIn k) u c h g = absurd cc
port_fits (thing.FifoOut k) u c h g = absurd cc
port_fits _ u c h g = tt

-- ---- bindings

-- what each port is bound to so far fits it
abbrev Fit : Walk → List Meaning → Type 0
Fit w ends = (p : ℕ) (m : Meaning) (port : WalkedPort) → slice_get ends p ≡ Some m → slice_get w.ports p ≡ Some port →
    (m ≡ meaning.Nothing) ⊎ (fits w port.form m ≡ true)

set_fits : (w : Walk) (b : WalkedBinding) (q : WalkedPort) (ends : List Meaning) → slice_get w.ports b.port ≡ Some q →
    fits w q.form b.to ≡ true → Fit w ends → Fit w (slice_set ends b.port b.to)
set_fits w b q ends at good h p m port is there = elim (set_cases ends b.port b.to p m is) [
  | inl old ↦ h p m port old there
  | inr new ↦
      let same : Some q ≡ Some port = sym at ∙ ap (λ i. slice_get w.ports i) new.0 ∙ there in
      let here : q ≡ port = cc in
      inr (subst (λ (x : WalkedPort). fits w x.form m ≡ true) here (subst (λ x. fits w q.form x ≡ true) new.1 good))
]

-- a binding, by whether it fits and whether the port is bound to nothing so far
abbrev port_if : (good nothing : Bool) → WalkedBinding → WalkedPort → Links → Links
port_if good nothing b q l =
    if not good then record l { refusal = refusal_of what.PortKind b.at q.name }
    else (if nothing then record l { ends = slice_set l.ends b.port b.to }
    else record l { refusal = refusal_of what.PortBoundTwice b.at q.name })

port_by : (good nothing : Bool) (w : Walk) (b : WalkedBinding) (q : WalkedPort) (l : Links) → slice_get w.ports b.port ≡ Some q →
    fits w q.form b.to ≡ good → Fit w l.ends → Fit w (port_if good nothing b q l).ends
port_by false nothing w b q l at is h = h
port_by true true w b q l at is h = set_fits w b q l.ends at is h
port_by true false w b q l at is h = h

port_fit : (w : Walk) (b : WalkedBinding) (q : WalkedPort) (so_far : Meaning) (l : Links) → slice_get w.ports b.port ≡ Some q →
    Fit w l.ends → Fit w (linked_port w b q so_far l).ends
port_fit w b q so_far l at h = port_by (fits w q.form b.to) (is_nothing so_far) w b q l at refl h

found_fit : (w : Walk) (b : WalkedBinding) (o : Option WalkedPort) (so_far : Option Meaning) (l : Links) → slice_get w.ports b.port ≡ o →
    Fit w l.ends → Fit w (linked_found w b o so_far l).ends
found_fit w b (Some q) (Some so_far) l at h = port_fit w b q so_far l at h
found_fit w b (Some q) None l at h = h
found_fit w b None so_far l at h = h

linked_fit : (w : Walk) (b : WalkedBinding) (l : Links) → Fit w l.ends → Fit w (linked w b l).ends
linked_fit w b l h =
    elim (is_some l.refusal)
    as (λ t. let k : Links = if t then l else linked_found w b (slice_get w.ports b.port) (slice_get l.ends b.port) l in Fit w k.ends)
    [ true ↦ h | false ↦ found_fit w b (slice_get w.ports b.port) (slice_get l.ends b.port) l refl h ]

links_fit : (w : Walk) (bs : List WalkedBinding) (l : Links) → Fit w l.ends → Fit w (links_by w bs l).ends
links_fit w [] l h = h
links_fit w (b ∷ bs) l h = links_fit w bs (linked w b l) (linked_fit w b l h)

all_fit : (w : Walk) → Fit w (links_of w).ends
all_fit w = links_fit w w.bindings (unbound (length w.ports)) (λ p m port is there. inl (replicated (length w.ports) meaning.Nothing m p is))

-- ---- channels in the end

module _ (w : Walk) (ends : List Meaning) (all : Fit w ends) where
  at_channel : (t : Thing) (c : ℕ) (o : Option WalkedChannel) → slice_get w.channels c ≡ o → fits_found_channel t o ≡ true → IsBoundTo w t c
  at_channel t c None at h = absurd cc
  at_channel t c (Some d) at h = record { channel = d; there = at; fits = channel_fits t d h }

  meant_is : (t : Thing) (m : Meaning) (c : ℕ) → fits w t m ≡ true → channel_meant (Some m) ≡ Some c → IsBoundTo w t c
  meant_is t (meaning.Channel d) c h is =
      let same : d ≡ c = cc in subst (IsBoundTo w t) same (at_channel t d (slice_get w.channels d) refl h)
  meant_is t (meaning.Variable x) c h is = absurd cc
  meant_is t (meaning.Constant v) c h is = absurd cc
  meant_is t (meaning.Port p) c h is = absurd cc
  meant_is t (meaning.Event e) c h is = absurd cc
  meant_is t (meaning.Instance i) c h is = absurd cc
  meant_is t (meaning.Function f) c h is = absurd cc
  meant_is t meaning.Nothing c h is = absurd cc

  nothing_behind : (left c : ℕ) → channel_behind left ends (Some meaning.Nothing) ≡ Some c → ⊥
  nothing_behind zero c is = absurd cc
  nothing_behind (suc left) c is = absurd cc

  none_behind : (left c : ℕ) → channel_behind left ends None ≡ Some c → ⊥
  none_behind zero c is = absurd cc
  none_behind (suc left) c is = absurd cc

  -- through a port that a port is bound to
  abbrev Behind : ℕ → Type 0
  Behind left = (t : Thing) (m : Meaning) (c : ℕ) → fits w t m ≡ true → channel_behind left ends (Some m) ≡ Some c → IsBoundTo w t c

  further : (left : ℕ) → Behind left → (t : Thing) (q c : ℕ) (port : Option WalkedPort) (o : Option Meaning) → slice_get w.ports q ≡ port →
      slice_get ends q ≡ o → fits_found_port t port ≡ true → channel_behind left ends o ≡ Some c → IsBoundTo w t c
  further left more t q c None o there at h is = absurd cc
  further left more t q c (Some port) None there at h is = absurd (none_behind left c is)
  further left more t q c (Some port) (Some m) there at h is = elim (all q m port at there) [
    | inl nothing ↦ absurd (nothing_behind left c (ap (λ x. channel_behind left ends (Some x)) (sym nothing) ∙ is))
    | inr good ↦
        let b = more port.form m c good is in
        record { channel = b.channel; there = b.there; fits = port_fits t port.form b.channel h b.fits }
  ]

  behind_fits : (left : ℕ) → Behind left
  behind_fits zero t m c h is = meant_is t m c h is
  behind_fits (suc left) t (meaning.Port q) c h is =
      further left (behind_fits left) t q c (slice_get w.ports q) (slice_get ends q) refl refl h is
  behind_fits (suc left) t m c h is = meant_is t m c h is

-- of each port in a list
at_place : (all ports : List Meaning) (p c : ℕ) → slice_get (channels_of all ports) p ≡ Some (Some c) →
    (m : Meaning) × (slice_get ports p ≡ Some m) × (channel_behind (length all) all (Some m) ≡ Some c)
at_place all [] p c h = absurd cc
at_place all (m ∷ ms) zero c h = (m, refl, cc)
at_place all (m ∷ ms) (suc p) c h = at_place all ms p c h

pub ports_fit : PortsFit
ports_fit w p c port there is =
    let ends = (links_of w).ends in
    let m = at_place ends ends p c is in
    elim (all_fit w p m.0 port m.1 there) [
      | inl nothing ↦ absurd (nothing_behind w ends (all_fit w) (length ends) c
          (ap (λ x. channel_behind (length ends) ends (Some x)) (sym nothing) ∙ m.2))
      | inr good ↦ behind_fits w ends (all_fit w) (length ends) port.form m.0 c good m.2
    ]
