-- The parts of a model that is given.
use Rattle.std.proofs.Common.{◌≡◌, ◌∙◌, refl, ap, subst, arith, ℕ, zero, suc, ◌+◌, ◌<◌, List, [], ◌∷◌, length, Option, Some, None}
use Rattle.std.specs.Prelude.{All, slice_get, if◌then◌else◌}
use Rattle.std.proofs.lemmas.List.Elements.{All-contains}
use Rattle.std.proofs.lemmas.Option.{slice_get_within, get_or_from_slice_get}
use Rattle.ooo_value.specs.declared.bound.BoundChannel.{BoundChannel}
use Rattle.ooo_value.specs.declared.bound.ChannelKind.{ChannelKind}
use Rattle.ooo_value.specs.declared.bound.ChannelKind.TheVariants as channel
use Rattle.ooo_value.specs.declared.kinds.Kind.{Kind}
use Rattle.ooo_code.specs.Sound.{FitsChannel, FitsEvent, Typed, signal_kind, fifo_kind}
use Rattle.ooo_bound.specs.declared.model.Bound.{Bound}
use Rattle.ooo_checked.specs.declared.unit.CheckedUnit.{CheckedUnit}
use Rattle.ooo_checked.specs.Things.{is_bool}
use Rattle.ooo_numbers.specs.Names.{number_in}
use Rattle.ooo_walk.specs.declared.state.Walk.{Walk}
use Rattle.ooo_walk.specs.declared.state.WalkedChannel.{WalkedChannel}
use Rattle.ooo_walk.specs.Texts.{file_of, walk_of}
use Rattle.ooo_elaborate.specs.Bindings.{links_of}
use Rattle.ooo_elaborate.specs.Elaborated.{assembled, bound_channels, first_events, model_of}
use Rattle.ooo_elaborate.specs.Functions.{numbered}
use Rattle.ooo_elaborate.specs.Processes.{processes_of}
use Rattle.ooo_elaborate.specs.declared.processes.Model.{Model}
use Rattle.ooo_walk.specs.Plans.{Filed}
use Rattle.ooo_walk.specs.declared.state.WalkedInstance.{WalkedInstance}
use Rattle.ooo_walk.specs.declared.state.WalkedProcess.{WalkedProcess}
use Rattle.ooo_sound_walk.specs.Parts.{FitsWalk, WalksAreRight, bounds_of, last_event as last_of}
use Rattle.ooo_sound_model.specs.Naming.{last_event}
use Rattle.ooo_sound_model.specs.Ends.{AreClosed, EndsOfOne}
use Rattle.ooo_sound_model.specs.Parts.{FitsParts, AreRightParts, HaveOneHolder}
use Rattle.ooo_sound_model.proofs.Ends.{ends_of_one}
use Rattle.ooo_sound_model.proofs.Passed.{passed}

same_channels : (cs : List WalkedChannel) → bounds_of cs ≡ bound_channels cs
same_channels [] = refl
same_channels (c ∷ cs) = ap (λ bs. c.bound ∷ bs) (same_channels cs)

channels_length : (cs : List WalkedChannel) → length (bound_channels cs) ≡ length cs
channels_length [] = refl
channels_length (c ∷ cs) = ap suc (channels_length cs)

pub channel_at : (cs : List WalkedChannel) (c : ℕ) (d : WalkedChannel) → slice_get cs c ≡ Some d → slice_get (bound_channels cs) c ≡ Some d.bound
channel_at [] c d h = absurd cc
channel_at (x ∷ cs) zero d h = let same : x ≡ d = cc in ap (λ (e : WalkedChannel). Some e.bound) same
channel_at (x ∷ cs) (suc c) d h = channel_at cs c d h

processes_length : (f : Filed) (m : Model) (is : List WalkedInstance) (ps : List WalkedProcess) → length (processes_of f m is ps) ≡ length ps
processes_length f m is [] = refl
processes_length f m is (p ∷ ps) = ap suc (processes_length f m is ps)

-- ---- events

-- the channel at a place, with its first event
record Placed (cs : List WalkedChannel) (c : ℕ) (b : BoundChannel) : Type 0 where
  pub channel : WalkedChannel
  pub at : slice_get cs c ≡ Some channel
  pub bound : channel.bound ≡ b
  pub first : number_in (slice_get (first_events cs) c) ≡ channel.first_event

placed : (cs : List WalkedChannel) (c : ℕ) (b : BoundChannel) → slice_get (bound_channels cs) c ≡ Some b → Placed cs c b
placed [] c b is = absurd cc
placed (d ∷ cs) zero b is = record { channel = d; at = refl; bound = cc; first = refl }
placed (d ∷ cs) (suc c) b is =
    let r = placed cs c b is in record { channel = r.channel; at = r.at; bound = r.bound; first = r.first }

first_below : (w : Walk) → FitsWalk w → (c : ℕ) (b : BoundChannel) → slice_get (bound_channels w.channels) c ≡ Some b →
    number_in (slice_get (first_events w.channels) c) + last_of b < length w.events
first_below w h c b is =
    let r = placed w.channels c b is in
    let below : r.channel.first_event + last_of r.channel.bound < length w.events =
    All-contains (λ (d : WalkedChannel). d.first_event + last_of d.bound < length w.events) w.channels r.channel h.firsts
    (c, slice_get_within w.channels c r.channel r.at, get_or_from_slice_get w.channels c r.channel r.channel r.at) in
    let last : last_of r.channel.bound ≡ last_of b = ap last_of r.bound in
    let first = r.first in omega (arith, below, last, first)

signal_last : (b : BoundChannel) (k : Kind) → signal_kind (Some b) ≡ Some k → last_of b ≡ last_event k
signal_last b k is = at b.kind refl is
  where
    at : (j : ChannelKind) → b.kind ≡ j → (let t : Typed = elim j [ channel.Signal ↦ Some b.value | channel.Fifo ↦ None ] in t) ≡ Some k →
        last_of b ≡ last_event k
    at channel.Signal of is =
        let same : b.value ≡ k = cc in
        ap (λ (j : ChannelKind). let n : ℕ = elim j [ channel.Signal ↦ if is_bool b.value then 2 else 0 | channel.Fifo ↦ 1 ] in n) of ∙ ap last_event same
    at channel.Fifo of is = absurd cc

fifo_last : (b : BoundChannel) (k : Kind) → fifo_kind (Some b) ≡ Some k → last_of b ≡ 1
fifo_last b k is = at b.kind refl is
  where
    at : (j : ChannelKind) → b.kind ≡ j → (let t : Typed = elim j [ channel.Signal ↦ None | channel.Fifo ↦ Some b.value ] in t) ≡ Some k →
        last_of b ≡ 1
    at channel.Fifo of is =
        ap (λ (j : ChannelKind). let n : ℕ = elim j [ channel.Signal ↦ if is_bool b.value then 2 else 0 | channel.Fifo ↦ 1 ] in n) of
    at channel.Signal of is = absurd cc

signals_found : (w : Walk) → FitsWalk w → (c : ℕ) (k : Kind) (o : Option BoundChannel) → slice_get (bound_channels w.channels) c ≡ o →
    signal_kind o ≡ Some k → number_in (slice_get (first_events w.channels) c) + last_event k < length w.events
signals_found w h c k None of is = absurd cc
signals_found w h c k (Some b) of is =
    subst (λ n. number_in (slice_get (first_events w.channels) c) + n < length w.events) (signal_last b k is) (first_below w h c b of)

fifos_found : (w : Walk) → FitsWalk w → (c : ℕ) (k : Kind) (o : Option BoundChannel) → slice_get (bound_channels w.channels) c ≡ o →
    fifo_kind o ≡ Some k → number_in (slice_get (first_events w.channels) c) + 1 < length w.events
fifos_found w h c k None of is = absurd cc
fifos_found w h c k (Some b) of is =
    subst (λ n. number_in (slice_get (first_events w.channels) c) + n < length w.events) (fifo_last b k is) (first_below w h c b of)

-- ---- laws

made_right : (u : CheckedUnit) → FitsWalk (walk_of u) →
    let w = walk_of u in FitsParts u (assembled (file_of u) w (links_of w) (numbered (file_of u) w.instances))
made_right u h =
    let w = walk_of u in record {
      variables = h.variables;
      channels = subst (All FitsChannel) (same_channels w.channels) h.channels;
      events = subst (λ bs. All (FitsEvent bs) w.events) (same_channels w.channels) h.events;
      found = λ members. record {
        signals = λ c k is. signals_found w h c k (slice_get (bound_channels w.channels) c) refl is;
        fifos = λ c k is. fifos_found w h c k (slice_get (bound_channels w.channels) c) refl is;
      };
    }

pub right_parts : WalksAreRight → AreRightParts
right_parts walks u b is = subst (FitsParts u) (passed u b is).is (made_right u (walks u))

pub one_holder : HaveOneHolder
one_holder u b is =
    let p = passed u b is in
    let w = walk_of u in
    let f = file_of u in
    let n = numbered f w.instances in
    subst (λ (b : Bound). AreClosed f n.instances w.processes b → (c : ℕ) → c < length b.channels → EndsOfOne b c) p.is
    (λ closed c within.
    let m = model_of w (links_of w) in
    let all = channels_length w.channels in
    ends_of_one f w n (assembled f w (links_of w) n) (processes_length f m n.instances w.processes) closed p.held c (omega (arith, within, all)))
