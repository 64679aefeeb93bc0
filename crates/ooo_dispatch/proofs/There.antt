-- The events on which a segment's entry waits are there, with their channels.
use Rattle.std.proofs.Common.{◌≡◌, ℕ, ◌<◌, inl, ⊎_elim, List, [], ◌∷◌, length, true, false, Option, Some, None, refl, sym, ap, ◌∙◌, subst}
use Rattle.std.specs.Prelude.{slice_get, Contains, IsSome, IsSomeAnd}
use Rattle.std.proofs.lemmas.List.Elements.{All-contains}
use Rattle.ooo_time.specs.declared.stamp.Stamp.{Stamp}
use Rattle.ooo_value.specs.declared.bound.BoundChannel.{BoundChannel}
use Rattle.ooo_value.specs.declared.bound.BoundEvent.{BoundEvent}
use Rattle.ooo_value.specs.declared.bound.BoundEvent.TheVariants as event
use Rattle.ooo_value.specs.declared.bound.ChannelKind.{ChannelKind}
use Rattle.ooo_value.specs.declared.bound.ChannelKind.TheVariants as channel
use Rattle.ooo_value.specs.declared.bound.ProcessKind.{ProcessKind}
use Rattle.ooo_value.specs.declared.bound.ProcessKind.TheVariants.{Thread, Method}
use Rattle.ooo_value.specs.declared.kinds.Kind.TheVariants as value_kind
use Rattle.ooo_code.specs.declared.activation.Effect.{Effect}
use Rattle.ooo_code.specs.declared.design.Proc.{Proc}
use Rattle.ooo_code.specs.declared.node.NodeKind.{NodeKind}
use Rattle.ooo_code.specs.declared.node.NodeKind.TheVariants as kind
use Rattle.ooo_code.specs.declared.segment.SegmentEntry.{SegmentEntry}
use Rattle.ooo_code.specs.declared.segment.SegmentEntry.TheVariants.{Start, After}
use Rattle.ooo_code.specs.Nodes.{entry_node}
use Rattle.ooo_code.specs.Segments.{EntryWaitsOn, IsTriggerOf, StartWaitsOn, entries_of, trigger_events, wait_events}
use Rattle.ooo_code.specs.Sound.{FitsEvent, FitsNode, FitsProcess, IsSound, Scope, Typed, fifo_kind, scope_of, signal_kind}
use Rattle.ooo_channels.specs.Conditions.{FitsChannels, HasChannel, HasEventAt}
use Rattle.ooo_channels.specs.Operations.{Operations, after_effect, after_effects}
use Rattle.ooo_schedules.specs.Model.{In}
use Rattle.ooo_dispatch.specs.Boards.{AreRules}
use Rattle.ooo_dispatch.specs.Rules.{Rules, deed_of, operations_of, waits_on}
use Rattle.ooo_dispatch.proofs.Accessed.{contained, element, fits, here_of, in_contained, some_is}
use Rattle.ooo_dispatch.proofs.Calls.{waits_there, waits_yes}
use Rattle.ooo_dispatch.proofs.Commits.{Activation}
use Rattle.ooo_dispatch.proofs.Own.{entry_own, entry_wait, own_node}

-- ---- what a node names

wait_fits : (names : Scope) (events : List BoundEvent) (k : NodeKind) (e : ℕ) → FitsNode names events k → Contains (wait_events k) e → e < length events
wait_fits names events (kind.Wait w) e h c = All-contains (λ n. n < length events) w.events e h.events_are c
wait_fits names events k e h c = absurd (in_contained [] e c)

trigger_fits : (names : Scope) (events : List BoundEvent) (k : NodeKind) (e : ℕ) → FitsNode names events k → Contains (trigger_events k) e → e < length events
trigger_fits names events (kind.Trigger w) e h c = All-contains (λ n. n < length events) w.events e h.events_are c
trigger_fits names events k e h c = absurd (in_contained [] e c)

module _ (r : Rules) (rules : AreRules r) (sound : IsSound r.design) where
  module _ (process : Proc) (whole : FitsProcess r.design process) (e : ℕ) where
    static_fits : Contains process.sensitive e → e < length r.design.events
    static_fits c = All-contains (λ n. n < length r.design.events) process.sensitive e whole.events c

    triggered_fits : IsTriggerOf r.design process e → e < length r.design.events
    triggered_fits t =
        let own = own_node r.design process whole (entry_node r.design process Start) t.number (entry_own r.design process whole Start (inl refl)) t.within in
        trigger_fits (scope_of r.design process) r.design.events t.node.kind e (whole.nodes t.number t.node own t.is).names t.names

    start_fits : (k : ProcessKind) → StartWaitsOn r.design process k e → e < length r.design.events
    start_fits Thread h = static_fits h.1
    start_fits Method h = ⊎_elim (λ c. static_fits c) (λ t. triggered_fits t) h

    entry_fits : (entry : SegmentEntry) → In entry (entries_of r.design process) → EntryWaitsOn r.design process entry e → e < length r.design.events
    entry_fits Start i h = start_fits process.kind h
    entry_fits (After m) i h =
        let w = entry_wait r.design process whole m i in
        let names : Contains (wait_events w.node.kind) e = subst (λ o. IsSomeAnd o (λ node. Contains (wait_events node.kind) e)) w.is h in
        wait_fits (scope_of r.design process) r.design.events w.node.kind e (whole.nodes m w.node w.own w.is).names names

  -- an event on which the entry of a segment waits is one of the design
  pub waited_there : (g e : ℕ) → waits_on r g e ≡ true → e < length r.design.events
  waited_there g e h =
      let t = waits_there r g e h in
      let here = here_of r rules sound g t.access t.is in
      let same = some_is t.access here.access (sym t.is ∙ here.access_is) in
      let waits : Contains here.access.waited e = subst (λ a. Contains a.waited e) (t.same ∙ same) (waits_yes r g e h) in
      entry_fits here.process (fits r rules sound g here) e here.segment.entry (in_contained (entries_of r.design here.process) here.segment.entry here.whole.entry) ((here.accesses.waited e).0 waits)

  -- and its channel fits it
  pub event_fits : (e : ℕ) (k : BoundEvent) → slice_get r.design.events e ≡ Some k → FitsEvent r.design.channels k
  event_fits e k is = All-contains (FitsEvent r.design.channels) r.design.events k sound.events (contained r.design.events e k is)

-- ---- the operations of a log have the channels and events of the design

channels_same : (at : Stamp) (fs : List Effect) (ops : Operations) → (after_effects at ops fs).channels ≡ ops.channels
channels_same at [] ops = refl
channels_same at (f ∷ fs) ops = channels_same at fs (after_effect at ops f)

events_same : (at : Stamp) (fs : List Effect) (ops : Operations) → (after_effects at ops fs).events ≡ ops.events
events_same at [] ops = refl
events_same at (f ∷ fs) ops = events_same at fs (after_effect at ops f)

pub channels_of : (r : Rules) (log : List Activation) → (operations_of r log).channels ≡ r.design.channels
channels_of r [] = refl
channels_of r (y ∷ ys) = channels_same y.stamp (deed_of r y).effects (operations_of r ys) ∙ channels_of r ys

pub events_of : (r : Rules) (log : List Activation) → (operations_of r log).events ≡ r.design.events
events_of r [] = refl
events_of r (y ∷ ys) = events_same y.stamp (deed_of r y).effects (operations_of r ys) ∙ events_of r ys

-- ---- so they have the event

module _ (ops : Operations) (c : ℕ) where
  a_signal : IsSome (signal_kind (slice_get ops.channels c)) → HasChannel ops c channel.Signal
  a_signal h = by (slice_get ops.channels c) refl h
    where
      at : (b : BoundChannel) → slice_get ops.channels c ≡ Some b → (k : ChannelKind) → b.kind ≡ k → IsSome (elim k [ channel.Signal ↦ Some b.value | channel.Fifo ↦ None ]) → HasChannel ops c channel.Signal
      at b e channel.Signal i x = record { channel = b; is = e; kind = i }
      at b e channel.Fifo i x = let f : false ≡ true = x in absurd cc

      by : (o : Option BoundChannel) → slice_get ops.channels c ≡ o → IsSome (signal_kind o) → HasChannel ops c channel.Signal
      by None e x = let f : false ≡ true = x in absurd cc
      by (Some b) e x = at b e b.kind refl x

  a_fifo : IsSome (fifo_kind (slice_get ops.channels c)) → HasChannel ops c channel.Fifo
  a_fifo h = by (slice_get ops.channels c) refl h
    where
      at : (b : BoundChannel) → slice_get ops.channels c ≡ Some b → (k : ChannelKind) → b.kind ≡ k → IsSome (elim k [ channel.Signal ↦ None | channel.Fifo ↦ Some b.value ]) → HasChannel ops c channel.Fifo
      at b e channel.Signal i x = let f : false ≡ true = x in absurd cc
      at b e channel.Fifo i x = record { channel = b; is = e; kind = i }

      by : (o : Option BoundChannel) → slice_get ops.channels c ≡ o → IsSome (fifo_kind o) → HasChannel ops c channel.Fifo
      by None e x = let f : false ≡ true = x in absurd cc
      by (Some b) e x = at b e b.kind refl x

pub is_bool : (k : Typed) → k ≡ Some value_kind.Bool → IsSome k
is_bool k h = subst (λ x. IsSome x) (sym h) refl

channel_fits : (ops : Operations) (k : BoundEvent) → FitsEvent ops.channels k → FitsChannels ops k
channel_fits ops event.Own h = tt
channel_fits ops (event.Changed c) h = a_signal ops c h
channel_fits ops (event.Rise c) h = a_signal ops c (is_bool _ h)
channel_fits ops (event.Fall c) h = a_signal ops c (is_bool _ h)
channel_fits ops (event.Written c) h = a_fifo ops c h
channel_fits ops (event.Taken c) h = a_fifo ops c h

-- an event on which the entry of a segment waits
pub has_event : (r : Rules) (rules : AreRules r) (sound : IsSound r.design) (log : List Activation) (g e : ℕ) → waits_on r g e ≡ true → HasEventAt (operations_of r log) e
has_event r rules sound log g e h =
    let k = element r.design.events e (waited_there r rules sound g e h) in
    record {
      kind = k.0;
      is = ap (λ xs. slice_get xs e) (events_of r log) ∙ k.1;
      fits = channel_fits (operations_of r log) k.0 (subst (λ cs. FitsEvent cs k.0) (sym (channels_of r log)) (event_fits r rules sound e k.0 k.1));
    }
