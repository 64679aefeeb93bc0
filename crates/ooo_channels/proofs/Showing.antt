-- What the world shows of channels and events, and which effects are in order, where the operations agree with it.
use Rattle.std.proofs.Common.{ℕ, ◌<◌, List, refl, sym, length}
use Rattle.std.proofs.lemmas.Option.{slice_get_within}
use Rattle.ooo_time.specs.declared.stamp.Stamp.{Stamp}
use Rattle.ooo_value.specs.declared.bound.BoundEvent.{BoundEvent}
use Rattle.ooo_value.specs.declared.bound.BoundEvent.TheVariants as event
use Rattle.ooo_events.specs.Slots.{Slot}
use Rattle.ooo_code.specs.declared.activation.Effect.{Effect}
use Rattle.ooo_code.specs.declared.activation.Effect.TheVariants as effect
use Rattle.ooo_code.specs.Channels.{Channel}
use Rattle.ooo_history.specs.declared.run.Entry.{Entry}
use Rattle.ooo_meaning.specs.World.{World, slot_at, channel_at}
use Rattle.ooo_channels.specs.Operations.{Operations, after_forgetting}
use Rattle.ooo_channels.specs.Cycles.{channel_in, cycle_of}
use Rattle.ooo_channels.specs.Calls.{own_calls, notified_by}
use Rattle.ooo_channels.specs.Conditions.{Names, IsInOrder}
use Rattle.ooo_channels.specs.Apart.{AreAllSame}
use Rattle.ooo_channels.specs.Agreement.{ChannelAgrees, OwnAgrees, NoticeAgrees, EventAgrees, Agrees, IsShown, history_at}
use Rattle.ooo_channels.proofs.Cores.{seen_alike, readable_alike, writable_alike, left_alike}
use Rattle.ooo_channels.proofs.Agreeing.{Source, own, of_channel, source_of, as_notice, of_notice, fits_as}

pub shown : (ops : Operations) (w : World) (c : ℕ) → Agrees ops w → c < length ops.channels → IsShown ops w c
shown ops w c h lt =
    let x = channel_in w.stamp ops c in
    let y = channel_at w.channels c in
    let alike = (h.channels c lt).channel in
    record {
      signal = λ seen is. seen_alike w.stamp.time x y seen alike is;
      available = readable_alike w.stamp.time x y alike;
      free = writable_alike w.stamp.time x y alike;
      left = left_alike w.stamp.time x y alike;
      history = sym (h.channels c lt).history;
    }

pub effect_in_order : (ops : Operations) (w : World) (f : Effect) → Agrees ops w → Names ops f → IsInOrder ops w.stamp f
effect_in_order ops w (effect.Request c v) h names = (h.channels c (slice_get_within ops.channels c names.channel names.is)).by
effect_in_order ops w (effect.Put c v) h names = (h.channels c (slice_get_within ops.channels c names.channel names.is)).by
effect_in_order ops w (effect.Take c) h names = (h.channels c (slice_get_within ops.channels c names.channel names.is)).by
effect_in_order ops w (effect.Notify e k) h names = (h.slots e event.Own names tt).by
effect_in_order ops w (effect.Cancel e) h names = (h.slots e event.Own names tt).by
effect_in_order ops w effect.Stop h names = tt

-- ---- what is forgotten

pub all_same : (ops : Operations) (below : Stamp) → AreAllSame ops (after_forgetting below ops)
unfolding cycle_of notified_by own_calls
all_same ops below = record { channels = λ c. refl; before = λ c at. refl; notices = λ k. refl; own = λ e. refl }

channel_forgotten : (ops : Operations) (now below : Stamp) (c : ℕ) (x : Channel) (h : List Entry) → ChannelAgrees ops now c x h → ChannelAgrees (after_forgetting below ops) now c x h
unfolding cycle_of
channel_forgotten ops now below c x h was = record { by = was.by; channel = was.channel; history = was.history }

own_forgotten : (ops : Operations) (now below : Stamp) (e : ℕ) (x : Slot) → OwnAgrees ops now e x → OwnAgrees (after_forgetting below ops) now e x
unfolding own_calls
own_forgotten ops now below e x was = record { in_order = was.in_order; by = was.by; slot = was.slot }

notice_forgotten : (ops : Operations) (now below : Stamp) (k : BoundEvent) (x : Slot) → NoticeAgrees ops now k x → NoticeAgrees (after_forgetting below ops) now k x
unfolding notified_by cycle_of
notice_forgotten ops now below k x was = record { in_order = was.in_order; by = was.by; quiet = was.quiet; pending = was.pending }

event_forgotten : (ops : Operations) (now below : Stamp) (e : ℕ) (x : Slot) {k : BoundEvent} → Source k → EventAgrees ops now e k x → EventAgrees (after_forgetting below ops) now e k x
event_forgotten ops now below e x own was = own_forgotten ops now below e x was
event_forgotten ops now below e x (of_channel {k = k} ne) was =
    of_notice (after_forgetting below ops) now e k x ne (notice_forgotten ops now below k x (as_notice ops now e k x ne was))

pub forgotten_agrees : (ops : Operations) (w : World) (below : Stamp) → Agrees ops w → Agrees (after_forgetting below ops) w
forgotten_agrees ops w below h = record {
  channel_count = h.channel_count;
  history_count = h.history_count;
  events = h.events;
  slot_count = h.slot_count;
  channels = λ c lt. channel_forgotten ops w.stamp below c (channel_at w.channels c) (history_at w.histories c) (h.channels c lt);
  slots = λ e k is fits. event_forgotten ops w.stamp below e (slot_at w.slots e) (source_of k) (h.slots e k is (fits_as ops (after_forgetting below ops) k refl fits));
}
