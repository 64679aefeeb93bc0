-- A bank that forgets.
use Rattle.std.proofs.Common.{◌≡◌, ℕ, Bool, cond, List, [], ◌∷◌, ◌++◌, subst}
use Rattle.ooo_time.specs.declared.stamp.Stamp.{Stamp}
use Rattle.ooo_time.specs.Stamps.{IsBefore}
use Rattle.ooo_value.specs.declared.bound.BoundEvent.{BoundEvent}
use Rattle.ooo_events.specs.declared.call.Call.{Call}
use Rattle.ooo_code.specs.Channels.{Channel}
use Rattle.ooo_events.specs.Events.{EventState}
use Rattle.ooo_channels.specs.declared.notices.Notice.{Notice}
use Rattle.ooo_channels.specs.declared.notices.Notice.TheVariants as notice
use Rattle.ooo_channels.specs.declared.channel.ChannelState.{ChannelState}
use Rattle.ooo_channels.specs.declared.channel.ChannelState.TheVariants as state
use Rattle.ooo_channels.specs.Operations.{Operations, later_of, after_forgetting}
use Rattle.ooo_channels.specs.Cycles.{Cycle, cycle_of, channel_before}
use Rattle.ooo_channels.specs.Calls.{notified_by, own_calls}
use Rattle.ooo_channels.specs.Kept.{IsEventKept, IsNotice, IsChannelAfter, ChannelShows}
use Rattle.ooo_channels.specs.Bank.{IsBankAfter}
use Rattle.ooo_channels.proofs.Orders.{Earlier, earlier, not_earlier, earlier_or_not, IsBefore-irrefl, IsBefore-trans}
use Rattle.ooo_channels.proofs.Versions.{starts_later}

-- what isn't before the later of two stamps is before neither
not_before-later_of : (a b s : Stamp) → ¬ IsBefore s (later_of a b) → ¬ IsBefore s a
not_before-later_of a b s = go (earlier_or_not a b) where
  go : {t : Bool} → Earlier a b t → ¬ IsBefore s (cond t b a) → ¬ IsBefore s a
  go (earlier h) not = λ k. not (IsBefore-trans s a b k h)
  go (not_earlier h) not = not

module _ (below more : Stamp) (wider : (s : Stamp) → ¬ IsBefore s more → ¬ IsBefore s below) where
  event_wider : (x : EventState) (calls : List Call) → IsEventKept below x calls → IsEventKept more x calls
  event_wider x calls h = record { after = h.after; remembers = λ s later. h.remembers s (wider s later) }

  notice_wider : (stamp : Stamp) (x : Notice) (calls : List Call) → IsNotice below stamp x calls → IsNotice more stamp x calls
  notice_wider stamp (notice.Kept x) calls h = record { kept = event_wider x calls h.kept; by = h.by }
  notice_wider stamp notice.Absent calls h = record { kept = tt; by = tt }

  channel_wider : (c : ℕ) (x : Cycle) (calls : BoundEvent → List Call) (s : ChannelState) → IsChannelAfter c below x calls s → IsChannelAfter c more x calls s
  channel_wider c x calls (state.Signal s) h = record {
    cycle = h.cycle;
    changes = notice_wider x.stamp s.changes _ h.changes;
    rises = notice_wider x.stamp s.rises _ h.rises;
    falls = notice_wider x.stamp s.falls _ h.falls;
    room = h.room;
  }
  channel_wider c x calls (state.Fifo s) h = record {
    cycle = h.cycle;
    puts = notice_wider x.stamp s.puts _ h.puts;
    takes = notice_wider x.stamp s.takes _ h.takes;
    room = h.room;
  }

  channel_shows : (was : Stamp → Channel) (s : ChannelState) → ChannelShows below was s → ChannelShows more was s
  channel_shows was (state.Signal s) h = record { start = starts_later below more (wider more (IsBefore-irrefl more)) (s.past.items ++ s.newest ∷ []) h.start; each = h.each }
  channel_shows was (state.Fifo s) h = tt

-- a bank that forgets more
pub bank_forgets :
    (xs : List ChannelState) (kinds : List BoundEvent) (es : List EventState) (was now below : Stamp) (ops : Operations) →
    now ≡ later_of was below → IsBankAfter (record { channels = xs; kinds = kinds; events = es; below = was }) ops →
    IsBankAfter (record { channels = xs; kinds = kinds; events = es; below = now }) (after_forgetting below ops)
unfolding cycle_of notified_by own_calls
bank_forgets xs kinds es was now below ops is h = record {
  channel_count = h.channel_count;
  event_count = h.event_count;
  kinds = h.kinds;
  below = subst (λ b. now ≡ later_of b below) h.below is;
  channel_kinds = h.channel_kinds;
  channels = λ c d lt. channel_wider ops.below (later_of ops.below below) (λ s. not_before-later_of ops.below below s) c _ _ _ (h.channels c d lt);
  shows = λ c d lt. channel_shows ops.below (later_of ops.below below) (λ s. not_before-later_of ops.below below s) (channel_before ops c) _ (h.shows c d lt);
  events = λ e d own. event_wider ops.below (later_of ops.below below) (λ s. not_before-later_of ops.below below s) _ _ (h.events e d own);
  present = h.present;
}
