-- Room for more.
use Rattle.std.proofs.Common.{◌≡◌, ℕ, suc, ◌+◌, ◌≤◌, ◌<◌, ◌⊎◌, inl, inr, Bool, true, false, cond, List, [], ◌∷◌, Some, refl, ap, sym, subst, ◌∙◌, arith, length, length-append, get_or, set, take}
use Rattle.std.specs.Prelude.{slice_get, filter}
use Rattle.std.proofs.lemmas.Bool.{cases_lt}
use Rattle.std.proofs.lemmas.List.{length-set, take_more, take_all}
use Rattle.std.proofs.lemmas.List.Elements.{filter-append}
use Rattle.ooo_value.specs.declared.bound.BoundChannel.{BoundChannel}
use Rattle.ooo_value.specs.declared.bound.BoundEvent.TheVariants as event
use Rattle.ooo_value.specs.declared.bound.ChannelKind.{ChannelKind}
use Rattle.ooo_code.specs.declared.activation.Effect.{Effect}
use Rattle.ooo_code.specs.declared.activation.Effect.TheVariants as effect
use Rattle.ooo_time.specs.declared.time.Time.{Time}
use Rattle.ooo_value.specs.declared.values.Value.{Value}
use Rattle.ooo_value.specs.declared.bound.ChannelKind.TheVariants as kind
use Rattle.ooo_channels.specs.Conditions.{Names, HasChannel}
use Rattle.ooo_channels.specs.declared.notices.Notice.TheVariants as notice
use Rattle.ooo_channels.specs.declared.channel.ChannelState.{ChannelState}
use Rattle.ooo_channels.specs.declared.channel.ChannelState.TheVariants as state
use Rattle.ooo_channels.specs.Operations.{Operations, is_on, is_call_on}
use Rattle.ooo_channels.specs.Calls.{channel_calls, own_calls}
use Rattle.ooo_channels.specs.Bank.{BankState, IsBankAfter, Covers, HasMoreRoom, HasRoomFor, ChannelHasRoom, EventHasRoom}
use Rattle.ooo_channels.proofs.Banked.{set_cases, get_or_same, all_kept-set}
use Rattle.ooo_channels.proofs.Applying.{HasRoom-less}
use Rattle.ooo_time.specs.declared.stamp.Stamp.{Stamp}
use Rattle.ooo_value.specs.declared.bound.BoundEvent.{BoundEvent}
use Rattle.ooo_events.specs.declared.call.Call.{Call}
use Rattle.ooo_events.specs.Calls.{Follows}
use Rattle.ooo_events.specs.Events.{EventState, IsEventAfter}
use Rattle.ooo_code.specs.Channels.{Channel, IsSignal}
use Rattle.ooo_channels.specs.Versions.{signal_of}
use Rattle.ooo_channels.specs.declared.signal.SignalState.{SignalState}
use Rattle.ooo_channels.specs.declared.fifo.FifoState.{FifoState}
use Rattle.ooo_channels.specs.Cycles.{Cycle, cycle_of, channel_before}
use Rattle.ooo_channels.specs.Room.{HasSignalRoom, HasFifoRoom, HasRoom, count}
use Rattle.ooo_channels.specs.Kept.{IsEventKept, IsNotice, IsSignalAfter, IsFifoAfter, IsChannelAfter, ChannelShows, HasKind, Keeps}

-- an event with more room
pub event_reserved :
    (below : Stamp) (x y : EventState) (calls : List Call) → y ≡ record x { spare = y.spare } → ((cs : List Call) → IsEventAfter x cs → IsEventAfter y cs) →
    IsEventKept below x calls → IsEventKept below y calls
event_reserved below x y calls rest after h = record {
  after = after calls h.after;
  remembers = λ s later f e. h.remembers s later f (sym (ap (λ z. z.forgotten) rest) ∙ e);
}

pub notice_reserved :
    (below stamp : Stamp) (x y : EventState) (calls : List Call) → y ≡ record x { spare = y.spare } → ((cs : List Call) → IsEventAfter x cs → IsEventAfter y cs) →
    IsNotice below stamp (notice.Kept x) calls → IsNotice below stamp (notice.Kept y) calls
notice_reserved below stamp x y calls rest after h = record {
  kept = event_reserved below x y calls rest after h.kept;
  by = subst (λ l. Follows l stamp) (sym (ap (λ z. z.last) rest)) h.by;
}

-- a signal with other room, or other events
pub signal_with :
    (s t : SignalState) (c : ℕ) (below : Stamp) (x : Cycle) (calls : BoundEvent → List Call) →
    t ≡ record s { past = t.past; history = t.history; changes = t.changes; rises = t.rises; falls = t.falls } → t.history.items ≡ s.history.items →
    (IsNotice below x.stamp s.changes (calls (event.Changed c)) → IsNotice below x.stamp t.changes (calls (event.Changed c))) →
    (IsNotice below x.stamp s.rises (calls (event.Rise c)) → IsNotice below x.stamp t.rises (calls (event.Rise c))) →
    (IsNotice below x.stamp s.falls (calls (event.Fall c)) → IsNotice below x.stamp t.falls (calls (event.Fall c))) →
    HasSignalRoom 0 t → IsSignalAfter c below x calls s → IsSignalAfter c below x calls t
signal_with s t c below x calls same history changes rises falls room h = record {
  cycle = record {
    stamp = ap (λ z. z.newest.stamp) same ∙ h.cycle.stamp;
    channel = ap (λ z. IsSignal (signal_of z.newest)) same ∙ h.cycle.channel;
    history = history ∙ h.cycle.history;
  };
  changes = changes h.changes;
  rises = rises h.rises;
  falls = falls h.falls;
  room = room;
}

-- a fifo with other room, or other events
pub fifo_with :
    (s t : FifoState) (c : ℕ) (below : Stamp) (x : Cycle) (calls : BoundEvent → List Call) →
    t ≡ record s { history = t.history; values = t.values; puts = t.puts; takes = t.takes } → t.history.items ≡ s.history.items → t.values.items ≡ s.values.items →
    (IsNotice below x.stamp s.puts (calls (event.Written c)) → IsNotice below x.stamp t.puts (calls (event.Written c))) →
    (IsNotice below x.stamp s.takes (calls (event.Taken c)) → IsNotice below x.stamp t.takes (calls (event.Taken c))) →
    HasFifoRoom 0 t → IsFifoAfter c below x calls s → IsFifoAfter c below x calls t
fifo_with s t c below x calls same history values puts takes room h = record {
  cycle = record {
    fifo = h.cycle.fifo;
    channel = h.cycle.channel;
    stamp = ap (λ z. z.stamp) same ∙ h.cycle.stamp;
    size = h.cycle.size ∙ sym (ap (λ z. z.size) same);
    values = h.cycle.values ∙ sym values;
    read = h.cycle.read ∙ sym (ap (λ z. z.read) same);
    written = h.cycle.written ∙ sym (ap (λ z. z.written) same);
    within = h.cycle.within;
    fits = h.cycle.fits;
    history = history ∙ h.cycle.history;
  };
  puts = puts h.puts;
  takes = takes h.takes;
  room = room;
}

-- ---- a bank

module _ (xs : List ChannelState) (kinds : List BoundEvent) (es : List EventState) (below : Stamp) where
  abbrev bank : BankState
  bank = record { channels = xs; kinds = kinds; events = es; below = below }

  -- a bank with more room for a channel
  pub more_on_channel :
      (c : ℕ) (s t : ChannelState) → c < length xs → s ≡ get_or xs c s → ((m : ℕ) → HasRoom m s → HasRoom m t) → ((k : ChannelKind) → HasKind k s → HasKind k t) → ((k : BoundEvent) → Keeps k s → Keeps k t) →
      ((c : ℕ) (below : Stamp) (x : Cycle) (calls : BoundEvent → List Call) → IsChannelAfter c below x calls s → IsChannelAfter c below x calls t) →
      ((below : Stamp) (was : Stamp → Channel) → ChannelShows below was s → ChannelShows below was t) →
      HasMoreRoom bank (record { channels = set xs c t; kinds = kinds; events = es; below = below })
  more_on_channel c s t lt is room kind keeps after shows = record {
    after = λ ops h. record {
      channel_count = length-set xs c t ∙ h.channel_count;
      event_count = h.event_count;
      kinds = h.kinds;
      below = h.below;
      channel_kinds = λ d z b at. set_cases (λ j a. (b : BoundChannel) → slice_get ops.channels j ≡ Some b → HasKind b.kind a) xs c t z lt
          (λ b at. kind b.kind (subst (HasKind b.kind) (sym is) (h.channel_kinds c s b at))) (λ j ne b at. h.channel_kinds j z b at) d b at;
      channels = λ d z within. set_cases (λ j a. j < length xs → IsChannelAfter j ops.below (cycle_of ops j) (channel_calls ops) a) xs c t z lt
          (λ _. after c ops.below (cycle_of ops c) (channel_calls ops) (subst (IsChannelAfter c ops.below (cycle_of ops c) (channel_calls ops)) (sym is) (h.channels c s lt))) (λ j ne there. h.channels j z there) d (let l = length-set xs c t in omega (arith, within, l));
      shows = λ d z within. set_cases (λ j a. j < length xs → ChannelShows ops.below (channel_before ops j) a) xs c t z lt
          (λ _. shows ops.below (channel_before ops c) (subst (ChannelShows ops.below (channel_before ops c)) (sym is) (h.shows c s lt))) (λ j ne there. h.shows j z there) d (let l = length-set xs c t in omega (arith, within, l));
      events = h.events;
      present = all_kept-set xs c s t lt is keeps ops.events h.present;
    };
    channel_count = length-set xs c t;
    event_count = refl;
    channels = λ d z n had. set_cases (λ j a. HasRoom n (get_or xs j z) → HasRoom n a) xs c t z lt
        (λ had. room n (subst (HasRoom n) (sym is) (subst (HasRoom n) (get_or_same xs c z s lt) had))) (λ j ne had. had) d had;
    events = λ e z. omega arith;
  }

  -- a bank with more room for an event
  pub more_on_event :
      (e : ℕ) (x y : EventState) → e < length es → x ≡ get_or es e x → y ≡ record x { spare = y.spare } → x.spare ≤ y.spare → ((cs : List Call) → IsEventAfter x cs → IsEventAfter y cs) →
      HasMoreRoom bank (record { channels = xs; kinds = kinds; events = set es e y; below = below })
  more_on_event e x y lt is rest spare after = record {
    after = λ ops h. record {
      channel_count = h.channel_count;
      event_count = length-set es e y ∙ h.event_count;
      kinds = h.kinds;
      below = h.below;
      channel_kinds = h.channel_kinds;
      channels = h.channels;
      shows = h.shows;
      events = λ d z own. set_cases (λ j a. slice_get ops.events j ≡ Some event.Own → IsEventKept ops.below a (own_calls ops j)) es e y z lt
          (λ own. event_reserved ops.below x y (own_calls ops e) rest after (subst (λ a. IsEventKept ops.below a (own_calls ops e)) (sym is) (h.events e x own))) (λ j ne own. h.events j z own) d own;
      present = h.present;
    };
    channel_count = refl;
    event_count = length-set es e y;
    channels = λ d z n had. had;
    events = λ d z. set_cases (λ j a. (get_or es j z).spare ≤ a.spare) es e y z lt
        (omega (arith, spare, ap (λ a. a.spare) is, ap (λ a. a.spare) (get_or_same es e z x lt))) (λ j ne. omega arith) d;
  }

-- ---- effects one by one

-- room has been made for the first effects of a list
pub record HasReserved (start now : BankState) (effects : List Effect) (i : ℕ) : Type 0 where
  pub more : HasMoreRoom start now
  pub channels : (c : ℕ) → 1 ≤ count (is_on c) (take i effects) → ChannelHasRoom now (length effects) c
  pub events : (e : ℕ) → 1 ≤ count (is_call_on e) (take i effects) → EventHasRoom now (length effects) e

pub reserved_none : (start : BankState) (effects : List Effect) → HasReserved start start effects 0
reserved_none start effects = record {
  more = record { after = λ ops h. h; channel_count = refl; event_count = refl; channels = λ c d n had. had; events = λ e d. omega arith };
  channels = λ c some. absurd (omega arith);
  events = λ e some. absurd (omega arith);
}

pub more-trans : (a b c : BankState) → HasMoreRoom a b → HasMoreRoom b c → HasMoreRoom a c
more-trans a b c h k = record {
  after = λ ops was. k.after ops (h.after ops was);
  channel_count = k.channel_count ∙ h.channel_count;
  event_count = k.event_count ∙ h.event_count;
  channels = λ d s n had. k.channels d s n (h.channels d s n had);
  events = λ e x. omega (arith, h.events e x, k.events e x);
}

-- what passes among one more effect
count-more : (test : Effect → Bool) (effects : List Effect) (i : ℕ) (d : Effect) → i < length effects → 1 ≤ count test (take (i + 1) effects) →
    (test (get_or effects i d) ≡ true) ⊎ (1 ≤ count test (take i effects))
count-more test effects i d lt some = go (test (get_or effects i d)) refl where
  f : Effect
  f = get_or effects i d

  split : count test (take (i + 1) effects) ≡ count test (take i effects) + count test (f ∷ [])
  split = ap (count test) (take_more effects i d lt) ∙ ap length (filter-append test (take i effects) (f ∷ [])) ∙ length-append _ _

  go : (b : Bool) → test f ≡ b → (test f ≡ true) ⊎ (1 ≤ count test (take i effects))
  go true e = inl e
  go false e = inr (let none : count test (f ∷ []) ≡ 0 = ap (λ b. length (cond b (f ∷ []) [])) e in omega (arith, some, split, none))

pub reserved_more :
    (start now next : BankState) (effects : List Effect) (i : ℕ) (d : Effect) → i < length effects → HasReserved start now effects i →
    HasMoreRoom now next → HasRoomFor next (get_or effects i d) (length effects) → HasReserved start next effects (i + 1)
reserved_more start now next effects i d lt h more room = record {
  more = more-trans start now next h.more more;
  channels = λ c some. channel c (count-more (is_on c) effects i d lt some);
  events = λ e some. called e (count-more (is_call_on e) effects i d lt some);
} where
  channel : (c : ℕ) → (is_on c (get_or effects i d) ≡ true) ⊎ (1 ≤ count (is_on c) (take i effects)) → ChannelHasRoom next (length effects) c
  channel c (inl on) = room.channels c on
  channel c (inr some) = λ s within. more.channels c s (length effects) (h.channels c some s (omega (arith, within, more.channel_count)))

  called : (e : ℕ) → (is_call_on e (get_or effects i d) ≡ true) ⊎ (1 ≤ count (is_call_on e) (take i effects)) → EventHasRoom next (length effects) e
  called e (inl on) = room.events e on
  called e (inr some) = λ x within. omega (arith, more.events e x, h.events e some x (omega (arith, within, more.event_count)))

-- there are no more of some effects than effects
count-le : (test : Effect → Bool) (fs : List Effect) → count test fs ≤ length fs
count-le test [] = omega arith
count-le test (f ∷ fs) = go (test f) (count-le test fs) where
  go : (b : Bool) → count test fs ≤ length fs → length (cond b (f ∷ filter test fs) (filter test fs)) ≤ suc (length fs)
  go true le = omega arith
  go false le = omega arith

pub reserved_all :
    (start now : BankState) (effects : List Effect) (i : ℕ) (ops : Operations) → length effects ≤ i → HasReserved start now effects i → IsBankAfter start ops → Covers now effects
reserved_all start now effects i ops le h was = record {
  channels = λ c s within. channel c s within (cases_lt (count (is_on c) effects) 1);
  events = λ e x within. called e x within (cases_lt (count (is_call_on e) effects) 1);
} where
  all : take i effects ≡ effects
  all = take_all i effects le

  kept : IsBankAfter now ops
  kept = h.more.after ops was

  empty : (c : ℕ) (s : ChannelState) → IsChannelAfter c ops.below (cycle_of ops c) (channel_calls ops) s → HasRoom 0 s
  empty c (state.Signal s) is = is.room
  empty c (state.Fifo s) is = is.room

  channel : (c : ℕ) (s : ChannelState) → c < length now.channels → (count (is_on c) effects < 1) ⊎ (1 ≤ count (is_on c) effects) → HasRoom (count (is_on c) effects) (get_or now.channels c s)
  channel c s within (inl none) = HasRoom-less 0 _ (get_or now.channels c s) (omega (arith, none)) (empty c (get_or now.channels c s) (kept.channels c s within))
  channel c s within (inr some) = HasRoom-less (length effects) _ (get_or now.channels c s) (count-le (is_on c) effects) (h.channels c (subst (λ fs. 1 ≤ count (is_on c) fs) (sym all) some) s within)

  called : (e : ℕ) (x : EventState) → e < length now.events → (count (is_call_on e) effects < 1) ⊎ (1 ≤ count (is_call_on e) effects) → count (is_call_on e) effects ≤ (get_or now.events e x).spare
  called e x within (inl none) = omega (arith, none)
  called e x within (inr some) = omega (arith, count-le (is_call_on e) effects, h.events e (subst (λ fs. 1 ≤ count (is_call_on e) fs) (sym all) some) x within)

-- what was covered still is
pub covers_still : (old new : BankState) (fs : List Effect) → HasMoreRoom old new → Covers old fs → Covers new fs
covers_still old new fs more room = record {
  channels = λ c s within. more.channels c s _ (room.channels c s (omega (arith, within, more.channel_count)));
  events = λ e x within. omega (arith, more.events e x, room.events e x (omega (arith, within, more.event_count)));
}

-- what an effect names is there
pub named_event :
    (ops : Operations) (f : Effect) (e : ℕ) → ((k : Time) × (f ≡ effect.Notify e k)) ⊎ (f ≡ effect.Cancel e) → Names ops f → slice_get ops.events e ≡ Some event.Own
named_event ops f e (inl is) names = subst (Names ops) is.1 names
named_event ops f e (inr is) names = subst (Names ops) is names

pub named_channel :
    (ops : Operations) (f : Effect) (c : ℕ) → ((v : Value) × (f ≡ effect.Request c v)) ⊎ (((v : Value) × (f ≡ effect.Put c v)) ⊎ (f ≡ effect.Take c)) → Names ops f →
    (k : ChannelKind) × HasChannel ops c k
named_channel ops f c (inl is) names = (kind.Signal, subst (Names ops) is.1 names)
named_channel ops f c (inr (inl is)) names = (kind.Fifo, subst (Names ops) is.1 names)
named_channel ops f c (inr (inr is)) names = (kind.Fifo, subst (Names ops) is names)
