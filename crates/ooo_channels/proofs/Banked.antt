-- A bank after one more effect.
use Rattle.std.proofs.Common.{◌≡◌, ◌≢◌, ℕ, zero, suc, ◌+◌, ◌<◌, ◌≤◌, ◌++◌, true, false, cond, arith, List, [], ◌∷◌, Some, refl, ap, sym, subst, ◌∙◌, append-nil, length, get_or, set, ⊎_elim, add-one}
use Rattle.std.specs.Prelude.{slice_get, filter, All}
use Rattle.std.proofs.lemmas.Bool.{cases_eq}
use Rattle.std.proofs.lemmas.List.{get_or-set_same, get_or-set_other, length-set}
use Rattle.std.proofs.lemmas.Option.{slice_get_within}
use Rattle.ooo_time.specs.declared.stamp.Stamp.{Stamp}
use Rattle.ooo_value.specs.declared.bound.BoundChannel.{BoundChannel}
use Rattle.ooo_value.specs.declared.bound.BoundEvent.{BoundEvent}
use Rattle.ooo_value.specs.declared.bound.BoundEvent.TheVariants as event
use Rattle.ooo_value.specs.declared.bound.ChannelKind.{ChannelKind}
use Rattle.ooo_value.specs.declared.bound.ChannelKind.TheVariants as kind
use Rattle.ooo_events.specs.declared.call.Call.{Call}
use Rattle.ooo_events.specs.Events.{EventState}
use Rattle.ooo_code.specs.declared.activation.Effect.{Effect}
use Rattle.ooo_code.specs.Channels.{Channel}
use Rattle.ooo_channels.specs.declared.channel.ChannelState.{ChannelState}
use Rattle.ooo_channels.specs.declared.channel.ChannelState.TheVariants as state
use Rattle.ooo_channels.specs.Operations.{Operations, after_effect, is_on, is_call_on}
use Rattle.ooo_channels.specs.Cycles.{cycle_of, cycle_after, channel_before}
use Rattle.ooo_channels.specs.Calls.{own_calls, own_call, channel_calls, channel_of, renewals}
use Rattle.ooo_channels.specs.Conditions.{HasChannel}
use Rattle.ooo_channels.specs.Kept.{IsEventKept, IsChannelAfter, IsChannelNext, ChannelShows, HasKind, Keeps}
use Rattle.ooo_channels.specs.Room.{HasRoom, count}
use Rattle.ooo_channels.specs.Bank.{BankState, IsBankAfter, IsKeptIn, Covers}
use Rattle.ooo_channels.proofs.Steps.{operation, cycle_of-other, cycle_of-on, channel_calls-other, channel_calls-after, own_calls-after, IsChannelAfter-calls}
use Rattle.ooo_channels.proofs.Versions.{AreVersionsOf-same}
use Rattle.ooo_channels.proofs.Befores.{channel_before-other}

-- what holds of the place that is set, and of each other, holds of each
pub set_cases : {A : Type 0} (P : ℕ → A → Type 0) (xs : List A) (i : ℕ) (x d : A) → i < length xs → P i x → ((j : ℕ) → j ≢ i → P j (get_or xs j d)) → (j : ℕ) → P j (get_or (set xs i x) j d)
set_cases P xs i x d lt h k j =
    ⊎_elim
    (λ e. subst (λ n. P n (get_or (set xs i x) n d)) (sym e) (subst (P i) (sym (get_or-set_same xs i x d lt)) h))
    (λ ne. subst (P j) (sym (get_or-set_other xs i j x d ne)) (k j ne))
    (cases_eq j i)

-- an element that is there is the same for any default
pub get_or_same : {A : Type 0} (xs : List A) (i : ℕ) (d e : A) → i < length xs → get_or xs i d ≡ get_or xs i e
get_or_same [] i d e lt = absurd (omega arith)
get_or_same (x ∷ xs) zero d e lt = refl
get_or_same (x ∷ xs) (suc i) d e lt = get_or_same xs i d e (omega arith)

-- a channel in whose place another one stands that keeps the same events
module _ (xs : List ChannelState) (c : ℕ) (s t : ChannelState) (lt : c < length xs) (is : s ≡ get_or xs c s) (keeps : (k : BoundEvent) → Keeps k s → Keeps k t) where
  pub kept_in-set : (k : BoundEvent) → IsKeptIn xs k → IsKeptIn (set xs c t) k
  kept_in-set k h = λ d within.
      set_cases (λ j x. channel_of k ≡ j → Keeps k x) xs c t d lt
      (λ at. keeps k (subst (Keeps k) (sym is) (subst (λ n. Keeps k (get_or xs n s)) at (h s (omega (arith, at, lt))))))
      (λ j ne at. subst (λ n. Keeps k (get_or xs n d)) at (h d (omega (arith, within, length-set xs c t))))
      (channel_of k) refl

  pub all_kept-set : (ks : List BoundEvent) → All (IsKeptIn xs) ks → All (IsKeptIn (set xs c t)) ks
  all_kept-set ks h = λ n e within. kept_in-set (get_or ks n e) (h n e within)

-- of a fifo nothing is said by what is seen of signals
pub fifo_shows : (below : Stamp) (was : Stamp → Channel) (s : ChannelState) → HasKind kind.Fifo s → ChannelShows below was s
fifo_shows below was (state.Signal s) is = absurd is
fifo_shows below was (state.Fifo s) is = tt

-- what is seen of a channel, where the same was seen
ChannelShows-same : (below : Stamp) (was next : Stamp → Channel) (s : ChannelState) → ((t : Stamp) → next t ≡ was t) → ChannelShows below was s → ChannelShows below next s
ChannelShows-same below was next (state.Signal s) same h = record { start = h.start; each = AreVersionsOf-same was next same (s.past.items ++ s.newest ∷ []) h.each }
ChannelShows-same below was next (state.Fifo s) same h = tt

module _ (ops : Operations) (at : Stamp) (f : Effect) where
  -- a channel that the effect isn't on
  pub channel_other :
      (d : ℕ) (s : ChannelState) → is_on d f ≡ false → IsChannelAfter d ops.below (cycle_of ops d) (channel_calls ops) s →
      IsChannelAfter d ops.below (cycle_of (after_effect at ops f) d) (channel_calls (after_effect at ops f)) s
  channel_other d s off h =
      IsChannelAfter-calls d ops.below (cycle_of (after_effect at ops f) d) (channel_calls ops) (channel_calls (after_effect at ops f)) s
      (λ k is. sym (channel_calls-other ops at f k (subst (λ n. is_on n f ≡ false) (sym is) off)))
      (subst (λ x. IsChannelAfter d ops.below x (channel_calls ops) s) (sym (cycle_of-other ops at f d off)) h)

  -- the channel that it is on
  pub channel_on :
      (c : ℕ) (s : ChannelState) → is_on c f ≡ true → IsChannelNext c ops.below (cycle_of ops c) (channel_calls ops) (operation at f) s →
      IsChannelAfter c ops.below (cycle_of (after_effect at ops f) c) (channel_calls (after_effect at ops f)) s
  channel_on c s on h =
      IsChannelAfter-calls c ops.below (cycle_of (after_effect at ops f) c) (λ k. channel_calls ops k ++ renewals k (cycle_after (cycle_of ops c) (operation at f)).channel (operation at f)) (channel_calls (after_effect at ops f)) s
      (λ k is. ap (λ x. channel_calls ops k ++ renewals k x.channel (operation at f)) (sym (cycle_of-on ops at f c on) ∙ ap (cycle_of (after_effect at ops f)) (sym is)) ∙ sym (channel_calls-after ops at f k))
      (subst (λ x. IsChannelAfter c ops.below x (λ k. channel_calls ops k ++ renewals k (cycle_after (cycle_of ops c) (operation at f)).channel (operation at f)) s) (sym (cycle_of-on ops at f c on)) h)

  pub other_shows : (d : ℕ) (s : ChannelState) → is_on d f ≡ false → ChannelShows ops.below (channel_before ops d) s → ChannelShows ops.below (channel_before (after_effect at ops f) d) s
  other_shows d s off h = ChannelShows-same ops.below (channel_before ops d) (channel_before (after_effect at ops f) d) s (channel_before-other ops at f d off) h

  -- an event that it makes no call on
  pub event_other :
      (e : ℕ) (x : EventState) → own_call e (operation at f) ≡ [] → IsEventKept ops.below x (own_calls ops e) →
      IsEventKept ops.below x (own_calls (after_effect at ops f) e)
  event_other e x silent h = subst (IsEventKept ops.below x) (sym (own_calls-after ops at f e ∙ ap (λ cs. own_calls ops e ++ cs) silent ∙ append-nil (own_calls ops e))) h

module _ (xs : List ChannelState) (kinds : List BoundEvent) (es : List EventState) (below : Stamp) where
  -- the bank with these parts
  abbrev bank : BankState
  bank = record { channels = xs; kinds = kinds; events = es; below = below }

  pub channel_kept :
      (ops : Operations) (c : ℕ) (s : ChannelState) → IsBankAfter bank ops → c < length xs → s ≡ get_or xs c s →
      IsChannelAfter c below (cycle_of ops c) (channel_calls ops) s
  channel_kept ops c s h lt is =
      subst (λ b. IsChannelAfter c b (cycle_of ops c) (channel_calls ops) s) (sym h.below)
      (subst (IsChannelAfter c ops.below (cycle_of ops c) (channel_calls ops)) (sym is) (h.channels c s lt))

  pub channel_shown :
      (ops : Operations) (c : ℕ) (s : ChannelState) → IsBankAfter bank ops → c < length xs → s ≡ get_or xs c s → ChannelShows below (channel_before ops c) s
  channel_shown ops c s h lt is =
      subst (λ b. ChannelShows b (channel_before ops c) s) (sym h.below)
      (subst (ChannelShows ops.below (channel_before ops c)) (sym is) (h.shows c s lt))

  pub channel_there : (ops : Operations) (c : ℕ) (k : ChannelKind) → IsBankAfter bank ops → HasChannel ops c k → c < length xs
  channel_there ops c k h has = omega (arith, slice_get_within ops.channels c has.channel has.is, h.channel_count)

  pub channel_kind : (ops : Operations) (c : ℕ) (k : ChannelKind) (s : ChannelState) → IsBankAfter bank ops → HasChannel ops c k → s ≡ get_or xs c s → HasKind k s
  channel_kind ops c k s h has is = subst (λ j. HasKind j s) has.kind (subst (HasKind has.channel.kind) (sym is) (h.channel_kinds c s has.channel has.is))

  -- an effect that touches nothing
  pub untouched :
      (ops : Operations) (at : Stamp) (f : Effect) → IsBankAfter bank ops → ((d : ℕ) → is_on d f ≡ false) → ((e : ℕ) → own_call e (operation at f) ≡ []) →
      IsBankAfter bank (after_effect at ops f)
  untouched ops at f h off silent = record {
    channel_count = h.channel_count;
    event_count = h.event_count;
    kinds = h.kinds;
    below = h.below;
    channel_kinds = h.channel_kinds;
    channels = λ c d lt. channel_other ops at f c (get_or xs c d) (off c) (h.channels c d lt);
    shows = λ c d lt. other_shows ops at f c (get_or xs c d) (off c) (h.shows c d lt);
    events = λ e d own. event_other ops at f e (get_or es e d) (silent e) (h.events e d own);
    present = h.present;
  }

  -- an effect on a channel
  pub channel_applied :
      (ops : Operations) (at : Stamp) (f : Effect) (c : ℕ) (k : ChannelKind) (s t : ChannelState) → IsBankAfter bank ops → HasChannel ops c k → HasKind k t → s ≡ get_or xs c s → ((k : BoundEvent) → Keeps k s → Keeps k t) →
      is_on c f ≡ true → ((d : ℕ) → d ≢ c → is_on d f ≡ false) → ((e : ℕ) → own_call e (operation at f) ≡ []) →
      IsChannelNext c below (cycle_of ops c) (channel_calls ops) (operation at f) t → ChannelShows below (channel_before (after_effect at ops f) c) t →
      IsBankAfter (record { channels = set xs c t; kinds = kinds; events = es; below = below }) (after_effect at ops f)
  channel_applied ops at f c k was t h has kind is keeps on off silent next shown = record {
    channel_count = length-set xs c t ∙ h.channel_count;
    event_count = h.event_count;
    kinds = h.kinds;
    below = h.below;
    channel_kinds = λ d s b is. set_cases (λ j x. (b : BoundChannel) → slice_get ops.channels j ≡ Some b → HasKind b.kind x) xs c t s there one (λ j ne b is. h.channel_kinds j s b is) d b is;
    channels = λ d s lt. set_cases (λ j x. j < length xs → IsChannelAfter j ops.below (cycle_of (after_effect at ops f) j) (channel_calls (after_effect at ops f)) x) xs c t s there
        (λ _. channel_on ops at f c t on (subst (λ b. IsChannelNext c b (cycle_of ops c) (channel_calls ops) (operation at f) t) h.below next)) (λ j ne below. channel_other ops at f j (get_or xs j s) (off j ne) (h.channels j s below)) d (let e = length-set xs c t in omega (arith, lt, e));
    shows = λ d s lt. set_cases (λ j x. j < length xs → ChannelShows ops.below (channel_before (after_effect at ops f) j) x) xs c t s there
        (λ _. subst (λ b. ChannelShows b (channel_before (after_effect at ops f) c) t) h.below shown) (λ j ne within. other_shows ops at f j (get_or xs j s) (off j ne) (h.shows j s within)) d (let e = length-set xs c t in omega (arith, lt, e));
    events = λ e d own. event_other ops at f e (get_or es e d) (silent e) (h.events e d own);
    present = all_kept-set xs c was t there is keeps ops.events h.present;
  } where
    there : c < length xs
    there = channel_there ops c k h has

    one : (b : BoundChannel) → slice_get ops.channels c ≡ Some b → HasKind b.kind t
    one b is = let same : has.channel ≡ b = cc has.is in subst (λ j. HasKind j t) (sym has.kind ∙ ap (λ x. x.kind) same) kind

  -- a call on an event
  pub event_applied :
      (ops : Operations) (at : Stamp) (f : Effect) (e : ℕ) (c : Call) (x y : EventState) → IsBankAfter bank ops → slice_get ops.events e ≡ Some event.Own →
      ((d : ℕ) → is_on d f ≡ false) → own_call e (operation at f) ≡ c ∷ [] → ((d : ℕ) → d ≢ e → own_call d (operation at f) ≡ []) →
      x ≡ get_or es e x → ((calls : List Call) → IsEventKept below x calls → IsEventKept below y (calls ++ c ∷ [])) →
      IsBankAfter (record { channels = xs; kinds = kinds; events = set es e y; below = below }) (after_effect at ops f)
  event_applied ops at f e c x y h own off on silent is kept = record {
    channel_count = h.channel_count;
    event_count = length-set es e y ∙ h.event_count;
    kinds = h.kinds;
    below = h.below;
    channel_kinds = h.channel_kinds;
    channels = λ d s lt. channel_other ops at f d (get_or xs d s) (off d) (h.channels d s lt);
    shows = λ d s lt. other_shows ops at f d (get_or xs d s) (off d) (h.shows d s lt);
    events = λ d z is. set_cases (λ j a. slice_get ops.events j ≡ Some event.Own → IsEventKept ops.below a (own_calls (after_effect at ops f) j)) es e y z there
        (λ _. subst (IsEventKept ops.below y) (sym (own_calls-after ops at f e ∙ ap (λ cs. own_calls ops e ++ cs) on)) (subst (λ b. IsEventKept b y (own_calls ops e ++ c ∷ [])) h.below (kept (own_calls ops e) (subst (λ b. IsEventKept b x (own_calls ops e)) (sym h.below) was))))
        (λ j ne mine. event_other ops at f j (get_or es j z) (silent j ne) (h.events j z mine)) d is;
    present = h.present;
  } where
    there : e < length es
    there = omega (arith, slice_get_within ops.events e event.Own own, h.event_count)

    was : IsEventKept ops.below x (own_calls ops e)
    was = subst (λ a. IsEventKept ops.below a (own_calls ops e)) (sym is) (h.events e x own)

  -- the room that is left after an effect on a channel
  pub covers_channel :
      (f : Effect) (more : List Effect) (c : ℕ) (s t : ChannelState) → c < length xs → s ≡ get_or xs c s → is_on c f ≡ true → ((d : ℕ) → d ≢ c → is_on d f ≡ false) → ((e : ℕ) → is_call_on e f ≡ false) →
      ((n : ℕ) → HasRoom (n + 1) s → HasRoom n t) → Covers bank (f ∷ more) →
      Covers (record { channels = set xs c t; kinds = kinds; events = es; below = below }) more
  covers_channel f more c s t lt is on off silent spent room = record {
    channels = λ d z below. set_cases (λ j x. j < length xs → HasRoom (count (is_on j) more) x) xs c t z lt
        (λ _. spent (count (is_on c) more) (subst (HasRoom (count (is_on c) more + 1)) (sym is) one))
        (λ j ne within. other j z ne within) d (let e = length-set xs c t in omega (arith, below, e));
    events = λ e z below. subst (λ n. n ≤ (get_or es e z).spare) (none e) (room.events e z below);
  } where
    one : HasRoom (count (is_on c) more + 1) (get_or xs c s)
    one = subst (λ n. HasRoom n (get_or xs c s)) (ap (λ b. length (cond b (f ∷ filter (is_on c) more) (filter (is_on c) more))) on ∙ sym (add-one (count (is_on c) more))) (room.channels c s lt)

    other : (j : ℕ) (z : ChannelState) → j ≢ c → j < length xs → HasRoom (count (is_on j) more) (get_or xs j z)
    other j z ne within = subst (λ n. HasRoom n (get_or xs j z)) (ap (λ b. length (cond b (f ∷ filter (is_on j) more) (filter (is_on j) more))) (off j ne)) (room.channels j z within)

    none : (e : ℕ) → count (is_call_on e) (f ∷ more) ≡ count (is_call_on e) more
    none e = ap (λ b. length (cond b (f ∷ filter (is_call_on e) more) (filter (is_call_on e) more))) (silent e)

  -- the room that is left after a call on an event
  pub covers_event :
      (f : Effect) (more : List Effect) (e : ℕ) (x y : EventState) → e < length es → x ≡ get_or es e x → is_call_on e f ≡ true → ((d : ℕ) → d ≢ e → is_call_on d f ≡ false) → ((c : ℕ) → is_on c f ≡ false) →
      x.spare ≤ y.spare + 1 → Covers bank (f ∷ more) →
      Covers (record { channels = xs; kinds = kinds; events = set es e y; below = below }) more
  covers_event f more e x y lt is on off silent spent room = record {
    channels = λ c z below. subst (λ n. HasRoom n (get_or xs c z)) (none c) (room.channels c z below);
    events = λ d z below. set_cases (λ j a. j < length es → count (is_call_on j) more ≤ a.spare) es e y z lt
        (λ _. one) (λ j ne within. other j z ne within) d (let l = length-set es e y in omega (arith, below, l));
  } where
    here : count (is_call_on e) (f ∷ more) ≡ suc (count (is_call_on e) more)
    here = ap (λ b. length (cond b (f ∷ filter (is_call_on e) more) (filter (is_call_on e) more))) on

    one : count (is_call_on e) more ≤ y.spare
    one = omega (arith, room.events e x lt, ap (λ a. a.spare) is, here, spent)

    other : (j : ℕ) (z : EventState) → j ≢ e → j < length es → count (is_call_on j) more ≤ (get_or es j z).spare
    other j z ne within = subst (λ n. n ≤ (get_or es j z).spare) (ap (λ b. length (cond b (f ∷ filter (is_call_on j) more) (filter (is_call_on j) more))) (off j ne)) (room.events j z within)

    none : (c : ℕ) → count (is_on c) (f ∷ more) ≡ count (is_on c) more
    none c = ap (λ b. length (cond b (f ∷ filter (is_on c) more) (filter (is_on c) more))) (silent c)

  -- the room for one effect on a channel
  pub room_for_one : (f : Effect) (c : ℕ) (s : ChannelState) → c < length xs → s ≡ get_or xs c s → is_on c f ≡ true → Covers bank (f ∷ []) → HasRoom 1 s
  room_for_one f c s lt is on room =
      subst (HasRoom 1) (sym is) (subst (λ n. HasRoom n (get_or xs c s)) (ap (λ b. length (cond b (f ∷ []) [])) on) (room.channels c s lt))
