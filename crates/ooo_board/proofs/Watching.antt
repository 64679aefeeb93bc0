-- What is seen of channels that are watched.
use Rattle.std.proofs.Common.{◌≡◌, ℕ, zero, suc, ◌+◌, ◌<◌, ◌≤◌, List, [], ◌∷◌, ◌++◌, Bool, true, false, ◌||◌, if◌then◌else◌, Some, length, drop, get_or, refl, sym, ap, subst, ◌∙◌, arith}
use Rattle.std.specs.Prelude.{All, slice_get}
use Rattle.std.proofs.lemmas.List.{get_or-map, length-drop, length-map, map-append}
use Rattle.std.proofs.lemmas.List.Elements.{All-append, All-cons, All-nil}
use Rattle.std.proofs.lemmas.List.Kept.{AllPairs-cons}
use Rattle.std.proofs.lemmas.Option.{slice_get-get_or}
use Rattle.ooo_time.specs.declared.stamp.Stamp.{Stamp}
use Rattle.ooo_value.specs.declared.bound.BoundChannel.{BoundChannel}
use Rattle.ooo_value.specs.declared.bound.ChannelKind.{ChannelKind}
use Rattle.ooo_value.specs.declared.bound.ChannelKind.TheVariants as kind
use Rattle.ooo_value.specs.declared.values.Value.{Value}
use Rattle.ooo_code.specs.declared.activation.Seen.{Seen}
use Rattle.ooo_code.specs.declared.activation.Seen.TheVariants as seen
use Rattle.ooo_code.specs.declared.design.Design.{Design}
use Rattle.ooo_code.specs.Channels.{Channel, IsSignal, IsFifo, available, free_slots, is_time}
use Rattle.ooo_code.specs.Sound.{FitsChannel}
use Rattle.ooo_access.specs.declared.access.Access.{Access}
use Rattle.ooo_channels.specs.Bank.{BankState}
use Rattle.ooo_channels.specs.Conditions.{HasChannel}
use Rattle.ooo_channels.specs.Cycles.{IsSeenAs, channel_in, readable, writable}
use Rattle.ooo_channels.specs.Operations.{Operations}
use Rattle.ooo_interp.specs.Jobs.{IsFew, SeenAscend, number_seen}
use Rattle.ooo_dispatch.specs.Banks.{channel_shown, sights_by}
use Rattle.ooo_dispatch.specs.Rules.{has, sight_of}
use Rattle.ooo_board.specs.declared.links.Watched.{Watched}
use Rattle.ooo_board.specs.Links.{watched_from, watched_of}
use Rattle.ooo_board.specs.Seeing.{Ascend, IsAskedAt, shown_as, sight_at, sights_of}
use Rattle.ooo_board.proofs.Sizes.{Holds, IsOf, before_is, channel_holds, channel_is}

-- ---- one channel

signal_is : (s : Stamp) (w : Watched) (size : ℕ) (x : Channel) (v : Value × Bool) → IsOf kind.Signal size x → IsSeenAs x s.time v → seen.Signal w.channel v.0 v.1 ≡ sight_at s w x
signal_is s w size (IsSignal x) v is h = λ i. seen.Signal w.channel (h.0 i) (h.1 i)
signal_is s w size (IsFifo f) v is h = absurd is

fifo_is : (s : Stamp) (w : Watched) (size : ℕ) (x : Channel) (values : List Value) (free : ℕ) → IsOf kind.Fifo size x → values ≡ (if w.takes then readable x else []) → free ≡ (if w.puts then writable x else 0) → seen.Fifo w.channel values free ≡ sight_at s w x
fifo_is s w size (IsSignal x) values free is e f = absurd is
fifo_is s w size (IsFifo x) values free is e f = λ i. seen.Fifo w.channel (e i) (f i)

few_is : (s : Stamp) (w : Watched) (size : ℕ) (x : Channel) → IsOf kind.Fifo size x → Holds x → size ≤ 65536 → IsFew (sight_at s w x)
few_is s w size (IsSignal x) is h le = absurd is
few_is s w size (IsFifo f) is h le = (values w.takes, free w.puts)
  where
    values : (b : Bool) → length (if b then available f else []) ≤ 65536
    values true = let d = length-drop f.read f.held in omega arith
    values false = omega arith

    free : (b : Bool) → (if b then free_slots f else 0) ≤ 65536
    free true = omega arith
    free false = omega arith

few_signal : (s : Stamp) (w : Watched) (size : ℕ) (x : Channel) → IsOf kind.Signal size x → IsFew (sight_at s w x)
few_signal s w size (IsSignal x) is = (omega arith, omega arith)
few_signal s w size (IsFifo f) is = absurd is

number_is : (s : Stamp) (w : Watched) (x : Channel) → number_seen (sight_at s w x) ≡ w.channel
number_is s w (IsSignal x) = refl
number_is s w (IsFifo f) = refl

-- ---- a channel of a design

module _ (design : Design) (bank : BankState) (s : Stamp) (ops : Operations) (asked : IsAskedAt design bank s ops) where
  abbrev shown : ℕ → Channel
  shown c = shown_as s ops c (slice_get design.channels c)

  module _ (c : ℕ) (b : BoundChannel) (is : slice_get design.channels c ≡ Some b) where
    there : slice_get ops.channels c ≡ Some b
    there = ap (λ xs. slice_get xs c) asked.channels ∙ is

    shown_by : (k : ChannelKind) → b.kind ≡ k → shown c ≡ channel_shown s ops c k
    shown_by k e = ap (shown_as s ops c) is ∙ ap (channel_shown s ops c) e

    pub has_channel : (k : ChannelKind) → b.kind ≡ k → HasChannel ops c k
    has_channel k e = record { channel = b; is = there; kind = e }

    shown_kind : (k : ChannelKind) → b.kind ≡ k → IsOf k b.size (channel_shown s ops c k)
    shown_kind kind.Signal e = subst (λ k. IsOf k b.size (channel_shown s ops c kind.Signal)) e (before_is ops c b there s)
    shown_kind kind.Fifo e = subst (λ k. IsOf k b.size (channel_shown s ops c kind.Fifo)) e (channel_is ops c b there s)

    pub signal_seen : (w : Watched) → w.channel ≡ c → (v : Value × Bool) → b.kind ≡ kind.Signal → IsSeenAs (channel_shown s ops c kind.Signal) s.time v → seen.Signal w.channel v.0 v.1 ≡ sight_at s w (shown w.channel)
    signal_seen w same v e h = signal_is s w b.size (channel_shown s ops c kind.Signal) v (shown_kind kind.Signal e) h ∙ ap (sight_at s w) (sym (shown_by kind.Signal e) ∙ ap shown (sym same))

    pub fifo_seen : (w : Watched) → w.channel ≡ c → (values : List Value) (free : ℕ) → b.kind ≡ kind.Fifo → values ≡ (if w.takes then readable (channel_in s ops c) else []) → free ≡ (if w.puts then writable (channel_in s ops c) else 0) → seen.Fifo w.channel values free ≡ sight_at s w (shown w.channel)
    fifo_seen w same values free e f g = fifo_is s w b.size (channel_in s ops c) values free (shown_kind kind.Fifo e) f g ∙ ap (sight_at s w) (sym (shown_by kind.Fifo e) ∙ ap shown (sym same))

    few_seen : (w : Watched) → FitsChannel b → IsFew (sight_at s w (shown c))
    few_seen w fits = at b.kind refl fits
      where
        at : (k : ChannelKind) → b.kind ≡ k → (elim k as (λ k. Type 0) [ kind.Signal ↦ Unit {0} | kind.Fifo ↦ (1 ≤ b.size) × (b.size ≤ 65536) ]) → IsFew (sight_at s w (shown c))
        at kind.Signal e f = subst (λ x. IsFew (sight_at s w x)) (sym (shown_by kind.Signal e)) (few_signal s w b.size (channel_shown s ops c kind.Signal) (shown_kind kind.Signal e))
        at kind.Fifo e f = subst (λ x. IsFew (sight_at s w x)) (sym (shown_by kind.Fifo e)) (few_is s w b.size (channel_in s ops c) (shown_kind kind.Fifo e) (channel_holds bank ops asked.bank c b there s) f.1)

  -- ---- all that are watched

  abbrev none : Watched
  none = record { channel = 0; takes = false; puts = false }

  some_channel : {A : Type 0} (xs : List A) (c : ℕ) → c < length xs → A
  some_channel [] c lt = absurd (omega arith)
  some_channel (x ∷ xs) c lt = x

  abbrev sight : Watched → Seen
  sight w = sight_at s w (shown w.channel)

  pub all_few : (watched : List Watched) → All FitsChannel design.channels → All (λ w. w.channel < length design.channels) watched → All IsFew (sights_of s ops design.channels watched)
  all_few watched fits within k d lt =
      let n = length-map watched sight in
      let below : k < length watched = omega arith in
      let w = get_or watched k none in
      let here : w.channel < length design.channels = within k none below in
      let e = some_channel design.channels w.channel here in
      subst IsFew (sym (get_or-map sight watched k none d below)) (few_seen w.channel (get_or design.channels w.channel e) (slice_get-get_or design.channels w.channel e here) w (fits w.channel e here))

  pub all_ascend : (watched : List Watched) → Ascend watched → SeenAscend (sights_of s ops design.channels watched)
  all_ascend watched ascend i j d lt within =
      let n = length-map watched sight in
      let below : j < length watched = omega arith in
      let sooner : i < length watched = omega arith in
      let a = ap number_seen (get_or-map sight watched i none d sooner) ∙ number_is s (get_or watched i none) (shown (get_or watched i none).channel) in
      let b = ap number_seen (get_or-map sight watched j none d below) ∙ number_is s (get_or watched j none) (shown (get_or watched j none).channel) in
      let ordered = ascend i j none lt below in
      omega arith

-- ---- what a segment watches

-- the channel that is watched is among so many, of which the first has the number c
abbrev IsWithin : (c count : ℕ) → Watched → Type 0
IsWithin c count w = (c ≤ w.channel) × (w.channel < c + count)

watched_one : (c count : ℕ) (b takes puts : Bool) → All (IsWithin c (suc count)) (if b then record { channel = c; takes = takes; puts = puts } ∷ [] else [])
watched_one c count true takes puts = All-cons (IsWithin c (suc count)) (record { channel = c; takes = takes; puts = puts }) [] (omega arith, omega arith) (All-nil (IsWithin c (suc count)))
watched_one c count false takes puts = All-nil (IsWithin c (suc count))

watched_here : (a : Access) (c count : ℕ) (k : ChannelKind) → All (IsWithin c (suc count)) (watched_of a c k)
watched_here a c count kind.Signal = watched_one c count (has a.signals_read c) false false
watched_here a c count kind.Fifo = watched_one c count (has a.takes c || has a.puts c) (has a.takes c) (has a.puts c)

watched_after : (a : Access) (c : ℕ) (xs : List BoundChannel) → All (IsWithin c (length xs)) (watched_from a c xs)
watched_after a c [] = All-nil (IsWithin c 0)
watched_after a c (x ∷ xs) =
    All-append (IsWithin c (suc (length xs))) (watched_of a c x.kind) (watched_from a (suc c) xs) (watched_here a c (length xs) x.kind)
    (λ k d lt. let h = watched_after a (suc c) xs k d lt in (omega arith, omega arith))

-- what is watched is among the channels
pub watched_within : (a : Access) (xs : List BoundChannel) → All (λ w. w.channel < length xs) (watched_from a 0 xs)
watched_within a xs k d lt = let h = (watched_after a 0 xs k d lt).1 in omega arith

ascend_from : (a : Access) (c : ℕ) (xs : List BoundChannel) → Ascend (watched_from a c xs)
ascend_from a c [] = λ i j d lt within. absurd (omega arith)
ascend_from a c (x ∷ xs) = at x.kind (ascend_from a (suc c) xs)
  where
    one : (b takes puts : Bool) → Ascend (watched_from a (suc c) xs) → Ascend ((if b then record { channel = c; takes = takes; puts = puts } ∷ [] else []) ++ watched_from a (suc c) xs)
    one true takes puts rest = AllPairs-cons (λ (v w : Watched). v.channel < w.channel) _ (watched_from a (suc c) xs) (λ k d lt. (watched_after a (suc c) xs k d lt).0) rest
    one false takes puts rest = rest

    at : (k : ChannelKind) → Ascend (watched_from a (suc c) xs) → Ascend (watched_of a c k ++ watched_from a (suc c) xs)
    at kind.Signal rest = one (has a.signals_read c) false false rest
    at kind.Fifo rest = one (has a.takes c || has a.puts c) (has a.takes c) (has a.puts c) rest

-- each is watched once, in their order
pub watched_ascend : (a : Access) (xs : List BoundChannel) → Ascend (watched_from a 0 xs)
watched_ascend a xs = ascend_from a 0 xs

first_there : {A : Type 0} (all : List A) (c : ℕ) (x : A) (xs : List A) → drop c all ≡ x ∷ xs → slice_get all c ≡ Some x
first_there [] zero x xs e = absurd cc
first_there [] (suc c) x xs e = absurd cc
first_there (y ∷ ys) zero x xs e = let f : y ≡ x = cc in ap Some f
first_there (y ∷ ys) (suc c) x xs e = first_there ys c x xs e

rest_there : {A : Type 0} (all : List A) (c : ℕ) (x : A) (xs : List A) → drop c all ≡ x ∷ xs → drop (suc c) all ≡ xs
rest_there [] zero x xs e = absurd cc
rest_there [] (suc c) x xs e = absurd cc
rest_there (y ∷ ys) zero x xs e = cc
rest_there (y ∷ ys) (suc c) x xs e = rest_there ys c x xs e

-- what a segment sees by its access is what is seen of the channels that it watches
module _ (ops : Operations) (s : Stamp) (a : Access) where
  signal_part : (channels : List BoundChannel) (c size : ℕ) (x : Channel) → IsOf kind.Signal size x → shown_as s ops c (slice_get channels c) ≡ x → sights_of s ops channels (watched_of a c kind.Signal) ≡ sight_of a s.time c x
  signal_part channels c size (IsFifo f) is e = absurd is
  signal_part channels c size (IsSignal v) is e = at (has a.signals_read c)
    where
      at : (b : Bool) → sights_of s ops channels (if b then record { channel = c; takes = false; puts = false } ∷ [] else []) ≡ (if b then seen.Signal c v.current (is_time s.time v.changed) ∷ [] else [])
      at true = ap (λ x. sight_at s (record { channel = c; takes = false; puts = false }) x ∷ []) e
      at false = refl

  fifo_part : (channels : List BoundChannel) (c size : ℕ) (x : Channel) → IsOf kind.Fifo size x → shown_as s ops c (slice_get channels c) ≡ x → sights_of s ops channels (watched_of a c kind.Fifo) ≡ sight_of a s.time c x
  fifo_part channels c size (IsSignal v) is e = absurd is
  fifo_part channels c size (IsFifo f) is e = at (has a.takes c || has a.puts c)
    where
      at : (b : Bool) → sights_of s ops channels (if b then record { channel = c; takes = has a.takes c; puts = has a.puts c } ∷ [] else [])
          ≡ (if b then seen.Fifo c (if has a.takes c then available f else []) (if has a.puts c then free_slots f else 0) ∷ [] else [])
      at true = ap (λ x. sight_at s (record { channel = c; takes = has a.takes c; puts = has a.puts c }) x ∷ []) e
      at false = refl

  part : (channels : List BoundChannel) → ops.channels ≡ channels → (c : ℕ) (b : BoundChannel) → slice_get channels c ≡ Some b → sights_of s ops channels (watched_of a c b.kind) ≡ sight_of a s.time c (channel_shown s ops c b.kind)
  part channels of c b is = at b.kind refl
    where
      there : slice_get ops.channels c ≡ Some b
      there = ap (λ xs. slice_get xs c) of ∙ is

      shown_there : (k : ChannelKind) → b.kind ≡ k → shown_as s ops c (slice_get channels c) ≡ channel_shown s ops c k
      shown_there k e = ap (shown_as s ops c) is ∙ ap (channel_shown s ops c) e

      at : (k : ChannelKind) → b.kind ≡ k → sights_of s ops channels (watched_of a c k) ≡ sight_of a s.time c (channel_shown s ops c k)
      at kind.Signal e = signal_part channels c b.size (channel_shown s ops c kind.Signal) (subst (λ k. IsOf k b.size (channel_shown s ops c kind.Signal)) e (before_is ops c b there s)) (shown_there kind.Signal e)
      at kind.Fifo e = fifo_part channels c b.size (channel_shown s ops c kind.Fifo) (subst (λ k. IsOf k b.size (channel_shown s ops c kind.Fifo)) e (channel_is ops c b there s)) (shown_there kind.Fifo e)

  sights_from : (channels : List BoundChannel) → ops.channels ≡ channels → (c : ℕ) (xs : List BoundChannel) → drop c channels ≡ xs → sights_of s ops channels (watched_from a c xs) ≡ sights_by a s ops c xs
  sights_from channels of c [] rest = refl
  sights_from channels of c (x ∷ xs) rest =
      map-append (λ w. sight_at s w (shown_as s ops w.channel (slice_get channels w.channel))) (watched_of a c x.kind) (watched_from a (suc c) xs)
      ∙ ap (λ ys. ys ++ sights_of s ops channels (watched_from a (suc c) xs)) (part channels of c x (first_there channels c x xs rest))
      ∙ ap (λ ys. sight_of a s.time c (channel_shown s ops c x.kind) ++ ys) (sights_from channels of (suc c) xs (rest_there channels c x xs rest))

  pub sights_watched : (channels : List BoundChannel) → ops.channels ≡ channels → sights_of s ops channels (watched_from a 0 channels) ≡ sights_by a s ops 0 channels
  sights_watched channels of = sights_from channels of 0 channels refl
