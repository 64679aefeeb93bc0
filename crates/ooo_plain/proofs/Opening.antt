-- What the bank shows of channels is open to see in the world.
use Rattle.std.proofs.Common.{◌≡◌, ℕ, ◌+◌, ◌<◌, ◌≤◌, Bool, true, false, if◌then◌else◌, arith, ◌-◌, zero, suc, append-nil, List, [], ◌∷◌, ◌++◌, Option, Some, None, refl, sym, subst, ap, ◌∙◌, get_or, map, length, take, drop, length-append, length-drop}
use Rattle.std.proofs.lemmas.List.{take_more, length-map, get_or-map, length-take-le, get_or-take, map-append}
use Rattle.std.proofs.lemmas.Option.{slice_get-get_or, get_or_from_slice_get, slice_get_within}
use Rattle.std.specs.Prelude.{slice_get, All, AllPairs}
use Rattle.ooo_time.specs.declared.time.Time.{Time}
use Rattle.ooo_time.specs.declared.stamp.Stamp.{Stamp}
use Rattle.ooo_time.specs.Stamps.{is_before}
use Rattle.ooo_value.specs.declared.bound.BoundChannel.{BoundChannel}
use Rattle.ooo_value.specs.declared.bound.ChannelKind.{ChannelKind}
use Rattle.ooo_value.specs.declared.bound.ChannelKind.TheVariants as kind
use Rattle.ooo_value.specs.declared.values.Value.{Value}
use Rattle.ooo_code.specs.declared.activation.Seen.TheVariants as seen
use Rattle.ooo_code.specs.declared.design.Design.{Design}
use Rattle.ooo_code.specs.Channels.{Channel, Fifo, IsSignal, IsFifo, available, free_slots, updated}
use Rattle.ooo_code.specs.Sound.{IsSound, FitsChannel}
use Rattle.ooo_interp.specs.declared.port.Port.{Port}
use Rattle.ooo_interp.specs.declared.port.Port.TheVariants as port
use Rattle.ooo_interp.specs.declared.fifo_port.FifoPort.{FifoPort}
use Rattle.ooo_interp.specs.Ports.{ValuesOf, channel_of, shown, all_shown}
use Rattle.ooo_meaning.specs.World.{World, channel_at, same_stamp, next_delta}
use Rattle.ooo_channels.specs.declared.fifo.FifoState.{FifoState}
use Rattle.ooo_channels.specs.declared.channel.ChannelState.{ChannelState}
use Rattle.ooo_channels.specs.declared.channel.ChannelState.TheVariants as state
use Rattle.ooo_channels.specs.Operations.{Operations}
use Rattle.ooo_channels.specs.Cycles.{Cycle, cycle_of, cycle_at, channel_in, readable, writable, values_left, later_channel, IsSeenAs}
use Rattle.ooo_channels.specs.Calls.{channel_calls}
use Rattle.ooo_channels.specs.Conditions.{HasChannel, ChannelIsBy}
use Rattle.ooo_channels.specs.Kept.{HasKind, IsChannelAfter, IsFifoIn}
use Rattle.ooo_channels.specs.Bank.{BankState, IsBankAfter}
use Rattle.ooo_channels.specs.Agreement.{IsShown, core}
use Rattle.ooo_plain.specs.Laws.{Laws}
use Rattle.ooo_plain.specs.Seeing.{open_seen, all_open}
use Rattle.ooo_plain.specs.Opening.{IsSeenIn, MayOpen, OpensTo, is_fifo, is_fifo_kind, readable_at, readable_by, readable_of}
use Rattle.ooo_plain.proofs.Viewing.{signal_is, fifo_is}

-- ---- a fifo in its cycle has room for what it holds

abbrev FitsIn : Channel → Type 0
FitsIn (IsSignal s) = Unit {0}
FitsIn (IsFifo f) = length f.held + length f.written ≤ f.size

fits_updated : (now : Time) (x : Channel) → FitsIn x → FitsIn (updated now x)
fits_updated now (IsSignal s) h = tt
fits_updated now (IsFifo f) h = omega (arith, h, length-append (available f) f.written, length-drop f.read f.held)

fits_later : (s : Stamp) (x : Cycle) → FitsIn x.channel → FitsIn (later_channel s x)
fits_later s x h = go (same_stamp s (next_delta x.stamp))
  where
    go : (b : Bool) → FitsIn (if b then updated x.stamp.time x.channel else updated s.time (updated x.stamp.time x.channel))
    go true = fits_updated x.stamp.time x.channel h
    go false = fits_updated s.time (updated x.stamp.time x.channel) (fits_updated x.stamp.time x.channel h)

fits_at : (s : Stamp) (x : Cycle) → FitsIn x.channel → FitsIn (cycle_at s x).channel
fits_at s x h = go (is_before x.stamp s) refl
  where
    go : (b : Bool) → is_before x.stamp s ≡ b → FitsIn (cycle_at s x).channel
    go true e = rw e (fits_later s x h)
    go false e = rw e h

-- what may be read of it is left
left_updated : (now : Time) (x : Channel) → length (readable (updated now x)) ≤ length (values_left x)
left_updated now (IsSignal s) = omega arith
left_updated now (IsFifo f) = omega (arith, length-drop 0 (available f ++ f.written))

left_twice : (a b : Time) (x : Channel) → length (readable (updated a (updated b x))) ≤ length (values_left x)
left_twice a b (IsSignal s) = omega arith
left_twice a b (IsFifo f) = omega (arith, length-drop 0 (drop 0 (available f ++ f.written) ++ []), length-append (drop 0 (available f ++ f.written)) [], length-drop 0 (available f ++ f.written))

left_here : (x : Channel) → length (readable x) ≤ length (values_left x)
left_here (IsSignal s) = omega arith
left_here (IsFifo f) = omega (arith, length-append (available f) f.written)

left_at : (s : Stamp) (x : Cycle) → length (readable (cycle_at s x).channel) ≤ length (values_left x.channel)
left_at s x = go (is_before x.stamp s) refl
  where
    later : (b : Bool) → length (readable (if b then updated x.stamp.time x.channel else updated s.time (updated x.stamp.time x.channel))) ≤ length (values_left x.channel)
    later true = left_updated x.stamp.time x.channel
    later false = left_twice s.time x.stamp.time x.channel

    go : (b : Bool) → is_before x.stamp s ≡ b → length (readable (cycle_at s x).channel) ≤ length (values_left x.channel)
    go true e = rw e (later (same_stamp s (next_delta x.stamp)))
    go false e = rw e (left_here x.channel)

pub an_element : {A : Type 0} (xs : List A) (i : ℕ) → i < length xs → A
an_element [] i lt = absurd (omega (arith, lt))
an_element (x ∷ xs) i lt = x

fits_bank : (bank : BankState) (ops : Operations) (c : ℕ) → IsBankAfter bank ops → HasChannel ops c kind.Fifo → FitsIn (cycle_of ops c).channel
fits_bank bank ops c h there = go (get_or bank.channels c d) (h.channel_kinds c d there.channel there.is) (h.channels c d within)
  where
    within : c < length bank.channels
    within = let n = h.channel_count in let l = slice_get_within ops.channels c there.channel there.is in omega (arith, n, l)

    d : ChannelState
    d = an_element bank.channels c within

    go : (x : ChannelState) → HasKind there.channel.kind x → IsChannelAfter c ops.below (cycle_of ops c) (channel_calls ops) x → FitsIn (cycle_of ops c).channel
    go (state.Signal s) k a = absurd (subst (λ j. HasKind j (state.Signal s)) there.kind k)
    go (state.Fifo f) k a = subst FitsIn a.cycle.channel a.cycle.fits

-- ---- the values that a bank keeps

later_readable : (s : Stamp) (x : Cycle) (g : Fifo) → IsFifo g ≡ x.channel → readable (later_channel s x) ≡ available g ++ g.written
later_readable s x g is = go (same_stamp s (next_delta x.stamp))
  where
    go : (b : Bool) → readable (if b then updated x.stamp.time x.channel else updated s.time (updated x.stamp.time x.channel)) ≡ available g ++ g.written
    go true = ap (λ c. readable (updated x.stamp.time c)) (sym is)
    go false = ap (λ c. readable (updated s.time (updated x.stamp.time c))) (sym is) ∙ append-nil (available g ++ g.written)

take_front : (xs ys : List Value) (n : ℕ) → n ≡ length xs → take n (xs ++ ys) ≡ xs
take_front [] ys zero e = refl
take_front [] ys (suc n) e = absurd (omega (arith, e))
take_front (x ∷ xs) ys zero e = absurd (omega (arith, e))
take_front (x ∷ xs) ys (suc n) e = ap (λ zs. x ∷ zs) (take_front xs ys n (omega (arith, e)))

fifo_readable : (s : FifoState) (x : Cycle) (at : Stamp) → IsFifoIn s x → readable_of at (state.Fifo s) ≡ readable (cycle_at at x).channel
fifo_readable s x at h = go (is_before x.stamp at) refl
  where
    front : length s.values.items - s.written ≡ length (available h.fifo)
    front = let a = ap length h.values in let b = length-append (available h.fifo) h.fifo.written in let d = h.written in omega (arith, a, b, d)

    go : (b : Bool) → is_before x.stamp at ≡ b → readable_of at (state.Fifo s) ≡ readable (cycle_at at x).channel
    go true e =
        let before : is_before s.stamp at ≡ true = ap (λ t. is_before t at) h.stamp ∙ e in
        rw (before, e) (sym h.values ∙ sym (later_readable at x h.fifo h.channel))
    go false e =
        let before : is_before s.stamp at ≡ false = ap (λ t. is_before t at) h.stamp ∙ e in
        rw (before, e) (ap (take (length s.values.items - s.written)) (sym h.values) ∙ take_front (available h.fifo) h.fifo.written (length s.values.items - s.written) front ∙ ap readable h.channel)

-- what the bank keeps of a fifo is what may be read of it
pub readable_is : (bank : BankState) (ops : Operations) (at : Stamp) (c : ℕ) → IsBankAfter bank ops → HasChannel ops c kind.Fifo → readable_by bank at c ≡ readable (channel_in at ops c)
readable_is bank ops at c h there =
    ap (readable_at at) (slice_get-get_or bank.channels c d within) ∙ go (get_or bank.channels c d) (h.channel_kinds c d there.channel there.is) (h.channels c d within)
  where
    within : c < length bank.channels
    within = let n = h.channel_count in let l = slice_get_within ops.channels c there.channel there.is in omega (arith, n, l)

    d : ChannelState
    d = an_element bank.channels c within

    go : (x : ChannelState) → HasKind there.channel.kind x → IsChannelAfter c ops.below (cycle_of ops c) (channel_calls ops) x → readable_of at x ≡ readable (channel_in at ops c)
    go (state.Signal s) k a = absurd (subst (λ j. HasKind j (state.Signal s)) there.kind k)
    go (state.Fifo f) k a = fifo_readable f (cycle_of ops c) at a.cycle

-- of what is no fifo nothing may be read
pub none_readable : (design : Design) (bank : BankState) (ops : Operations) (at : Stamp) (c : ℕ) → IsBankAfter bank ops → ops.channels ≡ design.channels → is_fifo (slice_get design.channels c) ≡ false → readable_by bank at c ≡ []
none_readable design bank ops at c h same e = go (slice_get bank.channels c) refl
  where
    fifo_kind : (k : ChannelKind) (f : FifoState) → HasKind k (state.Fifo f) → is_fifo_kind k ≡ true
    fifo_kind kind.Signal f h = absurd h
    fifo_kind kind.Fifo f h = refl

    none : (f : FifoState) → slice_get bank.channels c ≡ Some (state.Fifo f) → is_fifo (slice_get design.channels c) ≡ true
    none f is =
        let lt : c < length ops.channels = let l = slice_get_within bank.channels c (state.Fifo f) is in let n = h.channel_count in omega (arith, l, n) in
        let b : BoundChannel = get_or ops.channels c (an_element ops.channels c lt) in
        let at_c : slice_get ops.channels c ≡ Some b = slice_get-get_or ops.channels c (an_element ops.channels c lt) lt in
        let k : HasKind b.kind (state.Fifo f) = subst (HasKind b.kind) (get_or_from_slice_get bank.channels c (state.Fifo f) (state.Fifo f) is) (h.channel_kinds c (state.Fifo f) b at_c) in
        ap (λ xs. is_fifo (slice_get xs c)) (sym same) ∙ ap is_fifo at_c ∙ fifo_kind b.kind f k

    go : (o : Option ChannelState) → slice_get bank.channels c ≡ o → readable_by bank at c ≡ []
    go None is = ap (readable_at at) is
    go (Some (state.Signal s)) is = ap (readable_at at) is
    go (Some (state.Fifo f)) is = absurd (let no : true ≡ false = sym (none f is) ∙ e in cc)

pub may_read : (ops : Operations) (at : Stamp) (c n : ℕ) → n < length (readable (channel_in at ops c)) → n < length (values_left (cycle_of ops c).channel)
may_read ops at c n lt = let l = left_at at (cycle_of ops c) in omega (arith, lt, l)

-- ---- one channel

fits_kind : (k : ChannelKind) (size : ℕ) → k ≡ kind.Fifo → (elim k as (λ _. Type 0) [ kind.Signal ↦ Unit {0} | kind.Fifo ↦ (1 ≤ size) × (size ≤ 65536) ]) → size ≤ 65536
fits_kind kind.Signal size e h = absurd cc
fits_kind kind.Fifo size e h = h.1

size_of : Channel → ℕ
size_of (IsSignal s) = 0
size_of (IsFifo f) = f.size

same_size : (f g : Fifo) → core (IsFifo f) ≡ core (IsFifo g) → f.size ≡ g.size
unfolding size_of
same_size f g e = ap size_of e

module _ (laws : Laws) (design : Design) (sound : IsSound design) (bank : BankState) (at : Stamp) (c : ℕ) (b : BoundChannel) (is : slice_get design.channels c ≡ Some b) where
  pub has_channel : (k : ChannelKind) → b.kind ≡ k → (ops : Operations) → ops.channels ≡ design.channels → HasChannel ops c k
  has_channel k e ops same = record { channel = b; is = ap (λ xs. slice_get xs c) same ∙ is; kind = e }

  module _ (w : World) (ops : Operations) (h : IsSeenIn design bank at ops w) where
    shown_of : IsShown ops w c
    shown_of = laws.shows ops w c h.agrees (let l = slice_get_within design.channels c b is in let n = ap length h.channels in omega (arith, l, n))

    -- no operation on it is later than the world's stamp
    pub not_later : ChannelIsBy ops c at
    not_later = subst (ChannelIsBy ops c) h.stamp (h.agrees.channels c (let l = slice_get_within design.channels c b is in let n = ap length h.channels in omega (arith, l, n))).by

    pub signal_open : b.kind ≡ kind.Signal → (v : Value) (changed : Bool) → IsSeenAs (channel_in at ops c) at.time (v, changed) → (values : ValuesOf) → shown values (port.Signal c v changed) ≡ open_seen at.time c (channel_at w.channels c)
    signal_open k v changed s values =
        let x = signal_is design w h.ends c b is k in
        let t : IsSeenAs (channel_in w.stamp ops c) w.stamp.time (v, changed) = subst (λ u. IsSeenAs (channel_in u ops c) u.time (v, changed)) (sym h.stamp) s in
        let there : IsSeenAs (IsSignal x.0) at.time (v, changed) = subst (λ u. IsSeenAs (IsSignal x.0) u.time (v, changed)) h.stamp (subst (λ y. IsSeenAs y w.stamp.time (v, changed)) x.1 (shown_of.signal (v, changed) t)) in
        rw (there.0, there.1) (ap (open_seen at.time c) (sym x.1))

    values_open : (values : List Value) → values ≡ readable (channel_in at ops c) → values ≡ readable (channel_at w.channels c)
    values_open values e = e ∙ ap (λ u. readable (channel_in u ops c)) (sym h.stamp) ∙ shown_of.available

    free_open : (free : ℕ) → free ≡ writable (channel_in at ops c) → free ≡ writable (channel_at w.channels c)
    free_open free e = e ∙ ap (λ u. writable (channel_in u ops c)) (sym h.stamp) ∙ shown_of.free

    pub fifo_open : b.kind ≡ kind.Fifo → (values : List Value) (free : ℕ) → values ≡ readable (channel_in at ops c) → free ≡ writable (channel_in at ops c) → seen.Fifo c values free ≡ open_seen at.time c (channel_at w.channels c)
    fifo_open k values free v f =
        let x = fifo_is design w h.ends c b is k in
        rw (values_open values v ∙ ap readable x.1, free_open free f ∙ ap writable x.1) (ap (open_seen at.time c) (sym x.1))

    sized : b.kind ≡ kind.Fifo → b.size ≤ 65536
    sized k = fits_kind b.kind b.size k (subst FitsChannel (get_or_from_slice_get design.channels c b b is) (sound.channels c b (slice_get_within design.channels c b is)))

    pub free_small : b.kind ≡ kind.Fifo → (free : ℕ) → free ≡ writable (channel_in at ops c) → free ≤ 65536
    free_small k free f =
        let x = fifo_is design w h.ends c b is k in
        let e : free ≡ free_slots x.0 = free_open free f ∙ ap writable x.1 in
        let s = x.2 in let l = sized k in omega (arith, e, s, l)

    pub values_few : b.kind ≡ kind.Fifo → (values : List Value) → values ≡ readable (channel_in at ops c) → length values ≤ 65536
    values_few k values v = go (channel_in at ops c) refl (fits_at at (cycle_of ops c) (fits_bank bank ops c h.bank_is (has_channel kind.Fifo k ops h.channels)))
      where
        x : (f : Fifo) × (channel_at w.channels c ≡ IsFifo f) × (f.size ≡ b.size)
        x = fifo_is design w h.ends c b is k

        alike : core (channel_in w.stamp ops c) ≡ core (channel_at w.channels c)
        alike = (h.agrees.channels c (let l = slice_get_within design.channels c b is in let n = ap length h.channels in omega (arith, l, n))).channel.core

        go : (y : Channel) → channel_in at ops c ≡ y → FitsIn y → length values ≤ 65536
        go (IsSignal s) e f = let n : length values ≡ 0 = ap length (v ∙ ap readable e) in omega (arith, n)
        go (IsFifo g) e f =
            let n : length values ≡ length (available g) = ap length (v ∙ ap readable e) in
            let s : g.size ≡ x.0.size = same_size g x.0 (ap core (sym e ∙ ap (λ u. channel_in u ops c) (sym h.stamp)) ∙ alike ∙ ap core x.1) in
            let t = x.2 in let l = sized k in omega (arith, n, f, s, t, l, length-drop g.read g.held)

-- the channel of a number, of a kind
pub record Bound (design : Design) (c : ℕ) (k : ChannelKind) : Type 0 where
  pub channel : BoundChannel
  pub is : slice_get design.channels c ≡ Some channel
  pub kind_is : channel.kind ≡ k

pub bound_is : (design : Design) (ys : List BoundChannel) (c : ℕ) (d : BoundChannel) (k : ChannelKind) → ys ≡ design.channels → c < length design.channels → (get_or ys c d).kind ≡ k → Bound design c k
bound_is design ys c d k e lt h = record {
  channel = get_or design.channels c d;
  is = slice_get-get_or design.channels c d lt;
  kind_is = subst (λ xs. (get_or xs c d).kind ≡ k) e h;
}

module _ (laws : Laws) (design : Design) (sound : IsSound design) (bank : BankState) (at : Stamp) (c : ℕ) where
  pub signal_opens : Bound design c kind.Signal → (seen : Value × Bool) → ((ops : Operations) → IsBankAfter bank ops → HasChannel ops c kind.Signal → ChannelIsBy ops c at → IsSeenAs (channel_in at ops c) at.time seen) → OpensTo design bank at c (port.Signal c seen.0 seen.1)
  signal_opens b seen is = record {
    number = refl;
    shows = λ w ops h. signal_open laws design sound bank at c b.channel b.is w ops h b.kind_is seen.0 seen.1 (is ops h.bank_is (has_channel laws design sound bank at c b.channel b.is kind.Signal b.kind_is ops h.channels) (not_later laws design sound bank at c b.channel b.is w ops h)) (readable_by bank at);
  }

  module _ (b : Bound design c kind.Fifo) where
    pub there : (ops : Operations) → ops.channels ≡ design.channels → HasChannel ops c kind.Fifo
    there ops same = has_channel laws design sound bank at c b.channel b.is kind.Fifo b.kind_is ops same

    pub few : MayOpen design bank at → length (readable_by bank at c) ≤ 65536
    few m = values_few laws design sound bank at c b.channel b.is m.world m.ops m.seen b.kind_is (readable_by bank at c) (readable_is bank m.ops at c m.seen.bank_is (there m.ops m.seen.channels))

    module _ (free : ℕ) (is : (ops : Operations) → IsBankAfter bank ops → HasChannel ops c kind.Fifo → free ≡ writable (channel_in at ops c)) where
      pub small : MayOpen design bank at → free ≤ 65536
      small m = free_small laws design sound bank at c b.channel b.is m.world m.ops m.seen b.kind_is free (is m.ops m.seen.bank_is (there m.ops m.seen.channels))

      pub fifo_opens : (f : FifoPort) → f.channel ≡ c → f.taken ≡ 0 → f.free ≡ free → OpensTo design bank at c (port.Fifo f)
      fifo_opens f n t r = record {
        number = n;
        shows = λ w ops h. rw (n, t, r) (fifo_open laws design sound bank at c b.channel b.is w ops h b.kind_is (readable_by bank at c) free (readable_is bank ops at c h.bank_is (there ops h.channels)) (is ops h.bank_is (there ops h.channels)));
      }

  -- a channel that is a fifo, and one of which something may be read
  pub bound_fifo : is_fifo (slice_get design.channels c) ≡ true → Bound design c kind.Fifo
  bound_fifo e = go (slice_get design.channels c) refl e
    where
      is_of : (k : ChannelKind) → is_fifo_kind k ≡ true → k ≡ kind.Fifo
      is_of kind.Signal h = absurd (let no : false ≡ true = h in cc)
      is_of kind.Fifo h = refl

      go : (o : Option BoundChannel) → slice_get design.channels c ≡ o → is_fifo o ≡ true → Bound design c kind.Fifo
      go None is h = absurd (let no : false ≡ true = h in cc)
      go (Some x) is h = record { channel = x; is = is; kind_is = is_of x.kind h }

  pub some_fifo : (n : ℕ) → MayOpen design bank at → n < length (readable_by bank at c) → Bound design c kind.Fifo
  some_fifo n m lt = go (is_fifo (slice_get design.channels c)) refl
    where
      go : (b : Bool) → is_fifo (slice_get design.channels c) ≡ b → Bound design c kind.Fifo
      go true e = bound_fifo e
      go false e = let none : length (readable_by bank at c) ≡ 0 = ap length (none_readable design bank m.ops at c m.seen.bank_is m.seen.channels e) in absurd (omega (arith, none, lt))

pub none_there : (xs : List Value) (n : ℕ) → length xs ≤ n → None ≡ slice_get xs n
none_there [] n le = refl
none_there (x ∷ xs) zero le = absurd (omega (arith, le))
none_there (x ∷ xs) (suc n) le = none_there xs n (omega (arith, le))

-- ---- ports, one after another

-- the ports of the first channels
pub record OpenedSoFar (design : Design) (bank : BankState) (at : Stamp) (names : List ℕ) (ports : List Port) : Type 0 where
  pub numbers : map channel_of ports ≡ names
  pub shows : (w : World) (ops : Operations) → IsSeenIn design bank at ops w → all_shown (readable_by bank at) ports ≡ all_open w names

pub opened_none : (design : Design) (bank : BankState) (at : Stamp) → OpenedSoFar design bank at [] []
opened_none design bank at = record { numbers = refl; shows = λ w ops h. refl }

pub opened_more : (design : Design) (bank : BankState) (at : Stamp) (names : List ℕ) (i d : ℕ) (ports : List Port) (p : Port) → i < length names → OpenedSoFar design bank at (take i names) ports → OpensTo design bank at (get_or names i d) p → OpenedSoFar design bank at (take (i + 1) names) (ports ++ p ∷ [])
opened_more design bank at names i d ports p lt h o = record {
  numbers = map-append channel_of ports (p ∷ []) ∙ ap (λ xs. xs ++ channel_of p ∷ []) h.numbers ∙ ap (λ x. take i names ++ x ∷ []) o.number ∙ sym (take_more names i d lt);
  shows = λ w ops s.
      map-append (shown (readable_by bank at)) ports (p ∷ []) ∙ ap (λ xs. xs ++ shown (readable_by bank at) p ∷ []) (h.shows w ops s)
      ∙ ap (λ x. all_open w (take i names) ++ x ∷ []) (o.shows w ops s ∙ ap (λ u. open_seen u.time (get_or names i d) (channel_at w.channels (get_or names i d))) (sym s.stamp))
      ∙ sym (map-append (λ c. open_seen w.stamp.time c (channel_at w.channels c)) (take i names) (get_or names i d ∷ [])) ∙ ap (all_open w) (sym (take_more names i d lt));
}

-- each has a lower number than the next
pub opened_below : (design : Design) (bank : BankState) (at : Stamp) (names : List ℕ) (i d : ℕ) (ports : List Port) (p : Port) → i < length names → AllPairs (λ a b. a < b) names → OpenedSoFar design bank at (take i names) ports → OpensTo design bank at (get_or names i d) p → All (λ q. channel_of q < channel_of p) ports
opened_below design bank at names i d ports p lt up h o k q below =
    let n : length ports ≡ i = sym (length-map ports channel_of) ∙ ap length h.numbers ∙ length-take-le i names (omega (arith, lt)) in
    let k_i : k < i = omega (arith, n, below) in
    let number : channel_of (get_or ports k q) ≡ get_or names k d = sym (get_or-map channel_of ports k q d below) ∙ ap (λ xs. get_or xs k d) h.numbers ∙ get_or-take i names k d k_i in
    let low : get_or names k d < get_or names i d = up k i d k_i lt in
    let high : channel_of p ≡ get_or names i d = o.number in
    omega (arith, number, low, high)
