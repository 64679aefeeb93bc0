-- What is seen of a channel that a segment touches.
use Rattle.std.proofs.Common.{◌≡◌, ◌≢◌, ℕ, zero, suc, ◌<◌, ◌+◌, List, [], ◌∷◌, ◌++◌, length, Bool, true, false, ◌||◌, if◌then◌else◌, refl, sym, ap, ◌∙◌, subst, arith}
use Rattle.std.proofs.lemmas.Bool.{ne_eqb, eq-eqb}
use Rattle.ooo_time.specs.declared.stamp.Stamp.{Stamp}
use Rattle.ooo_time.specs.declared.time.Time.{Time}
use Rattle.ooo_value.specs.declared.bound.BoundChannel.{BoundChannel}
use Rattle.ooo_value.specs.declared.values.Value.{Value}
use Rattle.ooo_code.specs.declared.activation.Seen.{Seen}
use Rattle.ooo_code.specs.declared.activation.Seen.TheVariants as seen
use Rattle.ooo_code.specs.Channels.{Channel, IsSignal, IsFifo, is_time, available, free_slots}
use Rattle.ooo_code.specs.Expressions.{SignalSeen, FifoSeen, no_value, signal_seen, fifo_seen}
use Rattle.ooo_access.specs.declared.access.Access.{Access}
use Rattle.ooo_channels.specs.Cycles.{channel_in, readable, writable}
use Rattle.ooo_channels.specs.Operations.{Operations}
use Rattle.ooo_dispatch.specs.Enough.{signal_shown}
use Rattle.ooo_dispatch.specs.Rules.{has, sight_of, sights}

abbrev no_signal : SignalSeen
no_signal = record { value = no_value; changed = false }

abbrev pub no_fifo : FifoSeen
no_fifo = record { values = []; free = 0 }

module _ (a : Access) (now : Time) where
  abbrev sight : (n : ℕ) → Channel → List Seen
  sight n x = sight_of a now n x

  -- what is seen of another channel is passed over
  signal_over : (n c : ℕ) (x : Channel) (rest : List Seen) → c ≢ n → signal_seen (sight n x ++ rest) c ≡ signal_seen rest c
  signal_over n c (IsSignal x) rest ne = at (has a.signals_read n)
    where
      at : (b : Bool) → signal_seen ((if b then seen.Signal n x.current (is_time now x.changed) ∷ [] else []) ++ rest) c ≡ signal_seen rest c
      at true = ap (λ b. if b then record { value = x.current; changed = is_time now x.changed } else signal_seen rest c) (ne_eqb c n ne)
      at false = refl
  signal_over n c (IsFifo x) rest ne = at (has a.takes n || has a.puts n) (if has a.takes n then available x else []) (if has a.puts n then free_slots x else 0)
    where
      at : (b : Bool) (vs : List Value) (k : ℕ) → signal_seen ((if b then seen.Fifo n vs k ∷ [] else []) ++ rest) c ≡ signal_seen rest c
      at true vs k = refl
      at false vs k = refl

  pub fifo_over : (n c : ℕ) (x : Channel) (rest : List Seen) → c ≢ n → fifo_seen (sight n x ++ rest) c ≡ fifo_seen rest c
  fifo_over n c (IsSignal x) rest ne = at (has a.signals_read n)
    where
      at : (b : Bool) → fifo_seen ((if b then seen.Signal n x.current (is_time now x.changed) ∷ [] else []) ++ rest) c ≡ fifo_seen rest c
      at true = refl
      at false = refl
  fifo_over n c (IsFifo x) rest ne = at (has a.takes n || has a.puts n) (if has a.takes n then available x else []) (if has a.puts n then free_slots x else 0)
    where
      at : (b : Bool) (vs : List Value) (k : ℕ) → fifo_seen ((if b then seen.Fifo n vs k ∷ [] else []) ++ rest) c ≡ fifo_seen rest c
      at true vs k = ap (λ b. if b then record { values = vs; free = k } else fifo_seen rest c) (ne_eqb c n ne)
      at false vs k = refl

  -- what is seen of this channel
  signal_here : (n : ℕ) (x : Channel) (rest : List Seen) → has a.signals_read n ≡ true → signal_seen rest n ≡ no_signal → signal_seen (sight n x ++ rest) n ≡ signal_shown now x
  signal_here n (IsSignal x) rest h none =
      ap (λ b. signal_seen ((if b then seen.Signal n x.current (is_time now x.changed) ∷ [] else []) ++ rest) n) h
      ∙ ap (λ b. if b then record { value = x.current; changed = is_time now x.changed } else signal_seen rest n) (eq-eqb n n refl)
  signal_here n (IsFifo x) rest h none = at (has a.takes n || has a.puts n) (if has a.takes n then available x else []) (if has a.puts n then free_slots x else 0)
    where
      at : (b : Bool) (vs : List Value) (k : ℕ) → signal_seen ((if b then seen.Fifo n vs k ∷ [] else []) ++ rest) n ≡ no_signal
      at true vs k = none
      at false vs k = none

  takes_here : (n : ℕ) (x : Channel) (rest : List Seen) → has a.takes n ≡ true → fifo_seen rest n ≡ no_fifo → (fifo_seen (sight n x ++ rest) n).values ≡ readable x
  takes_here n (IsSignal x) rest h none = at (has a.signals_read n)
    where
      at : (b : Bool) → (fifo_seen ((if b then seen.Signal n x.current (is_time now x.changed) ∷ [] else []) ++ rest) n).values ≡ []
      at true = ap (λ f. f.values) none
      at false = ap (λ f. f.values) none
  takes_here n (IsFifo x) rest h none =
      let free : ℕ = if has a.puts n then free_slots x else 0 in
      ap (λ b. (fifo_seen ((if (b || has a.puts n) then seen.Fifo n (if b then available x else []) free ∷ [] else []) ++ rest) n).values) h
      ∙ ap (λ b. (let f : FifoSeen = if b then record { values = available x; free = free } else fifo_seen rest n in f.values)) (eq-eqb n n refl)

  puts_here : (n : ℕ) (x : Channel) (rest : List Seen) → has a.puts n ≡ true → fifo_seen rest n ≡ no_fifo → (fifo_seen (sight n x ++ rest) n).free ≡ writable x
  puts_here n (IsSignal x) rest h none = at (has a.signals_read n)
    where
      at : (b : Bool) → (fifo_seen ((if b then seen.Signal n x.current (is_time now x.changed) ∷ [] else []) ++ rest) n).free ≡ 0
      at true = ap (λ f. f.free) none
      at false = ap (λ f. f.free) none
  puts_here n (IsFifo x) rest h none =
      ap (λ b. (fifo_seen ((if (has a.takes n || b) then seen.Fifo n (if has a.takes n then available x else []) (if b then free_slots x else 0) ∷ [] else []) ++ rest) n).free) h
      ∙ at (has a.takes n)
    where
      at : (t : Bool) → (fifo_seen ((if (t || true) then seen.Fifo n (if t then available x else []) (free_slots x) ∷ [] else []) ++ rest) n).free ≡ free_slots x
      at true = ap (λ b. (let f : FifoSeen = if b then record { values = available x; free = free_slots x } else fifo_seen rest n in f.free)) (eq-eqb n n refl)
      at false = ap (λ b. (let f : FifoSeen = if b then record { values = []; free = free_slots x } else fifo_seen rest n in f.free)) (eq-eqb n n refl)

module _ (a : Access) (s : Stamp) (ops : Operations) where
  -- of a channel before the first one nothing is seen
  signal_past : (n c : ℕ) (xs : List BoundChannel) → c < n → signal_seen (sights a s ops n xs) c ≡ no_signal
  signal_past n c [] lt = refl
  signal_past n c (x ∷ xs) lt = signal_over a s.time n c (channel_in s ops n) (sights a s ops (suc n) xs) (λ e. omega (arith, e, lt)) ∙ signal_past (suc n) c xs (omega (arith, lt))

  fifo_past : (n c : ℕ) (xs : List BoundChannel) → c < n → fifo_seen (sights a s ops n xs) c ≡ no_fifo
  fifo_past n c [] lt = refl
  fifo_past n c (x ∷ xs) lt = fifo_over a s.time n c (channel_in s ops n) (sights a s ops (suc n) xs) (λ e. omega (arith, e, lt)) ∙ fifo_past (suc n) c xs (omega (arith, lt))

  pub signal_at : (n i c : ℕ) (xs : List BoundChannel) → i < length xs → c ≡ n + i → has a.signals_read c ≡ true → signal_seen (sights a s ops n xs) c ≡ signal_shown s.time (channel_in s ops c)
  signal_at n i c [] lt e h = absurd (omega (arith, lt))
  signal_at n zero c (x ∷ xs) lt e h =
      let same : n ≡ c = omega (arith, e) in
      subst (λ m. signal_seen (sights a s ops m (x ∷ xs)) c ≡ signal_shown s.time (channel_in s ops c)) (sym same)
      (signal_here a s.time c (channel_in s ops c) (sights a s ops (suc c) xs) h (signal_past (suc c) c xs (omega arith)))
  signal_at n (suc i) c (x ∷ xs) lt e h =
      signal_over a s.time n c (channel_in s ops n) (sights a s ops (suc n) xs) (λ k. omega (arith, k, e)) ∙ signal_at (suc n) i c xs (omega (arith, lt)) (omega (arith, e)) h

  pub takes_at : (n i c : ℕ) (xs : List BoundChannel) → i < length xs → c ≡ n + i → has a.takes c ≡ true → (fifo_seen (sights a s ops n xs) c).values ≡ readable (channel_in s ops c)
  takes_at n i c [] lt e h = absurd (omega (arith, lt))
  takes_at n zero c (x ∷ xs) lt e h =
      let same : n ≡ c = omega (arith, e) in
      subst (λ m. (fifo_seen (sights a s ops m (x ∷ xs)) c).values ≡ readable (channel_in s ops c)) (sym same)
      (takes_here a s.time c (channel_in s ops c) (sights a s ops (suc c) xs) h (fifo_past (suc c) c xs (omega arith)))
  takes_at n (suc i) c (x ∷ xs) lt e h =
      ap (λ f. f.values) (fifo_over a s.time n c (channel_in s ops n) (sights a s ops (suc n) xs) (λ k. omega (arith, k, e))) ∙ takes_at (suc n) i c xs (omega (arith, lt)) (omega (arith, e)) h

  pub puts_at : (n i c : ℕ) (xs : List BoundChannel) → i < length xs → c ≡ n + i → has a.puts c ≡ true → (fifo_seen (sights a s ops n xs) c).free ≡ writable (channel_in s ops c)
  puts_at n i c [] lt e h = absurd (omega (arith, lt))
  puts_at n zero c (x ∷ xs) lt e h =
      let same : n ≡ c = omega (arith, e) in
      subst (λ m. (fifo_seen (sights a s ops m (x ∷ xs)) c).free ≡ writable (channel_in s ops c)) (sym same)
      (puts_here a s.time c (channel_in s ops c) (sights a s ops (suc c) xs) h (fifo_past (suc c) c xs (omega arith)))
  puts_at n (suc i) c (x ∷ xs) lt e h =
      ap (λ f. f.free) (fifo_over a s.time n c (channel_in s ops n) (sights a s ops (suc n) xs) (λ k. omega (arith, k, e))) ∙ puts_at (suc n) i c xs (omega (arith, lt)) (omega (arith, e)) h
