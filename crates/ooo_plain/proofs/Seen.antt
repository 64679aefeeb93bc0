-- Look-ups in what is seen.
use Rattle.std.proofs.Common.{◌≡◌, ℕ, zero, suc, ◌+◌, ◌<◌, ◌==◌, ◌||◌, Bool, true, false, if◌then◌else◌, arith, List, [], ◌∷◌, refl, sym, ap, ◌∙◌, map, eq-eqb, eqb-true}
use Rattle.std.proofs.lemmas.Bool.{ne_eqb, or_parts}
use Rattle.std.specs.List.{list_any}
use Rattle.ooo_time.specs.declared.time.Time.{Time}
use Rattle.ooo_code.specs.declared.activation.Seen.{Seen}
use Rattle.ooo_code.specs.Channels.{Channel, Signal, Fifo, IsSignal, IsFifo, is_process, is_time, available, free_slots, all_seen}
use Rattle.ooo_code.specs.Expressions.{SignalSeen, FifoSeen, signal_seen, fifo_seen, no_value}
use Rattle.ooo_meaning.specs.World.{channel_at}
use Rattle.ooo_plain.specs.Seeing.{open_seen}

-- where there is no such signal or fifo
abbrev pub no_signal : SignalSeen
no_signal = record { value = no_value; changed = false }

abbrev pub no_fifo : FifoSeen
no_fifo = record { values = []; free = 0 }

-- what is seen of one channel as of a signal
abbrev pub as_signal : Time → Channel → SignalSeen
as_signal now (IsSignal s) = record { value = s.current; changed = is_time now s.changed }
as_signal now (IsFifo f) = no_signal

-- what process p sees of one channel as of a fifo
abbrev pub as_fifo : ℕ → Channel → FifoSeen
as_fifo p (IsSignal s) = no_fifo
as_fifo p (IsFifo f) = record { values = if is_process p f.reader then available f else []; free = if is_process p f.writer then free_slots f else 0 }

-- the same with both ends
abbrev pub as_open : Channel → FifoSeen
as_open (IsSignal s) = no_fifo
as_open (IsFifo f) = record { values = available f; free = free_slots f }

-- ---- one after another

ahead : (c k : ℕ) → c < k → (c == k) ≡ false
ahead c k lt = ne_eqb c k (λ e. absurd (omega (arith, e, lt)))

module _ (now : Time) (p : ℕ) where
  signal_below : (k : ℕ) (xs : List Channel) (c : ℕ) → c < k → signal_seen (all_seen now p k xs) c ≡ no_signal
  signal_below k [] c lt = refl
  signal_below k (IsSignal s ∷ xs) c lt = rw (ahead c k lt) (signal_below (k + 1) xs c (omega (arith, lt)))
  signal_below k (IsFifo f ∷ xs) c lt = signal_below (k + 1) xs c (omega (arith, lt))

  fifo_below : (k : ℕ) (xs : List Channel) (c : ℕ) → c < k → fifo_seen (all_seen now p k xs) c ≡ no_fifo
  fifo_below k [] c lt = refl
  fifo_below k (IsSignal s ∷ xs) c lt = fifo_below (k + 1) xs c (omega (arith, lt))
  fifo_below k (IsFifo f ∷ xs) c lt = rw (ahead c k lt) (fifo_below (k + 1) xs c (omega (arith, lt)))

  signal_here : (k : ℕ) (x : Channel) (xs : List Channel) (c : ℕ) → c ≡ k → signal_seen (all_seen now p k (x ∷ xs)) c ≡ as_signal now x
  signal_here k (IsSignal s) xs c e = rw (eq-eqb c k e) refl
  signal_here k (IsFifo f) xs c e = signal_below (k + 1) xs c (omega (arith, e))

  signal_on : (k : ℕ) (x : Channel) (xs : List Channel) (c : ℕ) → k < c → signal_seen (all_seen now p k (x ∷ xs)) c ≡ signal_seen (all_seen now p (k + 1) xs) c
  signal_on k (IsSignal s) xs c lt = rw (ne_eqb c k (λ e. absurd (omega (arith, e, lt)))) refl
  signal_on k (IsFifo f) xs c lt = refl

  fifo_here : (k : ℕ) (x : Channel) (xs : List Channel) (c : ℕ) → c ≡ k → fifo_seen (all_seen now p k (x ∷ xs)) c ≡ as_fifo p x
  fifo_here k (IsSignal s) xs c e = fifo_below (k + 1) xs c (omega (arith, e))
  fifo_here k (IsFifo f) xs c e = rw (eq-eqb c k e) refl

  fifo_on : (k : ℕ) (x : Channel) (xs : List Channel) (c : ℕ) → k < c → fifo_seen (all_seen now p k (x ∷ xs)) c ≡ fifo_seen (all_seen now p (k + 1) xs) c
  fifo_on k (IsSignal s) xs c lt = refl
  fifo_on k (IsFifo f) xs c lt = rw (ne_eqb c k (λ e. absurd (omega (arith, e, lt)))) refl

  signal_at : (k : ℕ) (xs : List Channel) (i c : ℕ) → c ≡ k + i → signal_seen (all_seen now p k xs) c ≡ as_signal now (channel_at xs i)
  signal_at k [] i c e = refl
  signal_at k (x ∷ xs) zero c e = signal_here k x xs c (omega (arith, e))
  signal_at k (x ∷ xs) (suc i) c e = signal_on k x xs c (omega (arith, e)) ∙ signal_at (k + 1) xs i c (omega (arith, e))

  fifo_at : (k : ℕ) (xs : List Channel) (i c : ℕ) → c ≡ k + i → fifo_seen (all_seen now p k xs) c ≡ as_fifo p (channel_at xs i)
  fifo_at k [] i c e = refl
  fifo_at k (x ∷ xs) zero c e = fifo_here k x xs c (omega (arith, e))
  fifo_at k (x ∷ xs) (suc i) c e = fifo_on k x xs c (omega (arith, e)) ∙ fifo_at (k + 1) xs i c (omega (arith, e))

  -- what process p sees of signal or fifo number c
  pub signal_of_all : (xs : List Channel) (c : ℕ) → signal_seen (all_seen now p 0 xs) c ≡ as_signal now (channel_at xs c)
  signal_of_all xs c = signal_at 0 xs c c (omega arith)

  pub fifo_of_all : (xs : List Channel) (c : ℕ) → fifo_seen (all_seen now p 0 xs) c ≡ as_fifo p (channel_at xs c)
  fifo_of_all xs c = fifo_at 0 xs c c (omega arith)

-- ---- by names

-- of a signal that stands first, or of what follows
signal_or : Time → Channel → SignalSeen → SignalSeen
signal_or now (IsSignal s) others = record { value = s.current; changed = is_time now s.changed }
signal_or now (IsFifo f) others = others

fifo_or : Channel → FifoSeen → FifoSeen
fifo_or (IsSignal s) others = others
fifo_or (IsFifo f) others = record { values = available f; free = free_slots f }

module _ (now : Time) (xs : List Channel) (c : ℕ) where
  abbrev pub named : List ℕ → List Seen
  named names = map (λ d. open_seen now d (channel_at xs d)) names

  abbrev pub is_named : List ℕ → Bool
  is_named names = list_any (λ d. c == d) names

  signal_first : (d : ℕ) (others : List Seen) (b : Bool) → (c == d) ≡ b → (x : Channel) → signal_seen (open_seen now d x ∷ others) c ≡ (if b then signal_or now x (signal_seen others c) else signal_seen others c)
  unfolding signal_or
  signal_first d others true e (IsSignal s) = rw e refl
  signal_first d others false e (IsSignal s) = rw e refl
  signal_first d others true e (IsFifo f) = refl
  signal_first d others false e (IsFifo f) = refl

  fifo_first : (d : ℕ) (others : List Seen) (b : Bool) → (c == d) ≡ b → (x : Channel) → fifo_seen (open_seen now d x ∷ others) c ≡ (if b then fifo_or x (fifo_seen others c) else fifo_seen others c)
  unfolding fifo_or
  fifo_first d others true e (IsSignal s) = refl
  fifo_first d others false e (IsSignal s) = refl
  fifo_first d others true e (IsFifo f) = rw e refl
  fifo_first d others false e (IsFifo f) = rw e refl

  -- one that is no signal has nothing of one
  signal_step : (f : Fifo) → channel_at xs c ≡ IsFifo f → (d : ℕ) (others : SignalSeen) → others ≡ no_signal → (b : Bool) → (c == d) ≡ b → (if b then signal_or now (channel_at xs d) others else others) ≡ no_signal
  unfolding signal_or
  signal_step f is d others h true e = rw (sym (ap (channel_at xs) (eqb-true c d e)) ∙ is) h
  signal_step f is d others h false e = h

  signal_none : (ds : List ℕ) (f : Fifo) → channel_at xs c ≡ IsFifo f → signal_seen (named ds) c ≡ no_signal
  signal_none [] f is = refl
  signal_none (d ∷ ds) f is = signal_first d (named ds) (c == d) refl (channel_at xs d) ∙ signal_step f is d (signal_seen (named ds) c) (signal_none ds f is) (c == d) refl

  fifo_step : (s : Signal) → channel_at xs c ≡ IsSignal s → (d : ℕ) (others : FifoSeen) → others ≡ no_fifo → (b : Bool) → (c == d) ≡ b → (if b then fifo_or (channel_at xs d) others else others) ≡ no_fifo
  unfolding fifo_or
  fifo_step s is d others h true e = rw (sym (ap (channel_at xs) (eqb-true c d e)) ∙ is) h
  fifo_step s is d others h false e = h

  fifo_none : (ds : List ℕ) (s : Signal) → channel_at xs c ≡ IsSignal s → fifo_seen (named ds) c ≡ no_fifo
  fifo_none [] s is = refl
  fifo_none (d ∷ ds) s is = fifo_first d (named ds) (c == d) refl (channel_at xs d) ∙ fifo_step s is d (fifo_seen (named ds) c) (fifo_none ds s is) (c == d) refl

  -- one that is named
  signal_found : (s : Signal) → channel_at xs c ≡ IsSignal s → (d : ℕ) (rest : Bool) (others : SignalSeen) → (rest ≡ true → others ≡ as_signal now (IsSignal s)) → (b : Bool) → (c == d) ≡ b → (b || rest) ≡ true → (if b then signal_or now (channel_at xs d) others else others) ≡ as_signal now (IsSignal s)
  unfolding signal_or
  signal_found s is d rest others h true e n = rw (sym (ap (channel_at xs) (eqb-true c d e)) ∙ is) refl
  signal_found s is d rest others h false e n = h n

  signal_some : (ds : List ℕ) (s : Signal) → channel_at xs c ≡ IsSignal s → is_named ds ≡ true → signal_seen (named ds) c ≡ as_signal now (IsSignal s)
  signal_some [] s is n = absurd (let no : false ≡ true = n in cc)
  signal_some (d ∷ ds) s is n = signal_first d (named ds) (c == d) refl (channel_at xs d) ∙ signal_found s is d (is_named ds) (signal_seen (named ds) c) (λ m. signal_some ds s is m) (c == d) refl n

  fifo_found : (f : Fifo) → channel_at xs c ≡ IsFifo f → (d : ℕ) (rest : Bool) (others : FifoSeen) → (rest ≡ true → others ≡ as_open (IsFifo f)) → (b : Bool) → (c == d) ≡ b → (b || rest) ≡ true → (if b then fifo_or (channel_at xs d) others else others) ≡ as_open (IsFifo f)
  unfolding fifo_or
  fifo_found f is d rest others h true e n = rw (sym (ap (channel_at xs) (eqb-true c d e)) ∙ is) refl
  fifo_found f is d rest others h false e n = h n

  fifo_some : (ds : List ℕ) (f : Fifo) → channel_at xs c ≡ IsFifo f → is_named ds ≡ true → fifo_seen (named ds) c ≡ as_open (IsFifo f)
  fifo_some [] f is n = absurd (let no : false ≡ true = n in cc)
  fifo_some (d ∷ ds) f is n = fifo_first d (named ds) (c == d) refl (channel_at xs d) ∙ fifo_found f is d (is_named ds) (fifo_seen (named ds) c) (λ m. fifo_some ds f is m) (c == d) refl n

  -- what is seen of a channel that is named
  pub signal_named : (ds : List ℕ) → is_named ds ≡ true → signal_seen (named ds) c ≡ as_signal now (channel_at xs c)
  signal_named ds n = go (channel_at xs c) refl
    where
      go : (x : Channel) → channel_at xs c ≡ x → signal_seen (named ds) c ≡ as_signal now x
      go (IsSignal s) is = signal_some ds s is n
      go (IsFifo f) is = signal_none ds f is

  pub fifo_named : (ds : List ℕ) → is_named ds ≡ true → fifo_seen (named ds) c ≡ as_open (channel_at xs c)
  fifo_named ds n = go (channel_at xs c) refl
    where
      go : (x : Channel) → channel_at xs c ≡ x → fifo_seen (named ds) c ≡ as_open x
      go (IsSignal s) is = fifo_none ds s is
      go (IsFifo f) is = fifo_some ds f is n

  -- what is seen of one that isn't
  pub signal_unnamed : (ds : List ℕ) → is_named ds ≡ false → signal_seen (named ds) c ≡ no_signal
  signal_unnamed [] n = refl
  signal_unnamed (d ∷ ds) n = let b = or_parts (c == d) (is_named ds) n in signal_first d (named ds) (c == d) refl (channel_at xs d) ∙ rw (b.0) (signal_unnamed ds b.1)

  pub fifo_unnamed : (ds : List ℕ) → is_named ds ≡ false → fifo_seen (named ds) c ≡ no_fifo
  fifo_unnamed [] n = refl
  fifo_unnamed (d ∷ ds) n = let b = or_parts (c == d) (is_named ds) n in fifo_first d (named ds) (c == d) refl (channel_at xs d) ∙ rw (b.0) (fifo_unnamed ds b.1)
