-- What a process sees in the scheduler's world shows what the activations so far make.
use Rattle.std.proofs.Common.{◌≡◌, ◌≢◌, ℕ, zero, suc, ◌<◌, ◌+◌, List, [], ◌∷◌, length, Bool, true, false, if◌then◌else◌, Option, Some, refl, sym, ap, ◌∙◌, subst, arith}
use Rattle.std.specs.Prelude.{⊤, slice_get}
use Rattle.std.proofs.lemmas.Bool.{ne_eqb, eq-eqb}
use Rattle.ooo_time.specs.declared.stamp.Stamp.{Stamp}
use Rattle.ooo_time.specs.declared.time.Time.{Time}
use Rattle.ooo_value.specs.declared.values.Value.{Value}
use Rattle.ooo_code.specs.declared.activation.Effect.{Effect}
use Rattle.ooo_code.specs.declared.activation.Effect.TheVariants as effect
use Rattle.ooo_code.specs.declared.activation.Seen.{Seen}
use Rattle.ooo_code.specs.Channels.{Channel, IsSignal, IsFifo, all_seen, available, free_slots, is_process, is_time, seen_of, updated}
use Rattle.ooo_code.specs.declared.design.Proc.{Proc}
use Rattle.ooo_code.specs.declared.segment.Segment.{Segment}
use Rattle.ooo_code.specs.Expressions.{FifoSeen, SignalSeen, cells_of, fifo_seen, no_value, signal_seen}
use Rattle.ooo_code.specs.Segments.{Accesses}
use Rattle.ooo_code.specs.Sound.{IsSound, fifo_kind, signal_kind}
use Rattle.ooo_code.specs.Touches.{ReadsSignal, HoldsReading, HoldsWriting}
use Rattle.ooo_meaning.specs.Runs.{holder_of, holds_reading, holds_writing}
use Rattle.ooo_meaning.specs.World.{World, channel_at, view_of}
use Rattle.ooo_channels.specs.Agreement.{AreAlike}
use Rattle.ooo_channels.specs.Cycles.{acted, channel_in, readable, writable}
use Rattle.ooo_channels.specs.Operations.{is_on}
use Rattle.ooo_dispatch.proofs.Cores.{readable_alike, writable_alike}
use Rattle.ooo_schedules.specs.Model.{Act}
use Rattle.ooo_dispatch.specs.declared.reads.Reads as job
use Rattle.ooo_dispatch.specs.Boards.{AreRules}
use Rattle.ooo_dispatch.specs.Enough.{Shows, signal_shown}
use Rattle.ooo_dispatch.specs.Rules.{Rules, cells_after, operations_of}
use Rattle.ooo_dispatch.proofs.Accessed.{Here, exists_of, here_at, some_is, use_of}
use Rattle.ooo_dispatch.proofs.Asked.{acted_all, acted_on}
use Rattle.ooo_dispatch.proofs.Enough.{below}
use Rattle.ooo_dispatch.proofs.Holders.{reader_is, writer_is}

-- ---- what a process sees of a channel

abbrev no_signal : SignalSeen
no_signal = record { value = no_value; changed = false }

abbrev no_fifo : FifoSeen
no_fifo = record { values = []; free = 0 }

-- what a process sees of a channel as a fifo
abbrev fifo_shown : (p : ℕ) → Channel → FifoSeen
fifo_shown p (IsSignal s) = record { values = []; free = 0 }
fifo_shown p (IsFifo f) = record { values = if is_process p f.reader then available f else []; free = if is_process p f.writer then free_slots f else 0 }

module _ (now : Time) (p : ℕ) where
  signal_over : (n c : ℕ) (x : Channel) (rest : List Seen) → c ≢ n → signal_seen (seen_of now p n x ∷ rest) c ≡ signal_seen rest c
  signal_over n c (IsSignal x) rest ne = ap (λ b. if b then record { value = x.current; changed = is_time now x.changed } else signal_seen rest c) (ne_eqb c n ne)
  signal_over n c (IsFifo x) rest ne = refl

  fifo_over : (n c : ℕ) (x : Channel) (rest : List Seen) → c ≢ n → fifo_seen (seen_of now p n x ∷ rest) c ≡ fifo_seen rest c
  fifo_over n c (IsSignal x) rest ne = refl
  fifo_over n c (IsFifo x) rest ne = ap (λ b. if b then fifo_shown p (IsFifo x) else fifo_seen rest c) (ne_eqb c n ne)

  signal_past : (n c : ℕ) (xs : List Channel) → c < n → signal_seen (all_seen now p n xs) c ≡ no_signal
  signal_past n c [] lt = refl
  signal_past n c (x ∷ xs) lt = signal_over n c x (all_seen now p (n + 1) xs) (λ e. omega (arith, e, lt)) ∙ signal_past (n + 1) c xs (omega (arith, lt))

  fifo_past : (n c : ℕ) (xs : List Channel) → c < n → fifo_seen (all_seen now p n xs) c ≡ no_fifo
  fifo_past n c [] lt = refl
  fifo_past n c (x ∷ xs) lt = fifo_over n c x (all_seen now p (n + 1) xs) (λ e. omega (arith, e, lt)) ∙ fifo_past (n + 1) c xs (omega (arith, lt))

  signal_here : (n : ℕ) (x : Channel) (rest : List Seen) → signal_seen rest n ≡ no_signal → signal_seen (seen_of now p n x ∷ rest) n ≡ signal_shown now x
  signal_here n (IsSignal x) rest none = ap (λ b. if b then record { value = x.current; changed = is_time now x.changed } else signal_seen rest n) (eq-eqb n n refl)
  signal_here n (IsFifo x) rest none = none

  fifo_here : (n : ℕ) (x : Channel) (rest : List Seen) → fifo_seen rest n ≡ no_fifo → fifo_seen (seen_of now p n x ∷ rest) n ≡ fifo_shown p x
  fifo_here n (IsSignal x) rest none = none
  fifo_here n (IsFifo x) rest none = ap (λ b. if b then fifo_shown p (IsFifo x) else fifo_seen rest n) (eq-eqb n n refl)

  pub signal_at : (n i c : ℕ) (xs : List Channel) → i < length xs → c ≡ n + i → signal_seen (all_seen now p n xs) c ≡ signal_shown now (channel_at xs i)
  signal_at n i c [] lt e = absurd (omega (arith, lt))
  signal_at n zero c (x ∷ xs) lt e =
      let same : n ≡ c = omega (arith, e) in
      subst (λ m. signal_seen (all_seen now p m (x ∷ xs)) c ≡ signal_shown now x) (sym same) (signal_here c x (all_seen now p (c + 1) xs) (signal_past (c + 1) c xs (omega arith)))
  signal_at n (suc i) c (x ∷ xs) lt e = signal_over n c x (all_seen now p (n + 1) xs) (λ k. omega (arith, k, e)) ∙ signal_at (n + 1) i c xs (omega (arith, lt)) (omega (arith, e))

  pub fifo_at : (n i c : ℕ) (xs : List Channel) → i < length xs → c ≡ n + i → fifo_seen (all_seen now p n xs) c ≡ fifo_shown p (channel_at xs i)
  fifo_at n i c [] lt e = absurd (omega (arith, lt))
  fifo_at n zero c (x ∷ xs) lt e =
      let same : n ≡ c = omega (arith, e) in
      subst (λ m. fifo_seen (all_seen now p m (x ∷ xs)) c ≡ fifo_shown p x) (sym same) (fifo_here c x (all_seen now p (c + 1) xs) (fifo_past (c + 1) c xs (omega arith)))
  fifo_at n (suc i) c (x ∷ xs) lt e = fifo_over n c x (all_seen now p (n + 1) xs) (λ k. omega (arith, k, e)) ∙ fifo_at (n + 1) i c xs (omega (arith, lt)) (omega (arith, e))

-- ---- who holds the ends of a channel

abbrev pub HeldBy : Channel → (reader writer : Option ℕ) → Type 0
HeldBy (IsSignal s) a b = ⊤
HeldBy (IsFifo f) a b = (f.reader ≡ a) × (f.writer ≡ b)

acted_held : (f : Effect) (x : Channel) (a b : Option ℕ) → HeldBy x a b → HeldBy (acted f x) a b
acted_held (effect.Request c v) (IsSignal s) a b h = tt
acted_held (effect.Request c v) (IsFifo f) a b h = h
acted_held (effect.Put c v) (IsSignal s) a b h = tt
acted_held (effect.Put c v) (IsFifo f) a b h = h
acted_held (effect.Take c) (IsSignal s) a b h = tt
acted_held (effect.Take c) (IsFifo f) a b h = h
acted_held (effect.Notify e k) x a b h = h
acted_held (effect.Cancel e) x a b h = h
acted_held effect.Stop x a b h = h

pub all_held : (c : ℕ) (fs : List Effect) (x : Channel) (a b : Option ℕ) → HeldBy x a b → HeldBy (acted_all c fs x) a b
all_held c [] x a b h = h
all_held c (f ∷ fs) x a b h = all_held c fs (acted_on c x f) a b (at (is_on c f))
  where
    at : (t : Bool) → HeldBy (if t then acted f x else x) a b
    at true = acted_held f x a b h
    at false = h

pub updated_held : (t : Time) (x : Channel) (a b : Option ℕ) → HeldBy x a b → HeldBy (updated t x) a b
updated_held t (IsSignal s) a b h = tt
updated_held t (IsFifo f) a b h = h

is_itself : (p : ℕ) → is_process p (Some p) ≡ true
is_itself p = eq-eqb p p refl

taken_shown : (p : ℕ) (x : Channel) (b : Option ℕ) → HeldBy x (Some p) b → (fifo_shown p x).values ≡ readable x
taken_shown p (IsSignal s) b h = refl
taken_shown p (IsFifo f) b h = ap (λ o. if is_process p o then available f else []) h.0 ∙ ap (λ t. if t then available f else []) (is_itself p)

put_shown : (p : ℕ) (x : Channel) (a : Option ℕ) → HeldBy x a (Some p) → (fifo_shown p x).free ≡ writable x
put_shown p (IsSignal s) a h = refl
put_shown p (IsFifo f) a h = ap (λ o. if is_process p o then free_slots f else 0) h.1 ∙ ap (λ t. if t then free_slots f else 0) (is_itself p)

-- ---- channels that are alike are seen alike

abbrev is_signal : Channel → Bool
is_signal (IsSignal s) = true
is_signal (IsFifo f) = false

abbrev value_in : Channel → Value
value_in (IsSignal s) = s.current
value_in (IsFifo f) = no_value

shown_alike : (now : Time) (x y : Channel) → AreAlike now x y → signal_shown now y ≡ signal_shown now x
shown_alike now (IsSignal s) (IsSignal t) h =
    ap (λ v. record { value = v; changed = is_time now t.changed }) (sym (ap value_in h.core)) ∙ ap (λ c. record { value = s.current; changed = c }) (sym h.changed)
shown_alike now (IsFifo f) (IsFifo g) h = refl
shown_alike now (IsSignal s) (IsFifo g) h = absurd (let k : true ≡ false = ap is_signal h.core in cc)
shown_alike now (IsFifo f) (IsSignal t) h = absurd (let k : false ≡ true = ap is_signal h.core in cc)

-- ---- the whole view

abbrev Activation : Type 0
Activation = Act Stamp job.Reads

module _ (r : Rules) (rules : AreRules r) (sound : IsSound r.design) where
  -- the world's variables and channels are what these activations make
  pub record IsWorldOf (w : World) (xs : List Activation) : Type 0 where
    pub variables_count : length w.variables ≡ length r.design.variables
    pub variables : (x : ℕ) → cells_of w.variables x ≡ cells_after r x xs
    pub channels_count : length w.channels ≡ length r.design.channels
    pub channels : (c : ℕ) → c < length r.design.channels → AreAlike w.stamp.time (channel_in w.stamp (operations_of r xs) c) (channel_at w.channels c)
    pub held : (c : ℕ) → c < length r.design.channels → HeldBy (channel_at w.channels c) (holder_of r.design (holds_reading c)) (holder_of r.design (holds_writing c))

  pub shows_world : (g : ℕ) (h : Here r rules sound g) (w : World) (xs : List Activation) → IsWorldOf w xs → Shows r h.process h.segment.entry xs (view_of h.segment.process w)
  shows_world g h w xs i = record { count = i.variables_count; variables = λ x t. i.variables x; signals = signals; takes = takes; puts = puts }
    where
      there : (c : ℕ) → c < length r.design.channels → c < length w.channels
      there c lt = let e = i.channels_count in omega (arith, lt, e)

      signals : (c : ℕ) → Accesses r.design h.process h.segment.entry (ReadsSignal c) → signal_seen (view_of h.segment.process w).seen c ≡ signal_shown w.stamp.time (channel_in w.stamp (operations_of r xs) c)
      signals c t =
          let lt = below signal_kind r.design.channels c refl (exists_of r rules sound g h (ReadsSignal c) t) in
          signal_at w.stamp.time h.segment.process 0 c c w.channels (there c lt) (omega arith)
          ∙ shown_alike w.stamp.time (channel_in w.stamp (operations_of r xs) c) (channel_at w.channels c) (i.channels c lt)

      takes : (c : ℕ) → Accesses r.design h.process h.segment.entry (HoldsReading c) → (fifo_seen (view_of h.segment.process w).seen c).values ≡ readable (channel_in w.stamp (operations_of r xs) c)
      takes c t =
          let lt = below fifo_kind r.design.channels c refl (exists_of r rules sound g h (HoldsReading c) t) in
          let holder = reader_is r.design c h.segment.process (sound.reading_ends c) (use_of r rules sound g h (HoldsReading c) t) in
          ap (λ f. f.values) (fifo_at w.stamp.time h.segment.process 0 c c w.channels (there c lt) (omega arith))
          ∙ taken_shown h.segment.process (channel_at w.channels c) (holder_of r.design (holds_writing c)) (subst (λ o. HeldBy (channel_at w.channels c) o (holder_of r.design (holds_writing c))) holder (i.held c lt))
          ∙ sym (readable_alike w.stamp.time (channel_in w.stamp (operations_of r xs) c) (channel_at w.channels c) (i.channels c lt))

      puts : (c : ℕ) → Accesses r.design h.process h.segment.entry (HoldsWriting c) → (fifo_seen (view_of h.segment.process w).seen c).free ≡ writable (channel_in w.stamp (operations_of r xs) c)
      puts c t =
          let lt = below fifo_kind r.design.channels c refl (exists_of r rules sound g h (HoldsWriting c) t) in
          let holder = writer_is r.design c h.segment.process (sound.writing_ends c) (use_of r rules sound g h (HoldsWriting c) t) in
          ap (λ f. f.free) (fifo_at w.stamp.time h.segment.process 0 c c w.channels (there c lt) (omega arith))
          ∙ put_shown h.segment.process (channel_at w.channels c) (holder_of r.design (holds_reading c)) (subst (λ o. HeldBy (channel_at w.channels c) (holder_of r.design (holds_reading c)) o) holder (i.held c lt))
          ∙ sym (writable_alike w.stamp.time (channel_in w.stamp (operations_of r xs) c) (channel_at w.channels c) (i.channels c lt))

  pub shows_world_at : (p g : ℕ) (q : Proc) (segment : Segment) (w : World) (xs : List Activation) → slice_get r.segments g ≡ Some segment → segment.process ≡ p → slice_get r.design.processes p ≡ Some q →
      IsWorldOf w xs → Shows r q segment.entry xs (view_of p w)
  shows_world_at p g q segment w xs is owner process i =
      subst (λ n. Shows r q segment.entry xs (view_of n w)) number
      (subst (λ x. Shows r x segment.entry xs (view_of h.segment.process w)) same_process
      (subst (λ x. Shows r h.process x xs (view_of h.segment.process w)) entry (shows_world g h w xs i)))
    where
      h : Here r rules sound g
      h = here_at r rules sound g segment is

      same : h.segment ≡ segment
      same = some_is h.segment segment (sym h.segment_is ∙ is)

      number : h.segment.process ≡ p
      number = ap (λ x. x.process) same ∙ owner

      entry : h.segment.entry ≡ segment.entry
      entry = ap (λ x. x.entry) same

      same_process : h.process ≡ q
      same_process = some_is h.process q (sym h.process_is ∙ ap (slice_get r.design.processes) number ∙ process)
