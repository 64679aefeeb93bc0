-- What a job saw of the fifos whose ends it holds is there as long as it is out.
use Rattle.std.proofs.Common.{◌≡◌, ◌≢◌, ℕ, ◌≤◌, ◌⊎◌, inl, inr, ⊎_elim, List, [], ◌∷◌, length, Bool, true, false, if◌then◌else◌, refl, sym, ap, ◌∙◌, subst, arith}
use Rattle.std.proofs.lemmas.Bool.{eqb-true}
use Rattle.ooo_time.specs.declared.stamp.Stamp.{Stamp}
use Rattle.ooo_value.specs.declared.values.Value.{Value}
use Rattle.ooo_code.specs.declared.activation.Effect.{Effect}
use Rattle.ooo_code.specs.declared.activation.Effect.TheVariants as effect
use Rattle.ooo_code.specs.Channels.{Channel}
use Rattle.ooo_code.specs.Expressions.{fifo_seen}
use Rattle.ooo_code.specs.Sound.{IsSound}
use Rattle.ooo_code.specs.Touches.{HoldsReading, HoldsWriting}
use Rattle.ooo_channels.specs.Operations.{Operations, is_on}
use Rattle.ooo_channels.specs.Cycles.{Cycle, acted, channel_in, cycle_at, cycle_of, cycle_step, readable, writable}
use Rattle.ooo_schedules.specs.Model.{Act, In}
use Rattle.ooo_schedules.specs.Program.{Sound}
use Rattle.ooo_schedules.specs.Tables.{EveryScheduleOf, program}
use Rattle.ooo_dispatch.specs.declared.reads.Reads.{Reads}
use Rattle.ooo_dispatch.specs.Boards.{AreRules, Board, IsLawful}
use Rattle.ooo_dispatch.specs.Rules.{Rules, access_of, clash, deed_of, has, operations_of, process_of, tables}
use Rattle.ooo_dispatch.proofs.Acting.{Does}
use Rattle.ooo_dispatch.proofs.Owners.{owned}
use Rattle.ooo_dispatch.proofs.Room.{HasRoomLeft}
use Rattle.ooo_dispatch.proofs.Sharing.{IsTouched, Touches, no_putter, no_taker, one_putter, one_taker, putter, putter_clashes, taker, taker_clashes, touched}
use Rattle.ooo_dispatch.proofs.Shown.{cycle_moved, moved, put_neutral, step_off, step_on, take_neutral}
use Rattle.ooo_dispatch.proofs.Stamps.{compare}

abbrev Activation : Type 0
Activation = Act Stamp Reads

-- ---- what is seen of ends that are held

-- the values that a segment with this access may take, and the slots that it may fill
abbrev pub values_for : List ℕ → Stamp → Operations → ℕ → List Value
values_for takes s ops c = if has takes c then readable (channel_in s ops c) else []

abbrev pub free_for : List ℕ → Stamp → Operations → ℕ → ℕ
free_for puts s ops c = if has puts c then writable (channel_in s ops c) else 0

-- of an end that it holds an activation saw no more than operations show, of other ends nothing
pub record SeesNoMore (r : Rules) (ops : Operations) (j : Activation) : Type 0 where
  pub values : (c : ℕ) → length (fifo_seen j.reads.seen c).values ≤ length (values_for (access_of r j.segment).takes j.stamp ops c)
  pub free : (c : ℕ) → (fifo_seen j.reads.seen c).free ≤ free_for (access_of r j.segment).puts j.stamp ops c

fewer : (b : Bool) (vs : List Value) → length (if b then vs else []) ≤ length vs
fewer true vs = omega arith
fewer false vs = omega arith

less : (b : Bool) (n : ℕ) → (if b then n else 0) ≤ n
less true n = omega arith
less false n = omega arith

pub room_left : (r : Rules) (ops : Operations) (j : Activation) → SeesNoMore r ops j → HasRoomLeft j.stamp ops j.reads.seen
room_left r ops j h = record {
  values = λ c. let a = h.values c in let b = fewer (has (access_of r j.segment).takes c) (readable (channel_in j.stamp ops c)) in omega (arith, a, b);
  free = λ c. let a = h.free c in let b = less (has (access_of r j.segment).puts c) (writable (channel_in j.stamp ops c)) in omega (arith, a, b);
}

-- ---- effects that change nothing of what is shown at a stamp

module _ {X : Type 0} (shown : Channel → X) where
  -- an effect at the stamp that changes nothing of it
  abbrev pub IsNeutral : Stamp → Stamp → Effect → Type 0
  IsNeutral s t f = (t ≡ s) × ((y : Channel) → shown (acted f y) ≡ shown y)

  neutral_moved : (s t : Stamp) (c : ℕ) (fs : List Effect) (x : Cycle) → ((f : Effect) → In f fs → is_on c f ≡ true → IsNeutral s t f) → shown (cycle_at s (moved t c fs x)).channel ≡ shown (cycle_at s x).channel
  neutral_moved s t c [] x neutral = refl
  neutral_moved s t c (f ∷ fs) x neutral = neutral_moved s t c fs (cycle_step c x (record { at = t; effect = f })) (λ g i. neutral g (inr i)) ∙ at (is_on c f) refl
    where
      at : (b : Bool) → is_on c f ≡ b → shown (cycle_at s (cycle_step c x (record { at = t; effect = f }))).channel ≡ shown (cycle_at s x).channel
      at true on =
          let n = neutral f (inl refl) on in
          ap (λ u. shown (cycle_at s (cycle_step c x (record { at = u; effect = f }))).channel) n.0 ∙ ap shown (step_on s c f x on) ∙ n.1 (cycle_at s x).channel
      at false off = ap (λ y. shown (cycle_at s y).channel) (step_off t c f x off)

  pub still_shown : (r : Rules) (s : Stamp) (c : ℕ) (k : Activation) (ys : List Activation) → ((f : Effect) → In f (deed_of r k).effects → is_on c f ≡ true → IsNeutral s k.stamp f) →
      shown (channel_in s (operations_of r (k ∷ ys)) c) ≡ shown (channel_in s (operations_of r ys) c)
  still_shown r s c k ys neutral =
      ap (λ y. shown (cycle_at s y).channel) (cycle_moved k.stamp (operations_of r ys) (deed_of r k).effects c)
      ∙ neutral_moved s k.stamp c (deed_of r k).effects (cycle_of (operations_of r ys) c) neutral

-- ---- a commit of another job

module _ (r : Rules) (rules : AreRules r) (sound : IsSound r.design) (does : Does) (runs : Sound (program (tables r))) (every : EveryScheduleOf (tables r)) (b : Board r) (lawful : IsLawful r b)
    (k j : Activation) (k_out : In k b.out) (j_out : In j b.out) (other : j.process ≢ k.process) where
  -- they aren't of one process
  two : process_of r k.segment ≡ process_of r j.segment → ⊥
  two e = other (sym (owned r runs lawful j (inr j_out)) ∙ sym e ∙ owned r runs lawful k (inr k_out))

  -- two jobs out that clash strictly both ways are at one stamp
  same_stamp : clash r k.segment j.segment true ≡ true → clash r j.segment k.segment true ≡ true → k.stamp ≡ j.stamp
  same_stamp kj jk =
      ⊎_elim (λ lt. absurd (every.no_conflict b lawful k j k_out (inr j_out) (λ e. other (sym e)) (inl lt) (inr (lt, kj))))
      (λ h. ⊎_elim (λ e. e) (λ lt. absurd (every.no_conflict b lawful j k j_out (inr k_out) other (inl lt) (inr (lt, jk)))) h) (compare k.stamp j.stamp)

  -- the reader's view of what the other one does
  for_taker : (c : ℕ) → Touches r rules sound j.segment (HoldsReading c) → (f : Effect) → In f (deed_of r k).effects → is_on c f ≡ true → IsNeutral readable j.stamp k.stamp f
  for_taker c mine f i on = by f (touched r rules sound does k f i) on
    where
      by : (f : Effect) → IsTouched r rules sound does k f → is_on c f ≡ true → IsNeutral readable j.stamp k.stamp f
      by (effect.Request d v) t o = absurd (no_taker r rules sound k.segment j.segment d t (subst (λ n. Touches r rules sound j.segment (HoldsReading n)) (eqb-true c d o) mine))
      by (effect.Put d v) t o =
          let here : Touches r rules sound j.segment (HoldsReading d) = subst (λ n. Touches r rules sound j.segment (HoldsReading n)) (eqb-true c d o) mine in
          (same_stamp (putter_clashes r rules sound k.segment j.segment d t here) (taker_clashes r rules sound j.segment k.segment d here t), put_neutral d v)
      by (effect.Take d) t o = absurd (two (one_taker r rules sound k.segment j.segment d t (subst (λ n. Touches r rules sound j.segment (HoldsReading n)) (eqb-true c d o) mine)))
      by (effect.Notify e d) t o = absurd cc
      by (effect.Cancel e) t o = absurd cc
      by effect.Stop t o = absurd cc

  -- the writer's
  for_putter : (c : ℕ) → Touches r rules sound j.segment (HoldsWriting c) → (f : Effect) → In f (deed_of r k).effects → is_on c f ≡ true → IsNeutral writable j.stamp k.stamp f
  for_putter c mine f i on = by f (touched r rules sound does k f i) on
    where
      by : (f : Effect) → IsTouched r rules sound does k f → is_on c f ≡ true → IsNeutral writable j.stamp k.stamp f
      by (effect.Request d v) t o = absurd (no_putter r rules sound k.segment j.segment d t (subst (λ n. Touches r rules sound j.segment (HoldsWriting n)) (eqb-true c d o) mine))
      by (effect.Put d v) t o = absurd (two (one_putter r rules sound k.segment j.segment d t (subst (λ n. Touches r rules sound j.segment (HoldsWriting n)) (eqb-true c d o) mine)))
      by (effect.Take d) t o =
          let here : Touches r rules sound j.segment (HoldsWriting d) = subst (λ n. Touches r rules sound j.segment (HoldsWriting n)) (eqb-true c d o) mine in
          (same_stamp (taker_clashes r rules sound k.segment j.segment d t here) (putter_clashes r rules sound j.segment k.segment d here t), take_neutral d)
      by (effect.Notify e d) t o = absurd cc
      by (effect.Cancel e) t o = absurd cc
      by effect.Stop t o = absurd cc

  values_same : (c : ℕ) → values_for (access_of r j.segment).takes j.stamp (operations_of r (k ∷ b.log)) c ≡ values_for (access_of r j.segment).takes j.stamp (operations_of r b.log) c
  values_same c = at (has (access_of r j.segment).takes c) refl
    where
      at : (t : Bool) → has (access_of r j.segment).takes c ≡ t →
          (if t then readable (channel_in j.stamp (operations_of r (k ∷ b.log)) c) else []) ≡ (if t then readable (channel_in j.stamp (operations_of r b.log) c) else [])
      at true e = still_shown readable r j.stamp c k b.log (for_taker c (taker r rules sound j.segment c e))
      at false e = refl

  free_same : (c : ℕ) → free_for (access_of r j.segment).puts j.stamp (operations_of r (k ∷ b.log)) c ≡ free_for (access_of r j.segment).puts j.stamp (operations_of r b.log) c
  free_same c = at (has (access_of r j.segment).puts c) refl
    where
      at : (t : Bool) → has (access_of r j.segment).puts c ≡ t →
          (if t then writable (channel_in j.stamp (operations_of r (k ∷ b.log)) c) else 0) ≡ (if t then writable (channel_in j.stamp (operations_of r b.log) c) else 0)
      at true e = still_shown writable r j.stamp c k b.log (for_putter c (putter r rules sound j.segment c e))
      at false e = refl

  pub sees_still : SeesNoMore r (operations_of r b.log) j → SeesNoMore r (operations_of r (k ∷ b.log)) j
  sees_still h = record {
    values = λ c. subst (λ vs. length (fifo_seen j.reads.seen c).values ≤ length vs) (sym (values_same c)) (h.values c);
    free = λ c. subst (λ n. (fifo_seen j.reads.seen c).free ≤ n) (sym (free_same c)) (h.free c);
  }
