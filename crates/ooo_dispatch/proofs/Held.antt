-- What is shown of fifos at a job's dispatch: of the ends that its segment holds what they have, of other ends nothing.
use Rattle.std.proofs.Common.{◌≡◌, ◌≢◌, ℕ, suc, ◌<◌, ◌≤◌, ◌+◌, ◌⊎◌, inl, inr, List, [], ◌∷◌, ◌++◌, length, Bool, true, false, ◌||◌, if◌then◌else◌, Some, None, refl, sym, ap, ◌∙◌, subst, arith}
use Rattle.std.specs.Prelude.{slice_get, IsSome}
use Rattle.std.proofs.lemmas.Bool.{cases_eq, eq-eqb}
use Rattle.ooo_time.specs.declared.stamp.Stamp.{Stamp}
use Rattle.ooo_time.specs.declared.time.Time.{Time}
use Rattle.ooo_value.specs.declared.bound.BoundChannel.{BoundChannel}
use Rattle.ooo_value.specs.declared.bound.ChannelKind.{ChannelKind}
use Rattle.ooo_value.specs.declared.bound.ChannelKind.TheVariants as channel
use Rattle.ooo_value.specs.declared.values.Value.{Value}
use Rattle.ooo_code.specs.declared.activation.Seen.{Seen}
use Rattle.ooo_code.specs.declared.activation.Seen.TheVariants as seen
use Rattle.ooo_code.specs.Channels.{Channel, IsSignal, IsFifo, is_time, available, free_slots}
use Rattle.ooo_code.specs.Expressions.{FifoSeen, fifo_seen}
use Rattle.ooo_code.specs.Sound.{IsSound, fifo_kind}
use Rattle.ooo_code.specs.Touches.{HoldsReading, HoldsWriting}
use Rattle.ooo_access.specs.declared.access.Access.{Access}
use Rattle.ooo_channels.specs.Operations.{Operations}
use Rattle.ooo_channels.specs.Cycles.{channel_in, readable, writable}
use Rattle.ooo_schedules.specs.Model.{Act}
use Rattle.ooo_dispatch.specs.declared.reads.Reads.{Reads}
use Rattle.ooo_dispatch.specs.Banks.{channel_shown, sights_by}
use Rattle.ooo_dispatch.specs.Boards.{AreRules}
use Rattle.ooo_dispatch.specs.Rules.{Rules, access_of, has, sight_of}
use Rattle.ooo_dispatch.proofs.Accessed.{exists_of}
use Rattle.ooo_dispatch.proofs.Lasting.{SeesNoMore, free_for, values_for}
use Rattle.ooo_dispatch.proofs.Sharing.{putter, taker}
use Rattle.ooo_dispatch.proofs.Sights.{fifo_over, no_fifo}

module _ (a : Access) (now : Time) (n : ℕ) (rest : List Seen) (none : fifo_seen rest n ≡ no_fifo) where
  values_here : (x : Channel) → (fifo_seen (sight_of a now n x ++ rest) n).values ≡ (if has a.takes n then readable x else [])
  values_here (IsSignal x) = at (has a.signals_read n) ∙ by (has a.takes n)
    where
      at : (b : Bool) → (fifo_seen ((if b then seen.Signal n x.current (is_time now x.changed) ∷ [] else []) ++ rest) n).values ≡ []
      at true = ap (λ f. f.values) none
      at false = ap (λ f. f.values) none

      by : (b : Bool) → let empty : List Value = [] in empty ≡ (if b then [] else [])
      by true = refl
      by false = refl
  values_here (IsFifo x) = at (has a.takes n) (has a.puts n)
    where
      at : (t p : Bool) → (fifo_seen ((if t || p then seen.Fifo n (if t then available x else []) (if p then free_slots x else 0) ∷ [] else []) ++ rest) n).values ≡ (if t then available x else [])
      at true p = ap (λ b. (let f : FifoSeen = if b then record { values = available x; free = if p then free_slots x else 0 } else fifo_seen rest n in f.values)) (eq-eqb n n refl)
      at false true = ap (λ b. (let f : FifoSeen = if b then record { values = []; free = free_slots x } else fifo_seen rest n in f.values)) (eq-eqb n n refl)
      at false false = ap (λ f. f.values) none

  free_here : (x : Channel) → (fifo_seen (sight_of a now n x ++ rest) n).free ≡ (if has a.puts n then writable x else 0)
  free_here (IsSignal x) = at (has a.signals_read n) ∙ by (has a.puts n)
    where
      at : (b : Bool) → (fifo_seen ((if b then seen.Signal n x.current (is_time now x.changed) ∷ [] else []) ++ rest) n).free ≡ 0
      at true = ap (λ f. f.free) none
      at false = ap (λ f. f.free) none

      by : (b : Bool) → let none : ℕ = 0 in none ≡ (if b then 0 else 0)
      by true = refl
      by false = refl
  free_here (IsFifo x) = at (has a.takes n) (has a.puts n)
    where
      at : (t p : Bool) → (fifo_seen ((if t || p then seen.Fifo n (if t then available x else []) (if p then free_slots x else 0) ∷ [] else []) ++ rest) n).free ≡ (if p then free_slots x else 0)
      at true p = ap (λ b. (let f : FifoSeen = if b then record { values = available x; free = if p then free_slots x else 0 } else fifo_seen rest n in f.free)) (eq-eqb n n refl)
      at false true = ap (λ b. (let f : FifoSeen = if b then record { values = []; free = free_slots x } else fifo_seen rest n in f.free)) (eq-eqb n n refl)
      at false false = ap (λ f. f.free) none

module _ (a : Access) (s : Stamp) (ops : Operations) where
  -- of a channel before the first one nothing is shown
  none_before : (n c : ℕ) (xs : List BoundChannel) → c < n → fifo_seen (sights_by a s ops n xs) c ≡ no_fifo
  none_before n c [] lt = refl
  none_before n c (x ∷ xs) lt =
      fifo_over a s.time n c (channel_shown s ops n x.kind) (sights_by a s ops (suc n) xs) (λ e. omega (arith, e, lt)) ∙ none_before (suc n) c xs (omega (arith, lt))

  -- channel c, where it is one of these, is a fifo
  abbrev IsFifoAt : (n c : ℕ) → List BoundChannel → Type 0
  IsFifoAt n c xs = (i : ℕ) (x : BoundChannel) → slice_get xs i ≡ Some x → n + i ≡ c → x.kind ≡ channel.Fifo

  further : (n c : ℕ) (x : BoundChannel) (xs : List BoundChannel) → IsFifoAt n c (x ∷ xs) → IsFifoAt (suc n) c xs
  further n c x xs h i y is e = h (suc i) y is (omega (arith, e))

  values_by : (n c : ℕ) (xs : List BoundChannel) → (has a.takes c ≡ true → IsFifoAt n c xs) → length (fifo_seen (sights_by a s ops n xs) c).values ≤ length (values_for a.takes s ops c)
  values_by n c [] h = omega arith
  values_by n c (x ∷ xs) h = at (cases_eq n c) (values_by (suc n) c xs (λ e. further n c x xs (h e)))
    where
      held : (b : Bool) → has a.takes n ≡ b → (b ≡ true → x.kind ≡ channel.Fifo) → length (if b then readable (channel_shown s ops n x.kind) else []) ≤ length (if b then readable (channel_in s ops n) else [])
      held true e k = subst (λ z. length (readable (channel_shown s ops n z)) ≤ length (readable (channel_in s ops n))) (sym (k refl)) (omega arith)
      held false e k = omega arith

      here : (has a.takes n ≡ true → IsFifoAt n n (x ∷ xs)) → length (fifo_seen (sights_by a s ops n (x ∷ xs)) n).values ≤ length (values_for a.takes s ops n)
      here k =
          subst (λ vs. length vs ≤ length (values_for a.takes s ops n))
          (sym (values_here a s.time n (sights_by a s ops (suc n) xs) (none_before (suc n) n xs (omega arith)) (channel_shown s ops n x.kind)))
          (held (has a.takes n) refl (λ e. k e 0 x refl (omega arith)))

      at : (n ≡ c) ⊎ (n ≢ c) → length (fifo_seen (sights_by a s ops (suc n) xs) c).values ≤ length (values_for a.takes s ops c) → length (fifo_seen (sights_by a s ops n (x ∷ xs)) c).values ≤ length (values_for a.takes s ops c)
      at (inl e) k =
          subst (λ m. length (fifo_seen (sights_by a s ops n (x ∷ xs)) m).values ≤ length (values_for a.takes s ops m)) e (here (subst (λ m. has a.takes m ≡ true → IsFifoAt n m (x ∷ xs)) (sym e) h))
      at (inr ne) k =
          subst (λ f. length f.values ≤ length (values_for a.takes s ops c)) (sym (fifo_over a s.time n c (channel_shown s ops n x.kind) (sights_by a s ops (suc n) xs) (λ e. ne (sym e)))) k

  free_by : (n c : ℕ) (xs : List BoundChannel) → (has a.puts c ≡ true → IsFifoAt n c xs) → (fifo_seen (sights_by a s ops n xs) c).free ≤ free_for a.puts s ops c
  free_by n c [] h = omega arith
  free_by n c (x ∷ xs) h = at (cases_eq n c) (free_by (suc n) c xs (λ e. further n c x xs (h e)))
    where
      held : (b : Bool) → has a.puts n ≡ b → (b ≡ true → x.kind ≡ channel.Fifo) → (if b then writable (channel_shown s ops n x.kind) else 0) ≤ (if b then writable (channel_in s ops n) else 0)
      held true e k = subst (λ z. writable (channel_shown s ops n z) ≤ writable (channel_in s ops n)) (sym (k refl)) (omega arith)
      held false e k = omega arith

      here : (has a.puts n ≡ true → IsFifoAt n n (x ∷ xs)) → (fifo_seen (sights_by a s ops n (x ∷ xs)) n).free ≤ free_for a.puts s ops n
      here k =
          subst (λ m. m ≤ free_for a.puts s ops n)
          (sym (free_here a s.time n (sights_by a s ops (suc n) xs) (none_before (suc n) n xs (omega arith)) (channel_shown s ops n x.kind)))
          (held (has a.puts n) refl (λ e. k e 0 x refl (omega arith)))

      at : (n ≡ c) ⊎ (n ≢ c) → (fifo_seen (sights_by a s ops (suc n) xs) c).free ≤ free_for a.puts s ops c → (fifo_seen (sights_by a s ops n (x ∷ xs)) c).free ≤ free_for a.puts s ops c
      at (inl e) k = subst (λ m. (fifo_seen (sights_by a s ops n (x ∷ xs)) m).free ≤ free_for a.puts s ops m) e (here (subst (λ m. has a.puts m ≡ true → IsFifoAt n m (x ∷ xs)) (sym e) h))
      at (inr ne) k = subst (λ f. f.free ≤ free_for a.puts s ops c) (sym (fifo_over a s.time n c (channel_shown s ops n x.kind) (sights_by a s ops (suc n) xs) (λ e. ne (sym e)))) k

module _ (r : Rules) (rules : AreRules r) (sound : IsSound r.design) where
  -- a channel that is known as a fifo is of that kind
  fifo_at : (c : ℕ) → IsSome (fifo_kind (slice_get r.design.channels c)) → (i : ℕ) (x : BoundChannel) → slice_get r.design.channels i ≡ Some x → i ≡ c → x.kind ≡ channel.Fifo
  fifo_at c some i x is e = at x.kind refl (subst (λ o. IsSome (fifo_kind o)) (ap (slice_get r.design.channels) (sym e) ∙ is) some)
    where
      at : (k : ChannelKind) → x.kind ≡ k → IsSome (fifo_kind (Some x)) → x.kind ≡ channel.Fifo
      at channel.Signal h y = absurd (by h y)
        where
          by : x.kind ≡ channel.Signal → IsSome (elim x.kind [ channel.Signal ↦ None | channel.Fifo ↦ Some x.value ]) → ⊥
          by h y = let none : false ≡ true = subst (λ k. IsSome (elim k [ channel.Signal ↦ None | channel.Fifo ↦ Some x.value ])) h y in cc
      at channel.Fifo h y = h

  -- so it is of an activation that read what operations show
  pub sees_no_more : (ops : Operations) (j : Act Stamp Reads) → j.reads.seen ≡ sights_by (access_of r j.segment) j.stamp ops 0 r.design.channels → SeesNoMore r ops j
  sees_no_more ops j e = record {
    values = λ c. subst (λ xs. length (fifo_seen xs c).values ≤ length (values_for (access_of r j.segment).takes j.stamp ops c)) (sym e)
        (values_by (access_of r j.segment) j.stamp ops 0 c r.design.channels (λ h i x is k.
        let t = taker r rules sound j.segment c h in fifo_at c (exists_of r rules sound j.segment t.here (HoldsReading c) t.accesses) i x is (omega (arith, k))));
    free = λ c. subst (λ xs. (fifo_seen xs c).free ≤ free_for (access_of r j.segment).puts j.stamp ops c) (sym e)
        (free_by (access_of r j.segment) j.stamp ops 0 c r.design.channels (λ h i x is k.
        let t = putter r rules sound j.segment c h in fifo_at c (exists_of r rules sound j.segment t.here (HoldsWriting c) t.accesses) i x is (omega (arith, k))));
  }
