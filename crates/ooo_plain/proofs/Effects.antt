-- What effects leave of the room in fifos.
use Rattle.std.proofs.Common.{◌≡◌, ◌≢◌, ℕ, ◌+◌, ◌-◌, ◌≤◌, ◌==◌, Bool, true, false, if◌then◌else◌, arith, List, [], ◌∷◌, ◌++◌, refl, sym, subst, ap, ◌∙◌, length, drop, length-append, length-drop, ⊎_elim, eq-eqb}
use Rattle.std.proofs.lemmas.Bool.{cases_eq, ne_eqb}
use Rattle.std.proofs.lemmas.List.Sums.{fold-append}
use Rattle.ooo_time.specs.declared.stamp.Stamp.{Stamp}
use Rattle.ooo_time.specs.Stamps.{is_before}
use Rattle.ooo_value.specs.declared.values.Value.{Value}
use Rattle.ooo_code.specs.declared.activation.Effect.{Effect}
use Rattle.ooo_code.specs.declared.activation.Effect.TheVariants as effect
use Rattle.ooo_code.specs.declared.activation.Seen.{Seen}
use Rattle.ooo_code.specs.Channels.{Channel, IsSignal, IsFifo, put_into, taken_from}
use Rattle.ooo_code.specs.Expressions.{fifo_seen}
use Rattle.ooo_code.specs.Nodes.{seen_after_take, seen_after_put}
use Rattle.ooo_channels.specs.Operations.{Operations, after_effect, after_effects, is_on}
use Rattle.ooo_channels.specs.Cycles.{Cycle, cycle_at, cycle_after, cycle_step, cycle_of, channel_in, acted, readable, writable, first_cycle}
use Rattle.ooo_channels.specs.Conditions.{MayApply, MayApplyAll}
use Rattle.std.specs.Prelude.{slice_get}
use Rattle.ooo_plain.proofs.Order.{is_before-no, IsBefore-irrefl}
use Rattle.ooo_code.specs.OwnSteps.{SeesOwnSteps, left_of, free_of}

-- ---- one effect

cycle_of-after : (at : Stamp) (ops : Operations) (f : Effect) (c : ℕ) → cycle_of (after_effect at ops f) c ≡ cycle_step c (cycle_of ops c) (record { at = at; effect = f })
unfolding cycle_of
cycle_of-after at ops f c = fold-append (cycle_step c) (first_cycle (slice_get ops.channels c)) ops.applied (record { at = at; effect = f } ∷ [])

here_is : (at : Stamp) (x : Cycle) → is_before (cycle_at at x).stamp at ≡ false
here_is at x = go (is_before x.stamp at) refl
  where
    go : (b : Bool) → is_before x.stamp at ≡ b → is_before (cycle_at at x).stamp at ≡ false
    go true e = rw e (is_before-no at at (IsBefore-irrefl at))
    go false e = rw e e

acted_here : (at : Stamp) (x : Cycle) (f : Effect) → (cycle_at at (cycle_after x (record { at = at; effect = f }))).channel ≡ acted f (cycle_at at x).channel
acted_here at x f = rw (here_is at x) refl

pub channel_in-after : (at : Stamp) (ops : Operations) (f : Effect) (c : ℕ) → channel_in at (after_effect at ops f) c ≡ (if is_on c f then acted f (channel_in at ops c) else channel_in at ops c)
channel_in-after at ops f c = ap (λ x. (cycle_at at x).channel) (cycle_of-after at ops f c) ∙ go (is_on c f)
  where
    go : (b : Bool) → (cycle_at at (if b then cycle_after (cycle_of ops c) (record { at = at; effect = f }) else cycle_of ops c)).channel ≡ (if b then acted f (channel_in at ops c) else channel_in at ops c)
    go true = acted_here at (cycle_of ops c) f
    go false = refl

-- ---- room

-- no more is seen of a fifo than it has
pub record HasRoomLeft (at : Stamp) (ops : Operations) (seen : List Seen) : Type 0 where
  pub values : (c : ℕ) → length (fifo_seen seen c).values ≤ length (readable (channel_in at ops c))
  pub free : (c : ℕ) → (fifo_seen seen c).free ≤ writable (channel_in at ops c)

-- an effect that takes no room
abbrev pub IsLight : Effect → Type 0
IsLight (effect.Put c v) = ⊥
IsLight (effect.Take c) = ⊥
IsLight _ = Unit {0}

light_values : (f : Effect) → IsLight f → (x : Channel) → readable (acted f x) ≡ readable x
light_values (effect.Request c v) l (IsSignal s) = refl
light_values (effect.Request c v) l (IsFifo s) = refl
light_values (effect.Put c v) l x = absurd l
light_values (effect.Take c) l x = absurd l
light_values (effect.Notify e k) l x = refl
light_values (effect.Cancel e) l x = refl
light_values effect.Stop l x = refl

light_free : (f : Effect) → IsLight f → (x : Channel) → writable (acted f x) ≡ writable x
light_free (effect.Request c v) l (IsSignal s) = refl
light_free (effect.Request c v) l (IsFifo s) = refl
light_free (effect.Put c v) l x = absurd l
light_free (effect.Take c) l x = absurd l
light_free (effect.Notify e k) l x = refl
light_free (effect.Cancel e) l x = refl
light_free effect.Stop l x = refl

-- what holds whichever way it goes
by_cases : {A : Type 0} (P : A → Type 0) (b : Bool) (x y : A) → P x → P y → P (if b then x else y)
by_cases P true x y h k = h
by_cases P false x y h k = k

pub room_light : (at : Stamp) (ops : Operations) (seen : List Seen) (f : Effect) → IsLight f → HasRoomLeft at ops seen → HasRoomLeft at (after_effect at ops f) seen
room_light at ops seen f l h = record {
  values = λ c. subst (λ x. length (fifo_seen seen c).values ≤ length (readable x)) (sym (channel_in-after at ops f c))
      (by_cases (λ x. length (fifo_seen seen c).values ≤ length (readable x)) (is_on c f) (acted f (channel_in at ops c)) (channel_in at ops c)
      (subst (λ xs. length (fifo_seen seen c).values ≤ length xs) (sym (light_values f l (channel_in at ops c))) (h.values c)) (h.values c));
  free = λ c. subst (λ x. (fifo_seen seen c).free ≤ writable x) (sym (channel_in-after at ops f c))
      (by_cases (λ x. (fifo_seen seen c).free ≤ writable x) (is_on c f) (acted f (channel_in at ops c)) (channel_in at ops c)
      (subst (λ n. (fifo_seen seen c).free ≤ n) (sym (light_free f l (channel_in at ops c))) (h.free c)) (h.free c));
}

-- ---- a put

put_values : (v : Value) (x : Channel) → readable (put_into v x) ≡ readable x
put_values v (IsSignal s) = refl
put_values v (IsFifo f) = refl

put_free : (v : Value) (x : Channel) → writable x - 1 ≤ writable (put_into v x)
put_free v (IsSignal s) = omega arith
put_free v (IsFifo f) = omega (arith, length-append f.written (v ∷ []))

same_free : (b c free : ℕ) → b ≡ c → free_of b c free ≡ free - 1
same_free b c free e = rw (eq-eqb b c e) refl

other_free : (b c free : ℕ) → b ≢ c → free_of b c free ≡ free
other_free b c free ne = rw (ne_eqb b c ne) refl

pub room_put : SeesOwnSteps → (at : Stamp) (ops : Operations) (seen : List Seen) (b : ℕ) (v : Value) → HasRoomLeft at ops seen → HasRoomLeft at (after_effect at ops (effect.Put b v)) (seen_after_put seen b)
room_put sees at ops seen b v h = record { values = values; free = free } where
  values : (c : ℕ) → length (fifo_seen (seen_after_put seen b) c).values ≤ length (readable (channel_in at (after_effect at ops (effect.Put b v)) c))
  values c = subst (λ xs. length xs ≤ length (readable (channel_in at (after_effect at ops (effect.Put b v)) c))) (sym (sees.values_after_put seen b c))
      (subst (λ x. length (fifo_seen seen c).values ≤ length (readable x)) (sym (channel_in-after at ops (effect.Put b v) c))
      (by_cases (λ x. length (fifo_seen seen c).values ≤ length (readable x)) (c == b) (put_into v (channel_in at ops c)) (channel_in at ops c)
      (subst (λ xs. length (fifo_seen seen c).values ≤ length xs) (sym (put_values v (channel_in at ops c))) (h.values c)) (h.values c)))

  here : (c : ℕ) → c ≡ b → free_of b c (fifo_seen seen c).free ≤ writable (if c == b then put_into v (channel_in at ops c) else channel_in at ops c)
  here c e = rw (same_free b c (fifo_seen seen c).free (sym e), eq-eqb c b e) (let k = h.free c in let l = put_free v (channel_in at ops c) in omega (arith, k, l))

  there : (c : ℕ) → c ≢ b → free_of b c (fifo_seen seen c).free ≤ writable (if c == b then put_into v (channel_in at ops c) else channel_in at ops c)
  there c ne = rw (other_free b c (fifo_seen seen c).free (λ e. ne (sym e)), ne_eqb c b ne) (h.free c)

  free : (c : ℕ) → (fifo_seen (seen_after_put seen b) c).free ≤ writable (channel_in at (after_effect at ops (effect.Put b v)) c)
  free c = subst (λ n. n ≤ writable (channel_in at (after_effect at ops (effect.Put b v)) c)) (sym (sees.free_after_put seen b c))
      (subst (λ x. free_of b c (fifo_seen seen c).free ≤ writable x) (sym (channel_in-after at ops (effect.Put b v) c))
      (⊎_elim (here c) (there c) (cases_eq c b)))

-- ---- a take

take_free : (x : Channel) → writable (taken_from x) ≡ writable x
take_free (IsSignal s) = refl
take_free (IsFifo f) = refl

take_values : (x : Channel) → length (readable x) - 1 ≤ length (readable (taken_from x))
take_values (IsSignal s) = omega arith
take_values (IsFifo f) = omega (arith, length-drop f.read f.held, length-drop (f.read + 1) f.held)

same_left : (b c : ℕ) (values : List Value) → b ≡ c → left_of b c values ≡ drop 1 values
same_left b c values e = rw (eq-eqb b c e) refl

other_left : (b c : ℕ) (values : List Value) → b ≢ c → left_of b c values ≡ values
other_left b c values ne = rw (ne_eqb b c ne) refl

pub room_take : SeesOwnSteps → (at : Stamp) (ops : Operations) (seen : List Seen) (b : ℕ) → HasRoomLeft at ops seen → HasRoomLeft at (after_effect at ops (effect.Take b)) (seen_after_take seen b)
room_take sees at ops seen b h = record { values = values; free = free } where
  here : (c : ℕ) → c ≡ b → length (left_of b c (fifo_seen seen c).values) ≤ length (readable (if c == b then taken_from (channel_in at ops c) else channel_in at ops c))
  here c e = rw (same_left b c (fifo_seen seen c).values (sym e), eq-eqb c b e) (let k = h.values c in let l = take_values (channel_in at ops c) in omega (arith, k, l, length-drop 1 (fifo_seen seen c).values))

  there : (c : ℕ) → c ≢ b → length (left_of b c (fifo_seen seen c).values) ≤ length (readable (if c == b then taken_from (channel_in at ops c) else channel_in at ops c))
  there c ne = rw (other_left b c (fifo_seen seen c).values (λ e. ne (sym e)), ne_eqb c b ne) (h.values c)

  values : (c : ℕ) → length (fifo_seen (seen_after_take seen b) c).values ≤ length (readable (channel_in at (after_effect at ops (effect.Take b)) c))
  values c = subst (λ xs. length xs ≤ length (readable (channel_in at (after_effect at ops (effect.Take b)) c))) (sym (sees.values_after_take seen b c))
      (subst (λ x. length (left_of b c (fifo_seen seen c).values) ≤ length (readable x)) (sym (channel_in-after at ops (effect.Take b) c))
      (⊎_elim (here c) (there c) (cases_eq c b)))

  free : (c : ℕ) → (fifo_seen (seen_after_take seen b) c).free ≤ writable (channel_in at (after_effect at ops (effect.Take b)) c)
  free c = subst (λ n. n ≤ writable (channel_in at (after_effect at ops (effect.Take b)) c)) (sym (sees.free_after_take seen b c))
      (subst (λ x. (fifo_seen seen c).free ≤ writable x) (sym (channel_in-after at ops (effect.Take b) c))
      (by_cases (λ x. (fifo_seen seen c).free ≤ writable x) (c == b) (taken_from (channel_in at ops c)) (channel_in at ops c)
      (subst (λ n. (fifo_seen seen c).free ≤ n) (sym (take_free (channel_in at ops c))) (h.free c)) (h.free c)))

-- ---- many effects

pub after_last : (at : Stamp) (ops : Operations) (fs : List Effect) (f : Effect) → after_effects at ops (fs ++ f ∷ []) ≡ after_effect at (after_effects at ops fs) f
after_last at ops fs f = fold-append (after_effect at) ops fs (f ∷ [])

pub may_last : (at : Stamp) (fs : List Effect) (f : Effect) (ops : Operations) → MayApplyAll ops at fs → MayApply (after_effects at ops fs) at f → MayApplyAll ops at (fs ++ f ∷ [])
may_last at [] f ops h k = (k, tt)
may_last at (g ∷ gs) f ops h k = (h.0, may_last at gs f (after_effect at ops g) h.1 k)

pub channels_after : (at : Stamp) (fs : List Effect) (ops : Operations) → (after_effects at ops fs).channels ≡ ops.channels
channels_after at [] ops = refl
channels_after at (f ∷ fs) ops = channels_after at fs (after_effect at ops f)

pub events_after : (at : Stamp) (fs : List Effect) (ops : Operations) → (after_effects at ops fs).events ≡ ops.events
events_after at [] ops = refl
events_after at (f ∷ fs) ops = events_after at fs (after_effect at ops f)

pub below_after : (at : Stamp) (fs : List Effect) (ops : Operations) → (after_effects at ops fs).below ≡ ops.below
below_after at [] ops = refl
below_after at (f ∷ fs) ops = below_after at fs (after_effect at ops f)
