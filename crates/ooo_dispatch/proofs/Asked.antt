-- What a channel was asked in a cycle, as the steps keep it for each of its events.
use Rattle.std.proofs.Common.{◌≡◌, ◌≢◌, ℕ, ◌<◌, ◌+◌, ◌==◌, ◌⊎◌, inl, inr, List, [], ◌∷◌, ◌++◌, length, Bool, true, false, not, ◌&&◌, ◌||◌, nat_lt, if◌then◌else◌, Option, Some, None, refl, sym, ap, ◌∙◌, subst, arith}
use Rattle.std.specs.Prelude.{⊤, fold, slice_get, slice_set}
use Rattle.std.proofs.lemmas.Bool.{cases_eq, eq-eqb, ne_eqb, lt-ltb}
use Rattle.std.proofs.lemmas.List.{get_or-set_same, get_or-set_other, length-set}
use Rattle.ooo_time.specs.declared.time.Time.{Time}
use Rattle.ooo_value.specs.declared.bound.BoundEvent.{BoundEvent}
use Rattle.ooo_value.specs.declared.bound.BoundEvent.TheVariants as event
use Rattle.ooo_value.specs.declared.values.Value.{Value}
use Rattle.ooo_value.specs.Values.{truth_of}
use Rattle.ooo_code.specs.declared.activation.Effect.{Effect}
use Rattle.ooo_code.specs.declared.activation.Effect.TheVariants as effect
use Rattle.ooo_code.specs.Channels.{Channel, Fifo, IsSignal, IsFifo, Signal, changes, is_notified, next_value, on_fifo, on_signal, put_into, same_value, taken_from, updated}
use Rattle.ooo_code.specs.Channels as channels
use Rattle.ooo_code.specs.Expressions.{no_value}
use Rattle.ooo_meaning.specs.World.{World, apply, apply_all, channel_at, no_channel}
use Rattle.ooo_channels.specs.Calls.{channel_of}
use Rattle.ooo_channels.specs.Cycles.{acted}
use Rattle.ooo_channels.specs.Operations.{is_on}
use Rattle.ooo_dispatch.proofs.Cores.{same_self}
use Rattle.ooo_schedules.specs.Program.{any_value, falls, has_put, has_taken, is_some, requested, rises, value_or}
use Rattle.ooo_schedules.specs.Updates.{asked_by, differs, noted_by, value_by}

-- ---- a channel, moved by the effects of an activation

abbrev pub acted_on : ℕ → Channel → Effect → Channel
acted_on c x f = if is_on c f then acted f x else x

abbrev pub acted_all : ℕ → List Effect → Channel → Channel
acted_all c fs x = fold (acted_on c) x fs

set_channel : (xs : List Channel) (d c : ℕ) (y : Channel) → c < length xs → channel_at (slice_set xs d y) c ≡ (if c == d then y else channel_at xs c)
set_channel xs d c y lt = at (cases_eq c d)
  where
    at : (c ≡ d) ⊎ (c ≢ d) → channel_at (slice_set xs d y) c ≡ (if c == d then y else channel_at xs c)
    at (inl e) =
        subst (λ n. channel_at (slice_set xs n y) c ≡ (if c == n then y else channel_at xs c)) e
        (get_or-set_same xs c y no_channel lt ∙ sym (ap (λ b. if b then y else channel_at xs c) (eq-eqb c c refl)))
    at (inr n) = get_or-set_other xs d c y no_channel n ∙ sym (ap (λ b. if b then y else channel_at xs c) (ne_eqb c d n))

-- an effect on a channel, by the number that it names
named : (xs : List Channel) (d c : ℕ) (g : Channel → Channel) → (if c == d then g (channel_at xs d) else channel_at xs c) ≡ (if c == d then g (channel_at xs c) else channel_at xs c)
named xs d c g = at (cases_eq c d)
  where
    at : (c ≡ d) ⊎ (c ≢ d) → (if c == d then g (channel_at xs d) else channel_at xs c) ≡ (if c == d then g (channel_at xs c) else channel_at xs c)
    at (inl e) = ap (λ n. if c == d then g (channel_at xs n) else channel_at xs c) (sym e)
    at (inr n) = ap (λ b. if b then g (channel_at xs d) else channel_at xs c) (ne_eqb c d n) ∙ sym (ap (λ b. if b then g (channel_at xs c) else channel_at xs c) (ne_eqb c d n))

pub channel_applied : (w : World) (fs : List Effect) (c : ℕ) → c < length w.channels → channel_at (apply_all w fs).channels c ≡ acted_all c fs (channel_at w.channels c)
channel_applied w [] c lt = refl
channel_applied w (effect.Request d v ∷ fs) c lt =
    let y : Channel = channels.requested v (channel_at w.channels d) in
    channel_applied (apply w (effect.Request d v)) fs c (let l = length-set w.channels d y in omega (arith, lt, l))
    ∙ ap (acted_all c fs) (set_channel w.channels d c y lt ∙ named w.channels d c (channels.requested v))
channel_applied w (effect.Put d v ∷ fs) c lt =
    let y : Channel = put_into v (channel_at w.channels d) in
    channel_applied (apply w (effect.Put d v)) fs c (let l = length-set w.channels d y in omega (arith, lt, l)) ∙ ap (acted_all c fs) (set_channel w.channels d c y lt ∙ named w.channels d c (put_into v))
channel_applied w (effect.Take d ∷ fs) c lt =
    let y : Channel = taken_from (channel_at w.channels d) in
    channel_applied (apply w (effect.Take d)) fs c (let l = length-set w.channels d y in omega (arith, lt, l)) ∙ ap (acted_all c fs) (set_channel w.channels d c y lt ∙ named w.channels d c taken_from)
channel_applied w (effect.Notify e k ∷ fs) c lt = channel_applied (apply w (effect.Notify e k)) fs c lt
channel_applied w (effect.Cancel e ∷ fs) c lt = channel_applied (apply w (effect.Cancel e)) fs c lt
channel_applied w (effect.Stop ∷ fs) c lt = channel_applied (apply w effect.Stop) fs c lt

pub channels_count : (w : World) (fs : List Effect) → length (apply_all w fs).channels ≡ length w.channels
channels_count w [] = refl
channels_count w (effect.Request d v ∷ fs) = channels_count (apply w (effect.Request d v)) fs ∙ length-set w.channels d (channels.requested v (channel_at w.channels d))
channels_count w (effect.Put d v ∷ fs) = channels_count (apply w (effect.Put d v)) fs ∙ length-set w.channels d (put_into v (channel_at w.channels d))
channels_count w (effect.Take d ∷ fs) = channels_count (apply w (effect.Take d)) fs ∙ length-set w.channels d (taken_from (channel_at w.channels d))
channels_count w (effect.Notify e k ∷ fs) = channels_count (apply w (effect.Notify e k)) fs
channels_count w (effect.Cancel e ∷ fs) = channels_count (apply w (effect.Cancel e)) fs
channels_count w (effect.Stop ∷ fs) = channels_count (apply w effect.Stop) fs

-- ---- what was asked

-- a signal with this value, of which this was requested
abbrev pub SignalAsked : Channel → Value → Option Value → Type 0
SignalAsked (IsSignal s) v a = (v ≡ s.current) × (a ≡ s.requested)
SignalAsked (IsFifo f) v a = ⊥

-- a fifo into which something was put, or not
abbrev pub PutAsked : Channel → Option Value → Type 0
PutAsked (IsFifo f) a = is_some a ≡ nat_lt 0 (length f.written)
PutAsked (IsSignal s) a = ⊥

-- a fifo from which something was taken, or not
abbrev pub TakeAsked : Channel → Option Value → Type 0
TakeAsked (IsFifo f) a = is_some a ≡ nat_lt 0 f.read
TakeAsked (IsSignal s) a = ⊥

-- what the steps keep of an event of the channel
abbrev pub AskedAs : BoundEvent → Channel → Value → Option Value → Type 0
AskedAs event.Own x v a = ⊤
AskedAs (event.Changed c) x v a = SignalAsked x v a
AskedAs (event.Rise c) x v a = SignalAsked x v a
AskedAs (event.Fall c) x v a = SignalAsked x v a
AskedAs (event.Written c) x v a = PutAsked x a
AskedAs (event.Taken c) x v a = TakeAsked x a

pub swap : (c d : ℕ) → (c == d) ≡ (d == c)
swap c d = at (cases_eq c d)
  where
    at : (c ≡ d) ⊎ (c ≢ d) → (c == d) ≡ (d == c)
    at (inl e) = eq-eqb c d e ∙ sym (eq-eqb d c (sym e))
    at (inr n) = ne_eqb c d n ∙ sym (ne_eqb d c (λ e. n (sym e)))

-- an effect of another kind leaves a signal
signal_kept : (x : Channel) (v : Value) (a : Option Value) (b : Bool) (g : Channel → Channel) → ((s : Signal) → g (IsSignal s) ≡ IsSignal s) → SignalAsked x v a → SignalAsked (if b then g x else x) v a
signal_kept (IsSignal s) v a true g same h = subst (λ x. SignalAsked x v a) (sym (same s)) h
signal_kept (IsSignal s) v a false g same h = h
signal_kept (IsFifo f) v a b g same h = absurd h

signal_asked : (c : ℕ) (x : Channel) (v : Value) (a : Option Value) (fs : List Effect) → SignalAsked x v a → SignalAsked (acted_all c fs x) v (requested c a fs)
signal_asked c x v a [] h = h
signal_asked c x v a (effect.Request d u ∷ fs) h =
    signal_asked c (if c == d then channels.requested u x else x) v (if d == c then Some u else a) fs
    (subst (λ b. SignalAsked (if c == d then channels.requested u x else x) v (if b then Some u else a)) (swap c d) (at x (c == d) h))
  where
    at : (x : Channel) (b : Bool) → SignalAsked x v a → SignalAsked (if b then channels.requested u x else x) v (if b then Some u else a)
    at (IsSignal s) true k = (k.0, refl)
    at (IsSignal s) false k = k
    at (IsFifo f) b k = absurd k
signal_asked c x v a (effect.Put d u ∷ fs) h = signal_asked c (if c == d then put_into u x else x) v a fs (signal_kept x v a (c == d) (put_into u) (λ s. refl) h)
signal_asked c x v a (effect.Take d ∷ fs) h = signal_asked c (if c == d then taken_from x else x) v a fs (signal_kept x v a (c == d) taken_from (λ s. refl) h)
signal_asked c x v a (effect.Notify e k ∷ fs) h = signal_asked c x v a fs h
signal_asked c x v a (effect.Cancel e ∷ fs) h = signal_asked c x v a fs h
signal_asked c x v a (effect.Stop ∷ fs) h = signal_asked c x v a fs h

pub some_more : (vs : List Value) (v : Value) → nat_lt 0 (length (vs ++ v ∷ [])) ≡ true
some_more [] v = refl
some_more (u ∷ us) v = lt-ltb 0 (length (u ∷ us ++ v ∷ [])) (omega arith)

-- it was asked already
already : (c : Bool) → is_some (if c then Some no_value else Some no_value) ≡ true
already true = refl
already false = refl

put_given : (x : Channel) (a b : Option Value) → is_some a ≡ is_some b → PutAsked x a → PutAsked x b
put_given (IsFifo f) a b e h = sym e ∙ h
put_given (IsSignal s) a b e h = absurd h

take_given : (x : Channel) (a b : Option Value) → is_some a ≡ is_some b → TakeAsked x a → TakeAsked x b
take_given (IsFifo f) a b e h = sym e ∙ h
take_given (IsSignal s) a b e h = absurd h

put_kept : (x : Channel) (a : Option Value) (b : Bool) (g : Channel → Channel) → ((f : Fifo) → (e : Fifo) × (g (IsFifo f) ≡ IsFifo e) × (e.written ≡ f.written)) → PutAsked x a → PutAsked (if b then g x else x) a
put_kept (IsFifo f) a true g same h = let r = same f in subst (λ x. PutAsked x a) (sym r.1) (h ∙ ap (λ vs. nat_lt 0 (length vs)) (sym r.2))
put_kept (IsFifo f) a false g same h = h
put_kept (IsSignal s) a b g same h = absurd h

take_kept : (x : Channel) (a : Option Value) (b : Bool) (g : Channel → Channel) → ((f : Fifo) → (e : Fifo) × (g (IsFifo f) ≡ IsFifo e) × (e.read ≡ f.read)) → TakeAsked x a → TakeAsked (if b then g x else x) a
take_kept (IsFifo f) a true g same h = let r = same f in subst (λ x. TakeAsked x a) (sym r.1) (h ∙ ap (λ n. nat_lt 0 n) (sym r.2))
take_kept (IsFifo f) a false g same h = h
take_kept (IsSignal s) a b g same h = absurd h

put_asked : (c : ℕ) (x : Channel) (a : Option Value) (fs : List Effect) → PutAsked x a → PutAsked (acted_all c fs x) (if has_put c fs then Some no_value else a)
put_asked c x a [] h = h
put_asked c x a (effect.Put d u ∷ fs) h = at (d == c) (swap c d) (λ y b k. put_asked c y b fs k)
  where
    put : (y : Channel) → PutAsked y a → PutAsked (put_into u y) (Some no_value)
    put (IsFifo f) k = sym (some_more f.written u)
    put (IsSignal s) k = absurd k

    at :
        (b : Bool) → (c == d) ≡ b → ((y : Channel) (b : Option Value) → PutAsked y b → PutAsked (acted_all c fs y) (if has_put c fs then Some no_value else b)) →
        PutAsked (acted_all c fs (if c == d then put_into u x else x)) (if (b || has_put c fs) then Some no_value else a)
    at true e rest =
        subst (λ b. PutAsked (acted_all c fs (if b then put_into u x else x)) (Some no_value)) (sym e)
        (put_given (acted_all c fs (put_into u x)) (if has_put c fs then Some no_value else Some no_value) (Some no_value) (already (has_put c fs)) (rest (put_into u x) (Some no_value) (put x h)))
    at false e rest = subst (λ b. PutAsked (acted_all c fs (if b then put_into u x else x)) (if has_put c fs then Some no_value else a)) (sym e) (rest x a h)
put_asked c x a (effect.Request d u ∷ fs) h = put_asked c (if c == d then channels.requested u x else x) a fs (put_kept x a (c == d) (channels.requested u) (λ f. (f, refl, refl)) h)
put_asked c x a (effect.Take d ∷ fs) h = put_asked c (if c == d then taken_from x else x) a fs (put_kept x a (c == d) taken_from (λ f. (record f { read = f.read + 1 }, refl, refl)) h)
put_asked c x a (effect.Notify e k ∷ fs) h = put_asked c x a fs h
put_asked c x a (effect.Cancel e ∷ fs) h = put_asked c x a fs h
put_asked c x a (effect.Stop ∷ fs) h = put_asked c x a fs h

take_asked : (c : ℕ) (x : Channel) (a : Option Value) (fs : List Effect) → TakeAsked x a → TakeAsked (acted_all c fs x) (if has_taken c fs then Some no_value else a)
take_asked c x a [] h = h
take_asked c x a (effect.Take d ∷ fs) h = at (d == c) (swap c d) (λ y b k. take_asked c y b fs k)
  where
    take : (y : Channel) → TakeAsked y a → TakeAsked (taken_from y) (Some no_value)
    take (IsFifo f) k = sym (lt-ltb 0 (f.read + 1) (omega arith))
    take (IsSignal s) k = absurd k

    at :
        (b : Bool) → (c == d) ≡ b → ((y : Channel) (b : Option Value) → TakeAsked y b → TakeAsked (acted_all c fs y) (if has_taken c fs then Some no_value else b)) →
        TakeAsked (acted_all c fs (if c == d then taken_from x else x)) (if (b || has_taken c fs) then Some no_value else a)
    at true e rest =
        subst (λ b. TakeAsked (acted_all c fs (if b then taken_from x else x)) (Some no_value)) (sym e)
        (take_given (acted_all c fs (taken_from x)) (if has_taken c fs then Some no_value else Some no_value) (Some no_value) (already (has_taken c fs)) (rest (taken_from x) (Some no_value) (take x h)))
    at false e rest = subst (λ b. TakeAsked (acted_all c fs (if b then taken_from x else x)) (if has_taken c fs then Some no_value else a)) (sym e) (rest x a h)
take_asked c x a (effect.Request d u ∷ fs) h = take_asked c (if c == d then channels.requested u x else x) a fs (take_kept x a (c == d) (channels.requested u) (λ f. (f, refl, refl)) h)
take_asked c x a (effect.Put d u ∷ fs) h = take_asked c (if c == d then put_into u x else x) a fs (take_kept x a (c == d) (put_into u) (λ f. (record f { written = f.written ++ u ∷ [] }, refl, refl)) h)
take_asked c x a (effect.Notify e k ∷ fs) h = take_asked c x a fs h
take_asked c x a (effect.Cancel e ∷ fs) h = take_asked c x a fs h
take_asked c x a (effect.Stop ∷ fs) h = take_asked c x a fs h

-- the effects of an activation
pub asked_after : (k : BoundEvent) (x : Channel) (v : Value) (a : Option Value) (fs : List Effect) → AskedAs k x v a → AskedAs k (acted_all (channel_of k) fs x) v (asked_by k a fs)
asked_after event.Own x v a fs h = tt
asked_after (event.Changed c) x v a fs h = signal_asked c x v a fs h
asked_after (event.Rise c) x v a fs h = signal_asked c x v a fs h
asked_after (event.Fall c) x v a fs h = signal_asked c x v a fs h
asked_after (event.Written c) x v a fs h = put_asked c x a fs h
asked_after (event.Taken c) x v a fs h = take_asked c x a fs h

-- ---- the update

and_true : (b : Bool) → (b && true) ≡ b
and_true true = refl
and_true false = refl

-- whether a signal's update tells, by what was requested
told : (test : Value → Bool) (now : Value) (o : Option Value) →
    (let next : Value = elim o [ None ↦ now | Some v ↦ v ] in not (same_value now next) && test next) ≡ differs test now o
told test now None = ap (λ b. not b && test now) (same_self now)
told test now (Some v) = refl

pub signal_noted : (test : Value → Bool) (x : Channel) (v : Value) (a : Option Value) → SignalAsked x v a → on_signal (λ s. changes s && test (next_value s)) (Some x) ≡ differs test v a
signal_noted test (IsSignal s) v a h = told test s.current s.requested ∙ ap (λ u. differs test u s.requested) (sym h.0) ∙ ap (differs test v) (sym h.1)
signal_noted test (IsFifo f) v a h = absurd h

pub changed_noted : (x : Channel) (v : Value) (a : Option Value) → SignalAsked x v a → on_signal changes (Some x) ≡ differs any_value v a
changed_noted (IsSignal s) v a h = sym (and_true (changes s)) ∙ signal_noted any_value (IsSignal s) v a h
changed_noted (IsFifo f) v a h = absurd h

-- the update notifies an event just where the steps note it
pub noted : (cs : List Channel) (k : BoundEvent) (x : Channel) (v : Value) (a : Option Value) → slice_get cs (channel_of k) ≡ Some x → AskedAs k x v a → is_notified cs k ≡ noted_by k v a
noted cs event.Own x v a is h = refl
noted cs (event.Changed c) x v a is h = ap (on_signal changes) is ∙ changed_noted x v a h
noted cs (event.Rise c) x v a is h = ap (on_signal (λ s. changes s && truth_of (next_value s))) is ∙ signal_noted rises x v a h
noted cs (event.Fall c) x v a is h = ap (on_signal (λ s. changes s && not (truth_of (next_value s)))) is ∙ signal_noted falls x v a h
noted cs (event.Written c) x v a is h = ap (on_fifo (λ f. nat_lt 0 (length f.written))) is ∙ at x h
  where
    at : (x : Channel) → PutAsked x a → on_fifo (λ f. nat_lt 0 (length f.written)) (Some x) ≡ is_some a
    at (IsFifo f) k = sym k
    at (IsSignal s) k = absurd k
noted cs (event.Taken c) x v a is h = ap (on_fifo (λ f. nat_lt 0 f.read)) is ∙ at x h
  where
    at : (x : Channel) → TakeAsked x a → on_fifo (λ f. nat_lt 0 f.read) (Some x) ≡ is_some a
    at (IsFifo f) k = sym k
    at (IsSignal s) k = absurd k

next_is : (now : Value) (o : Option Value) → value_or now o ≡ (elim o [ None ↦ now | Some v ↦ v ])
next_is now None = refl
next_is now (Some v) = refl

signal_updated : (t : Time) (x : Channel) (v : Value) (a : Option Value) → SignalAsked x v a → SignalAsked (updated t x) (value_or v a) None
signal_updated t (IsSignal s) v a h = (ap (λ u. value_or u a) h.0 ∙ ap (value_or s.current) h.1 ∙ next_is s.current s.requested, refl)
signal_updated t (IsFifo f) v a h = absurd h

-- after it, nothing was asked
pub asked_updated : (k : BoundEvent) (t : Time) (x : Channel) (v : Value) (a : Option Value) → AskedAs k x v a → AskedAs k (updated t x) (value_by k v a) None
asked_updated event.Own t x v a h = tt
asked_updated (event.Changed c) t x v a h = signal_updated t x v a h
asked_updated (event.Rise c) t x v a h = signal_updated t x v a h
asked_updated (event.Fall c) t x v a h = signal_updated t x v a h
asked_updated (event.Written c) t (IsFifo f) v a h = refl
asked_updated (event.Written c) t (IsSignal s) v a h = absurd h
asked_updated (event.Taken c) t (IsFifo f) v a h = refl
asked_updated (event.Taken c) t (IsSignal s) v a h = absurd h

-- an event is the model's own, or a channel's
pub is_own : (k : BoundEvent) → (k ≡ event.Own) ⊎ (k ≢ event.Own)
is_own event.Own = inl refl
is_own (event.Changed c) = inr (λ e. absurd cc)
is_own (event.Rise c) = inr (λ e. absurd cc)
is_own (event.Fall c) = inr (λ e. absurd cc)
is_own (event.Written c) = inr (λ e. absurd cc)
is_own (event.Taken c) = inr (λ e. absurd cc)
