-- The values of a fifo that may be read.
use Rattle.std.proofs.Common.{◌≡◌, ℕ, zero, suc, ◌<◌, ◌++◌, Bool, true, false, cond, arith, List, [], ◌∷◌, Some, refl, ap, sym, subst, ◌∙◌, length, length-append, get_or}
use Rattle.std.specs.Prelude.{slice_get}
use Rattle.std.proofs.lemmas.Option.{slice_get-get_or}
use Rattle.ooo_time.specs.declared.stamp.Stamp.{Stamp}
use Rattle.ooo_time.specs.Stamps.{is_before}
use Rattle.ooo_value.specs.declared.values.Value.{Value}
use Rattle.ooo_code.specs.Channels.{Channel, Signal, IsSignal, IsFifo, available, updated}
use Rattle.ooo_meaning.specs.World.{same_stamp, next_delta}
use Rattle.ooo_channels.specs.Cycles.{Cycle, cycle_at, later_channel, readable, values_left}
use Rattle.ooo_channels.proofs.Moves.{channel-cycle_at}
use Rattle.ooo_channels.proofs.Fifos.{later_channel-fifo}

get_or-append_front : (vs ws : List Value) (n : ℕ) (d : Value) → n < length vs → get_or (vs ++ ws) n d ≡ get_or vs n d
get_or-append_front [] ws n d lt = absurd (omega arith)
get_or-append_front (v ∷ vs) ws zero d lt = refl
get_or-append_front (v ∷ vs) ws (suc n) d lt = get_or-append_front vs ws n d (omega arith)

-- a value of a list that goes on is the same in its front
front_value : (vs ws : List Value) (n : ℕ) (v : Value) → n < length vs → slice_get (vs ++ ws) n ≡ Some v → slice_get vs n ≡ Some v
front_value vs ws n v lt e =
    slice_get-get_or vs n v lt
    ∙ ap Some (sym (get_or-append_front vs ws n v lt))
    ∙ sym (slice_get-get_or (vs ++ ws) n v (omega (arith, lt, length-append vs ws)))
    ∙ e

signal_not_readable : (at : Stamp) (x : Cycle) (s : Signal) → IsSignal s ≡ x.channel → readable (later_channel at x) ≡ []
signal_not_readable at x s is = ap (λ c. readable (later_channel at (record { stamp = x.stamp; channel = c; history = x.history }))) (sym is) ∙ go (same_stamp at (next_delta x.stamp)) where
  go : (b : Bool) → readable (cond b (updated x.stamp.time (IsSignal s)) (updated at.time (updated x.stamp.time (IsSignal s)))) ≡ []
  go true = refl
  go false = refl

value_in : (at : Stamp) (x : Cycle) (n : ℕ) (v : Value) (c : Channel) (b : Bool) → c ≡ x.channel → slice_get (values_left c) n ≡ Some v →
    n < length (readable (cond b (later_channel at x) c)) → slice_get (readable (cond b (later_channel at x) c)) n ≡ Some v
value_in at x n v (IsSignal s) true is e lt = absurd (omega (arith, lt, ap length (signal_not_readable at x s is)))
value_in at x n v (IsSignal s) false is e lt = absurd (omega arith)
value_in at x n v (IsFifo f) true is e lt = ap (λ c. slice_get (readable c) n) (later_channel-fifo at x f is) ∙ e
value_in at x n v (IsFifo f) false is e lt = front_value (available f) f.written n v lt e

pub readable_value :
    (at : Stamp) (x : Cycle) (n : ℕ) (v : Value) → slice_get (values_left x.channel) n ≡ Some v → n < length (readable (cycle_at at x).channel) →
    slice_get (readable (cycle_at at x).channel) n ≡ Some v
readable_value at x n v e lt =
    subst (λ c. slice_get (readable c) n ≡ Some v) (sym (channel-cycle_at at x))
    (value_in at x n v x.channel (is_before x.stamp at) refl e (subst (λ c. n < length (readable c)) (channel-cycle_at at x) lt))
