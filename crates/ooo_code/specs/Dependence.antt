-- What an activation depends on, and what it may change: only what its segment touches.
use Rattle.std.specs.Prelude.{◌≡◌, ℕ, List, [], ◌∷◌, length, Option}
use Rattle.ooo_time.specs.declared.time.Time.{Time}
use Rattle.ooo_value.specs.declared.values.Value.{Value}
use Rattle.ooo_code.specs.declared.activation.Effect.{Effect}
use Rattle.ooo_code.specs.declared.activation.Effect.TheVariants as effect
use Rattle.ooo_code.specs.Expressions.{signal_seen, fifo_seen, cells_of}
use Rattle.ooo_code.specs.Outcomes.{View, Outcome}
use Rattle.ooo_code.specs.Touches.{Touch, Reads, Writes, ReadsSignal, WritesSignal, HoldsReading, HoldsWriting, Notifies, Cancels}

-- two lists of all variables agree on what is touched
pub record SameVariables (T : Touch → Type 0) (a b : List (List Value)) : Type 0 where
  pub count : length a ≡ length b
  pub read : (x : ℕ) → T (Reads x) → cells_of a x ≡ cells_of b x
  pub written : (x : ℕ) → T (Writes x) → cells_of a x ≡ cells_of b x

-- two views agree on what is touched: the stamp, variables, signals, and of a fifo the end that is held
pub record AgreeOn (T : Touch → Type 0) (a b : View) : Type 0 where
  pub stamp : a.stamp ≡ b.stamp
  pub variables : SameVariables T a.variables b.variables
  pub signals : (c : ℕ) → T (ReadsSignal c) → signal_seen a.seen c ≡ signal_seen b.seen c
  pub readable : (c : ℕ) → T (HoldsReading c) → (fifo_seen a.seen c).values ≡ (fifo_seen b.seen c).values
  pub writable : (c : ℕ) → T (HoldsWriting c) → (fifo_seen a.seen c).free ≡ (fifo_seen b.seen c).free

-- two activations did the same: output, effects, end, next place, and the variables that are touched
pub record DidTheSame {K : Type 0} (T : Touch → Type 0) (a b : Outcome K) : Type 0 where
  pub output : a.deed.output ≡ b.deed.output
  pub effects : a.deed.effects ≡ b.deed.effects
  pub end : a.deed.end ≡ b.deed.end
  pub next : a.next ≡ b.next
  pub variables : SameVariables T a.deed.variables b.deed.variables

-- the touch that an effect takes, if it takes one
abbrev pub IsEffectOf : (T : Touch → Type 0) → Effect → Type 0
IsEffectOf T (effect.Request c v) = T (WritesSignal c)
IsEffectOf T (effect.Put c v) = T (HoldsWriting c)
IsEffectOf T (effect.Take c) = T (HoldsReading c)
IsEffectOf T (effect.Notify e k) = (delay : Option Time) × T (Notifies e delay)
IsEffectOf T (effect.Cancel e) = T (Cancels e)
IsEffectOf T effect.Stop = Unit {0}

-- each of them is one
abbrev pub AreEffectsOf : (T : Touch → Type 0) → List Effect → Type 0
AreEffectsOf T [] = Unit {0}
AreEffectsOf T (f ∷ fs) = IsEffectOf T f × AreEffectsOf T fs

-- an activation changed only the variables that are written, and has only effects on what is touched
pub record TouchesOnly {K : Type 0} (T : Touch → Type 0) (v : View) (o : Outcome K) : Type 0 where
  pub variables : (x : ℕ) → ¬ T (Writes x) → cells_of o.deed.variables x ≡ cells_of v.variables x
  pub effects : AreEffectsOf T o.deed.effects
