-- The test of each touch.
use Rattle.std.proofs.Common.{◌≡◌, ℕ, Bool, true, false, Option, Some, None, refl, sym, ap, ap₂}
use Rattle.std.specs.Prelude.{◌==◌, ◌&&◌}
use Rattle.std.proofs.lemmas.Bool.{eqb-true, eq-eqb, and_parts, and_from}
use Rattle.ooo_time.specs.declared.time.Time.{Time}
use Rattle.ooo_code.specs.Touches.{Touch, Reads, Writes, ReadsSignal, WritesSignal, HoldsReading, HoldsWriting, Notifies, Cancels}
use Rattle.ooo_shapes.proofs.Soundness.{IsTestOf}

abbrev same_delay : Option Time → Option Time → Bool
same_delay None None = true
same_delay (Some s) (Some t) = s.0 == t.0
same_delay _ _ = false

-- the same touch
abbrev pub same_touch : Touch → Touch → Bool
same_touch (Reads x) (Reads y) = x == y
same_touch (Writes x) (Writes y) = x == y
same_touch (ReadsSignal c) (ReadsSignal d) = c == d
same_touch (WritesSignal c) (WritesSignal d) = c == d
same_touch (HoldsReading c) (HoldsReading d) = c == d
same_touch (HoldsWriting c) (HoldsWriting d) = c == d
same_touch (Notifies e k) (Notifies f l) = (e == f) && same_delay k l
same_touch (Cancels e) (Cancels f) = e == f
same_touch _ _ = false

delay_self : (k : Option Time) → same_delay k k ≡ true
delay_self None = refl
delay_self (Some t) = eq-eqb t.0 t.0 refl

time_only : (s t : Time) → s.0 ≡ t.0 → Some t ≡ Some s
time_only s t e = let same : t ≡ s = ap (λ (n : ℕ). let time : Time = record { 0 = n } in time) (sym e) in ap Some same

delay_only : (k l : Option Time) → same_delay k l ≡ true → l ≡ k
delay_only None None h = refl
delay_only (Some s) (Some t) h = time_only s t (eqb-true s.0 t.0 h)
delay_only _ _ h = cc

touch_self : (t : Touch) → same_touch t t ≡ true
touch_self (Reads x) = eq-eqb x x refl
touch_self (Writes x) = eq-eqb x x refl
touch_self (ReadsSignal c) = eq-eqb c c refl
touch_self (WritesSignal c) = eq-eqb c c refl
touch_self (HoldsReading c) = eq-eqb c c refl
touch_self (HoldsWriting c) = eq-eqb c c refl
touch_self (Notifies e k) = and_from (e == e) (same_delay k k) (eq-eqb e e refl) (delay_self k)
touch_self (Cancels e) = eq-eqb e e refl

touch_only : (t u : Touch) → same_touch t u ≡ true → u ≡ t
touch_only (Reads x) (Reads y) h = ap Reads (sym (eqb-true x y h))
touch_only (Writes x) (Writes y) h = ap Writes (sym (eqb-true x y h))
touch_only (ReadsSignal c) (ReadsSignal d) h = ap ReadsSignal (sym (eqb-true c d h))
touch_only (WritesSignal c) (WritesSignal d) h = ap WritesSignal (sym (eqb-true c d h))
touch_only (HoldsReading c) (HoldsReading d) h = ap HoldsReading (sym (eqb-true c d h))
touch_only (HoldsWriting c) (HoldsWriting d) h = ap HoldsWriting (sym (eqb-true c d h))
touch_only (Notifies e k) (Notifies f l) h =
    let s = and_parts (e == f) (same_delay k l) h in ap₂ Notifies (sym (eqb-true e f s.0)) (delay_only k l s.1)
touch_only (Cancels e) (Cancels f) h = ap Cancels (sym (eqb-true e f h))
touch_only _ _ h = cc

pub touch_test : (t : Touch) → IsTestOf (same_touch t) t
touch_test t = record { passes = touch_self t; only = touch_only t }
