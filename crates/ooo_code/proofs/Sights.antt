-- What an activation's own takes and puts change of what it sees.
use Rattle.std.proofs.Common.{◌≡◌, ℕ, ◌-◌, List, [], ◌∷◌, drop, Bool, true, false, ◌==◌, if◌then◌else◌, ◌∙◌, refl, sym, ap}
use Rattle.std.proofs.lemmas.Bool.Decides.{Decides-eqb}
use Rattle.ooo_value.specs.declared.values.Value.{Value}
use Rattle.ooo_code.specs.declared.activation.Seen.{Seen}
use Rattle.ooo_code.specs.declared.activation.Seen.TheVariants as seen
use Rattle.ooo_code.specs.Expressions.{signal_seen, fifo_seen}
use Rattle.ooo_code.specs.Nodes.{seen_after_take, seen_after_put}
use Rattle.ooo_code.specs.OwnSteps.{left_of, free_of}

pub signal_after_take : (xs : List Seen) (b c : ℕ) → signal_seen (seen_after_take xs b) c ≡ signal_seen xs c
signal_after_take [] b c = refl
signal_after_take (seen.Signal d v changed ∷ xs) b c =
    ap (λ x. if c == d then record { value = v; changed = changed } else x) (signal_after_take xs b c)
signal_after_take (seen.Fifo d values free ∷ xs) b c = at (b == d) (signal_after_take xs b c)
  where
    at : (t : Bool) → signal_seen (seen_after_take xs b) c ≡ signal_seen xs c → signal_seen ((if t then seen.Fifo d (drop 1 values) free else seen.Fifo d values free) ∷ seen_after_take xs b) c ≡ signal_seen xs c
    at true e = e
    at false e = e

pub signal_after_put : (xs : List Seen) (b c : ℕ) → signal_seen (seen_after_put xs b) c ≡ signal_seen xs c
signal_after_put [] b c = refl
signal_after_put (seen.Signal d v changed ∷ xs) b c =
    ap (λ x. if c == d then record { value = v; changed = changed } else x) (signal_after_put xs b c)
signal_after_put (seen.Fifo d values free ∷ xs) b c = at (b == d) (signal_after_put xs b c)
  where
    at : (t : Bool) → signal_seen (seen_after_put xs b) c ≡ signal_seen xs c → signal_seen ((if t then seen.Fifo d values (free - 1) else seen.Fifo d values free) ∷ seen_after_put xs b) c ≡ signal_seen xs c
    at true e = e
    at false e = e

nothing_left : (t : Bool) → let none : List Value = [] in none ≡ (if t then drop 1 none else none)
nothing_left true = refl
nothing_left false = refl

nothing_free : (t : Bool) → 0 ≡ (if t then 0 - 1 else 0)
nothing_free true = refl
nothing_free false = refl

-- a fifo stands first, and fifo c is looked for
module _ (d : ℕ) (values : List Value) (free : ℕ) (c : ℕ) (xs ys : List Seen) where
  taken_first : (t : Bool) → (c == d) ≡ true → (fifo_seen ((if t then seen.Fifo d (drop 1 values) free else seen.Fifo d values free) ∷ ys) c).values ≡ (if t then drop 1 values else values)
  taken_first true e = rw e refl
  taken_first false e = rw e refl

  taken_later : (t : Bool) → (c == d) ≡ false → (fifo_seen ((if t then seen.Fifo d (drop 1 values) free else seen.Fifo d values free) ∷ ys) c) ≡ fifo_seen ys c
  taken_later true e = rw e refl
  taken_later false e = rw e refl

  taken_free : (t : Bool) → (c == d) ≡ true → (fifo_seen ((if t then seen.Fifo d (drop 1 values) free else seen.Fifo d values free) ∷ ys) c).free ≡ free
  taken_free true e = rw e refl
  taken_free false e = rw e refl

  put_first : (t : Bool) → (c == d) ≡ true → (fifo_seen ((if t then seen.Fifo d values (free - 1) else seen.Fifo d values free) ∷ ys) c).free ≡ (if t then free - 1 else free)
  put_first true e = rw e refl
  put_first false e = rw e refl

  put_later : (t : Bool) → (c == d) ≡ false → (fifo_seen ((if t then seen.Fifo d values (free - 1) else seen.Fifo d values free) ∷ ys) c) ≡ fifo_seen ys c
  put_later true e = rw e refl
  put_later false e = rw e refl

  put_values : (t : Bool) → (c == d) ≡ true → (fifo_seen ((if t then seen.Fifo d values (free - 1) else seen.Fifo d values free) ∷ ys) c).values ≡ values
  put_values true e = rw e refl
  put_values false e = rw e refl

  found : (c == d) ≡ true → fifo_seen (seen.Fifo d values free ∷ xs) c ≡ record { values = values; free = free }
  found e = rw e refl

  passed : (c == d) ≡ false → fifo_seen (seen.Fifo d values free ∷ xs) c ≡ fifo_seen xs c
  passed e = rw e refl

pub values_after_take : (xs : List Seen) (b c : ℕ) → (fifo_seen (seen_after_take xs b) c).values ≡ left_of b c (fifo_seen xs c).values
values_after_take [] b c = nothing_left (b == c)
values_after_take (seen.Signal d v changed ∷ xs) b c = values_after_take xs b c
values_after_take (seen.Fifo d values free ∷ xs) b c = at (c == d) refl (values_after_take xs b c)
  where
    at : (t : Bool) → (c == d) ≡ t → (fifo_seen (seen_after_take xs b) c).values ≡ left_of b c (fifo_seen xs c).values → (fifo_seen (seen_after_take (seen.Fifo d values free ∷ xs) b) c).values ≡ left_of b c (fifo_seen (seen.Fifo d values free ∷ xs) c).values
    at true e go =
        let same : c ≡ d = (Decides-eqb c d).0 e in
        taken_first d values free c xs (seen_after_take xs b) (b == d) e ∙ ap (λ x. if b == x then drop 1 values else values) (sym same) ∙ sym (ap (λ x. left_of b c x.values) (found d values free c xs xs e))
    at false e go =
        ap (λ x. x.values) (taken_later d values free c xs (seen_after_take xs b) (b == d) e) ∙ go ∙ sym (ap (λ x. left_of b c x.values) (passed d values free c xs xs e))

pub free_after_take : (xs : List Seen) (b c : ℕ) → (fifo_seen (seen_after_take xs b) c).free ≡ (fifo_seen xs c).free
free_after_take [] b c = refl
free_after_take (seen.Signal d v changed ∷ xs) b c = free_after_take xs b c
free_after_take (seen.Fifo d values free ∷ xs) b c = at (c == d) refl (free_after_take xs b c)
  where
    at : (t : Bool) → (c == d) ≡ t → (fifo_seen (seen_after_take xs b) c).free ≡ (fifo_seen xs c).free → (fifo_seen (seen_after_take (seen.Fifo d values free ∷ xs) b) c).free ≡ (fifo_seen (seen.Fifo d values free ∷ xs) c).free
    at true e go =
        let same : c ≡ d = (Decides-eqb c d).0 e in
        taken_free d values free c xs (seen_after_take xs b) (b == d) e ∙ sym (ap (λ x. x.free) (found d values free c xs xs e))
    at false e go =
        ap (λ x. x.free) (taken_later d values free c xs (seen_after_take xs b) (b == d) e) ∙ go ∙ sym (ap (λ x. x.free) (passed d values free c xs xs e))

pub values_after_put : (xs : List Seen) (b c : ℕ) → (fifo_seen (seen_after_put xs b) c).values ≡ (fifo_seen xs c).values
values_after_put [] b c = refl
values_after_put (seen.Signal d v changed ∷ xs) b c = values_after_put xs b c
values_after_put (seen.Fifo d values free ∷ xs) b c = at (c == d) refl (values_after_put xs b c)
  where
    at : (t : Bool) → (c == d) ≡ t → (fifo_seen (seen_after_put xs b) c).values ≡ (fifo_seen xs c).values → (fifo_seen (seen_after_put (seen.Fifo d values free ∷ xs) b) c).values ≡ (fifo_seen (seen.Fifo d values free ∷ xs) c).values
    at true e go =
        let same : c ≡ d = (Decides-eqb c d).0 e in
        put_values d values free c xs (seen_after_put xs b) (b == d) e ∙ sym (ap (λ x. x.values) (found d values free c xs xs e))
    at false e go =
        ap (λ x. x.values) (put_later d values free c xs (seen_after_put xs b) (b == d) e) ∙ go ∙ sym (ap (λ x. x.values) (passed d values free c xs xs e))

pub free_after_put : (xs : List Seen) (b c : ℕ) → (fifo_seen (seen_after_put xs b) c).free ≡ free_of b c (fifo_seen xs c).free
free_after_put [] b c = nothing_free (b == c)
free_after_put (seen.Signal d v changed ∷ xs) b c = free_after_put xs b c
free_after_put (seen.Fifo d values free ∷ xs) b c = at (c == d) refl (free_after_put xs b c)
  where
    at : (t : Bool) → (c == d) ≡ t → (fifo_seen (seen_after_put xs b) c).free ≡ free_of b c (fifo_seen xs c).free → (fifo_seen (seen_after_put (seen.Fifo d values free ∷ xs) b) c).free ≡ free_of b c (fifo_seen (seen.Fifo d values free ∷ xs) c).free
    at true e go =
        let same : c ≡ d = (Decides-eqb c d).0 e in
        put_first d values free c xs (seen_after_put xs b) (b == d) e ∙ ap (λ x. if b == x then free - 1 else free) (sym same) ∙ sym (ap (λ x. free_of b c x.free) (found d values free c xs xs e))
    at false e go =
        ap (λ x. x.free) (put_later d values free c xs (seen_after_put xs b) (b == d) e) ∙ go ∙ sym (ap (λ x. free_of b c x.free) (passed d values free c xs xs e))
