-- A process that isn't runnable keeps its place.
use Rattle.std.proofs.Common.{◌≡◌, ◌≢◌, ℕ, zero, suc, List, [], ◌∷◌, Option, Some, None, Bool, true, false, ◌&&◌, if◌then◌else◌, refl, sym, ap, ◌∙◌, subst, ⊎_elim}
use Rattle.std.specs.Prelude.{slice_get, slice_set, is_none}
use Rattle.std.proofs.lemmas.Bool.{cases_eq}
use Rattle.ooo_lemmas.proofs.Placed.{get_other}
use Rattle.ooo_code.specs.declared.activation.Effect.{Effect}
use Rattle.ooo_code.specs.declared.activation.Effect.TheVariants as effect
use Rattle.ooo_code.specs.Outcomes.{Deed, Activate}
use Rattle.ooo_meaning.specs.World.{World, Wait, wait_at, apply, apply_all, after_deed, runs_now}
use Rattle.ooo_meaning.specs.Sequence.{State, turn_at, turn, evaluate}

wait_other : (xs : List Wait) (p q : ℕ) (x : Wait) → p ≢ q → wait_at (slice_set xs q x) p ≡ wait_at xs p
wait_other [] p q x ne = refl
wait_other (y ∷ ys) zero zero x ne = absurd (ne refl)
wait_other (y ∷ ys) zero (suc q) x ne = refl
wait_other (y ∷ ys) (suc p) zero x ne = refl
wait_other (y ∷ ys) (suc p) (suc q) x ne = wait_other ys p q x (λ e. ne (ap suc e))

-- effects change no wait
apply_waits : (w : World) (f : Effect) → (apply w f).waits ≡ w.waits
apply_waits w (effect.Request c v) = refl
apply_waits w (effect.Put c v) = refl
apply_waits w (effect.Take c) = refl
apply_waits w (effect.Notify e k) = refl
apply_waits w (effect.Cancel e) = refl
apply_waits w effect.Stop = refl

pub apply_all_waits : (w : World) (fs : List Effect) → (apply_all w fs).waits ≡ w.waits
apply_all_waits w [] = refl
apply_all_waits w (f ∷ fs) = apply_all_waits (apply w f) fs ∙ apply_waits w f

-- process p isn't runnable
abbrev IsIdle : ℕ → World → Type 0
IsIdle p w = (wait_at w.waits p).runnable ≡ false

-- process p's place and that it isn't runnable are kept
record Keeps {K : Type 0} (p : ℕ) (s t : State K) : Type 0 where
  place : slice_get t.places p ≡ slice_get s.places p
  idle : IsIdle p t.world

after_idle : (p q : ℕ) (w : World) (d : Deed) → p ≢ q → IsIdle p w → IsIdle p (after_deed q w d)
unfolding after_deed
after_idle p q w d ne i = ap (λ x. x.runnable) (wait_other w.waits p q _ ne) ∙ i

module _ (K : Type 0) (activate : Activate K) (p : ℕ) where
  turned_at : (q : ℕ) (s : State K) (x : Option K) → p ≢ q → IsIdle p s.world → Keeps p s (turn_at activate s q x)
  turned_at q s None ne i = record { place = refl; idle = i }
  turned_at q s (Some k) ne i = record { place = get_other s.places p q _ ne; idle = after_idle p q s.world _ ne i }

  if_keeps : (b : Bool) (s a c : State K) → Keeps p s a → Keeps p s c → Keeps p s (if b then a else c)
  if_keeps true s a c h k = h
  if_keeps false s a c h k = k

  -- who isn't runnable has no turn
  not_now : (w : World) → IsIdle p w → runs_now p w ≡ false
  unfolding runs_now
  not_now w i = at (is_none w.broken) _ i
    where
      at : (a b : Bool) → b ≡ false → (a && b) ≡ false
      at true b e = e
      at false b e = refl

  own_turn : (s : State K) → IsIdle p s.world → turn activate s p ≡ s
  unfolding turn
  own_turn s i = rw (not_now s.world i) refl

  turn_keeps : (q : ℕ) (s : State K) → IsIdle p s.world → Keeps p s (turn activate s q)
  unfolding turn
  turn_keeps q s i =
      ⊎_elim
      (λ e. subst (λ q. Keeps p s (turn activate s q)) e (subst (λ t. Keeps p s t) (sym (own_turn s i)) (record { place = refl; idle = i })))
      (λ ne. if_keeps (runs_now q s.world) s _ _ (turned_at q s (slice_get s.places q) ne i) (record { place = refl; idle = i }))
      (cases_eq p q)

  pub keeps_place : (order : List ℕ) (s : State K) → (wait_at s.world.waits p).runnable ≡ false → slice_get (evaluate activate order s).places p ≡ slice_get s.places p
  unfolding evaluate
  keeps_place [] s i = refl
  keeps_place (q ∷ qs) s i = let t = turn_keeps q s i in keeps_place qs (turn activate s q) t.idle ∙ t.place
