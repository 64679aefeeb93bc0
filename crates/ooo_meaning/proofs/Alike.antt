-- Two activations that are alike give the same runs.
use Rattle.std.proofs.Common.{◌≡◌, ℕ, zero, suc, List, [], ◌∷◌, Option, Some, None, Bool, true, false, if◌then◌else◌, refl, ap, ◌∙◌, subst}
use Rattle.std.specs.Prelude.{slice_get, slice_set}
use Rattle.ooo_code.specs.declared.limits.Limits.{Limits}
use Rattle.ooo_code.specs.Outcomes.{Outcome, Activate}
use Rattle.ooo_meaning.specs.World.{World, Progress, Over, Goes, view_of, after_deed, runs_now, settle, notified}
use Rattle.ooo_meaning.specs.Sequence.{State, Result, state_of, after_turn, turn_at, turn, evaluate, finish, run, run_whole}
use Rattle.ooo_meaning.specs.Laws.{SameOutcome, AreAlike, SamePlaces, SameState}

-- both places, if there are any, are related
abbrev pub BothRelated : {K L : Type 0} → (K → L → Type 0) → Option K → Option L → Type 0
BothRelated R None None = Unit {0}
BothRelated R (Some k) (Some l) = R k l
BothRelated R _ _ = ⊥

get_same : {K L : Type 0} (R : ℕ → K → L → Type 0) (ks : List K) (ls : List L) (p : ℕ) → SamePlaces R ks ls → BothRelated (R p) (slice_get ks p) (slice_get ls p)
get_same R [] [] p h = tt
get_same R [] (l ∷ ls) p h = absurd h
get_same R (k ∷ ks) [] p h = absurd h
get_same R (k ∷ ks) (l ∷ ls) zero h = h.0
get_same R (k ∷ ks) (l ∷ ls) (suc p) h = get_same (λ p. R (suc p)) ks ls p h.1

set_same : {K L : Type 0} (R : ℕ → K → L → Type 0) (ks : List K) (ls : List L) (p : ℕ) (k : K) (l : L) → R p k l → SamePlaces R ks ls → SamePlaces R (slice_set ks p k) (slice_set ls p l)
set_same R [] [] p x y r h = tt
set_same R [] (l ∷ ls) p x y r h = absurd h
set_same R (k ∷ ks) [] p x y r h = absurd h
set_same R (k ∷ ks) (l ∷ ls) zero x y r h = (r, h.1)
set_same R (k ∷ ks) (l ∷ ls) (suc p) x y r h = (h.0, set_same (λ p. R (suc p)) ks ls p x y r h.1)

module _ (K L : Type 0) (R : ℕ → K → L → Type 0) (f : Activate K) (g : Activate L) (h : AreAlike R f g) where
  turned : (p : ℕ) (w : World) (ks : List K) (ls : List L) (a : Outcome K) (b : Outcome L) → SamePlaces R ks ls → SameOutcome R p a b → SameState R (after_turn p (state_of w ks) a) (after_turn p (state_of w ls) b)
  turned p w ks ls a b q o = record { world = ap (λ d. after_deed p w d) o.deed; places = set_same R ks ls p _ _ o.next q }

  turned_at : (p : ℕ) (w : World) (ks : List K) (ls : List L) (x : Option K) (y : Option L) → SamePlaces R ks ls → BothRelated (R p) x y → SameState R (turn_at f (state_of w ks) p x) (turn_at g (state_of w ls) p y)
  turned_at p w ks ls None None q r = record { world = refl; places = q }
  turned_at p w ks ls None (Some l) q r = absurd r
  turned_at p w ks ls (Some k) None q r = absurd r
  turned_at p w ks ls (Some k) (Some l) q r = turned p w ks ls _ _ q (h.at p k l (view_of p w) r)

  if_same : (x : Bool) {a c : State K} {b d : State L} → SameState R a b → SameState R c d → SameState R (if x then a else c) (if x then b else d)
  if_same true i j = i
  if_same false i j = j

  turn_same : (p : ℕ) (s : State K) (t : State L) → SameState R s t → SameState R (turn f s p) (turn g t p)
  unfolding turn
  turn_same p s t q =
      let at = if_same (runs_now p s.world) (turned_at p s.world s.places t.places (slice_get s.places p) (slice_get t.places p) q.places (get_same R s.places t.places p q.places)) (record { world = refl; places = q.places }) in
      subst (λ w. SameState R (turn f s p) (turn g (state_of w t.places) p)) q.world at

  evaluate_same : (order : List ℕ) (s : State K) (t : State L) → SameState R s t → SameState R (evaluate f order s) (evaluate g order t)
  unfolding evaluate
  evaluate_same [] s t q = q
  evaluate_same (p ∷ ps) s t q = evaluate_same ps (turn f s p) (turn g t p) (turn_same p s t q)

  finish_same : (ks : List K) (ls : List L) (x : Progress) (a : State K → Option Result) (b : State L → Option Result) → SamePlaces R ks ls → ((s : State K) (t : State L) → SameState R s t → a s ≡ b t) → finish ks x a ≡ finish ls x b
  finish_same ks ls (Over w e) a b q go = refl
  finish_same ks ls (Goes w) a b q go = go _ _ (record { world = refl; places = q })

  run_same : (order : List ℕ) (limits : Limits) (n : ℕ) (s : State K) (t : State L) → SameState R s t → run f order limits n s ≡ run g order limits n t
  unfolding run
  run_same order limits zero s t q = refl
  run_same order limits (suc n) s t q =
      let e = evaluate_same order s t q in
      finish_same _ _ (settle limits (evaluate f order s).world) _ _ e.places (λ a b r. run_same order limits n a b r)
      ∙ ap (λ w. finish (evaluate g order t).places (settle limits w) (run g order limits n)) e.world

  pub whole_same : (order : List ℕ) (limits : Limits) (n : ℕ) (s : State K) (t : State L) → SameState R s t → run_whole f order limits n s ≡ run_whole g order limits n t
  unfolding run_whole
  whole_same order limits n s t q =
      finish_same _ _ (notified limits s.world) _ _ q.places (λ a b r. run_same order limits n a b r)
      ∙ ap (λ w. finish t.places (notified limits w) (run g order limits n)) q.world
