-- Two activations that are alike where they wait give the same runs: a process that doesn't wait never runs again.
use Rattle.std.proofs.Common.{◌≡◌, ◌≢◌, ℕ, zero, suc, ◌⊎◌, inl, inr, ⊎_elim, List, [], ◌∷◌, map, Option, Some, None, Bool, true, false, ◌&&◌, if◌then◌else◌, refl, sym, ap, ◌∙◌, subst}
use Rattle.std.specs.Prelude.{slice_get, slice_set, is_none, nat_lt, ◌==◌}
use Rattle.std.proofs.lemmas.Bool.{cases_eq}
use Rattle.ooo_lemmas.proofs.Placed.{get_other}
use Rattle.ooo_time.specs.declared.stamp.Stamp.{Stamp}
use Rattle.ooo_events.specs.Slots.{Slot}
use Rattle.ooo_code.specs.declared.activation.JobEnd.{JobEnd}
use Rattle.ooo_code.specs.declared.activation.JobEnd.TheVariants as job
use Rattle.ooo_code.specs.declared.limits.Limits.{Limits}
use Rattle.ooo_code.specs.Outcomes.{View, Activate}
use Rattle.ooo_history.specs.declared.run.End.{End}
use Rattle.ooo_meaning.specs.World.{World, Wait, Progress, Over, Goes, never, wait_at, wait_after, view_of, after_deed, runs_now, woken, update, reach, next_delta, in_delta, advance, later, notified, settle_at, settle, some_runnable, least_activity, least_pending}
use Rattle.ooo_meaning.specs.Sequence.{State, Result, state_of, turn_at, turn, evaluate, finish, run, run_whole}

-- ---- lists

get_set : {A : Type 0} (xs : List A) (p : ℕ) (x y : A) → slice_get xs p ≡ Some y → slice_get (slice_set xs p x) p ≡ Some x
get_set [] p x y e = absurd cc
get_set (z ∷ xs) zero x y e = refl
get_set (z ∷ xs) (suc p) x y e = get_set xs p x y e

wait_other : (xs : List Wait) (p q : ℕ) (x : Wait) → p ≢ q → wait_at (slice_set xs q x) p ≡ wait_at xs p
wait_other [] p q x ne = refl
wait_other (y ∷ ys) zero zero x ne = absurd (ne refl)
wait_other (y ∷ ys) zero (suc q) x ne = refl
wait_other (y ∷ ys) (suc p) zero x ne = refl
wait_other (y ∷ ys) (suc p) (suc q) x ne = wait_other ys p q x (λ e. ne (ap suc e))

never_set : (xs : List Wait) (p : ℕ) → wait_at (slice_set xs p never) p ≡ never
never_set [] p = refl
never_set (y ∷ ys) zero = refl
never_set (y ∷ ys) (suc p) = never_set ys p

-- ---- who waits for nothing is never woken

wait_woken : (s : Stamp) (slots : List Slot) (xs : List Wait) (p : ℕ) → wait_at (map (woken s slots) xs) p ≡ woken s slots (wait_at xs p)
wait_woken s slots [] p = refl
wait_woken s slots (x ∷ xs) zero = refl
wait_woken s slots (x ∷ xs) (suc p) = wait_woken s slots xs p

-- who waits for nothing in the one world waits for nothing in the other
abbrev pub StillNever : World → World → Type 0
StillNever w w' = (p : ℕ) → wait_at w.waits p ≡ never → wait_at w'.waits p ≡ never

abbrev StillIn : World → Progress → Type 0
StillIn w (Over w' e) = Unit {0}
StillIn w (Goes w') = StillNever w w'

reach_never : (s : Stamp) (w : World) → StillNever w (reach s w)
unfolding reach
reach_never s w p e = wait_woken s w.slots w.waits p ∙ ap (woken s w.slots) e

if_still : (b : Bool) (w : World) (x y : Progress) → StillIn w x → StillIn w y → StillIn w (if b then x else y)
if_still true w x y h k = h
if_still false w x y h k = k

advance_still : (w : World) (o : Option Stamp) → StillIn w (advance w o)
advance_still w None = tt
advance_still w (Some t) = reach_never t w

later_still : (limits : Limits) (w : World) (o : Option Stamp) → StillIn w (later limits w o)
later_still limits w None = tt
later_still limits w (Some t) = if_still (nat_lt limits.stop.0 t.time.0) w _ (advance w (least_pending w)) tt (advance_still w (least_pending w))

notified_still : (limits : Limits) (w : World) → StillIn w (notified limits w)
unfolding notified
notified_still limits w =
    if_still (some_runnable w) w (in_delta limits w) (later limits w (least_activity w))
    (if_still (w.stamp.delta == limits.deltas) w _ (Goes w) tt (λ p e. e))
    (later_still limits w (least_activity w))

still_after : (w w' : World) (x : Progress) → StillNever w w' → StillIn w' x → StillIn w x
still_after w w' (Over v e) h k = tt
still_after w w' (Goes v) h k = λ p e. k p (h p e)

update_never : (w : World) → StillNever w (update w)
unfolding update
update_never w p e = e

settle_at_still : (limits : Limits) (w : World) (o : Option End) → StillIn w (settle_at limits w o)
settle_at_still limits w (Some e) = tt
settle_at_still limits w None =
    let v = reach (next_delta w.stamp) (update w) in
    if_still w.stopped w _ (notified limits v) tt
    (still_after w v (notified limits v) (λ p e. reach_never (next_delta w.stamp) (update w) p (update_never w p e)) (notified_still limits v))

settle_still : (limits : Limits) (w : World) → StillIn w (settle limits w)
unfolding settle
settle_still limits w = settle_at_still limits w w.broken

-- ---- two activations

-- what holds where an activation ends so that the process waits
abbrev pub WhereWaits : JobEnd → Type 0 → Type 0
WhereWaits (job.Waits on) A = A
WhereWaits _ A = Unit {0}

-- from related places they do the same, and where they wait they leave the process at related places
pub record DoAlike {K L : Type 0} (R : ℕ → K → L → Type 0) (f : Activate K) (g : Activate L) : Type 0 where
  pub deed : (p : ℕ) (k : K) (l : L) (v : View) → R p k l → (f p k v).deed ≡ (g p l v).deed
  pub next : (p : ℕ) (k : K) (l : L) (v : View) → R p k l → WhereWaits (f p k v).deed.end (R p (f p k v).next (g p l v).next)

-- both places are there and related, or the process waits for nothing; or neither is there
abbrev pub RelatedOrNever : {K L : Type 0} → (K → L → Type 0) → Wait → Option K → Option L → Type 0
RelatedOrNever R x None None = Unit {0}
RelatedOrNever R x (Some k) (Some l) = R k l ⊎ (x ≡ never)
RelatedOrNever R x _ _ = ⊥

abbrev pub AllRelated : {K L : Type 0} → (R : ℕ → K → L → Type 0) → List Wait → List K → List L → Type 0
AllRelated R waits ks ls = (p : ℕ) → RelatedOrNever (R p) (wait_at waits p) (slice_get ks p) (slice_get ls p)

pub record SameSoFar {K L : Type 0} (R : ℕ → K → L → Type 0) (s : State K) (t : State L) : Type 0 where
  pub world : s.world ≡ t.world
  pub places : AllRelated R s.world.waits s.places t.places

module _ (K L : Type 0) (R : ℕ → K → L → Type 0) where
  still_related : (Rp : K → L → Type 0) (x y : Wait) (k : Option K) (l : Option L) → (x ≡ never → y ≡ never) → RelatedOrNever Rp x k l → RelatedOrNever Rp y k l
  still_related Rp x y None None h r = tt
  still_related Rp x y None (Some l) h r = absurd r
  still_related Rp x y (Some k) None h r = absurd r
  still_related Rp x y (Some k) (Some l) h r = ⊎_elim (λ a. inl a) (λ e. inr (h e)) r

  -- a process that was activated waits and stands at related places, or waits for nothing
  after_end : (p : ℕ) (now : Stamp) (waits : List Wait) (end : JobEnd) (k : K) (l : L) → WhereWaits end (R p k l) → R p k l ⊎ (wait_at (slice_set waits p (wait_after now end)) p ≡ never)
  after_end p now waits (job.Waits on) k l h = inl h
  after_end p now waits job.Ended k l h = inr (never_set waits p)
  after_end p now waits (job.Faulted f line) k l h = inr (never_set waits p)
  after_end p now waits (job.Limit line) k l h = inr (never_set waits p)

  -- process p is left at new places
  related_set : (p : ℕ) (waits : List Wait) (x : Wait) (ks : List K) (ls : List L) (k k' : K) (l l' : L) → slice_get ks p ≡ Some k → slice_get ls p ≡ Some l → R p k' l' ⊎ (wait_at (slice_set waits p x) p ≡ never) → AllRelated R waits ks ls → AllRelated R (slice_set waits p x) (slice_set ks p k') (slice_set ls p l')
  related_set p waits x ks ls k k' l l' ek el new all q = ⊎_elim (λ e. here e) (λ ne. there ne) (cases_eq q p)
    where
      here : q ≡ p → RelatedOrNever (R q) (wait_at (slice_set waits p x) q) (slice_get (slice_set ks p k') q) (slice_get (slice_set ls p l') q)
      here e =
          subst (λ q. RelatedOrNever (R q) (wait_at (slice_set waits p x) q) (slice_get (slice_set ks p k') q) (slice_get (slice_set ls p l') q)) (sym e)
          (subst (λ o. RelatedOrNever (R p) (wait_at (slice_set waits p x) p) o (slice_get (slice_set ls p l') p)) (sym (get_set ks p k' k ek))
          (subst (λ o. RelatedOrNever (R p) (wait_at (slice_set waits p x) p) (Some k') o) (sym (get_set ls p l' l el)) new))

      there : q ≢ p → RelatedOrNever (R q) (wait_at (slice_set waits p x) q) (slice_get (slice_set ks p k') q) (slice_get (slice_set ls p l') q)
      there ne =
          subst (λ w. RelatedOrNever (R q) w (slice_get (slice_set ks p k') q) (slice_get (slice_set ls p l') q)) (sym (wait_other waits q p x ne))
          (subst (λ o. RelatedOrNever (R q) (wait_at waits q) o (slice_get (slice_set ls p l') q)) (sym (get_other ks q p k' ne))
          (subst (λ o. RelatedOrNever (R q) (wait_at waits q) (slice_get ks q) o) (sym (get_other ls q p l' ne)) (all q)))

  module _ (f : Activate K) (g : Activate L) (h : DoAlike R f g) where
    turned : (p : ℕ) (w : World) (ks : List K) (ls : List L) (k : K) (l : L) → slice_get ks p ≡ Some k → slice_get ls p ≡ Some l → R p k l → AllRelated R w.waits ks ls → SameSoFar R (turn_at f (state_of w ks) p (Some k)) (turn_at g (state_of w ls) p (Some l))
    unfolding after_deed
    turned p w ks ls k l ek el r all = record {
      world = ap (λ d. after_deed p w d) (h.deed p k l (view_of p w) r);
      places = related_set p w.waits _ ks ls k _ l _ ek el (after_end p w.stamp w.waits (f p k (view_of p w)).deed.end _ _ (h.next p k l (view_of p w) r)) all;
    }

    is_runnable : (p : ℕ) (w : World) → runs_now p w ≡ true → (wait_at w.waits p).runnable ≡ true
    unfolding runs_now
    is_runnable p w e = second (is_none w.broken) (wait_at w.waits p).runnable e
      where
        second : (a b : Bool) → (a && b) ≡ true → b ≡ true
        second true b e = e
        second false b e = absurd cc

    not_never : (p : ℕ) (w : World) → runs_now p w ≡ true → wait_at w.waits p ≡ never → ⊥
    not_never p w e n = let x : true ≡ false = sym (is_runnable p w e) ∙ ap (λ (x : Wait). x.runnable) n in absurd cc

    -- process p has its turn from its place, if it has one
    turned_at : (p : ℕ) (w : World) (ks : List K) (ls : List L) (x : Option K) (y : Option L) → slice_get ks p ≡ x → slice_get ls p ≡ y → runs_now p w ≡ true → AllRelated R w.waits ks ls → RelatedOrNever (R p) (wait_at w.waits p) x y → SameSoFar R (turn_at f (state_of w ks) p x) (turn_at g (state_of w ls) p y)
    turned_at p w ks ls None None ek el e all r = record { world = refl; places = all }
    turned_at p w ks ls None (Some l) ek el e all r = absurd r
    turned_at p w ks ls (Some k) None ek el e all r = absurd r
    turned_at p w ks ls (Some k) (Some l) ek el e all r =
        ⊎_elim (λ a. turned p w ks ls k l ek el a all) (λ n. absurd (not_never p w e n)) r

    -- process p has its turn if it is runnable
    turn_if : (b : Bool) (p : ℕ) (w : World) (ks : List K) (ls : List L) → runs_now p w ≡ b → AllRelated R w.waits ks ls → SameSoFar R (if b then turn_at f (state_of w ks) p (slice_get ks p) else state_of w ks) (if b then turn_at g (state_of w ls) p (slice_get ls p) else state_of w ls)
    turn_if true p w ks ls e all = turned_at p w ks ls (slice_get ks p) (slice_get ls p) refl refl e all (all p)
    turn_if false p w ks ls e all = record { world = refl; places = all }

    turn_same : (p : ℕ) (s : State K) (t : State L) → SameSoFar R s t → SameSoFar R (turn f s p) (turn g t p)
    unfolding turn
    turn_same p s t q =
        subst (λ w. SameSoFar R (turn f s p) (turn g (state_of w t.places) p)) q.world
        (turn_if (runs_now p s.world) p s.world s.places t.places refl q.places)

    evaluate_same : (order : List ℕ) (s : State K) (t : State L) → SameSoFar R s t → SameSoFar R (evaluate f order s) (evaluate g order t)
    unfolding evaluate
    evaluate_same [] s t q = q
    evaluate_same (p ∷ ps) s t q = evaluate_same ps (turn f s p) (turn g t p) (turn_same p s t q)

    -- what follows the end of a cycle
    finish_same : (w : World) (ks : List K) (ls : List L) (x : Progress) (a : State K → Option Result) (b : State L → Option Result) → StillIn w x → AllRelated R w.waits ks ls → ((s : State K) (t : State L) → SameSoFar R s t → a s ≡ b t) → finish ks x a ≡ finish ls x b
    finish_same w ks ls (Over w' e) a b still q go = refl
    finish_same w ks ls (Goes w') a b still q go =
        go _ _ (record { world = refl; places = λ p. still_related (R p) (wait_at w.waits p) (wait_at w'.waits p) (slice_get ks p) (slice_get ls p) (still p) (q p) })

    run_same : (order : List ℕ) (limits : Limits) (n : ℕ) (s : State K) (t : State L) → SameSoFar R s t → run f order limits n s ≡ run g order limits n t
    unfolding run
    run_same order limits zero s t q = refl
    run_same order limits (suc n) s t q =
        let e = evaluate_same order s t q in
        finish_same (evaluate f order s).world _ _ (settle limits (evaluate f order s).world) _ _ (settle_still limits (evaluate f order s).world) e.places (λ a b r. run_same order limits n a b r)
        ∙ ap (λ w. finish (evaluate g order t).places (settle limits w) (run g order limits n)) e.world

    -- two activations that are alike where they wait give the same runs
    pub whole_same : (order : List ℕ) (limits : Limits) (n : ℕ) (s : State K) (t : State L) → SameSoFar R s t → run_whole f order limits n s ≡ run_whole g order limits n t
    unfolding run_whole
    whole_same order limits n s t q =
        finish_same s.world _ _ (notified limits s.world) _ _ (notified_still limits s.world) q.places (λ a b r. run_same order limits n a b r)
        ∙ ap (λ w. finish t.places (notified limits w) (run g order limits n)) q.world
