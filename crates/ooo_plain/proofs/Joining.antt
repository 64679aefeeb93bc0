-- Lists of those that may wait on an event.
use Rattle.std.proofs.Common.{◌≡◌, ◌≢◌, ℕ, ◌<◌, ◌≤◌, ◌+◌, ◌==◌, inl, inr, arith, List, [], ◌∷◌, ◌++◌, refl, sym, subst, ap, ◌∙◌, get_or, map, set, length, take, ⊎_elim, eq-eqb}
use Rattle.std.proofs.lemmas.List.{length-set, length-map, take_more, take_all, get_or-set_same, get_or-set_other}
use Rattle.std.proofs.lemmas.List.Elements.{All-append, All-cons, All-nil, Contains-append_left, Contains-append_right, Contains-append_cases}
use Rattle.std.proofs.lemmas.Bool.{cases_eq}
use Rattle.std.proofs.lemmas.List.Folds.{list_any_at}
use Rattle.std.specs.Prelude.{All, Contains}
use Rattle.std.specs.List.{list_any}
use Rattle.ooo_plain.specs.declared.schedule.Awaited.{Awaited}
use Rattle.ooo_plain.specs.declared.schedule.Schedule.{Schedule}
use Rattle.ooo_plain.specs.Schedule.{Joined, waiting_on, KnowsWaiters, awaited_at, waits_on}
use Rattle.ooo_plain.proofs.Asking.{only}

here : (y : ℕ) → Contains (y ∷ []) y
here y = (0, omega arith, refl)

module _ (old new : Schedule) (e p : ℕ) (lt : e < length old.waiters.items) (rest : new ≡ record old { waiters = new.waiters })
    (lists : map (λ v. v.items) new.waiters.items ≡ set (map (λ v. v.items) old.waiters.items) e (waiting_on old e ++ p ∷ [])) where
  at_e : waiting_on new e ≡ waiting_on old e ++ p ∷ []
  at_e = ap (λ xs. get_or xs e []) lists ∙ get_or-set_same (map (λ v. v.items) old.waiters.items) e (waiting_on old e ++ p ∷ []) [] (let l = length-map old.waiters.items (λ v. v.items) in omega (arith, lt, l))

  at_other : (i : ℕ) → i ≢ e → waiting_on new i ≡ waiting_on old i
  at_other i ne = ap (λ xs. get_or xs i []) lists ∙ get_or-set_other (map (λ v. v.items) old.waiters.items) e i (waiting_on old e ++ p ∷ []) [] ne

  pub joined_push : Joined p (e ∷ []) old new
  joined_push = record {
    rest = rest;
    count = sym (length-map new.waiters.items (λ v. v.items)) ∙ ap length lists ∙ length-set (map (λ v. v.items) old.waiters.items) e _ ∙ length-map old.waiters.items (λ v. v.items);
    kept = λ i q h. ⊎_elim
        (λ f. subst (λ x. Contains (waiting_on new x) q) (sym f) (subst (λ xs. Contains xs q) (sym at_e) (Contains-append_left (waiting_on old e) (p ∷ []) q (subst (λ x. Contains (waiting_on old x) q) f h))))
        (λ ne. subst (λ xs. Contains xs q) (sym (at_other i ne)) h) (cases_eq i e);
    added = λ i h. subst (λ x. Contains (waiting_on new x) p) (sym (only e i h)) (subst (λ xs. Contains xs p) (sym at_e) (Contains-append_right (waiting_on old e) (p ∷ []) p (here p)));
    within = λ n below h i. ⊎_elim
        (λ f. subst (λ x. All (λ q. q < n) (waiting_on new x)) (sym f) (subst (All (λ q. q < n)) (sym at_e) (All-append (λ q. q < n) (waiting_on old e) (p ∷ []) (h e) (All-cons (λ q. q < n) p [] below (All-nil (λ q. q < n))))))
        (λ ne. subst (All (λ q. q < n)) (sym (at_other i ne)) (h i)) (cases_eq i e);
  }

pub joined_none : (old : Schedule) (e p : ℕ) → Contains (waiting_on old e) p → Joined p (e ∷ []) old old
joined_none old e p h = record {
  rest = refl;
  count = refl;
  kept = λ i q k. k;
  added = λ i k. subst (λ x. Contains (waiting_on old x) p) (sym (only e i k)) h;
  within = λ n below k. k;
}

pub joined_same : (old : Schedule) (p : ℕ) (h : Awaited) (es : List ℕ) → KnowsWaiters old → awaited_at old.awaited.items p ≡ h → h.events ≡ es → Joined p es old old
joined_same old p h es knows is same = record {
  rest = refl;
  count = refl;
  kept = λ i q k. k;
  added = λ i k. knows.all p i (ap (waits_on i) is ∙ ap (list_any (λ x. x == i)) same ∙ list_any_at (λ x. x == i) es k.0 i k.1 (eq-eqb _ i k.2));
  within = λ n below k. k;
}

pub joined_more : (p i : ℕ) (es : List ℕ) (a b c : Schedule) → i < length es → Joined p (take i es) a b → Joined p (get_or es i 0 ∷ []) b c → Joined p (take (i + 1) es) a c
joined_more p i es a b c lt h k = record {
  rest = k.rest ∙ ap {A = Schedule} (λ x. record x { waiters = c.waiters }) h.rest;
  count = k.count ∙ h.count;
  kept = λ j q x. k.kept j q (h.kept j q x);
  added = λ j x. elim (Contains-append_cases (take i es) (get_or es i 0 ∷ []) j (subst (λ ys. Contains ys j) (take_more es i 0 lt) x)) [
    | inl y ↦ k.kept j p (h.added j y)
    | inr y ↦ k.added j y
  ];
  within = λ n below x. k.within n below (h.within n below x);
}

pub joined_all : (p i : ℕ) (es : List ℕ) (a b : Schedule) → length es ≤ i → Joined p (take i es) a b → Joined p es a b
joined_all p i es a b le h = subst (λ xs. Joined p xs a b) (take_all i es le) h
