-- Firings that are forgotten.
use Rattle.std.proofs.Common.{◌≡◌, ◌<◌, ℕ, zero, suc, Bool, true, false, arith, List, [], ◌∷◌, Option, Some, None, refl, sym, subst, length, get_or, cond}
use Rattle.std.specs.Prelude.{All, AllPairs, Contains, IsSomeAnd}
use Rattle.std.specs.Option.{ForSome}
use Rattle.ooo_time.specs.declared.stamp.Stamp.{Stamp}
use Rattle.ooo_time.specs.Stamps.{IsBefore, is_before}
use Rattle.ooo_events.specs.declared.call.Call.{Call}
use Rattle.ooo_events.specs.Events.{EventState, IsKept, IsOrderly, IsEventAfter, HasStamp, firings_from, last_before}
use Rattle.ooo_events.proofs.Order.{Earlier, earlier, not_earlier, earlier_or_not, IsBefore-irrefl, IsBefore-trans}
use Rattle.std.specs.Prelude.{◌⊎◌, ◌↔◌}
use Rattle.std.proofs.Common.{inl, inr}

-- the rest of an orderly event whose first firing is forgotten
orderly_rest :
    (forgotten : Option Stamp) (t : Stamp) (ts : List Stamp) (pending last : Option Stamp) → IsOrderly forgotten (t ∷ ts) pending last →
    IsOrderly (Some t) ts pending last
orderly_rest forgotten t ts pending last h = record {
  kept = λ k d lt f e. let same : t ≡ f = cc in subst (λ x. IsBefore x (get_or ts k d)) same (h.ascending 0 (suc k) d (omega arith) (omega arith));
  past = λ f e. let same : t ≡ f = cc in subst (λ x. IsSomeAnd last (λ s. ¬ IsBefore s x)) same (h.reached 0 t (omega arith));
  ascending = λ i j d lt below. h.ascending (suc i) (suc j) d (omega arith) (omega arith);
  reached = λ k d lt. h.reached (suc k) d (omega arith);
  ahead = h.ahead;
}

-- an orderly event stays so
pub orderly_from :
    (below : Stamp) (forgotten : Option Stamp) (firings : List Stamp) (pending last : Option Stamp) → IsOrderly forgotten firings pending last →
    IsOrderly (last_before below forgotten firings) (firings_from below firings) pending last
orderly_from below forgotten [] pending last h = h
orderly_from below forgotten (t ∷ ts) pending last h =
    go (is_before t below) (orderly_from below (Some t) ts pending last (orderly_rest forgotten t ts pending last h))
  where
    go : (b : Bool) → IsOrderly (last_before below (Some t) ts) (firings_from below ts) pending last → IsOrderly (cond b (last_before below (Some t) ts) forgotten) (cond b (firings_from below ts) (t ∷ ts)) pending last
    go true rest = rest
    go false rest = h

-- what is kept is after a firing that was forgotten
after_forgotten :
    (below t u : Stamp) (us : List Stamp) (pending last : Option Stamp) → IsOrderly (Some u) us pending last →
    IsKept (last_before below (Some u) us) t → IsBefore u t
after_forgotten below t u [] pending last h kept = kept u refl
after_forgotten below t u (v ∷ vs) pending last h kept =
    go (is_before v below) (λ k. after_forgotten below t v vs pending last (orderly_rest (Some u) v vs pending last h) k) kept
  where
    go : (b : Bool) → (IsKept (last_before below (Some v) vs) t → IsBefore v t) → IsKept (cond b (last_before below (Some v) vs) (Some u)) t → IsBefore u t
    go true later k = IsBefore-trans u v t (h.kept 0 v (omega arith) u refl) (later k)
    go false later k = k u refl

-- what is kept was kept before
kept_before :
    (below t : Stamp) (forgotten : Option Stamp) (firings : List Stamp) (pending last : Option Stamp) → IsOrderly forgotten firings pending last →
    IsKept (last_before below forgotten firings) t → IsKept forgotten t
kept_before below t forgotten [] pending last h kept = kept
kept_before below t forgotten (u ∷ us) pending last h kept = go (is_before u below) kept where
  go : (b : Bool) → IsKept (cond b (last_before below (Some u) us) forgotten) t → IsKept forgotten t
  go true k = λ f e. IsBefore-trans f u t (h.kept 0 u (omega arith) f e) (after_forgotten below t u us pending last (orderly_rest forgotten u us pending last h) k)
  go false k = k

-- a firing that is kept is among those that are left
has_left :
    (below t : Stamp) (forgotten : Option Stamp) (firings : List Stamp) (pending last : Option Stamp) → IsOrderly forgotten firings pending last →
    IsKept (last_before below forgotten firings) t → Contains firings t → Contains (firings_from below firings) t
has_left below t forgotten [] pending last h kept has = has
has_left below t forgotten (u ∷ us) pending last h kept has =
    go (is_before u below) (λ k later. has_left below t (Some u) us pending last (orderly_rest forgotten u us pending last h) k later) kept
  where
    dropped : (IsKept (last_before below (Some u) us) t → Contains us t → Contains (firings_from below us) t) → IsKept (last_before below (Some u) us) t → Contains (u ∷ us) t → Contains (firings_from below us) t
    dropped later k (zero, lt, e) =
        let late : IsBefore u t = after_forgotten below t u us pending last (orderly_rest forgotten u us pending last h) k in
        absurd (IsBefore-irrefl t (subst (λ x. IsBefore x t) e late))
    dropped later k (suc n, lt, e) = later k (n, omega arith, e)

    go : (b : Bool) → (IsKept (last_before below (Some u) us) t → Contains us t → Contains (firings_from below us) t) → IsKept (cond b (last_before below (Some u) us) forgotten) t → Contains (cond b (firings_from below us) (u ∷ us)) t
    go true later k = dropped later k has
    go false later k = has

-- none is new
had_left : (below t : Stamp) (firings : List Stamp) → Contains (firings_from below firings) t → Contains firings t
had_left below t [] has = has
had_left below t (u ∷ us) has = go (is_before u below) (λ h. had_left below t us h) has where
  later : Contains us t → Contains (u ∷ us) t
  later (k, lt, e) = (suc k, omega arith, e)

  go : (b : Bool) → (Contains (firings_from below us) t → Contains us t) → Contains (cond b (firings_from below us) (u ∷ us)) t → Contains (u ∷ us) t
  go true rest h = later (rest h)
  go false rest h = h

-- it stays the event that the calls on it make
pub event_from :
    (below : Stamp) (old new : EventState) → IsOrderly old.forgotten old.firings old.pending old.last →
    new.forgotten ≡ last_before below old.forgotten old.firings → new.firings ≡ firings_from below old.firings →
    new.pending ≡ old.pending → new.last ≡ old.last → (calls : List Call) → IsEventAfter old calls → IsEventAfter new calls
event_from below old new h forgotten firings pending last calls event = record {
  in_order = event.in_order;
  last = rw last event.last;
  pending = rw pending event.pending;
  fires = λ t kept. (λ has. (event.fires t (was t kept)).0 (back t has), λ f. there t kept ((event.fires t (was t kept)).1 f));
} where
  now : (t : Stamp) → IsKept new.forgotten t → IsKept (last_before below old.forgotten old.firings) t
  now t kept = subst (λ f. IsKept f t) forgotten kept

  was : (t : Stamp) → IsKept new.forgotten t → IsKept old.forgotten t
  was t kept = kept_before below t old.forgotten old.firings old.pending old.last h (now t kept)

  back : (t : Stamp) → HasStamp new t → HasStamp old t
  back t (inl has) = inl (had_left below t old.firings (subst (λ xs. Contains xs t) firings has))
  back t (inr e) = inr (rw (← pending) e)

  there : (t : Stamp) → IsKept new.forgotten t → HasStamp old t → HasStamp new t
  there t kept (inl has) = inl (subst (λ xs. Contains xs t) (sym firings) (has_left below t old.forgotten old.firings old.pending old.last h (now t kept) has))
  there t kept (inr e) = inr (rw pending e)

-- what may be asked afterwards
pub remembers_from :
    (below s : Stamp) (forgotten : Option Stamp) (firings : List Stamp) → ForSome forgotten (λ f. ¬ IsBefore s f) → ¬ IsBefore s below →
    ForSome (last_before below forgotten firings) (λ f. ¬ IsBefore s f)
remembers_from below s forgotten [] h not = h
remembers_from below s forgotten (t ∷ ts) h not = go (earlier_or_not t below) (λ k. remembers_from below s (Some t) ts k not) where
  one : IsBefore t below → ForSome (Some t) (λ f. ¬ IsBefore s f)
  one before = λ f e. let same : t ≡ f = cc in subst (λ x. ¬ IsBefore s x) same (λ k. not (IsBefore-trans s t below k before))

  go : {b : Bool} → Earlier t below b → (ForSome (Some t) (λ f. ¬ IsBefore s f) → ForSome (last_before below (Some t) ts) (λ f. ¬ IsBefore s f)) → ForSome (cond b (last_before below (Some t) ts) forgotten) (λ f. ¬ IsBefore s f)
  go (earlier before) rest = rest (one before)
  go (not_earlier later) rest = h
