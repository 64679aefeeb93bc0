-- The order of stamps and places.
use Rattle.std.proofs.Common.{◌≡◌, ℕ, ◌<◌, ◌≤◌, ◌⊎◌, inl, inr, ⊎_elim, sym, subst, arith, ◌∙◌}
use Rattle.std.proofs.lemmas.Bool.{cases_order}
use Rattle.ooo_schedules.specs.Model.{Model, Order, Earlier, NotAfter}

pub less_or : (a b : ℕ) → (a < b) ⊎ (b ≤ a)
less_or a b = ⊎_elim (λ e. inr (omega (arith, e))) (λ h. ⊎_elim (λ k. inl k) (λ k. inr (omega (arith, k))) h) (cases_order a b)

module _ (m : Model) (l : Order m) where
  pub not_both : (s t : m.Stamp) → m.before s t → m.before t s → ⊥
  not_both s t a b = l.irreflexive s (l.transitive s t s a b)

  pub not_after_then : (s t u : m.Stamp) → NotAfter m s t → m.before t u → m.before s u
  not_after_then s t u a b = ⊎_elim (λ h. l.transitive s t u h b) (λ e. subst (λ x. m.before x u) (sym e) b) a

  pub then_not_after : (s t u : m.Stamp) → m.before s t → NotAfter m t u → m.before s u
  then_not_after s t u a b = ⊎_elim (λ h. l.transitive s t u a h) (λ e. subst (λ x. m.before s x) e a) b

  pub not_after_joins : (s t u : m.Stamp) → NotAfter m s t → NotAfter m t u → NotAfter m s u
  not_after_joins s t u a b = ⊎_elim (λ h. inl (not_after_then s t u a h)) (λ e. subst (λ x. NotAfter m s x) e a) b

  pub earlier_not_after : (s : m.Stamp) (p : ℕ) (t : m.Stamp) (q : ℕ) → Earlier m s p t q → NotAfter m s t
  earlier_not_after s p t q e = ⊎_elim (λ h. inl h) (λ h. inr h.0) e

  -- an earlier place isn't at a later stamp
  pub earlier_before : (s : m.Stamp) (p : ℕ) (t : m.Stamp) (q : ℕ) → Earlier m s p t q → m.before t s → ⊥
  earlier_before s p t q e b = ⊎_elim (λ h. not_both s t h b) (λ h. l.irreflexive s (subst (λ x. m.before x s) (sym h.0) b)) e

  pub not_earlier : (s : m.Stamp) (p : ℕ) → Earlier m s p s p → ⊥
  not_earlier s p e = ⊎_elim (λ h. l.irreflexive s h) (λ h. let a = h.1 in absurd (omega (arith, a))) e

  pub earlier_joins : (s : m.Stamp) (p : ℕ) (t : m.Stamp) (q : ℕ) (u : m.Stamp) (r : ℕ) → Earlier m s p t q → Earlier m t q u r → Earlier m s p u r
  earlier_joins s p t q u r a b =
      ⊎_elim (λ h. inl (then_not_after s t u h (earlier_not_after t q u r b)))
      (λ h. ⊎_elim (λ k. inl (subst (λ x. m.before x u) (sym h.0) k)) (λ k. inr (h.0 ∙ k.0, (let i = h.1 in let j = k.1 in omega (arith, i, j)))) b) a

  pub not_both_earlier : (s : m.Stamp) (p : ℕ) (t : m.Stamp) (q : ℕ) → Earlier m s p t q → Earlier m t q s p → ⊥
  not_both_earlier s p t q a b = not_earlier s p (earlier_joins s p t q s p a b)

  pub not_after_earlier : (s t : m.Stamp) (p : ℕ) (u : m.Stamp) (r : ℕ) → NotAfter m s t → Earlier m t p u r → Earlier m s p u r
  not_after_earlier s t p u r a b = ⊎_elim (λ h. inl (then_not_after s t u h (earlier_not_after t p u r b))) (λ e. subst (λ x. Earlier m x p u r) (sym e) b) a

  pub order_of : (p q : ℕ) → (p < q) ⊎ ((p ≡ q) ⊎ (q < p))
  order_of p q = ⊎_elim (λ e. inr (inl e)) (λ h. ⊎_elim (λ k. inl k) (λ k. inr (inr k)) h) (cases_order p q)

  pub compare_places : (s : m.Stamp) (p : ℕ) (t : m.Stamp) (q : ℕ) → Earlier m s p t q ⊎ ((s ≡ t) × (p ≡ q) ⊎ Earlier m t q s p)
  compare_places s p t q =
      ⊎_elim (λ h. inl (inl h))
      (λ k. ⊎_elim (λ e. ⊎_elim (λ h. inl (inr (e, h))) (λ h. ⊎_elim (λ i. inr (inl (e, i))) (λ i. inr (inr (inr (sym e, i)))) h) (order_of p q)) (λ h. inr (inr (inl h))) k)
      (l.compare s t)

  pub earlier_then : (s : m.Stamp) (p : ℕ) (t u : m.Stamp) (r : ℕ) → Earlier m s p t r → NotAfter m t u → Earlier m s p u r
  earlier_then s p t u r a b = ⊎_elim (λ h. inl (then_not_after s t u h b)) (λ h. ⊎_elim (λ k. inl (subst (λ x. m.before x u) (sym h.0) k)) (λ k. inr (h.0 ∙ k, h.1)) b) a
