-- The order of stamps and places.
use Rattle.std.proofs.Common.{◌≡◌, ◌<◌, ◌≤◌, ◌⊎◌, inl, inr, ⊎_elim, sym, ap, ◌∙◌, subst, arith}
use Rattle.std.proofs.lemmas.Bool.{cases_order}
use Rattle.ooo_time.specs.declared.stamp.Stamp.{Stamp}
use Rattle.ooo_time.specs.declared.stamp.Place.{Place}
use Rattle.ooo_time.specs.Stamps.{IsBefore, ComesBefore}

pub irreflexive : (s : Stamp) → IsBefore s s → ⊥
irreflexive s h = ⊎_elim (λ a. absurd (omega (arith, a))) (λ a. let b = a.1 in absurd (omega (arith, b))) h

pub transitive : (s t u : Stamp) → IsBefore s t → IsBefore t u → IsBefore s u
transitive s t u a b =
    ⊎_elim (λ h. ⊎_elim (λ k. inl (omega (arith, h, k))) (λ k. let e = k.0 in inl (omega (arith, h, e))) b)
    (λ h. let e = h.0 in ⊎_elim (λ k. inl (omega (arith, e, k))) (λ k. let f = k.0 in let x = h.1 in let y = k.1 in inr (omega (arith, e, f), omega (arith, x, y))) b) a

stamp_is : (s t : Stamp) → s.time.0 ≡ t.time.0 → s.delta ≡ t.delta → s ≡ t
stamp_is s t e d = ap (λ x. record { time = record { 0 = x }; delta = s.delta }) e ∙ ap (λ x. record { time = t.time; delta = x }) d

pub compare : (s t : Stamp) → IsBefore s t ⊎ ((s ≡ t) ⊎ IsBefore t s)
compare s t =
    ⊎_elim (λ e. ⊎_elim (λ d. inr (inl (stamp_is s t e d))) (λ d. ⊎_elim (λ x. inl (inr (e, x))) (λ x. inr (inr (inr (sym e, x)))) d) (cases_order s.delta t.delta))
    (λ h. ⊎_elim (λ x. inl (inl x)) (λ x. inr (inr (inl x))) h) (cases_order s.time.0 t.time.0)

-- what isn't after a stamp has no later time
pub no_later_time : (s t : Stamp) → (IsBefore t s → ⊥) → s.time.0 ≤ t.time.0
no_later_time s t n = ⊎_elim (λ e. omega (arith, e)) (λ h. ⊎_elim (λ x. omega (arith, x)) (λ x. absurd (n (inl x))) h) (cases_order s.time.0 t.time.0)

-- ---- places

pub not_itself : (a : Place) → ComesBefore a a → ⊥
not_itself a h = ⊎_elim (λ k. irreflexive a.stamp k) (λ k. let x = k.1 in absurd (omega (arith, x))) h

pub joins : (a b c : Place) → ComesBefore a b → ComesBefore b c → ComesBefore a c
joins a b c h k =
    ⊎_elim (λ x. ⊎_elim (λ y. inl (transitive a.stamp b.stamp c.stamp x y)) (λ y. inl (subst (IsBefore a.stamp) y.0 x)) k)
    (λ x. ⊎_elim (λ y. inl (subst (λ s. IsBefore s c.stamp) (sym x.0) y)) (λ y. let m = x.1 in let n = y.1 in inr (x.0 ∙ y.0, omega (arith, m, n))) k) h

pub not_both : (a b : Place) → ComesBefore a b → ComesBefore b a → ⊥
not_both a b h k = not_itself a (joins a b a h k)

pub compare_places : (a b : Place) → ComesBefore a b ⊎ ((a.stamp ≡ b.stamp) × (a.process ≡ b.process) ⊎ ComesBefore b a)
compare_places a b =
    ⊎_elim (λ h. inl (inl h))
    (λ k. ⊎_elim (λ e. ⊎_elim (λ p. inr (inl (e, p))) (λ h. ⊎_elim (λ p. inl (inr (e, p))) (λ p. inr (inr (inr (sym e, p)))) h) (cases_order a.process b.process)) (λ h. inr (inr (inl h))) k)
    (compare a.stamp b.stamp)

-- the first place cuts the second one off: it is that or before it
abbrev pub CutsOff : Place → Place → Type 0
CutsOff a b = IsBefore a.stamp b.stamp ⊎ (a.stamp ≡ b.stamp) × (a.process ≤ b.process)

pub cuts_off : (a b : Place) → (ComesBefore b a → ⊥) → CutsOff a b
cuts_off a b n =
    ⊎_elim (λ h. ⊎_elim (λ x. inl x) (λ x. let p = x.1 in inr (x.0, omega (arith, p))) h)
    (λ h. ⊎_elim (λ x. let p = x.1 in inr (x.0, omega (arith, p))) (λ x. absurd (n x)) h) (compare_places a b)

pub not_cut_off : (a b : Place) → CutsOff a b → ComesBefore b a → ⊥
not_cut_off a b h k =
    ⊎_elim (λ x. not_both a b (inl x) k)
    (λ x. ⊎_elim (λ y. irreflexive b.stamp (subst (IsBefore b.stamp) x.0 y)) (λ y. let m = x.1 in let n = y.1 in absurd (omega (arith, m, n))) k) h

-- what is cut off by a place that isn't before another one is so by that, too
pub cut_off_by : (a b c : Place) → (ComesBefore b a → ⊥) → CutsOff b c → CutsOff a c
cut_off_by a b c n h = cuts_off a c (λ k. not_cut_off b c h (⊎_elim (λ x. joins c a b k x) (λ x. ⊎_elim (λ y. subst (λ s. IsBefore c.stamp s ⊎ (c.stamp ≡ s) × (c.process < b.process)) y.0 (subst (λ p. IsBefore c.stamp a.stamp ⊎ (c.stamp ≡ a.stamp) × (c.process < p)) y.1 k)) (λ y. absurd (n y)) x) (compare_places a b)))

pub uncut_before : (a b : Place) → (CutsOff a b → ⊥) → ComesBefore b a
uncut_before a b n =
    ⊎_elim (λ h. absurd (n (⊎_elim (λ x. inl x) (λ x. let p = x.1 in inr (x.0, omega (arith, p))) h)))
    (λ h. ⊎_elim (λ x. let p = x.1 in absurd (n (inr (x.0, omega (arith, p))))) (λ x. x) h) (compare_places a b)

-- what is cut off stays so at a place that isn't before it
pub cut_off_on : (a b c : Place) → CutsOff a b → (ComesBefore c b → ⊥) → CutsOff a c
cut_off_on a b c h n = cuts_off a c (λ k. not_cut_off a b h (⊎_elim (λ x. joins b c a x k) (λ x. ⊎_elim (λ y. subst (λ s. IsBefore s a.stamp ⊎ (s ≡ a.stamp) × (b.process < a.process)) (sym y.0) (subst (λ p. IsBefore c.stamp a.stamp ⊎ (c.stamp ≡ a.stamp) × (p < a.process)) (sym y.1) k)) (λ y. absurd (n y)) x) (compare_places b c)))

-- a stamp comes before one that isn't before another that it comes before
pub before_on : (s t u : Stamp) → IsBefore s t → (IsBefore u t → ⊥) → IsBefore s u
before_on s t u h n = ⊎_elim (λ x. transitive s t u h x) (λ x. ⊎_elim (λ e. subst (IsBefore s) e h) (λ y. absurd (n y)) x) (compare t u)

pub before_by : (s t u : Stamp) → (IsBefore t s → ⊥) → IsBefore t u → IsBefore s u
before_by s t u n h = ⊎_elim (λ x. absurd (n x)) (λ x. ⊎_elim (λ e. subst (λ y. IsBefore y u) e h) (λ y. transitive s t u y h) x) (compare t s)
