-- Walks between stamps, and the rule with `least`.
use Rattle.std.proofs.Common.{◌≡◌, ℕ, zero, suc, ◌+◌, ◌<◌, ◌⊎◌, inl, inr, ⊎_elim, Bool, true, false, refl, sym, ap, ◌∙◌, subst, arith}
use Rattle.std.proofs.lemmas.Bool.{cases_order, ne_eqb}
use Rattle.ooo_time.specs.declared.stamp.Stamp.{Stamp}
use Rattle.ooo_time.specs.declared.delay.Delay.{Delay}
use Rattle.ooo_time.specs.Stamps.{IsBefore}
use Rattle.ooo_time.specs.Delays.{IsLess, advanced, joined}
use Rattle.ooo_schedules.specs.Delays.{TakesTime, no_delay, Edges, Walk, stay, go, IsLeastWalk, NotAfter, Reach}

pub irreflexive : (s : Stamp) → IsBefore s s → ⊥
irreflexive s h = ⊎_elim (λ a. absurd (omega (arith, a))) (λ a. let b = a.1 in absurd (omega (arith, b))) h

pub transitive : (s t u : Stamp) → IsBefore s t → IsBefore t u → IsBefore s u
transitive s t u a b =
    ⊎_elim (λ h. ⊎_elim (λ k. inl (omega (arith, h, k))) (λ k. let e = k.0 in inl (omega (arith, h, e))) b)
    (λ h. let e = h.0 in ⊎_elim (λ k. inl (omega (arith, e, k))) (λ k. let f = k.0 in let x = h.1 in let y = k.1 in inr (omega (arith, e, f), omega (arith, x, y))) b) a

pub stamp_is : (s t : Stamp) → s.time.0 ≡ t.time.0 → s.delta ≡ t.delta → s ≡ t
stamp_is s t e d = ap (λ x. record { time = record { 0 = x }; delta = s.delta }) e ∙ ap (λ x. record { time = t.time; delta = x }) d

delay_is : (a b : Delay) → a.time.0 ≡ b.time.0 → a.deltas ≡ b.deltas → a ≡ b
delay_is a b e d = ap (λ x. record { time = record { 0 = x }; deltas = a.deltas }) e ∙ ap (λ x. record { time = b.time; deltas = x }) d

-- a stamp advanced by a delay, and a delay by another one, by cases on the numbers of the second
abbrev advance_by : Stamp → ℕ → ℕ → Stamp
advance_by s zero e = record { time = s.time; delta = s.delta + e }
advance_by s (suc k) e = record { time = record { 0 = s.time.0 + suc k }; delta = e }

abbrev then_by : Delay → ℕ → ℕ → Delay
then_by a zero e = record { time = a.time; deltas = a.deltas + e }
then_by a (suc k) e = record { time = record { 0 = a.time.0 + suc k }; deltas = e }

advance_is : (s : Stamp) (k : Delay) → advanced s k ≡ advance_by s k.time.0 k.deltas
advance_is s k = at k.time.0 k.deltas
  where
    at : (n e : ℕ) → advanced s (record { time = record { 0 = n }; deltas = e }) ≡ advance_by s n e
    at zero e = refl
    at (suc n) e = rw (ne_eqb (suc n) 0 (λ h. absurd cc)) refl

then_is : (a b : Delay) → joined a b ≡ then_by a b.time.0 b.deltas
then_is a b = at b.time.0 b.deltas
  where
    at : (n e : ℕ) → joined a (record { time = record { 0 = n }; deltas = e }) ≡ then_by a n e
    at zero e = refl
    at (suc n) e = rw (ne_eqb (suc n) 0 (λ h. absurd cc)) refl

pub compare : (s t : Stamp) → IsBefore s t ⊎ ((s ≡ t) ⊎ IsBefore t s)
compare s t =
    ⊎_elim (λ e. ⊎_elim (λ d. inr (inl (stamp_is s t e d))) (λ d. ⊎_elim (λ x. inl (inr (e, x))) (λ x. inr (inr (inr (sym e, x)))) d) (cases_order s.delta t.delta))
    (λ h. ⊎_elim (λ x. inl (inl x)) (λ x. inr (inr (inl x))) h) (cases_order s.time.0 t.time.0)

pub not_after_joins : (s t u : Stamp) → NotAfter s t → NotAfter t u → NotAfter s u
not_after_joins s t u a b = ⊎_elim (λ h. ⊎_elim (λ k. inl (transitive s t u h k)) (λ k. inl (subst (IsBefore s) k h)) b) (λ h. subst (λ x. NotAfter x u) (sym h) b) a

pub then_not_after : (s t u : Stamp) → IsBefore s t → NotAfter t u → IsBefore s u
then_not_after s t u a b = ⊎_elim (λ k. transitive s t u a k) (λ k. subst (IsBefore s) k a) b

-- ---- advancing

advance_time : (s : Stamp) (n e : ℕ) → 0 < n → advance_by s n e ≡ record { time = record { 0 = s.time.0 + n }; delta = e }
advance_time s zero e h = absurd (omega (arith, h))
advance_time s (suc n) e h = refl

pub advance_after : (s : Stamp) (a b : Delay) → advanced s (joined a b) ≡ advanced (advanced s a) b
advance_after s a b =
    ap (advanced s) (then_is a b) ∙ advance_is s (then_by a b.time.0 b.deltas) ∙ at a.time.0 a.deltas b.time.0 b.deltas
    ∙ sym (advance_is (advanced s a) b ∙ ap (λ x. advance_by x b.time.0 b.deltas) (advance_is s a))
  where
    at : (k d j e : ℕ) → (let c = then_by (record { time = record { 0 = k }; deltas = d }) j e in advance_by s c.time.0 c.deltas) ≡ advance_by (advance_by s k d) j e
    at zero d zero e = stamp_is _ _ refl (omega arith)
    at (suc k) d zero e = refl
    at zero d (suc j) e = advance_time s (0 + suc j) e (omega arith) ∙ stamp_is _ _ (omega arith) refl
    at (suc k) d (suc j) e = advance_time s (suc k + suc j) e (omega arith) ∙ stamp_is _ _ (omega arith) refl

advance_before : (s t : Stamp) (k d : ℕ) → IsBefore s t → NotAfter (advance_by s k d) (advance_by t k d)
advance_before s t zero d h = ⊎_elim (λ a. inl (inl a)) (λ a. let b = a.1 in inl (inr (a.0, omega (arith, b)))) h
advance_before s t (suc k) d h = ⊎_elim (λ a. inl (inl (omega (arith, a)))) (λ a. let e = a.0 in inr (stamp_is _ _ (omega (arith, e)) refl)) h

pub advance_stamp : (s t : Stamp) (k : Delay) → NotAfter s t → NotAfter (advanced s k) (advanced t k)
advance_stamp s t k n =
    ⊎_elim (λ h. subst (λ x. NotAfter x (advanced t k)) (sym (advance_is s k)) (subst (NotAfter (advance_by s k.time.0 k.deltas)) (sym (advance_is t k)) (advance_before s t k.time.0 k.deltas h))) (λ h. inr (ap (λ x. advanced x k) h)) n

pub advance_less : (s : Stamp) (j k : Delay) → IsLess j k → IsBefore (advanced s j) (advanced s k)
advance_less s j k h = subst (λ x. IsBefore x (advanced s k)) (sym (advance_is s j)) (subst (IsBefore (advance_by s j.time.0 j.deltas)) (sym (advance_is s k)) (at j.time.0 j.deltas k.time.0 k.deltas h))
  where
    at : (a b c d : ℕ) → (a < c) ⊎ (a ≡ c) × (b < d) → IsBefore (advance_by s a b) (advance_by s c d)
    at zero b zero d h = ⊎_elim (λ x. absurd (omega (arith, x))) (λ x. let y = x.1 in inr (refl, omega (arith, y))) h
    at zero b (suc c) d h = inl (omega arith)
    at (suc a) b zero d h = ⊎_elim (λ x. absurd (omega (arith, x))) (λ x. let y = x.0 in absurd (omega (arith, y))) h
    at (suc a) b (suc c) d h = ⊎_elim (λ x. inl (omega (arith, x))) (λ x. let y = x.0 in let z = x.1 in inr (omega (arith, y), z)) h

advance_later : (s : Stamp) (k : Delay) → TakesTime k → IsBefore s (advanced s k)
advance_later s k h = subst (IsBefore s) (sym (advance_is s k)) (at k.time.0 k.deltas h)
  where
    at : (c d : ℕ) → (0 < c) ⊎ (0 < d) → IsBefore s (advance_by s c d)
    at zero d h = ⊎_elim (λ x. absurd (omega (arith, x))) (λ x. inr (refl, omega (arith, x))) h
    at (suc c) d h = inl (omega arith)

advance_none : (s : Stamp) → advanced s no_delay ≡ s
advance_none s = stamp_is _ _ refl (omega arith)

after_none : (k : Delay) → joined k no_delay ≡ k
after_none k = ap (λ x. record { time = k.time; deltas = x }) (omega arith)

compare_delays : (a b : Delay) → IsLess a b ⊎ ((a ≡ b) ⊎ IsLess b a)
compare_delays a b =
    ⊎_elim (λ e. ⊎_elim (λ d. inr (inl (delay_is a b e d))) (λ d. ⊎_elim (λ x. inl (inr (e, x))) (λ x. inr (inr (inr (sym e, x)))) d) (cases_order a.deltas b.deltas))
    (λ h. ⊎_elim (λ x. inl (inl x)) (λ x. inr (inr (inl x))) h) (cases_order a.time.0 b.time.0)

-- ---- walks

module _ (g : Edges) where
  pub walk_joins : (a : ℕ) (k : Delay) (b : ℕ) (j : Delay) (c : ℕ) (s : Stamp) → Walk g a k b → Walk g b j c → (i : Delay) × Walk g a i c × (advanced s i ≡ advanced (advanced s k) j)
  walk_joins a k b j c s u stay = (k, u, sym (advance_none (advanced s k)))
  walk_joins a k b j c s u (go {k = i} {b = d} e f w h) =
      let r = walk_joins a k b i d s u w in
      (joined r.0 e, go e f r.1 h, advance_after s r.0 e ∙ ap (λ x. advanced x e) r.2 ∙ sym (advance_after (advanced s k) i e))

  pub reach_stays : (a : ℕ) (s t : Stamp) → NotAfter s t → Reach g a s a t
  reach_stays a s t n = (no_delay, stay, subst (λ x. NotAfter x t) (sym (advance_none s)) n)

  pub reach_joins : (a : ℕ) (s : Stamp) (b : ℕ) (t : Stamp) (c : ℕ) (u : Stamp) → Reach g a s b t → Reach g b t c u → Reach g a s c u
  reach_joins a s b t c u x y =
      let w = walk_joins a x.0 b y.0 c s x.1 y.1 in
      (w.0, w.1, subst (λ z. NotAfter z u) (sym w.2) (not_after_joins (advanced (advanced s x.0) y.0) (advanced t y.0) u (advance_stamp (advanced s x.0) t y.0 x.2) y.2))

  -- a walk is empty or takes time
  walk_takes : (a : ℕ) (k : Delay) (b : ℕ) (s : Stamp) → Walk g a k b → IsBefore s (advanced s k) ⊎ (s ≡ advanced s k) × (a ≡ b)
  walk_takes a k b s stay = inr (sym (advance_none s), refl)
  walk_takes a k b s (go {k = i} {b = d} e f w h) =
      let l : IsBefore (advanced s i) (advanced s (joined i e)) = subst (IsBefore (advanced s i)) (sym (advance_after s i e)) (advance_later (advanced s i) e (g.takes_time d e f h)) in
      ⊎_elim (λ x. inl (transitive s (advanced s i) (advanced s (joined i e)) x l)) (λ x. inl (subst (λ y. IsBefore y (advanced s (joined i e))) (sym x.0) l)) (walk_takes a i d s w)

  pub reach_forward : (a : ℕ) (s : Stamp) (b : ℕ) (t : Stamp) → Reach g a s b t → IsBefore s t ⊎ (s ≡ t) × (a ≡ b)
  reach_forward a s b t r =
      ⊎_elim (λ x. inl (then_not_after s (advanced s r.0) t x r.2))
      (λ x. ⊎_elim (λ y. inl (subst (λ z. IsBefore z t) (sym x.0) y)) (λ y. inr (x.0 ∙ y, x.1)) r.2) (walk_takes a r.0 b s r.1)

  -- an edge
  pub reach_edge : (a : ℕ) (s : Stamp) (k : Delay) (b : ℕ) (t : Stamp) → g.Edge a k b → NotAfter (advanced s k) t → Reach g a s b t
  reach_edge a s k b t h n = (joined no_delay k, go k b stay h, subst (λ x. NotAfter x t) (sym (advance_after s no_delay k ∙ ap (λ x. advanced x k) (advance_none s))) n)

  -- the rule with the least walk says the same of every stamp that is reached
  module _ (Clash : ℕ → ℕ → Bool → Type 0) (weaker : (a b : ℕ) → Clash a b false → Clash a b true) where
    pub free_by_least :
        (a : ℕ) (s : Stamp) (b q : ℕ) (k : Delay) (u : Stamp) (p c : ℕ) → IsLeastWalk g a b k →
        (IsBefore (advanced s k) u → Clash b c true → ⊥) → (advanced s k ≡ u → q < p → Clash b c false → ⊥) →
        (t : Stamp) → Reach g a s b t → IsBefore t u ⊎ (t ≡ u) × (q < p) → Clash b c false ⊎ IsBefore t u × Clash b c true → ⊥
    free_by_least a s b q k u p c least strict same t r e x = ⊎_elim before (λ h. ⊎_elim equal behind h) (compare (advanced s k) u)
      where
        lower : NotAfter (advanced s k) (advanced s r.0)
        lower = ⊎_elim (λ h. absurd (least.least r.0 r.1 h)) (λ h. ⊎_elim (λ y. inr (ap (advanced s) (sym y))) (λ y. inl (advance_less s k r.0 y)) h) (compare_delays r.0 k)

        till : NotAfter (advanced s k) t
        till = not_after_joins (advanced s k) (advanced s r.0) t lower r.2

        before : IsBefore (advanced s k) u → ⊥
        before h = strict h (⊎_elim (λ y. weaker b c y) (λ y. y.1) x)

        equal : advanced s k ≡ u → ⊥
        equal h =
            let back : IsBefore t u → ⊥ = λ y. irreflexive t (then_not_after t u t y (subst (λ z. NotAfter z t) h till)) in
            ⊎_elim (λ y. back y) (λ y. ⊎_elim (λ z. same h y.1 z) (λ z. back z.0) x) e

        behind : IsBefore u (advanced s k) → ⊥
        behind h = ⊎_elim (λ y. irreflexive u (transitive u t u (then_not_after u (advanced s k) t h till) y)) (λ y. irreflexive u (subst (λ z. IsBefore u z) y.0 (then_not_after u (advanced s k) t h till))) e
