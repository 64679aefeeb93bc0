-- Logs: who is in them, who was last.
use Rattle.std.proofs.Common.{◌≡◌, ◌≢◌, ℕ, suc, ◌<◌, ◌≤◌, ◌⊎◌, inl, inr, ⊎_elim, Bool, true, false, List, [], ◌∷◌, Some, None, if◌then◌else◌, ◌==◌, refl, sym, ap, ◌∙◌, subst, arith}
use Rattle.std.proofs.lemmas.Bool.{eqb-true, eqb-false, eq-eqb, ne_eqb}
use Rattle.ooo_schedules.specs.Model.{Act, In, count, last, without, Model, ActOf, Log, Ordered}

pub same_or_not : (p q : ℕ) → (p ≡ q) ⊎ (p ≢ q)
same_or_not p q = at (p == q) refl
  where
    at : (b : Bool) → (p == q) ≡ b → (p ≡ q) ⊎ (p ≢ q)
    at true e = inl (eqb-true p q e)
    at false e = inr (eqb-false p q e)

pub if_same : {A : Type 0} (p q : ℕ) (a b : A) → p ≡ q → (if p == q then a else b) ≡ a
if_same p q a b e = rw (eq-eqb p q e) refl

pub if_not : {A : Type 0} (p q : ℕ) (a b : A) → p ≢ q → (if p == q then a else b) ≡ b
if_not p q a b e = rw (ne_eqb p q e) refl

pub some_is : {A : Type 0} (x y : A) → Some x ≡ Some y → x ≡ y
some_is x y e = cc

module _ (S R : Type 0) where
  pub some_in : (q : ℕ) (xs : List (Act S R)) (x : Act S R) → last q xs ≡ Some x → In x xs × (x.process ≡ q)
  some_in q [] x e = absurd cc
  some_in q (y ∷ ys) x e =
      let own : y.process ≡ q → In x (y ∷ ys) × (x.process ≡ q) = λ h. let i : y ≡ x = some_is y x (sym (if_same y.process q (Some y) (last q ys) h) ∙ e) in (inl (sym i), subst (λ z. z.process ≡ q) i h) in
      let other : y.process ≢ q → In x (y ∷ ys) × (x.process ≡ q) = λ h. let i = some_in q ys x (sym (if_not y.process q (Some y) (last q ys) h) ∙ e) in (inr i.0, i.1) in
      ⊎_elim own other (same_or_not y.process q)

  pub none_in : (q : ℕ) (xs : List (Act S R)) (x : Act S R) → last q xs ≡ None → In x xs → x.process ≢ q
  none_in q [] x e i = absurd i
  none_in q (y ∷ ys) x e i =
      let own : y.process ≡ q → x.process ≢ q = λ h. let c : Some y ≡ None = sym (if_same y.process q (Some y) (last q ys) h) ∙ e in absurd cc in
      let other : y.process ≢ q → x.process ≢ q = λ h. ⊎_elim (λ j. subst (λ z. z.process ≢ q) (sym j) h) (λ j. none_in q ys x (sym (if_not y.process q (Some y) (last q ys) h) ∙ e) j) i in
      ⊎_elim own other (same_or_not y.process q)

  pub last_other : (q : ℕ) (y : Act S R) (ys : List (Act S R)) → y.process ≢ q → last q (y ∷ ys) ≡ last q ys
  last_other q y ys h = if_not y.process q (Some y) (last q ys) h

  pub last_own : (q : ℕ) (y : Act S R) (ys : List (Act S R)) → y.process ≡ q → last q (y ∷ ys) ≡ Some y
  last_own q y ys h = if_same y.process q (Some y) (last q ys) h

  pub count_other : (q : ℕ) (y : Act S R) (ys : List (Act S R)) → y.process ≢ q → count q (y ∷ ys) ≡ count q ys
  count_other q y ys h = if_not y.process q (suc (count q ys)) (count q ys) h

  pub count_own : (q : ℕ) (y : Act S R) (ys : List (Act S R)) → y.process ≡ q → count q (y ∷ ys) ≡ suc (count q ys)
  count_own q y ys h = if_same y.process q (suc (count q ys)) (count q ys) h

  pub without_in : (q : ℕ) (xs : List (Act S R)) (x : Act S R) → In x (without q xs) → In x xs × (x.process ≢ q)
  without_in q [] x i = absurd i
  without_in q (y ∷ ys) x i =
      let own : y.process ≡ q → In x (y ∷ ys) × (x.process ≢ q) = λ h. let k = without_in q ys x (subst (In x) (if_same y.process q (without q ys) (y ∷ without q ys) h) i) in (inr k.0, k.1) in
      let more : y.process ≢ q → In x (y ∷ without q ys) → In x (y ∷ ys) × (x.process ≢ q) = λ h k. ⊎_elim (λ e. (inl e, subst (λ z. z.process ≢ q) (sym e) h)) (λ k. let n = without_in q ys x k in (inr n.0, n.1)) k in
      let other : y.process ≢ q → In x (y ∷ ys) × (x.process ≢ q) = λ h. more h (subst (In x) (if_not y.process q (without q ys) (y ∷ without q ys) h) i) in
      ⊎_elim own other (same_or_not y.process q)

  pub in_without : (q : ℕ) (xs : List (Act S R)) (x : Act S R) → In x xs → x.process ≢ q → In x (without q xs)
  in_without q [] x i n = absurd i
  in_without q (y ∷ ys) x i n =
      let own : y.process ≡ q → In x (without q (y ∷ ys)) = λ h. subst (In x) (sym (if_same y.process q (without q ys) (y ∷ without q ys) h)) (⊎_elim (λ e. absurd (n (subst (λ z. z.process ≡ q) (sym e) h))) (λ j. in_without q ys x j n) i) in
      let other : y.process ≢ q → In x (without q (y ∷ ys)) = λ h. subst (In x) (sym (if_not y.process q (without q ys) (y ∷ without q ys) h)) (⊎_elim (λ e. inl e) (λ j. inr (in_without q ys x j n)) i) in
      ⊎_elim own other (same_or_not y.process q)

  pub last_without : (r q : ℕ) (xs : List (Act S R)) → r ≢ q → last r (without q xs) ≡ last r xs
  last_without r q [] n = refl
  last_without r q (y ∷ ys) n =
      let own : y.process ≡ q → last r (without q (y ∷ ys)) ≡ last r (y ∷ ys) = λ h. ap (last r) (if_same y.process q (without q ys) (y ∷ without q ys) h) ∙ last_without r q ys n ∙ sym (last_other r y ys (λ e. n (sym e ∙ h))) in
      let other : y.process ≢ q → last r (without q (y ∷ ys)) ≡ last r (y ∷ ys) = λ h. ap (last r) (if_not y.process q (without q ys) (y ∷ without q ys) h) ∙ ap (λ t. if y.process == r then Some y else t) (last_without r q ys n) in
      ⊎_elim own other (same_or_not y.process q)

  pub last_gone : (q : ℕ) (xs : List (Act S R)) → last q (without q xs) ≡ None
  last_gone q [] = refl
  last_gone q (y ∷ ys) =
      let own : y.process ≡ q → last q (without q (y ∷ ys)) ≡ None = λ h. ap (last q) (if_same y.process q (without q ys) (y ∷ without q ys) h) ∙ last_gone q ys in
      let other : y.process ≢ q → last q (without q (y ∷ ys)) ≡ None = λ h. ap (last q) (if_not y.process q (without q ys) (y ∷ without q ys) h) ∙ last_other q y (without q ys) h ∙ last_gone q ys in
      ⊎_elim own other (same_or_not y.process q)

-- the last activation of a process has the greatest number, and the others stand before it
pub data Lasts (m : Model) (q : ℕ) (xs : Log m) : Type 0 where
  none : last q xs ≡ None → count q xs ≡ 0 → Lasts m q xs
  some : (z : ActOf m) → last q xs ≡ Some z → In z xs → z.process ≡ q → suc z.number ≡ count q xs → Lasts m q xs

module _ (m : Model) where
  abbrev pub S : Type 0
  S = m.Stamp

  abbrev pub R : Type 0
  R = m.Reads

  keep : (q : ℕ) (y : ActOf m) (ys : Log m) → y.process ≢ q → Lasts m q ys → Lasts m q (y ∷ ys)
  keep q y ys h (none e c) = none (last_other S R q y ys h ∙ e) (count_other S R q y ys h ∙ c)
  keep q y ys h (some z e i p n) = some z (last_other S R q y ys h ∙ e) (inr i) p (n ∙ sym (count_other S R q y ys h))

  pub lasts : (q : ℕ) (xs : Log m) → Ordered m xs → Lasts m q xs
  lasts q [] o = none refl refl
  lasts q (y ∷ ys) o =
      let own : y.process ≡ q → Lasts m q (y ∷ ys) = λ h. some y (last_own S R q y ys h) (inl refl) h (ap suc (o.0.number ∙ ap (λ p. count p ys) h) ∙ sym (count_own S R q y ys h)) in
      let other : y.process ≢ q → Lasts m q (y ∷ ys) = λ h. keep q y ys h (lasts q ys o.1) in
      ⊎_elim own other (same_or_not y.process q)

  pub count_le : (q : ℕ) (y : ActOf m) (ys : Log m) → count q ys ≤ count q (y ∷ ys)
  count_le q y ys = ⊎_elim (λ h. let e = count_own S R q y ys h in omega (arith, e)) (λ h. let e = count_other S R q y ys h in omega (arith, e)) (same_or_not y.process q)

  pub below : (xs : Log m) (y : ActOf m) → Ordered m xs → In y xs → y.number < count y.process xs
  below [] y o i = absurd i
  below (x ∷ xs) y o i =
      let first : y ≡ x → y.number < count y.process (x ∷ xs) = λ e. subst (λ z. z.number < count z.process (x ∷ xs)) (sym e) (let a = o.0.number in let b = count_own S R x.process x xs refl in omega (arith, a, b)) in
      let rest : In y xs → y.number < count y.process (x ∷ xs) = λ j. let a = below xs y o.1 j in let b = count_le y.process x xs in omega (arith, a, b) in
      ⊎_elim first rest i

  pub unique : (xs : Log m) (y z : ActOf m) → Ordered m xs → In y xs → In z xs → y.process ≡ z.process → y.number ≡ z.number → y ≡ z
  unique [] y z o i j p n = absurd i
  unique (x ∷ xs) y z o i j p n =
      let clash : (w : ActOf m) → In w xs → w.process ≡ x.process → w.number ≡ x.number → ⊥ = λ w k p n. let a = below xs w o.1 k in let b = o.0.number in let c : count w.process xs ≡ count x.process xs = ap (λ t. count t xs) p in absurd (omega (arith, a, b, c, n)) in
      ⊎_elim (λ e. ⊎_elim (λ f. e ∙ sym f) (λ f. absurd (clash z f (sym p ∙ ap (λ t. t.process) e) (sym n ∙ ap (λ t. t.number) e))) j) (λ e. ⊎_elim (λ f. absurd (clash y e (p ∙ ap (λ t. t.process) f) (n ∙ ap (λ t. t.number) f))) (λ f. unique xs y z o.1 e f p n) j) i

  abbrev pub Found : ℕ → ℕ → Log m → Type 0
  Found q k xs = (z : ActOf m) × In z xs × (z.process ≡ q) × (z.number ≡ k)

  more_found : (q k : ℕ) (x : ActOf m) (xs : Log m) → Found q k xs → Found q k (x ∷ xs)
  more_found q k x xs f = (f.0, inr f.1, f.2, f.3)

  pub numbered : (xs : Log m) (q k : ℕ) → Ordered m xs → k < count q xs → Found q k xs
  numbered [] q k o h = absurd (omega (arith, h))
  numbered (x ∷ xs) q k o h =
      let own : x.process ≡ q → Found q k (x ∷ xs) = λ e. ⊎_elim (λ n. (x, inl refl, e, n)) (λ n. more_found q k x xs (numbered xs q k o.1 (let a = count_own S R q x xs e in let b : x.number ≡ count q xs = o.0.number ∙ ap (λ p. count p xs) e in omega (arith, a, b, h, n)))) (same_or_not x.number k) in
      let other : x.process ≢ q → Found q k (x ∷ xs) = λ e. more_found q k x xs (numbered xs q k o.1 (subst (λ n. k < n) (count_other S R q x xs e) h)) in
      ⊎_elim own other (same_or_not x.process q)

  -- an own activation is the last or stands before it
  pub own_below : (xs : Log m) (q : ℕ) (z y : ActOf m) → Ordered m xs → last q xs ≡ Some z → In y xs → y.process ≡ q → (y ≡ z) ⊎ m.before y.stamp z.stamp
  own_below [] q z y o e i p = absurd i
  own_below (x ∷ xs) q z y o e i p =
      let own : x.process ≡ q → (y ≡ z) ⊎ m.before y.stamp z.stamp = λ h. let k : x ≡ z = some_is x z (sym (last_own S R q x xs h) ∙ e) in ⊎_elim (λ f. inl (f ∙ k)) (λ f. inr (subst (λ t. m.before y.stamp t.stamp) k (o.0.later y f (p ∙ sym h)))) i in
      let other : x.process ≢ q → (y ≡ z) ⊎ m.before y.stamp z.stamp = λ h. ⊎_elim (λ f. absurd (h (sym (ap (λ t. t.process) f) ∙ p))) (λ f. own_below xs q z y o.1 (sym (last_other S R q x xs h) ∙ e) f p) i in
      ⊎_elim own other (same_or_not x.process q)

  pub segment_of : (xs : Log m) (y : ActOf m) → Ordered m xs → In y xs → m.process_of y.segment ≡ y.process
  segment_of [] y o i = absurd i
  segment_of (x ∷ xs) y o i = ⊎_elim (λ e. subst (λ t. m.process_of t.segment ≡ t.process) (sym e) o.0.segment) (λ j. segment_of xs y o.1 j) i
