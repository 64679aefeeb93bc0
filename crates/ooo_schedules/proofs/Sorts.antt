-- Logs in order of place.
use Rattle.std.proofs.Common.{◌≡◌, ◌⊎◌, inl, inr, ⊎_elim, Bool, true, false, not, ◌&&◌, ◌||◌, nat_lt, List, [], ◌∷◌, Option, Some, None, if◌then◌else◌, refl, sym, ap, ◌∙◌, subst, arith, ltb-false, ltb-true}
use Rattle.std.proofs.lemmas.Bool.{cases_order}
use Rattle.ooo_schedules.specs.Model.{In, Model, ActOf, Log, Order, IsEarlier, Ordered}
use Rattle.ooo_schedules.specs.Design.{Design, DesignLaws, is_earlier, insert, sort, only, sooner, soonest, model, Not_after}
use Rattle.ooo_schedules.proofs.Logs.{some_is}
use Rattle.ooo_schedules.proofs.Places.{not_both, not_after_joins, not_earlier, earlier_joins, not_both_earlier}

abbrev pub Desc : (m : Model) → Log m → Type 0
Desc m [] = Unit {0}
Desc m (x ∷ xs) = ((z : ActOf m) → In z xs → IsEarlier m z x) × Desc m xs

-- ---- picking by a test

pub only_in : {A : Type 0} (test : A → Bool) (xs : List A) (x : A) → In x (only test xs) → In x xs × (test x ≡ true)
only_in test [] x i = absurd i
only_in test (y ∷ ys) x i =
    let rec : In x (only test ys) → In x ys × (test x ≡ true) = only_in test ys x in
    at rec (test y) refl i
  where
    at : (In x (only test ys) → In x ys × (test x ≡ true)) → (b : Bool) → test y ≡ b → In x (if b then y ∷ only test ys else only test ys) → In x (y ∷ ys) × (test x ≡ true)
    at rec true e i = ⊎_elim (λ h. (inl h, ap test h ∙ e)) (λ h. let r = rec h in (inr r.0, r.1)) i
    at rec false e i = let r = rec i in (inr r.0, r.1)

pub in_only : {A : Type 0} (test : A → Bool) (xs : List A) (x : A) → In x xs → test x ≡ true → In x (only test xs)
in_only test [] x i t = absurd i
in_only test (y ∷ ys) x i t = at (in_only test ys x) (test y) refl i
  where
    at : (In x ys → test x ≡ true → In x (only test ys)) → (b : Bool) → test y ≡ b → In x (y ∷ ys) → In x (if b then y ∷ only test ys else only test ys)
    at rec true e i = ⊎_elim (λ h. inl h) (λ h. inr (rec h t)) i
    at rec false e i = ⊎_elim (λ h. let c : true ≡ false = sym t ∙ ap test h ∙ e in absurd cc) (λ h. rec h t) i

pub only_all : {A : Type 0} (test : A → Bool) (xs : List A) → ((x : A) → In x xs → test x ≡ true) → only test xs ≡ xs
only_all test [] h = refl
only_all test (x ∷ xs) h = rw (h x (inl refl)) (ap (λ t. x ∷ t) (only_all test xs (λ y i. h y (inr i))))

pub only_desc : (m : Model) (test : ActOf m → Bool) (xs : Log m) → Desc m xs → Desc m (only test xs)
only_desc m test [] h = tt
only_desc m test (x ∷ xs) h = at (only_desc m test xs h.1) (test x)
  where
    at : Desc m (only test xs) → (b : Bool) → Desc m (if b then x ∷ only test xs else only test xs)
    at rec true = (λ z i. h.0 z (only_in test xs z i).0, rec)
    at rec false = rec

-- two lists in order with the same members are the same
pub desc_same : (m : Model) (o : Order m) (xs ys : Log m) → Desc m xs → Desc m ys → ((z : ActOf m) → In z xs → In z ys) → ((z : ActOf m) → In z ys → In z xs) → xs ≡ ys
desc_same m o [] [] a b f g = refl
desc_same m o [] (y ∷ ys) a b f g = absurd (g y (inl refl))
desc_same m o (x ∷ xs) [] a b f g = absurd (f x (inl refl))
desc_same m o (x ∷ xs) (y ∷ ys) a b f g =
    let e : x ≡ y = ⊎_elim (λ h. h) (λ h. ⊎_elim (λ k. sym k) (λ k. absurd (not_both_earlier m o x.stamp x.process y.stamp y.process (b.0 x h) (a.0 y k))) (g y (inl refl))) (f x (inl refl)) in
    let f' : (z : ActOf m) → In z xs → In z ys = λ z i. ⊎_elim (λ h. absurd (not_earlier m o x.stamp x.process (subst (λ t. IsEarlier m t x) (h ∙ sym e) (a.0 z i)))) (λ h. h) (f z (inr i)) in
    let g' : (z : ActOf m) → In z ys → In z xs = λ z i. ⊎_elim (λ h. absurd (not_earlier m o y.stamp y.process (subst (λ t. IsEarlier m t y) (h ∙ e) (b.0 z i)))) (λ h. h) (g z (inr i)) in
    ap (λ t. t ∷ xs) e ∙ ap (λ t. y ∷ t) (desc_same m o xs ys a.1 b.1 f' g')

-- ---- sorting

module _ (d : Design) (l : DesignLaws d) where
  abbrev pub M : Model
  M = model d

  pub compare : (s t : d.Stamp) → d.before s t ⊎ ((s ≡ t) ⊎ d.before t s)
  compare s t = at (d.is_before s t) refl
    where
      at : (b : Bool) → d.is_before s t ≡ b → d.before s t ⊎ ((s ≡ t) ⊎ d.before t s)
      at true e = inl (l.is_yes s t e)
      at false e = ⊎_elim (λ h. inr (inr h)) (λ h. inr (inl (sym h))) (l.is_no s t e)

  pub order : Order M
  order = record { irreflexive = l.irreflexive; transitive = l.transitive; compare = compare }

  pub is_earlier_yes : (x y : ActOf M) → is_earlier d x y ≡ true → IsEarlier M x y
  is_earlier_yes x y = at (d.is_before x.stamp y.stamp) (d.is_before y.stamp x.stamp) (nat_lt x.process y.process) refl refl refl
    where
      at : (a b c : Bool) → d.is_before x.stamp y.stamp ≡ a → d.is_before y.stamp x.stamp ≡ b → nat_lt x.process y.process ≡ c → (a || (not b && c)) ≡ true → IsEarlier M x y
      at true b c p q r e = inl (l.is_yes x.stamp y.stamp p)
      at false false true p q r e = ⊎_elim (λ h. inl h) (λ h. inr (h, ltb-true x.process y.process r)) (l.is_no y.stamp x.stamp q)
      at false true c p q r e = absurd cc
      at false false false p q r e = absurd cc

  pub is_earlier_no : (x y : ActOf M) → is_earlier d x y ≡ false → ((x.stamp ≡ y.stamp) × (x.process ≡ y.process) → ⊥) → IsEarlier M y x
  is_earlier_no x y = at (d.is_before x.stamp y.stamp) (d.is_before y.stamp x.stamp) (nat_lt x.process y.process) refl refl refl
    where
      at : (a b c : Bool) → d.is_before x.stamp y.stamp ≡ a → d.is_before y.stamp x.stamp ≡ b → nat_lt x.process y.process ≡ c → (a || (not b && c)) ≡ false → ((x.stamp ≡ y.stamp) × (x.process ≡ y.process) → ⊥) → IsEarlier M y x
      at true b c p q r e n = absurd cc
      at false true c p q r e n = inl (l.is_yes y.stamp x.stamp q)
      at false false true p q r e n = absurd cc
      at false false false p q r e n =
          ⊎_elim (λ h. inl h)
          (λ h. ⊎_elim (λ k. absurd (n (sym h, k))) (λ k. ⊎_elim (λ w. absurd (let z = ltb-false x.process y.process r in omega (arith, w, z))) (λ w. inr (h, w)) k) (cases_order x.process y.process))
          (l.is_no x.stamp y.stamp p)

  pub insert_in : (x : ActOf M) (ys : Log M) (z : ActOf M) → In z (insert d x ys) → (z ≡ x) ⊎ In z ys
  insert_in x [] z i = i
  insert_in x (y ∷ ys) z i = at (insert_in x ys z) (is_earlier d y x) i
    where
      at : (In z (insert d x ys) → (z ≡ x) ⊎ In z ys) → (b : Bool) → In z (if b then x ∷ y ∷ ys else y ∷ insert d x ys) → (z ≡ x) ⊎ In z (y ∷ ys)
      at rec true i = i
      at rec false i = ⊎_elim (λ h. inr (inl h)) (λ h. ⊎_elim (λ k. inl k) (λ k. inr (inr k)) (rec h)) i

  pub in_insert : (x : ActOf M) (ys : Log M) (z : ActOf M) → (z ≡ x) ⊎ In z ys → In z (insert d x ys)
  in_insert x [] z i = i
  in_insert x (y ∷ ys) z i = at (in_insert x ys z) (is_earlier d y x) i
    where
      at : ((z ≡ x) ⊎ In z ys → In z (insert d x ys)) → (b : Bool) → (z ≡ x) ⊎ In z (y ∷ ys) → In z (if b then x ∷ y ∷ ys else y ∷ insert d x ys)
      at rec true i = i
      at rec false i = ⊎_elim (λ h. inr (rec (inl h))) (λ h. ⊎_elim (λ k. inl k) (λ k. inr (rec (inr k))) h) i

  pub sort_in : (xs : Log M) (z : ActOf M) → In z (sort d xs) → In z xs
  sort_in [] z i = i
  sort_in (x ∷ xs) z i = ⊎_elim (λ h. inl h) (λ h. inr (sort_in xs z h)) (insert_in x (sort d xs) z i)

  pub in_sort : (xs : Log M) (z : ActOf M) → In z xs → In z (sort d xs)
  in_sort [] z i = i
  in_sort (x ∷ xs) z i = in_insert x (sort d xs) z (⊎_elim (λ h. inl h) (λ h. inr (in_sort xs z h)) i)

  pub insert_desc : (x : ActOf M) (ys : Log M) → Desc M ys → ((z : ActOf M) → In z ys → (z.stamp ≡ x.stamp) × (z.process ≡ x.process) → ⊥) → Desc M (insert d x ys)
  insert_desc x [] h n = (λ z i. absurd i, tt)
  insert_desc x (y ∷ ys) h n = at (insert_desc x ys h.1 (λ z i. n z (inr i))) (is_earlier d y x) refl
    where
      at : Desc M (insert d x ys) → (b : Bool) → is_earlier d y x ≡ b → Desc M (if b then x ∷ y ∷ ys else y ∷ insert d x ys)
      at rec true e =
          let a = is_earlier_yes y x e in
          (λ z i. ⊎_elim (λ k. subst (λ t. IsEarlier M t x) (sym k) a) (λ k. earlier_joins M order z.stamp z.process y.stamp y.process x.stamp x.process (h.0 z k) a) i, h)
      at rec false e =
          let a = is_earlier_no y x e (n y (inl refl)) in
          (λ z i. ⊎_elim (λ k. subst (λ t. IsEarlier M t y) (sym k) a) (λ k. h.0 z k) (insert_in x ys z i), rec)

  pub sort_desc : (xs : Log M) → Ordered M xs → Desc M (sort d xs)
  sort_desc [] h = tt
  sort_desc (x ∷ xs) h = insert_desc x (sort d xs) (sort_desc xs h.1) (λ z i e. l.irreflexive x.stamp (subst (λ t. d.before t x.stamp) e.0 (h.0.later z (sort_in xs z i) e.1)))

  -- ---- the least of some stamps

  sooner_source : (a b : Option d.Stamp) (t : d.Stamp) → sooner d a b ≡ Some t → (Some t ≡ a) ⊎ (Some t ≡ b)
  sooner_source None b t e = inr (sym e)
  sooner_source (Some a) None t e = inl (sym e)
  sooner_source (Some a) (Some b) t e = at (d.is_before b a) e
    where
      at : (x : Bool) → (if x then Some b else Some a) ≡ Some t → (Some t ≡ Some a) ⊎ (Some t ≡ Some b)
      at true e = inr (sym e)
      at false e = inl (sym e)

  pub soonest_source : (ts : List (Option d.Stamp)) (t : d.Stamp) → soonest d ts ≡ Some t → In (Some t) ts
  soonest_source [] t e = absurd cc
  soonest_source (x ∷ xs) t e = ⊎_elim (λ h. inl h) (λ h. inr (soonest_source xs t (sym h))) (sooner_source x (soonest d xs) t e)

  sooner_left : (a : d.Stamp) (b : Option d.Stamp) → (t : d.Stamp) × (sooner d (Some a) b ≡ Some t) × Not_after d t a
  sooner_left a None = (a, refl, inr refl)
  sooner_left a (Some b) = at (d.is_before b a) refl
    where
      at : (x : Bool) → d.is_before b a ≡ x → (t : d.Stamp) × ((if x then Some b else Some a) ≡ Some t) × Not_after d t a
      at true e = (b, refl, inl (l.is_yes b a e))
      at false e = (a, refl, inr refl)

  sooner_right : (a : Option d.Stamp) (b : d.Stamp) → (t : d.Stamp) × (sooner d a (Some b) ≡ Some t) × Not_after d t b
  sooner_right None b = (b, refl, inr refl)
  sooner_right (Some a) b = at (d.is_before b a) refl
    where
      at : (x : Bool) → d.is_before b a ≡ x → (t : d.Stamp) × ((if x then Some b else Some a) ≡ Some t) × Not_after d t b
      at true e = (b, refl, inr refl)
      at false e = (a, refl, l.is_no b a e)

  pub soonest_some : (ts : List (Option d.Stamp)) (t : d.Stamp) → In (Some t) ts → (u : d.Stamp) × (soonest d ts ≡ Some u) × Not_after d u t
  soonest_some [] t i = absurd i
  soonest_some (x ∷ xs) t i =
      ⊎_elim (λ h. subst (λ y. (u : d.Stamp) × (sooner d y (soonest d xs) ≡ Some u) × Not_after d u t) h (sooner_left t (soonest d xs)))
      (λ h.
      let r = soonest_some xs t h in
      let s = sooner_right x r.0 in
      (s.0, ap (sooner d x) r.1 ∙ s.1, not_after_joins M order s.0 r.0 t s.2 r.2)) i

  pub soonest_bound : (ts : List (Option d.Stamp)) (t u : d.Stamp) → soonest d ts ≡ Some t → In (Some u) ts → Not_after d t u
  soonest_bound ts t u e i = let r = soonest_some ts u i in subst (λ x. Not_after d x u) (some_is r.0 t (sym r.1 ∙ e)) r.2

  pub soonest_is : (ts : List (Option d.Stamp)) (t : d.Stamp) → In (Some t) ts → ((u : d.Stamp) → In (Some u) ts → Not_after d t u) → soonest d ts ≡ Some t
  soonest_is ts t i h =
      let r = soonest_some ts t i in
      let k = h r.0 (soonest_source ts r.0 r.1) in
      r.1 ∙ ap Some (⊎_elim (λ a. ⊎_elim (λ b. absurd (not_both M order t r.0 b a)) (λ b. sym b) k) (λ a. a) r.2)
