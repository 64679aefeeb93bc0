-- What segments call and wait on, in the words of accesses; and which of them clash.
use Rattle.std.proofs.Common.{◌≡◌, ℕ, zero, suc, ◌==◌, ◌⊎◌, inl, inr, ⊎_elim, List, [], ◌∷◌, ◌<◌, length, sym, ◌∙◌, Bool, true, false, ◌||◌, Option, Some, refl, ap, subst, arith}
use Rattle.std.specs.Prelude.{slice_get, slice_index_or, Contains}
use Rattle.std.specs.List.{list_any}
use Rattle.std.proofs.lemmas.Bool.{eqb-true, eq-eqb}
use Rattle.std.proofs.lemmas.List.Elements.{All-contains, Contains-append_right}
use Rattle.std.proofs.lemmas.Option.{slice_get_within, get_or_from_slice_get}
use Rattle.ooo_lemmas.proofs.Contained.{contains_place, contains_at}
use Rattle.ooo_lemmas.proofs.Placed.{inside}
use Rattle.ooo_time.specs.declared.time.Time.{Time}
use Rattle.ooo_code.specs.Sound.{IsOwn}
use Rattle.ooo_access.specs.declared.access.Access.{Access}
use Rattle.ooo_conflicts.specs.declared.kind.ClashKind.{ClashKind}
use Rattle.ooo_conflicts.specs.declared.kind.ClashKind.TheVariants.{Apart}
use Rattle.ooo_conflicts.specs.Clashes.{Calls, Clash, ClashSame, Share}
use Rattle.ooo_conflicts.specs.Kinds.{is_clash, kind_at, IsKindOf}
use Rattle.ooo_dispatch.specs.Rules.{Rules, access_of, calls, waits_on, clash, has, no_access}
use Rattle.ooo_dispatch.specs.Boards.{AreRules}

there : {A : Type 0} (y x : A) (xs : List A) → Contains xs x → Contains (y ∷ xs) x
there y x xs c = Contains-append_right (y ∷ []) xs x c

pub or_true : (a b : Bool) → (a || b) ≡ true → (a ≡ true) ⊎ (b ≡ true)
or_true true b e = inl refl
or_true false b e = inr e

pub has_yes : (xs : List ℕ) (n : ℕ) → has xs n ≡ true → Contains xs n
has_yes [] n e = absurd cc
has_yes (x ∷ xs) n e = at (x == n) refl e (has_yes xs n)
  where
    at : (b : Bool) → (x == n) ≡ b → (b || has xs n) ≡ true → (has xs n ≡ true → Contains xs n) → Contains (x ∷ xs) n
    at true h f rest = (0, omega arith, eqb-true x n h)
    at false h f rest = there x n xs (rest f)

notified_yes : (ns : List (ℕ × Option Time)) (e : ℕ) → list_any (λ n. n.0 == e) ns ≡ true → (t : Option Time) × Contains ns (e, t)
notified_yes [] e h = absurd cc
notified_yes (n ∷ ns) e h = at (n.0 == e) refl h (notified_yes ns e)
  where
    at :
        (b : Bool) → (n.0 == e) ≡ b → (b || list_any (λ n. n.0 == e) ns) ≡ true → (list_any (λ n. n.0 == e) ns ≡ true → (t : Option Time) × Contains ns (e, t)) →
        (t : Option Time) × Contains (n ∷ ns) (e, t)
    at true k f rest = (n.1, (0, omega arith, ap (λ x. (x, n.1)) (eqb-true n.0 e k)))
    at false k f rest = let r = rest f in (r.0, there n (e, r.0) ns r.1)

pub index_cases : {A : Type 0} (xs : List A) (g : ℕ) (d : A) → ((a : A) × (slice_get xs g ≡ Some a) × (slice_index_or xs g d ≡ a)) ⊎ (slice_index_or xs g d ≡ d)
index_cases [] g d = inr refl
index_cases (x ∷ xs) zero d = inl (x, refl, refl)
index_cases (x ∷ xs) (suc g) d = index_cases xs g d

pub or_left : (a b : Bool) → a ≡ true → (a || b) ≡ true
or_left true b e = refl
or_left false b e = absurd cc

pub or_right : (a b : Bool) → b ≡ true → (a || b) ≡ true
or_right true b e = refl
or_right false b e = e

any_of : {A : Type 0} (test : A → Bool) (xs : List A) (k : ℕ) (x : A) → slice_get xs k ≡ Some x → test x ≡ true → list_any test xs ≡ true
any_of test [] k x e h = absurd cc
any_of test (y ∷ xs) zero x e h = or_left (test y) (list_any test xs) (let s : y ≡ x = cc in ap test s ∙ h)
any_of test (y ∷ xs) (suc k) x e h = or_right (test y) (list_any test xs) (any_of test xs k x e h)

any_in : {A : Type 0} (test : A → Bool) (xs : List A) (x : A) → Contains xs x → test x ≡ true → list_any test xs ≡ true
any_in test xs x c h = let p = contains_place xs x c in any_of test xs p.0 x p.1 h

pub has_of : (xs : List ℕ) (n : ℕ) → Contains xs n → has xs n ≡ true
has_of xs n c = any_in (λ x. x == n) xs n c (eq-eqb n n refl)

module _ (r : Rules) where
  -- what the access of a segment has
  pub access_is : (g : ℕ) (a : Access) → slice_get r.access g ≡ Some a → access_of r g ≡ a
  access_is g a e = get_or_from_slice_get r.access g a no_access e

  pub calls_of : (g e : ℕ) (a : Access) → slice_get r.access g ≡ Some a → Calls a e → calls r g e ≡ true
  calls_of g e a is c = subst (λ x. (list_any (λ n. n.0 == e) x.notified || has x.cancelled e) ≡ true) (sym (access_is g a is)) (at c)
    where
      at : Calls a e → (list_any (λ n. n.0 == e) a.notified || has a.cancelled e) ≡ true
      at (inl (t, i)) = or_left (list_any (λ n. n.0 == e) a.notified) (has a.cancelled e) (any_in (λ n. n.0 == e) a.notified (e, t) i (eq-eqb e e refl))
      at (inr i) = or_right (list_any (λ n. n.0 == e) a.notified) (has a.cancelled e) (has_of a.cancelled e i)

  pub waits_of : (g e : ℕ) (a : Access) → slice_get r.access g ≡ Some a → Contains a.waited e → waits_on r g e ≡ true
  waits_of g e a is c = subst (λ x. has x.waited e ≡ true) (sym (access_is g a is)) (has_of a.waited e c)

  pub calls_yes : (g e : ℕ) → calls r g e ≡ true → Calls (access_of r g) e
  calls_yes g e h =
      ⊎_elim (λ k. inl (notified_yes (access_of r g).notified e k)) (λ k. inr (has_yes (access_of r g).cancelled e k))
      (or_true (list_any (λ n. n.0 == e) (access_of r g).notified) (has (access_of r g).cancelled e) h)

  pub waits_yes : (g e : ℕ) → waits_on r g e ≡ true → Contains (access_of r g).waited e
  waits_yes g e h = has_yes (access_of r g).waited e h

  -- a segment that calls an event, or waits on one, is there
  pub record IsThere (g : ℕ) : Type 0 where
    pub access : Access
    pub is : slice_get r.access g ≡ Some access
    pub same : access_of r g ≡ access

  pub there_if : (test : Access → Bool) → test no_access ≡ false → (g : ℕ) → test (access_of r g) ≡ true → IsThere g
  there_if test none g h = at (index_cases r.access g no_access)
    where
      at : ((a : Access) × (slice_get r.access g ≡ Some a) × (access_of r g ≡ a)) ⊎ (access_of r g ≡ no_access) → IsThere g
      at (inl x) = record { access = x.0; is = x.1; same = x.2 }
      at (inr n) = absurd (let c : false ≡ true = sym none ∙ sym (ap test n) ∙ h in cc)

  pub calls_there : (g e : ℕ) → calls r g e ≡ true → IsThere g
  calls_there g e h = there_if (λ a. list_any (λ n. n.0 == e) a.notified || has a.cancelled e) refl g h

  pub waits_there : (g e : ℕ) → waits_on r g e ≡ true → IsThere g
  waits_there g e h = there_if (λ a. has a.waited e) refl g h

  module _ (rules : AreRules r) where
    kind_of : (b g : ℕ) (x : IsThere b) (y : IsThere g) → IsKindOf r.design.events x.access y.access (kind_at r.clashes b g)
    kind_of b g x y = rules.clashes.kinds b g x.access y.access x.is y.is

    -- a clash is between segments that are there
    row_there : (rows : List (List ClashKind)) (b g : ℕ) → is_clash (kind_at rows b g) false ≡ true → (row : List ClashKind) × (slice_get rows b ≡ Some row) × (g < length row)
    row_there rows b g e = at (index_cases rows b [])
      where
        kind_there : (row : List ClashKind) → is_clash (slice_index_or row g Apart) false ≡ true → g < length row
        kind_there row f =
            ⊎_elim (λ x. slice_get_within row g x.0 x.1) (λ n. absurd (let c : false ≡ true = subst (λ k. is_clash k false ≡ true) n f in cc)) (index_cases row g Apart)

        at : ((row : List ClashKind) × (slice_get rows b ≡ Some row) × (slice_index_or rows b [] ≡ row)) ⊎ (slice_index_or rows b [] ≡ []) → (row : List ClashKind) × (slice_get rows b ≡ Some row) × (g < length row)
        at (inl x) = (x.0, x.1, kind_there x.0 (subst (λ row. is_clash (slice_index_or row g Apart) false ≡ true) x.2 e))
        at (inr n) = let lt = kind_there [] (subst (λ row. is_clash (slice_index_or row g Apart) false ≡ true) n e) in absurd (omega (arith, lt))

    there_at : (g : ℕ) → g < length r.access → IsThere g
    there_at g lt = let a = inside r.access g lt in record { access = a.0; is = a.1; same = access_is g a.0 a.1 }

    pub clash_yes : (b g : ℕ) (x : IsThere b) (y : IsThere g) (strict : Bool) → Clash r.design.events x.access y.access strict → clash r b g strict ≡ true
    clash_yes b g x y strict c = (kind_of b g x y strict).1 c

    -- two segments that call an event of the model's own clash
    pub own_clash : (a b e : ℕ) → IsOwn (slice_get r.design.events e) → calls r a e ≡ true → calls r b e ≡ true → clash r a b false ≡ true
    own_clash a b e own x y =
        let i = calls_there a e x in
        let j = calls_there b e y in
        clash_yes a b i j false (inl (inr (e, own, subst (λ z. Calls z e) i.same (calls_yes a e x), subst (λ z. Calls z e) j.same (calls_yes b e y))))

    -- who calls an event clashes strictly with who waits on it
    pub wake_clash : (a b e : ℕ) → calls r a e ≡ true → waits_on r b e ≡ true → clash r a b true ≡ true
    wake_clash a b e x y =
        let i = calls_there a e x in
        let j = waits_there b e y in
        clash_yes a b i j true (inr (refl, inl (e, subst (λ z. Calls z e) i.same (calls_yes a e x), subst (λ z. Contains z.waited e) j.same (waits_yes b e y))))

    -- ---- a clash that isn't strict goes both ways

    swapped : (xs ys : List ℕ) → Share xs ys → Share ys xs
    swapped xs ys c = (c.0, c.2, c.1)

    same_back : (x y : Access) → ClashSame r.design.events x y → ClashSame r.design.events y x
    same_back x y (inl (inl c)) = inl (inl (swapped x.written y.written c))
    same_back x y (inl (inr (inl c))) = inl (inr (inr (swapped x.written y.read c)))
    same_back x y (inl (inr (inr c))) = inl (inr (inl (swapped x.read y.written c)))
    same_back x y (inr (e, own, c, d)) = inr (e, own, d, c)

    clash_back : (x y : Access) → Clash r.design.events x y false → Clash r.design.events y x false
    clash_back x y (inl c) = inl (same_back x y c)
    clash_back x y (inr (c, d)) = absurd cc

    pub mirrored : (a b : ℕ) → clash r a b false ≡ true → clash r b a false ≡ true
    mirrored a b e =
        let row = row_there r.clashes a b e in
        let count : length r.clashes ≡ length r.access = rules.clashes.count in
        let width : length row.0 ≡ length r.clashes = All-contains (λ x. length x ≡ length r.clashes) r.clashes row.0 rules.wide (contains_at r.clashes a row.0 row.1) in
        let first = slice_get_within r.clashes a row.0 row.1 in
        let second = row.2 in
        let i = there_at a (omega (arith, first, count)) in
        let j = there_at b (omega (arith, second, count, width)) in
        clash_yes b a j i false (clash_back i.access j.access ((kind_of a b i j false).0 e))
