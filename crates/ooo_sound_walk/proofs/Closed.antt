-- What is reached by calls is closed under calls.
use Rattle.std.proofs.Common.{◌≡◌, ◌∙◌, refl, sym, ap, subst, arith, ℕ, zero, suc, ◌+◌, ◌<◌, ◌≤◌, List, [], ◌∷◌, ◌++◌, length, length-append, Bool, true, false, Option, Some, None, ◌⊎◌, inl, inr}
use Rattle.std.specs.Prelude.{◌==◌, slice_get, if◌then◌else◌}
use Rattle.std.proofs.lemmas.Bool.{or_cases, or_left, or_right, eq-eqb, eqb-true}
use Rattle.std.proofs.lemmas.Bool.Decides.{eqb_tells}
use Rattle.std.proofs.lemmas.Option.{slice_get_within, slice_get_past, slice_get_cases}
use Rattle.ooo_lemmas.specs.Counting.{count}
use Rattle.ooo_lemmas.proofs.Contained.{contains_place, contains_at}
use Rattle.ooo_lemmas.proofs.Counting.{count_at_most, count_strictly}
use Rattle.ooo_checked.specs.declared.module.CheckedFunction.{CheckedFunction}
use Rattle.ooo_walk.specs.Plans.{Viewed, as_function, function_at, member_placed}
use Rattle.ooo_walk.specs.Reach.{calls_at, calls_in, has, reached_by, reached_from, with_calls, with_function}
use Rattle.ooo_sound_walk.specs.Reached.{ReachedAreClosed, ReachedAreLeast}

-- ---- lists that grow at their end

record Grows (xs ys : List ℕ) : Type 0 where
  pub keeps : (n : ℕ) → has xs n ≡ true → has ys n ≡ true
  pub at : (k n : ℕ) → slice_get xs k ≡ Some n → slice_get ys k ≡ Some n

stays : (xs : List ℕ) → Grows xs xs
stays xs = record { keeps = λ n h. h; at = λ k n h. h }

grows_on : (xs ys zs : List ℕ) → Grows xs ys → Grows ys zs → Grows xs zs
grows_on xs ys zs a b = record { keeps = λ n h. b.keeps n (a.keeps n h); at = λ k n h. b.at k n (a.at k n h) }

has_more : (xs : List ℕ) (n k : ℕ) → has xs k ≡ true → has (xs ++ n ∷ []) k ≡ true
has_more [] n k h = absurd cc
has_more (x ∷ xs) n k h = elim (or_cases (k == x) (has xs k) h) [
  | inl e ↦ or_left (k == x) (has (xs ++ n ∷ []) k) e
  | inr r ↦ or_right (k == x) (has (xs ++ n ∷ []) k) (has_more xs n k r)
]

has_last : (xs : List ℕ) (n : ℕ) → has (xs ++ n ∷ []) n ≡ true
has_last [] n = or_left (n == n) false (eq-eqb n n refl)
has_last (x ∷ xs) n = or_right (n == x) (has (xs ++ n ∷ []) n) (has_last xs n)

kept_at : (xs : List ℕ) (m k n : ℕ) → slice_get xs k ≡ Some n → slice_get (xs ++ m ∷ []) k ≡ Some n
kept_at [] m k n h = absurd cc
kept_at (x ∷ xs) m zero n h = h
kept_at (x ∷ xs) m (suc k) n h = kept_at xs m k n h

more_grows : (xs : List ℕ) (n : ℕ) → Grows xs (xs ++ n ∷ [])
more_grows xs n = record { keeps = has_more xs n; at = kept_at xs n }

-- where a number stands that a list has
placed : (xs : List ℕ) (n : ℕ) → has xs n ≡ true → (k : ℕ) × (slice_get xs k ≡ Some n)
placed [] n h = absurd cc
placed (x ∷ xs) n h = elim (or_cases (n == x) (has xs n) h) [
  | inl e ↦ (0, ap Some (sym (eqb-true n x e)))
  | inr r ↦ let p = placed xs n r in (suc p.0, p.1)
]

-- ---- what is found

module _ (v : Viewed) where
  -- a function's number is one of the names
  function_within : (n : ℕ) (f : CheckedFunction) → function_at v n ≡ Some f → n < length v.places
  function_within n f is = elim (slice_get_cases v.places n).1 [
    | inl w ↦ w.1
    | inr w ↦ absurd (let e : None ≡ Some f = sym (ap (λ o. as_function (member_placed v.members o)) w.1) ∙ is in cc)
  ]

  -- what is found are functions, each once: there are no more than names
  abbrev Few : List ℕ → Type 0
  Few xs = length xs ≤ count (has xs) (length v.places)

  -- one step, which finds a function or not
  record Found (xs ys : List ℕ) : Type 0 where
    pub grows : Grows xs ys
    pub few : Few xs → Few ys

  found_itself : (xs : List ℕ) → Found xs xs
  found_itself xs = record { grows = stays xs; few = λ h. h }

  found_on : (xs ys zs : List ℕ) → Found xs ys → Found ys zs → Found xs zs
  found_on xs ys zs a b = record { grows = grows_on xs ys zs a.grows b.grows; few = λ h. b.few (a.few h) }

  new_found : (xs : List ℕ) (n : ℕ) (f : CheckedFunction) → function_at v n ≡ Some f → has xs n ≡ false → Found xs (xs ++ n ∷ [])
  new_found xs n f is new = record {
    grows = more_grows xs n;
    few = λ h.
        let s = count_strictly (has xs) (has (xs ++ n ∷ [])) (has_more xs n) (length v.places) n (function_within n f is) new (has_last xs n) in
        let all : length (xs ++ n ∷ []) ≡ length xs + 1 = length-append xs (n ∷ []) in omega (arith, h, s, all);
  }

  function_found : (xs : List ℕ) (n : ℕ) (o : Option CheckedFunction) → function_at v n ≡ o → Found xs (with_function xs n o)
  function_found xs n None is = found_itself xs
  function_found xs n (Some f) is = by (has xs n) refl
    where
      by : (b : Bool) → has xs n ≡ b → Found xs (if b then xs else xs ++ n ∷ [])
      by true at = found_itself xs
      by false at = new_found xs n f is at

  calls_found : (calls xs : List ℕ) → Found xs (with_calls v xs calls)
  calls_found [] xs = found_itself xs
  calls_found (n ∷ ns) xs =
      let ys = with_function xs n (function_at v n) in
      found_on xs ys (with_calls v ys ns) (function_found xs n (function_at v n) refl) (calls_found ns ys)

  has_function : (xs : List ℕ) (n : ℕ) (f : CheckedFunction) (o : Option CheckedFunction) → o ≡ Some f → has (with_function xs n o) n ≡ true
  has_function xs n f None is = absurd cc
  has_function xs n f (Some g) is = by (has xs n) refl
    where
      by : (b : Bool) → has xs n ≡ b → has (if b then xs else xs ++ n ∷ []) n ≡ true
      by true at = at
      by false at = has_last xs n

  calls_had : (calls xs : List ℕ) (k y : ℕ) (f : CheckedFunction) → slice_get calls k ≡ Some y → function_at v y ≡ Some f →
      has (with_calls v xs calls) y ≡ true
  calls_had [] xs k y f at is = absurd cc
  calls_had (n ∷ ns) xs zero y f at is =
      let ys = with_function xs n (function_at v n) in
      let same : n ≡ y = cc in
      (calls_found ns ys).grows.keeps y
      (subst (λ m. has (with_function xs n (function_at v n)) m ≡ true) same (has_function xs n f (function_at v n) (ap (function_at v) same ∙ is)))
  calls_had (n ∷ ns) xs (suc k) y f at is = calls_had ns (with_function xs n (function_at v n)) k y f at is

  -- ---- places one after the other

  from_found : (left place : ℕ) (xs : List ℕ) → Found xs (reached_from v left place xs)
  from_found zero place xs = found_itself xs
  from_found (suc left) place xs =
      let ys = with_calls v xs (calls_at v (slice_get xs place)) in
      found_on xs ys (reached_from v left (place + 1) ys) (calls_found (calls_at v (slice_get xs place)) xs) (from_found left (place + 1) ys)

  -- behind the end nothing is found
  from_end : (left place : ℕ) (xs : List ℕ) → length xs ≤ place → reached_from v left place xs ≡ xs
  from_end zero place xs h = refl
  from_end (suc left) place xs h =
      let none : slice_get xs place ≡ None = slice_get_past xs place h in
      let same : with_calls v xs (calls_at v (slice_get xs place)) ≡ xs = ap (λ o. with_calls v xs (calls_at v o)) none in
      ap (λ ys. reached_from v left (place + 1) ys) same ∙ from_end left (place + 1) xs (omega (arith, h))

  -- of each place that is looked at, what its function calls is found
  from_calls : (left place : ℕ) (xs : List ℕ) (k x j y : ℕ) (f g : CheckedFunction) → place ≤ k → k < place + left →
      slice_get (reached_from v left place xs) k ≡ Some x → function_at v x ≡ Some f → slice_get (calls_in (Some f)) j ≡ Some y →
      function_at v y ≡ Some g → has (reached_from v left place xs) y ≡ true
  from_calls zero place xs k x j y f g low high at is calls of = absurd (omega (arith, low, high))
  from_calls (suc left) place xs k x j y f g low high at is calls of =
      let ys = with_calls v xs (calls_at v (slice_get xs place)) in
      elim (eqb_tells place k) [
        | inl w ↦ elim (slice_get_cases xs place).1 [
          | inl there ↦
              let kept : slice_get (reached_from v left (place + 1) ys) place ≡ Some there.0 =
              (from_found (suc left) place xs).grows.at place there.0 there.2 in
              let both : Some there.0 ≡ Some x = sym kept ∙ ap (λ i. slice_get (reached_from v left (place + 1) ys) i) w.1 ∙ at in
              let same : there.0 ≡ x = cc in
              let found : calls_at v (slice_get xs place) ≡ calls_in (Some f) =
              ap (λ o. calls_at v o) there.2 ∙ ap (λ n. calls_in (function_at v n)) same ∙ ap calls_in is in
              (from_found left (place + 1) ys).grows.keeps y
              (subst (λ cs. has (with_calls v xs cs) y ≡ true) (sym found) (calls_had (calls_in (Some f)) xs j y g calls of))
          | inr past ↦
              let end : reached_from v (suc left) place xs ≡ xs = from_end (suc left) place xs past.0 in
              let gone : slice_get xs k ≡ Some x = ap (λ zs. slice_get zs k) (sym end) ∙ at in
              let within = slice_get_within xs k x gone in absurd (let far = past.0 in let e = w.1 in omega (arith, within, far, e))
        ]
        | inr w ↦ from_calls left (place + 1) ys k x j y f g (let n = w.1 in omega (arith, low, n)) (omega (arith, high)) at is calls of
      ]

pub reached_are_closed : ReachedAreClosed
reached_are_closed v calls =
    let begun = with_calls v [] calls in
    let names = length v.places in
    let all = reached_from v names 0 begun in record {
      first = λ y f at is.
          let p = contains_place calls y at in
          (from_found v names 0 begun).grows.keeps y (calls_had v calls [] p.0 y f p.1 is);
      others = λ x f had is y g at of.
          let p = placed all x had in
          let q = contains_place (calls_in (Some f)) y at in
          let few : length all ≤ count (has all) names =
          (from_found v names 0 begun).few ((calls_found v calls []).few (omega arith)) in
          let most = count_at_most (has all) names in
          let within = slice_get_within all p.0 x p.1 in
          from_calls v names 0 begun p.0 x q.0 y f g (omega arith) (omega (arith, few, most, within)) p.1 is q.1 of;
    }

-- ---- no more than that

has_split : (xs : List ℕ) (n k : ℕ) → has (xs ++ n ∷ []) k ≡ true → (has xs k ≡ true) ⊎ (n ≡ k)
has_split [] n k h = elim (or_cases (k == n) false h) [ inl e ↦ inr (sym (eqb-true k n e)) | inr r ↦ absurd cc ]
has_split (x ∷ xs) n k h = elim (or_cases (k == x) (has (xs ++ n ∷ []) k) h) [
  | inl e ↦ inl (or_left (k == x) (has xs k) e)
  | inr r ↦ elim (has_split xs n k r) [ inl old ↦ inl (or_right (k == x) (has xs k) old) | inr new ↦ inr new ]
]

has_at : (xs : List ℕ) (k n : ℕ) → slice_get xs k ≡ Some n → has xs n ≡ true
has_at [] k n h = absurd cc
has_at (x ∷ xs) zero n h = let same : n ≡ x = cc in or_left (n == x) (has xs n) (eq-eqb n x same)
has_at (x ∷ xs) (suc k) n h = or_right (n == x) (has xs n) (has_at xs k n h)

-- what holds of each function that is called holds of all that is found
module _ (v : Viewed) (P : ℕ → Type 0) where
  abbrev AllAre : List ℕ → Type 0
  AllAre xs = (y : ℕ) → has xs y ≡ true → P y

  -- of the functions among calls
  abbrev Called : List ℕ → Type 0
  Called calls = (k y : ℕ) (f : CheckedFunction) → slice_get calls k ≡ Some y → function_at v y ≡ Some f → P y

  function_is : (xs : List ℕ) (n : ℕ) (o : Option CheckedFunction) → ((f : CheckedFunction) → o ≡ Some f → P n) → AllAre xs →
      AllAre (with_function xs n o)
  function_is xs n None each h = h
  function_is xs n (Some f) each h = by (has xs n)
    where
      by : (b : Bool) → AllAre (if b then xs else xs ++ n ∷ [])
      by true = h
      by false = λ y is. elim (has_split xs n y is) [ inl old ↦ h y old | inr new ↦ subst P new (each f refl) ]

  calls_are : (calls xs : List ℕ) → Called calls → AllAre xs → AllAre (with_calls v xs calls)
  calls_are [] xs each h = h
  calls_are (n ∷ ns) xs each h =
      calls_are ns (with_function xs n (function_at v n)) (λ k y f at is. each (suc k) y f at is)
      (function_is xs n (function_at v n) (λ f is. each 0 n f refl is) h)

  module _ (closed : (x : ℕ) (f : CheckedFunction) → P x → function_at v x ≡ Some f → Called (calls_in (Some f))) where
    found_calls : (x : ℕ) (o : Option CheckedFunction) → P x → function_at v x ≡ o → Called (calls_in o)
    found_calls x None p is = λ k y f at of. absurd cc
    found_calls x (Some f) p is = closed x f p is

    place_calls : (xs : List ℕ) (place : ℕ) (o : Option ℕ) → slice_get xs place ≡ o → AllAre xs → Called (calls_at v o)
    place_calls xs place None is h = λ k y f at of. absurd cc
    place_calls xs place (Some x) is h = found_calls x (function_at v x) (h x (has_at xs place x is)) refl

    from_are : (left place : ℕ) (xs : List ℕ) → AllAre xs → AllAre (reached_from v left place xs)
    from_are zero place xs h = h
    from_are (suc left) place xs h =
        from_are left (place + 1) _ (calls_are (calls_at v (slice_get xs place)) xs (place_calls xs place (slice_get xs place) refl h) h)

    reached_are : (calls : List ℕ) → Called calls → AllAre (reached_by v calls)
    reached_are calls each = from_are (length v.places) 0 (with_calls v [] calls) (calls_are calls [] each (λ y is. absurd cc))

pub reached_are_least : ReachedAreLeast
reached_are_least v calls = record {
  functions = reached_are v (λ y. (f : CheckedFunction) × (function_at v y ≡ Some f)) (λ x f p is k y g at of. (g, of)) calls
      (λ k y f at is. (f, is));
  least = λ names first closed. reached_are v (λ y. has names y ≡ true)
      (λ x f p is k y g at of. closed x f p is y g (contains_at (calls_in (Some f)) k y at) of) calls
      (λ k y f at is. first y f (contains_at calls k y at) is);
}
