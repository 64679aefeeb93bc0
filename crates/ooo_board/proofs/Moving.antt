-- Variables that are moved out to a job and back.
use Rattle.std.proofs.Common.{◌≡◌, ◌≢◌, ℕ, suc, ◌<◌, ◌≤◌, ◌+◌, ◌==◌, List, [], ◌∷◌, ◌++◌, Bool, true, false, ◌||◌, if◌then◌else◌, Some, None, length, take, drop, get_or, refl, sym, ap, subst, ◌∙◌, arith, append_assoc, append-nil, add-one, drop-cons}
use Rattle.std.specs.Prelude.{not, All, slice_index_or, slice_set, unwrap_or}
use Rattle.std.proofs.lemmas.Bool.Decides.{nat_tests, Decides-eqb}
use Rattle.std.proofs.lemmas.List.{length-set, length-append, get_or_append_left, get_or_default, get_or-set_same, get_or-set_other, take_more_set, drop-set-lt, take_all, drop_all}
use Rattle.std.proofs.lemmas.List.Elements.{All-cons, All-nil, All-set}
use Rattle.std.proofs.lemmas.List.Kept.{AllPairs-cons, AllPairs-filter}
use Rattle.ooo_value.specs.declared.values.Value.{Value}
use Rattle.ooo_access.specs.Access.{AreAscending}
use Rattle.ooo_access.specs.declared.access.Access.{Access}
use Rattle.ooo_interp.specs.Carrying.{Carried, IsAscending, listed, numbers_of, put_in}
use Rattle.ooo_dispatch.specs.Rules.{has}
use Rattle.ooo_board.specs.Links.{only_read}
use Rattle.ooo_board.specs.Carrying.{bare, carried_from, taken_from}

-- ---- out

-- the first of what is carried are moved out, and the others follow
pub record IsMoving (variables : List (List Value)) (carried : List Carried) (i : ℕ) (now : List (List Value)) (owned : List Carried) : Type 0 where
  pub count : length owned ≡ length carried
  pub there : All (λ c. c.0 < length now) owned
  pub same : taken_from variables carried ≡ (let rest = taken_from now (drop i owned) in (rest.0, take i owned ++ rest.1))

pub moving_begins : (variables : List (List Value)) (carried : List Carried) → All (λ c. c.0 < length variables) carried → IsMoving variables carried 0 variables carried
moving_begins variables carried there = record { count = refl; there = there; same = refl }

pub moving_ends : (variables : List (List Value)) (carried : List Carried) (i : ℕ) (now : List (List Value)) (owned : List Carried) → length carried ≤ i → IsMoving variables carried i now owned → taken_from variables carried ≡ (now, owned)
moving_ends variables carried i now owned past h =
    let n = h.count in
    let long : length owned ≤ i = omega arith in
    h.same ∙ ap (λ ds. let rest = taken_from now ds in (rest.0, take i owned ++ rest.1)) (drop_all i owned long) ∙ ap (λ xs. (now, xs)) (append-nil (take i owned) ∙ take_all i owned long)

module _ (variables : List (List Value)) (carried : List Carried) (i : ℕ) (now : List (List Value)) (owned : List Carried) (c : Carried) (lt : i < length owned) (is : c ≡ get_or owned i c) (h : IsMoving variables carried i now owned) where
  abbrev after : List (List Value)
  after = slice_set now c.0 c.1

  abbrev out : Carried
  out = (c.0, slice_index_or now c.0 [])

  abbrev ready : List Carried
  ready = slice_set owned i out

  pub number_there : c.0 < length now
  number_there = subst (λ x. x.0 < length now) (sym is) (h.there i c lt)

  abbrev whole : List (List Value) → (done rest : List Carried) → List (List Value) × List Carried
  whole v done rest = let all = taken_from v rest in (all.0, done ++ all.1)

  moved : IsMoving variables carried (i + 1) after ready
  moved = record {
    count = length-set owned i out ∙ h.count;
    there = subst (λ n. All (λ x. x.0 < n) ready) (sym (length-set now c.0 c.1)) (All-set (λ x. x.0 < length now) owned i out number_there h.there);
    same =
        let cut : drop i owned ≡ c ∷ drop (suc i) owned = drop-cons owned i c lt ∙ ap (λ x. x ∷ drop (suc i) owned) (sym is) in
        let later : drop (i + 1) ready ≡ drop (suc i) owned = rw add-one (drop-set-lt (suc i) owned i out (omega arith)) in
        let rest = taken_from after (drop (suc i) owned) in
        h.same
        ∙ ap (whole now (take i owned)) cut
        ∙ ap (λ xs. (rest.0, xs)) (sym (append_assoc (take i owned) (out ∷ []) rest.1))
        ∙ ap (λ xs. (rest.0, xs ++ rest.1)) (sym (take_more_set owned i out lt))
        ∙ ap (whole after (take (i + 1) ready)) (sym later);
  }

  -- one more is moved out
  pub moving_on : (held cells : List Value) → held ≡ get_or now c.0 held → cells ≡ c.1 → IsMoving variables carried (i + 1) (slice_set now c.0 cells) (slice_set owned i (c.0, held))
  moving_on held cells held_is cells_is =
      let kept : held ≡ slice_index_or now c.0 [] = held_is ∙ get_or_default now c.0 held [] number_there in
      let first : slice_set now c.0 c.1 ≡ slice_set now c.0 cells = ap (slice_set now c.0) (sym cells_is) in
      let second : ready ≡ slice_set owned i (c.0, held) = ap (λ x. slice_set owned i (c.0, x)) (sym kept) in
      subst (λ v. IsMoving variables carried (i + 1) v (slice_set owned i (c.0, held))) first
      (subst (IsMoving variables carried (i + 1) after) second moved)

-- ---- what is taken

-- there stay as many variables
pub length_taken : (variables : List (List Value)) (carried : List Carried) → length (taken_from variables carried).0 ≡ length variables
length_taken variables [] = refl
length_taken variables (c ∷ others) = length_taken (slice_set variables c.0 c.1) others ∙ length-set variables c.0 c.1

-- a variable that isn't the first of these numbers is not among them, where it isn't among the others
has_first : (n : ℕ) (ns : List ℕ) (x : ℕ) → has (n ∷ ns) x ≡ false → x ≢ n
has_first n ns x none = at (n == x) refl none
  where
    at : (b : Bool) → (n == x) ≡ b → (b || has ns x) ≡ false → x ≢ n
    at true e h same = absurd cc
    at false e h same = let no : n ≢ x = grind (arith, nat_tests) in omega arith

has_rest : (n : ℕ) (ns : List ℕ) (x : ℕ) → has (n ∷ ns) x ≡ false → has ns x ≡ false
has_rest n ns x none = at (n == x) none
  where
    at : (b : Bool) → (b || has ns x) ≡ false → has ns x ≡ false
    at true h = absurd cc
    at false h = h

-- a variable that isn't among the numbers stays
pub taken_stays : (variables : List (List Value)) (numbers : List ℕ) (x : ℕ) → has numbers x ≡ false → slice_index_or (taken_from variables (bare numbers)).0 x [] ≡ slice_index_or variables x []
taken_stays variables [] x none = refl
taken_stays variables (n ∷ ns) x none = taken_stays (slice_set variables n []) ns x (has_rest n ns x none) ∙ get_or-set_other variables n x [] [] (has_first n ns x none)

carried_stays : (variables : List (List Value)) (numbers : List ℕ) (x : ℕ) (cells : List Value) → has numbers x ≡ false → carried_from (slice_set variables x cells) numbers ≡ carried_from variables numbers
carried_stays variables [] x cells none = refl
carried_stays variables (n ∷ ns) x cells none =
    let differs : n ≢ x = (λ e. has_first n ns x none (sym e)) in
    let rest = carried_stays variables ns x cells (has_rest n ns x none) in
    λ i. (n, get_or-set_other variables x n cells [] differs i) ∷ rest i

-- the first of ascending numbers isn't among the others
first_apart : (n : ℕ) (ns : List ℕ) → AreAscending (n ∷ ns) → has ns n ≡ false
first_apart n ns ascending = none ns (λ k lt. ascending 0 (suc k) 0 (omega arith) (omega arith))
  where
    none : (ms : List ℕ) → ((k : ℕ) → k < length ms → n < get_or ms k 0) → has ms n ≡ false
    none [] above = refl
    none (m ∷ ms) above =
        let first : n < m = above 0 (omega arith) in
        let differs : (m == n) ≡ false = grind (arith, nat_tests) in
        rw differs (none ms (λ k lt. above (suc k) (omega arith)))

pub rest_ascends : (n : ℕ) (ns : List ℕ) → AreAscending (n ∷ ns) → AreAscending ns
rest_ascends n ns ascending i j d lt within = ascending (suc i) (suc j) d (omega arith) (omega arith)

-- the cells of ascending variables are taken as they stand
pub taken_bare : (variables : List (List Value)) (numbers : List ℕ) → AreAscending numbers → (taken_from variables (bare numbers)).1 ≡ carried_from variables numbers
taken_bare variables [] ascending = refl
taken_bare variables (n ∷ ns) ascending =
    ap (λ xs. (n, slice_index_or variables n []) ∷ xs)
    (taken_bare (slice_set variables n []) ns (rest_ascends n ns ascending) ∙ carried_stays variables ns n [] (first_apart n ns ascending))

-- ---- back

-- some variables are put back, and the others follow
pub record IsPutting (variables : List (List Value)) (carried : List Carried) (now : List (List Value)) (owned : List Carried) : Type 0 where
  pub there : All (λ c. c.0 < length now) owned
  pub same : put_in carried variables ≡ put_in owned now

put_last : (xs : List Carried) (c : Carried) (base : List (List Value)) → put_in (xs ++ c ∷ []) base ≡ put_in xs (slice_set base c.0 c.1)
put_last [] c base = refl
put_last (x ∷ xs) c base = ap (λ v. slice_set v x.0 x.1) (put_last xs c base)

-- one more is put back
pub putting_on : (variables : List (List Value)) (carried : List Carried) (now : List (List Value)) (owned left : List Carried) (x : ℕ) (cells : List Value) → owned ≡ left ++ (x, cells) ∷ [] → IsPutting variables carried now owned → IsPutting variables carried (slice_set now x cells) left
putting_on variables carried now owned left x cells is h = record {
  there = λ k d lt.
      let n : length owned ≡ length left + 1 = ap length is ∙ length-append left ((x, cells) ∷ []) in
      let there : (get_or owned k d).0 < length now = h.there k d (omega arith) in
      let same : get_or owned k d ≡ get_or left k d = ap (λ xs. get_or xs k d) is ∙ get_or_append_left left ((x, cells) ∷ []) d k lt in
      subst (λ l. (get_or left k d).0 < l) (sym (length-set now x cells)) (subst (λ y. y.0 < length now) same there);
  same = h.same ∙ ap (λ xs. put_in xs now) is ∙ put_last left (x, cells) now;
}

pub length_placed : (xs : List Carried) (base : List (List Value)) → length (put_in xs base) ≡ length base
length_placed [] base = refl
length_placed (y ∷ ys) base = length-set (put_in ys base) y.0 y.1 ∙ length_placed ys base

-- what is carried of a variable is what stands in its place
pub placed : (xs : List Carried) (base : List (List Value)) (x : ℕ) → x < length base → slice_index_or (put_in xs base) x [] ≡ unwrap_or (listed xs x) (slice_index_or base x [])
placed [] base x lt = refl
placed (y ∷ ys) base x lt = by (x == y.0) refl (placed ys base x lt)
  where
    by : (b : Bool) → (x == y.0) ≡ b → slice_index_or (put_in ys base) x [] ≡ unwrap_or (listed ys x) (slice_index_or base x []) → slice_index_or (slice_set (put_in ys base) y.0 y.1) x [] ≡ unwrap_or (if b then Some y.1 else listed ys x) (slice_index_or base x [])
    by true e go =
        let same : x ≡ y.0 = (Decides-eqb x y.0).0 e in
        let long : length (put_in ys base) ≡ length base = length_placed ys base in
        let below : y.0 < length (put_in ys base) = omega arith in
        rw same (get_or-set_same (put_in ys base) y.0 y.1 [] below)
    by false e go =
        let differs : x ≢ y.0 = grind (arith, nat_tests) in
        get_or-set_other (put_in ys base) y.0 x y.1 [] differs ∙ go

-- what is carried of variables by their numbers
pub listed_from : (variables : List (List Value)) (numbers : List ℕ) (x : ℕ) → listed (carried_from variables numbers) x ≡ (if has numbers x then Some (slice_index_or variables x []) else None)
listed_from variables [] x = refl
listed_from variables (n ∷ ns) x = at (x == n) refl (n == x) refl (listed_from variables ns x)
  where
    at : (b : Bool) → (x == n) ≡ b → (d : Bool) → (n == x) ≡ d → listed (carried_from variables ns) x ≡ (if has ns x then Some (slice_index_or variables x []) else None) → (if b then Some (slice_index_or variables n []) else listed (carried_from variables ns) x) ≡ (if d || has ns x then Some (slice_index_or variables x []) else None)
    at true e true f rest = let same : x ≡ n = (Decides-eqb x n).0 e in ap (λ y. Some (slice_index_or variables y [])) (sym same)
    at true e false f rest = absurd (grind (arith, nat_tests))
    at false e true f rest = absurd (grind (arith, nat_tests))
    at false e false f rest = rest

-- ---- numbers of what is carried

pub numbers_carried : (variables : List (List Value)) (numbers : List ℕ) → numbers_of (carried_from variables numbers) ≡ numbers
numbers_carried variables [] = refl
numbers_carried variables (n ∷ ns) = ap (λ xs. n ∷ xs) (numbers_carried variables ns)

pub numbers_bare : (numbers : List ℕ) → numbers_of (bare numbers) ≡ numbers
numbers_bare [] = refl
numbers_bare (n ∷ ns) = ap (λ xs. n ∷ xs) (numbers_bare ns)

-- what is carried of ascending variables ascends
pub carried_ascends : (variables : List (List Value)) (numbers : List ℕ) → AreAscending numbers → IsAscending (carried_from variables numbers)
carried_ascends variables [] ascending = λ i j d lt within. absurd (omega arith)
carried_ascends variables (n ∷ ns) ascending = AllPairs-cons (λ (a b : Carried). a.0 < b.0) (n, slice_index_or variables n []) (carried_from variables ns) (above ns (λ k lt. ascending 0 (suc k) 0 (omega arith) (omega arith))) (carried_ascends variables ns (rest_ascends n ns ascending))
  where
    above : (ms : List ℕ) → ((k : ℕ) → k < length ms → n < get_or ms k 0) → All (λ (b : Carried). n < b.0) (carried_from variables ms)
    above [] h = All-nil (λ (b : Carried). n < b.0)
    above (m ∷ ms) h = All-cons (λ (b : Carried). n < b.0) (m, slice_index_or variables m []) (carried_from variables ms) (h 0 (omega arith)) (above ms (λ k lt. h (suc k) (omega arith)))

-- the variables that are only read ascend
pub only_read_ascends : (a : Access) → AreAscending a.read → AreAscending (only_read a)
only_read_ascends a ascending = AllPairs-filter (λ m n. m < n) (λ x. not (has a.written x)) a.read ascending
