-- What is kept of a log in the order of the commits, and its activations in order of place.
use Rattle.std.proofs.Common.{◌≡◌, ℕ, ◌+◌, ◌⊎◌, inl, inr, ⊎_elim, Bool, true, false, if◌then◌else◌, List, [], ◌∷◌, ◌++◌, length, append-nil, refl, sym, ap, ◌∙◌, subst, arith}
use Rattle.std.specs.Prelude.{⊤, filter}
use Rattle.std.specs.List.{sum_by}
use Rattle.std.proofs.lemmas.Grind.{flat_map-append}
use Rattle.std.proofs.lemmas.List.{length-append}
use Rattle.std.proofs.lemmas.List.Elements.{filter-append}
use Rattle.std.proofs.lemmas.List.Sums.{sum_by-append}
use Rattle.ooo_time.specs.declared.stamp.Place.{Place}
use Rattle.ooo_time.specs.Stamps.{ComesBefore, IsBefore}
use Rattle.ooo_history.specs.declared.run.Piece.{Piece}
use Rattle.ooo_history.specs.Reporting.{output_text}
use Rattle.ooo_meaning.specs.World.{place_of}
use Rattle.ooo_schedules.specs.Design as order
use Rattle.ooo_schedules.specs.Design.{only, sort}
use Rattle.ooo_schedules.specs.Model.{In}
use Rattle.ooo_schedules.specs.Tables.{EveryScheduleOf}
use Rattle.ooo_dispatch.specs.ReadOff.{piece_in, pieces_in, places_in}
use Rattle.ooo_dispatch.specs.Reports.{piece_of, pieces_after}
use Rattle.ooo_dispatch.specs.Rules.{Rules, outcome_of, tables}
use Rattle.ooo_dispatch.proofs.Commits.{Activation, P, Stands, WithEarlier, each_with, in_insert, in_sorted, only_in}
use Rattle.ooo_dispatch.proofs.Reported.{apart, is_precedes, places_compare, places_join, precedes_is}
use Rattle.ooo_dispatch.proofs.Sorting.{Ascends}
use Rattle.ooo_dispatch.proofs.Stamps.{irreflexive}

abbrev place : Activation → Place
place y = place_of y.stamp y.process

-- ---- no two at one place

abbrev pub ApartPlaces : Activation → Activation → Type 0
ApartPlaces x y = place x ≡ place y → ⊥

pub log_apart : (r : Rules) (every : EveryScheduleOf (tables r)) (log : List Activation) → WithEarlier (Stands r every) log → WithEarlier ApartPlaces log
log_apart r every log h =
    each_with (Stands r every) ApartPlaces log
    (λ x y i j s e. irreflexive x.stamp (subst (λ t. IsBefore t x.stamp) (sym (ap (λ a. a.stamp) e)) (s.own (sym (ap (λ a. a.process) e))))) h

pub at_one_place : (log : List Activation) → WithEarlier ApartPlaces log → (x y : Activation) → In x log → In y log → place x ≡ place y → x ≡ y
at_one_place [] h x y i j e = absurd i
at_one_place (z ∷ log) h x y (inl k) (inl l) e = k ∙ sym l
at_one_place (z ∷ log) h x y (inl k) (inr j) e = absurd (h.0 y j (ap place (sym k) ∙ e))
at_one_place (z ∷ log) h x y (inr i) (inl l) e = absurd (h.0 x i (ap place (sym l) ∙ sym e))
at_one_place (z ∷ log) h x y (inr i) (inr j) e = at_one_place log h.1 x y i j e

-- ---- in order of place, the last first

abbrev pub Descends : List Activation → Type 0
Descends [] = ⊤
Descends (y ∷ ys) = ((z : Activation) → In z ys → ComesBefore (place z) (place y)) × Descends ys

pub only_descends : (test : Activation → Bool) (xs : List Activation) → Descends xs → Descends (only test xs)
only_descends test [] h = tt
only_descends test (x ∷ xs) h = at (test x) (only_descends test xs h.1)
  where
    at : (b : Bool) → Descends (only test xs) → Descends (if b then x ∷ only test xs else only test xs)
    at true rec = (λ z i. h.0 z (only_in test xs z i).0, rec)
    at false rec = rec

pub in_only : (test : Activation → Bool) (xs : List Activation) (x : Activation) → In x xs → test x ≡ true → In x (only test xs)
in_only test [] x i e = absurd i
in_only test (y ∷ xs) x i e = at (test y) refl i (λ j. in_only test xs x j e)
  where
    at : (b : Bool) → test y ≡ b → (x ≡ y) ⊎ In x xs → (In x xs → In x (only test xs)) → In x (if b then y ∷ only test xs else only test xs)
    at true k (inl s) rec = inl s
    at true k (inr j) rec = inr (rec j)
    at false k (inl s) rec = absurd (apart (ap test (sym s) ∙ e) k)
    at false k (inr j) rec = rec j

-- a test that gives the same
pub only_same : (f g : Activation → Bool) → ((y : Activation) → f y ≡ g y) → (xs : List Activation) → only f xs ≡ only g xs
only_same f g same [] = refl
only_same f g same (x ∷ xs) = ap (λ b. if b then x ∷ only f xs else only f xs) (same x) ∙ ap (λ zs. if g x then x ∷ zs else zs) (only_same f g same xs)

module _ (r : Rules) where
  insert_descends : (x : Activation) (ys : List Activation) → Descends ys → ((z : Activation) → In z ys → ApartPlaces x z) → Descends (order.insert (P r) x ys)
  insert_descends x [] h n = (λ z i. absurd i, tt)
  insert_descends x (y ∷ ys) h n = at (order.is_earlier (P r) y x) refl (insert_descends x ys h.1 (λ z i. n z (inr i)))
    where
      at : (b : Bool) → order.is_earlier (P r) y x ≡ b → Descends (order.insert (P r) x ys) → Descends (if b then x ∷ y ∷ ys else y ∷ order.insert (P r) x ys)
      at true e rec =
          let lt : ComesBefore (place y) (place x) = precedes_is (place y) (place x) e in
          (λ z i. ⊎_elim (λ k. subst (λ a. ComesBefore (place a) (place x)) (sym k) lt) (λ k. places_join (place z) (place y) (place x) (h.0 z k) lt) i, h)
      at false e rec =
          let lt : ComesBefore (place x) (place y) =
          ⊎_elim (λ k. k) (λ k. ⊎_elim (λ s. absurd (n y (inl refl) s)) (λ g. absurd (apart (is_precedes (place y) (place x) g) e)) k) (places_compare (place x) (place y)) in
          (λ z i. ⊎_elim (λ k. subst (λ a. ComesBefore (place a) (place y)) (sym k) lt) (λ k. h.0 z k) (in_insert r x ys z i), rec)

  pub sort_descends : (xs : List Activation) → WithEarlier ApartPlaces xs → Descends (sort (P r) xs)
  sort_descends [] h = tt
  sort_descends (x ∷ xs) h = insert_descends x (sort (P r) xs) (sort_descends xs h.1) (λ z i. h.0 z (in_sorted r xs z i))

  -- ---- pieces

  in_either : {A : Type 0} (xs ys : List A) (x : A) → In x (xs ++ ys) → In x xs ⊎ In x ys
  in_either [] ys x i = inr i
  in_either (y ∷ xs) ys x (inl e) = inl (inl e)
  in_either (y ∷ xs) ys x (inr i) = ⊎_elim (λ j. inl (inr j)) (λ j. inr j) (in_either xs ys x i)

  -- the piece of an activation with this output
  abbrev piece_by : Activation → List ℕ → List Piece
  piece_by y o = elim o [ [] ↦ [] | c ∷ cs ↦ piece_of r y ∷ [] ]

  piece_is : (y : Activation) (o : List ℕ) (q : Piece) → In q (piece_by y o) → q ≡ piece_of r y
  piece_is y [] q i = absurd i
  piece_is y (c ∷ cs) q (inl e) = e
  piece_is y (c ∷ cs) q (inr i) = absurd i

  -- it is that of an activation
  abbrev pub IsOf : List Activation → Piece → Type 0
  IsOf ys q = (y : Activation) × In y ys × (q ≡ piece_of r y)

  pub in_pieces : (ys : List Activation) (q : Piece) → In q (pieces_in r ys) → IsOf ys q
  in_pieces [] q i = absurd i
  in_pieces (y ∷ ys) q i =
      ⊎_elim (λ j. let k = in_pieces ys q j in (k.0, inr k.1, k.2)) (λ j. (y, inl refl, piece_is y (outcome_of r y).deed.output q j))
      (in_either (pieces_in r ys) (piece_in r y) q i)

  ascend_more : (qs : List Piece) (q : Piece) → Ascends qs → ((z : Piece) → In z qs → ComesBefore z.place q.place) → Ascends (qs ++ q ∷ [])
  ascend_more [] q h before = (λ z i. absurd i, tt)
  ascend_more (x ∷ qs) q h before = (
    λ z i. ⊎_elim (λ j. h.0 z j) (λ j. ⊎_elim (λ e. subst (λ u. ComesBefore x.place u.place) (sym e) (before x (inl refl))) (λ k. absurd k) j) (in_either qs (q ∷ []) z i),
    ascend_more qs q h.1 (λ z i. before z (inr i)),
  )

  pub pieces_ascend : (ys : List Activation) → Descends ys → Ascends (pieces_in r ys)
  pieces_ascend [] h = tt
  pieces_ascend (y ∷ ys) h = at (outcome_of r y).deed.output (pieces_ascend ys h.1)
    where
      at : (o : List ℕ) → Ascends (pieces_in r ys) → Ascends (pieces_in r ys ++ piece_by y o)
      at [] rec = subst Ascends (sym (append-nil (pieces_in r ys))) rec
      at (c ∷ cs) rec =
          ascend_more (pieces_in r ys) (piece_of r y) rec
          (λ z i. let k = in_pieces ys z i in subst (λ q. ComesBefore q.place (place y)) (sym k.2) (h.0 k.0 k.1))

  -- what was printed is what the pieces have
  pub output_kept : (ys : List Activation) → output_text (pieces_in r ys) ≡ output_text (pieces_after r ys)
  output_kept [] = refl
  output_kept (y ∷ ys) =
      flat_map-append (λ q. q.bytes) (pieces_in r ys) (piece_in r y)
      ∙ ap (λ bs. bs ++ output_text (piece_in r y)) (output_kept ys)
      ∙ ap (λ bs. output_text (pieces_after r ys) ++ bs) (one (outcome_of r y).deed.output refl)
      ∙ sym (flat_map-append (λ q. q.bytes) (pieces_after r ys) (piece_of r y ∷ []))
    where
      one : (o : List ℕ) → (outcome_of r y).deed.output ≡ o → output_text (piece_by y o) ≡ output_text (piece_of r y ∷ [])
      one [] e = sym (append-nil (outcome_of r y).deed.output ∙ e)
      one (c ∷ cs) e = refl

  -- ---- sums over those that pass a test

  module _ (test : Place → Bool) (weigh : Activation → ℕ) where
    abbrev part : Activation → ℕ
    part y = if test (place y) then weigh y else 0

    abbrev pub total : List Activation → ℕ
    total [] = 0
    total (y ∷ ys) = part y + total ys

    total_insert : (x : Activation) (ys : List Activation) → total (order.insert (P r) x ys) ≡ total (x ∷ ys)
    total_insert x [] = refl
    total_insert x (y ∷ ys) = at (order.is_earlier (P r) y x) (total_insert x ys)
      where
        at : (b : Bool) → total (order.insert (P r) x ys) ≡ part x + total ys → total (if b then x ∷ y ∷ ys else y ∷ order.insert (P r) x ys) ≡ part x + (part y + total ys)
        at true rec = refl
        at false rec = omega (arith, rec)

    pub total_sorted : (xs : List Activation) → total (sort (P r) xs) ≡ total xs
    total_sorted [] = refl
    total_sorted (x ∷ xs) = let k = total_sorted xs in let i = total_insert x (sort (P r) xs) in omega (arith, k, i)

  module _ (test : Place → Bool) where
    abbrev pub passes : Activation → Bool
    passes y = test (place y)

    -- how many pass
    count_only : (ys : List Activation) → length (only passes ys) ≡ total test (λ y. 1) ys
    count_only [] = refl
    count_only (y ∷ ys) = at (test (place y)) (count_only ys)
      where
        at : (b : Bool) → length (only passes ys) ≡ total test (λ y. 1) ys → length (if b then y ∷ only passes ys else only passes ys) ≡ (if b then 1 else 0) + total test (λ y. 1) ys
        at true rec = omega (arith, rec)
        at false rec = omega (arith, rec)

    count_places : (ys : List Activation) → length (filter test (places_in ys)) ≡ total test (λ y. 1) ys
    count_places [] = refl
    count_places (y ∷ ys) =
        ap length (filter-append test (places_in ys) (place y ∷ [])) ∙ length-append (filter test (places_in ys)) (filter test (place y ∷ [])) ∙ at (test (place y)) (count_places ys)
      where
        at : (b : Bool) → length (filter test (places_in ys)) ≡ total test (λ y. 1) ys → length (filter test (places_in ys)) + length (if b then place y ∷ [] else []) ≡ (if b then 1 else 0) + total test (λ y. 1) ys
        at true rec = omega (arith, rec)
        at false rec = omega (arith, rec)

    pub counted : (log : List Activation) → length (only passes (sort (P r) log)) ≡ length (filter test (places_in log))
    counted log = count_only (sort (P r) log) ∙ total_sorted test (λ y. 1) log ∙ sym (count_places log)

    -- any weight of the pieces
    module _ (f : Piece → ℕ) where
      abbrev weigh : Activation → ℕ
      weigh y = sum_by f (piece_in r y)

      sum_only : (ys : List Activation) → sum_by f (pieces_in r (only passes ys)) ≡ total test weigh ys
      sum_only [] = refl
      sum_only (y ∷ ys) = at (test (place y)) (sum_only ys)
        where
          at : (b : Bool) → sum_by f (pieces_in r (only passes ys)) ≡ total test weigh ys →
              sum_by f (pieces_in r (if b then y ∷ only passes ys else only passes ys)) ≡ (if b then weigh y else 0) + total test weigh ys
          at true rec = let a = sum_by-append f (pieces_in r (only passes ys)) (piece_in r y) in omega (arith, rec, a)
          at false rec = omega (arith, rec)

      sum_shown : (ys : List Activation) → sum_by f (filter (λ q. test q.place) (pieces_in r ys)) ≡ total test weigh ys
      sum_shown [] = refl
      sum_shown (y ∷ ys) =
          ap (sum_by f) (filter-append (λ q. test q.place) (pieces_in r ys) (piece_in r y))
          ∙ sum_by-append f (filter (λ q. test q.place) (pieces_in r ys)) (filter (λ q. test q.place) (piece_in r y))
          ∙ at (outcome_of r y).deed.output (sum_shown ys)
        where
          one : (b : Bool) → sum_by f (if b then piece_of r y ∷ [] else []) ≡ (if b then sum_by f (piece_of r y ∷ []) else 0)
          one true = refl
          one false = refl

          none : (n : ℕ) (b : Bool) → n ≡ (if b then n else n)
          none n true = refl
          none n false = refl

          at : (o : List ℕ) → sum_by f (filter (λ q. test q.place) (pieces_in r ys)) ≡ total test weigh ys →
              sum_by f (filter (λ q. test q.place) (pieces_in r ys)) + sum_by f (filter (λ q. test q.place) (piece_by y o)) ≡ (if test (place y) then sum_by f (piece_by y o) else 0) + total test weigh ys
          at [] rec = let n = none 0 (test (place y)) in omega (arith, rec, n)
          at (c ∷ cs) rec = let n = one (test (place y)) in omega (arith, rec, n)

      pub summed : (log : List Activation) → sum_by f (pieces_in r (only passes (sort (P r) log))) ≡ sum_by f (filter (λ q. test q.place) (pieces_in r log))
      summed log = sum_only (sort (P r) log) ∙ total_sorted test weigh log ∙ sym (sum_shown log)
