-- All variables with those that are carried in their places.
use Rattle.std.proofs.Common.{◌≡◌, ◌≢◌, ℕ, ◌<◌, ◌≤◌, ◌==◌, List, [], ◌∷◌, length, Bool, true, false, if◌then◌else◌, Option, Some, None, get_or, refl, sym, ap, ◌∙◌, arith}
use Rattle.std.specs.Prelude.{is_some, replicate, slice_set, unwrap_or}
use Rattle.std.proofs.lemmas.Bool.Decides.{nat_tests, Decides-eqb}
use Rattle.std.proofs.lemmas.List.{length-set, set-set, set_comm, set-get_or, set_past, get_or-set_same, get_or-set_other, get_or-replicate, get_or_past}
use Rattle.std.proofs.Math.ListN.{length-replicate}
use Rattle.ooo_value.specs.declared.values.Value.{Value}
use Rattle.ooo_interp.specs.Carrying.{Carried, all_cells, listed, numbers_of, put_in, with_listed}

-- the elements of variable number x
abbrev pub at_number : List (List Value) → ℕ → List Value
at_number variables x = get_or variables x []

pub length_placed : (xs : List Carried) (base : List (List Value)) → length (put_in xs base) ≡ length base
length_placed [] base = refl
length_placed (y ∷ ys) base = length-set (put_in ys base) y.0 y.1 ∙ length_placed ys base

-- what is carried of a variable is what stands in its place
pub placed : (xs : List Carried) (base : List (List Value)) (x : ℕ) → x < length base → at_number (put_in xs base) x ≡ unwrap_or (listed xs x) (at_number base x)
placed [] base x lt = refl
placed (y ∷ ys) base x lt = by (x == y.0) refl (placed ys base x lt)
  where
    by : (b : Bool) → (x == y.0) ≡ b → at_number (put_in ys base) x ≡ unwrap_or (listed ys x) (at_number base x) → at_number (slice_set (put_in ys base) y.0 y.1) x ≡ unwrap_or (if b then Some y.1 else listed ys x) (at_number base x)
    by true e go =
        let same : x ≡ y.0 = (Decides-eqb x y.0).0 e in
        let long : length (put_in ys base) ≡ length base = length_placed ys base in
        let below : y.0 < length (put_in ys base) = omega arith in
        rw same (get_or-set_same (put_in ys base) y.0 y.1 [] below)
    by false e go =
        let differs : x ≢ y.0 = grind (arith, nat_tests) in
        get_or-set_other (put_in ys base) y.0 x y.1 [] differs ∙ go

-- what isn't carried stands in its place as before
pub passed_over : (xs : List Carried) (base : List (List Value)) (x : ℕ) (cells : List Value) → listed xs x ≡ None → put_in xs (slice_set base x cells) ≡ slice_set (put_in xs base) x cells
passed_over [] base x cells h = refl
passed_over (y ∷ ys) base x cells h = by (x == y.0) refl (passed_over ys base x cells) h
  where
    by : (b : Bool) → (x == y.0) ≡ b → (listed ys x ≡ None → put_in ys (slice_set base x cells) ≡ slice_set (put_in ys base) x cells) → (if b then Some y.1 else listed ys x) ≡ None → slice_set (put_in ys (slice_set base x cells)) y.0 y.1 ≡ slice_set (slice_set (put_in ys base) y.0 y.1) x cells
    by true e go none = absurd cc
    by false e go none =
        let differs : x ≢ y.0 = grind (arith, nat_tests) in
        ap (λ v. slice_set v y.0 y.1) (go none) ∙ set_comm (put_in ys base) x y.0 cells y.1 differs

-- other elements of a variable that is carried, or that keeps its elements
pub placed_with : (xs : List Carried) (base : List (List Value)) (x : ℕ) (f : List Value → List Value) → x < length base → (listed xs x ≡ None → f (at_number base x) ≡ at_number base x) → put_in (with_listed x f xs) base ≡ slice_set (put_in xs base) x (f (at_number (put_in xs base) x))
placed_with [] base x f lt h = sym (ap (slice_set base x) (h refl) ∙ set-get_or base x [])
placed_with (y ∷ ys) base x f lt h = by (x == y.0) refl h (placed_with ys base x f lt)
  where
    by : (b : Bool) → (x == y.0) ≡ b → ((if b then Some y.1 else listed ys x) ≡ None → f (at_number base x) ≡ at_number base x) → ((listed ys x ≡ None → f (at_number base x) ≡ at_number base x) → put_in (with_listed x f ys) base ≡ slice_set (put_in ys base) x (f (at_number (put_in ys base) x))) → put_in (if b then (y.0, f y.1) ∷ ys else y ∷ with_listed x f ys) base ≡ slice_set (slice_set (put_in ys base) y.0 y.1) x (f (at_number (slice_set (put_in ys base) y.0 y.1) x))
    by true e keeps go =
        let same : x ≡ y.0 = (Decides-eqb x y.0).0 e in
        let long : length (put_in ys base) ≡ length base = length_placed ys base in
        let below : y.0 < length (put_in ys base) = omega arith in
        rw same (sym (set-set (put_in ys base) y.0 y.1 _ ∙ ap (λ c. slice_set (put_in ys base) y.0 (f c)) (get_or-set_same (put_in ys base) y.0 y.1 [] below)))
    by false e keeps go =
        let differs : x ≢ y.0 = grind (arith, nat_tests) in
        ap (λ v. slice_set v y.0 y.1) (go keeps)
        ∙ set_comm (put_in ys base) x y.0 _ y.1 differs
        ∙ sym (ap (λ c. slice_set (slice_set (put_in ys base) y.0 y.1) x (f c)) (get_or-set_other (put_in ys base) y.0 x y.1 [] differs))

-- the numbers stay
pub numbers_stay : (xs : List Carried) (x : ℕ) (f : List Value → List Value) → numbers_of (with_listed x f xs) ≡ numbers_of xs
numbers_stay [] x f = refl
numbers_stay (y ∷ ys) x f = by (x == y.0) (numbers_stay ys x f)
  where
    by : (b : Bool) → numbers_of (with_listed x f ys) ≡ numbers_of ys → numbers_of (if b then (y.0, f y.1) ∷ ys else y ∷ with_listed x f ys) ≡ y.0 ∷ numbers_of ys
    by true e = refl
    by false e = ap (λ ns. y.0 ∷ ns) e

-- so many variables of the design there are
pub length_all : (count : ℕ) (owned copied : List Carried) → length (all_cells count owned copied) ≡ count
length_all count owned copied = length_placed owned (put_in copied (replicate count [])) ∙ length_placed copied (replicate count []) ∙ length-replicate count []

-- a change of an element
abbrev pub set_of : ℕ → Value → List Value → List Value
set_of k v cells = slice_set cells k v

module _ (count : ℕ) (owned copied : List Carried) (x : ℕ) where
  long : length (put_in copied (replicate count [])) ≡ count
  long = length_placed copied (replicate count []) ∙ length-replicate count []

  -- the elements of a variable of the design
  pub cells_below : x < count → at_number (all_cells count owned copied) x ≡ unwrap_or (listed owned x) (unwrap_or (listed copied x) [])
  cells_below lt =
      let l : length (put_in copied (replicate count [])) ≡ count = long in
      let n : length (replicate {A = List Value} count []) ≡ count = length-replicate count [] in
      let e : at_number (replicate count []) x ≡ [] = get_or-replicate count x [] [] lt in
      let inner : at_number (put_in copied (replicate count [])) x ≡ unwrap_or (listed copied x) [] = placed copied (replicate count []) x (omega arith) ∙ ap (unwrap_or (listed copied x)) e in
      placed owned (put_in copied (replicate count [])) x (omega arith) ∙ ap (unwrap_or (listed owned x)) inner

  -- beyond them there is none
  pub cells_past : count ≤ x → at_number (all_cells count owned copied) x ≡ []
  cells_past le =
      let l : length (put_in copied (replicate count [])) ≡ count = long in
      let m : length (all_cells count owned copied) ≡ length (put_in copied (replicate count [])) = length_placed owned (put_in copied (replicate count [])) in
      get_or_past (all_cells count owned copied) x [] (omega arith)

  pub set_past_all : (cells : List Value) → count ≤ x → slice_set (all_cells count owned copied) x cells ≡ all_cells count owned copied
  set_past_all cells le =
      let l : length (put_in copied (replicate count [])) ≡ count = long in
      let m : length (all_cells count owned copied) ≡ length (put_in copied (replicate count [])) = length_placed owned (put_in copied (replicate count [])) in
      set_past (all_cells count owned copied) x cells (omega arith)

  -- an element of one that may be changed
  pub set_owned : (k : ℕ) (v : Value) → x < count → is_some (listed owned x) ≡ true → all_cells count (with_listed x (set_of k v) owned) copied ≡ slice_set (all_cells count owned copied) x (set_of k v (at_number (all_cells count owned copied) x))
  set_owned k v lt some =
      let l : length (put_in copied (replicate count [])) ≡ count = long in
      placed_with owned (put_in copied (replicate count [])) x (set_of k v) (omega arith) (λ none. absurd cc)

  -- an element of one that is only read, or of none
  pub set_copied : (k : ℕ) (v : Value) → x < count → listed owned x ≡ None → all_cells count owned (with_listed x (set_of k v) copied) ≡ slice_set (all_cells count owned copied) x (set_of k v (at_number (all_cells count owned copied) x))
  set_copied k v lt none =
      let l : length (put_in copied (replicate count [])) ≡ count = long in
      let n : length (replicate {A = List Value} count []) ≡ count = length-replicate count [] in
      let e : at_number (replicate count []) x ≡ [] = get_or-replicate count x [] [] lt in
      let inner = placed_with copied (replicate count []) x (set_of k v) (omega arith) (λ h. ap (set_of k v) e ∙ sym e) in
      let over = placed owned (put_in copied (replicate count [])) x (omega arith) in
      let same : at_number (all_cells count owned copied) x ≡ at_number (put_in copied (replicate count [])) x = over ∙ ap (λ o. unwrap_or o (at_number (put_in copied (replicate count [])) x)) none in
      ap (put_in owned) inner ∙ passed_over owned (put_in copied (replicate count [])) x _ none ∙ ap (λ c. slice_set (all_cells count owned copied) x (set_of k v c)) (sym same)

pub not_listed : (o : Option (List Value)) → false ≡ is_some o → o ≡ None
not_listed None h = refl
not_listed (Some c) h = absurd cc
