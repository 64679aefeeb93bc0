-- Runs: the longest front of a list whose elements pass a test.
use Rattle.std.proofs.Common.{◌≡◌, ℕ, ◌+◌, Bool, true, false, cond, List, [], ◌∷◌, ◌++◌, length, drop, refl, sym, ◌∙◌, arith, append-nil}
use Rattle.std.specs.List.{list_all, prefix_len, take_while}
use Rattle.std.proofs.lemmas.Bool.{and_parts, and_from}
use Rattle.std.proofs.lemmas.List.{take_at, drop_at, take-append-drop}
use Rattle.std.proofs.lemmas.List.Folds.{list_all-append}
use Rattle.std.proofs.lemmas.List.Sums.{take_while-cons}
use Rattle.std.proofs.Math.Numerals.{one-add}
use Rattle.ooo_lexer.specs.Bytes.{StopsBefore}

pub run_length : (p : ℕ → Bool) (xs rest : List ℕ) → list_all p xs ≡ true → StopsBefore p rest → prefix_len p (xs ++ rest) ≡ length xs
run_length p [] [] all stops = refl
run_length p [] (b ∷ bs) all stops = rw stops
run_length p (x ∷ xs) rest all stops =
    let parts = and_parts (p x) (list_all p xs) all in
    let here = parts.0 in
    let ih = run_length p xs rest parts.1 stops in
    rw here (omega (arith, ih))

pub run_front : (p : ℕ → Bool) (xs rest : List ℕ) → list_all p xs ≡ true → StopsBefore p rest → take_while p (xs ++ rest) ≡ xs
run_front p xs rest all stops = take_at xs rest _ (sym (run_length p xs rest all stops))

pub run_rest : (p : ℕ → Bool) (xs rest : List ℕ) → list_all p xs ≡ true → StopsBefore p rest → drop (prefix_len p (xs ++ rest)) (xs ++ rest) ≡ rest
run_rest p xs rest all stops = drop_at xs rest _ (sym (run_length p xs rest all stops))

-- the same of a list that is one run
pub run_whole : (p : ℕ → Bool) (xs : List ℕ) → list_all p xs ≡ true → drop (prefix_len p xs) xs ≡ []
run_whole p xs all = let e = run_rest p xs [] all tt in rw append-nil at e

pub run_passes : (p : ℕ → Bool) (xs : List ℕ) → list_all p (take_while p xs) ≡ true
run_passes p [] = refl
run_passes p (x ∷ xs) = rw take_while-cons (at (p x) refl (run_passes p xs))
  where
    at : (t : Bool) → p x ≡ t → list_all p (take_while p xs) ≡ true → list_all p (cond t (x ∷ take_while p xs) []) ≡ true
    at true e rest = and_from (p x) (list_all p (take_while p xs)) e rest
    at false e rest = refl

pub run_stops : (p : ℕ → Bool) (xs : List ℕ) → StopsBefore p (drop (prefix_len p xs) xs)
run_stops p [] = tt
run_stops p (x ∷ xs) = at (p x) refl (run_stops p xs)
  where
    at : (t : Bool) → p x ≡ t → StopsBefore p (drop (prefix_len p xs) xs) → StopsBefore p (drop (cond t (1 + prefix_len p xs) 0) (x ∷ xs))
    at true e h = rw one-add h
    at false e h = e

pub run_joins : (p : ℕ → Bool) (xs : List ℕ) → take_while p xs ++ drop (prefix_len p xs) xs ≡ xs
run_joins p xs = take-append-drop (prefix_len p xs) xs

-- what passes one test passes a wider one
pub all_wider : (p q : ℕ → Bool) → ((b : ℕ) → p b ≡ true → q b ≡ true) → (xs : List ℕ) → list_all p xs ≡ true → list_all q xs ≡ true
all_wider p q wider [] all = refl
all_wider p q wider (x ∷ xs) all =
    let parts = and_parts (p x) (list_all p xs) all in
    and_from (q x) (list_all q xs) (wider x parts.0) (all_wider p q wider xs parts.1)

pub all_append : (p : ℕ → Bool) (xs ys : List ℕ) → list_all p xs ≡ true → list_all p ys ≡ true → list_all p (xs ++ ys) ≡ true
all_append p xs ys h k = list_all-append p xs ys ∙ and_from (list_all p xs) (list_all p ys) h k
