-- A row is found in the group of its length.
use Rattle.std.proofs.Common.{◌≡◌, ℕ, zero, suc, ◌+◌, ◌-◌, ◌<◌, ◌≤◌, Bool, true, false, ◌==◌, if◌then◌else◌, List, [], ◌∷◌, ◌++◌, Some, None, length, refl, sym, ap, ◌∙◌, arith}
use Rattle.std.specs.Borrow.{Bor}
use Rattle.std.specs.Option.{option_map}
use Rattle.std.specs.Prelude.{find, slice_get}
use Rattle.std.specs.Str.{bytes_eq}
use Rattle.std.proofs.lemmas.Bool.{eqb-true, and_parts}
use Rattle.std.proofs.lemmas.Slice.Eq.{bytes_eq-Decides}
use Rattle.ooo_syntax.specs.declared.table.Row.{Row}
use Rattle.ooo_syntax.specs.declared.terminal.Terminal.{Terminal}
use Rattle.ooo_syntax.specs.Words.{Written, written_as}
use Rattle.ooo_syntax.specs.Rows.{in_rows, in_group, has_bytes, written_rows, written_groups, are_long, are_by_length}

-- two lists of bytes of other lengths aren't equal
apart : (xs ys : List ℕ) (n : ℕ) → length xs ≡ n → (length ys ≡ n → ⊥) → bytes_eq xs ys ≡ false
apart xs ys n e f = at (bytes_eq xs ys) refl
  where
    at : (b : Bool) → bytes_eq xs ys ≡ b → bytes_eq xs ys ≡ false
    at true i = absurd (f (sym (ap length ((bytes_eq-Decides xs ys).0 i)) ∙ e))
    at false i = i

-- rows of another length have no part in it
skips : (n : ℕ) (rs : List Row) (ws : List Written) (bs : List ℕ) → are_long n rs ≡ true → (length bs ≡ n → ⊥) → written_as (written_rows rs ++ ws) bs ≡ written_as ws bs
skips n [] ws bs h f = refl
skips n (r ∷ rs) ws bs h f =
    let b = and_parts (length r.bytes.now == n) (are_long n rs) h in
    ap (λ c. if c then Some r.terminal else written_as (written_rows rs ++ ws) bs) (apart r.bytes.now bs n (eqb-true (length r.bytes.now) n b.0) f)
    ∙ skips n rs ws bs b.1 f

-- bytes that are shorter than all rows have none
pub later : (n : ℕ) (gs : List (Bor (List Row))) (bs : List ℕ) → are_by_length n gs ≡ true → length bs < n → written_as (written_groups gs) bs ≡ None
later n [] bs h l = refl
later n (g ∷ gs) bs h l =
    let b = and_parts (are_long n g.now) (are_by_length (suc n) gs) h in
    skips n g.now (written_groups gs) bs b.0 (λ e. omega arith) ∙ later (suc n) gs bs b.1 (omega arith)

-- rows that stand first, where what follows has no part in it
first : (rs : List Row) (ws : List Written) (bs : List ℕ) → written_as ws bs ≡ None → written_as (written_rows rs ++ ws) bs ≡ in_rows rs bs
first [] ws bs e = e
first (r ∷ rs) ws bs e = at (bytes_eq r.bytes.now bs) (first rs ws bs e)
  where
    at : (b : Bool) → written_as (written_rows rs ++ ws) bs ≡ in_rows rs bs → (if b then Some r.terminal else written_as (written_rows rs ++ ws) bs) ≡ option_map (λ r. r.terminal) (if b then Some r else find (has_bytes bs) rs)
    at true i = refl
    at false i = i

found : (n k : ℕ) (gs : List (Bor (List Row))) (bs : List ℕ) → are_by_length n gs ≡ true → length bs ≡ n + k → written_as (written_groups gs) bs ≡ in_group (slice_get gs k) bs
found n k [] bs h e = refl
found n zero (g ∷ gs) bs h e =
    let b = and_parts (are_long n g.now) (are_by_length (suc n) gs) h in
    first g.now (written_groups gs) bs (later (suc n) gs bs b.1 (omega arith))
found n (suc k) (g ∷ gs) bs h e =
    let b = and_parts (are_long n g.now) (are_by_length (suc n) gs) h in
    skips n g.now (written_groups gs) bs b.0 (λ i. omega arith) ∙ found (suc n) k gs bs b.1 (omega arith)

-- the group of their length has what all of them say
pub in_own_group : (n : ℕ) (gs : List (Bor (List Row))) (bs : List ℕ) → are_by_length n gs ≡ true → n ≤ length bs → in_group (slice_get gs (length bs - n)) bs ≡ written_as (written_groups gs) bs
in_own_group n gs bs h l = sym (found n (length bs - n) gs bs h (omega (arith, l)))

-- ---- tables one behind another

-- a row of the first table is found in both
pub in_front : (xs ys : List Written) (bs : List ℕ) (t : Terminal) → written_as xs bs ≡ Some t → written_as (xs ++ ys) bs ≡ Some t
in_front [] ys bs t e = absurd cc
in_front (x ∷ xs) ys bs t e = at (bytes_eq x.bytes bs) e (in_front xs ys bs t)
  where
    at : (b : Bool) → (if b then Some x.terminal else written_as xs bs) ≡ Some t → (written_as xs bs ≡ Some t → written_as (xs ++ ys) bs ≡ Some t) → (if b then Some x.terminal else written_as (xs ++ ys) bs) ≡ Some t
    at true e f = e
    at false e f = f e

-- where the first has none, it is that of the second
pub behind : (xs ys : List Written) (bs : List ℕ) → written_as xs bs ≡ None → written_as (xs ++ ys) bs ≡ written_as ys bs
behind [] ys bs e = refl
behind (x ∷ xs) ys bs e = at (bytes_eq x.bytes bs) e (behind xs ys bs)
  where
    at : (b : Bool) → (if b then Some x.terminal else written_as xs bs) ≡ None → (written_as xs bs ≡ None → written_as (xs ++ ys) bs ≡ written_as ys bs) → (if b then Some x.terminal else written_as (xs ++ ys) bs) ≡ written_as ys bs
    at true e f = absurd cc
    at false e f = f e
