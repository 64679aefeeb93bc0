-- What one read of a memory source gives.
use Rattle.std.proofs.Common.{◌≡◌, ◌≤◌, ◌<◌, ◌+◌, ◌++◌, ◌∙◌, ap, ℕ, List, [], length, take, drop, min, sym, arith, length-drop}
use Rattle.std.proofs.lemmas.List.{take-append-drop, drop_all, drop-drop}

-- the first n of the bytes that are left, where none only at the end
pub given_bytes : (xs into : List ℕ) (given n most : ℕ) → given ≤ length xs → 1 ≤ most
    → n ≡ min most (min (length into) (length (drop given xs))) → take n into ≡ take n (drop given xs)
    → (drop given xs ≡ take n into ++ drop (given + n) xs) × (n ≡ 0 → 0 < length into → drop (given + n) xs ≡ [])
given_bytes xs into given n most within positive count bytes = (
  sym (take-append-drop n (drop given xs)) ∙ ap (λ l. l ++ drop n (drop given xs)) (sym bytes) ∙ ap (λ l. take n into ++ l) (drop-drop n given xs),
  λ zero room. drop_all (given + n) xs (omega (arith, length-drop given xs)),
)
