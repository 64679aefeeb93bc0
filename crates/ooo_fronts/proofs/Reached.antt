-- Going over ascending numbers, where something holds of all others: up to which number all were gone over.
use Rattle.std.proofs.Common.{◌≡◌, ◌∙◌, ap, arith, ℕ, ◌+◌, ◌<◌, ◌≤◌, List, length, get_or, Bool, true, false, inl, inr}
use Rattle.std.specs.Prelude.{Contains}
use Rattle.std.proofs.lemmas.Bool.{cases_lt}
use Rattle.std.proofs.lemmas.List.{get_or_default, get_or_past}
use Rattle.std.proofs.lemmas.List.Elements.{Contains-get_or}
use Rattle.ooo_lemmas.specs.Counting.{count}
use Rattle.ooo_lemmas.proofs.Ascending.{not_falling}
use Rattle.ooo_fronts.specs.Holds.{HoldsOfOthers, total}
use Rattle.ooo_fronts.proofs.Totals.{count_skips, count_yes, count_no, none_added, none_counted, total_more, total_rises, total_skips}

-- P holds of all numbers but these
module _ (P : ℕ → Type 0) (n : ℕ) (xs : List ℕ) (h : HoldsOfOthers P n xs) where
  -- up to which number all were gone over once i of them were
  at_most : (i : ℕ) → get_or xs i n ≤ n
  at_most i = elim (cases_lt i (length xs)) [
    | inl below ↦ let lt = h.within (get_or xs i n) (Contains-get_or xs i n below) in omega arith
    | inr above ↦ let e = get_or_past xs i n above in omega arith
  ]

  below_is : (i : ℕ) → i < length xs → get_or xs i n < n
  below_is i lt = h.within (get_or xs i n) (Contains-get_or xs i n lt)

  pub rising : (i : ℕ) → i < length xs → get_or xs i n < get_or xs (i + 1) n
  rising i lt = elim (cases_lt (i + 1) (length xs)) [
    | inl below ↦ h.ascending i (i + 1) n (omega arith) below
    | inr above ↦ let e = get_or_past xs (i + 1) n above in let b = below_is i lt in omega arith
  ]

  -- it holds of what is behind all numbers so far, and before the next
  gap : (i b : ℕ) → ((k : ℕ) → k < i → k < length xs → get_or xs k 0 < b) → b < get_or xs i n → P b
  gap i b behind lt = let top = at_most i in h.others b (omega arith) found
    where
      found : Contains xs b → ⊥
      found (k, within, is) =
          let here : get_or xs k 0 ≡ b = get_or_default xs k 0 b within ∙ is in
          elim (cases_lt k i) [
            | inl before ↦ let r = behind k before within in omega arith
            | inr after ↦
                let up = not_falling xs h.ascending i k after within in
                let e = get_or_default xs i n 0 (omega arith) in
                omega arith
          ]

  pub first_gap : (b : ℕ) → b < get_or xs 0 n → P b
  first_gap b lt = gap 0 b (λ k below within. absurd (omega arith)) lt

  pub next_gap : (i b : ℕ) → i < length xs → get_or xs i n + 1 ≤ b → b < get_or xs (i + 1) n → P b
  next_gap i b in_list from lt = gap (i + 1) b (λ k below within.
      let up = not_falling xs h.ascending k i (omega arith) in_list in
      let e = get_or_default xs i n 0 in_list in
      omega arith) lt

-- none of the others passes the test
module _ (test : ℕ → Bool) (n : ℕ) (xs : List ℕ) (h : HoldsOfOthers (λ b. test b ≡ false) n xs) where
  -- ---- how many

  pub counted_first : count test (get_or xs 0 n) ≡ 0
  counted_first = none_counted test (get_or xs 0 n) (first_gap (λ b. test b ≡ false) n xs h)

  skipped : (i : ℕ) → i < length xs → count test (get_or xs (i + 1) n) ≡ count test (get_or xs i n + 1)
  skipped i lt = let up = rising (λ b. test b ≡ false) n xs h i lt in count_skips test (get_or xs i n + 1) (get_or xs (i + 1) n) (omega arith) (λ b from to. next_gap (λ b. test b ≡ false) n xs h i b lt from to)

  pub counted_yes : (i : ℕ) → i < length xs → test (get_or xs i n) ≡ true → count test (get_or xs (i + 1) n) ≡ count test (get_or xs i n) + 1
  counted_yes i lt e = skipped i lt ∙ count_yes test (get_or xs i n) e

  pub counted_no : (i : ℕ) → i < length xs → test (get_or xs i n) ≡ false → count test (get_or xs (i + 1) n) ≡ count test (get_or xs i n)
  counted_no i lt e = skipped i lt ∙ count_no test (get_or xs i n) e

  pub counted_all : (i : ℕ) → length xs ≤ i → count test (get_or xs i n) ≡ count test n
  counted_all i le = ap (count test) (get_or_past xs i n le)

  -- ---- the first

  pub none_first : (b : ℕ) → b < get_or xs 0 n → test b ≡ false
  none_first = first_gap (λ b. test b ≡ false) n xs h

  pub none_more : (i : ℕ) → i < length xs → test (get_or xs i n) ≡ false → ((b : ℕ) → b < get_or xs i n → test b ≡ false) → (b : ℕ) → b < get_or xs (i + 1) n → test b ≡ false
  none_more i lt e none b below = elim (cases_lt b (get_or xs i n)) [
    | inl before ↦ none b before
    | inr after ↦ elim (cases_lt (get_or xs i n) b) [
      | inl behind ↦ next_gap (λ b. test b ≡ false) n xs h i b lt (omega arith) below
      | inr at ↦ let same : b ≡ get_or xs i n = omega arith in ap test same ∙ e
    ]
  ]

  pub none_at_all : (i : ℕ) → length xs ≤ i → ((b : ℕ) → b < get_or xs i n → test b ≡ false) → (b : ℕ) → b < n → test b ≡ false
  none_at_all i le none b lt = none b (let e = get_or_past xs i n le in omega arith)

-- the others add nothing
module _ (f : ℕ → ℕ) (n : ℕ) (xs : List ℕ) (h : HoldsOfOthers (λ b. f b ≡ 0) n xs) where
  pub added_first : total f (get_or xs 0 n) ≡ 0
  added_first = none_added f (get_or xs 0 n) (first_gap (λ b. f b ≡ 0) n xs h)

  pub added_more : (i : ℕ) → i < length xs → total f (get_or xs (i + 1) n) ≡ total f (get_or xs i n) + f (get_or xs i n)
  added_more i lt =
      let up = rising (λ b. f b ≡ 0) n xs h i lt in
      let rest = total_skips f (get_or xs i n + 1) (get_or xs (i + 1) n) (omega arith) (λ b from to. next_gap (λ b. f b ≡ 0) n xs h i b lt from to) in
      let one = total_more f (get_or xs i n) in
      omega (arith, rest, one)

  pub added_all : (i : ℕ) → length xs ≤ i → total f (get_or xs i n) ≡ total f n
  added_all i le = ap (total f) (get_or_past xs i n le)

  -- those so far add no more than all
  pub added_so_far : (i : ℕ) → total f (get_or xs i n) ≤ total f n
  added_so_far i = total_rises f (get_or xs i n) n (at_most (λ b. f b ≡ 0) n xs h i)
