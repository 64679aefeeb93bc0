-- The segments that clash strictly with a segment, one after another.
use Rattle.std.proofs.Common.{◌≡◌, ℕ, ◌+◌, ◌<◌, ◌↔◌, List, [], ◌∷◌, ◌++◌, length, get_or, refl, sym, ◌∙◌, ap, subst, arith, inl, inr, true, IsTrue, Some}
use Rattle.std.specs.Prelude.{Contains, slice_get}
use Rattle.std.proofs.lemmas.Bool.{cases_lt}
use Rattle.std.proofs.lemmas.List.{length_push, get_or_default}
use Rattle.std.proofs.lemmas.List.Elements.{Contains-push, Contains-push_cases, Contains-append_left}
use Rattle.std.proofs.lemmas.List.Quantifiers.{all_pairs_push}
use Rattle.std.proofs.lemmas.Option.{slice_get-get_or}
use Rattle.ooo_lemmas.proofs.Contained.{contains_at, not_in_none}
use Rattle.ooo_lemmas.proofs.Placed.{at_push, read_is}
use Rattle.ooo_access.specs.Access.{AreAscending}
use Rattle.ooo_conflicts.specs.declared.kind.ClashKind.{ClashKind}
use Rattle.ooo_conflicts.specs.declared.kind.ClashKind.TheVariants.{Apart}
use Rattle.ooo_conflicts.specs.Kinds.{is_clash, kind_at}
use Rattle.ooo_conflicts.specs.Clashing.{AreLists, IsListOf, IsWhole}

-- segment b clashes strictly with segment g, by the rows
abbrev IsEarlier : List (List ClashKind) → (b g : ℕ) → Type 0
IsEarlier rows b g = IsTrue (is_clash (kind_at rows b g) true)

-- the segments below b that clash strictly with segment g
pub record ListedBefore (rows : List (List ClashKind)) (g b : ℕ) (segments : List ℕ) : Type 0 where
  pub exact : (n : ℕ) → Contains segments n ↔ ((n < b) × IsTrue (is_clash (kind_at rows n g) true))
  pub ascending : AreAscending segments

pub before_none : (rows : List (List ClashKind)) (g : ℕ) → ListedBefore rows g 0 []
before_none rows g = record {
  exact = λ n. (λ h. absurd (not_in_none n h), λ h. let lt = h.0 in absurd (omega arith));
  ascending = λ i j d below within. absurd (omega arith);
}

-- one more that clashes
pub before_one : (rows : List (List ClashKind)) (g b : ℕ) (segments : List ℕ) → ListedBefore rows g b segments → IsTrue (is_clash (kind_at rows b g) true) → ListedBefore rows g (b + 1) (segments ++ b ∷ [])
before_one rows g b segments h is = record {
  exact = λ n. (
    λ w. elim (Contains-push_cases segments b n w) [
      | inl a ↦ let r = (h.exact n).0 a in let lt = r.0 in (omega arith, r.1)
      | inr e ↦ let q : b ≡ n = e in (omega arith, subst (λ k. IsEarlier rows k g) e is)
    ],
    λ w. elim (cases_lt n b) [
      | inl below ↦ Contains-append_left segments (b ∷ []) n ((h.exact n).1 (below, w.1))
      | inr above ↦
          let lt = w.0 in
          let e : b ≡ n = omega arith in
          subst (λ k. Contains (segments ++ b ∷ []) k) e (Contains-push segments b)
    ],
  );
  ascending = all_pairs_push (λ m n. m < n) segments b h.ascending (λ k d within. ((h.exact (get_or segments k d)).0 (contains_at segments k (get_or segments k d) (slice_get-get_or segments k d within))).0);
}

-- one more that doesn't clash
pub before_other : (rows : List (List ClashKind)) (g b : ℕ) (segments : List ℕ) → ListedBefore rows g b segments → (IsTrue (is_clash (kind_at rows b g) true) → ⊥) → ListedBefore rows g (b + 1) segments
before_other rows g b segments h out = record {
  exact = λ n. (
    λ w. let r = (h.exact n).0 w in let lt = r.0 in (omega arith, r.1),
    λ w. elim (cases_lt n b) [
      | inl below ↦ (h.exact n).1 (below, w.1)
      | inr above ↦
          let lt = w.0 in
          let e : n ≡ b = omega arith in
          absurd (out (subst (λ k. IsEarlier rows k g) e w.1))
    ],
  );
  ascending = h.ascending;
}

pub before_all : (rows : List (List ClashKind)) (g b : ℕ) (segments : List ℕ) → b ≡ length rows → ListedBefore rows g b segments → IsListOf rows g segments
before_all rows g b segments e h = record {
  exact = λ n. subst (λ k. Contains segments n ↔ ((n < k) × IsEarlier rows n g)) e (h.exact n);
  ascending = h.ascending;
}

-- what stands in a row, as it was read, is the kind of the two segments
pub row_kind : (rows : List (List ClashKind)) (b g : ℕ) (row lent : List ClashKind) → b < length rows → row ≡ get_or rows b row → lent ≡ row → get_or lent g Apart ≡ kind_at rows b g
row_kind rows b g row lent lt is same = ap (λ (r : List ClashKind). get_or r g Apart) (same ∙ is ∙ get_or_default rows b row [] lt)

-- the lists so far
pub record ListsBefore (rows : List (List ClashKind)) (g : ℕ) (lists : List (List ℕ)) : Type 0 where
  pub count : length lists ≡ g
  pub each : (k : ℕ) (segments : List ℕ) → slice_get lists k ≡ Some segments → IsListOf rows k segments

pub lists_none : (rows : List (List ClashKind)) → ListsBefore rows 0 []
lists_none rows = record { count = refl; each = λ k segments h. absurd cc }

pub lists_more : (rows : List (List ClashKind)) (g : ℕ) (lists : List (List ℕ)) (segments : List ℕ) → ListsBefore rows g lists → IsListOf rows g segments → ListsBefore rows (g + 1) (lists ++ segments ∷ [])
lists_more rows g lists segments h is = record {
  count = let n = h.count in let m = length_push lists segments in omega arith;
  each = λ k other c. elim (at_push lists segments other k c) [
    | inl e ↦ h.each k other e
    | inr e ↦ subst (λ j. IsListOf rows j other) (sym (e.0 ∙ h.count)) (subst (λ z. IsListOf rows g z) e.1 is)
  ];
}

pub lists_all : (rows : List (List ClashKind)) (g : ℕ) (lists : List (List ℕ)) → g ≡ length rows → ListsBefore rows g lists → AreLists rows lists
lists_all rows g lists e h = record { count = h.count ∙ e; each = h.each }

-- what is lent of the lists of a table
pub lent_list : (rows view : List (List ClashKind)) (lists : List (List ℕ)) (g : ℕ) (list : List ℕ) → IsWhole rows lists → rows ≡ view → g < length view → list ≡ get_or lists g list → IsListOf view g list
lent_list rows view lists g list whole same within is =
    let n = whole.listed.count in
    let m = ap (λ (r : List (List ClashKind)). length r) same in
    let lt : g < length lists = omega arith in
    subst (λ r. IsListOf r g list) same (whole.listed.each g list (read_is lists g list lt is))
