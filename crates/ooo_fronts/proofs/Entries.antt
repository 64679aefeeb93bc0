-- The table of what fronts hold up: where its entries stand, and which of them are right as it changes.
use Rattle.std.proofs.Common.{◌≡◌, ◌≢◌, ◌∙◌, refl, sym, ap, subst, arith, ℕ, suc, ◌+◌, ◌-◌, ◌*◌, ◌/◌, ◌%◌, ◌<◌, ◌≤◌, ◌⊎◌, inl, inr, List, length, get_or, set, Option, None, Some}
use Rattle.std.proofs.Math.Nat.{suc-mul}
use Rattle.std.proofs.lemmas.Bool.{cases_eq, cases_lt}
use Rattle.std.proofs.lemmas.List.{get_or_default, get_or-set_other, get_or-set_same, length-set}
use Rattle.std.proofs.lemmas.Nat.{div-mul-add, mod-mul-add, mul-le}
use Rattle.ooo_tables.specs.declared.tables.Tables.{Tables}
use Rattle.ooo_fronts.specs.declared.front.Front.{Front}
use Rattle.ooo_fronts.specs.Fronts.{AreFit}
use Rattle.ooo_fronts.specs.Holds.{AreHolds, ChangesColumn, ChangesEntry, IsColumn, entry_in, held, holds_of}
use Rattle.ooo_fronts.specs.Reaching.{CanBeHeldBy, CanHoldProcess, IsListOf}
use Rattle.ooo_fronts.proofs.Counted.{at_front, fit_at, held_none}
use Rattle.ooo_fronts.proofs.Mending.{others_none, others_some}

-- ---- where entries stand

pub entry_within : (n p q : ℕ) → p < n → q < n → p * n + q < n * n
entry_within n p q row place =
    let rows : suc p * n ≤ n * n = mul-le (suc p) n n n (omega arith) (omega arith) in
    let next = suc-mul p n in
    omega (arith, rows, next)

pub entry_apart : (n k l p q : ℕ) → l < n → q < n → (k ≢ p) ⊎ (l ≢ q) → k * n + l ≢ p * n + q
entry_apart n k l p q a b differ e = elim differ [
  | inl rows ↦ rows (sym (div-mul-add k n l a) ∙ ap (λ x. x / n) e ∙ div-mul-add p n q b)
  | inr places ↦ places (sym (mod-mul-add k n l a) ∙ ap (λ x. x % n) e ∙ mod-mul-add p n q b)
]

-- ---- one entry changes

module _ (n p q x : ℕ) (holds : List ℕ) (row : p < n) (place : q < n) (size : length holds ≡ n * n) where
  pub entry_set : ChangesEntry n p q holds (set holds (p * n + q) x)
  entry_set = record {
    size = length-set holds (p * n + q) x;
    others = λ k l lt differ. get_or-set_other holds (p * n + q) (k * n + l) x 0 (entry_apart n k l p q lt place differ);
  }

  pub entry_is : entry_in n (set holds (p * n + q) x) p q ≡ x
  entry_is = get_or-set_same holds (p * n + q) x 0 (let lt = entry_within n p q row place in omega (arith, lt, size))

-- ---- a column is set, entry by entry

-- those of the first i of these processes are right in the column of process p, and all other columns are as before
pub record IsColumnBy (t : Tables) (fronts : List (Option Front)) (p : ℕ) (f : Front) (xs : List ℕ) (before : List ℕ) (i : ℕ) (holds : List ℕ) : Type 0 where
  pub others : ChangesColumn (length fronts) p before holds
  pub right : (j : ℕ) (g : Front) → j < i → j < length xs → get_or xs j 0 ≢ p → get_or fronts (get_or xs j 0) None ≡ Some g → entry_in (length fronts) holds (get_or xs j 0) p ≡ holds_of t g p f

pub column_stays : (n p : ℕ) (holds : List ℕ) → ChangesColumn n p holds holds
column_stays n p holds = record { size = refl; others = λ k l lt differ. refl }

-- nothing is right of a process without a front
pub column_none : (t : Tables) (fronts : List (Option Front)) (p : ℕ) (holds : List ℕ) → get_or fronts p None ≡ None → IsColumn t fronts p holds
column_none t fronts p holds none k g ne e f is can = absurd (let both : None ≡ Some f = sym none ∙ is in cc)

module _ (t : Tables) (fronts : List (Option Front)) (p : ℕ) (f : Front) (own : get_or fronts p None ≡ Some f) (xs : List ℕ) (before : List ℕ) where
  pub column_first : IsColumnBy t fronts p f xs before 0 before
  column_first = record { others = column_stays (length fronts) p before; right = λ j g lt within ne e. absurd (omega arith) }

  pub column_more : (i : ℕ) (holds next : List ℕ) → IsColumnBy t fronts p f xs before i holds → ChangesEntry (length fronts) (get_or xs i 0) p holds next →
      ((g : Front) → get_or xs i 0 ≢ p → get_or fronts (get_or xs i 0) None ≡ Some g → entry_in (length fronts) next (get_or xs i 0) p ≡ holds_of t g p f) → IsColumnBy t fronts p f xs before (i + 1) next
  column_more i holds next h only here = record {
    others = record {
      size = only.size ∙ h.others.size;
      others = λ k l lt differ. only.others k l lt (inr differ) ∙ h.others.others k l lt differ;
    };
    right = λ j g below within ne e. elim (cases_eq (get_or xs j 0) (get_or xs i 0)) [
      | inl same ↦
          let n = length fronts in
          let is : entry_in n next (get_or xs i 0) p ≡ holds_of t g p f = here g (λ o. ne (same ∙ o)) (ap (λ k. get_or fronts k None) (sym same) ∙ e) in
          ap (λ k. entry_in n next k p) same ∙ is
      | inr other ↦ elim (cases_lt j i) [
        | inl first ↦ only.others (get_or xs j 0) p (at_front fronts p f own) (inl other) ∙ h.right j g first within ne e
        | inr last ↦ let at : j ≡ i = omega (arith, below, last) in absurd (other (ap (λ m. get_or xs m 0) at))
      ]
    ];
  }

  -- where these are all that can hold the process up
  pub column_all : (i : ℕ) (holds : List ℕ) → AreFit t fronts → IsListOf (CanBeHeldBy t p) xs → length xs ≤ i → IsColumnBy t fronts p f xs before i holds → IsColumn t fronts p holds
  column_all i holds fit list le h k g ne e x is can =
      let fit_g = fit_at t fronts fit k g e in
      let c = (list.exact k).1 (g.segment, fit_g.segment, fit_g.process, can) in
      let here : get_or xs c.0 0 ≡ k = get_or_default xs c.0 0 k c.1 ∙ c.2 in
      let lt = c.1 in
      let same : f ≡ x = let both : Some f ≡ Some x = sym own ∙ is in cc in
      let right = h.right c.0 g (omega (arith, lt, le)) c.1 (λ o. ne (sym here ∙ o)) (ap (λ m. get_or fronts m None) here ∙ e) in
      ap (λ m. entry_in (length fronts) holds m p) (sym here) ∙ right ∙ ap (holds_of t g p) same

-- ---- all columns are set, one by one

-- those of the first p processes are
pub record AreColumns (t : Tables) (fronts : List (Option Front)) (p : ℕ) (holds : List ℕ) : Type 0 where
  pub size : length holds ≡ length fronts * length fronts
  pub column : (q : ℕ) → q < p → IsColumn t fronts q holds

pub columns_none : (t : Tables) (fronts : List (Option Front)) (holds : List ℕ) → length holds ≡ length fronts * length fronts → AreColumns t fronts 0 holds
columns_none t fronts holds size = record { size = size; column = λ q lt. absurd (omega arith) }

pub columns_more : (t : Tables) (fronts : List (Option Front)) (p : ℕ) (holds next : List ℕ) → AreColumns t fronts p holds → ChangesColumn (length fronts) p holds next → IsColumn t fronts p next → AreColumns t fronts (p + 1) next
columns_more t fronts p holds next h only is = record {
  size = only.size ∙ h.size;
  column = λ q lt. elim (cases_eq q p) [
    | inl same ↦ subst (λ k. IsColumn t fronts k next) (sym same) is
    | inr other ↦ λ k g ne e f own can.
        let below : q < p = let differs : q ≢ p = other in omega (arith, lt, differs) in
        only.others k q (at_front fronts q f own) other ∙ h.column q below k g ne e f own can
  ];
}

pub columns_all : (t : Tables) (fronts : List (Option Front)) (p : ℕ) (holds : List ℕ) → length fronts ≤ p → AreColumns t fronts p holds → AreHolds t fronts holds
columns_all t fronts p holds le h = record {
  size = h.size;
  column = λ q k g ne e f own can. h.column q (let lt = at_front fronts q f own in omega (arith, lt, le)) k g ne e f own can;
}

-- ---- one front leaves

module _ (t : Tables) (fronts : List (Option Front)) (p : ℕ) (within : p < length fronts) (holds : List ℕ) (h : AreHolds t fronts holds) where
  -- the fronts that are left have their entries
  pub holds_without : AreHolds t (set fronts p None) holds
  holds_without =
      let many = length-set fronts p None in
      record {
        size = h.size ∙ ap (λ n. n * n) (sym many);
        column = λ q k g ne e f own can. rw many (h.column q k g ne (left k g e) f (left q f own) can);
      }
    where
      left : (k : ℕ) (g : Front) → get_or (set fronts p None) k None ≡ Some g → get_or fronts k None ≡ Some g
      left k g e = elim (cases_eq k p) [
        | inl same ↦
            let none : get_or (set fronts p None) k None ≡ None = ap (λ m. get_or (set fronts p None) m None) same ∙ get_or-set_same fronts p None None within in
            absurd (let both : None ≡ Some g = sym none ∙ e in cc)
        | inr other ↦ sym (get_or-set_other fronts p k None None other) ∙ e
      ]

  -- what is taken off the count of a process that the front can hold up
  module _ (g : Front) (own : get_or fronts p None ≡ Some g) (q : ℕ) (ne : q ≢ p) (can : CanHoldProcess t g.segment q) (count : ℕ) (is : count ≡ held t fronts q) where
    pub entry_fits : count ≢ 0 → entry_in (length fronts) holds p q ≤ count
    entry_fits some = at (get_or fronts q None) refl
      where
        at : (o : Option Front) → get_or fronts q None ≡ o → entry_in (length fronts) holds p q ≤ count
        at None e = absurd (some (is ∙ held_none t fronts q e))
        at (Some f) e =
            let entry = h.column q p g (λ o. ne (sym o)) own f e can in
            let changed = others_some t fronts p g within own q f ne e in
            omega (arith, entry, changed, is)

    pub entry_taken : count - entry_in (length fronts) holds p q ≡ held t (set fronts p None) q
    entry_taken = at (get_or fronts q None) refl
      where
        at : (o : Option Front) → get_or fronts q None ≡ o → count - entry_in (length fronts) holds p q ≡ held t (set fronts p None) q
        at None e =
            let none = held_none t fronts q e in
            let still = others_none t fronts p g within own q ne e in
            omega (arith, none, still, is)
        at (Some f) e =
            let entry = h.column q p g (λ o. ne (sym o)) own f e can in
            let changed = others_some t fronts p g within own q f ne e in
            omega (arith, entry, changed, is)

-- ---- one front enters

-- the entries of the first i of these processes are right in the row of process p, and all other rows are as before
pub record IsRowBy (t : Tables) (fronts : List (Option Front)) (p : ℕ) (g : Front) (xs : List ℕ) (before : List ℕ) (i : ℕ) (holds : List ℕ) : Type 0 where
  pub size : length holds ≡ length before
  pub others : (k l : ℕ) → l < length fronts → k ≢ p → entry_in (length fronts) holds k l ≡ entry_in (length fronts) before k l
  pub right : (j : ℕ) (f : Front) → j < i → j < length xs → get_or xs j 0 ≢ p → get_or fronts (get_or xs j 0) None ≡ Some f → entry_in (length fronts) holds p (get_or xs j 0) ≡ holds_of t g (get_or xs j 0) f

module _ (t : Tables) (fronts : List (Option Front)) (p : ℕ) (g : Front) (own : get_or fronts p None ≡ Some g) (xs : List ℕ) (before : List ℕ) where
  pub row_more : (i : ℕ) (holds next : List ℕ) → IsRowBy t fronts p g xs before i holds → ChangesEntry (length fronts) p (get_or xs i 0) holds next →
      ((f : Front) → get_or xs i 0 ≢ p → get_or fronts (get_or xs i 0) None ≡ Some f → entry_in (length fronts) next p (get_or xs i 0) ≡ holds_of t g (get_or xs i 0) f) → IsRowBy t fronts p g xs before (i + 1) next
  row_more i holds next h only here = record {
    size = only.size ∙ h.size;
    others = λ k l lt differ. only.others k l lt (inl differ) ∙ h.others k l lt differ;
    right = λ j f below within ne e. elim (cases_eq (get_or xs j 0) (get_or xs i 0)) [
      | inl same ↦
          let n = length fronts in
          let is : entry_in n next p (get_or xs i 0) ≡ holds_of t g (get_or xs i 0) f = here f (λ o. ne (same ∙ o)) (ap (λ k. get_or fronts k None) (sym same) ∙ e) in
          ap (λ k. entry_in n next p k) same ∙ is ∙ ap (λ k. holds_of t g k f) (sym same)
      | inr other ↦ elim (cases_lt j i) [
        | inl first ↦ only.others p (get_or xs j 0) (at_front fronts (get_or xs j 0) f e) (inr other) ∙ h.right j f first within ne e
        | inr last ↦ let at : j ≡ i = omega (arith, below, last) in absurd (other (ap (λ m. get_or xs m 0) at))
      ]
    ];
  }

  -- where these are all that the front can hold up, and the column of its process is set, too
  pub holds_with : (i : ℕ) (row next : List ℕ) → p < length fronts → IsListOf (CanHoldProcess t g.segment) xs → length xs ≤ i → AreHolds t (set fronts p None) before → IsRowBy t fronts p g xs before i row →
      ChangesColumn (length fronts) p row next → IsColumn t fronts p next → AreHolds t fronts next
  holds_with i row next within list le was h only mine =
      let many = length-set fronts p None in
      record {
        size = only.size ∙ h.size ∙ was.size ∙ ap (λ n. n * n) many;
        column = λ q. elim (cases_eq q p) [
          | inl same ↦ subst (λ k. IsColumn t fronts k next) (sym same) mine
          | inr other ↦ λ k x ne e f is can. only.others k q (at_front fronts q f is) other ∙ by_row q other k x ne e f is can (cases_eq k p)
        ];
      }
    where
      by_row : (q : ℕ) → q ≢ p → (k : ℕ) (x : Front) → k ≢ q → get_or fronts k None ≡ Some x → (f : Front) → get_or fronts q None ≡ Some f → CanHoldProcess t x.segment q → (k ≡ p) ⊎ (k ≢ p) →
          entry_in (length fronts) row k q ≡ holds_of t x q f
      by_row q other k x ne e f is can (inl same) =
          let here : get_or fronts p None ≡ Some x = ap (λ m. get_or fronts m None) (sym same) ∙ e in
          let alike : x ≡ g = let both : Some x ≡ Some g = sym here ∙ own in cc in
          let c = (list.exact q).1 (subst (λ y. CanHoldProcess t y.segment q) alike can) in
          let at : get_or xs c.0 0 ≡ q = get_or_default xs c.0 0 q c.1 ∙ c.2 in
          let lt = c.1 in
          let right = h.right c.0 f (omega (arith, lt, le)) c.1 (λ o. other (sym at ∙ o)) (ap (λ m. get_or fronts m None) at ∙ is) in
          let n = length fronts in
          ap (λ m. entry_in n row m q) same ∙ ap (λ m. entry_in n row p m) (sym at) ∙ right ∙ ap (λ m. holds_of t g m f) at ∙ ap (λ y. holds_of t y q f) (sym alike)
      by_row q other k x ne e f is can (inr differs) =
          let old = was.column q k x ne (get_or-set_other fronts p k None None differs ∙ e) f (get_or-set_other fronts p q None None other ∙ is) can in
          let many = length-set fronts p None in
          h.others k q (at_front fronts q f is) differs ∙ ap (λ n. entry_in n before k q) (sym many) ∙ old
