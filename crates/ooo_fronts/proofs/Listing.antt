-- Lists of the numbers that are put into a set one after another.
use Rattle.std.proofs.Common.{◌≡◌, ◌∙◌, refl, sym, ap, subst, arith, ℕ, ◌+◌, ◌<◌, ◌≤◌, ◌↔◌, ◌⊎◌, inl, inr, Bool, IsTrue, List, [], ◌∷◌, ◌++◌, length, get_or, Result, Ok, Err}
use Rattle.std.specs.Prelude.{All, Contains, IfOk}
use Rattle.std.proofs.lemmas.Bool.{cases_lt}
use Rattle.std.proofs.lemmas.List.{get_or_default, get_or_append_left, get_or_push, length_push}
use Rattle.std.proofs.lemmas.List.Elements.{Contains-get_or}
use Rattle.ooo_segments.specs.Numbers.{IsIn, AreNumbersOf}
use Rattle.ooo_tables.specs.declared.tables.Tables.{Tables}
use Rattle.ooo_fronts.specs.declared.reaching.Relation.{Relation}
use Rattle.ooo_fronts.specs.Fronts.{process_in}
use Rattle.ooo_fronts.specs.Reaching.{AreListsOf, CanBeHeldBy, CanHoldProcess, IsListOf, LeadsTo, Meets, MeetsProcess, Relates, RelatesTo}

-- ---- sets

-- a set has just what another had, and what the first i put in
pub record Adds (old : List Bool) (P : ℕ → ℕ → Type 0) (i : ℕ) (set : List Bool) : Type 0 where
  pub has : (n : ℕ) → IsIn set n ↔ (IsIn old n ⊎ ((j : ℕ) × (j < i) × P j n))

pub adds_none : (old : List Bool) (P : ℕ → ℕ → Type 0) → Adds old P 0 old
adds_none old P = record { has = λ n. (λ h. inl h, λ h. elim h [ inl a ↦ a | inr b ↦ let lt = b.1 in absurd (omega arith) ]) }

pub adds_more : (old : List Bool) (P : ℕ → ℕ → Type 0) (i : ℕ) (set next : List Bool) → Adds old P i set → ((n : ℕ) → IsIn next n ↔ (IsIn set n ⊎ P i n)) → Adds old P (i + 1) next
adds_more old P i set next h more = record {
  has = λ n. (
    λ w. elim ((more n).0 w) [
      | inl a ↦ elim ((h.has n).0 a) [ inl o ↦ inl o | inr b ↦ let lt = b.1 in inr (b.0, omega arith, b.2) ]
      | inr p ↦ inr (i, omega arith, p)
    ],
    λ w. elim w [
      | inl o ↦ (more n).1 (inl ((h.has n).1 (inl o)))
      | inr b ↦ elim (cases_lt b.0 i) [
        | inl below ↦ (more n).1 (inl ((h.has n).1 (inr (b.0, below, b.2))))
        | inr above ↦ let lt = b.1 in let e : b.0 ≡ i = omega arith in (more n).1 (inr (subst (λ j. P j n) e b.2))
      ]
    ],
  );
}

-- the numbers of a set that was empty
pub numbers_of : (P : ℕ → ℕ → Type 0) (i : ℕ) (set : List Bool) (numbers : List ℕ) (Q : ℕ → Type 0) → Adds [] P i set → AreNumbersOf set numbers → ((n : ℕ) → ((j : ℕ) × (j < i) × P j n) ↔ Q n) → IsListOf Q numbers
numbers_of P i set numbers Q h are same = record {
  exact = λ n. (
    λ w. elim ((h.has n).0 ((are.same n).0 w)) [ inl o ↦ absurd (let e : IsIn [] n = o in cc) | inr b ↦ (same n).0 b ],
    λ q. (are.same n).1 ((h.has n).1 (inr ((same n).1 q))),
  );
  ascending = are.ascending;
}

-- ---- what is put in

-- a number, where a test tells what it is to tell
pub tested : (A : Type 0) (test : Bool) (read number : ℕ) (old next : List Bool) → ((m : ℕ) → IsIn next m ↔ (IsIn old m ⊎ (IsTrue test × (m ≡ read)))) → IsTrue test ↔ A → read ≡ number → (m : ℕ) → IsIn next m ↔ (IsIn old m ⊎ (A × (m ≡ number)))
tested A test read number old next h tells e m = (
  λ w. elim ((h m).0 w) [ inl o ↦ inl o | inr b ↦ inr (tells.0 b.0, b.1 ∙ e) ],
  λ w. elim w [ inl o ↦ (h m).1 (inl o) | inr b ↦ (h m).1 (inr (tells.1 b.0, b.1 ∙ sym e)) ],
)

-- a list of several, as it was read
pub list_read : (lists : List (List ℕ)) (k : ℕ) (item lent : List ℕ) → k < length lists → item ≡ get_or lists k item → lent ≡ item → lent ≡ get_or lists k []
list_read lists k item lent lt is same = same ∙ is ∙ get_or_default lists k item [] lt

-- what holds of a value that is there
pub if_ok : {A E : Type 0} (P Q : A → Type 0) (r : Result A E) → ((x : A) → P x → Q x) → IfOk r P → IfOk r Q
if_ok P Q (Ok x) f h = f x h
if_ok P Q (Err e) f h = tt

-- segment b, if segment a stands so to it
abbrev pub Related : Tables → Relation → (a b n : ℕ) → Type 0
Related t k a b n = Relates t k a b × (n ≡ b)

pub related_all : (t : Tables) (k : Relation) (a n : ℕ) → ((j : ℕ) × (j < length t.graph.segments) × Related t k a j n) ↔ RelatesTo t k a n
related_all t k a n = (
  λ w. let e = sym w.2.1 in subst (RelatesTo t k a) e (w.1, w.2.0),
  λ w. (n, w.0, (w.1, refl)),
)

-- the process of segment c, if segment b meets it
abbrev pub Meeting : Tables → (b c n : ℕ) → Type 0
Meeting t b c n = Meets t b c × (n ≡ process_in t c)

pub meets_all : (t : Tables) (b : ℕ) (n : ℕ) → ((j : ℕ) × (j < length t.graph.segments) × Meeting t b j n) ↔ MeetsProcess t b n
meets_all t b n = (
  λ w. (w.0, w.1, sym w.2.1, w.2.0),
  λ w. (w.0, w.1, (w.3, sym w.2)),
)

-- the process of segment a, if process p is in its list
abbrev pub Holding : Tables → (affected : List (List ℕ)) (p a n : ℕ) → Type 0
Holding t affected p a n = Contains (get_or affected a []) p × (n ≡ process_in t a)

pub holding_all : (t : Tables) (affected : List (List ℕ)) (p : ℕ) → AreListsOf (CanHoldProcess t) (length t.graph.segments) affected → (n : ℕ) → ((j : ℕ) × (j < length affected) × Holding t affected p j n) ↔ CanBeHeldBy t p n
holding_all t affected p are n =
    let many = are.many in (
      λ w. let lt = w.1 in let below : w.0 < length t.graph.segments = omega arith in (w.0, below, sym w.2.1, ((are.each w.0 below).exact p).0 w.2.0),
      λ w. let lt = w.1 in (w.0, omega arith, (((are.each w.0 lt).exact p).1 w.3, sym w.2)),
    )

-- what stands in the list at one of these places
abbrev pub Standing : (lists : List (List ℕ)) (places : List ℕ) (j n : ℕ) → Type 0
Standing lists places j n = Contains (get_or lists (get_or places j 0) []) n

pub standing_all : (lists : List (List ℕ)) (places : List ℕ) (n : ℕ) → ((j : ℕ) × (j < length places) × Standing lists places j n) ↔ ((k : ℕ) × Contains places k × Contains (get_or lists k []) n)
standing_all lists places n = (
  λ w. (get_or places w.0 0, Contains-get_or places w.0 0 w.1, w.2),
  λ w.
      let at = w.1 in
      let here : get_or places at.0 0 ≡ w.0 = get_or_default places at.0 0 w.0 at.1 ∙ at.2 in
      (at.0, at.1, subst (λ k. Contains (get_or lists k []) n) (sym here) w.2),
)

-- the number itself
abbrev pub Itself : (numbers : List ℕ) (j n : ℕ) → Type 0
Itself numbers j n = n ≡ get_or numbers j 0

pub added_all : (old set : List Bool) (numbers : List ℕ) (i : ℕ) → length numbers ≡ i → Adds old (Itself numbers) i set → (n : ℕ) → IsIn set n ↔ (IsIn old n ⊎ Contains numbers n)
added_all old set numbers i e h n = (
  λ w. elim ((h.has n).0 w) [
    | inl o ↦ inl o
    | inr b ↦ let lt = b.1 in let below : b.0 < length numbers = omega arith in inr (b.0, below, get_or_default numbers b.0 n 0 below ∙ sym b.2)
  ],
  λ w. elim w [
    | inl o ↦ (h.has n).1 (inl o)
    | inr c ↦ let lt = c.1 in (h.has n).1 (inr (c.0, omega arith, sym (get_or_default numbers c.0 0 n c.1 ∙ c.2)))
  ],
)

-- ---- lists

pub lists_none : (P : ℕ → ℕ → Type 0) → AreListsOf P 0 []
lists_none P = record { many = refl; each = λ k lt. absurd (omega arith) }

pub lists_more : (P : ℕ → ℕ → Type 0) (i : ℕ) (lists : List (List ℕ)) (list : List ℕ) → AreListsOf P i lists → IsListOf (P i) list → AreListsOf P (i + 1) (lists ++ list ∷ [])
lists_more P i lists list h is =
    let many = h.many in
    record {
      many = let more = length_push lists list in omega (arith, many, more);
      each = λ k lt. elim (cases_lt k i) [
        | inl below ↦ subst (IsListOf (P k)) (sym (get_or_append_left lists (list ∷ []) [] k (omega arith))) (h.each k below)
        | inr above ↦
            let e : k ≡ i = omega arith in
            let here : get_or (lists ++ list ∷ []) k [] ≡ list = get_or_push lists list [] k (omega arith) in
            subst (IsListOf (P k)) (sym here) (subst (λ j. IsListOf (P j) list) (sym e) is)
      ];
    }

pub lists_all : (P : ℕ → ℕ → Type 0) (i count : ℕ) (lists : List (List ℕ)) → i ≡ count → AreListsOf P i lists → AreListsOf P count lists
lists_all P i count lists e h = subst (λ n. AreListsOf P n lists) e h

-- those that a segment can hold up, by those that are met by what it leads to
pub held_by_met : (t : Tables) (a : ℕ) (leads : List ℕ) (met : List (List ℕ)) (list : List ℕ) → IsListOf (LeadsTo t a) leads → AreListsOf (MeetsProcess t) (length t.graph.segments) met →
    IsListOf (λ n. (k : ℕ) × Contains leads k × Contains (get_or met k []) n) list → IsListOf (CanHoldProcess t a) list
held_by_met t a leads met list to are h = record {
  exact = λ n. (
    λ w.
        let x = (h.exact n).0 w in
        let by = (to.exact x.0).0 x.1 in
        let m = ((are.each x.0 by.0).exact n).0 x.2 in
        (m.0, m.1, m.2, record { by = x.0; leads = by; meets = m.3 }),
    λ w.
        let by = w.3 in
        (h.exact n).1 (by.by, (to.exact by.by).1 by.leads, ((are.each by.by by.leads.0).exact n).1 (w.0, w.1, w.2, by.meets)),
  );
  ascending = h.ascending;
}

-- to which lists there are
pub leads_within : (t : Tables) (a : ℕ) (leads : List ℕ) (count : ℕ) → IsListOf (LeadsTo t a) leads → count ≡ length t.graph.segments → All (λ k. k < count) leads
leads_within t a leads count to same i d lt =
    let below = ((to.exact (get_or leads i d)).0 (Contains-get_or leads i d lt)).0 in
    omega (arith, below, same)

-- ---- processes

-- the processes of the first i segments are below the count
pub record AreBelow (t : Tables) (i count : ℕ) : Type 0 where
  pub below : (a : ℕ) → a < i → process_in t a < count

pub below_more : (t : Tables) (i count next : ℕ) → AreBelow t i count → count ≤ next → process_in t i < next → AreBelow t (i + 1) next
below_more t i count next h le lt = record {
  below = λ a under. elim (cases_lt a i) [
    | inl first ↦ let here = h.below a first in omega (arith, here, le)
    | inr last ↦ let e : a ≡ i = omega (arith, under, last) in let same = ap (process_in t) e in omega (arith, same, lt)
  ];
}
