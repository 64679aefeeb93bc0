-- Notifications in order.
use Rattle.std.proofs.Common.{◌≡◌, ℕ, zero, suc, ◌+◌, ◌-◌, ◌<◌, ◌≤◌, List, [], ◌∷◌, ◌++◌, length, take, drop, get_or, refl, ap, sym, subst, arith, inl, inr, ◌⊎◌, ◌↔◌, Option, Some, None}
use Rattle.std.specs.Prelude.{Contains, All}
use Rattle.std.proofs.lemmas.Bool.{cases_lt}
use Rattle.std.proofs.lemmas.List.{take-append-drop, get_or_default}
use Rattle.std.proofs.lemmas.List.Kept.{AllPairs-cons}
use Rattle.std.proofs.lemmas.List.Elements.{All-nil, All-cons, All-append, All-take, All-drop, Contains-append_left, Contains-append_right, Contains-append_cases}
use Rattle.ooo_lemmas.proofs.Contained.{in_first, in_later, first_or_later}
use Rattle.ooo_time.specs.declared.time.Time.{Time}
use Rattle.ooo_access.specs.Notices.{Notice, rank_of, IsNoticeBefore, AreInOrder}

same_rank : (s t : Option Time) → rank_of s ≡ rank_of t → s ≡ t
same_rank None None e = refl
same_rank None (Some t) e = absurd (omega arith)
same_rank (Some s) None e = absurd (omega arith)
same_rank (Some s) (Some t) e =
    let n : s.0 ≡ t.0 = omega arith in
    ap (λ (k : ℕ). let u : Time = record { 0 = k } in Some u) n

same_pair : (x y : ℕ) (s t : Option Time) → x ≡ y → s ≡ t → ◌≡◌ {A = Notice} (x, s) (y, t)
same_pair x y s t e f = cc

-- of two notifications one comes before the other, or they are the same
pub one_before : (a b : Notice) → (IsNoticeBefore b a → ⊥) → IsNoticeBefore a b ⊎ (a ≡ b)
one_before a b out =
    elim (cases_lt a.0 b.0) [
      | inl lt ↦ inl (record { event = omega arith; sooner = λ e. absurd (omega arith) })
      | inr ge ↦ elim (cases_lt b.0 a.0) [
        | inl lt ↦ absurd (out (record { event = omega arith; sooner = λ e. absurd (omega arith) }))
        | inr le ↦
            let e : a.0 ≡ b.0 = omega arith in
            elim (cases_lt (rank_of a.1) (rank_of b.1)) [
              | inl lt ↦ inl (record { event = omega arith; sooner = λ _. lt })
              | inr ge2 ↦ elim (cases_lt (rank_of b.1) (rank_of a.1)) [
                | inl lt ↦ absurd (out (record { event = omega arith; sooner = λ _. lt }))
                | inr le2 ↦ inr (same_pair a.0 b.0 a.1 b.1 e (same_rank a.1 b.1 (omega arith)))
              ]
            ]
      ]
    ]

before_trans : (a b c : Notice) → IsNoticeBefore a b → IsNoticeBefore b c → IsNoticeBefore a c
before_trans a b c p q =
    let e = p.event in
    let f = q.event in
    record {
      event = omega arith;
      sooner = λ s. let g = p.sooner (omega arith) in let h = q.sooner (omega arith) in omega arith;
    }

rest_in_order : (x : Notice) (xs : List Notice) → AreInOrder (x ∷ xs) → AreInOrder xs
rest_in_order x xs h = λ i j d lt inside. h (suc i) (suc j) d (omega arith) (omega arith)

all_first : (x : Notice) (xs : List Notice) → AreInOrder (x ∷ xs) → All (IsNoticeBefore x) xs
all_first x xs h = λ k d lt. h 0 (suc k) d (omega arith) (omega arith)

-- what is put before what is later and behind what is sooner is in order
pub inserted : (xs : List Notice) (i : ℕ) (y : Notice) → i ≤ length xs → AreInOrder xs → ((k : ℕ) (d : Notice) → k < i → IsNoticeBefore (get_or xs k d) y) → ((k : ℕ) (d : Notice) → i ≤ k → k < length xs → IsNoticeBefore y (get_or xs k d)) → AreInOrder (take i xs ++ y ∷ drop i xs)
inserted [] zero y le up sooner later = AllPairs-cons IsNoticeBefore y [] (All-nil (IsNoticeBefore y)) up
inserted [] (suc i) y le up sooner later = absurd (omega arith)
inserted (x ∷ xs) zero y le up sooner later = AllPairs-cons IsNoticeBefore y (x ∷ xs) (λ k d lt. later k d (omega arith) lt) up
inserted (x ∷ xs) (suc i) y le up sooner later =
    AllPairs-cons IsNoticeBefore x (take i xs ++ y ∷ drop i xs)
    (All-append (IsNoticeBefore x) (take i xs) (y ∷ drop i xs)
    (All-take (IsNoticeBefore x) i xs (all_first x xs up))
    (All-cons (IsNoticeBefore x) y (drop i xs) (sooner 0 y (omega arith)) (All-drop (IsNoticeBefore x) i xs (all_first x xs up))))
    (inserted xs i y (omega arith) (rest_in_order x xs up) (λ k d lt. sooner (suc k) d (omega arith)) (λ k d ge lt. later (suc k) d (omega arith) (omega arith)))

-- it has what was there, and what is put into it
pub inserted_has : (xs : List Notice) (i : ℕ) (y z : Notice) → Contains (take i xs ++ y ∷ drop i xs) z ↔ (Contains xs z ⊎ (z ≡ y))
inserted_has xs i y z = (
  λ h. elim (Contains-append_cases (take i xs) (y ∷ drop i xs) z h) [
    | inl a ↦ inl (subst (λ w. Contains w z) (take-append-drop i xs) (Contains-append_left (take i xs) (drop i xs) z a))
    | inr a ↦ elim (first_or_later y z (drop i xs) a) [
      | inl e ↦ inr (sym e)
      | inr b ↦ inl (subst (λ w. Contains w z) (take-append-drop i xs) (Contains-append_right (take i xs) (drop i xs) z b))
    ]
  ],
  λ h. elim h [
    | inl a ↦ elim (Contains-append_cases (take i xs) (drop i xs) z (subst (λ w. Contains w z) (sym (take-append-drop i xs)) a)) [
      | inl b ↦ Contains-append_left (take i xs) (y ∷ drop i xs) z b
      | inr b ↦ Contains-append_right (take i xs) (y ∷ drop i xs) z (in_later y z (drop i xs) b)
    ]
    | inr e ↦ subst (λ w. Contains (take i xs ++ y ∷ drop i xs) w) (sym e) (Contains-append_right (take i xs) (y ∷ drop i xs) y (in_first y (drop i xs)))
  ],
)

-- a new notification is behind all that come before one that is sooner
pub behind : (xs : List Notice) (i : ℕ) (y : Notice) → 0 < i → i ≤ length xs → AreInOrder xs → IsNoticeBefore (get_or xs (i - 1) y) y → (k : ℕ) (d : Notice) → k < i → IsNoticeBefore (get_or xs k d) y
behind xs i y pos le up last k d lt =
    elim (cases_lt k (i - 1)) [
      | inl below ↦ before_trans (get_or xs k d) (get_or xs (i - 1) d) y (up k (i - 1) d below (omega arith)) (subst (λ z. IsNoticeBefore z y) (get_or_default xs (i - 1) y d (omega arith)) last)
      | inr ge ↦ let e : k ≡ i - 1 = omega arith in
          subst (λ m. IsNoticeBefore (get_or xs m d) y) (sym e) (subst (λ z. IsNoticeBefore z y) (get_or_default xs (i - 1) y d (omega arith)) last)
    ]

irreflexive : (a : Notice) → IsNoticeBefore a a → ⊥
irreflexive a h = let s = h.sooner refl in omega arith

-- what is neither before the new one nor after it is the new one
pub is_new : (xs : List Notice) (place : ℕ) (new : Notice) → place ≤ length xs → (0 < place → IsNoticeBefore new (get_or xs (place - 1) new) → ⊥) → (0 < place) × (IsNoticeBefore (get_or xs (place - 1) new) new → ⊥) → Contains xs new
is_new xs place new le last there =
    let pos = there.0 in
    elim (one_before (get_or xs (place - 1) new) new (last pos)) [
      | inl b ↦ absurd (there.1 b)
      | inr e ↦ (place - 1, omega arith, e)
    ]

-- what is before the place is before the new one
pub is_behind : (xs : List Notice) (place : ℕ) (new : Notice) → place ≤ length xs → AreInOrder xs → (0 < place → IsNoticeBefore new (get_or xs (place - 1) new) → ⊥) → ((0 < place) × (IsNoticeBefore (get_or xs (place - 1) new) new → ⊥) → ⊥) → (k : ℕ) (d : Notice) → k < place → IsNoticeBefore (get_or xs k d) new
is_behind xs place new le up last out k d lt =
    let pos : 0 < place = omega arith in
    let b : IsNoticeBefore (get_or xs (place - 1) new) new =
    elim (one_before (get_or xs (place - 1) new) new (last pos)) [
      | inl b ↦ b
      | inr e ↦ absurd (out (pos, λ h. irreflexive new (subst (λ z. IsNoticeBefore z new) e h)))
    ] in
    behind xs place new pos le up b k d lt

-- what is there already is no more
pub there_has : (xs : List Notice) (new m : Notice) → Contains xs new → Contains xs m ↔ (Contains xs m ⊎ (m ≡ new))
there_has xs new m is = (λ h. inl h, λ h. elim h [ inl a ↦ a | inr e ↦ subst (λ z. Contains xs z) (sym e) is ])
