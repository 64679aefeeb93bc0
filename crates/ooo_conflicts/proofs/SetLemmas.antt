-- Sets of numbers that are added one after another.
use Rattle.std.proofs.Common.{◌≡◌, ℕ, List, [], ◌∷◌, ◌++◌, ap, sym, ◌∙◌, subst, inl, inr, ◌⊎◌, ◌↔◌, Bool, Option, true, false}
use Rattle.std.specs.Prelude.{Contains}
use Rattle.std.proofs.lemmas.Bool.{false≢true}
use Rattle.std.proofs.lemmas.List.Elements.{Contains-push, Contains-push_cases, Contains-append_left}
use Rattle.ooo_lemmas.proofs.Contained.{not_in_none}
use Rattle.ooo_time.specs.declared.time.Time.{Time}
use Rattle.ooo_segments.specs.Numbers.{IsIn}
use Rattle.ooo_conflicts.specs.Clashes.{Share}

-- a set has just what another had, and these numbers
pub record Has (old new : List Bool) (numbers : List ℕ) : Type 0 where
  pub has : (n : ℕ) → IsIn new n ↔ (IsIn old n ⊎ Contains numbers n)

pub has_none : (old : List Bool) → Has old old []
has_none old = record { has = λ n. (λ h. inl h, λ h. elim h [ inl a ↦ a | inr b ↦ absurd (not_in_none n b) ]) }

pub has_more : (old now new : List Bool) (numbers : List ℕ) (x : ℕ) → Has old now numbers → ((n : ℕ) → IsIn new n ↔ (IsIn now n ⊎ (n ≡ x))) → Has old new (numbers ++ x ∷ [])
has_more old now new numbers x h g = record {
  has = λ n. (
    λ w. elim ((g n).0 w) [
      | inl a ↦ elim ((h.has n).0 a) [ inl b ↦ inl b | inr b ↦ inr (Contains-append_left numbers (x ∷ []) n b) ]
      | inr e ↦ inr (subst (λ k. Contains (numbers ++ x ∷ []) k) (sym e) (Contains-push numbers x))
    ],
    λ w. elim w [
      | inl a ↦ (g n).1 (inl ((h.has n).1 (inl a)))
      | inr b ↦ elim (Contains-push_cases numbers x n b) [ inl k ↦ (g n).1 (inl ((h.has n).1 (inr k))) | inr e ↦ (g n).1 (inr (sym e)) ]
    ],
  );
}

-- a notification
abbrev pub Notice : Type 0
Notice = ℕ × Option Time

-- a set has just what another had, and the events of these notifications
pub record HasEvents (old new : List Bool) (notices : List Notice) : Type 0 where
  pub has : (e : ℕ) → IsIn new e ↔ (IsIn old e ⊎ ((t : Option Time) × Contains notices (e, t)))

pub events_none : (old : List Bool) → HasEvents old old []
events_none old = record { has = λ e. (λ h. inl h, λ h. elim h [ inl a ↦ a | inr b ↦ absurd (not_in_none (e, b.0) b.1) ]) }

pub events_more : (old now new : List Bool) (notices : List Notice) (x : Notice) → HasEvents old now notices → ((n : ℕ) → IsIn new n ↔ (IsIn now n ⊎ (n ≡ x.0))) → HasEvents old new (notices ++ x ∷ [])
events_more old now new notices x h g = record {
  has = λ e. (
    λ w. elim ((g e).0 w) [
      | inl a ↦ elim ((h.has e).0 a) [ inl b ↦ inl b | inr b ↦ inr (b.0, Contains-append_left notices (x ∷ []) (e, b.0) b.1) ]
      | inr q ↦ inr (x.1, subst (λ k. Contains (notices ++ x ∷ []) (k, x.1)) (sym q) (Contains-push notices x))
    ],
    λ w. elim w [
      | inl a ↦ (g e).1 (inl ((h.has e).1 (inl a)))
      | inr b ↦ elim (Contains-push_cases notices x (e, b.0) b.1) [ inl k ↦ (g e).1 (inl ((h.has e).1 (inr (b.0, k)))) | inr q ↦ (g e).1 (inr (sym (ap (λ (m : Notice). m.0) q))) ]
    ],
  );
}

-- a set has just those of these numbers of which a fact holds
pub record HasThose (P : ℕ → Type 0) (numbers : List ℕ) (set : List Bool) : Type 0 where
  pub has : (n : ℕ) → IsIn set n ↔ (Contains numbers n × P n)

pub those_none : (P : ℕ → Type 0) → HasThose P [] []
those_none P = record { has = λ n. (λ h. absurd cc, λ h. absurd (not_in_none n h.0)) }

pub those_more : (P : ℕ → Type 0) (numbers : List ℕ) (x : ℕ) (set set' : List Bool) → HasThose P numbers set → P x → ((n : ℕ) → IsIn set' n ↔ (IsIn set n ⊎ (n ≡ x))) → HasThose P (numbers ++ x ∷ []) set'
those_more P numbers x set set' h p g = record {
  has = λ n. (
    λ w. elim ((g n).0 w) [
      | inl a ↦ let r = (h.has n).0 a in (Contains-append_left numbers (x ∷ []) n r.0, r.1)
      | inr e ↦ (subst (λ k. Contains (numbers ++ x ∷ []) k) (sym e) (Contains-push numbers x), subst P (sym e) p)
    ],
    λ w. elim (Contains-push_cases numbers x n w.0) [ inl a ↦ (g n).1 (inl ((h.has n).1 (a, w.1))) | inr e ↦ (g n).1 (inr (sym e)) ],
  );
}

pub those_other : (P : ℕ → Type 0) (numbers : List ℕ) (x : ℕ) (set : List Bool) → HasThose P numbers set → (P x → ⊥) → HasThose P (numbers ++ x ∷ []) set
those_other P numbers x set h out = record {
  has = λ n. (
    λ w. let r = (h.has n).0 w in (Contains-append_left numbers (x ∷ []) n r.0, r.1),
    λ w. elim (Contains-push_cases numbers x n w.0) [ inl a ↦ (h.has n).1 (a, w.1) | inr e ↦ absurd (out (subst P (sym e) w.1)) ],
  );
}

-- a number more that isn't shared
pub share_more : (xs ys : List ℕ) (x : ℕ) → (Share xs ys → ⊥) → (Contains ys x → ⊥) → Share (xs ++ x ∷ []) ys → ⊥
share_more xs ys x out no_x h =
    elim (Contains-push_cases xs x h.0 h.1) [ inl a ↦ out (h.0, a, h.2) | inr e ↦ no_x (subst (λ k. Contains ys k) (sym e) h.2) ]

-- the second of two facts, where the first fails
pub or_else : (P Q : Type 0) (r s : Bool) → (r ≡ true) ↔ P → r ≡ false → (s ≡ true) ↔ Q → (s ≡ true) ↔ (P ⊎ Q)
or_else P Q r s p e q = (λ h. inr (q.0 h), λ h. elim h [ inl a ↦ absurd (false≢true (sym e ∙ p.1 a)) | inr b ↦ q.1 b ])

pub share_back : (xs ys : List ℕ) (r : Bool) → (r ≡ true) ↔ Share xs ys → (r ≡ true) ↔ Share ys xs
share_back xs ys r h = (λ e. let s = h.0 e in (s.0, s.2, s.1), λ s. h.1 (s.0, s.2, s.1))
