-- Sets of numbers that are added one after another.
use Rattle.std.proofs.Common.{◌≡◌, ℕ, ◌+◌, List, [], ◌∷◌, ◌++◌, ap, sym, ◌∙◌, subst, inl, inr, ◌⊎◌, ◌↔◌, Bool, Some, None}
use Rattle.std.specs.Prelude.{Contains}
use Rattle.std.proofs.lemmas.List.Elements.{Contains-push, Contains-push_cases, Contains-append_left, Contains-append_right, Contains-append_cases}
use Rattle.ooo_lemmas.proofs.Contained.{not_in_none}
use Rattle.ooo_segments.specs.Numbers.{IsIn}
use Rattle.ooo_access.specs.declared.told.Told.{Told}
use Rattle.ooo_access.specs.declared.told.Part.{Part}
use Rattle.ooo_access.specs.Told.{number_of, IsTold}

-- a set has just what another had, and these numbers
pub record Has (old new : List Bool) (numbers : List ℕ) : Type 0 where
  pub has : (n : ℕ) → IsIn new n ↔ (IsIn old n ⊎ Contains numbers n)

-- no number was added
pub has_none : (old : List Bool) → Has old old []
has_none old = record { has = λ n. (λ h. inl h, λ h. elim h [ inl a ↦ a | inr b ↦ absurd (not_in_none n b) ]) }

-- more numbers
pub has_more : (old now new : List Bool) (xs ys : List ℕ) → Has old now xs → ((n : ℕ) → IsIn new n ↔ (IsIn now n ⊎ Contains ys n)) → Has old new (xs ++ ys)
has_more old now new xs ys h g = record {
  has = λ n. (
    λ w. elim ((g n).0 w) [
      | inl a ↦ elim ((h.has n).0 a) [ inl b ↦ inl b | inr b ↦ inr (Contains-append_left xs ys n b) ]
      | inr b ↦ inr (Contains-append_right xs ys n b)
    ],
    λ w. elim w [
      | inl a ↦ (g n).1 (inl ((h.has n).1 (inl a)))
      | inr b ↦ elim (Contains-append_cases xs ys n b) [ inl k ↦ (g n).1 (inl ((h.has n).1 (inr k))) | inr k ↦ (g n).1 (inr k) ]
    ],
  );
}

-- a set has just the numbers that are told in a part
pub record HasTold (p : Part) (told : List Told) (set : List Bool) : Type 0 where
  pub has : (n : ℕ) → IsIn set n ↔ IsTold p n told

told_earlier : (p : Part) (n : ℕ) (told : List Told) (t : Told) → IsTold p n told → IsTold p n (told ++ t ∷ [])
told_earlier p n told t h = record { one = h.one; among = Contains-append_left told (t ∷ []) h.one h.among; is = h.is }

told_now : (p : Part) (n : ℕ) (told : List Told) (t : Told) → IsTold p n (told ++ t ∷ []) → IsTold p n told ⊎ (number_of p t ≡ Some n)
told_now p n told t h =
    elim (Contains-push_cases told t h.one h.among) [
      | inl a ↦ inl (record { one = h.one; among = a; is = h.is })
      | inr e ↦ inr (subst (λ u. number_of p u ≡ Some n) (sym e) h.is)
    ]

-- nothing is told at first
pub told_none : (p : Part) → HasTold p [] []
told_none p = record { has = λ n. (λ h. absurd cc, λ h. absurd (not_in_none h.one h.among)) }

-- a thing of the part is told
pub told_part : (p : Part) (told : List Told) (t : Told) (x : ℕ) (set set' : List Bool) → HasTold p told set → number_of p t ≡ Some x → ((n : ℕ) → IsIn set' n ↔ (IsIn set n ⊎ (n ≡ x))) → HasTold p (told ++ t ∷ []) set'
told_part p told t x set set' h is g = record {
  has = λ n. (
    λ w. elim ((g n).0 w) [
      | inl a ↦ told_earlier p n told t ((h.has n).0 a)
      | inr e ↦ record { one = t; among = Contains-push told t; is = is ∙ ap Some (sym e) }
    ],
    λ w. elim (told_now p n told t w) [
      | inl a ↦ (g n).1 (inl ((h.has n).1 a))
      | inr e ↦ let q : n ≡ x = cc in (g n).1 (inr q)
    ],
  );
}

-- a thing of another part is told
pub told_other : (p : Part) (told : List Told) (t : Told) (set : List Bool) → HasTold p told set → number_of p t ≡ None → HasTold p (told ++ t ∷ []) set
told_other p told t set h is = record {
  has = λ n. (
    λ w. told_earlier p n told t ((h.has n).0 w),
    λ w. elim (told_now p n told t w) [ inl a ↦ (h.has n).1 a | inr e ↦ absurd cc ],
  );
}
