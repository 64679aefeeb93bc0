-- What marks tell of the numbers that a list has.
use Rattle.std.proofs.Common.{◌≡◌, ◌∙◌, ap, sym, refl, ℕ, ◌<◌, ◌≤◌, ◌≢◌, nat_eq, List, [], ◌∷◌, ◌++◌, length, Bool, true, false, ◌⊎◌, inl, inr, arith, slice_index_or, slice_set, subst, length-set}
use Rattle.std.specs.Prelude.{◌==◌, ◌||◌, Option, Some, None, slice_get}
use Rattle.std.proofs.lemmas.Bool.{true≢false}
use Rattle.std.proofs.lemmas.Bool.Decides.{eqb_tells}
use Rattle.std.proofs.lemmas.Grind.{get_or-set_at}
use Rattle.std.proofs.lemmas.List.{get_or-set_other, get_or_past}
use Rattle.std.proofs.lemmas.Option.{slice_get_cases, slice_get_past}
use Rattle.ooo_checked.specs.declared.module.CheckedFunction.{CheckedFunction}
use Rattle.ooo_walk.specs.Plans.{Viewed, function_at, member_placed, as_function}
use Rattle.ooo_walk.specs.Reach.{Marks, has, with_function}

-- a number that is there is not added
pub with_known : (seen : List ℕ) (n : ℕ) (o : Option CheckedFunction) → has seen n ≡ true → with_function seen n o ≡ seen
with_known seen n None is = refl
with_known seen n (Some f) is = rw is refl

-- one that isn't is added, if it is a function's
pub with_new : (seen : List ℕ) (n : ℕ) (o : Option CheckedFunction) → has seen n ≡ false → (o ≡ None → ⊥) → with_function seen n o ≡ seen ++ n ∷ []
with_new seen n None is some = absurd (some refl)
with_new seen n (Some f) is some = rw is refl

-- behind the names there is no function
pub no_function : (v : Viewed) (n : ℕ) → length v.places ≤ n → function_at v n ≡ None
no_function v n beyond = ap (λ o. as_function (member_placed v.members o)) (slice_get_past v.places n beyond)

-- what is not marked is within
pub unmarked_within : (marks : List Bool) (n : ℕ) → slice_index_or marks n true ≡ false → n < length marks
unmarked_within marks n is =
    elim (slice_get_cases marks n).1 [ inl w ↦ w.1 | inr w ↦ absurd (true≢false (sym (get_or_past marks n true w.0) ∙ is)) ]

-- what is marked is there, or behind the names
pub marked : (v : Viewed) (seen : List ℕ) (marks : List Bool) (n : ℕ) → Marks (length v.places) seen marks →
    slice_index_or marks n true ≡ true → with_function seen n (function_at v n) ≡ seen
marked v seen marks n m is = elim (slice_get_cases v.places n).1 [
  | inl w ↦ with_known seen n (function_at v n) (sym (m.each n w.1) ∙ is)
  | inr w ↦ ap (λ o. with_function seen n o) (no_function v n w.0)
]

or_three : (a b c : Bool) → (a || (b || c)) ≡ ((a || b) || c)
or_three true b c = refl
or_three false b c = refl

or_false : (a : Bool) → (a || false) ≡ (false || a)
or_false true = refl
or_false false = refl

or_true : (a : Bool) → (a || true) ≡ true
or_true true = refl
or_true false = refl

or_nothing : (a : Bool) → (a || false) ≡ a
or_nothing true = refl
or_nothing false = refl

has_more : (seen : List ℕ) (n k : ℕ) → has (seen ++ n ∷ []) k ≡ (has seen k || k == n)
has_more [] n k = or_false (k == n)
has_more (m ∷ ms) n k = ap (λ b. k == m || b) (has_more ms n k) ∙ or_three (k == m) (has ms k) (k == n)

-- one more that is there and is marked
pub marks_more : (names : ℕ) (seen : List ℕ) (marks : List Bool) (n : ℕ) → n < names → Marks names seen marks →
    Marks names (seen ++ n ∷ []) (slice_set marks n true)
marks_more names seen marks n within m = record {
  all = length-set marks n true ∙ m.all;
  each = λ k h. elim (eqb_tells k n) [
    | inl w ↦ get_or-set_at marks n k true true w.1 (subst (λ x. n < x) (sym m.all) within)
        ∙ sym (has_more seen n k ∙ ap (λ b. has seen k || b) w.0 ∙ or_true (has seen k))
    | inr w ↦ get_or-set_other marks n k true true w.1 ∙ m.each k h
        ∙ sym (has_more seen n k ∙ ap (λ b. has seen k || b) w.0 ∙ or_nothing (has seen k))
  ];
}
