-- Marks of functions, and numbers below a count, call by call.
use Rattle.std.proofs.Common.{◌≡◌, ℕ, ◌+◌, ◌<◌, ◌≤◌, Bool, true, false, List, length, get_or, take, refl, ap, sym, ◌∙◌, subst, arith, inl, inr, replicate, ◌==◌}
use Rattle.std.specs.Prelude.{◌&&◌, ◌||◌, slice_set, slice_index_or}
use Rattle.std.specs.List.{list_any}
use Rattle.std.proofs.lemmas.Bool.{cases_eq, eq-eqb, ne_eqb, or_right, and_right, cases_lt}
use Rattle.std.proofs.Math.Bool.{or-false}
use Rattle.std.proofs.lemmas.List.{get_or-set_same, get_or-set_other, get_or-replicate, get_or_past, length-replicate}
use Rattle.std.proofs.lemmas.List.Folds.{list_any_more}
use Rattle.std.proofs.lemmas.List.Elements.{All-more, All-weaker}
use Rattle.ooo_calls.specs.declared.call.Call.{Call}
use Rattle.ooo_calls.specs.Marks.{AreBelow, AreMarksOf}

and_true : (b : Bool) → (b && true) ≡ b
and_true true = refl
and_true false = refl

-- one more call, whose functions are below a count that is no less
pub below_more : (cs : List Call) (i m n : ℕ) (d : Call) → i < length cs → m ≤ n → (get_or cs i d).from < n → (get_or cs i d).to < n → AreBelow m (take i cs) → AreBelow n (take (i + 1) cs)
below_more cs i m n d lt le from to below =
    let P : ℕ → Call → Type 0 = λ k x. (x.from < k) × (x.to < k) in
    let weaker : (x : Call) → P m x → P n x = λ x p. let a = p.0 in let b = p.1 in (omega arith, omega arith) in
    All-more (P n) cs i d lt (All-weaker (P m) (P n) weaker (take i cs) below) (from, to)

-- no mark stands in fresh marks
pub marks_none : (test : ℕ → Bool) (count : ℕ) → ((n : ℕ) → test n ≡ false) → AreMarksOf test (replicate count false)
marks_none test count none n = elim (cases_lt n count) [
  | inl lt ↦ get_or-replicate count n false false lt ∙ sym (none n)
  | inr ge ↦ get_or_past (replicate count false) n false (let e = length-replicate count false in omega arith) ∙ sym (none n)
]

-- marks of functions that are tested together with a call: one more call, which marks nothing
pub marks_kept : (test : ℕ → Call → Bool) (cs : List Call) (i : ℕ) (d : Call) (marks : List Bool) → i < length cs → ((n : ℕ) → test n (get_or cs i d) ≡ false) → AreMarksOf (λ n. list_any (test n) (take i cs)) marks → AreMarksOf (λ n. list_any (test n) (take (i + 1) cs)) marks
marks_kept test cs i d marks lt none are n =
    are n ∙ sym (list_any_more (test n) cs i d lt ∙ ap (λ b. list_any (test n) (take i cs) || b) (none n) ∙ or-false (list_any (test n) (take i cs)))

-- one more call, which marks one function
pub marks_more : (test : ℕ → Call → Bool) (cs : List Call) (i at : ℕ) (d : Call) (marks : List Bool) → i < length cs → at < length marks → ((n : ℕ) → test n (get_or cs i d) ≡ (at == n)) → AreMarksOf (λ n. list_any (test n) (take i cs)) marks → AreMarksOf (λ n. list_any (test n) (take (i + 1) cs)) (slice_set marks at true)
marks_more test cs i at d marks lt within one are n =
    let now : test n (get_or cs i d) ≡ (at == n) = one n in
    let more = list_any_more (test n) cs i d lt in
    elim (cases_eq n at) [
      | inl e ↦
          let here : (at == n) ≡ true = eq-eqb at n (sym e) in
          let set : get_or (slice_set marks at true) n false ≡ true = subst (λ k. get_or (slice_set marks at true) k false ≡ true) (sym e) (get_or-set_same marks at true false within) in
          set ∙ sym (more ∙ or_right _ _ (now ∙ here))
      | inr ne ↦
          let away : (at == n) ≡ false = ne_eqb at n (λ e. ne (sym e)) in
          get_or-set_other marks at n true false ne ∙ are n ∙ sym (more ∙ ap (λ b. list_any (test n) (take i cs) || b) (now ∙ away) ∙ or-false (list_any (test n) (take i cs)))
    ]

-- whether a call leads from a function to a target, or to a function that was marked before
abbrev leads : List Bool → ℕ → ℕ → Call → Bool
leads before target n c = (c.from == n) && ((c.to == target) || slice_index_or before c.to false)

-- one more call that leads on
pub round_more : (before : List Bool) (target : ℕ) (cs : List Call) (i : ℕ) (d : Call) (marks : List Bool) → i < length cs → (get_or cs i d).from < length marks → (((get_or cs i d).to == target) || slice_index_or before (get_or cs i d).to false) ≡ true → AreMarksOf (λ n. list_any (leads before target n) (take i cs)) marks → AreMarksOf (λ n. list_any (leads before target n) (take (i + 1) cs)) (slice_set marks (get_or cs i d).from true)
round_more before target cs i d marks lt within on are =
    let c : Call = get_or cs i d in
    marks_more (leads before target) cs i c.from d marks lt within (λ n. ap (λ b. (c.from == n) && b) on ∙ and_true (c.from == n)) are

-- one more call that doesn't
pub round_kept : (before : List Bool) (target : ℕ) (cs : List Call) (i : ℕ) (d : Call) (marks : List Bool) → i < length cs → (((get_or cs i d).to == target) || slice_index_or before (get_or cs i d).to false) ≡ false → AreMarksOf (λ n. list_any (leads before target n) (take i cs)) marks → AreMarksOf (λ n. list_any (leads before target n) (take (i + 1) cs)) marks
round_kept before target cs i d marks lt off are =
    let c : Call = get_or cs i d in
    marks_kept (leads before target) cs i d marks lt (λ n. and_right (c.from == n) _ off) are
