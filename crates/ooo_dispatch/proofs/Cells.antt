-- The cells of a variable that a segment uses are made by activations that it may see.
use Rattle.std.proofs.Common.{◌≡◌, ℕ, zero, suc, ◌<◌, ◌+◌, ◌==◌, ◌⊎◌, inl, inr, List, [], ◌∷◌, length, Bool, true, false, ◌&&◌, ◌||◌, if◌then◌else◌, refl, sym, ap, ◌∙◌, subst, arith}
use Rattle.std.specs.Prelude.{slice_index_or}
use Rattle.ooo_time.specs.declared.stamp.Stamp.{Stamp}
use Rattle.ooo_time.specs.Stamps.{is_before}
use Rattle.ooo_value.specs.declared.bound.BoundVariable.{BoundVariable}
use Rattle.ooo_value.specs.declared.values.Value.{Value}
use Rattle.ooo_access.specs.declared.access.Access.{Access}
use Rattle.ooo_conflicts.specs.Clashes.{ShareVariable}
use Rattle.ooo_schedules.specs.Design.{only}
use Rattle.ooo_schedules.specs.Model.{Act}
use Rattle.ooo_schedules.specs.Program.{sees}
use Rattle.ooo_schedules.specs.Tables.{program}
use Rattle.ooo_dispatch.specs.declared.reads.Reads.{Reads}
use Rattle.ooo_dispatch.specs.Rules.{Rules, access_of, cells_after, clash, has, outcome_of, tables, uses, variables_for}
use Rattle.ooo_dispatch.specs.Boards.{AreRules}
use Rattle.ooo_dispatch.proofs.Calls.{IsThere, clash_yes, has_yes, or_left, or_right, or_true, there_if}

-- the cells for a segment, of a variable that it uses
pub variables_at : (r : Rules) (g n : ℕ) (vs : List BoundVariable) (ys : List (Act Stamp Reads)) (x m : ℕ) → x < length vs → m ≡ n + x → uses r g m ≡ true →
    slice_index_or (variables_for r g n vs ys) x [] ≡ cells_after r m ys
variables_at r g n [] ys x m lt e u = absurd (omega (arith, lt))
variables_at r g n (v ∷ vs) ys zero m lt e u =
    let same : n ≡ m = omega (arith, e) in
    subst (λ k. (if uses r g k then cells_after r k ys else []) ≡ cells_after r m ys) (sym same) (ap (λ b. if b then cells_after r m ys else []) u)
variables_at r g n (v ∷ vs) ys (suc x) m lt e u = variables_at r g (suc n) vs ys x m (omega (arith, lt)) (omega (arith, e)) u

-- there are cells for each variable
pub variables_count : (r : Rules) (g n : ℕ) (vs : List BoundVariable) (ys : List (Act Stamp Reads)) → length (variables_for r g n vs ys) ≡ length vs
variables_count r g n [] ys = refl
variables_count r g n (v ∷ vs) ys = ap suc (variables_count r g (suc n) vs ys)

-- what a segment of a process may see at a stamp
abbrev pub seen_by : Rules → (p g : ℕ) → Stamp → Act Stamp Reads → Bool
seen_by r p g s y = sees (program (tables r)) p g s y

module _ (r : Rules) (rules : AreRules r) where
  -- who writes a variable clashes with who uses it
  writes_use : (a g x : ℕ) → has (access_of r a).written x ≡ true → uses r g x ≡ true → clash r a g false ≡ true
  writes_use a g x w u = clash_yes r rules a g i j false (inl (inl (at (or_true (has (access_of r g).read x) (has (access_of r g).written x) u))))
    where
      i : IsThere r a
      i = there_if r (λ c. has c.written x) refl a w

      j : IsThere r g
      j = there_if r (λ c. has c.read x || has c.written x) refl g u

      written : (c : Access) → access_of r a ≡ c → has c.written x ≡ true
      written c e = subst (λ c. has c.written x ≡ true) e w

      at : (has (access_of r g).read x ≡ true) ⊎ (has (access_of r g).written x ≡ true) → ShareVariable i.access j.access
      at (inl k) = inr (inl (x, has_yes i.access.written x (written i.access i.same), has_yes j.access.read x (subst (λ c. has c.read x ≡ true) j.same k)))
      at (inr k) = inl (x, has_yes i.access.written x (written i.access i.same), has_yes j.access.written x (subst (λ c. has c.written x ≡ true) j.same k))

  pub seen_clash : (p g : ℕ) (s : Stamp) (y : Act Stamp Reads) → clash r y.segment g false ≡ true → seen_by r p g s y ≡ true
  seen_clash p g s y c =
      or_right (y.process == p) (clash r y.segment g false || (is_before y.stamp s && clash r y.segment g true))
      (or_left (clash r y.segment g false) (is_before y.stamp s && clash r y.segment g true) c)

  pub cells_kept : (p g : ℕ) (s : Stamp) (x : ℕ) → uses r g x ≡ true → (ys : List (Act Stamp Reads)) → cells_after r x (only (seen_by r p g s) ys) ≡ cells_after r x ys
  cells_kept p g s x u [] = refl
  cells_kept p g s x u (y ∷ ys) = at (has (access_of r y.segment).written x) refl (seen_by r p g s y) refl (cells_kept p g s x u ys)
    where
      cells : List Value
      cells = slice_index_or (outcome_of r y).deed.variables x []

      at :
          (w : Bool) → has (access_of r y.segment).written x ≡ w → (b : Bool) → seen_by r p g s y ≡ b → cells_after r x (only (seen_by r p g s) ys) ≡ cells_after r x ys →
          cells_after r x (if b then y ∷ only (seen_by r p g s) ys else only (seen_by r p g s) ys) ≡ (if w then cells else cells_after r x ys)
      at true h true k rest = ap (λ w. if w then cells else cells_after r x (only (seen_by r p g s) ys)) h
      at true h false k rest = absurd (let c : true ≡ false = sym (seen_clash p g s y (writes_use y.segment g x h u)) ∙ k in cc)
      at false h true k rest = ap (λ w. if w then cells else cells_after r x (only (seen_by r p g s) ys)) h ∙ rest
      at false h false k rest = rest
