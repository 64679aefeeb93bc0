-- How large the shapes of statements with parts are.
use Rattle.std.proofs.Common.{◌≡◌, ◌⊎◌, inl, inr, ◌∙◌, refl, ap, sym, subst, get_or, ℕ, zero, suc, ◌+◌, ◌<◌, ◌≤◌, List, [], ◌∷◌, drop, length, min, Option, Some, None, arith, add-one, replicate}
use Rattle.std.specs.Prelude.{slice_get, slice_set}
use Rattle.std.proofs.Math.Seq.{drop-cons}
use Rattle.ooo_bound.specs.declared.expr.BoundExpr.{BoundExpr}
use Rattle.ooo_bound.specs.declared.model.Bound.{Bound}
use Rattle.ooo_bound.specs.declared.model.BoundFunction.{BoundFunction}
use Rattle.ooo_bound.specs.declared.stat.BoundStat.{BoundStat}
use Rattle.ooo_bound.specs.declared.stat.BoundTarget.{BoundTarget}
use Rattle.ooo_layout.specs.declared.extents.Extent.{Extent}
use Rattle.ooo_layout.specs.declared.extents.Outline.{Outline}
use Rattle.ooo_layout.specs.Extents.{AreOutlines, Count, IsExtentOf, IsOneMore, IsOutlineOf, IsThen, Measures, home_in}
use Rattle.ooo_shapes.specs.Simples.{Home}
use Rattle.ooo_shapes.specs.Shapes.{Callees, Shape, body_shape, callee_by, callees_within, call_kinds, call_shape, shape_of}

-- so many nodes, and then the rest, are the whole
abbrev pub MeasuresBut : Extent → Bound → (rest whole : Count) → Type 0
MeasuresBut e m rest whole =
    (sensitive : List ℕ) (depth : ℕ) → e.depth ≤ depth →
    let h = home_in m sensitive in
    e.nodes + rest h (callees_within depth h) ≡ whole h (callees_within depth h)

module _ (m : Bound) where
  pub plain_measures : (e : Extent) (n : ℕ) → e.nodes ≡ n → Measures e m (λ h cs. n)
  plain_measures e n h = λ s d le. h

  pub then_measures : (a b e : Extent) (x y : Count) → Measures a m x → Measures b m y → IsThen a b e → Measures e m (λ h cs. x h cs + y h cs)
  then_measures a b e x y p q t =
      λ s d le. omega (arith, t.0, p s d (omega (arith, t.1, le)), q s d (omega (arith, t.1, le)))

  pub more_measures : (a e : Extent) (x : Count) → Measures a m x → IsOneMore a e → Measures e m (λ h cs. 1 + x h cs)
  more_measures a e x p t = λ s d le. omega (arith, t.0, p s d (omega (arith, t.1, le)))

  -- a loop that has nothing before its test
  pub loop_measures : (a e : Extent) (x : Count) → Measures a m x → IsOneMore a e → Measures e m (λ h cs. 0 + (1 + x h cs))
  loop_measures a e x p t = λ s d le. omega (arith, t.0, p s d (omega (arith, t.1, le)))

  pub measures_more : (a e : Extent) (x : Count) → Measures a m x → IsOneMore a e → Measures e m (λ h cs. x h cs + 1)
  measures_more a e x p t = λ s d le. omega (arith, t.0, p s d (omega (arith, t.1, le)))

  pub same_measures : (e : Extent) (x y : Count) → ((h : Home) (cs : Callees) → x h cs ≡ y h cs) → Measures e m x → Measures e m y
  same_measures e x y same p = λ s d le. p s d le ∙ same (home_in m s) (callees_within d (home_in m s))

  -- a statement that has this shape
  pub stat_measures : (e : Extent) (stat : BoundStat) (x : Home → Callees → Shape) → ((h : Home) (cs : Callees) → shape_of h cs stat ≡ x h cs) → Measures e m (λ h cs. (x h cs).size) → Measures e m (λ h cs. (shape_of h cs stat).size)
  stat_measures e stat x same p =
      same_measures e (λ h cs. (x h cs).size) (λ h cs. (shape_of h cs stat).size) (λ h cs. ap (λ (s : Shape). s.size) (sym (same h cs))) p

  -- one more part
  pub but_less : (all e new : Extent) (x rest less whole : Count) → ((h : Home) (cs : Callees) → rest h cs ≡ x h cs + less h cs) → MeasuresBut all m rest whole → Measures e m x → IsThen all e new → MeasuresBut new m less whole
  but_less all e new x rest less whole same p q t =
      λ s d le.
      let h = home_in m s in
      omega (arith, t.0, p s d (omega (arith, t.1, le)), q s d (omega (arith, t.1, le)), same h (callees_within d h))

  pub but_nothing : (e : Extent) (rest whole : Count) → ((h : Home) (cs : Callees) → rest h cs ≡ 0) → MeasuresBut e m rest whole → Measures e m whole
  but_nothing e rest whole none p =
      λ s d le. let h = home_in m s in omega (arith, p s d le, none h (callees_within d h))

  -- ---- calls

  no_callee : (depth f : ℕ) (h : Home) → slice_get h.model.functions f ≡ None → callees_within depth h f ≡ None
  no_callee zero f h e = refl
  no_callee (suc d) f h e = ap (callee_by (body_shape h (callees_within d h))) e

  pub no_call_measures : (e : Extent) (f : ℕ) (line : ℕ) (into : BoundTarget) (args : List BoundExpr) → slice_get m.functions f ≡ None → e.nodes ≡ 0 → Measures e m (λ h cs. (call_shape h line into args (cs f)).size)
  no_call_measures e f line into args none n =
      λ s d le.
      let h = home_in m s in
      n ∙ sym (ap (λ c. (call_shape h line into args c).size) (no_callee d f h none))

  call_size_at : (called e : Extent) (function : BoundFunction) (f given : ℕ) (line : ℕ) (into : BoundTarget) (args : List BoundExpr) → slice_get m.functions f ≡ Some function → IsExtentOf called m function → given ≡ min (length function.params) (length args) → e.nodes ≡ called.nodes + given → e.depth ≡ 1 + called.depth → (s : List ℕ) (d : ℕ) → e.depth ≤ d → e.nodes ≡ (call_shape (home_in m s) line into args (callees_within d (home_in m s) f)).size
  call_size_at called e function f given line into args found b g n k s zero le = absurd (omega (arith, k, le))
  call_size_at called e function f given line into args found b g n k s (suc d) le =
      let h = home_in m s in
      let size = b s d (omega (arith, k, le)) in
      let here : e.nodes ≡ 1 + (length (call_kinds function) + (min (length function.params) (length args) + ((body_shape h (callees_within d h) function.body).size + 1))) = omega (arith, n, g, size) in
      here ∙ sym (ap (λ c. (call_shape h line into args (callee_by (body_shape h (callees_within d h)) c)).size) found)

  pub call_measures : (called e : Extent) (function : BoundFunction) (f given : ℕ) (line : ℕ) (into : BoundTarget) (args : List BoundExpr) → slice_get m.functions f ≡ Some function → IsExtentOf called m function → given ≡ min (length function.params) (length args) → e.nodes ≡ called.nodes + given → e.depth ≡ 1 + called.depth → Measures e m (λ h cs. (call_shape h line into args (cs f)).size)
  call_measures called e function f given line into args found b g n k =
      λ s d le. call_size_at called e function f given line into args found b g n k s d le

  -- ---- what is known

  no_outlines : (n f : ℕ) (e : Outline) → slice_get (replicate n None) f ≡ Some (Some e) → ⊥
  no_outlines zero f e h = cc
  no_outlines (suc n) zero e h = cc
  no_outlines (suc n) (suc f) e h = no_outlines n f e h

  -- nothing is known at first
  pub none_known : (known : List (Option Outline)) (n : ℕ) → known ≡ replicate n None → AreOutlines m known
  none_known known n is f function e found h = absurd (no_outlines n f e (sym (ap (λ k. slice_get k f) is) ∙ h))

  after_set : (xs : List (Option Outline)) (i j : ℕ) (y : Option Outline) (z : Outline) → slice_get (slice_set xs i y) j ≡ Some (Some z) → ((j ≡ i) × (y ≡ Some z)) ⊎ (slice_get xs j ≡ Some (Some z))
  after_set [] i j y z h = inr h
  after_set (x ∷ xs) zero zero y z h = inl (refl, cc)
  after_set (x ∷ xs) zero (suc j) y z h = inr h
  after_set (x ∷ xs) (suc i) zero y z h = inr h
  after_set (x ∷ xs) (suc i) (suc j) y z h = elim (after_set xs i j y z h) [ inl p ↦ inl (ap suc p.0, p.1) | inr q ↦ inr q ]

  same_function : (fs : List BoundFunction) (i j : ℕ) (f g : BoundFunction) → j ≡ i → slice_get fs i ≡ Some f → slice_get fs j ≡ Some g → f ≡ g
  same_function fs i j f g e h k = let both : Some f ≡ Some g = sym h ∙ ap (slice_get fs) (sym e) ∙ k in cc

  same_outline : (a b : Outline) → Some a ≡ Some b → a ≡ b
  same_outline a b h = cc

  -- one more is known
  pub more_known : (known new : List (Option Outline)) (i : ℕ) (e : Outline) (function : BoundFunction) → AreOutlines m known → slice_get m.functions i ≡ Some function → IsOutlineOf e m function → new ≡ slice_set known i (Some e) → AreOutlines m new
  more_known known new i e function all found is set f other o foundf h =
      elim (after_set known i f (Some e) o (sym (ap (λ k. slice_get k f) set) ∙ h)) [
        | inl p ↦
            subst (λ x. IsOutlineOf x m other) (same_outline e o p.1) (subst (λ g. IsOutlineOf e m g) (same_function m.functions i f function other p.0 found foundf) is)
        | inr q ↦ all f other o foundf q
      ]

-- ---- one after the other

pub from_part : {A : Type 0} (xs : List A) (i : ℕ) (x : A) → i < length xs → x ≡ get_or xs i x → drop i xs ≡ x ∷ drop (i + 1) xs
from_part xs i x lt e = rw add-one (drop-cons xs i x lt ∙ ap (λ y. y ∷ drop (suc i) xs) (sym e))
