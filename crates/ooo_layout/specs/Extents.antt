-- How large shapes are.
use Rattle.std.specs.Prelude.{◌≡◌, ℕ, ◌+◌, ◌≤◌, max, List, length, Option, Some, None, slice_get}
use Rattle.ooo_bound.specs.declared.expr.BoundExpr.{BoundExpr}
use Rattle.ooo_bound.specs.declared.model.Bound.{Bound}
use Rattle.ooo_bound.specs.declared.model.BoundFunction.{BoundFunction}
use Rattle.ooo_bound.specs.declared.stat.BoundStat.{BoundStat}
use Rattle.ooo_bound.specs.declared.stat.LinedSimple.{LinedSimple}
use Rattle.ooo_layout.specs.declared.extents.Extent.{Extent}
use Rattle.ooo_layout.specs.declared.extents.Outline.{Outline}
use Rattle.ooo_layout.specs.declared.scene.Known.{Known}
use Rattle.ooo_shapes.specs.Simples.{Home}
use Rattle.ooo_shapes.specs.Shapes.{Shape, Callees, after_shape, body_shape, call_kinds, callees_within, empty, function_widths, lined_shapes, loop_shape, shape_of, test_or_true, then}

-- a number of nodes where functions are called, which go by the static events of the process and by the callees
abbrev pub Count : Type 0
Count = Home → Callees → ℕ

-- a process of a model that has these static events
abbrev pub home_in : Bound → (sensitive : List ℕ) → Home
home_in b sensitive = record { model = b; sensitive = sensitive }

-- so many nodes wherever calls are nested so deep at least as the extent says
abbrev pub Measures : Extent → Bound → Count → Type 0
Measures e b count =
    (sensitive : List ℕ) (depth : ℕ) → e.depth ≤ depth →
    e.nodes ≡ count (home_in b sensitive) (callees_within depth (home_in b sensitive))

-- two parts one after the other
abbrev pub IsThen : (a b e : Extent) → Type 0
IsThen a b e = (e.nodes ≡ a.nodes + b.nodes) × (e.depth ≡ max a.depth b.depth)

-- a node, and then a part or the other way round
abbrev pub IsOneMore : (a e : Extent) → Type 0
IsOneMore a e = (e.nodes ≡ 1 + a.nodes) × (e.depth ≡ a.depth)

-- how many nodes a call of a function has, but for its arguments
abbrev pub called_size : Home → Callees → BoundFunction → ℕ
called_size h callees f = 1 + (length (call_kinds f) + ((body_shape h callees f.body).size + 1))

-- the extent of a call of a function but for its arguments and for the call itself
abbrev pub IsExtentOf : Extent → Bound → BoundFunction → Type 0
IsExtentOf e b f = Measures e b (λ h callees. called_size h callees f)

-- the extent of a call of a function in this sense, and the slots that the function's locals need
pub record IsOutlineOf (o : Outline) (b : Bound) (f : BoundFunction) : Type 0 where
  pub extent_is : IsExtentOf o.extent b f
  pub widths_are : o.widths ≡ function_widths f

-- what is known are the outlines of functions, by their numbers
abbrev pub AreOutlines : Bound → List (Option Outline) → Type 0
AreOutlines b known =
    (f : ℕ) (function : BoundFunction) (o : Outline) →
    slice_get b.functions f ≡ Some function → slice_get known f ≡ Some (Some o) → IsOutlineOf o b function

abbrev pub IsKnown : Known → Type 0
IsKnown known = AreOutlines known.model.now known.outlines.now

-- the statement after `else`, if there is one
abbrev pub else_shape : Home → Callees → Option BoundStat → Shape
else_shape h callees None = empty
else_shape h callees (Some s) = shape_of h callees s

-- a `for`
abbrev pub for_shape : Home → Callees → (line : ℕ) → List LinedSimple → Option BoundExpr → Option LinedSimple → BoundStat → Shape
for_shape h callees line begin e after a =
    then (lined_shapes h callees begin) (loop_shape line (test_or_true e) (after_shape h callees after) (shape_of h callees a))
