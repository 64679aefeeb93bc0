-- Bodies without the blocks around all of them.
use Rattle.std.specs.Prelude.{◌≡◌, ℕ, List}
use Rattle.ooo_bound.specs.declared.stat.BoundStat.{BoundStat}
use Rattle.ooo_shapes.specs.declared.around.Around.{Around}
use Rattle.ooo_shapes.specs.Shapes.{Callees, Shape, body_shape}
use Rattle.ooo_shapes.specs.Simples.{Home}
use Rattle.ooo_shapes.specs.Sizes.{Sizes, body_size}
use Rattle.ooo_shapes.specs.Widths.{body_widths}

-- two shapes give the same wherever they stand
pub record GivesSame (x y : Shape) : Type 0 where
  pub nodes_are : (t : Around) (free at next : ℕ) → x.nodes t free at next ≡ y.nodes t free at next
  pub slots_are : x.slots ≡ y.slots
  pub size_is : x.size ≡ y.size

-- the statements inside give the same code as the body, of the same size, and need the same slots
pub record IsBare (inside body : List BoundStat) : Type 0 where
  pub shape_is : (h : Home) (callees : Callees) → GivesSame (body_shape h callees inside) (body_shape h callees body)
  pub size_is : (sizes : Sizes) → body_size sizes inside ≡ body_size sizes body
  pub widths_are : body_widths inside ≡ body_widths body
