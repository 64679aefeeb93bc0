-- Where the parts of a call go.
use Rattle.std.specs.Prelude.{◌≡◌, ◌+◌, List, length, min}
use Rattle.ooo_bound.specs.declared.expr.BoundExpr.{BoundExpr}
use Rattle.ooo_bound.specs.declared.model.BoundFunction.{BoundFunction}
use Rattle.ooo_layout.specs.Scenes.{home_at}
use Rattle.ooo_lower.specs.declared.code.Code.{Code}
use Rattle.ooo_lower.specs.declared.simples.Site.{Site}
use Rattle.ooo_lower.specs.declared.statements.CallPlaces.{CallPlaces}
use Rattle.ooo_shapes.specs.Shapes.{call_kinds, shape_within}

-- behind the code there is: the first free slot, the node behind the first one, and the one behind the body
pub record IsPlaced (s : Site) (c : Code) (f : BoundFunction) (args : List BoundExpr) (p : CallPlaces) : Type 0 where
  pub free_is : p.free ≡ length c.slots
  pub first_is : p.first ≡ length c.nodes + 1
  pub leave_is : p.leave ≡ p.first + length (call_kinds f) + min (length f.params) (length args) + (shape_within s.spot.depth (home_at s.scene) f.body).size
