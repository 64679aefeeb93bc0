-- What lowering a process adds.
use Rattle.std.specs.Prelude.{◌≡◌, [], ◌++◌, length}
use Rattle.ooo_code.specs.declared.design.Proc.{Proc}
use Rattle.ooo_bound.specs.declared.model.Bound.{Bound}
use Rattle.ooo_bound.specs.declared.model.BoundProcess.{BoundProcess}
use Rattle.ooo_lower.specs.declared.code.Code.{Code}
use Rattle.ooo_shapes.specs.Designs.{process_at, process_nodes, process_size}
use Rattle.std.specs.Prelude.{◌+◌}

-- the nodes of a process are added, which is this one; no slot is left
pub record HasProcess (b : Bound) (process : BoundProcess) (p : Proc) (old new : Code) : Type 0 where
  pub is : p ≡ process_at b process (length old.nodes)
  pub nodes_are : new.nodes ≡ old.nodes ++ process_nodes b process (length old.nodes)
  pub slots_are : new.slots ≡ []
  pub count_is : length new.nodes ≡ length old.nodes + process_size b process
