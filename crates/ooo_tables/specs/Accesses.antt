-- The accesses of all segments of a design.
use Rattle.std.specs.Prelude.{◌≡◌, ℕ, List, Some, length, slice_get, All}
use Rattle.ooo_code.specs.declared.design.Design.{Design}
use Rattle.ooo_code.specs.declared.segment.Segment.{Segment}
use Rattle.ooo_access.specs.declared.access.Access.{Access}
use Rattle.ooo_access.specs.Access.{IsAccess, IsInOrder}

-- one for each of these segments, which is the access of that segment and is in order
pub record AreAccesses (design : Design) (segments : List Segment) (access : List Access) : Type 0 where
  pub count : length access ≡ length segments
  pub each : (n : ℕ) (segment : Segment) (one : Access) → slice_get segments n ≡ Some segment → slice_get access n ≡ Some one → IsAccess design segment one
  pub in_order : All IsInOrder access
