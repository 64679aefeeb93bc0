-- The notifications told so far.
use Rattle.std.proofs.Common.{◌≡◌, ℕ, ◌↔◌, Option, take}
use Rattle.std.specs.Prelude.{Contains}
use Rattle.ooo_time.specs.declared.time.Time.{Time}
use Rattle.ooo_access.specs.declared.told.Told.TheVariants.{Notifies}
use Rattle.ooo_access.specs.Notices.{AreInOrder}
use Rattle.ooo_access.proofs.Calling.{HasDirect}
use Rattle.ooo_access.proofs.notices.direct_notices.Given as goal

abbrev pub invariant-loop-one : goal.invariant-loop-one
invariant-loop-one l = HasDirect (take l.one-index l.told) l.notices.items
