-- The rows so far.
use Rattle.std.proofs.Common.{take}
use Rattle.ooo_advance.specs.Links.{AreNoticeRows}
use Rattle.ooo_advance.proofs.links.all_notices.Given as goal

abbrev pub invariant-loop-from : goal.invariant-loop-from
invariant-loop-from l = AreNoticeRows (take l.from-index l.access) l.access l.links.items
