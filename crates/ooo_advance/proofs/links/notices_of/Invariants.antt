-- The segments so far.
use Rattle.std.proofs.Common.{take}
use Rattle.ooo_advance.specs.Links.{AreNotices}
use Rattle.ooo_advance.proofs.links.notices_of.Given as goal

abbrev pub invariant-loop-to : goal.invariant-loop-to
invariant-loop-to l = AreNotices l.from (take l.to-index l.access) l.row
