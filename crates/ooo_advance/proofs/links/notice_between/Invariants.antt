-- The least of the notifications so far.
use Rattle.std.proofs.Common.{take}
use Rattle.ooo_advance.specs.Orders.{IsLeastOf}
use Rattle.ooo_advance.specs.Walks.{Notifies}
use Rattle.ooo_advance.proofs.LinkLemmas.{notifying}
use Rattle.ooo_advance.proofs.links.notice_between.Given as goal

abbrev pub invariant-loop-notice : goal.invariant-loop-notice
invariant-loop-notice l = IsLeastOf (Notifies (notifying l.from (take l.notice-index l.notice-items)) l.to) l.least
