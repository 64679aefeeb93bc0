-- Told is what the nodes so far touch.
use Rattle.std.proofs.Common.{◌≡◌, take}
use Rattle.ooo_access.specs.Told.{all_meant, touched_of}
use Rattle.ooo_access.proofs.nodes.told_of.Given as goal

abbrev pub invariant-loop-n : goal.invariant-loop-n
invariant-loop-n l = all_meant l.design.events l.told.items ≡ touched_of l.design (take l.n-index l.nodes)
