use Rattle.std.proofs.Common.{◌≡◌, filter, not, take}
use Rattle.ooo_dispatch.specs.Rules.{has}
use Rattle.ooo_board.proofs.links.not_written.Given as goal

abbrev pub invariant-loop-x : goal.invariant-loop-x
invariant-loop-x l = l.numbers ≡ filter (λ x. not (has l.access.written x)) (take l.x-index l.access.read)
