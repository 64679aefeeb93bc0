use Rattle.std.proofs.Common.{◌≡◌, ◌++◌, length, reverse}
use Rattle.ooo_members.proofs.members.reversed.Given as goal

abbrev pub invariant-parts : goal.invariant-parts
invariant-parts g l = l.all ++ reverse l.left ≡ reverse l.fn.items

abbrev pub decreases-parts : goal.decreases-parts
decreases-parts g l = length l.left
