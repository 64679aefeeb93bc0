use Rattle.std.proofs.Common.{◌≡◌, ◌+◌, ◌-◌, ◌≤◌, length, map, take, vec_len, vec_capacity}
use Rattle.std.proofs.Common.{replicate}
use Rattle.ooo_board.proofs.starting.first_variables.Given as goal

abbrev pub invariant-loop-x : goal.invariant-loop-x
invariant-loop-x l = record {
  items : l.made.items ≡ map (λ x. replicate x.length x.start) (take l.x-index l.bound);
  room : vec_len l.made + (length l.bound - l.x-index) ≤ vec_capacity l.made;
}
