use Rattle.std.proofs.Common.{◌≡◌, ◌+◌, ◌-◌, ◌≤◌, [], replicate, vec_len, vec_capacity}
use Rattle.ooo_board.proofs.links.empty_lists.Given as goal

abbrev pub invariant-loop-list : goal.invariant-loop-list
invariant-loop-list l = record {
  items : l.lists.items ≡ replicate l._list [];
  room : vec_len l.lists + (l.count - l._list) ≤ vec_capacity l.lists;
}
