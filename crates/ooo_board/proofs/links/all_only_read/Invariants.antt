use Rattle.std.proofs.Common.{◌≡◌, ◌+◌, ◌-◌, ◌≤◌, length, map, take, vec_len, vec_capacity}
use Rattle.ooo_board.specs.Links.{only_read}
use Rattle.ooo_board.proofs.links.all_only_read.Given as goal

abbrev pub invariant-loop-one : goal.invariant-loop-one
invariant-loop-one l = record {
  items : l.lists.items ≡ map (only_read) (take l.one-index l.access);
  room : vec_len l.lists + (length l.access - l.one-index) ≤ vec_capacity l.lists;
}
