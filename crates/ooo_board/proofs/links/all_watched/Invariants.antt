use Rattle.std.proofs.Common.{◌≡◌, ◌+◌, ◌-◌, ◌≤◌, length, map, take, vec_len, vec_capacity}
use Rattle.ooo_board.specs.Links.{watched_from}
use Rattle.ooo_board.proofs.links.all_watched.Given as goal

abbrev pub invariant-loop-one : goal.invariant-loop-one
invariant-loop-one l = record {
  items : l.lists.items ≡ map (λ a. watched_from a 0 l.design.channels) (take l.one-index l.access);
  room : vec_len l.lists + (length l.access - l.one-index) ≤ vec_capacity l.lists;
}
