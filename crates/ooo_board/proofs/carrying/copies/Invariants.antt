use Rattle.std.proofs.Common.{◌≡◌, ◌+◌, ◌-◌, ◌≤◌, length, map, take, vec_len, vec_capacity}
use Rattle.std.specs.Prelude.{[], slice_index_or}
use Rattle.ooo_board.proofs.carrying.copies.Given as goal

abbrev pub invariant-loop-x : goal.invariant-loop-x
invariant-loop-x l = record {
  items : l.copied.items ≡ map (λ x. (x, slice_index_or l.variables x [])) (take l.x-index l.numbers);
  room : vec_len l.copied + (length l.numbers - l.x-index) ≤ vec_capacity l.copied;
}
