use Rattle.std.proofs.Common.{◌≡◌, ◌+◌, ◌-◌, ◌≤◌, length, map, take, vec_len, vec_capacity}
use Rattle.std.specs.Prelude.{[]}
use Rattle.ooo_board.proofs.carrying.bare.Given as goal

abbrev pub invariant-loop-x : goal.invariant-loop-x
invariant-loop-x l = record {
  items : l.owned.items ≡ map (λ x. (x, [])) (take l.x-index l.numbers);
  room : vec_len l.owned + (length l.numbers - l.x-index) ≤ vec_capacity l.owned;
}
