use Rattle.std.proofs.Common.{◌≡◌, ◌%◌, ◌^◌, take}
use Rattle.std.specs.List.{sum, sum_by}
use Rattle.ooo_history.specs.declared.run.Piece.{Piece}
use Rattle.ooo_sim.proofs.summary.byte_sum.Given as goal

abbrev pub invariant-pieces : goal.invariant-pieces
invariant-pieces l = l.total ≡ sum_by (λ (p : Piece). sum p.bytes) (take l.piece-index l.pieces) % 2 ^ 32
