use Rattle.std.proofs.Common.{◌≡◌, take}
use Rattle.std.specs.Prelude.{filter}
use Rattle.ooo_board.specs.Finishing.{shows}
use Rattle.ooo_board.proofs.finishing.shown_pieces.Given as goal

abbrev pub invariant-loop-piece : goal.invariant-loop-piece
invariant-loop-piece l = l.shown.items ≡ filter (λ x. shows l.cut l.next x.place) (take l.piece-index l.pieces)
