use Rattle.std.proofs.Common.{◌∙◌, Bool, ap, sym}
use Rattle.std.specs.Global.{Vec}
use Rattle.ooo_history.specs.declared.run.Piece.{Piece}
use Rattle.ooo_board.specs.Finishing.{shows}
use Rattle.ooo_board.proofs.Made.{all_kept, one_kept, one_left_out}
use Rattle.ooo_board.proofs.finishing.shown_pieces.Goals as goal
use Rattle.ooo_board.proofs.finishing.shown_pieces.Goals.{then-is_shown+in_ok-shown, else-is_shown}

pub loop-piece-preserved : goal.loop-piece-preserved
loop-piece-preserved c =
    let p : Piece → Bool = λ x. shows c.args.cut.now c.args.next x.place in
    let x : Piece = c.piece-item.result in
    elim c.if-is_shown.branch [
      | then-is_shown+in_ok-shown w ↦ one_kept p c.args.pieces.now c.loop-piece.piece-index x c.loop-piece.shown.items c.if-is_shown.shown.items c.loop-piece-test.true c.piece-item.is (sym c.is_shown.ensures ∙ w.if-is_shown.true)
          (ap (λ (v : Vec Piece). v.items) w.shown-is ∙ w.in_ok-shown.ensures) c.loop-piece.invariant
      | else-is_shown w ↦ one_left_out p c.args.pieces.now c.loop-piece.piece-index x c.loop-piece.shown.items c.if-is_shown.shown.items c.loop-piece-test.true c.piece-item.is (sym c.is_shown.ensures ∙ w.if-is_shown.false) (ap (λ (v : Vec Piece). v.items) w.shown-is)
          c.loop-piece.invariant
    ]

pub returns : goal.returns
returns c = all_kept (λ (x : Piece). shows c.args.cut.now c.args.next x.place) c.args.pieces.now c.loop-piece.piece-index c.loop-piece.shown.items c.loop-piece-test.false c.loop-piece.invariant
