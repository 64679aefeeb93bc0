use Rattle.std.proofs.Common.{subst, sym}
use Rattle.ooo_sim.specs.Replies.{IsTextReply}
use Rattle.ooo_sim.proofs.call.of_text.Goals as goal

pub returns-clause-answer : goal.returns-clause-answer
returns-clause-answer g c = record {
  read = c.in_ok-text.text.items;
  told = c.in_ok-text.ensures.text;
  is =
      subst (IsTextReply c.args.wanted c.in_ok-text.text.items) (sym c.without_board.ensures.reply)
      (rw c.deref.ensures.value at c.in_ok-reply_to.ensures);
  board = c.without_board.ensures.board;
}
