use Rattle.ooo_words.proofs.Orders.{one_writing}
use Rattle.ooo_words.proofs.law.one_writing.Goals as goal

pub returns : goal.returns
returns c = one_writing
