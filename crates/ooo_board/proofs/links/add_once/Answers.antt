use Rattle.std.proofs.lemmas.Result.{on_ok_weaker}
use Rattle.ooo_board.proofs.Looking.{adds_pushed}
use Rattle.ooo_board.proofs.links.add_once.Goals as goal

pub returns : goal.returns
returns c =
    on_ok_weaker c.push.result
    (λ pushed. adds_pushed c.args.at c.args.n c.args.lists.now.items c.push.new.self c.index_mut.result.now c.requires c.index_mut.ensures.value pushed) c.push.ensures.ok
