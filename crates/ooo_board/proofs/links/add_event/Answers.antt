use Rattle.std.proofs.lemmas.Result.{on_ok_weaker}
use Rattle.ooo_board.proofs.Looking.{events_on}
use Rattle.ooo_board.proofs.links.add_event.Goals as goal

pub returns-in-Some : goal.returns-in-Some
returns-in-Some c =
    on_ok_weaker c.add_once.result
    (λ adds. events_on c.args.design.now c.args.e c.in-Some.c c.args.event c.args.lists.now.items c.add_once.new.lists.items c.requires.event c.in-Some.ensures.1 adds c.requires.so_far) c.add_once.ensures
