use Rattle.std.proofs.Common.{length, ◌∙◌}
use Rattle.ooo_board.proofs.Looking.{found_has}
use Rattle.ooo_board.proofs.links.contains.Goals as goal

pub returns : goal.returns
returns c =
    c.is_ok.ensures.value
    ∙ found_has c.args.numbers.now c.args.x (length c.args.numbers.now) c.binary_search.result c.requires c.binary_search.ensures.bound c.binary_search.ensures.position
