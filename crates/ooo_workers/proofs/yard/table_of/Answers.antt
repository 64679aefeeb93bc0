use Rattle.std.proofs.Common.{refl}
use Rattle.ooo_workers.proofs.Calls.{opens}
use Rattle.ooo_workers.proofs.yard.table_of.Goals as goal

pub new-requires : goal.new-requires
new-requires c =
    opens c.args.origin.now.passes _ c.args.origin.now.board.value _ refl refl c.requires.some c.requires.board.1 c.requires.board.0
