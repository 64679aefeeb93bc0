use Rattle.std.proofs.lemmas.Result.{on_ok_weaker}
use Rattle.ooo_layout.specs.Scenes.{home_at}
use Rattle.ooo_lower.specs.Tasks.{left_of}
use Rattle.ooo_lower.proofs.Left.{goes_split}
use Rattle.ooo_lower.proofs.simples.Site.take_do.Goals as goal

pub returns : goal.returns
returns c =
    let home = home_at c.args.self.scene in
    on_ok_weaker c.split_do.result (goes_split _ (left_of home c.split_do.new.tasks) c.in-Ok.found c.args.code.now c.in-Ok.ensures) c.split_do.ensures
