use Rattle.std.proofs.lemmas.Result.{on_ok_weaker}
use Rattle.ooo_lower.proofs.Left.{last_left}
use Rattle.ooo_lower.proofs.splitting.push.Goals as goal

pub returns : goal.returns
returns c = λ h. on_ok_weaker c.push.result (last_left h c.args.tasks.now c.push.new.self _) c.push.ensures.ok
