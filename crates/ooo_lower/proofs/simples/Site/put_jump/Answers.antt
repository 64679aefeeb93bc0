use Rattle.std.proofs.Common.{refl}
use Rattle.std.proofs.lemmas.Result.{on_ok_weaker}
use Rattle.ooo_lower.proofs.Emitted.{emits_plain}
use Rattle.ooo_lower.proofs.simples.Site.put_jump.Goals as goal

pub returns : goal.returns
returns c =
    let s = c.args.self.spot in on_ok_weaker c.put_counted.result (emits_plain 1 _ s.around s.next _ _ refl) c.put_counted.ensures
