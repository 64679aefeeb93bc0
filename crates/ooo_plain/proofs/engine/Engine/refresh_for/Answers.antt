use Rattle.std.proofs.lemmas.Result.{on_ok_weaker}
use Rattle.ooo_plain.proofs.Refreshing.{channel_refreshed, on_channel}
use Rattle.ooo_plain.proofs.engine.Engine.refresh_for.Goals as goal

pub returns-in-Request : goal.returns-in-Request
returns-in-Request c =
    on_ok_weaker c.touch_channel.result
    (λ touches. channel_refreshed c.args.design.now c.args.self.now c.touch_channel.new.self c.args.effect c.in-Request.c (on_channel c.in-Request.c c.args.effect c.in-Request.is) c.requires.channel_events touches) c.touch_channel.ensures
