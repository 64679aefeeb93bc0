use Rattle.std.proofs.Common.{refl}
use Rattle.ooo_plain.proofs.Waiting.{listens_anew}
use Rattle.ooo_plain.proofs.schedule.Schedule.listen_anew.Goals as goal

pub returns : goal.returns
returns c = listens_anew c.args.p c.args.self.now c.join_all.new.self _ c.index_mut.result.now c.args.events.now c.in_ok-self.field-0 c.requires.process c.in_ok-join_all.ensures refl c.index_mut.ensures.value refl c.in_ok-self.ensures
