use Rattle.std.proofs.Common.{refl}
use Rattle.std.proofs.lemmas.Result.{on_ok_weaker}
use Rattle.ooo_plain.proofs.Waiting.{waits_listening}
use Rattle.ooo_plain.proofs.schedule.Schedule.wait.Goals as goal

pub returns : goal.returns
returns c = on_ok_weaker c.set.result (λ set. waits_listening c.args.p c.args.events.now c.args.timeout c.args.bank.now c.args.now c.args.self.now c.listen.new.self _ c.index_mut.result.now c.earliest-due.result c.requires.process c.requires.knows c.in_ok-listen.ensures refl c.index_mut.ensures.value refl set c.earliest-due.ensures) c.set.ensures
