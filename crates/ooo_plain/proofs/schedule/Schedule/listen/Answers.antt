use Rattle.std.proofs.Common.{refl, sym, ◌∙◌}
use Rattle.ooo_plain.proofs.Waiting.{listens_same}
use Rattle.ooo_plain.proofs.schedule.Schedule.listen.Goals as goal

pub returns-then-are_same : goal.returns-then-are_same
returns-then-are_same c = listens_same c.args.self.now c.args.p c.index.result.now c.args.events.now c.requires.knows c.requires.process c.index.ensures (sym c.as_slice.ensures ∙ c.if-are_same.ensures refl)
