use Rattle.ooo_simple.proofs.Awaits.{no_events, some_events}
use Rattle.ooo_simple.proofs.waits.read_after_awaited.Goals as goal

pub returns-in-None : goal.returns-in-None
returns-in-None c = no_events c.args.limits c.args.list c.args.first c.args.tokens.now c.read_after_amount.result c.in-None.is c.read_after_amount.ensures

pub returns-in-Some : goal.returns-in-Some
returns-in-Some c = some_events c.args.limits c.args.list c.in-Some.list c.args.first c.args.tokens.now c.read_after_events.result c.in-Some.is c.read_after_events.ensures
