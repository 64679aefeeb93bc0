use Rattle.ooo_board.specs.Links.{AreChannelEvents}
use Rattle.ooo_board.proofs.links.all_channel_events.Given as goal

abbrev pub invariant-loop-e : goal.invariant-loop-e
invariant-loop-e l = AreChannelEvents l.design l.e l.lists.items
