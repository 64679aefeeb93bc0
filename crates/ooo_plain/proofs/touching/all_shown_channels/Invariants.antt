use Rattle.ooo_plain.specs.Engine.{AreShownChannels}
use Rattle.ooo_plain.specs.Schedule.{lists_of}
use Rattle.ooo_plain.proofs.touching.all_shown_channels.Given as goal

abbrev pub invariant-loop-p : goal.invariant-loop-p
invariant-loop-p l = AreShownChannels l.design l.p (lists_of l.lists.items)
