-- The ports show what was passed so far.
use Rattle.std.proofs.Common.{◌≡◌, take}
use Rattle.ooo_interp.specs.Ports.{all_shown, values_in}
use Rattle.ooo_interp.proofs.segments.ports_of.Given as goal

abbrev pub invariant-loop-channel : goal.invariant-loop-channel
invariant-loop-channel l = all_shown (values_in l.seen) l.ports ≡ take l.channel-index l.seen
