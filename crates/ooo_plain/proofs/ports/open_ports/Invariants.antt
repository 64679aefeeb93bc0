use Rattle.std.specs.Prelude.{take}
use Rattle.ooo_plain.proofs.Opening.{OpenedSoFar}
use Rattle.ooo_plain.proofs.ports.open_ports.Given as goal

abbrev pub invariant-loop-c : goal.invariant-loop-c
invariant-loop-c l = OpenedSoFar l.design l.bank l.at (take l.c-index l.channels) l.ports
