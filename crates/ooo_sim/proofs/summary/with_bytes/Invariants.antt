use Rattle.std.proofs.Common.{◌≡◌, ◌+◌, ◌%◌, ◌^◌, take}
use Rattle.std.specs.List.{sum}
use Rattle.ooo_sim.proofs.summary.with_bytes.Given as goal

abbrev pub invariant-bytes : goal.invariant-bytes
invariant-bytes l = l.total ≡ (l.from + sum (take l.byte-index l.bytes)) % 2 ^ 32
