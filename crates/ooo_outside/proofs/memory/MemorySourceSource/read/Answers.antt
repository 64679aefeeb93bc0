use Rattle.std.proofs.Common.{ap}
use Rattle.std.proofs.lemmas.List.{take_rest}
use Rattle.ooo_outside.specs.Memory.{SourceState}
use Rattle.ooo_outside.proofs.Given.{given_bytes}
use Rattle.ooo_outside.proofs.memory.MemorySourceSource.read.Goals as goal

pub returns-clause-bytes : goal.returns-clause-bytes
returns-clause-bytes c =
    let left = take_rest c.self.inside.bytes.items c.self.inside.given in
    let count = rw (c.deref-2.ensures.value, left) at c.give-count.ensures.count in
    let bytes = rw (c.deref-2.ensures.value, left) at c.give-count.ensures.bytes in
    let rest = ap (λ (s : SourceState). s.rest) c.self.view_is in
    rw (← rest) (given_bytes c.self.inside.bytes.items c.give-count.new.into c.self.inside.given c.give-count.result c.self.inside.most c.self.invariant.0 c.self.invariant.1 count bytes)
