use Rattle.std.proofs.Common.{arith}
use Rattle.ooo_channels.proofs.Banked.{kept_in-set}
use Rattle.ooo_channels.proofs.Making.{first_present}
use Rattle.ooo_channels.proofs.bank.keep.Goals as goal

pub returns-then-c-len-clause-first : goal.returns-then-c-len-clause-first
returns-then-c-len-clause-first c = λ design count h.
    first_present design count c.args.channels.now.items c.in-Some.c _ c.keep.new.self (omega (arith, c.if-c-len.true, c.len.ensures)) c.index_mut.ensures.value c.keep.ensures.kind c.keep.ensures.after c.keep.ensures.shows h

pub returns-then-c-len-clause-others : goal.returns-then-c-len-clause-others
returns-then-c-len-clause-others c = λ k h.
    kept_in-set c.args.channels.now.items c.in-Some.c _ c.keep.new.self (omega (arith, c.if-c-len.true, c.len.ensures)) c.index_mut.ensures.value c.keep.ensures.keeps k h
