use Rattle.std.proofs.Common.{subst}
use Rattle.std.specs.Prelude.{All}
use Rattle.std.proofs.lemmas.List.{take_all}
use Rattle.ooo_channels.specs.Bank.{IsKeptIn}
use Rattle.ooo_channels.proofs.Making.{present_none, present_more}
use Rattle.ooo_channels.proofs.bank.keep_all.Goals as goal

pub loop-kind-init : goal.loop-kind-init
loop-kind-init c = record { first = λ design count h. h; present = present_none c.args.channels.now.items c.args.events.now }

pub loop-kind-preserved : goal.loop-kind-preserved
loop-kind-preserved c = record {
  first = λ design count h. c.keep.ensures.first design count (c.loop-kind.invariant.first design count h);
  present = present_more c.loop-kind.channels.items c.keep.new.channels.items c.args.events.now c.loop-kind.kind-index _ c.loop-kind-test.true c.keep.ensures.others c.keep.ensures.kept c.loop-kind.invariant.present;
}

pub returns-clause-present : goal.returns-clause-present
returns-clause-present c = subst (All (IsKeptIn c.loop-kind.channels.items)) (take_all c.loop-kind.kind-index c.args.events.now c.loop-kind-test.false) c.loop-kind.invariant.present
