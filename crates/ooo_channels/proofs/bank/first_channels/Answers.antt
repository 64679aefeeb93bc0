use Rattle.std.proofs.Common.{◌≡◌, length, arith, subst}
use Rattle.ooo_channels.specs.Bank.{AreFirst}
use Rattle.ooo_channels.proofs.Making.{first_none, first_more}
use Rattle.ooo_channels.proofs.bank.first_channels.Goals as goal

pub loop-channel-init : goal.loop-channel-init
loop-channel-init c = record { first = first_none c.args.channels.now _ c.new-made.ensures.items; within = omega arith }

pub loop-channel-preserved : goal.loop-channel-preserved
loop-channel-preserved c = record {
  first = first_more c.args.channels.now c.loop-channel.channel-index _ c.loop-channel.made.items _ _ c.loop-channel-test.true c.loop-channel.invariant.first c.in_ok-push.ensures.items c.new.ensures.kind c.new.ensures.first c.new.ensures.shows;
  within = omega (arith, c.loop-channel-test.true);
}

pub returns : goal.returns
returns c =
    let all : c.loop-channel.channel-index ≡ length c.args.channels.now = omega (arith, c.loop-channel-test.false, c.loop-channel.invariant.within) in
    subst (λ n. AreFirst c.args.channels.now n c.loop-channel.made.items) all c.loop-channel.invariant.first
