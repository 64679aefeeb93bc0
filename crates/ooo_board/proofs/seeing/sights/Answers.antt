use Rattle.std.proofs.Common.{ap, arith, get_or, sym, subst, List}
use Rattle.std.specs.Prelude.{All, slice_get}
use Rattle.ooo_code.specs.declared.activation.Seen.{Seen}
use Rattle.ooo_interp.specs.Jobs.{IsFew, SeenAscend}
use Rattle.ooo_board.specs.declared.links.Watched.{Watched}
use Rattle.ooo_board.specs.Seeing.{shown_as, sight_at}
use Rattle.ooo_board.proofs.Made.{all_made, one_more_at}
use Rattle.ooo_board.proofs.Watching.{all_ascend, all_few}
use Rattle.ooo_board.proofs.seeing.sights.Goals as goal

pub push_reserved-requires : goal.push_reserved-requires
push_reserved-requires c = omega (arith, c.loop-channel.invariant.room, c.loop-channel-test.true)

pub loop-channel-preserved : goal.loop-channel-preserved
loop-channel-preserved c = record {
  seen = λ ops asked.
      let y : Seen = c.in-Ok.made in
      one_more_at (λ (w : Watched). sight_at c.args.at w (shown_as c.args.at ops w.channel (slice_get c.args.design.now.channels w.channel))) c.args.watched.now c.loop-channel.channel-index _ c.loop-channel.seen.items c.push_reserved.new.self.items y c.loop-channel-test.true
      (ap (λ (l : List Seen). get_or l 0 y) (c.in-Ok.ensures ops asked)) c.push_reserved.ensures.items (c.loop-channel.invariant.seen ops asked);
  room = omega (arith, c.loop-channel.invariant.room, c.loop-channel-test.true, c.push_reserved.ensures.len, c.push_reserved.ensures.capacity);
}

pub returns-clause-seen : goal.returns-clause-seen
returns-clause-seen c ops asked =
    all_made (λ (w : Watched). sight_at c.args.at w (shown_as c.args.at ops w.channel (slice_get c.args.design.now.channels w.channel))) c.args.watched.now c.loop-channel.channel-index c.loop-channel.seen.items c.loop-channel-test.false (c.loop-channel.invariant.seen ops asked)

pub returns-clause-few : goal.returns-clause-few
returns-clause-few c =
    let may = c.requires.may in
    subst (All IsFew) (sym (returns-clause-seen c may.ops may.asked))
    (all_few c.args.design.now c.args.bank.now c.args.at may.ops may.asked c.args.watched.now c.requires.fits may.there)

pub returns-clause-ascending : goal.returns-clause-ascending
returns-clause-ascending c =
    let may = c.requires.may in
    subst SeenAscend (sym (returns-clause-seen c may.ops may.asked))
    (all_ascend c.args.design.now c.args.bank.now c.args.at may.ops may.asked c.args.watched.now c.requires.ascending)
