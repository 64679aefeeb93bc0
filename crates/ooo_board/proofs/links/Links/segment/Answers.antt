use Rattle.std.proofs.Common.{◌∙◌, ap, sym}
use Rattle.std.specs.List.{position_or_len}
use Rattle.ooo_board.specs.Links.{begins_at}
use Rattle.ooo_board.proofs.Looking.{first_place, none_before, not_past}
use Rattle.ooo_board.proofs.links.Links.segment.Goals as goal

pub returns-then-is_at-clause-at : goal.returns-then-is_at-clause-at
returns-then-is_at-clause-at c design limits t is =
    first_place c.args.p c.args.entry c.args.segments.now c.loop-g.g c.index-segments-g.result c.loop-g-test.true c.index-segments-g.is (sym c.if-is_at.ensures) c.loop-g.invariant
    ∙ ap (position_or_len (begins_at c.args.p c.args.entry)) (sym is)

pub loop-g-preserved : goal.loop-g-preserved
loop-g-preserved c = none_before c.args.p c.args.entry c.args.segments.now c.loop-g.g c.index-segments-g.result c.loop-g-test.true c.index-segments-g.is (sym c.if-is_at.ensures) c.loop-g.invariant

pub unreachable-requires : goal.unreachable-requires
unreachable-requires c = not_past c.args.self.now c.args.segments.now c.args.p c.args.entry c.requires c.loop-g.g c.loop-g-test.false c.loop-g.invariant
