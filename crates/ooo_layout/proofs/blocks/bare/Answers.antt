use Rattle.ooo_layout.proofs.Opened.{bare_already, bare_on, nests_less}
use Rattle.ooo_layout.proofs.blocks.bare.Goals as goal

pub turns-init : goal.turns-init
turns-init c = bare_already c.args.body.now

pub turns-preserved : goal.turns-preserved
turns-preserved c =
    bare_on c.as_slice-inside.result.now c.in-Block.inner c.turns.inside.now c.args.body.now c.only-item.result
    c.in-len1.len_at_least c.in-len1.len_below c.only-item.is c.in-Block.is c.as_slice-inside.ensures c.turns.invariant

pub turns-smaller : goal.turns-smaller
turns-smaller c =
    nests_less c.as_slice-inside.result.now c.in-Block.inner c.turns.inside.now c.only-item.result c.in-len1.len_at_least
    c.in-len1.len_below c.only-item.is c.in-Block.is c.as_slice-inside.ensures
