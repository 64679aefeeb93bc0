use Rattle.std.proofs.Common.{◌∙◌, ◌+◌, ap, arith, length, subst}
use Rattle.ooo_dispatch.specs.Rules.{has}
use Rattle.ooo_board.specs.Links.{IsUpTo}
use Rattle.ooo_board.proofs.Looking.{watching_begins, watching_ends, watching_on}
use Rattle.ooo_board.proofs.links.watched_by.Goals as goal

pub loop-c-init : goal.loop-c-init
loop-c-init c = watching_begins c.args.access.now c.args.design.now.channels c.new-all.result c.new-all.ensures

pub loop-c-preserved : goal.loop-c-preserved
loop-c-preserved c =
    let a = c.args.access.now in
    let n = c.loop-c.c in
    watching_on a c.args.design.now.channels c.as_slice-channels.result.now n _ c.loop-c.signals c.loop-c.taken c.loop-c.put c.comes_next-reads.new.at c.comes_next-takes.new.at c.comes_next-puts.new.at c.comes_next-reads.result c.comes_next-takes.result c.comes_next-puts.result
    c.loop-c.all c.add_watched.new.all c.as_slice-channels.ensures c.loop-c-test.true (c.comes_next-reads.ensures.has ∙ ap (λ xs. has xs n) c.as_slice.ensures) (c.comes_next-takes.ensures.has ∙ ap (λ xs. has xs n) c.as_slice-in-loop-c.ensures) (c.comes_next-puts.ensures.has ∙ ap (λ xs. has xs n) c.as_slice-in-loop-c-2.ensures) c.in-Ok.ensures
    (subst (λ xs. IsUpTo xs c.comes_next-reads.new.at (n + 1)) c.as_slice.ensures c.comes_next-reads.ensures.up_to)
    (subst (λ xs. IsUpTo xs c.comes_next-takes.new.at (n + 1)) c.as_slice-in-loop-c.ensures c.comes_next-takes.ensures.up_to)
    (subst (λ xs. IsUpTo xs c.comes_next-puts.new.at (n + 1)) c.as_slice-in-loop-c-2.ensures c.comes_next-puts.ensures.up_to)
    c.loop-c.invariant

pub returns : goal.returns
returns c =
    watching_ends c.args.access.now c.args.design.now.channels c.loop-c.c c.loop-c.signals c.loop-c.taken c.loop-c.put c.loop-c.all (omega (arith, ap length c.as_slice-channels.ensures, c.loop-c-test.false)) c.loop-c.invariant
