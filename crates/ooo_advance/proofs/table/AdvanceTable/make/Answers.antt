-- Row by row.
use Rattle.std.proofs.Common.{◌≡◌, ◌∙◌, length, arith}
use Rattle.ooo_advance.proofs.LinkLemmas.{table_links, table_steps}
use Rattle.ooo_advance.proofs.TableLemmas.{links_square, rows_none, rows_more, rows_end, rows_long}
use Rattle.ooo_advance.proofs.table.AdvanceTable.make.Goals as goal

pub loop-source-init : goal.loop-source-init
loop-source-init c = rw c.in_ok-rows.ensures.items (rows_none _ _)

pub least_from-requires-clause-source : goal.least_from-requires-clause-source
least_from-requires-clause-source c =
    let count = c.in_ok-links.ensures.count in
    let lt = c.loop-source-test.true in
    rw (c.as_slice.ensures.value, count) lt

pub least_from-requires-clause-few : goal.least_from-requires-clause-few
least_from-requires-clause-few c = rw (c.as_slice.ensures.value, c.in_ok-links.ensures.count) c.requires.few

pub least_from-requires-clause-rows : goal.least_from-requires-clause-rows
least_from-requires-clause-rows c = rw c.as_slice.ensures.value (links_square _ _ _ c.in_ok-links.ensures)

pub least_from-requires-clause-steps : goal.least_from-requires-clause-steps
least_from-requires-clause-steps c = rw c.as_slice.ensures.value (table_steps _ _ _ c.requires.links c.in_ok-links.ensures)

pub loop-source-preserved : goal.loop-source-preserved
loop-source-preserved c =
    let graph = c.args.graph.now in
    let access = c.args.access.now in
    let made = rw c.as_slice.ensures.value at c.in_ok-least_from.ensures in
    let links = table_links graph access _ c.requires.links c.in_ok-links.ensures in
    rw c.in_ok-push.ensures.items (rows_more _ _ _ _ _ c.loop-source.invariant (made.count ∙ c.in_ok-links.ensures.count) c.in_ok-least_from.ensures.addable (made.settled graph access links))

pub returns-clause-exact : goal.returns-clause-exact
returns-clause-exact c =
    let end : c.loop-source.source ≡ length c.args.access.now = let a = c.loop-source-test.false in let b = c.loop-source.auto.source-end in omega arith in
    rows_end _ _ _ _ end c.loop-source.invariant

pub returns-clause-rows : goal.returns-clause-rows
returns-clause-rows c = c.loop-source.invariant.long

pub invariant_of-result : goal.invariant_of-result
invariant_of-result c =
    let end : c.loop-source.source ≡ length c.args.access.now = let a = c.loop-source-test.false in let b = c.loop-source.auto.source-end in omega arith in
    rows_long _ _ _ _ end c.loop-source.invariant
