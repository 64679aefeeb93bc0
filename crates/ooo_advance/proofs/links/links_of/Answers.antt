-- Edge by edge.
use Rattle.std.proofs.Common.{◌∙◌, length, sym, subst}
use Rattle.std.specs.Prelude.{All}
use Rattle.std.proofs.lemmas.List.{take_more, take_all}
use Rattle.ooo_segments.specs.Edges.{IsLink}
use Rattle.ooo_advance.specs.Links.{IsLinkTable}
use Rattle.ooo_advance.proofs.LinkLemmas.{table_begins, table_more, with_edges, no_edge}
use Rattle.ooo_advance.proofs.links.links_of.Goals as goal

pub loop-edge-init : goal.loop-edge-init
loop-edge-init c = table_begins c.args.graph.now _ _ c.in_ok-links.ensures

pub loop-edge-preserved : goal.loop-edge-preserved
loop-edge-preserved c =
    let access = c.args.access.now in
    let edges = c.as_slice-edge-items.result.now in
    let links = subst (λ es. All (IsLink (length access)) es) (sym c.as_slice-edge-items.ensures) c.requires.links in
    let link = links c.loop-edge.edge-index no_edge c.loop-edge-test.true in
    let more = take_more edges c.loop-edge.edge-index no_edge c.loop-edge-test.true in
    let made = table_more c.args.graph.now access _ _ _ _ c.loop-edge.invariant link.from link.to c.add_edge.ensures in
    subst (λ es. IsLinkTable (with_edges c.args.graph.now es) access c.add_edge.new.links.items) (sym more) made

pub returns : goal.returns
returns c =
    let edges = c.as_slice-edge-items.result.now in
    let all = take_all c.loop-edge.edge-index edges c.loop-edge-test.false ∙ c.as_slice-edge-items.ensures in
    subst (λ es. IsLinkTable (with_edges c.args.graph.now es) c.args.access.now c.loop-edge.links.items) all c.loop-edge.invariant
