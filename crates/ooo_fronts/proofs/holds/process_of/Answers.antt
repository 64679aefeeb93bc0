use Rattle.std.proofs.Common.{◌≡◌, ◌∙◌, sym, ap, get_or, List}
use Rattle.ooo_code.specs.declared.segment.Segment.{Segment}
use Rattle.ooo_fronts.proofs.Holding.{process_read}
use Rattle.ooo_fronts.proofs.holds.process_of.Goals as goal

pub returns : goal.returns
returns c =
    let s = c.index-as_slice-b.result in
    let is = c.index-as_slice-b.is in
    let here = c.as_slice.ensures in
    let same : s ≡ get_or c.args.tables.now.graph.segments c.args.b s = is ∙ ap (λ (xs : List Segment). get_or xs c.args.b s) here in
    ap (λ (x : Segment). x.process) (sym is) ∙ process_read c.args.tables.now c.args.b s c.requires same
