-- Stage by stage.
use Rattle.std.proofs.Common.{◌≡◌, ◌+◌, ◌++◌, ◌∙◌, ap, sym, arith}
use Rattle.ooo_gen.specs.Numbers.{number_of, following}
use Rattle.ooo_gen.specs.Text.{stage_line, seeded_line}
use Rattle.ooo_gen.proofs.Lines.{line_more, number_more}
use Rattle.ooo_gen.proofs.model.append_stages.Goals as goal

pub loop-index-preserved : goal.loop-index-preserved
loop-index-preserved c =
    let number : c.draw.result ≡ number_of c.args.seed (c.loop-index.index + 1) = c.draw.ensures.next ∙ ap following c.loop-index.invariant.1 ∙ sym (number_more c.args.seed c.loop-index.index) in (
      line_more (seeded_line c.args.seed) 1 c.loop-index.index (c.loop-index.index + 1) _ c.args.text.now.items c.loop-index.text.items c.append_stage.new.text.items
          (omega arith) (omega arith) c.loop-index.invariant.0
          (c.in_ok-append_stage.ensures ∙ ap (λ x. c.loop-index.text.items ++ stage_line (c.loop-index.index + 1) x) number),
      c.draw.ensures.last ∙ number,
    )
