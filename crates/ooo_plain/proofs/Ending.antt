-- What a run gives that is over.
use Rattle.std.proofs.Common.{◌≡◌, ◌<◌, arith, [], sym, ◌∙◌, length}
use Rattle.std.proofs.lemmas.List.{ext_get_or}
use Rattle.ooo_time.specs.declared.stamp.Stamp.{Stamp}
use Rattle.ooo_history.specs.declared.run.End.{End}
use Rattle.ooo_history.specs.declared.run.Run.{Run}
use Rattle.ooo_history.specs.Reporting.{output_text}
use Rattle.ooo_channels.specs.Bank.{AreHistories}
use Rattle.ooo_plain.specs.declared.engine.Engine.{Engine}
use Rattle.ooo_plain.specs.Running.{ShowsOver}

pub shows_over : (e : Engine) (at : Stamp) (end : End) (run : Run) → AreHistories e.bank at (length e.bank.channels) run.channels → output_text run.pieces ≡ e.output.items → run.end ≡ end → run.activations ≡ e.activations → ShowsOver e at end run
shows_over e at end run hs out end_is acts design w o = record {
  histories = ext_get_or [] run.channels w.histories
      (hs.count ∙ o.bank.channel_count ∙ sym o.histories.count)
      (λ c lt.
      let within : c < length e.bank.channels = (let n = hs.count in omega (arith, lt, n)) in
      hs.each o.ops o.bank c [] within ∙ sym (o.histories.each c (let n = o.bank.channel_count in omega (arith, within, n))));
  ending = end_is;
  activations = acts ∙ sym o.prints.activations;
  output = out ∙ sym o.prints.output;
}
