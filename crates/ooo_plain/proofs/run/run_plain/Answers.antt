use Rattle.std.proofs.Common.{◌∙◌, sym, ap}
use Rattle.std.proofs.lemmas.Result.{IfOk-weaker}
use Rattle.std.specs.List.{list_any}
use Rattle.ooo_history.specs.declared.run.End.TheVariants as end
use Rattle.ooo_meaning.specs.World.{zero_stamp}
use Rattle.ooo_plain.specs.Running.{ShowsOver, ShowsRun}
use Rattle.ooo_plain.proofs.First.{reaches_first, shows_idle}
use Rattle.ooo_plain.proofs.run.run_plain.Goals as goal

pub run_on-requires-clause-reaches : goal.run_on-requires-clause-reaches
run_on-requires-clause-reaches c = reaches_first c.args.design.now c.args.limits c.in_ok-engine.engine c.requires.range c.in_ok-engine.ensures
    (sym (c.is_some_initialized.ensures ∙ ap (list_any (λ x. x.initialize)) c.as_slice.ensures) ∙ c.if-is_some_initialized.true)

pub returns : goal.returns
returns c = IfOk-weaker c.finish.result (ShowsOver c.in_ok-engine.engine zero_stamp (end.Idle zero_stamp)) (ShowsRun c.args.design.now c.args.limits) (λ run shows. shows_idle c.laws.ensures c.args.design.now c.args.limits c.in_ok-engine.engine c.in_ok-engine.ensures
    (sym (c.is_some_initialized.ensures ∙ ap (list_any (λ x. x.initialize)) c.as_slice.ensures) ∙ c.if-is_some_initialized.false) run shows) c.finish.ensures
