use Rattle.std.proofs.Common.{List, ap, map, ◌∙◌}
use Rattle.std.proofs.lemmas.List.{map-append}
use Rattle.ooo_code.specs.declared.activation.Frame.{Frame}
use Rattle.ooo_code.specs.declared.segment.SegmentEntry.TheVariants.{Start}
use Rattle.ooo_code.specs.Nodes.{first_frame}
use Rattle.ooo_value.specs.declared.values.Value.{Value}
use Rattle.ooo_plain.specs.Engine.{frame_of}
use Rattle.ooo_plain.specs.Starting.{zeros_of}
use Rattle.ooo_plain.proofs.Filling.{made_more}
use Rattle.ooo_plain.proofs.starting.first_processes.Goals as goal

pub loop-process-preserved : goal.loop-process-preserved
loop-process-preserved c =
    made_more first_frame (map frame_of c.loop-process.made.items) _ _ c.args.bound.now c.process-item.result c.loop-process.process-index c.loop-process-test.true c.loop-process.invariant
    (ap (λ (vs : List Value). let f : Frame = record { entry = Start; slots = vs } in f) (c.in-Ok.ensures ∙ ap zeros_of c.as_slice.ensures) ∙ ap first_frame c.process-item.is)
    (ap (map frame_of) c.in_ok-push.ensures.items ∙ map-append frame_of c.loop-process.made.items _)
