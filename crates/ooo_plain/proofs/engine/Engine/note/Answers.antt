use Rattle.std.proofs.Common.{refl, ap, ◌∙◌, ◌||◌}
use Rattle.ooo_plain.proofs.engine.Engine.note.Goals as goal

pub returns : goal.returns
returns c = record { rest = refl; output_is = c.in_ok-extend_from_slice.ensures.items; activations_is = refl; stopped_is = c.either-self.ensures ∙ ap (λ b. c.args.self.now.stopped || b) c.stops.ensures }
