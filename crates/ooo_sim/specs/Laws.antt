-- What holds of what is accepted, and of replies.
use Rattle.std.specs.Prelude.{◌≡◌, ℕ, ◌≤◌, List, length, IfSome, Ok}
use Rattle.ooo_time.specs.Scales.{greatest_time}
use Rattle.ooo_activation.specs.Sound.{IsSound}
use Rattle.ooo_sound_model.specs.Reports.{HasNames}
use Rattle.ooo_shapes.specs.Designs.{design_of}
use Rattle.ooo_segments.specs.Beginnings.{beginnings}
use Rattle.ooo_front.specs.declared.answer.Accepted.{Accepted}
use Rattle.ooo_front.specs.Layers.{HasFew, IsFrontOf}
use Rattle.ooo_sim.specs.declared.reply.Reply.{Reply}
use Rattle.ooo_sim.specs.declared.request.Request.{Request}
use Rattle.ooo_sim.specs.Replies.{IsReplyTo}

-- what is accepted may be run and reported: its model is sound, its design is the model's and has as many segments as it
-- says, and no more than it may have, its processes and channels have names, and its own stop time, if it has one, is in range
pub record IsReady (accepted : Accepted) : Type 0 where
  pub sound : IsSound accepted.bound
  pub design : accepted.design ≡ design_of accepted.bound
  pub segments : accepted.segments ≡ length (beginnings accepted.design)
  pub few : HasFew accepted.design
  pub names : HasNames accepted.bound
  pub stop : IfSome accepted.bound.stop (λ t. t.0 ≤ greatest_time)

-- whatever the front accepts is
abbrev pub AcceptedAreReady : Type 0
AcceptedAreReady = (text : List ℕ) (accepted : Accepted) → IsFrontOf text (Ok accepted) → IsReady accepted

-- a request has one reply from the bytes that it reads
abbrev pub HasOneReply : Type 0
HasOneReply = (request : Request) (bytes : List ℕ) (a b : Reply) → IsReplyTo request bytes a → IsReplyTo request bytes b → a ≡ b
