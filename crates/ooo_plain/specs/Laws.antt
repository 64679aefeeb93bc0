-- What holds of definitions below, as the proofs of this crate use it.
use Rattle.std.specs.Prelude.{◌≡◌, ℕ, ◌<◌, List, Some, length, slice_get}
use Rattle.ooo_time.specs.declared.stamp.Stamp.{Stamp}
use Rattle.ooo_events.specs.Slots.{due_of}
use Rattle.ooo_events.specs.Firings.{IsFirstAfter}
use Rattle.ooo_code.specs.declared.activation.Effect.{Effect}
use Rattle.ooo_code.specs.declared.activation.Frame.{Frame}
use Rattle.ooo_code.specs.declared.design.Design.{Design}
use Rattle.ooo_code.specs.declared.design.Proc.{Proc}
use Rattle.ooo_code.specs.declared.limits.Limits.{Limits}
use Rattle.ooo_code.specs.Dependence.{AgreeOn, DidTheSame, TouchesOnly}
use Rattle.ooo_code.specs.Nodes.{by_nodes}
use Rattle.ooo_code.specs.OwnSteps.{SeesOwnSteps}
use Rattle.ooo_code.specs.Outcomes.{View, Deed}
use Rattle.ooo_code.specs.Segments.{Accesses}
use Rattle.ooo_meaning.specs.World.{World, slot_at, zero_stamp, update, settle, notified, after_deed}
use Rattle.ooo_meaning.specs.Runs.{start_of}
use Rattle.ooo_channels.specs.Operations.{Operations, no_operations, after_effects, after_forgetting}
use Rattle.ooo_channels.specs.Calls.{FiresAt}
use Rattle.ooo_channels.specs.Conditions.{HasEventAt, MayApplyAll, IsInOrder, Names}
use Rattle.ooo_channels.specs.Apart.{LeavesOthers}
use Rattle.ooo_channels.specs.Agreement.{Agrees, IsTimely, IsShown, GoesOn, shown_up_to}

-- the laws of channels and of code
pub record Laws : Type 0 where
  pub others_stay : (at : Stamp) (ops : Operations) (effects : List Effect) → LeavesOthers at ops effects
  pub starts : (design : Design) → let world = (start_of design).world in Agrees (no_operations design.channels design.events) world × IsTimely world
  pub initializes : (design : Design) (limits : Limits) → GoesOn (no_operations design.channels design.events) zero_stamp (notified limits (start_of design).world)
  pub activates : (ops : Operations) (w : World) (p : ℕ) (d : Deed) → Agrees ops w → MayApplyAll ops w.stamp d.effects → Agrees (after_effects w.stamp ops d.effects) (after_deed p w d)
  pub timely : (w : World) (p : ℕ) (d : Deed) → IsTimely w → IsTimely (after_deed p w d)
  pub settles : (ops : Operations) (w : World) (limits : Limits) → Agrees ops w → IsTimely w → GoesOn ops (shown_up_to w) (settle limits w)
  pub forgets : (ops : Operations) (w : World) (below : Stamp) → Agrees ops w → Agrees (after_forgetting below ops) w
  pub shows : (ops : Operations) (w : World) (c : ℕ) → Agrees ops w → c < length ops.channels → IsShown ops w c
  pub fires : (ops : Operations) (w : World) (e : ℕ) → Agrees ops w → HasEventAt ops e → IsFirstAfter (FiresAt ops e) w.stamp (due_of (slot_at (update w).slots e))
  pub in_order : (ops : Operations) (w : World) (f : Effect) → Agrees ops w → Names ops f → IsInOrder ops w.stamp f
  pub reads : (design : Design) (statements p : ℕ) (process : Proc) (frame : Frame) (v w : View) → slice_get design.processes p ≡ Some process → AgreeOn (Accesses design process frame.entry) v w → DidTheSame (Accesses design process frame.entry) (by_nodes design statements p frame v) (by_nodes design statements p frame w)
  pub sees : SeesOwnSteps
  pub changes : (design : Design) (statements p : ℕ) (process : Proc) (frame : Frame) (v : View) → slice_get design.processes p ≡ Some process → TouchesOnly (Accesses design process frame.entry) v (by_nodes design statements p frame v)
