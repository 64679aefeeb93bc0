-- The processes of a sound design are closed.
use Rattle.std.proofs.Common.{List, Option, Some, None, get_or}
use Rattle.std.specs.Prelude.{IfSome}
use Rattle.ooo_value.specs.declared.bound.BoundEvent.{BoundEvent}
use Rattle.ooo_code.specs.declared.design.Design.{Design}
use Rattle.ooo_code.specs.declared.design.Proc.{Proc}
use Rattle.ooo_code.specs.declared.node.NodeKind.{NodeKind}
use Rattle.ooo_code.specs.declared.node.NodeKind.TheVariants as kind
use Rattle.ooo_code.specs.declared.node.NodeTime.{NodeTime}
use Rattle.ooo_code.specs.declared.node.NodeTime.TheVariants as time
use Rattle.ooo_code.specs.Sound.{IsSound, FitsProcess, FitsNode, FitsTime, Scope}
use Rattle.ooo_segments.specs.Closed.{AreClosed, IsClosed, IsBounded, WaitsBounded}

bounded : (names : Scope) (t : Option NodeTime) → IfSome t (FitsTime names) → IfSome t IsBounded
bounded names None h = h
bounded names (Some (time.Fixed t)) h = h
bounded names (Some (time.Amount e scale)) h = tt

waits_bounded : (names : Scope) (events : List BoundEvent) (k : NodeKind) → FitsNode names events k → WaitsBounded k
waits_bounded names events (kind.Wait w) fits = bounded names w.time fits.time
waits_bounded names events k fits = tt

closed : (design : Design) (process : Proc) → FitsProcess design process → IsClosed design process
closed design process fits = record {
  some = fits.some;
  within = fits.within;
  nodes = λ n node own is. let node_fits = fits.nodes n node own is in record { own = node_fits.own; wait = waits_bounded _ _ _ node_fits.names };
}

pub sound_is_closed : (design : Design) → IsSound design → AreClosed design
sound_is_closed design sound = λ k d lt. closed design (get_or design.processes k d) (sound.processes k d lt)
