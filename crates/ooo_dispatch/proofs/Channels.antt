-- What an activation's effects are on: a signal that a node of its kind writes, or an end of a fifo that it holds.
use Rattle.std.proofs.Common.{inl, List, refl, subst}
use Rattle.std.specs.Prelude.{⊤}
use Rattle.ooo_value.specs.declared.bound.BoundEvent.{BoundEvent}
use Rattle.ooo_code.specs.declared.activation.Effect.{Effect}
use Rattle.ooo_code.specs.declared.activation.Effect.TheVariants as effect
use Rattle.ooo_code.specs.declared.node.NodeKind.{NodeKind}
use Rattle.ooo_code.specs.declared.node.NodeKind.TheVariants as kind
use Rattle.ooo_code.specs.AsSaid.{Makes}
use Rattle.ooo_code.specs.Touches.{WritesSignal, HoldsReading, HoldsWriting, touched_by}
use Rattle.ooo_schedules.specs.Model.{In}

module _ (events : List BoundEvent) where
  -- an effect on a channel is by a node that touches the channel
  abbrev pub IsOnChannel : NodeKind → Effect → Type 0
  IsOnChannel k (effect.Request c v) = In (WritesSignal c) (touched_by events k)
  IsOnChannel k (effect.Put c v) = In (HoldsWriting c) (touched_by events k)
  IsOnChannel k (effect.Take c) = In (HoldsReading c) (touched_by events k)
  IsOnChannel k _ = ⊤

  pub on_channel : (k : NodeKind) (f : Effect) → Makes k f → IsOnChannel k f
  on_channel (kind.Set n x) f m = absurd m
  on_channel (kind.Store x i y) f m = absurd m
  on_channel (kind.Test x no_to) f m = absurd m
  on_channel kind.Goto f m = absurd m
  on_channel (kind.PrintText text) f m = absurd m
  on_channel (kind.PrintValue x) f m = absurd m
  on_channel kind.PrintTime f m = absurd m
  on_channel (kind.Write c x) (effect.Request d v) m = subst (λ b. In (WritesSignal b) (touched_by events (kind.Write c x))) m (inl refl)
  on_channel (kind.Write c x) (effect.Put d v) m = absurd m
  on_channel (kind.Write c x) (effect.Take d) m = absurd m
  on_channel (kind.Write c x) (effect.Notify g k) m = absurd m
  on_channel (kind.Write c x) (effect.Cancel g) m = absurd m
  on_channel (kind.Write c x) effect.Stop m = absurd m
  on_channel (kind.TestAvailable c no_to) f m = absurd m
  on_channel (kind.TestFree c no_to) f m = absurd m
  on_channel (kind.Take c n) (effect.Request d v) m = absurd m
  on_channel (kind.Take c n) (effect.Put d v) m = absurd m
  on_channel (kind.Take c n) (effect.Take d) m = subst (λ b. In (HoldsReading b) (touched_by events (kind.Take c n))) m (inl refl)
  on_channel (kind.Take c n) (effect.Notify g k) m = absurd m
  on_channel (kind.Take c n) (effect.Cancel g) m = absurd m
  on_channel (kind.Take c n) effect.Stop m = absurd m
  on_channel (kind.Put c x) (effect.Request d v) m = absurd m
  on_channel (kind.Put c x) (effect.Put d v) m = subst (λ b. In (HoldsWriting b) (touched_by events (kind.Put c x))) m (inl refl)
  on_channel (kind.Put c x) (effect.Take d) m = absurd m
  on_channel (kind.Put c x) (effect.Notify g k) m = absurd m
  on_channel (kind.Put c x) (effect.Cancel g) m = absurd m
  on_channel (kind.Put c x) effect.Stop m = absurd m
  on_channel (kind.Notify f t) (effect.Request d v) m = absurd m
  on_channel (kind.Notify f t) (effect.Put d v) m = absurd m
  on_channel (kind.Notify f t) (effect.Take d) m = absurd m
  on_channel (kind.Notify f t) (effect.Notify g k) m = tt
  on_channel (kind.Notify f t) (effect.Cancel g) m = absurd m
  on_channel (kind.Notify f t) effect.Stop m = absurd m
  on_channel (kind.Cancel f) (effect.Request d v) m = absurd m
  on_channel (kind.Cancel f) (effect.Put d v) m = absurd m
  on_channel (kind.Cancel f) (effect.Take d) m = absurd m
  on_channel (kind.Cancel f) (effect.Notify g k) m = absurd m
  on_channel (kind.Cancel f) (effect.Cancel g) m = tt
  on_channel (kind.Cancel f) effect.Stop m = absurd m
  on_channel kind.Stop (effect.Request d v) m = absurd m
  on_channel kind.Stop (effect.Put d v) m = absurd m
  on_channel kind.Stop (effect.Take d) m = absurd m
  on_channel kind.Stop (effect.Notify g k) m = absurd m
  on_channel kind.Stop (effect.Cancel g) m = absurd m
  on_channel kind.Stop effect.Stop m = tt
  on_channel (kind.Trigger w) f m = absurd m
  on_channel (kind.Wait w) f m = absurd m
  on_channel kind.End f m = absurd m
