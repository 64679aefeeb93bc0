-- An activation notifies and cancels events of the model's own alone.
use Rattle.std.proofs.Common.{⊎_elim, List, subst, sym}
use Rattle.std.specs.Prelude.{⊤, slice_get}
use Rattle.std.specs.List.{AllByRecursion}
use Rattle.ooo_lemmas.proofs.Each.{each_contained}
use Rattle.ooo_value.specs.declared.bound.BoundEvent.{BoundEvent}
use Rattle.ooo_code.specs.declared.activation.Effect.{Effect}
use Rattle.ooo_code.specs.declared.activation.Effect.TheVariants as effect
use Rattle.ooo_code.specs.declared.node.NodeKind.{NodeKind}
use Rattle.ooo_code.specs.declared.node.NodeKind.TheVariants as kind
use Rattle.ooo_code.specs.AsSaid.{Makes}
use Rattle.ooo_code.specs.Sound.{FitsNode, IsOwn, IsSound, Scope, scope_of}
use Rattle.ooo_dispatch.specs.Boards.{AreRules}
use Rattle.ooo_dispatch.specs.Rules.{Rules, deed_of}
use Rattle.ooo_dispatch.proofs.Accessed.{fits, in_contained, own_within}
use Rattle.ooo_dispatch.proofs.Acting.{Activation, Acts, Does, acting, made}

-- the event that an effect calls is the model's own
abbrev pub Owns : List BoundEvent → Effect → Type 0
Owns events (effect.Notify e k) = IsOwn (slice_get events e)
Owns events (effect.Cancel e) = IsOwn (slice_get events e)
Owns events (effect.Request c v) = ⊤
Owns events (effect.Put c v) = ⊤
Owns events (effect.Take c) = ⊤
Owns events effect.Stop = ⊤

module _ (names : Scope) (events : List BoundEvent) where
  owns : (k : NodeKind) (f : Effect) → Makes k f → FitsNode names events k → Owns events f
  owns (kind.Set n x) f m h = absurd m
  owns (kind.Store x i y) f m h = absurd m
  owns (kind.Test x no_to) f m h = absurd m
  owns kind.Goto f m h = absurd m
  owns (kind.PrintText text) f m h = absurd m
  owns (kind.PrintValue x) f m h = absurd m
  owns kind.PrintTime f m h = absurd m
  owns (kind.Write c x) (effect.Request d v) m h = tt
  owns (kind.Write c x) (effect.Put d v) m h = absurd m
  owns (kind.Write c x) (effect.Take d) m h = absurd m
  owns (kind.Write c x) (effect.Notify e k) m h = absurd m
  owns (kind.Write c x) (effect.Cancel e) m h = absurd m
  owns (kind.Write c x) effect.Stop m h = absurd m
  owns (kind.TestAvailable c no_to) f m h = absurd m
  owns (kind.TestFree c no_to) f m h = absurd m
  owns (kind.Take c n) (effect.Request d v) m h = absurd m
  owns (kind.Take c n) (effect.Put d v) m h = absurd m
  owns (kind.Take c n) (effect.Take d) m h = tt
  owns (kind.Take c n) (effect.Notify e k) m h = absurd m
  owns (kind.Take c n) (effect.Cancel e) m h = absurd m
  owns (kind.Take c n) effect.Stop m h = absurd m
  owns (kind.Put c x) (effect.Request d v) m h = absurd m
  owns (kind.Put c x) (effect.Put d v) m h = tt
  owns (kind.Put c x) (effect.Take d) m h = absurd m
  owns (kind.Put c x) (effect.Notify e k) m h = absurd m
  owns (kind.Put c x) (effect.Cancel e) m h = absurd m
  owns (kind.Put c x) effect.Stop m h = absurd m
  owns (kind.Notify g t) (effect.Request d v) m h = absurd m
  owns (kind.Notify g t) (effect.Put d v) m h = absurd m
  owns (kind.Notify g t) (effect.Take d) m h = absurd m
  owns (kind.Notify g t) (effect.Notify e k) m h = subst (λ n. IsOwn (slice_get events n)) m.0 h.0
  owns (kind.Notify g t) (effect.Cancel e) m h = absurd m
  owns (kind.Notify g t) effect.Stop m h = absurd m
  owns (kind.Cancel g) (effect.Request d v) m h = absurd m
  owns (kind.Cancel g) (effect.Put d v) m h = absurd m
  owns (kind.Cancel g) (effect.Take d) m h = absurd m
  owns (kind.Cancel g) (effect.Notify e k) m h = absurd m
  owns (kind.Cancel g) (effect.Cancel e) m h = subst (λ n. IsOwn (slice_get events n)) m h
  owns (kind.Cancel g) effect.Stop m h = absurd m
  owns kind.Stop (effect.Request d v) m h = absurd m
  owns kind.Stop (effect.Put d v) m h = absurd m
  owns kind.Stop (effect.Take d) m h = absurd m
  owns kind.Stop (effect.Notify e k) m h = absurd m
  owns kind.Stop (effect.Cancel e) m h = absurd m
  owns kind.Stop effect.Stop m h = tt
  owns (kind.Trigger w) f m h = absurd m
  owns (kind.Wait w) f m h = absurd m
  owns kind.End f m h = absurd m

pub all_own : (r : Rules) (rules : AreRules r) (sound : IsSound r.design) (does : Does) (x : Activation) → AllByRecursion (Owns r.design.events) (deed_of r x).effects
all_own r rules sound does x = ⊎_elim (λ a. by a) (λ n. subst (AllByRecursion (Owns r.design.events)) (sym n.effects) tt) (acting r rules sound does x)
  where
    by : Acts r rules sound does x → AllByRecursion (Owns r.design.events) (deed_of r x).effects
    by a =
        each_contained (Owns r.design.events) (deed_of r x).effects (λ f c.
        let m = made r rules sound does x a f (in_contained (deed_of r x).effects f c) in
        let n = (fits r rules sound x.segment a.here).nodes m.number m.node (own_within r rules sound x.segment a.here m.number m.within) m.is in
        owns (scope_of r.design a.here.process) r.design.events m.node.kind f m.makes n.names)
