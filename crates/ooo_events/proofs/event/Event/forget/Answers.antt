use Rattle.std.proofs.Common.{refl, subst, sym}
use Rattle.ooo_events.specs.Events.{EventState, IsOrderly, IsEventAfter, Remembers, firings_from, last_before}
use Rattle.ooo_events.proofs.Forgetting.{orderly_from, event_from, remembers_from}
use Rattle.ooo_events.proofs.event.Event.forget.Goals as goal

pub invariant_of-self : goal.invariant_of-self
invariant_of-self c =
    let dropped = c.drop_before-self-inside.ensures in
    rw (dropped.last, dropped.left) (orderly_from c.args.below c.self.inside.forgotten c.self.inside.fired.items _ _ c.self.invariant)

pub returns-clause-remembers : goal.returns-clause-remembers
returns-clause-remembers c = λ s remembers not.
    let was = subst (λ (e : EventState). Remembers e s) (sym c.self.view_is) remembers in
    rw c.drop_before-self-inside.ensures.last (remembers_from c.args.below s c.self.inside.forgotten c.self.inside.fired.items was not)

pub returns-clause-after : goal.returns-clause-after
returns-clause-after c = λ calls event.
    let was = subst (λ (e : EventState). IsEventAfter e calls) (sym c.self.view_is) event in
    let dropped = c.drop_before-self-inside.ensures in
    event_from c.args.below _ _ c.self.invariant dropped.last dropped.left refl refl calls was
