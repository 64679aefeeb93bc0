use Rattle.std.proofs.Common.{◌∙◌, ◌≡◌, sym, subst, ap, length, ◌<◌, refl, []}
use Rattle.std.proofs.lemmas.List.{get_or-map}
use Rattle.std.proofs.lemmas.Result.{on_ok_weaker}
use Rattle.std.specs.Prelude.{All}
use Rattle.ooo_plain.specs.Schedule.{Touched}
use Rattle.ooo_plain.specs.Engine.{events_of_channel}
use Rattle.ooo_plain.proofs.engine.Engine.touch_channel.Goals as goal

pub touch_all-requires-clause-events : goal.touch_all-requires-clause-events
touch_all-requires-clause-events c =
    subst (All (λ i. i < length c.args.self.now.schedule.waiters.items))
    (get_or-map (λ v. v.items) c.args.self.now.channel_events.items c.args.c c.index.result.now [] c.requires.within ∙ sym (ap (λ v. v.items) c.index.ensures) ∙ sym c.as_slice-events.ensures.value) c.requires.events

pub returns : goal.returns
returns c =
    let is : events_of_channel c.args.self.now c.args.c ≡ c.as_slice-events.result.now = get_or-map (λ v. v.items) c.args.self.now.channel_events.items c.args.c c.index.result.now [] c.requires.within ∙ sym (ap (λ v. v.items) c.index.ensures) ∙ sym c.as_slice-events.ensures.value in
    on_ok_weaker c.touch_all.result (λ touched. record {
      rest = refl;
      touched = subst (λ es. Touched es c.args.self.now.bank c.args.self.now.stamp c.args.self.now.schedule c.touch_all.new.self) (sym is) touched;
    }) c.touch_all.ensures
