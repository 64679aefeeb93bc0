use Rattle.std.proofs.Common.{◌<◌, [], ◌∷◌, refl, ap, sym, subst, eq-eqb, cond, arith}
use Rattle.std.proofs.lemmas.Bool.{ne_eqb}
use Rattle.ooo_code.specs.declared.activation.Effect.TheVariants as effect
use Rattle.ooo_channels.specs.Bank.{BankState, IsBankAfter, Covers}
use Rattle.std.specs.Prelude.{length}
use Rattle.std.proofs.lemmas.Option.{slice_get_within}
use Rattle.ooo_value.specs.declared.bound.BoundEvent.TheVariants as event
use Rattle.ooo_events.specs.declared.call.Call.TheVariants as call
use Rattle.ooo_channels.proofs.Banked.{event_applied, covers_event}
use Rattle.ooo_channels.proofs.bank.Bank.cancel.Goals as goal

pub returns : goal.returns
returns c =
    let i = c.self.inside in
    let had = c.requires.may in
    let g = subst (λ (b : BankState). IsBankAfter b had.0) (sym c.self.view_is) had.1 in
    let lt : c.args.id < length i.events.items = omega (arith, slice_get_within had.0.events c.args.id event.Own had.2.names, g.event_count) in
    record {
      after = λ ops was may.
          let h = subst (λ (b : BankState). IsBankAfter b ops) (sym c.self.view_is) was in
          event_applied i.channels.items i.kinds.items i.events.items i.below ops c.args.at (effect.Cancel c.args.id) c.args.id (call.Cancel c.args.at) _ c.make.new.event h may.names
          (λ d. refl) (ap (λ b. cond b (call.Cancel c.args.at ∷ []) []) (eq-eqb c.args.id c.args.id refl)) (λ d ne. ap (λ b. cond b (call.Cancel c.args.at ∷ []) []) (ne_eqb d c.args.id ne))
          c.index_mut.ensures.value c.make.ensures.kept;
      room = λ more room.
          covers_event i.channels.items i.kinds.items i.events.items i.below (effect.Cancel c.args.id) more c.args.id _ c.make.new.event lt c.index_mut.ensures.value
          (eq-eqb c.args.id c.args.id refl) (λ d ne. ne_eqb d c.args.id ne) (λ d. refl) c.make.ensures.room
          (subst (λ (b : BankState). Covers b (effect.Cancel c.args.id ∷ more)) (sym c.self.view_is) room);
    }
