use Rattle.std.proofs.Common.{[], ◌∷◌, refl, sym, subst, eq-eqb}
use Rattle.std.proofs.lemmas.Bool.{ne_eqb}
use Rattle.ooo_value.specs.declared.bound.ChannelKind.TheVariants as kind
use Rattle.ooo_code.specs.declared.activation.Effect.TheVariants as effect
use Rattle.ooo_channels.specs.Operations.{after_effect}
use Rattle.ooo_channels.specs.Cycles.{cycle_of, channel_before}
use Rattle.ooo_channels.specs.Calls.{channel_calls}
use Rattle.ooo_channels.specs.Bank.{BankState, IsBankAfter, Covers}
use Rattle.ooo_channels.proofs.Banked.{channel_kept, channel_there, channel_applied, fifo_shows, covers_channel, room_for_one}
use Rattle.ooo_channels.proofs.bank.Bank.put.Goals as goal

pub put-requires-clause-room : goal.put-requires-clause-room
put-requires-clause-room c =
    let may = c.requires.may in
    let i = c.self.inside in
    let h = subst (λ (b : BankState). IsBankAfter b may.0) (sym c.self.view_is) may.1 in
    let lt = channel_there i.channels.items i.kinds.items i.events.items i.below may.0 c.args.id kind.Fifo h may.2.names in
    room_for_one i.channels.items i.kinds.items i.events.items i.below (effect.Put c.args.id c.args.value) c.args.id _ lt c.index_mut.ensures.value (eq-eqb c.args.id c.args.id refl)
    (subst (λ (b : BankState). Covers b (effect.Put c.args.id c.args.value ∷ [])) (sym c.self.view_is) c.requires.room)

pub put-requires-clause-may : goal.put-requires-clause-may
put-requires-clause-may c =
    let may = c.requires.may in
    let i = c.self.inside in
    let h = subst (λ (b : BankState). IsBankAfter b may.0) (sym c.self.view_is) may.1 in
    let lt = channel_there i.channels.items i.kinds.items i.events.items i.below may.0 c.args.id kind.Fifo h may.2.names in
    (c.args.id, cycle_of may.0 c.args.id, channel_calls may.0, channel_kept i.channels.items i.kinds.items i.events.items i.below may.0 c.args.id _ h lt c.index_mut.ensures.value, may.2.in_order, may.2.place)

pub returns : goal.returns
returns c =
    let i = c.self.inside in
    let had = c.requires.may in
    let g = subst (λ (b : BankState). IsBankAfter b had.0) (sym c.self.view_is) had.1 in
    let lt = channel_there i.channels.items i.kinds.items i.events.items i.below had.0 c.args.id kind.Fifo g had.2.names in
    record {
      after = λ ops was may.
          let h = subst (λ (b : BankState). IsBankAfter b ops) (sym c.self.view_is) was in
          channel_applied i.channels.items i.kinds.items i.events.items i.below ops c.args.at (effect.Put c.args.id c.args.value) c.args.id kind.Fifo _ c.put.new.self h may.names c.put.ensures.kind c.index_mut.ensures.value c.put.ensures.keeps
          (eq-eqb c.args.id c.args.id refl) (λ d ne. ne_eqb d c.args.id ne) (λ e. refl)
          (c.put.ensures.after c.args.id (cycle_of ops c.args.id) (channel_calls ops)
          (channel_kept i.channels.items i.kinds.items i.events.items i.below ops c.args.id _ h lt c.index_mut.ensures.value) may.in_order may.place)
          (fifo_shows i.below (channel_before (after_effect c.args.at ops (effect.Put c.args.id c.args.value)) c.args.id) c.put.new.self c.put.ensures.kind);
      room = λ more room.
          covers_channel i.channels.items i.kinds.items i.events.items i.below (effect.Put c.args.id c.args.value) more c.args.id _ c.put.new.self lt c.index_mut.ensures.value
          (eq-eqb c.args.id c.args.id refl) (λ d ne. ne_eqb d c.args.id ne) (λ e. refl) c.put.ensures.room
          (subst (λ (b : BankState). Covers b (effect.Put c.args.id c.args.value ∷ more)) (sym c.self.view_is) room);
    }
