use Rattle.std.proofs.Common.{◌≡◌, ◌∷◌, [], get_or, refl, arith, ap, sym, ◌∙◌}
use Rattle.std.specs.Prelude.{Some, slice_get}
use Rattle.std.proofs.lemmas.Option.{slice_get-get_or}
use Rattle.ooo_time.specs.declared.stamp.Stamp.{Stamp}
use Rattle.ooo_value.specs.declared.bound.BoundChannel.{BoundChannel}
use Rattle.ooo_value.specs.declared.bound.ChannelKind.{ChannelKind}
use Rattle.ooo_value.specs.declared.bound.ChannelKind.TheVariants as kind
use Rattle.ooo_value.specs.declared.kinds.Kind.TheVariants as value
use Rattle.ooo_code.specs.declared.activation.Seen.{Seen}
use Rattle.ooo_code.specs.declared.design.Design.{Design}
use Rattle.ooo_channels.specs.Bank.{BankState, HasChannelIn}
use Rattle.ooo_board.specs.declared.links.Watched.{Watched}
use Rattle.ooo_board.specs.Seeing.{MayAsk}
use Rattle.ooo_board.proofs.Watching.{fifo_seen, has_channel, signal_seen}
use Rattle.ooo_board.proofs.seeing.sight.Goals as goal

abbrev some_channel : BoundChannel
some_channel = record { kind = kind.Signal; value = value.Bool; size = 0 }

-- the channel that is watched
abbrev channel : Design → Watched → BoundChannel
channel design w = get_or design.channels w.channel some_channel

module _ (design : Design) (bank : BankState) (at : Stamp) (w : Watched) (may : MayAsk design bank at (w ∷ [])) where
  there : slice_get design.channels w.channel ≡ Some (channel design w)
  there = slice_get-get_or design.channels w.channel some_channel (may.there 0 w (omega arith))

  has_kind : (k : ChannelKind) → (channel design w).kind ≡ k → HasChannelIn bank w.channel k
  has_kind k e = (may.ops, may.asked.bank, has_channel design bank at may.ops may.asked w.channel (channel design w) there k e)

pub signal-value-requires : goal.signal-value-requires
signal-value-requires c =
    let design = c.args.design.now in
    let w = c.args.watched in
    let e = ap (λ xs. (get_or xs w.channel some_channel).kind) (sym c.as_slice.ensures) ∙ c.in-Signal.is in
    has_kind design c.args.bank.now c.args.at w c.requires.may kind.Signal e

pub returns-in-Signal : goal.returns-in-Signal
returns-in-Signal c ops asked =
    let design = c.args.design.now in
    let bank = c.args.bank.now in
    let w = c.args.watched in
    let may = c.requires.may in
    let e = ap (λ xs. (get_or xs w.channel some_channel).kind) (sym c.as_slice.ensures) ∙ c.in-Signal.is in
    let is = there design bank c.args.at w may in
    let has = has_channel design bank c.args.at ops asked w.channel (channel design w) is kind.Signal e in
    let seen = c.signal-value.ensures.before ops asked.bank has asked.kept in
    ap (λ (s : Seen). s ∷ []) (signal_seen design bank c.args.at ops asked w.channel (channel design w) is w refl c.signal-value.result e seen)

pub values_if-requires : goal.values_if-requires
values_if-requires c =
    let design = c.args.design.now in
    let w = c.args.watched in
    let e = ap (λ xs. (get_or xs w.channel some_channel).kind) (sym c.as_slice.ensures) ∙ c.in-Fifo.is in
    has_kind design c.args.bank.now c.args.at w c.requires.may kind.Fifo e

pub free_if-requires : goal.free_if-requires
free_if-requires c =
    let design = c.args.design.now in
    let w = c.args.watched in
    let e = ap (λ xs. (get_or xs w.channel some_channel).kind) (sym c.as_slice.ensures) ∙ c.in-Fifo.is in
    has_kind design c.args.bank.now c.args.at w c.requires.may kind.Fifo e

pub returns-in_ok-values-in-Fifo : goal.returns-in_ok-values-in-Fifo
returns-in_ok-values-in-Fifo c ops asked =
    let design = c.args.design.now in
    let bank = c.args.bank.now in
    let w = c.args.watched in
    let may = c.requires.may in
    let e = ap (λ xs. (get_or xs w.channel some_channel).kind) (sym c.as_slice.ensures) ∙ c.in-Fifo.is in
    let is = there design bank c.args.at w may in
    let has = has_channel design bank c.args.at ops asked w.channel (channel design w) is kind.Fifo e in
    ap (λ (s : Seen). s ∷ [])
    (fifo_seen design bank c.args.at ops asked w.channel (channel design w) is w refl c.in_ok-values-in-Fifo.values c.free_if.result e (c.in_ok-values-in-Fifo.ensures ops asked.bank has) (c.free_if.ensures ops asked.bank has))
