-- A value that the bank gives is the one that it keeps at that place.
use Rattle.std.proofs.Common.{◌≡◌, ◌<◌, length, sym, ap, subst, ◌∙◌, arith, Some}
use Rattle.std.specs.Prelude.{slice_get}
use Rattle.ooo_value.specs.declared.bound.ChannelKind.TheVariants as kind
use Rattle.ooo_channels.specs.Conditions.{HasChannel}
use Rattle.ooo_channels.specs.Cycles.{channel_in, readable}
use Rattle.ooo_plain.specs.Opening.{OpenFifos, readable_by}
use Rattle.ooo_plain.proofs.Opening.{Bound, may_read, none_there, readable_is, some_fifo, there}
use Rattle.ooo_plain.proofs.bank_fifos.BankFifosFifoValues.value.Goals as goal

pub value-requires : goal.value-requires
value-requires c =
    let f = c.self.inside in
    let m = c.self.invariant in
    let whole : c.args.n < length (readable_by c.args.self.now.bank c.args.self.now.at c.args.channel) = subst (λ k. c.args.n < k) c.count-count.ensures.count c.if-n-count.true in
    let lt : c.args.n < length (readable_by f.bank.now f.at c.args.channel) = subst (λ (s : OpenFifos). c.args.n < length (readable_by s.bank s.at c.args.channel)) (sym c.self.view_is) whole in
    let b : Bound f.design.now c.args.channel kind.Fifo = some_fifo c.laws.ensures f.design.now m.sound f.bank.now f.at c.args.channel c.args.n m.may lt in
    let has : HasChannel m.may.ops c.args.channel kind.Fifo = there c.laws.ensures f.design.now m.sound f.bank.now f.at c.args.channel b m.may.ops m.may.seen.channels in
    (m.may.ops, m.may.seen.bank_is, has, may_read m.may.ops f.at c.args.channel c.args.n (subst (λ xs. c.args.n < length xs) (readable_is f.bank.now m.may.ops f.at c.args.channel m.may.seen.bank_is has) lt))

pub returns-then-n-count : goal.returns-then-n-count
returns-then-n-count c =
    let f = c.self.inside in
    let m = c.self.invariant in
    let whole : c.args.n < length (readable_by c.args.self.now.bank c.args.self.now.at c.args.channel) = subst (λ k. c.args.n < k) c.count-count.ensures.count c.if-n-count.true in
    let lt : c.args.n < length (readable_by f.bank.now f.at c.args.channel) = subst (λ (s : OpenFifos). c.args.n < length (readable_by s.bank s.at c.args.channel)) (sym c.self.view_is) whole in
    let b : Bound f.design.now c.args.channel kind.Fifo = some_fifo c.laws.ensures f.design.now m.sound f.bank.now f.at c.args.channel c.args.n m.may lt in
    let has : HasChannel m.may.ops c.args.channel kind.Fifo = there c.laws.ensures f.design.now m.sound f.bank.now f.at c.args.channel b m.may.ops m.may.seen.channels in
    let same : readable_by f.bank.now f.at c.args.channel ≡ readable (channel_in f.at m.may.ops c.args.channel) = readable_is f.bank.now m.may.ops f.at c.args.channel m.may.seen.bank_is has in
    subst (λ (s : OpenFifos). Some c.value.result ≡ slice_get (readable_by s.bank s.at c.args.channel) c.args.n) c.self.view_is
    (sym (ap (λ xs. slice_get xs c.args.n) same ∙ c.value.ensures.readable m.may.ops f.at m.may.seen.bank_is has (subst (λ xs. c.args.n < length xs) same lt)))

pub returns-else-n-count : goal.returns-else-n-count
returns-else-n-count c = none_there (readable_by c.args.self.now.bank c.args.self.now.at c.args.channel) c.args.n (let l = c.if-n-count.false in let k = c.count-count.ensures.count in omega (arith, l, k))
