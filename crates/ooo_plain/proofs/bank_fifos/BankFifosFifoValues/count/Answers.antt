-- What the bank says of a fifo is what it keeps of it.
use Rattle.std.proofs.Common.{◌≡◌, ◌≤◌, length, sym, ap, subst, ◌∙◌}
use Rattle.ooo_value.specs.declared.bound.ChannelKind.TheVariants as kind
use Rattle.ooo_channels.specs.Conditions.{HasChannel}
use Rattle.ooo_plain.specs.Opening.{OpenFifos, readable_by}
use Rattle.ooo_plain.proofs.Opening.{Bound, bound_fifo, few, none_readable, readable_is, there}
use Rattle.ooo_plain.proofs.bank_fifos.BankFifosFifoValues.count.Goals as goal

pub available-requires : goal.available-requires
available-requires c =
    let f = c.self.inside in
    let m = c.self.invariant in
    let b : Bound f.design.now c.args.channel kind.Fifo = bound_fifo c.laws.ensures f.design.now m.sound f.bank.now f.at c.args.channel (sym c.is_fifo.ensures ∙ c.if-is_fifo.true) in
    (m.may.ops, m.may.seen.bank_is, there c.laws.ensures f.design.now m.sound f.bank.now f.at c.args.channel b m.may.ops m.may.seen.channels)

pub returns-then-is_fifo-clause-count : goal.returns-then-is_fifo-clause-count
returns-then-is_fifo-clause-count c =
    let f = c.self.inside in
    let m = c.self.invariant in
    let b : Bound f.design.now c.args.channel kind.Fifo = bound_fifo c.laws.ensures f.design.now m.sound f.bank.now f.at c.args.channel (sym c.is_fifo.ensures ∙ c.if-is_fifo.true) in
    let has : HasChannel m.may.ops c.args.channel kind.Fifo = there c.laws.ensures f.design.now m.sound f.bank.now f.at c.args.channel b m.may.ops m.may.seen.channels in
    subst (λ (s : OpenFifos). c.available.result ≡ length (readable_by s.bank s.at c.args.channel)) c.self.view_is
    (c.available.ensures m.may.ops m.may.seen.bank_is has ∙ ap length (sym (readable_is f.bank.now m.may.ops f.at c.args.channel m.may.seen.bank_is has)))

pub returns-then-is_fifo-clause-few : goal.returns-then-is_fifo-clause-few
returns-then-is_fifo-clause-few c =
    let f = c.self.inside in
    let m = c.self.invariant in
    let b : Bound f.design.now c.args.channel kind.Fifo = bound_fifo c.laws.ensures f.design.now m.sound f.bank.now f.at c.args.channel (sym c.is_fifo.ensures ∙ c.if-is_fifo.true) in
    let has : HasChannel m.may.ops c.args.channel kind.Fifo = there c.laws.ensures f.design.now m.sound f.bank.now f.at c.args.channel b m.may.ops m.may.seen.channels in
    subst (λ n. n ≤ 65536) (sym (c.available.ensures m.may.ops m.may.seen.bank_is has ∙ ap length (sym (readable_is f.bank.now m.may.ops f.at c.args.channel m.may.seen.bank_is has))))
    (few c.laws.ensures f.design.now m.sound f.bank.now f.at c.args.channel b m.may)

pub returns-else-is_fifo-clause-count : goal.returns-else-is_fifo-clause-count
returns-else-is_fifo-clause-count c =
    let f = c.self.inside in
    let m = c.self.invariant in
    subst (λ (s : OpenFifos). 0 ≡ length (readable_by s.bank s.at c.args.channel)) c.self.view_is
    (sym (ap length (none_readable f.design.now f.bank.now m.may.ops f.at c.args.channel m.may.seen.bank_is m.may.seen.channels (sym c.is_fifo.ensures ∙ c.if-is_fifo.false))))
