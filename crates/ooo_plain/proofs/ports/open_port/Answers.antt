use Rattle.ooo_plain.proofs.Opening.{bound_is, has_channel, signal_opens, small, there, fifo_opens}
use Rattle.ooo_plain.proofs.ports.open_port.Goals as goal

pub new-requires : goal.new-requires
new-requires c = small c.laws.ensures c.args.design.now c.requires.sound c.args.bank.now c.args.at c.args.c (bound_is c.args.design.now _ c.args.c _ _ c.as_slice.ensures c.requires.within c.in-Fifo.is) c.free.result c.free.ensures c.requires.may

pub returns-in-Signal : goal.returns-in-Signal
returns-in-Signal c = signal_opens c.laws.ensures c.args.design.now c.requires.sound c.args.bank.now c.args.at c.args.c (bound_is c.args.design.now _ c.args.c _ _ c.as_slice.ensures c.requires.within c.in-Signal.is) c.signal-v.result c.signal-v.ensures.now

pub returns-in-Fifo : goal.returns-in-Fifo
returns-in-Fifo c =
    fifo_opens c.laws.ensures c.args.design.now c.requires.sound c.args.bank.now c.args.at c.args.c (bound_is c.args.design.now _ c.args.c _ _ c.as_slice.ensures c.requires.within c.in-Fifo.is) c.free.result c.free.ensures
    c.new.result c.new.ensures.channel c.new.ensures.taken c.new.ensures.free

pub signal-v-requires : goal.signal-v-requires
signal-v-requires c =
    let m = c.requires.may in
    let b = bound_is c.args.design.now _ c.args.c _ _ c.as_slice.ensures c.requires.within c.in-Signal.is in
    (m.ops, m.seen.bank_is, has_channel c.laws.ensures c.args.design.now c.requires.sound c.args.bank.now c.args.at c.args.c b.channel b.is _ b.kind_is m.ops m.seen.channels)

pub free-requires : goal.free-requires
free-requires c =
    let m = c.requires.may in
    let b = bound_is c.args.design.now _ c.args.c _ _ c.as_slice.ensures c.requires.within c.in-Fifo.is in
    (m.ops, m.seen.bank_is, there c.laws.ensures c.args.design.now c.requires.sound c.args.bank.now c.args.at c.args.c b m.ops m.seen.channels)
