-- What an expression reads of channels is what its form says.
use Rattle.std.proofs.Common.{refl}
use Rattle.std.proofs.lemmas.Result.{on_ok_weaker}
use Rattle.ooo_plain.proofs.Forms.{told_choice, told_element, told_fifo, told_none, told_one, told_signal, told_two}
use Rattle.ooo_plain.proofs.touching.+tell_reads.Goals as goal

pub returns-in-Constant : goal.returns-in-Constant
returns-in-Constant t c = told_none c.args.count c.args.told.now.items c.args.told.now.items c.args.e.now c.in-Constant.is refl

pub returns-in-Element : goal.returns-in-Element
returns-in-Element t c =
    on_ok_weaker c.tell_reads.result (told_element c.args.count c.args.told.now.items c.tell_reads.new.told.items c.args.e.now _ c.in-Element.i c.get.result.now c.in-Element.is c.get.ensures) c.tell_reads.ensures

pub returns-in-Signal : goal.returns-in-Signal
returns-in-Signal t c =
    on_ok_weaker c.tell-in-Signal.result (told_signal c.args.count c.args.told.now.items c.tell-in-Signal.new.told.items c.args.e.now c.in-Signal.c c.in-Signal.is) c.tell-in-Signal.ensures

pub returns-in-Available : goal.returns-in-Available
returns-in-Available t c =
    on_ok_weaker c.tell.result (told_fifo c.args.count c.args.told.now.items c.tell.new.told.items c.args.e.now c.in-Available.c c.in-Available.is) c.tell.ensures

pub returns-in-Convert : goal.returns-in-Convert
returns-in-Convert t c =
    on_ok_weaker c.tell_reads-in-Convert.result (told_one c.args.count c.args.told.now.items c.tell_reads-in-Convert.new.told.items c.args.e.now c.in-Convert.a c.get-in-Convert.result.now c.in-Convert.is c.get-in-Convert.ensures) c.tell_reads-in-Convert.ensures

pub returns-in_ok-tell_reads-in-Binary : goal.returns-in_ok-tell_reads-in-Binary
returns-in_ok-tell_reads-in-Binary t c =
    on_ok_weaker c.tell_reads-in-Binary-2.result (told_two c.args.count c.args.told.now.items c.tell_reads-in-Binary-2.new.told.items c.args.e.now c.in-Binary.a c.in-Binary.b c.get-in-Binary.result.now c.get-in-Binary-2.result.now c.tell_reads-in-Binary.new.told.items c.in-Binary.is c.get-in-Binary.ensures c.get-in-Binary-2.ensures c.in_ok-tell_reads-in-Binary.ensures) c.tell_reads-in-Binary-2.ensures

pub returns-in_ok-tell_reads-in-Choose-2 : goal.returns-in_ok-tell_reads-in-Choose-2
returns-in_ok-tell_reads-in-Choose-2 t c =
    on_ok_weaker c.tell_reads-in-Choose-3.result (told_choice c.args.count c.args.told.now.items c.tell_reads-in-Choose-3.new.told.items c.args.e.now c.in-Choose.c c.in-Choose.a c.in-Choose.b c.get-in-Choose.result.now c.get-in-Choose-2.result.now c.get-in-Choose-3.result.now c.tell_reads-in-Choose.new.told.items c.tell_reads-in-Choose-2.new.told.items c.in-Choose.is c.get-in-Choose.ensures c.get-in-Choose-2.ensures c.get-in-Choose-3.ensures c.in_ok-tell_reads-in-Choose.ensures c.in_ok-tell_reads-in-Choose-2.ensures) c.tell_reads-in-Choose-3.ensures
