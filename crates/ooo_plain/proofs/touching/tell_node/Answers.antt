use Rattle.std.proofs.lemmas.Result.{on_ok_weaker}
use Rattle.ooo_plain.proofs.Telling.{told_end, told_put, told_reads}
use Rattle.ooo_plain.proofs.touching.tell_node.Goals as goal

pub returns-in-Set : goal.returns-in-Set
returns-in-Set c =
    on_ok_weaker c.tell_reads-in-Set.result
    (λ reads. λ events. told_reads c.args.count events c.args.kind.now c.in-Set.e c.args.told.now.items c.tell_reads-in-Set.new.told.items c.in-Set.is reads) c.tell_reads-in-Set.ensures

pub returns-in-TestAvailable : goal.returns-in-TestAvailable
returns-in-TestAvailable c =
    on_ok_weaker c.tell-in-TestAvailable.result
    (λ tells. λ events. told_end c.args.count events c.args.kind.now c.in-TestAvailable.c c.args.told.now.items c.tell-in-TestAvailable.new.told.items c.in-TestAvailable.is tells) c.tell-in-TestAvailable.ensures

pub returns-in_ok-tell-in-Put : goal.returns-in_ok-tell-in-Put
returns-in_ok-tell-in-Put c =
    on_ok_weaker c.tell_reads-in-Put.result
    (λ reads. λ events. told_put c.args.count events c.in-Put.c c.args.kind.now c.args.told.now.items c.tell_reads-in-Put.new.told.items c.in-Put.e c.in-Put.is c.tell.new.told.items c.in_ok-tell-in-Put.ensures reads) c.tell_reads-in-Put.ensures
