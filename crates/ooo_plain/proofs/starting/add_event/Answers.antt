use Rattle.std.proofs.Common.{arith}
use Rattle.std.proofs.lemmas.List.{length-map}
use Rattle.std.proofs.lemmas.Result.{on_ok_weaker}
use Rattle.ooo_plain.specs.Schedule.{lists_of}
use Rattle.ooo_plain.proofs.Beginning.{event_joins, list_there, own_joins}
use Rattle.ooo_plain.proofs.starting.add_event.Goals as goal

pub add_to-requires : goal.add_to-requires
add_to-requires c =
    let there = list_there c.args.design.now c.requires.sound c.args.e c.args.event c.requires.event c.in-Some.c c.in-Some.ensures.1 c.in-Some.ensures.0 (lists_of c.args.channel_events.now.items) c.requires.so_far in
    let count = length-map c.args.channel_events.now.items (λ v. v.items) in
    omega (arith, there, count)

pub returns-in-Some : goal.returns-in-Some
returns-in-Some c =
    let there = list_there c.args.design.now c.requires.sound c.args.e c.args.event c.requires.event c.in-Some.c c.in-Some.ensures.1 c.in-Some.ensures.0 (lists_of c.args.channel_events.now.items) c.requires.so_far in
    on_ok_weaker c.add_to.result
    (λ added. event_joins c.args.design.now c.args.e c.args.event c.requires.event (lists_of c.args.channel_events.now.items) (lists_of c.add_to.new.lists.items) c.requires.so_far c.in-Some.c c.in-Some.ensures.1 there added) c.add_to.ensures

pub returns-in-None : goal.returns-in-None
returns-in-None c = own_joins c.args.design.now c.args.e c.args.event c.requires.event (lists_of c.args.channel_events.now.items) (lists_of c.args.channel_events.now.items) c.requires.so_far c.in-None.ensures
