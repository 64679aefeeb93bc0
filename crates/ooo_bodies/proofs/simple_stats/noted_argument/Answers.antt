use Rattle.ooo_checked.specs.declared.denotation.Method.{Method}
use Rattle.ooo_checked.specs.Exprs.{argument_notes, count_of, member_notes, option_of}
use Rattle.ooo_checked.specs.Things.{method_of}
use Rattle.ooo_bodies.proofs.Formed.{noted_after}
use Rattle.ooo_bodies.proofs.simple_stats.noted_argument.Goals as goal

pub returns-clause-tree : goal.returns-clause-tree
returns-clause-tree c = c.argument.ensures.tree

pub returns-clause-notes : goal.returns-clause-notes
returns-clause-notes c =
    let m : Method = method_of c.args.thing c.args.call.after.now.name in
    noted_after c.argument.result c.args.notes.now c.member.new.self c.argument.new.notes
    (member_notes c.args.call.place c.args.thing m (count_of c.args.arg.now) c.args.call.word.now.position c.args.call.after.now.position)
    (argument_notes m (option_of c.args.arg.now c.args.scopes.now))
    (rw (c.argument_count-count.ensures, c.method-method.ensures, c.as_bytes.ensures) at c.in_ok-member.ensures)
    (rw (c.method-method.ensures, c.as_bytes.ensures) at c.argument.ensures.notes)
