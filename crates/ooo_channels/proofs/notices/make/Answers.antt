use Rattle.std.proofs.Common.{arith}
use Rattle.ooo_channels.proofs.Keeping.{call_kept}
use Rattle.ooo_channels.proofs.notices.make.Goals as goal

pub apply-requires-clause-room : goal.apply-requires-clause-room
apply-requires-clause-room c = omega (arith, c.forget.ensures.more, c.requires.room)

pub returns-clause-kept : goal.returns-clause-kept
returns-clause-kept c = λ calls kept.
    call_kept c.args.below c.args.event.now c.forget.new.self c.apply.new.self c.args.call calls kept
    (c.forget.ensures.after calls kept.after) c.forget.ensures.remembers (c.apply.ensures.after calls) c.apply.ensures.exact

pub returns-clause-room : goal.returns-clause-room
returns-clause-room c = omega (arith, c.forget.ensures.more, c.apply.ensures.spent)
