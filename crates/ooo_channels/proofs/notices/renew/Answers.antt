use Rattle.std.proofs.Common.{◌++◌, ◌∷◌, [], sym, subst}
use Rattle.ooo_events.specs.declared.call.Call.TheVariants as call
use Rattle.ooo_channels.specs.Calls.{renewal}
use Rattle.ooo_channels.specs.Kept.{IsEventKept}
use Rattle.ooo_channels.proofs.Keeping.{more_kept}
use Rattle.ooo_channels.proofs.notices.renew.Goals as goal

pub returns-then-notified-clause-kept : goal.returns-then-notified-clause-kept
returns-then-notified-clause-kept c = λ calls kept.
    subst (λ b. IsEventKept c.args.below c.notify.new.self (calls ++ renewal c.args.at b ∷ [])) (sym c.if-notified.true)
    (more_kept c.args.below c.args.event.now c.forget.new.self c.notify.new.self (call.Notify c.args.at (record { 0 = 0 })) calls kept
    (c.forget.ensures.after calls kept.after) c.forget.ensures.remembers (c.notify.ensures.after calls) c.notify.ensures.forgotten)

pub returns-else-notified-clause-kept : goal.returns-else-notified-clause-kept
returns-else-notified-clause-kept c = λ calls kept.
    subst (λ b. IsEventKept c.args.below c.cancel.new.self (calls ++ renewal c.args.at b ∷ [])) (sym c.if-notified.false)
    (more_kept c.args.below c.args.event.now c.forget.new.self c.cancel.new.self (call.Cancel c.args.at) calls kept
    (c.forget.ensures.after calls kept.after) c.forget.ensures.remembers (c.cancel.ensures.after calls) c.cancel.ensures.forgotten)
