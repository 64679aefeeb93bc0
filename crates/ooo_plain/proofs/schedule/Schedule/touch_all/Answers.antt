use Rattle.std.proofs.Common.{sym, subst, arith}
use Rattle.std.proofs.lemmas.List.{take_more, take_all}
use Rattle.ooo_plain.specs.Schedule.{Touched}
use Rattle.ooo_plain.proofs.Asking.{touched_none, touched_both, touched_knows, touched_may}
use Rattle.ooo_plain.proofs.schedule.Schedule.touch_all.Goals as goal

pub loop-e-init : goal.loop-e-init
loop-e-init c = touched_none c.args.bank.now c.args.now c.args.self.now

pub touch-requires-clause-knows : goal.touch-requires-clause-knows
touch-requires-clause-knows c = touched_knows c.args.bank.now c.args.now _ c.args.self.now c.loop-e.self c.loop-e.invariant c.requires.knows

pub touch-requires-clause-may : goal.touch-requires-clause-may
touch-requires-clause-may c = touched_may c.args.bank.now c.args.now _ c.args.self.now c.loop-e.self c.loop-e.invariant c.requires.may

pub loop-e-preserved : goal.loop-e-preserved
loop-e-preserved c = subst (λ es. Touched es c.args.bank.now c.args.now c.args.self.now c.touch.new.self) (sym (take_more c.args.events.now c.loop-e.e-index 0 c.loop-e-test.true))
    (touched_both c.args.bank.now c.args.now _ _ c.args.self.now c.loop-e.self c.touch.new.self c.loop-e.invariant c.in_ok-touch.ensures)

pub returns : goal.returns
returns c = subst (λ es. Touched es c.args.bank.now c.args.now c.args.self.now c.loop-e.self) (take_all c.loop-e.e-index c.args.events.now (let h = c.loop-e-test.false in omega (arith, h))) c.loop-e.invariant
