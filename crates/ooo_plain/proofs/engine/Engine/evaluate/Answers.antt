use Rattle.std.proofs.Common.{◌<◌, ◌≤◌, length, None, sym, subst, arith, ◌+◌, ◌-◌}
use Rattle.ooo_plain.specs.Cycles.{Passes, Evaluates}
use Rattle.ooo_plain.proofs.Evaluating.{had_none, may_pass, from, within, had_more, all_calm, broken}
use Rattle.ooo_plain.proofs.engine.Engine.evaluate.Goals as goal

pub turns-init : goal.turns-init
turns-init c = had_none c.args.design.now c.args.statements c.args.self.now

pub pass_next-requires-clause-may : goal.pass_next-requires-clause-may
pass_next-requires-clause-may c = may_pass c.args.design.now c.args.statements c.turns.next c.args.self.now c.turns.self c.requires.may c.turns.invariant

pub pass_next-requires-clause-counts : goal.pass_next-requires-clause-counts
pass_next-requires-clause-counts c = let a = c.turns.invariant.activations in let b = c.turns.invariant.within in let l = c.requires.counts in omega (arith, a, b, l)

pub returns-in-Nobody : goal.returns-in-Nobody
returns-in-Nobody c =
    let none = subst (λ o. Passes c.args.design.now c.args.statements o c.turns.self c.pass_next.new.self) c.in-Nobody.is c.in_ok-pass_next.ensures in
    subst (Evaluates c.args.design.now c.args.statements None c.args.self.now) (sym none.0) (all_calm c.args.design.now c.args.statements c.turns.next c.args.self.now c.turns.self c.turns.invariant none.1)

pub returns-in-Broke : goal.returns-in-Broke
returns-in-Broke c =
    broken c.args.design.now c.args.statements c.turns.next c.args.self.now c.turns.self c.pass_next.new.self c.in-Broke.end c.requires.may c.turns.invariant
    (subst (λ o. Passes c.args.design.now c.args.statements o c.turns.self c.pass_next.new.self) c.in-Broke.is c.in_ok-pass_next.ensures)

pub turns-smaller : goal.turns-smaller
turns-smaller c =
    let t = subst (λ o. Passes c.args.design.now c.args.statements o c.turns.self c.pass_next.new.self) c.in-Had.is c.in_ok-pass_next.ensures in
    let a : c.turns.next ≤ c.in-Had.p = from c.args.design.now c.args.statements c.turns.next c.in-Had.p c.args.self.now c.turns.self c.pass_next.new.self c.requires.may c.turns.invariant t in
    let b : c.in-Had.p < length c.args.design.now.processes = within c.args.design.now c.args.statements c.turns.next c.in-Had.p c.args.self.now c.turns.self c.pass_next.new.self c.requires.may c.turns.invariant t in
    let less : length c.args.design.now.processes - (c.in-Had.p + 1) < length c.args.design.now.processes - c.turns.next = omega (arith, a, b) in
    less

pub turns-preserved : goal.turns-preserved
turns-preserved c =
    let t = subst (λ o. Passes c.args.design.now c.args.statements o c.turns.self c.pass_next.new.self) c.in-Had.is c.in_ok-pass_next.ensures in
    had_more c.args.design.now c.args.statements c.turns.next c.in-Had.p c.args.self.now c.turns.self c.pass_next.new.self c.requires.may c.turns.invariant t

pub overflow_add-next : goal.overflow_add-next
overflow_add-next c =
    let t = subst (λ o. Passes c.args.design.now c.args.statements o c.turns.self c.pass_next.new.self) c.in-Had.is c.in_ok-pass_next.ensures in
    let b : c.in-Had.p < length c.args.design.now.processes = within c.args.design.now c.args.statements c.turns.next c.in-Had.p c.args.self.now c.turns.self c.pass_next.new.self c.requires.may c.turns.invariant t in
    let f = c.requires.few.processes in omega (arith, b, f)
