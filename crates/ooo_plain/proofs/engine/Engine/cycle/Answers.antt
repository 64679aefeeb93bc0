use Rattle.std.proofs.Common.{◌+◌, Some, None, sym, ap, ◌∙◌, arith}
use Rattle.ooo_history.specs.declared.run.End.TheVariants as end
use Rattle.ooo_plain.proofs.Cycling.{cycled_over, cycled_on, over_broken, over_stopped, over_idle, over_time, over_deltas}
use Rattle.ooo_plain.proofs.engine.Engine.cycle.Goals as goal

pub returns-in-Some : goal.returns-in-Some
returns-in-Some c = cycled_over c.laws.ensures c.args.design.now c.args.limits.now (Some c.in-Some.end) c.in_ok-end.field-0 c.in-Some.is c.args.self.now c.evaluate.new.self c.in_ok-end.ensures c.in-Some.end c.evaluate.new.self.stamp
    (λ w r. over_broken c.laws.ensures c.args.design.now c.args.limits.now c.args.self.now c.evaluate.new.self w c.in-Some.end r)

pub returns-then-self : goal.returns-then-self
returns-then-self c = cycled_over c.laws.ensures c.args.design.now c.args.limits.now None c.in_ok-end.field-0 c.in_default.is c.args.self.now c.evaluate.new.self c.in_ok-end.ensures (end.Stop c.evaluate.new.self.stamp) (record { time = c.evaluate.new.self.stamp.time; delta = c.evaluate.new.self.stamp.delta + 1 })
    (λ w r. over_stopped c.laws.ensures c.args.design.now c.args.limits.now c.args.self.now c.evaluate.new.self w r c.if-self.true)

pub returns-in_default-first : goal.returns-in_default-first
returns-in_default-first c = cycled_over c.laws.ensures c.args.design.now c.args.limits.now None c.in_ok-end.field-0 c.in_default.is c.args.self.now c.evaluate.new.self c.in_ok-end.ensures (end.Idle c.evaluate.new.self.last) (record { time = c.evaluate.new.self.stamp.time; delta = c.evaluate.new.self.stamp.delta + 1 })
    (λ w r. over_idle c.laws.ensures c.args.design.now c.args.limits.now c.args.self.now c.evaluate.new.self w r c.if-self.false (sym c.first.ensures ∙ c.in_default-first.is))

pub returns-then-next-limits : goal.returns-then-next-limits
returns-then-next-limits c = cycled_over c.laws.ensures c.args.design.now c.args.limits.now None c.in_ok-end.field-0 c.in_default.is c.args.self.now c.evaluate.new.self c.in_ok-end.ensures (end.Time c.args.limits.now.stop) (record { time = c.evaluate.new.self.stamp.time; delta = c.evaluate.new.self.stamp.delta + 1 })
    (λ w r. over_time c.laws.ensures c.args.design.now c.args.limits.now c.args.self.now c.evaluate.new.self w r c.if-self.false c.in-Some-first.next (sym c.first.ensures ∙ c.in-Some-first.is)
    (let a = c.requires.within.time in let e = ap (λ s. s.time.0) c.in_ok-end.ensures.stamp in omega (arith, a, e)) c.if-next-limits.true)

pub returns-then-next-limits-2 : goal.returns-then-next-limits-2
returns-then-next-limits-2 c = cycled_over c.laws.ensures c.args.design.now c.args.limits.now None c.in_ok-end.field-0 c.in_default.is c.args.self.now c.evaluate.new.self c.in_ok-end.ensures (end.Deltas c.in-Some-first.next) (record { time = c.evaluate.new.self.stamp.time; delta = c.evaluate.new.self.stamp.delta + 1 })
    (λ w r. over_deltas c.laws.ensures c.args.design.now c.args.limits.now c.args.self.now c.evaluate.new.self w r c.if-self.false c.in-Some-first.next (sym c.first.ensures ∙ c.in-Some-first.is) c.requires.range c.if-next-limits-2.true)

pub returns : goal.returns
returns c = cycled_on c.laws.ensures c.args.design.now c.args.limits.now c.in_ok-end.field-0 c.in_default.is c.args.self.now c.evaluate.new.self c.in_ok-end.ensures c.requires.may c.requires.within c.requires.range c.if-self.false c.in-Some-first.next (sym c.first.ensures ∙ c.in-Some-first.is)
    c.if-next-limits-2.false (let h = c.if-next-limits.false in omega (arith, h)) c.forget.new.self c.forget.ensures.after
