-- Each test decides a part of what a process needs to run.
use Rattle.std.proofs.Common.{◌<◌, length, arith}
use Rattle.ooo_fronts.proofs.Choosing.{ready_place, unready_held, unready_limit, unready_state}
use Rattle.ooo_fronts.proofs.choice.Choice.ready_at.Goals as goal
use Rattle.ooo_fronts.proofs.choice.Choice.ready_at.Goals.{else-is_below_limit-via-then-is_below_limit+then-is_waiting+else-is_free, else-is_below_limit-via-then-is_below_limit+else-is_waiting, else-is_below_limit-via-else-is_below_limit}

pub returns-then-is_free-clause-ready : goal.returns-then-is_free-clause-ready
returns-then-is_free-clause-ready c = λ r least b k.
    let in_range : c.args.p < length c.args.self.now.states.now = omega (arith, c.requires.process, c.requires.states) in
    ready_place r least b c.args.self.now k c.args.p c.in_ok-front.front c.in_ok-front.was in_range (c.is_below_limit.ensures.0 c.if-is_below_limit.true) (c.is_waiting.ensures.0 c.if-is_waiting.true) (c.is_free.ensures.0 c.if-is_free.true)

pub returns-else-is_below_limit-clause-ready : goal.returns-else-is_below_limit-clause-ready
returns-else-is_below_limit-clause-ready c = λ r least b k.
    let in_range : c.args.p < length c.args.self.now.states.now = omega (arith, c.requires.process, c.requires.states) in
    elim c.else-is_below_limit.branch [
      | else-is_below_limit-via-then-is_below_limit+then-is_waiting+else-is_free w ↦ unready_held r least b c.args.self.now k c.args.p (λ t. let y = w.is_free.ensures.1 t in absurd cc)
      | else-is_below_limit-via-then-is_below_limit+else-is_waiting w ↦ unready_state r least b c.args.self.now k c.args.p in_range (λ t. let y = w.is_waiting.ensures.1 t in absurd cc)
      | else-is_below_limit-via-else-is_below_limit w ↦ unready_limit r least b c.args.self.now k c.args.p c.in_ok-front.front c.in_ok-front.was (λ t. let y = c.is_below_limit.ensures.1 t in absurd cc)
    ]
