-- The process is better where it may run and its stamp is earlier.
use Rattle.std.proofs.Common.{◌<◌, length, Some, None, arith}
use Rattle.ooo_time.specs.declared.stamp.Place.{Place}
use Rattle.ooo_fronts.proofs.Choosing.{none_taken, not_earlier, one_more, ready_place, still_within, taken, unready_held, unready_state}
use Rattle.ooo_fronts.proofs.choice.Choice.better.Goals as goal
use Rattle.ooo_fronts.proofs.choice.Choice.better.Goals.{else-comes_first-via-else-comes_first, else-comes_first-via-then-comes_first+then-is_waiting+else-is_free, else-comes_first-via-then-comes_first+else-is_waiting}

pub returns-then-is_free-clause-best : goal.returns-then-is_free-clause-best
returns-then-is_free-clause-best c = λ r least b k h.
    let at : Place = record { stamp = c.args.front.stamp; process = c.args.p } in
    let in_range : c.args.p < length c.args.self.now.states.now = omega (arith, c.requires.process, c.requires.states) in
    one_more r least b c.args.p c.args.best (Some at) (Some at) (taken c.args.best at (c.comes_first.ensures.0 c.if-comes_first.true)) h
    (ready_place r least b c.args.self.now k c.args.p c.args.front c.requires.front in_range c.requires.limit (c.is_waiting.ensures.0 c.if-is_waiting.true) (c.is_free.ensures.0 c.if-is_free.true))

pub returns-else-comes_first-clause-within : goal.returns-else-comes_first-clause-within
returns-else-comes_first-clause-within c = still_within c.args.p c.args.best c.requires.best

pub returns-else-comes_first-clause-best : goal.returns-else-comes_first-clause-best
returns-else-comes_first-clause-best c = λ r least b k h.
    let in_range : c.args.p < length c.args.self.now.states.now = omega (arith, c.requires.process, c.requires.states) in
    elim c.else-comes_first.branch [
      | else-comes_first-via-else-comes_first w ↦
          not_earlier r least b c.args.self.now k c.args.p c.args.front c.requires.front c.args.best h (λ t. let y = c.comes_first.ensures.1 t in absurd cc)
      | else-comes_first-via-then-comes_first+then-is_waiting+else-is_free w ↦
          one_more r least b c.args.p c.args.best None c.args.best (none_taken c.args.best) h
          (unready_held r least b c.args.self.now k c.args.p (λ t. let y = w.is_free.ensures.1 t in absurd cc))
      | else-comes_first-via-then-comes_first+else-is_waiting w ↦
          one_more r least b c.args.p c.args.best None c.args.best (none_taken c.args.best) h
          (unready_state r least b c.args.self.now k c.args.p in_range (λ t. let y = w.is_waiting.ensures.1 t in absurd cc))
    ]
