use Rattle.std.proofs.Common.{◌≡◌, ◌++◌, drop}
use Rattle.ooo_constants.specs.Bodies.{body_calls}
use Rattle.ooo_constants.proofs.calls.+calls.Given as goal

abbrev pub invariant-add_stats-parts : goal.invariant-add_stats-parts
invariant-add_stats-parts l =
    l.calls.items ++ body_calls (drop l.statement-index l.body) ≡ l.initial.calls.items ++ body_calls l.body
