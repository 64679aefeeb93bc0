use Rattle.std.proofs.Common.{◌≡◌, ◌+◌, ◌-◌, ◌*◌}
use Rattle.ooo_grammar.specs.Forms.{repeats_in}
use Rattle.ooo_grammar.specs.Sets.{in_set}
use Rattle.ooo_grammar.specs.Names.{begins_stat}
use Rattle.ooo_grammar.specs.Statements.{stats}
use Rattle.ooo_grammar.specs.Gives.{reads_at}
use Rattle.ooo_statements.specs.Loops.{next_stat}
use Rattle.ooo_statements.proofs.statements.+statement.Given as goal

abbrev pub decreases-read_inner_stat : goal.decreases-read_inner_stat
decreases-read_inner_stat l = l.limits.levels * 8 + 0

abbrev pub decreases-read_next_stat : goal.decreases-read_next_stat
decreases-read_next_stat l = l.limits.levels * 8 + 1

abbrev pub decreases-read_stats : goal.decreases-read_stats
decreases-read_stats l = l.limits.levels * 8 + 2

abbrev pub decreases-read_block : goal.decreases-read_block
decreases-read_block l = l.limits.levels * 8 + 3

abbrev pub decreases-read_other : goal.decreases-read_other
decreases-read_other l = l.limits.levels * 8 + 1

abbrev pub decreases-read_maybe_other : goal.decreases-read_maybe_other
decreases-read_maybe_other l = l.limits.levels * 8 + 2

abbrev pub decreases-read_else_part : goal.decreases-read_else_part
decreases-read_else_part l = l.limits.levels * 8 + 3

abbrev pub decreases-read_after_condition : goal.decreases-read_after_condition
decreases-read_after_condition l = l.limits.levels * 8 + 4

abbrev pub decreases-read_if : goal.decreases-read_if
decreases-read_if l = l.limits.levels * 8 + 5

abbrev pub decreases-read_after_while : goal.decreases-read_after_while
decreases-read_after_while l = l.limits.levels * 8 + 1

abbrev pub decreases-read_while : goal.decreases-read_while
decreases-read_while l = l.limits.levels * 8 + 2

abbrev pub decreases-read_do : goal.decreases-read_do
decreases-read_do l = l.limits.levels * 8 + 1

abbrev pub decreases-read_for_body : goal.decreases-read_for_body
decreases-read_for_body l = l.limits.levels * 8 + 1

abbrev pub decreases-read_for : goal.decreases-read_for
decreases-read_for l = l.limits.levels * 8 + 2

abbrev pub decreases-read_stat : goal.decreases-read_stat
decreases-read_stat l = l.limits.levels * 8 + 6

abbrev pub invariant-read_stats-turns : goal.invariant-read_stats-turns
invariant-read_stats-turns l = reads_at l.limits stats l.tokens ≡ repeats_in (in_set begins_stat) (next_stat l.limits) (l._turn-end - l._turn) l.list l.rest
