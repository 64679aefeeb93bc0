use Rattle.ooo_dispatch.specs.Least.{rules_of}
use Rattle.ooo_dispatch.specs.Steps.{nothing_done}
use Rattle.ooo_board.proofs.laws.laws.Goals as goal

pub returns : goal.returns
returns c = λ design limits t ready. record {
  aligned = c.tables_are_aligned.ensures design t ready.tables;
  counts = λ fronts counts h. c.counts_are_of_the_rule.ensures design limits t fronts counts ready.tables h;
  holds = λ fronts p h is. c.holds_are_of_the_rule.ensures.up design limits t fronts p h is;
  found = λ fronts p q g f differs there own up. c.holds_are_of_the_rule.ensures.found design limits t fronts p q g f ready.tables differs there own up;
  goes_on = λ steps step h next. c.steps_are_lawful.ensures.on design limits t (nothing_done (rules_of design limits t)) steps step h next;
  in_reach = c.fronts_in_reach.ensures design limits t ready;
  reads = λ result run. c.every_list_agrees.ensures.reads design limits t result ready run;
  away = c.nothing_away.ensures design limits t ready;
  stays = c.stay_allowed.ensures design limits t ready;
  walks = c.commits_walk.ensures design limits t ready;
  cut = c.cut_stays.ensures design limits t ready;
  overtakes = c.none_overtakes.ensures design limits t ready;
  puts_back = c.commits_put_back.ensures design limits t ready;
  least = c.least_is_picked.ensures design limits t ready;
}
