use Rattle.ooo_dispatch.specs.Least.{rules_of}
use Rattle.ooo_fronts.specs.Fronts.{front_is}
use Rattle.ooo_board.proofs.law.parts_are_at_hand.Goals as goal

pub returns : goal.returns
returns c = λ design limits t steps p f stands may.
    let ready = stands.ready in
    let r = rules_of design limits t in
    record {
      reach = c.fronts_in_reach.ensures design limits t ready steps stands.lawful p (front_is f) may.may.front;
      inside = c.accesses_are_inside.ensures r (c.tables_are_rules.ensures design limits t ready.tables) ready.sound;
      reads = c.jobs_read_board.ensures design limits t ready steps stands.lawful p (front_is f) may.may;
      home = λ x used j out owned.
          (c.nothing_away.ensures design limits t ready steps stands.lawful).allowed p (front_is f) may.may j out x owned used;
    }
