use Rattle.ooo_sim.proofs.call.by_workers.Goals as goal

pub returns-clause-answer : goal.returns-clause-answer
returns-clause-answer g c = record {
  read = c.in_ok-text.text.items;
  told = c.in_ok-text.ensures.text;
  is = (rw c.deref.ensures.value at c.in_ok-run_text.ensures).is;
  board = (rw c.deref.ensures.value at c.in_ok-run_text.ensures).board;
}
