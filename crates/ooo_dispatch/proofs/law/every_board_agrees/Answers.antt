use Rattle.ooo_dispatch.proofs.law.every_board_agrees.Goals as goal

pub returns : goal.returns
returns c = λ r result b rules sound some is lawful.
    let run = c.scheduler_makes_steps.ensures r result rules sound some is in
    let every = c.every_schedule.ensures r rules sound some in
    record {
      log = run.0;
      made = run.2;
      jobs = λ y x d i p n. every.job_reads run.0 run.1 b lawful y x d i p n;
      report = λ over. every.board_report run.0 run.1 b lawful over;
    }
