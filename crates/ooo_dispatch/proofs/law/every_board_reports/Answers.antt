use Rattle.ooo_schedules.specs.Tables.{program}
use Rattle.ooo_dispatch.specs.Reports.{run_after}
use Rattle.ooo_dispatch.specs.Rules.{tables}
use Rattle.ooo_meaning.specs.Runs.{Shows}
use Rattle.ooo_schedules.specs.Reports.{next_stamp}
use Rattle.ooo_dispatch.proofs.Beginning.{whole}
use Rattle.ooo_dispatch.proofs.Ends.{count_is, end_is, histories_are, output_is}
use Rattle.ooo_dispatch.specs.Reports.{history_after}
use Rattle.std.proofs.Common.{sym, subst}
use Rattle.ooo_dispatch.proofs.law.every_board_reports.Goals as goal

pub returns : goal.returns
returns c = λ r result b rules sound some is lawful over.
    let safe = c.tables_are_sound.ensures r rules sound in
    let starts = c.processes_start.ensures r rules some in
    let law = c.every_step.ensures (tables r) safe starts in
    let comes = c.every_ending.ensures (tables r) safe in
    let report = c.every_report.ensures (tables r) safe starts in
    let went = whole r rules sound some law comes c.does_as_said.ensures c.reads_what_is_touched.ensures c.changes_what_is_touched.ensures is.cycles result is.is in
    let next = next_stamp (program (tables r)) b in
    subst (λ ys. Shows (run_after r ys next) result) (sym (report.reported went.log went.runs b lawful over))
    (record {
      histories = histories_are r result.histories (history_after r went.log) went.histories;
      ending = end_is r went.log result.end next went.ends (λ k ends. report.next went.log went.runs b lawful over k ends);
      activations = count_is r result.made went.log went.made;
      output = output_is r result.made went.log went.made;
    })
