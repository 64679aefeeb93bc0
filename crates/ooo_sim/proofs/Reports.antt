-- The report of a run of a model, by its statements and by its nodes.
use Rattle.std.proofs.Common.{◌≡◌, ◌∙◌, ℕ, ◌+◌, ◌≤◌, List, [], ◌∷◌, length, refl, sym, ap, subst, arith, suc, true}
use Rattle.std.specs.Prelude.{IfOk, Result as Answer, Ok, Err}
use Rattle.ooo_time.specs.declared.time.Time.{Time}
use Rattle.ooo_value.specs.declared.naming.Names.{Names}
use Rattle.ooo_bound.specs.declared.model.Bound.{Bound}
use Rattle.ooo_bound.specs.declared.model.BoundProcess.{BoundProcess}
use Rattle.ooo_code.specs.declared.design.Design.{Design}
use Rattle.ooo_code.specs.declared.limits.Limits.{Limits}
use Rattle.ooo_history.specs.declared.run.End.{End}
use Rattle.ooo_history.specs.declared.run.End.TheVariants as end
use Rattle.ooo_history.specs.declared.run.Run.{Run}
use Rattle.ooo_history.specs.Reporting.{IsNamed, report_text}
use Rattle.ooo_meaning.specs.Runs as nodes
use Rattle.ooo_meaning.specs.Runs.{Shows}
use Rattle.ooo_meaning.specs.Sequence.{Result}
use Rattle.ooo_activation.specs.Runs as statements
use Rattle.ooo_activation.specs.Sound.{IsSound}
use Rattle.ooo_shapes.specs.Designs.{design_of, process_size, processes_from}
use Rattle.ooo_front.specs.declared.answer.Accepted.{Accepted}
use Rattle.ooo_meaning.specs.Endings.{EndingsAreNamed, RunsHaveHistories}
use Rattle.ooo_plain.specs.Running.{ShowsRun}
use Rattle.ooo_sim.specs.declared.outcome.Verdict.{Verdict}
use Rattle.ooo_sim.specs.declared.outcome.Verdict.TheVariants as verdict
use Rattle.ooo_sim.specs.Laws.{IsReady}
use Rattle.ooo_sim.specs.Outcomes.{is_granted}
use Rattle.ooo_sim.specs.declared.request.Told.{Told}
use Rattle.ooo_sim.specs.declared.request.Told.TheVariants as tell
use Rattle.ooo_sim.specs.Replies.{TellsRun, reply, report_of, told_of, told_text, verdict_of}
use Rattle.ooo_sim.specs.Summaries.{summary_of, summary_text}

-- what the statements of a sound model do, its nodes do
abbrev pub AreSame : Type 0
AreSame = (b : Bound) (limits : Limits) (n : ℕ) → IsSound b → statements.sequential_run b limits n ≡ nodes.sequential_run (design_of b) limits n

pub by_nodes : AreSame → (b : Bound) (limits : Limits) (r : Result) → IsSound b → statements.IsSequentialRun b limits r →
    nodes.IsSequentialRun (design_of b) limits r
by_nodes same b limits r sound run =
    record { cycles = run.cycles; is = sym (same b limits run.cycles sound) ∙ run.is }

by_statements : AreSame → (b : Bound) (limits : Limits) (r : Result) → IsSound b → nodes.IsSequentialRun (design_of b) limits r →
    statements.IsSequentialRun b limits r
by_statements same b limits r sound run =
    record { cycles = run.cycles; is = same b limits run.cycles sound ∙ run.is }

-- ---- the report

-- the report of a run that shows what a sequential run gives
report_shown : (run : Run) (r : Result) (names : Names) → Shows run r → report_text run names ≡ report_of names r
report_shown run r names shows = rw (shows.output, shows.histories, shows.ending) refl

-- and its summary
summary_shown : (run : Run) (r : Result) (names : Names) → Shows run r → summary_text run names ≡ summary_of names r
summary_shown run r names shows = rw (shows.output, shows.histories, shows.ending, shows.activations) refl

told_shown : (told : Told) (run : Run) (r : Result) (names : Names) → Shows run r → told_text told run names ≡ told_of told names r
told_shown tell.Report run r names shows = report_shown run r names shows
told_shown tell.Summary run r names shows = summary_shown run r names shows

-- the nodes of a model have its processes
processes_length : (b : Bound) (first : ℕ) (ps : List BoundProcess) → length (processes_from b first ps) ≡ length ps
processes_length b first [] = refl
processes_length b first (p ∷ ps) = ap suc (processes_length b (first + process_size b p) ps)

-- each process of what is accepted has a name
pub processes_named : (accepted : Accepted) → IsReady accepted → length accepted.design.processes ≤ length accepted.bound.names.processes
processes_named accepted ready =
    let b = accepted.bound in
    let own : length accepted.design.processes ≡ length b.processes = ap (λ (d : Design). length d.processes) ready.design ∙ processes_length b 0 b.processes in
    let names = ready.names.processes in
    omega (arith, own, names)

module _ (same : AreSame) (all : RunsHaveHistories) (ends : EndingsAreNamed) (b : Bound) (names : length b.names.processes ≡ length b.processes)
    (channels : length b.names.channels ≡ length b.channels) (limits : Limits) (run : Run) (shown : ShowsRun (design_of b) limits run) where
  -- its report may be written
  pub channels_named : length run.channels ≤ length b.names.channels
  channels_named =
      let histories : length shown.result.histories ≡ length b.channels = all (design_of b) limits shown.result shown.is in
      let shows : length run.channels ≡ length shown.result.histories = ap length shown.shows.histories in
      omega (arith, histories, shows, channels)

  pub ending_named : IsNamed run.end b.names.processes
  ending_named =
      subst (λ (e : End). IsNamed e b.names.processes) (sym shown.shows.ending)
      (ends (design_of b) limits shown.result b.names.processes shown.is (names ∙ sym (processes_length b 0 b.processes)))

  -- and what is told of it is told of the model's run
  pub tells : IsSound b → (told : Told) (text : List ℕ) (v : Verdict) → text ≡ told_text told run b.names → v ≡ verdict_of run.end →
      TellsRun told b limits (reply v text)
  tells sound told text v is of = record {
    result = shown.result;
    run = by_statements same b limits shown.result sound shown.is;
    is = replied text (told_of told b.names shown.result) v (verdict_of shown.result.end)
        (is ∙ told_shown told run shown.result b.names shown.shows) (of ∙ ap verdict_of shown.shows.ending);
  } where
    replied : (t u : List ℕ) (s q : Verdict) → t ≡ u → s ≡ q → reply s t ≡ reply q u
    replied t u s q e f = cc

-- the run of a design that a board shows is its sequential run
pub shown_all : {E : Type 0} (design : Design) (limits : Limits) (r : Result) → nodes.IsSequentialRun design limits r → (o : Answer Run E) →
    IfOk o (λ run. (found : Result) → nodes.IsSequentialRun design limits found → Shows run found) → IfOk o (ShowsRun design limits)
shown_all design limits r is (Ok run) all = record { result = r; is = is; shows = all r is }
shown_all design limits r is (Err e) all = tt

-- a run that ended isn't refused
pub granted : (e : End) → is_granted (verdict_of e) ≡ true
granted (end.Time t) = refl
granted (end.Idle s) = refl
granted (end.Stop s) = refl
granted (end.Fault f at line) = refl
granted (end.Statements at line) = refl
granted (end.Deltas s) = refl
