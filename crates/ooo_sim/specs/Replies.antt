-- What a call would write: one relation of the words, the bytes that are read, and a reply.
use Rattle.std.specs.Prelude.{◌≡◌, ℕ, ◌<◌, ◌≤◌, List, [], ◌++◌, Option, Some, None, Result as Answer, Ok, Err, codes, length}
use Rattle.ooo_time.specs.declared.time.Time.{Time}
use Rattle.ooo_gen.specs.Text.{text_of}
use Rattle.ooo_value.specs.declared.naming.Names.{Names}
use Rattle.ooo_bound.specs.declared.model.Bound.{Bound}
use Rattle.ooo_code.specs.declared.limits.Limits.{Limits}
use Rattle.ooo_history.specs.declared.run.End.{End}
use Rattle.ooo_history.specs.declared.run.End.TheVariants as end
use Rattle.ooo_history.specs.declared.run.Run.{Run}
use Rattle.ooo_history.specs.Reporting.{closed, end_text, histories_text, report_text}
use Rattle.ooo_meaning.specs.Sequence.{Result, output_of}
use Rattle.ooo_activation.specs.Runs.{IsSequentialRun}
use Rattle.ooo_segments.specs.Beginnings.{beginnings}
use Rattle.ooo_tables.specs.declared.tables.Tables.{Tables}
use Rattle.ooo_tables.specs.Tables.{AreTables}
use Rattle.ooo_tables.specs.Text.{tables_text}
use Rattle.ooo_front.specs.declared.answer.Accepted.{Accepted}
use Rattle.ooo_front.specs.declared.answer.Refused.{Refused}
use Rattle.ooo_front.specs.Layers.{IsAnswerTo, IsFrontOf}
use Rattle.ooo_words.specs.declared.command.RunOptions.{RunOptions}
use Rattle.ooo_words.specs.Limits.{by_default}
use Rattle.ooo_sim.specs.declared.reply.Reply.{Reply}
use Rattle.ooo_lexer.specs.declared.position.TheConstants.{MOST_BYTES}
use Rattle.ooo_sim.specs.declared.request.Request.{Request}
use Rattle.ooo_sim.specs.declared.request.Request.TheVariants as request
use Rattle.ooo_sim.specs.declared.request.Told.{Told}
use Rattle.ooo_sim.specs.declared.request.Told.TheVariants as tell
use Rattle.ooo_sim.specs.declared.request.Wanted.{Wanted}
use Rattle.ooo_sim.specs.declared.request.Wanted.TheVariants as wanted
use Rattle.ooo_sim.specs.declared.outcome.Refusal.{Refusal}
use Rattle.ooo_sim.specs.declared.outcome.Refusal.TheVariants as refusal
use Rattle.ooo_sim.specs.declared.outcome.Verdict.{Verdict}
use Rattle.ooo_sim.specs.declared.outcome.Verdict.TheVariants as verdict
use Rattle.ooo_sim.specs.Counts.{counts_line}
use Rattle.ooo_sim.specs.Lines.{refusal_line}
use Rattle.ooo_sim.specs.Requests.{request_of}
use Rattle.ooo_sim.specs.Summaries.{summary_of, summary_text}

-- what is written, and what it comes to
abbrev pub reply : Verdict → List ℕ → Reply
reply verdict text = record { verdict = verdict; text = text }

-- the reply that refuses: the line of the refusal
abbrev pub refused : Refusal → Reply
refused why = reply (verdict.Refused why) (refusal_line why)

-- ---- reports and summaries

-- the limits of a run that stops at this time
abbrev pub limits_of : RunOptions → Time → Limits
limits_of options stop = record { stop = stop; deltas = options.deltas; statements = options.statements }

-- what a run comes to that ended so
abbrev pub verdict_of : End → Verdict
verdict_of (end.Time t) = verdict.Done
verdict_of (end.Idle s) = verdict.Done
verdict_of (end.Stop s) = verdict.Done
verdict_of (end.Fault f at line) = verdict.Faulted
verdict_of (end.Statements at line) = verdict.LimitReached
verdict_of (end.Deltas s) = verdict.LimitReached

-- the report of what a run gives: what was printed, the histories, and how the run ended
abbrev pub report_of : Names → Result → List ℕ
report_of names r =
    closed (output_of r) ++ codes "== histories\n" ++ histories_text names.channels r.histories
    ++ codes "== end\n" ++ end_text names.processes r.end ++ codes "\n"

-- what is told of what a run gives: its report or its summary
abbrev pub told_of : Told → Names → Result → List ℕ
told_of tell.Report names r = report_of names r
told_of tell.Summary names r = summary_of names r

-- what is told of a run that shows it
abbrev pub told_text : Told → Run → Names → List ℕ
told_text tell.Report run names = report_text run names
told_text tell.Summary run names = summary_text run names

-- the reply tells of the sequential run of a model within these limits, as its statements say
pub record TellsRun (told : Told) (b : Bound) (limits : Limits) (r : Reply) : Type 0 where
  pub result : Result
  pub run : IsSequentialRun b limits result
  pub is : r ≡ reply (verdict_of result.end) (told_of told b.names result)

-- the stop time of a run: the one that is given, else the model's own
abbrev pub stop_of : (given : Option Time) → Bound → Option Time
stop_of None b = b.stop
stop_of (Some t) b = Some t

-- the reply where the run of a model is asked for: nothing stops it, or it is told of
abbrev pub IsRunReply : Told → RunOptions → Bound → (stop : Option Time) → Reply → Type 0
IsRunReply told options b None r = r ≡ refused refusal.StopMissing
IsRunReply told options b (Some stop) r = TellsRun told b (limits_of options stop) r

-- ---- counts and tables

-- the numbers of processes and segments of what is accepted
abbrev pub counts_of : Accepted → List ℕ
counts_of accepted = counts_line (length accepted.bound.processes) (length (beginnings accepted.design))

-- the reply lists the tables of what is accepted
pub record Lists (accepted : Accepted) (r : Reply) : Type 0 where
  pub tables : Tables
  pub are : AreTables accepted.design tables
  pub is : r ≡ reply verdict.Done (tables_text accepted.design accepted.bound.names.processes tables)

-- ---- replies

-- the reply to what is asked of a text that the front accepts
abbrev pub IsReplyOf : Wanted → Accepted → Reply → Type 0
IsReplyOf (wanted.Run told options) accepted r = IsRunReply told options accepted.bound (stop_of options.stop accepted.bound) r
IsReplyOf wanted.Counts accepted r = r ≡ reply verdict.Done (counts_of accepted)
IsReplyOf wanted.Tables accepted r = Lists accepted r

-- a text that isn't too long is accepted as this
abbrev pub IsAcceptedAs : List ℕ → Accepted → Type 0
IsAcceptedAs text accepted = (length text ≤ MOST_BYTES) × IsFrontOf text (Ok accepted)

-- a text is refused as this, unless it is want of memory
abbrev pub IsRefusedAs : List ℕ → Refusal → Type 0
IsRefusedAs text (refusal.Text why) = (length text ≤ MOST_BYTES) × IsAnswerTo text (Err why)
IsRefusedAs text refusal.TooLong = MOST_BYTES < length text
IsRefusedAs text why = ⊥

-- the reply to a text to which the front answers this
abbrev pub IsFrontReply : Wanted → Answer Accepted Refused → Reply → Type 0
IsFrontReply w (Ok accepted) r = IsReplyOf w accepted r
IsFrontReply w (Err why) r = r ≡ refused (refusal.Text why)

-- the reply to a text: it is too long, or the front refuses or accepts it
pub data IsTextReply (w : Wanted) (text : List ℕ) (r : Reply) : Type 0 where
  too_long : MOST_BYTES < length text → r ≡ refused refusal.TooLong → IsTextReply w text r
  read : length text ≤ MOST_BYTES → (a : Answer Accepted Refused) → IsFrontOf text a → IsFrontReply w a r → IsTextReply w text r

-- the reply to a request, from the bytes that it reads; how many workers run a model makes no difference
abbrev pub IsReplyTo : Request → List ℕ → Reply → Type 0
IsReplyTo (request.OfText w) bytes r = IsTextReply w bytes r
IsReplyTo (request.Run options workers) bytes r = IsTextReply (wanted.Run tell.Report options) bytes r
IsReplyTo (request.Bench stages items seed workers) bytes r = IsTextReply (wanted.Run tell.Summary by_default) (text_of stages items seed) r
IsReplyTo (request.Refused why) bytes r = r ≡ refused why

-- the reply to words, from the bytes that they have read
abbrev pub IsReply : List (List ℕ) → List ℕ → Reply → Type 0
IsReply words bytes r = IsReplyTo (request_of words) bytes r
