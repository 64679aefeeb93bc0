-- A request has one reply. The laws of texts and runs are premises.
use Rattle.std.proofs.Common.{◌≡◌, ◌≢◌, ℕ, ◌≤◌, List, Option, Some, None, Result, Ok, Err, IfOk, OnOk, refl, sym, ap, subst, ◌∙◌, arith}
use Rattle.std.specs.Prelude.{IfSome}
use Rattle.ooo_time.specs.declared.time.Time.{Time}
use Rattle.ooo_time.specs.Scales.{greatest_time}
use Rattle.ooo_bound.specs.declared.model.Bound.{Bound}
use Rattle.ooo_code.specs.declared.limits.Limits.{Limits}
use Rattle.ooo_meaning.specs.Runs as nodes
use Rattle.ooo_meaning.specs.Sequence as sequence
use Rattle.ooo_activation.specs.Sound.{IsSound}
use Rattle.ooo_shapes.specs.Designs.{design_of}
use Rattle.ooo_words.specs.declared.command.RunOptions.{RunOptions}
use Rattle.ooo_words.specs.Limits.{AreWithinLimits, StopsInTime, by_default}
use Rattle.ooo_gen.specs.Text.{text_of}
use Rattle.ooo_front.specs.declared.answer.Refused.{Refused}
use Rattle.ooo_front.specs.declared.answer.Refused.TheVariants as why
use Rattle.ooo_front.specs.declared.answer.Accepted.{Accepted}
use Rattle.ooo_front.specs.Laws.{HasOneAnswer}
use Rattle.ooo_front.specs.Layers.{IsAnswerTo, IsFrontOf}
use Rattle.ooo_tables.specs.declared.tables.Tables.{Tables}
use Rattle.ooo_tables.specs.Tables.{AreTables}
use Rattle.ooo_tables.specs.Text.{tables_text}
use Rattle.ooo_code.specs.declared.design.Design.{Design}
use Rattle.ooo_plain.specs.Cycles.{AreInRange as AreRunLimits}
use Rattle.ooo_sim.specs.declared.reply.Reply.{Reply}
use Rattle.ooo_sim.specs.declared.request.Request.{Request}
use Rattle.ooo_sim.specs.declared.request.Request.TheVariants as request
use Rattle.ooo_sim.specs.declared.request.Told.{Told}
use Rattle.ooo_sim.specs.declared.request.Told.TheVariants as tell
use Rattle.ooo_sim.specs.declared.request.Wanted.{Wanted}
use Rattle.ooo_sim.specs.declared.request.Wanted.TheVariants as wanted
use Rattle.ooo_sim.specs.declared.outcome.Refusal.{Refusal}
use Rattle.ooo_sim.specs.declared.outcome.Refusal.TheVariants as refusal
use Rattle.ooo_sim.specs.declared.outcome.Verdict.TheVariants as verdict
use Rattle.ooo_sim.specs.Laws.{AcceptedAreReady, HasOneReply}
use Rattle.ooo_sim.specs.Replies.{reply, refused, TellsRun, limits_of, told_of, verdict_of, stop_of, IsAcceptedAs, IsRefusedAs, IsFrontReply, IsReplyOf, IsRunReply, IsTextReply, Lists, too_long, read}
use Rattle.ooo_sim.proofs.Reports.{AreSame, by_nodes}

-- the sequential run of a design is one
abbrev pub HasOneRun : Type 0
HasOneRun = (d : sequence.Result) (b : Bound) (limits : Limits) (q : sequence.Result) → nodes.IsSequentialRun (design_of b) limits d →
    nodes.IsSequentialRun (design_of b) limits q → d ≡ q

-- the tables of a design are one
abbrev pub HasOneTables : Type 0
HasOneTables = (d : Design) (s t : Tables) → AreTables d s → AreTables d t → s ≡ t

module _ (one_answer : HasOneAnswer) (ready : AcceptedAreReady) (tables : HasOneTables) (same : AreSame) (one_run : HasOneRun) where
  one_report : (told : Told) (b : Bound) (limits : Limits) → IsSound b → (x y : Reply) → TellsRun told b limits x → TellsRun told b limits y → x ≡ y
  one_report told b limits sound x y p q =
      p.is ∙ ap (λ r. reply (verdict_of r.end) (told_of told b.names r))
      (one_run p.result b limits q.result (by_nodes same b limits p.result sound p.run) (by_nodes same b limits q.result sound q.run)) ∙ sym q.is

  one_run_reply :
      (told : Told) (options : RunOptions) (b : Bound) (stop : Option Time) → IsSound b → (x y : Reply) → IsRunReply told options b stop x →
      IsRunReply told options b stop y → x ≡ y
  one_run_reply told options b None sound x y h k = h ∙ sym k
  one_run_reply told options b (Some stop) sound x y h k = one_report told b (limits_of options stop) sound x y h k

  one_list : (accepted : Accepted) (x y : Reply) → Lists accepted x → Lists accepted y → x ≡ y
  one_list accepted x y p q =
      p.is ∙ ap (λ (t : Tables). reply verdict.Done (tables_text accepted.design accepted.bound.names.processes t))
      (tables accepted.design p.tables q.tables p.are q.are) ∙ sym q.is

  -- what is asked of an accepted text has one reply
  one_of : (w : Wanted) (text : List ℕ) (accepted : Accepted) (a b : Reply) → IsFrontOf text (Ok accepted) → IsReplyOf w accepted a → IsReplyOf w accepted b → a ≡ b
  one_of (wanted.Run told options) text accepted a b is h k =
      one_run_reply told options accepted.bound (stop_of options.stop accepted.bound) (ready text accepted is).sound a b h k
  one_of wanted.Counts text accepted a b is h k = h ∙ sym k
  one_of wanted.Tables text accepted a b is h k = one_list accepted a b h k

  one_front : (w : Wanted) (text : List ℕ) (r : Result Accepted Refused) (a b : Reply) → IsFrontOf text r → IsFrontReply w r a → IsFrontReply w r b → a ≡ b
  one_front w text (Ok accepted) a b is h k = one_of w text accepted a b is h k
  one_front w text (Err why) a b is h k = h ∙ sym k

  one_text : (w : Wanted) (text : List ℕ) (a b : Reply) → IsTextReply w text a → IsTextReply w text b → a ≡ b
  one_text w text a b (too_long h e) (too_long k f) = e ∙ sym f
  one_text w text a b (too_long h e) (read k s t f) = absurd (omega arith)
  one_text w text a b (read h r t e) (too_long k f) = absurd (omega arith)
  one_text w text a b (read h r t e) (read k s u f) =
      one_front w text s a b u (subst (λ z. IsFrontReply w z a) (one_answer text r s t u) e) f

  pub one_reply : HasOneReply
  one_reply (request.OfText w) bytes a b h k = one_text w bytes a b h k
  one_reply (request.Run options workers) bytes a b h k = one_text (wanted.Run tell.Report options) bytes a b h k
  one_reply (request.Bench stages items seed workers) bytes a b h k =
      one_text (wanted.Run tell.Summary by_default) (text_of stages items seed) a b h k
  one_reply (request.Refused why) bytes a b h k = h ∙ sym k

-- an answer of the front that isn't want of memory
front_refusal : (text : List ℕ) (e : Refused) → refusal.Text e ≢ refusal.Text why.OutOfMemory → IsAnswerTo text (Err e) → IsFrontOf text (Err e)
front_refusal text (why.Lexer breach at) some is = is
front_refusal text (why.Parser breach at) some is = is
front_refusal text (why.Types breach at) some is = is
front_refusal text (why.Elaborate e) some is = is
front_refusal text why.CodeTooLarge some is = is
front_refusal text why.TooManySegments some is = is
front_refusal text why.OutOfMemory some is = absurd (some refl)

-- the reply to a text that is refused
pub refuses : (w : Wanted) (text : List ℕ) (e : Refusal) → IsRefusedAs text e → e ≢ refusal.Text why.OutOfMemory →
    (r : Reply) → r ≡ refused e → IsTextReply w text r
refuses w text (refusal.Text e) is some r h = read is.0 (Err e) (front_refusal text e some is.1) h
refuses w text refusal.TooLong is some r h = too_long is h
refuses w text (refusal.Words e) is some r h = absurd is
refuses w text refusal.StopMissing is some r h = absurd is

pub all_refused : {E : Type 0} (w : Wanted) (text : List ℕ) (e : Refusal) → IsRefusedAs text e → (o : Result Reply E) →
    IfOk o (λ r. r ≡ refused e) → OnOk o (e ≢ refusal.Text why.OutOfMemory) → IfOk o (IsTextReply w text)
all_refused w text e is (Ok r) h some = refuses w text e is some r h
all_refused w text e is (Err x) h some = tt

-- ---- the reply to a text that is accepted

pub all_accepted : {E : Type 0} (w : Wanted) (text : List ℕ) (accepted : Accepted) → IsAcceptedAs text accepted → (o : Result Reply E) →
    IfOk o (IsReplyOf w accepted) → IfOk o (IsTextReply w text)
all_accepted w text accepted is (Ok r) h = read is.0 (Ok accepted) is.1 h
all_accepted w text accepted is (Err x) h = tt

module _ {E : Type 0} (told : Told) (options : RunOptions) (accepted : Accepted) where
  pub all_reported : (stop : Time) → stop_of options.stop accepted.bound ≡ Some stop → (o : Result Reply E) →
      IfOk o (TellsRun told accepted.bound (limits_of options stop)) → IfOk o (IsReplyOf (wanted.Run told options) accepted)
  all_reported stop is (Ok r) h = subst (λ s. IsRunReply told options accepted.bound s r) (sym is) h
  all_reported stop is (Err x) h = tt

  pub none_reported : stop_of options.stop accepted.bound ≡ None → (o : Result Reply E) →
      IfOk o (λ r. r ≡ refused refusal.StopMissing) → IfOk o (IsReplyOf (wanted.Run told options) accepted)
  none_reported is (Ok r) h = subst (λ s. IsRunReply told options accepted.bound s r) (sym is) h
  none_reported is (Err x) h = tt

-- ---- limits

-- the limits of a run are in range, where what is asked and the model's own stop time are
pub run_limits : (options : RunOptions) (b : Bound) (stop : Time) → AreWithinLimits options → IfSome b.stop (λ t. t.0 ≤ greatest_time) →
    stop_of options.stop b ≡ Some stop → AreRunLimits (limits_of options stop)
run_limits options b stop range own is = record {
  stop = by options.stop range.stop is;
  some_deltas = range.deltas.from;
  deltas = range.deltas.to;
  some_statements = range.statements.from;
  statements = range.statements.to;
} where
  of_some : (o : Option Time) → IfSome o (λ t. t.0 ≤ greatest_time) → o ≡ Some stop → stop.0 ≤ greatest_time
  of_some None h e = absurd cc
  of_some (Some t) h e = let same : t ≡ stop = cc in subst (λ (x : Time). x.0 ≤ greatest_time) same h

  by : (given : Option Time) → StopsInTime given → stop_of given b ≡ Some stop → stop.0 ≤ greatest_time
  by None h e = of_some b.stop own e
  by (Some t) h e = of_some (Some t) h e
