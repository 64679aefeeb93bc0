-- What a call wrote.
use Rattle.std.proofs.Common.{◌≡◌, ◌≢◌, ℕ, List, [], Option, None, Some, Result, Ok, Err, IfOk, IsOk, length, take, refl, sym, ap, subst, ◌∙◌, take_all, arith, true, false}
use Rattle.std.specs.Io.KnownBytes.{Appends}
use Rattle.std.proofs.KnownBytes.{Appends-nil}
use Rattle.ooo_bound.specs.declared.model.Bound.{Bound}
use Rattle.ooo_time.specs.declared.time.Time.{Time}
use Rattle.ooo_words.specs.declared.command.RunOptions.{RunOptions}
use Rattle.ooo_words.specs.Limits.{by_default}
use Rattle.ooo_gen.specs.Text.{text_of}
use Rattle.ooo_front.specs.declared.answer.Accepted.{Accepted}
use Rattle.ooo_sim.specs.declared.outcome.Failure.{Failure}
use Rattle.ooo_sim.specs.declared.outcome.Failure.TheVariants as failure
use Rattle.ooo_sim.specs.declared.outcome.Outcome.{Outcome}
use Rattle.ooo_sim.specs.declared.outcome.Outcome.TheVariants.{Replied, Failed}
use Rattle.ooo_sim.specs.declared.outcome.Refusal.{Refusal}
use Rattle.ooo_sim.specs.declared.outcome.Verdict.{Verdict}
use Rattle.ooo_sim.specs.declared.outcome.Verdict.TheVariants as verdict
use Rattle.ooo_sim.specs.declared.pump.ReadError.{ReadError}
use Rattle.ooo_sim.specs.declared.reply.Answer.{Answer}
use Rattle.ooo_sim.specs.declared.reply.Reply.{Reply}
use Rattle.ooo_sim.specs.declared.request.Request.{Request}
use Rattle.ooo_sim.specs.declared.request.Request.TheVariants as request
use Rattle.ooo_sim.specs.declared.request.Told.{Told}
use Rattle.ooo_sim.specs.declared.request.Told.TheVariants as tell
use Rattle.ooo_sim.specs.declared.request.Wanted.{Wanted}
use Rattle.ooo_sim.specs.declared.request.Wanted.TheVariants as wanted
use Rattle.ooo_sim.specs.Boards.{IsAnswerFrom, IsAnswerOfRun, IsBoardOf}
use Rattle.ooo_sim.specs.Calls.{TellsWhy, Took, Wrote}
use Rattle.ooo_sim.specs.Laws.{HasOneReply}
use Rattle.ooo_sim.specs.Lines.{refusal_line}
use Rattle.ooo_sim.specs.Outcomes.{is_granted}
use Rattle.ooo_sim.specs.Pumps.{AreFirst, GaveFirst, AppendsPrefix}
use Rattle.ooo_sim.specs.Replies.{IsReplyOf, IsReplyTo, IsRunReply, IsTextReply, read, refused, stop_of, too_long}
use Rattle.ooo_sim.specs.Requests.{bytes_wanted}
use Rattle.ooo_sim.proofs.Reports.{granted}

-- the first bytes of a source that tells its bytes
first_bytes : (limit : ℕ) (rest : Option (List ℕ)) → (read : List ℕ) × AreFirst limit rest read
first_bytes limit None = ([], tt)
first_bytes limit (Some bytes) = (take limit bytes, refl)

-- a failed call has no board
pub no_board : (request : Request) (text : List ℕ) (f : Failure) → IsBoardOf request text (Failed f) None
no_board (request.OfText w) text f = refl
no_board (request.Run options workers) text f = refl
no_board (request.Bench stages items seed workers) text f = refl
no_board (request.Refused why) text f = refl

-- a failure before anything was written
pub wrote_nothing : (request : Request) (rest : Option (List ℕ)) (f : Failure) (held : Option (List ℕ)) → Wrote request rest (Failed f) held held
wrote_nothing request rest f held =
    let first = first_bytes (bytes_wanted request) rest in
    record {
      read = first.0;
      told = first.1;
      whole = λ v is. absurd (cc is);
      prefix = λ r is. (0, Appends-nil held);
    }

-- and it has no board
pub failed_first : (request : Request) (rest : Option (List ℕ)) (f : Failure) (held : Option (List ℕ)) →
    (w : Wrote request rest (Failed f) held held) × IsBoardOf request w.read (Failed f) None
failed_first request rest f held = (wrote_nothing request rest f held, no_board request (wrote_nothing request rest f held).read f)

-- ---- refusals

line_of : (r : Reply) (why w : Refusal) → r ≡ refused w → r.verdict ≡ verdict.Refused why → r.text ≡ refusal_line why
line_of r why w is told =
    let both : verdict.Refused w ≡ verdict.Refused why = sym (ap (λ (x : Reply). x.verdict) is) ∙ told in
    let same : w ≡ why = cc in
    ap (λ (x : Reply). x.text) is ∙ ap refusal_line same

not_refused : (v : Verdict) (why : Refusal) → is_granted v ≡ true → v ≡ verdict.Refused why → ⊥
not_refused v why good is = let no_good : false ≡ true = sym (ap is_granted is) ∙ good in absurd cc

line_of_run : (told : Told) (options : RunOptions) (b : Bound) (stop : Option Time) (r : Reply) → IsRunReply told options b stop r →
    (why : Refusal) → r.verdict ≡ verdict.Refused why → r.text ≡ refusal_line why
line_of_run tells options b None r is why told = line_of r why _ is told
line_of_run tells options b (Some stop) r is why told =
    absurd (not_refused r.verdict why (ap (λ (x : Reply). is_granted x.verdict) is.is ∙ granted is.result.end) told)

line_of_accepted : (w : Wanted) (accepted : Accepted) (r : Reply) → IsReplyOf w accepted r → (why : Refusal) →
    r.verdict ≡ verdict.Refused why → r.text ≡ refusal_line why
line_of_accepted (wanted.Run tells options) accepted r is why told =
    line_of_run tells options accepted.bound (stop_of options.stop accepted.bound) r is why told
line_of_accepted wanted.Counts accepted r is why told = absurd (not_refused r.verdict why (ap (λ (x : Reply). is_granted x.verdict) is) told)
line_of_accepted wanted.Tables accepted r is why told = absurd (not_refused r.verdict why (ap (λ (x : Reply). is_granted x.verdict) is.is) told)

line_of_text : (w : Wanted) (text : List ℕ) (r : Reply) → IsTextReply w text r → (why : Refusal) →
    r.verdict ≡ verdict.Refused why → r.text ≡ refusal_line why
line_of_text w text r (too_long h e) why told = line_of r why _ e told
line_of_text w text r (read h (Ok accepted) t e) why told = line_of_accepted w accepted r e why told
line_of_text w text r (read h (Err x) t e) why told = line_of r why _ e told

-- the text of a reply that refuses is the line of its refusal
told_line : (q : Request) (text : List ℕ) (r : Reply) → IsReplyTo q text r → (why : Refusal) →
    r.verdict ≡ verdict.Refused why → r.text ≡ refusal_line why
told_line (request.OfText w) text r is why told = line_of_text w text r is why told
told_line (request.Run options workers) text r is why told = line_of_text (wanted.Run tell.Report options) text r is why told
told_line (request.Bench stages items seed workers) text r is why told =
    line_of_text (wanted.Run tell.Summary by_default) (text_of stages items seed) r is why told
told_line (request.Refused w) text r is why told = line_of r why w is told

pub none_told : (f : Failure) (old new : Option (List ℕ)) → TellsWhy (Failed f) old new
none_told f old new why is = absurd (cc is)

-- ---- a reply that is written

module _ (one : HasOneReply) (q : Request) (rest : Option (List ℕ)) (a : Answer) (from : IsAnswerFrom q rest a) (old new : Option (List ℕ)) where
  wrote : Appends old new a.reply.text → Wrote q rest (Replied a.reply.verdict) old new
  wrote w =
      let prefix : AppendsPrefix old new a.reply.text =
      (length a.reply.text, subst (λ t. Appends old new t) (sym (take_all (length a.reply.text) a.reply.text (omega arith))) w) in
      record {
        read = from.read;
        told = from.told;
        whole = λ v is. (a.reply, from.is, (let same : v ≡ a.reply.verdict = cc in same), w);
        prefix = λ b is. subst (λ z. AppendsPrefix old new z.text) (one q from.read a.reply b from.is is) prefix;
      }

  pub wrote_all : Appends old new a.reply.text →
      (w : Wrote q rest (Replied a.reply.verdict) old new) × IsBoardOf q w.read (Replied a.reply.verdict) a.board
  unfolding wrote
  wrote_all w = (wrote w, from.board)

  pub told_all : Appends old new a.reply.text → TellsWhy (Replied a.reply.verdict) old new
  told_all w why is =
      let same : a.reply.verdict ≡ verdict.Refused why = cc in
      subst (Appends old new) (told_line q from.read a.reply from.is why same) w

  wrote_part : AppendsPrefix old new a.reply.text → Wrote q rest (Failed failure.Sink) old new
  wrote_part w = record {
    read = from.read;
    told = from.told;
    whole = λ v is. absurd (cc is);
    prefix = λ b is. subst (λ z. AppendsPrefix old new z.text) (one q from.read a.reply b from.is is) w;
  }

  pub wrote_prefix : AppendsPrefix old new a.reply.text →
      (w : Wrote q rest (Failed failure.Sink) old new) × IsBoardOf q w.read (Failed failure.Sink) None
  unfolding wrote_part
  wrote_prefix w = (wrote_part w, no_board q from.read failure.Sink)

-- ---- a reply that needs no bytes

nothing_first : (rest : Option (List ℕ)) → AreFirst 0 rest []
nothing_first None = tt
nothing_first (Some bytes) = refl

pub refused_unread : (why : Refusal) (rest : Option (List ℕ)) (a : Answer) → a.reply ≡ refused why → a.board ≡ None →
    IsAnswerFrom (request.Refused why) rest a
refused_unread why rest a is none = record { read = []; told = nothing_first rest; is = is; board = none }

pub generated_unread : (stages items seed workers : ℕ) (text : List ℕ) (rest : Option (List ℕ)) (a : Answer) → text ≡ text_of stages items seed →
    IsAnswerOfRun tell.Summary by_default text a → IsAnswerFrom (request.Bench stages items seed workers) rest a
generated_unread stages items seed workers text rest a is of =
    let here : IsAnswerOfRun tell.Summary by_default (text_of stages items seed) a = subst (λ t. IsAnswerOfRun tell.Summary by_default t a) is of in
    record { read = []; told = nothing_first rest; is = here.is; board = here.board }

-- ---- what a call takes

-- an answer that was had took what its request reads
pub took : {S : Type 0} (rest : S → Option (List ℕ)) (q asked : Request) (r : Result Answer ReadError) (o : Outcome) (old new : S) → q ≡ asked →
    (bytes_wanted q ≡ 0 → new ≡ old) → IfOk r (λ _. GaveFirst (bytes_wanted q) (rest old) (rest new)) →
    (o ≢ Failed failure.Source → o ≢ Failed failure.OutOfMemory → IsOk r) → Took rest asked o old new
took rest q asked r o old new is same gave ok =
    subst (λ x. Took rest x o old new) is (record { untouched = same; given = λ a b. of_ok r gave (ok a b) })
  where
    of_ok : (r : Result Answer ReadError) → IfOk r (λ _. GaveFirst (bytes_wanted q) (rest old) (rest new)) → IsOk r →
        GaveFirst (bytes_wanted q) (rest old) (rest new)
    of_ok (Ok a) gave ok = gave
    of_ok (Err e) gave ok = absurd (cc ok)

-- a source of which nothing is taken
pub nothing_given : (rest : Option (List ℕ)) → GaveFirst 0 rest rest
nothing_given None = tt
nothing_given (Some bytes) = refl

pub takes_none : {A E : Type 0} (r : Result A E) (rest : Option (List ℕ)) → IfOk r (λ _. GaveFirst 0 rest rest)
takes_none (Ok a) rest = nothing_given rest
takes_none (Err e) rest = tt
