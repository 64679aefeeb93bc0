-- The boards of runs by workers, and the board in an answer.
use Rattle.std.proofs.Common.{◌≡◌, ◌≢◌, ℕ, List, [], Some, None, Result, Ok, Err, IfOk, refl, sym, ap, subst, ◌∙◌, true}
use Rattle.std.specs.Prelude.{IfErr, IfSome, is_some}
use Rattle.ooo_bound.specs.declared.model.Bound.{Bound}
use Rattle.ooo_code.specs.declared.design.Design.{Design}
use Rattle.ooo_code.specs.declared.limits.Limits.{Limits}
use Rattle.ooo_tables.specs.declared.tables.Tables.{Tables}
use Rattle.ooo_tables.specs.Tables.{AreTables}
use Rattle.ooo_dispatch.specs.declared.step.Step.{Step}
use Rattle.ooo_board.specs.Boards.{IsOver, Shown}
use Rattle.ooo_workers.specs.Boards.{AreLawfulOn, Begins, HasLawful, IsQuiet, with_steps}
use Rattle.ooo_front.specs.declared.answer.Refused.TheVariants as front
use Rattle.ooo_words.specs.declared.command.RunOptions.{RunOptions}
use Rattle.ooo_sim.specs.declared.workers.ModelRun.{ModelRun}
use Rattle.ooo_sim.specs.declared.workers.RunError.{RunError}
use Rattle.ooo_sim.specs.declared.workers.RunError.TheVariants as error
use Rattle.ooo_sim.specs.declared.outcome.Refusal.{Refusal}
use Rattle.ooo_sim.specs.declared.outcome.Refusal.TheVariants as refusal
use Rattle.ooo_sim.specs.declared.reply.Answer.{Answer}
use Rattle.ooo_sim.specs.declared.reply.Reply.{Reply}
use Rattle.ooo_sim.specs.declared.request.Told.{Told}
use Rattle.ooo_sim.specs.declared.request.Wanted.TheVariants as wanted
use Rattle.ooo_sim.specs.Boards.{IsAnswerOfRun, IsBoardOfRun, IsClosed, IsClosedOf, IsDriven, IsFresh, IsNotRun, IsRunError, IsStarted, MayBeRun, MayBeTold}
use Rattle.ooo_sim.specs.Outcomes.{is_granted}
use Rattle.ooo_sim.specs.Replies.{IsRefusedAs, IsRunReply, IsTextReply, TellsRun, read, refused}
use Rattle.ooo_sim.proofs.Answers.{refuses}
use Rattle.ooo_sim.proofs.Reports.{granted}

-- ---- before any step

-- the board of a design, with these tables, before any step
abbrev first : Design → Limits → Tables → Shown
first design limits t = record { design = design; limits = limits; tables = t; schedule = [] }

first_quiet : (design : Design) (limits : Limits) (t : Tables) → IsQuiet (first design limits t)
first_quiet design limits t p = refl

pub fresh_is_quiet : (design : Design) (limits : Limits) (b : Shown) → IsFresh design limits b → IsQuiet b
fresh_is_quiet design limits b fresh = subst IsQuiet (sym fresh.is) (first_quiet design limits b.tables)

-- why there is no such board
pub not_run : (options : RunOptions) (text : List ℕ) (why : Refusal) (e : RunError) → IsRefusedAs text why → e ≡ error.Refused why →
    IsRunError options text e
not_run options text why e is same = subst (IsRunError options text) (sym same) (by why is) where
  by : (why : Refusal) → IsRefusedAs text why → IsNotRun options text why
  by (refusal.Text x) is = is
  by refusal.TooLong is = is
  by (refusal.Words x) is = absurd is
  by refusal.StopMissing is = absurd is

-- ---- at its end

-- steps that are lawful on a board before any step are lawful
first_lawful : (design : Design) (limits : Limits) (t : Tables) (more : List Step) → AreLawfulOn (first design limits t) more →
    HasLawful (with_steps (first design limits t) more)
first_lawful design limits t more h = h

pub closed : (design : Design) (limits : Limits) (k b : Shown) → IsFresh design limits k → Begins k b → IsOver b → IsClosed design limits b
closed design limits k b fresh begins over =
    let at : b ≡ with_steps (first design limits k.tables) begins.more = begins.is ∙ ap (λ x. with_steps x begins.more) fresh.is in
    record {
      of_design = ap (λ (x : Shown). x.design) at;
      of_limits = ap (λ (x : Shown). x.limits) at;
      of_tables = subst (AreTables design) (sym (ap (λ (x : Shown). x.tables) at)) fresh.tables;
      lawful =
          subst HasLawful (sym at)
          (first_lawful design limits k.tables begins.more (subst (λ x. AreLawfulOn x begins.more) fresh.is begins.lawful));
      over = over;
    }

-- the same model and limits with another board
abbrev with_board : ModelRun → Shown → ModelRun
with_board run b = record { model = run.model; limits = run.limits; board = b }

module _ (options : RunOptions) (text : List ℕ) (run : ModelRun) (b : Shown) (started : IsStarted options text run) (begins : Begins run.board b) where
  driven_to : IsOver b → IsDriven options text (with_board run b)
  driven_to over = record {
    accepted = started.accepted;
    is = started.is;
    stop = started.stop;
    stops = started.stops;
    model = started.model;
    limits = started.limits;
    closed = closed started.accepted.design run.limits run.board b started.fresh begins over;
  }

  pub all_driven : {E : Type 0} (o : Result ModelRun E) → IfOk o (λ done. done ≡ with_board run b) → IfOk o (λ done. IsOver done.board) →
      IfOk o (IsDriven options text)
  all_driven (Ok done) is over = subst (IsDriven options text) (sym is) (driven_to (subst (λ (x : ModelRun). IsOver x.board) is over))
  all_driven (Err e) is over = tt

module _ (run : ModelRun) (b : Shown) (may : MayBeRun run) (begins : Begins run.board b) where
  goes_on : MayBeRun (with_board run b)
  goes_on = record {
    sound = may.sound;
    names = may.names;
    design = ap (λ (x : Shown). x.design) begins.is ∙ may.design;
    limits = ap (λ (x : Shown). x.limits) begins.is ∙ may.limits;
    some_deltas = may.some_deltas;
  }

  pub all_tellable : {E : Type 0} (o : Result ModelRun E) → IfOk o (λ done. done ≡ with_board run b) → IfOk o (λ done. IsOver done.board) →
      IfOk o MayBeTold
  all_tellable (Ok done) is over = record { may = subst MayBeRun (sym is) goes_on; over = over }
  all_tellable (Err e) is over = tt

-- want of memory
pub no_memory : {A : Type 0} (options : RunOptions) (text : List ℕ) (o : Result A RunError) → IfErr o (λ e. e ≡ error.OutOfMemory) →
    IfErr o (IsRunError options text)
no_memory options text (Ok a) h = tt
no_memory options text (Err e) h = subst (IsRunError options text) (sym h) tt

-- ---- the answer that tells of a run

tells_granted : (told : Told) (b : Bound) (limits : Limits) (r : Reply) → TellsRun told b limits r → is_granted r.verdict ≡ true
tells_granted told b limits r h = ap (λ (x : Reply). is_granted x.verdict) h.is ∙ granted h.result.end

module _ (told : Told) (options : RunOptions) (text : List ℕ) (run : ModelRun) (driven : IsDriven options text run) where
  closed_of : IsClosedOf options text run.board
  closed_of = record {
    accepted = driven.accepted;
    is = driven.is.1;
    closed = record {
      stop = driven.stop;
      stops = driven.stops;
      closed = subst (λ l. IsClosed driven.accepted.design l run.board) driven.limits driven.closed;
    };
  }

  text_reply : (r : Reply) → TellsRun told run.model run.limits r → IsTextReply (wanted.Run told options) text r
  text_reply r h =
      read driven.is.0 (Ok driven.accepted) driven.is.1
      (subst (λ s. IsRunReply told options driven.accepted.bound s r) (sym driven.stops)
      (subst (λ l. TellsRun told driven.accepted.bound l r) driven.limits (subst (λ m. TellsRun told m run.limits r) driven.model h)))

  pub all_answered : {E : Type 0} (o : Result Answer E) → IfOk o (λ a. TellsRun told run.model run.limits a.reply) →
      IfOk o (λ a. a.board ≡ Some run.board) → IfOk o (IsAnswerOfRun told options text)
  all_answered (Ok a) h is = record {
    is = text_reply a.reply h;
    board = (
      ap is_some is ∙ sym (tells_granted told run.model run.limits a.reply h),
      subst (λ o. IfSome o (IsClosedOf options text)) (sym is) closed_of,
    );
  }
  all_answered (Err e) h is = tt

-- the reply to a text that isn't run
not_run_replied : (told : Told) (options : RunOptions) (text : List ℕ) (why : Refusal) → IsNotRun options text why → why ≢ refusal.Text front.OutOfMemory →
    (r : Reply) → r ≡ refused why → IsTextReply (wanted.Run told options) text r
not_run_replied told options text refusal.StopMissing not some r h =
    read not.1.0 (Ok not.0) not.1.1 (subst (λ s. IsRunReply told options not.0.bound s r) (sym not.2) h)
not_run_replied told options text (refusal.Text x) not some r h = refuses (wanted.Run told options) text (refusal.Text x) not some r h
not_run_replied told options text refusal.TooLong not some r h = refuses (wanted.Run told options) text refusal.TooLong not some r h
not_run_replied told options text (refusal.Words x) not some r h = absurd not

-- and its board, which is none
not_run_boarded : (options : RunOptions) (text : List ℕ) (a : Answer) (why : Refusal) → a.reply ≡ refused why → a.board ≡ None →
    IsBoardOfRun options text a.reply.verdict a.board
not_run_boarded options text a why is none = (
  ap is_some none ∙ sym (ap (λ (x : Reply). is_granted x.verdict) is),
  subst (λ o. IfSome o (IsClosedOf options text)) (sym none) tt,
)

pub not_run_answered : (told : Told) (options : RunOptions) (text : List ℕ) (e : RunError) (why : Refusal) → IsRunError options text e →
    e ≡ error.Refused why → why ≢ refusal.Text front.OutOfMemory → (a : Answer) → a.reply ≡ refused why → a.board ≡ None →
    IsAnswerOfRun told options text a
not_run_answered told options text e why not of some a is none = record {
  is = not_run_replied told options text why (subst (IsRunError options text) of not) some a.reply is;
  board = not_run_boarded options text a why is none;
}
