-- The boards that workers drive, and the board in the answer of a call.
use Rattle.std.specs.Prelude.{◌≡◌, ℕ, ◌<◌, List, [], Option, Some, None, Ok, IfSome, is_some}
use Rattle.ooo_time.specs.declared.time.Time.{Time}
use Rattle.ooo_activation.specs.Sound.{IsSound}
use Rattle.ooo_code.specs.declared.design.Design.{Design}
use Rattle.ooo_code.specs.declared.limits.Limits.{Limits}
use Rattle.ooo_shapes.specs.Designs.{design_of}
use Rattle.ooo_sound_model.specs.Reports.{HasNames}
use Rattle.ooo_tables.specs.Tables.{AreTables}
use Rattle.ooo_board.specs.Boards.{IsOver, Shown}
use Rattle.ooo_workers.specs.Boards.{HasLawful}
use Rattle.ooo_gen.specs.Text.{text_of}
use Rattle.ooo_front.specs.declared.answer.Accepted.{Accepted}
use Rattle.ooo_front.specs.Layers.{IsFrontOf}
use Rattle.ooo_words.specs.declared.command.RunOptions.{RunOptions}
use Rattle.ooo_words.specs.Limits.{by_default}
use Rattle.ooo_sim.specs.declared.workers.ModelRun.{ModelRun}
use Rattle.ooo_sim.specs.declared.workers.RunError.{RunError}
use Rattle.ooo_sim.specs.declared.workers.RunError.TheVariants as error
use Rattle.ooo_sim.specs.declared.outcome.Outcome.{Outcome}
use Rattle.ooo_sim.specs.declared.outcome.Outcome.TheVariants as outcome
use Rattle.ooo_sim.specs.declared.outcome.Refusal.{Refusal}
use Rattle.ooo_sim.specs.declared.outcome.Refusal.TheVariants as refusal
use Rattle.ooo_sim.specs.declared.outcome.Verdict.{Verdict}
use Rattle.ooo_sim.specs.declared.reply.Answer.{Answer}
use Rattle.ooo_sim.specs.declared.request.Told.{Told}
use Rattle.ooo_sim.specs.declared.request.Wanted.TheVariants as wanted
use Rattle.ooo_sim.specs.declared.request.Request.{Request}
use Rattle.ooo_sim.specs.declared.request.Request.TheVariants as request
use Rattle.ooo_sim.specs.Outcomes.{is_granted}
use Rattle.ooo_sim.specs.Pumps.{AreFirst}
use Rattle.ooo_sim.specs.Replies.{IsAcceptedAs, IsRefusedAs, IsReplyTo, IsTextReply, limits_of, stop_of}
use Rattle.ooo_sim.specs.Requests.{bytes_wanted}

-- ---- boards of runs

-- a board of a design with its tables and these limits, whose steps are lawful, and which is over
pub record IsClosed (design : Design) (limits : Limits) (b : Shown) : Type 0 where
  pub of_design : b.design ≡ design
  pub of_limits : b.limits ≡ limits
  pub of_tables : AreTables design b.tables
  pub lawful : HasLawful b
  pub over : IsOver b

-- the closed board of the run of an accepted text, within what is asked of it
pub record IsClosedFor (options : RunOptions) (accepted : Accepted) (b : Shown) : Type 0 where
  pub stop : Time
  pub stops : stop_of options.stop accepted.bound ≡ Some stop
  pub closed : IsClosed accepted.design (limits_of options stop) b

-- the closed board of the run of a text, within what is asked of it
pub record IsClosedOf (options : RunOptions) (text : List ℕ) (b : Shown) : Type 0 where
  pub accepted : Accepted
  pub is : IsFrontOf text (Ok accepted)
  pub closed : IsClosedFor options accepted b

-- ---- a text's run by workers

-- a board of a design with its tables and these limits, before any step
pub record IsFresh (design : Design) (limits : Limits) (b : Shown) : Type 0 where
  pub tables : AreTables design b.tables
  pub is : b ≡ record { design = design; limits = limits; tables = b.tables; schedule = [] }

-- the model of a text, and the board of its run before any step
pub record IsStarted (options : RunOptions) (text : List ℕ) (run : ModelRun) : Type 0 where
  pub accepted : Accepted
  pub is : IsAcceptedAs text accepted
  pub stop : Time
  pub stops : stop_of options.stop accepted.bound ≡ Some stop
  pub model : run.model ≡ accepted.bound
  pub limits : run.limits ≡ limits_of options stop
  pub fresh : IsFresh accepted.design run.limits run.board

-- the model of a text, and the closed board of its run
pub record IsDriven (options : RunOptions) (text : List ℕ) (run : ModelRun) : Type 0 where
  pub accepted : Accepted
  pub is : IsAcceptedAs text accepted
  pub stop : Time
  pub stops : stop_of options.stop accepted.bound ≡ Some stop
  pub model : run.model ≡ accepted.bound
  pub limits : run.limits ≡ limits_of options stop
  pub closed : IsClosed accepted.design run.limits run.board

-- what is known of a model and its board, so that its run may be told once the board is over
pub record MayBeRun (run : ModelRun) : Type 0 where
  pub sound : IsSound run.model
  pub names : HasNames run.model
  pub design : run.board.design ≡ design_of run.model
  pub limits : run.board.limits ≡ run.limits
  pub some_deltas : 0 < run.limits.deltas

pub record MayBeTold (run : ModelRun) : Type 0 where
  pub may : MayBeRun run
  pub over : IsOver run.board

-- why a text isn't run, unless it is want of memory: it is refused, or nothing stops its run
abbrev pub IsNotRun : RunOptions → List ℕ → Refusal → Type 0
IsNotRun options text refusal.StopMissing = (accepted : Accepted) × IsAcceptedAs text accepted × (stop_of options.stop accepted.bound ≡ None)
IsNotRun options text why = IsRefusedAs text why

abbrev pub IsRunError : RunOptions → List ℕ → RunError → Type 0
IsRunError options text (error.Refused why) = IsNotRun options text why
IsRunError options text error.OutOfMemory = Unit {0}

-- ---- the board of a call

-- the board in the reply to the request of a text's run by workers: that of the run, unless it is refused
abbrev pub IsBoardOfRun : RunOptions → (text : List ℕ) → Verdict → Option Shown → Type 0
IsBoardOfRun options text v board = (is_some board ≡ is_granted v) × IfSome board (IsClosedOf options text)

-- the answer to the request of a text's run by workers: the reply, and the board
pub record IsAnswerOfRun (told : Told) (options : RunOptions) (text : List ℕ) (a : Answer) : Type 0 where
  pub is : IsTextReply (wanted.Run told options) text a.reply
  pub board : IsBoardOfRun options text a.reply.verdict a.board

-- the board in the answer of a call: that of the run that is told of, where workers drove it, and else none
abbrev pub IsBoardOf : Request → (read : List ℕ) → Outcome → Option Shown → Type 0
IsBoardOf (request.Run options workers) read (outcome.Replied v) board = IsBoardOfRun options read v board
IsBoardOf (request.Bench stages items seed workers) read (outcome.Replied v) board = IsBoardOfRun by_default (text_of stages items seed) v board
IsBoardOf request read outcome board = board ≡ None

-- the answer to a request, from bytes that it has read, which are the source's where it tells its bytes
pub record IsAnswerFrom (request : Request) (rest : Option (List ℕ)) (a : Answer) : Type 0 where
  pub read : List ℕ
  pub told : AreFirst (bytes_wanted request) rest read
  pub is : IsReplyTo request read a.reply
  pub board : IsBoardOf request read (outcome.Replied a.reply.verdict) a.board
