-- The sequential run of a design, beside the run of which the theorem on schedules speaks.
use Rattle.std.specs.Prelude.{◌≡◌, List, [], ◌∷◌, ◌++◌, Some, slice_get}
use Rattle.ooo_time.specs.declared.stamp.Stamp.{Stamp}
use Rattle.ooo_code.specs.declared.design.Proc.{Proc}
use Rattle.ooo_code.specs.Dependence.{AgreeOn}
use Rattle.ooo_code.specs.Outcomes.{View}
use Rattle.ooo_code.specs.Segments.{Accesses}
use Rattle.ooo_meaning.specs.World.{Made}
use Rattle.ooo_meaning.specs.Sequence.{Result, Reads as IsRead}
use Rattle.ooo_schedules.specs.Model.{Act, Dispatched, In, Reports, count}
use Rattle.ooo_dispatch.specs.declared.reads.Reads.{Reads}
use Rattle.ooo_dispatch.specs.Rules.{Rules, entry_of, outcome_of, view_at}
use Rattle.ooo_dispatch.specs.Boards.{Board, IsOverBoard, model}

-- an activation that the scheduler made is this one: at its place, with the same output, effects and end, and what it saw of
-- all that its segment touches is what this one reads
pub record IsMadeAs (r : Rules) (m : Made) (x : Act Stamp Reads) : Type 0 where
  pub stamp : m.place.stamp ≡ x.stamp
  pub process : m.place.process ≡ x.process
  pub output : m.deed.output ≡ (outcome_of r x).deed.output
  pub effects : m.deed.effects ≡ (outcome_of r x).deed.effects
  pub end : m.deed.end ≡ (outcome_of r x).deed.end
  pub reads :
      (process : Proc) → slice_get r.design.processes x.process ≡ Some process →
      AgreeOn (Accesses r.design process (entry_of r x.segment)) m.view (view_at x.stamp x.reads)

-- the activations of the scheduler in order are those of a log, whose last one comes first, and each process's are numbered
pub data AreMadeAs (r : Rules) : List Made → List (Act Stamp Reads) → Type 0 where
  none_made : AreMadeAs r [] []
  more_made : {ms : List Made} {xs : List (Act Stamp Reads)} (m : Made) (x : Act Stamp Reads) → AreMadeAs r ms xs → IsMadeAs r m x → x.number ≡ count x.process xs → AreMadeAs r (ms ++ m ∷ []) (x ∷ xs)

-- what a board has in common with the sequential run: its jobs and committed activations are those of the run of that process
-- and number, if the run has it; and once it is over, it reports just the run's
pub record AgreesWith (r : Rules) (b : Board r) (result : Result) : Type 0 where
  pub log : List (Act Stamp Reads)
  pub made : AreMadeAs r result.made log
  pub jobs : (y x : Act Stamp Reads) → Dispatched (model r) y b → In x log → x.process ≡ y.process → x.number ≡ y.number → y ≡ x
  pub report : IsOverBoard r b → Reports (model r) log b

-- if the sequential run makes the activation of this process and number, then what that sees of all that its segment touches,
-- and its stamp, are what this one reads
abbrev pub ReadsAsRun : Rules → Result → Act Stamp Reads → Type 0
ReadsAsRun r result y =
    (v : View) (process : Proc) → IsRead y.process y.number result v → slice_get r.design.processes y.process ≡ Some process →
    AgreeOn (Accesses r.design process (entry_of r y.segment)) v (view_at y.stamp y.reads)

-- each job out of a board, and each activation of its log, does
abbrev pub JobsRead : (r : Rules) → Board r → Result → Type 0
JobsRead r b result = (y : Act Stamp Reads) → Dispatched (model r) y b → ReadsAsRun r result y
