-- Jobs that a board hands out, and what comes back.
use Rattle.std.specs.Prelude.{◌≡◌, Some}
use Rattle.ooo_time.specs.declared.stamp.Stamp.{Stamp}
use Rattle.ooo_interp.specs.Carrying.{numbers_of}
use Rattle.ooo_interp.specs.Jobs.{done_on}
use Rattle.ooo_interp.specs.declared.job.Done.{Done}
use Rattle.ooo_interp.specs.declared.job.Job.{Job}
use Rattle.ooo_schedules.specs.Model.{Act}
use Rattle.ooo_dispatch.specs.declared.reads.Reads.{Reads}
use Rattle.ooo_dispatch.specs.Rules.{Rules, access_of, entry_of, outcome_of, view_at}
use Rattle.ooo_dispatch.specs.Steps.{Replay, job_of}
use Rattle.ooo_board.specs.Carrying.{carried_from}
use Rattle.ooo_board.specs.Links.{only_read}

-- a job of a board's process: the activation of the definitions, with its variables divided into those that its segment writes
-- and those that it only reads
pub record IsJobOf (r : Rules) (j : Act Stamp Reads) (job : Job) : Type 0 where
  pub design : job.design.value ≡ r.design
  pub process : job.process ≡ j.process
  pub activation : job.activation ≡ j.number
  pub stamp : job.stamp ≡ j.stamp
  pub statements : job.statements ≡ r.limits.statements
  pub frame : job.frame ≡ record { entry = entry_of r j.segment; slots = j.reads.slots }
  pub owned : job.owned.items ≡ carried_from j.reads.variables (access_of r j.segment).written
  pub copied : job.copied.items ≡ carried_from j.reads.variables (only_read (access_of r j.segment))
  pub seen : job.seen.items ≡ j.reads.seen

-- what an activation did: it is of that process and number, has the variables that the segment writes, and is what the activation
-- does on what it reads
pub record IsDoneOf (r : Rules) (j : Act Stamp Reads) (done : Done) : Type 0 where
  pub process : done.process ≡ j.process
  pub activation : done.activation ≡ j.number
  pub owned : numbers_of done.owned.items ≡ (access_of r j.segment).written
  pub does : outcome_of r j ≡ done_on done (view_at j.stamp j.reads)

-- it is what the job out of its process gives
pub record Gives (r : Rules) (s : Replay r) (done : Done) : Type 0 where
  pub job : Act Stamp Reads
  pub out : job_of r s done.process ≡ Some job
  pub is_done : IsDoneOf r job done
