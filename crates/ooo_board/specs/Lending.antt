-- The parts that a job is lent.
use Rattle.std.specs.Prelude.{◌≡◌, ℕ, List, All, true}
use Rattle.ooo_code.specs.declared.design.Design.{Design}
use Rattle.ooo_code.specs.declared.limits.Limits.{Limits}
use Rattle.ooo_value.specs.declared.values.Value.{Value}
use Rattle.ooo_schedules.specs.Model.{job}
use Rattle.ooo_tables.specs.declared.tables.Tables.{Tables}
use Rattle.ooo_dispatch.specs.declared.step.Step.{Step}
use Rattle.ooo_dispatch.specs.Banks.{IsReadOf}
use Rattle.ooo_dispatch.specs.Boards.{model}
use Rattle.ooo_dispatch.specs.Inside.{AreInside}
use Rattle.ooo_dispatch.specs.Least.{rules_of}
use Rattle.ooo_dispatch.specs.Reach.{IsInReach}
use Rattle.ooo_dispatch.specs.Rules.{access_of, uses}
use Rattle.ooo_interp.specs.Jobs.{IsFew, SeenAscend}
use Rattle.ooo_fronts.specs.declared.front.Front.{Front}
use Rattle.ooo_fronts.specs.Fronts.{front_is}
use Rattle.ooo_board.specs.declared.cores.Parts.{Parts}
use Rattle.ooo_board.specs.Carrying.{bare, carried_from}
use Rattle.ooo_board.specs.Cores.{IsHome, after}
use Rattle.ooo_board.specs.Links.{only_read}

-- what the job of process p at its front is lent is at hand: the segment is there, with all that it touches; the job reads what the
-- board shows; and no job that is out owns a variable that the segment uses
pub record AreAtHand (design : Design) (limits : Limits) (t : Tables) (steps : List Step) (p : ℕ) (f : Front) : Type 0 where
  pub reach : IsInReach (rules_of design limits t) p (front_is f)
  pub inside : AreInside (rules_of design limits t)
  pub reads : IsReadOf (rules_of design limits t) (after design limits t steps).board p (front_is f)
  pub home : (x : ℕ) → uses (rules_of design limits t) f.segment x ≡ true → IsHome (rules_of design limits t) (after design limits t steps).board x

-- the parts of that job, where these are the variables that are kept: those that it owns have only their places yet
pub record ArePartsOf (design : Design) (limits : Limits) (t : Tables) (steps : List Step) (p : ℕ) (f : Front) (variables : List (List Value)) (parts : Parts) : Type 0 where
  pub owned : parts.owned.items ≡ bare (access_of (rules_of design limits t) f.segment).written
  pub copied : parts.copied.items ≡ carried_from variables (only_read (access_of (rules_of design limits t) f.segment))
  pub seen : parts.seen.items ≡ (job (model (rules_of design limits t)) (after design limits t steps).board p (front_is f)).reads.seen
  pub few : All IsFew parts.seen.items
  pub ascending : SeenAscend parts.seen.items
