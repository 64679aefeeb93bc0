-- A step of one process leaves what the jobs of other processes give.
use Rattle.std.proofs.Common.{◌≡◌, ◌≢◌, ℕ, sym, ap, subst, ◌∙◌}
use Rattle.ooo_dispatch.specs.declared.step.Step.{Step}
use Rattle.ooo_dispatch.specs.Steps.{after_step, job_of}
use Rattle.ooo_board.specs.Boards.{LeavesOthers, Shown, rules, state, with_step}
use Rattle.ooo_board.proofs.Steps.{after_more}

-- where the jobs of the other processes are as they were
pub leaves_others : (old new : Shown) (step : Step) (p : ℕ) → new ≡ with_step old step →
    ((q : ℕ) → q ≢ p → job_of (rules old) (after_step (rules old) (state old) step) q ≡ job_of (rules old) (state old) q) → LeavesOthers old new p
leaves_others old new step p is stay = subst (λ x. LeavesOthers old x p) (sym is) further
  where
    further : LeavesOthers old (with_step old step) p
    further done differs gives = record {
      job = gives.job;
      out = ap (λ s. job_of (rules old) s done.process) (after_more old.design old.limits old.tables old.schedule step) ∙ stay done.process differs ∙ gives.out;
      is_done = gives.is_done;
    }
