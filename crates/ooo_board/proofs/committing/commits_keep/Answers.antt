use Rattle.std.proofs.Common.{◌≡◌, ◌≤◌, ◌<◌, ◌+◌, ◌*◌, ◌++◌, List, [], ◌∷◌, Some, ap, subst, sym, ◌∙◌, arith, inr, if◌then◌else◌, ◌^◌}
use Rattle.std.specs.Prelude.{is_some}
use Rattle.ooo_schedules.specs.Model.{count, front_at, last, running_or}
use Rattle.ooo_dispatch.specs.declared.step.Step.{Step}
use Rattle.ooo_dispatch.specs.declared.step.Step.TheVariants.{Commit}
use Rattle.ooo_dispatch.specs.Banks.{FrontsAreTold}
use Rattle.ooo_dispatch.specs.Boards.{IsFront, IsLawful, model}
use Rattle.ooo_dispatch.specs.Least.{rules_of}
use Rattle.ooo_dispatch.specs.Reach.{FrontsInReach}
use Rattle.ooo_dispatch.specs.Rules.{has, access_of}
use Rattle.ooo_dispatch.specs.Schedules.{cells_left, cells_on}
use Rattle.ooo_dispatch.specs.Steps.{AreLawful, Replay, nothing_done, replayed}
use Rattle.ooo_board.specs.Committing.{once_committed}
use Rattle.ooo_board.specs.Cores.{after}
use Rattle.ooo_board.proofs.Committed.{alone, counted_once, few_times, job_out, last_in, last_of, own_wait, replayed_on, sized, step_is, written_inside}
use Rattle.ooo_board.proofs.committing.commits_keep.Goals as goal

pub returns : goal.returns
returns c = λ design limits t steps p j stands out.
    let r = rules_of design limits t in
    let s = after design limits t steps in
    let ready = stands.ready in
    let rules = c.tables_are_rules.ensures design limits t ready.tables in
    let sound = c.tables_are_sound.ensures r rules ready.sound in
    let here = c.steps_are_lawful.ensures.leads design limits t steps ready.tables ready.stop stands.lawful in
    let more : List Step = steps ++ Commit p ∷ [] in
    let goes : AreLawful r t.advance (nothing_done r) more = c.steps_are_lawful.ensures.on design limits t (nothing_done r) steps (Commit p) stands.lawful (ap is_some out) in
    let there : IsLawful r (replayed r (nothing_done r) more).board = c.steps_are_lawful.ensures.leads design limits t more ready.tables ready.stop goes in
    let same : replayed r (nothing_done r) more ≡ once_committed r s j = replayed_on r (nothing_done r) steps (Commit p) ∙ step_is r s p j out in
    let is_out : last p s.board.out ≡ Some j = job_out r s p j out in
    let dispatched = last_in p s.board.out j is_out in
    let process = last_of p s.board.out j is_out in
    let front = ap (λ o. running_or o ((model r).front s.board.log p)) is_out in
    let reach = c.fronts_in_reach.ensures design limits t ready steps stands.lawful p (front_at j) front in
    let may = c.jobs_may_commit.ensures design limits t ready steps stands.lawful p j out in
    let times = subst (λ (x : Replay r). count p x.board.log ≤ (limits.stop.0 + 1) * limits.deltas) same (c.boards_go_on.ensures.not_for_ever r (replayed r (nothing_done r) more).board rules ready.sound ready.deltas there p) in
    let once = counted_once p j s.board.log process in
    let in_time = may.in_time in
    let below = may.below_limit in
    let stop = ready.stop in
    let deltas = stands.deltas in
    record {
      process = process;
      own = reach.process;
      within = reach.within;
      counted = subst (λ n. n < 2 ^ 128) once (few_times (count p (once_committed r s j).board.log) limits.stop.0 limits.deltas ready.stop stands.deltas times);
      aligned = c.tables_are_aligned.ensures design t ready.tables;
      access_count = rules.access_count;
      front = front;
      alone = λ k i e. alone r s.board here p j k is_out i e;
      may = may;
      countable = record { time = omega arith; delta = omega arith };
      sized = sized r s.board here j (inr dispatched);
      written = λ x i. written_inside r rules (c.accesses_are_inside.ensures r rules ready.sound) j.segment x reach.segment i;
      leaves = c.jobs_leave_in_reach.ensures design limits t ready steps stands.lawful p j out;
      cells = λ x. subst (λ (y : Replay r). cells_on r y.board x ≡ (if has (access_of r j.segment).written x then cells_left r j x else cells_on r s.board x)) (step_is r s p j out) (c.commits_put_back.ensures design limits t ready steps stands.lawful p j out x);
      stays = λ w leaves. c.fronts_stay.ensures design limits t ready steps stands.lawful p j out w leaves;
      waits = own_wait r sound s.board here;
      walks = λ q g is. c.commits_walk.ensures design limits t ready steps stands.lawful p j out q g (subst (λ (x : Replay r). IsFront r x.board q g) (sym (step_is r s p j out)) is);
      told = subst (FrontsAreTold r t.advance) same (c.fronts_are_told.ensures design limits t ready more goes);
      in_reach = subst (FrontsInReach r t.advance) same (c.fronts_in_reach.ensures design limits t ready more goes);
    }
