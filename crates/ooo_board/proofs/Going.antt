-- A job goes out.
use Rattle.std.proofs.Common.{◌≡◌, ◌≢◌, ℕ, suc, ◌+◌, ◌^◌, ◌<◌, ◌≤◌, if◌then◌else◌, List, [], ◌∷◌, ◌++◌, length, Bool, Some, None, refl, sym, ap, subst, ◌∙◌, arith}
use Rattle.std.specs.Prelude.{is_some, slice_index_or, vec_len, vec_capacity}
use Rattle.std.specs.Global.{Vec}
use Rattle.std.proofs.lemmas.Option.{same_Some}
use Rattle.ooo_time.specs.declared.stamp.Stamp.{Stamp}
use Rattle.ooo_value.specs.declared.bound.BoundVariable.{BoundVariable}
use Rattle.ooo_code.specs.declared.design.Design.{Design}
use Rattle.ooo_code.specs.declared.limits.Limits.{Limits}
use Rattle.ooo_tables.specs.declared.tables.Tables.{Tables}
use Rattle.ooo_segments.specs.Beginnings.{greatest_segments}
use Rattle.ooo_interp.specs.declared.job.Done.{Done}
use Rattle.ooo_interp.specs.declared.job.Job.{Job}
use Rattle.ooo_schedules.specs.Model.{Act, job, last}
use Rattle.ooo_dispatch.specs.declared.reads.Reads.{Reads}
use Rattle.ooo_dispatch.specs.declared.step.Step.{Step}
use Rattle.ooo_dispatch.specs.declared.step.Step.TheVariants.{Dispatch}
use Rattle.ooo_dispatch.specs.Boards.{model}
use Rattle.ooo_dispatch.specs.Least.{MayRun}
use Rattle.ooo_dispatch.specs.Reach.{IsInReach}
use Rattle.ooo_dispatch.specs.Rules.{Rules, has, variables_for}
use Rattle.ooo_dispatch.specs.Steps.{Replay, after_step, dispatched_at, job_of}
use Rattle.ooo_fronts.specs.declared.front.Front.{Front}
use Rattle.ooo_fronts.specs.Fronts.{front_is, maybe_front}
use Rattle.ooo_board.specs.declared.cores.Core.{Core}
use Rattle.ooo_board.specs.declared.links.Links.{Links}
use Rattle.ooo_board.specs.Boards.{HandsOut, IsDoneFor, MayBeDispatched, Shown, rules, running_in, some_of, state}
use Rattle.ooo_board.specs.Cores.{HasCore, IsCore, IsDispatched, MayDispatch, after}
use Rattle.ooo_board.specs.Jobs.{Gives}
use Rattle.ooo_board.specs.Laws.{Laws}
use Rattle.ooo_board.specs.Links.{AreLinks}
use Rattle.ooo_board.specs.Whole.{IsWhole}
use Rattle.ooo_board.proofs.Chosen.{front_kept}
use Rattle.ooo_board.proofs.Parts.{given}
use Rattle.ooo_board.proofs.States.{few_run, idle_job, last_first, last_past, one_more_runs}
use Rattle.ooo_board.proofs.Steps.{IsKept, after_more, few, kept_on}

-- how many run can be counted on
pub few_jobs : (b : Shown) (c : Core) → IsKept b c → running_in c.states.items ≤ greatest_segments
few_jobs b c kept = let h = few_run c.states.items in let n = few b c kept in let m = kept.core.has_states.counted in omega (arith, h, n, m)

-- room that isn't used up
pub wider : (design : Design) (limits : Limits) (t : Tables) (l : Links) (c : Core) (schedule schedule' : Vec Step) (running : ℕ) (lost : Bool) → IsWhole design limits t l c schedule running lost →
    schedule'.items ≡ schedule.items → vec_len schedule' ≡ vec_len schedule → vec_capacity schedule ≤ vec_capacity schedule' → IsWhole design limits t l c schedule' running lost
wider design limits t l c schedule schedule' running lost whole items longer wide =
    let m = whole.room in
    record {
      has = subst (λ steps. HasCore design limits t steps c) (sym items) whole.has;
      links_are = whole.links_are;
      few = whole.few;
      counted = whole.counted;
      room = omega (arith, m, longer, wide);
      is_lost = whole.is_lost ∙ sym (ap (λ steps. some_of (after design limits t steps).abandoned) items);
    }

-- a job reads as many variables as there are
as_many : (r : Rules) (g x : ℕ) (vs : List BoundVariable) (ys : List (Act Stamp Reads)) → length (variables_for r g x vs ys) ≡ length vs
as_many r g x [] ys = refl
as_many r g x (v ∷ vs) ys = ap suc (as_many r g (suc x) vs ys)

module _ (b : Shown) (c : Core) (kept : IsKept b c) (laws : Laws) (p : ℕ) (may : MayBeDispatched b p) where
  abbrev r : Rules
  r = rules b

  abbrev s : Replay r
  s = state b

  abbrev next : Replay r
  next = after_step r s (Dispatch p)

  reach : IsInReach r p may.1
  reach = (laws b.design b.limits b.tables kept.stands.ready).in_reach b.schedule kept.stands.lawful p may.1 may.2.front

  pub has_front : slice_index_or c.fronts.fronts p None ≡ None → ⊥
  has_front e = let n : None ≡ Some may.1 = sym (kept.core.has_fronts.each p ∙ ap maybe_front e) ∙ may.2.front in cc

  pub front_within : p < length c.fronts.fronts
  front_within = let w = reach.within in let n = kept.core.has_fronts.count in omega (arith, w, n)

  module _ (f : Front) (own : slice_index_or c.fronts.fronts p None ≡ Some f) where
    same : may.1 ≡ front_is f
    same = same_Some may.1 (front_is f) (sym may.2.front ∙ front_kept b c kept p f own)

    pub at_front : MayDispatch b.design b.limits b.tables b.schedule p f
    at_front = record { none_lost = may.0; may = subst (λ g. MayRun r b.tables.advance s.board p g) same may.2 }

    abbrev j : Act Stamp Reads
    j = job (model r) s.board p (front_is f)

    out_is : next.board.out ≡ j ∷ s.board.out
    out_is = ap (λ o. (dispatched_at r s.board p o).out) at_front.may.front

    pub others_go : (q : ℕ) → q ≢ p → job_of r next q ≡ job_of r s q
    others_go q differs = ap (λ o. if has s.abandoned q then None else o) (ap (last q) out_is ∙ last_past q j s.board.out (λ e. differs (sym e)))

    goes : job_of r next p ≡ Some j
    goes = ap (λ ps. if has ps p then None else last p next.board.out) may.0 ∙ ap (last p) out_is ∙ last_first j s.board.out

    own_segment : IsInReach r p (front_is f)
    own_segment = subst (IsInReach r p) same reach

    -- the board's invariant then
    pub sent : (l : Links) (new : Core) (schedule' : Vec Step) (running : ℕ) (lost : Bool) → AreLinks b.design b.tables l → length b.design.channels < 2 ^ 32 → running ≡ running_in c.states.items → lost ≡ some_of s.abandoned →
        IsCore b.design b.limits b.tables next new → schedule'.items ≡ b.schedule ++ Dispatch p ∷ [] → vec_len schedule' + (running + 1) ≤ vec_capacity schedule' →
        IsWhole b.design b.limits b.tables l new schedule' (running + 1) lost
    sent l new schedule' running lost links channels counted is_lost core items room =
        let more = one_more_runs r s next p c.states.items new.states.items kept.core.has_states core.has_states reach.within others_go (idle_job r s p may.2.idle) (ap is_some goes) in
        record {
          has = subst (λ steps. HasCore b.design b.limits b.tables steps new) (sym items) (kept_on b c kept laws (Dispatch p) may new core);
          links_are = links;
          few = channels;
          counted = omega (arith, counted, more);
          room = room;
          is_lost = is_lost ∙ sym (ap (λ steps. some_of (after b.design b.limits b.tables steps).abandoned) items ∙ ap (λ x. some_of x.abandoned) (after_more b.design b.limits b.tables b.schedule (Dispatch p)));
        }

    pub hands_out : (new : Core) (handed : Job) → IsDispatched b.design b.limits b.tables b.schedule p f new handed → HandsOut b p handed
    hands_out new handed is = record { front = front_is f; is = at_front.may.front; is_job = is.is_job; fits = is.fits }

    -- what is done for it is what comes back
    pub gives : (steps : List Step) (new : Core) (handed : Job) (done : Done) → steps ≡ b.schedule ++ Dispatch p ∷ [] → IsDispatched b.design b.limits b.tables b.schedule p f new handed → IsDoneFor handed done →
        Gives r (after b.design b.limits b.tables steps) done
    gives steps new handed done items is for =
        let here : Gives r next done = record {
          job = j;
          out = ap (job_of r next) (for.of.process ∙ is.is_job.process) ∙ goes;
          is_done = given r j handed is.is_job (as_many r f.segment 0 b.design.variables _) done own_segment.process for.of for.does;
        } in
        subst (λ x. Gives r x done) (sym (ap (after b.design b.limits b.tables) items ∙ after_more b.design b.limits b.tables b.schedule (Dispatch p))) here
