-- A job comes back, or is abandoned.
use Rattle.std.proofs.Common.{◌≡◌, ◌≢◌, ℕ, suc, ◌<◌, ◌≤◌, ◌==◌, if◌then◌else◌, ◌+◌, ◌-◌, List, [], ◌∷◌, ◌++◌, length, Bool, true, false, Option, Some, None, refl, sym, ap, subst, ◌∙◌, ⊎_elim, arith}
use Rattle.std.specs.Prelude.{is_err, is_some, slice_get, slice_index_or, slice_set, IsSome, OnOk}
use Rattle.std.specs.declared.result.Result.{Result}
use Rattle.std.specs.declared.result.Result.TheVariants.{Ok, Err}
use Rattle.std.proofs.lemmas.Option.{same_Some}
use Rattle.ooo_interp.specs.declared.job.Done.{Done}
use Rattle.ooo_fronts.specs.declared.front.Front.{Front}
use Rattle.ooo_fronts.specs.Fronts.{front_is, maybe_front}
use Rattle.ooo_board.specs.Jobs.{Gives}
use Rattle.std.proofs.lemmas.Bool.{eqb-true, eq-eqb, ne_eqb}
use Rattle.std.proofs.lemmas.List.{length-set}
use Rattle.ooo_time.specs.declared.stamp.Stamp.{Stamp}
use Rattle.ooo_code.specs.declared.design.Design.{Design}
use Rattle.ooo_code.specs.declared.limits.Limits.{Limits}
use Rattle.ooo_tables.specs.declared.tables.Tables.{Tables}
use Rattle.ooo_schedules.specs.Model.{Act, front_at, last, running_or, without}
use Rattle.ooo_dispatch.specs.declared.reads.Reads.{Reads}
use Rattle.ooo_dispatch.specs.declared.step.Step.{Step}
use Rattle.ooo_dispatch.specs.declared.step.Step.TheVariants.{Abandon, Commit}
use Rattle.ooo_dispatch.specs.Boards.{model}
use Rattle.ooo_dispatch.specs.Least.{rules_of}
use Rattle.ooo_dispatch.specs.Rules.{Rules, has}
use Rattle.ooo_dispatch.specs.Steps.{IsLawfulStep, Replay, after_step, committed_as, job_of}
use Rattle.ooo_fronts.specs.declared.choice.State.{State}
use Rattle.ooo_fronts.specs.declared.choice.State.TheVariants.{Waiting, Running, Abandoned}
use Rattle.std.specs.Prelude.{vec_len, vec_capacity}
use Rattle.std.specs.Global.{Vec}
use Rattle.ooo_board.specs.declared.cores.Core.{Core}
use Rattle.ooo_board.specs.declared.links.Links.{Links}
use Rattle.ooo_board.specs.Boards.{Shown, rules, running_in, some_of, state}
use Rattle.ooo_board.specs.Cores.{AreStatesAfter, HasCore, IsCore, IsStateOf, after}
use Rattle.ooo_board.specs.Laws.{Laws}
use Rattle.ooo_board.specs.Whole.{IsWhole}
use Rattle.ooo_board.proofs.Chosen.{out_within}
use Rattle.ooo_board.proofs.States.{busy, job_is_out, last_process, one_more_runs, same_runs, set_apart}
use Rattle.ooo_board.proofs.Steps.{IsKept, after_more, kept_on}

pub the_job : (o : Option (Act Stamp Reads)) → IsSome o → (j : Act Stamp Reads) × (o ≡ Some j)
the_job None e = absurd cc
the_job (Some j) e = (j, refl)

module _ (b : Shown) (c : Core) (kept : IsKept b c) (laws : Laws) (p : ℕ) (some : IsSome (job_of (rules b) (state b) p)) where
  -- a job that is out, and wasn't abandoned, is of a process that there is
  pub job_within : p < length b.design.processes
  job_within =
      let j = the_job (job_of (rules b) (state b) p) some in
      out_within b c kept laws p j.0 (job_is_out (rules b) (state b) p j.0 j.1).1

  pub runs_one : 1 ≤ running_in c.states.items
  runs_one = busy (rules b) (state b) c.states.items kept.core.has_states p job_within some

-- ---- an abandoned job

module _ (r : Rules) (s : Replay r) (p : ℕ) where
  abbrev given_up : Replay r
  given_up = after_step r s (Abandon p)

  -- the jobs of other processes are as they were
  has_other : (q : ℕ) → q ≢ p → has given_up.abandoned q ≡ has s.abandoned q
  has_other q differs = rw (ne_eqb p q (λ e. differs (sym e))) refl

  pub others_stay : (q : ℕ) → q ≢ p → job_of r given_up q ≡ job_of r s q
  others_stay q differs = ap (λ t. if t then None else last q s.board.out) (has_other q differs)

  has_own : has given_up.abandoned p ≡ true
  has_own = rw (eq-eqb p p refl) refl

  pub none_own : job_of r given_up p ≡ None
  none_own = ap (λ t. if t then None else last p s.board.out) has_own

  state_stays : (q : ℕ) (x : State) → q ≢ p → IsStateOf r s q x → IsStateOf r given_up q x
  state_stays q Waiting differs h = h
  state_stays q Running differs h = ap is_some (others_stay q differs) ∙ h
  state_stays q Abandoned differs h = (has_other q differs ∙ h.0, h.1)

  pub states_after : (states states' : List State) → AreStatesAfter r s states → IsSome (job_of r s p) → states' ≡ slice_set states p Abandoned → AreStatesAfter r given_up states'
  states_after states states' h some e = record {
    counted = ap length e ∙ length-set states p Abandoned ∙ h.counted;
    each = λ q x is. ⊎_elim
        (λ w. state_stays q x w.0 (h.each q x w.1))
        (λ w. subst (λ n. IsStateOf r given_up n x) w.0 (subst (IsStateOf r given_up p) w.1 own))
        (set_apart states p Abandoned q x (subst (λ l. slice_get l q ≡ Some x) e is));
  }
    where
      own : IsStateOf r given_up p Abandoned
      own = let j = the_job (job_of r s p) some in (has_own, ap is_some (job_is_out r s p j.0 j.1).1)

-- what is kept once it was abandoned
pub abandoned_core : (design : Design) (limits : Limits) (t : Tables) (s : Replay (rules_of design limits t)) (p : ℕ) (c : Core) (states : Vec State) → IsCore design limits t s c →
    IsSome (job_of (rules_of design limits t) s p) → states.items ≡ slice_set c.states.items p Abandoned →
    IsCore design limits t (after_step (rules_of design limits t) s (Abandon p)) (record c { states = states })
abandoned_core design limits t s p c states h some e = record {
  has_bank = h.has_bank;
  has_variables = h.has_variables;
  has_processes = h.has_processes;
  has_states = states_after (rules_of design limits t) s p c.states.items states.items h.has_states some e;
  has_fronts = h.has_fronts;
  has_kept = h.has_kept;
  fit = h.fit;
  has_cut = h.has_cut;
  has_pieces = h.has_pieces;
  has_places = h.has_places;
}

-- ---- one process less runs

module _ (b : Shown) (c new : Core) (kept : IsKept b c) (laws : Laws) (p : ℕ) (some : IsSome (job_of (rules b) (state b) p)) where
  pub one_less : (s : Replay (rules b)) → IsCore b.design b.limits b.tables s new → ((q : ℕ) → q ≢ p → job_of (rules b) s q ≡ job_of (rules b) (state b) q) → job_of (rules b) s p ≡ None →
      running_in c.states.items ≡ suc (running_in new.states.items)
  one_less s core others none =
      one_more_runs (rules b) s (state b) p new.states.items c.states.items core.has_states kept.core.has_states (job_within b c kept laws p some) (λ q differs. sym (others q differs)) none some

-- the board's invariant after a step that ends the job of process p
pub ended : (b : Shown) (l : Links) (c new : Core) (schedule schedule' : Vec Step) (running : ℕ) (lost lost' : Bool) (step : Step) (p : ℕ) → IsWhole b.design b.limits b.tables l c schedule running lost → schedule.items ≡ b.schedule → Laws →
    IsSome (job_of (rules b) (state b) p) → IsLawfulStep (rules b) b.tables.advance (state b) step → IsCore b.design b.limits b.tables (after_step (rules b) (state b) step) new →
    ((q : ℕ) → q ≢ p → job_of (rules b) (after_step (rules b) (state b) step) q ≡ job_of (rules b) (state b) q) → job_of (rules b) (after_step (rules b) (state b) step) p ≡ None →
    schedule'.items ≡ schedule.items ++ step ∷ [] → vec_len schedule' ≡ vec_len schedule + 1 → vec_capacity schedule' ≡ vec_capacity schedule → lost' ≡ some_of (after_step (rules b) (state b) step).abandoned →
    IsWhole b.design b.limits b.tables l new schedule' (running - 1) lost'
ended b l c new schedule schedule' running lost lost' step p whole same laws some lawful core others none items longer wide lost_now =
    let kept : IsKept b c = subst (λ steps. HasCore b.design b.limits b.tables steps c) same whole.has in
    let now : schedule'.items ≡ b.schedule ++ step ∷ [] = items ∙ ap (λ steps. steps ++ step ∷ []) same in
    let less = one_less b c new kept laws p some (after_step (rules b) (state b) step) core others none in
    let n = whole.counted in
    let m = whole.room in
    record {
      has = subst (λ steps. HasCore b.design b.limits b.tables steps new) (sym now) (kept_on b c kept laws step lawful new core);
      links_are = whole.links_are;
      few = whole.few;
      counted = omega (arith, n, less);
      room = omega (arith, n, m, less, longer, wide);
      is_lost = lost_now ∙ sym (ap (λ steps. some_of (after b.design b.limits b.tables steps).abandoned) now ∙ ap (λ s. some_of s.abandoned) (after_more b.design b.limits b.tables b.schedule step));
    }

-- a core that is of the same steps may take the place of another one
pub again : (design : Design) (limits : Limits) (t : Tables) (l : Links) (c new : Core) (schedule : Vec Step) (running : ℕ) (lost : Bool) → IsWhole design limits t l c schedule running lost → HasCore design limits t schedule.items new →
    IsWhole design limits t l new schedule running lost
again design limits t l c new schedule running lost whole kept = record {
  has = kept;
  links_are = whole.links_are;
  few = whole.few;
  counted = whole.counted ∙ same_runs (rules_of design limits t) (after design limits t schedule.items) c.states.items new.states.items whole.has.core.has_states kept.core.has_states;
  room = whole.room;
  is_lost = whole.is_lost;
}

-- ---- a committed job

-- the job of another process stays, where those of one process are taken
last_kept : (q p : ℕ) (xs : List (Act Stamp Reads)) → q ≢ p → last q (without p xs) ≡ last q xs
last_kept q p [] differs = refl
last_kept q p (x ∷ xs) differs = at (x.process == p) refl (x.process == q) refl (last_kept q p xs differs)
  where
    at : (a : Bool) → (x.process == p) ≡ a → (d : Bool) → (x.process == q) ≡ d → last q (without p xs) ≡ last q xs → last q (if a then without p xs else x ∷ without p xs) ≡ (if d then Some x else last q xs)
    at true e true f rest = absurd (differs (sym (eqb-true x.process q f) ∙ eqb-true x.process p e))
    at true e false f rest = rest
    at false e true f rest = ap (λ t. if t then Some x else last q (without p xs)) f
    at false e false f rest = ap (λ t. if t then Some x else last q (without p xs)) f ∙ rest

gone : (p : ℕ) (xs : List (Act Stamp Reads)) → last p (without p xs) ≡ None
gone p [] = refl
gone p (x ∷ xs) = at (x.process == p) refl (gone p xs)
  where
    at : (a : Bool) → (x.process == p) ≡ a → last p (without p xs) ≡ None → last p (if a then without p xs else x ∷ without p xs) ≡ None
    at true e rest = rest
    at false e rest = ap (λ t. if t then Some x else last p (without p xs)) e ∙ rest

module _ (r : Rules) (s : Replay r) (p : ℕ) (j : Act Stamp Reads) (is : job_of r s p ≡ Some j) where
  abbrev back : Replay r
  back = after_step r s (Commit p)

  own_process : j.process ≡ p
  own_process = last_process p s.board.out j (job_is_out r s p j is).1

  out_is : back.board.out ≡ without p s.board.out
  out_is = ap (λ o. (committed_as r s.board o).out) is ∙ ap (λ n. without n s.board.out) own_process

  pub others_back : (q : ℕ) → q ≢ p → job_of r back q ≡ job_of r s q
  others_back q differs = ap (λ o. if has s.abandoned q then None else o) (ap (last q) out_is ∙ last_kept q p s.board.out differs)

  pub none_back : job_of r back p ≡ None
  none_back = ap (λ t. if t then None else last p back.board.out) (job_is_out r s p j is).0 ∙ ap (last p) out_is ∙ gone p s.board.out

-- ---- the front of a job that is out

module _ (b : Shown) (c : Core) (kept : IsKept b c) (laws : Laws) (done : Done) (gives : Gives (rules b) (state b) done) where
  pub gives_some : IsSome (job_of (rules b) (state b) done.process)
  gives_some = ap is_some gives.out

  front_out : maybe_front (slice_index_or c.fronts.fronts done.process None) ≡ Some (front_at gives.job)
  front_out =
      sym (kept.core.has_fronts.each done.process)
      ∙ ap (λ o. running_or o ((model (rules b)).front (state b).board.log done.process)) (job_is_out (rules b) (state b) done.process gives.job gives.out).1

  pub has_front : slice_index_or c.fronts.fronts done.process None ≡ None → ⊥
  has_front e = let n : None ≡ Some (front_at gives.job) = sym (ap maybe_front e) ∙ front_out in cc

  pub at_stamp : (f : Front) → slice_index_or c.fronts.fronts done.process None ≡ Some f → f.stamp ≡ gives.job.stamp
  at_stamp f e = ap (λ x. x.stamp) (same_Some (front_is f) (front_at gives.job) (sym (ap maybe_front e) ∙ front_out))

  pub front_within : done.process < length c.fronts.fronts
  front_within = let w = job_within b c kept laws done.process gives_some in let n = kept.core.has_fronts.count in omega (arith, w, n)

pub on_ok : {A E : Type 0} {P : Type 0} (x : Result A E) → false ≡ is_err x → OnOk x P → P
on_ok (Ok a) e h = h
on_ok (Err x) e h = absurd cc
