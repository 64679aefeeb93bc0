-- The effects of each job that is out may be applied where those of the log were, in the order of the commits.
use Rattle.std.proofs.Common.{◌≡◌, ◌≢◌, ℕ, ◌<◌, ◌≤◌, ◌⊎◌, inl, inr, ⊎_elim, List, [], ◌∷◌, ◌++◌, Option, Some, None, refl, sym, ap, ◌∙◌, subst}
use Rattle.std.specs.Prelude.{All, slice_get}
use Rattle.std.proofs.lemmas.Bool.{cases_eq}
use Rattle.std.proofs.lemmas.List.Elements.{All-contains, All-nil}
use Rattle.ooo_time.specs.declared.stamp.Stamp.{Stamp}
use Rattle.ooo_time.specs.Stamps.{IsBefore}
use Rattle.ooo_code.specs.declared.activation.Effect.{Effect}
use Rattle.ooo_code.specs.declared.design.Design.{Design}
use Rattle.ooo_code.specs.declared.limits.Limits.{Limits}
use Rattle.ooo_code.specs.OwnSteps.{SeesOwnSteps}
use Rattle.ooo_code.specs.Segments.{entries_of}
use Rattle.ooo_code.specs.Sound.{IsSound}
use Rattle.ooo_channels.specs.Operations.{Operations, after_effects}
use Rattle.ooo_channels.specs.Conditions.{MayApplyAll, Names}
use Rattle.ooo_schedules.specs.Model.{Act, Front, In, committed, dispatched, empty, job}
use Rattle.ooo_schedules.specs.Program.{Sound}
use Rattle.ooo_schedules.specs.Tables.{EveryScheduleOf, program}
use Rattle.ooo_tables.specs.declared.tables.Tables.{Tables}
use Rattle.ooo_dispatch.specs.declared.reads.Reads.{Reads}
use Rattle.ooo_dispatch.specs.declared.step.Step.{Step}
use Rattle.ooo_dispatch.specs.declared.step.Step.TheVariants.{Dispatch, Commit, Abandon}
use Rattle.ooo_dispatch.specs.Banks.{JobsMayCommit, JobsReadBoard, operations_on}
use Rattle.ooo_dispatch.specs.Boards.{AreRules, Board, IsLawful, model}
use Rattle.ooo_dispatch.specs.Least.{MayRun, rules_of}
use Rattle.ooo_dispatch.specs.Rules.{Rules, deed_of, entry_of, operations_of, process_of, tables, view_at}
use Rattle.ooo_dispatch.specs.Schedules.{Always, IsReady}
use Rattle.ooo_dispatch.specs.Steps.{AreLawful, IsLawfulStep, Replay, after_step, committed_as, dispatched_at, job_of, nothing_done, replayed}
use Rattle.ooo_dispatch.proofs.Accessed.{Here, contains_in, fits, in_contained, process_at}
use Rattle.ooo_dispatch.proofs.Acting.{Does, acting}
use Rattle.ooo_dispatch.proofs.Allowed.{are_rules, goes_on, job_out, lawful_lists}
use Rattle.ooo_dispatch.proofs.Held.{sees_no_more}
use Rattle.ooo_dispatch.proofs.Lasting.{SeesNoMore, room_left, sees_still}
use Rattle.ooo_dispatch.proofs.Orderly.{IsApplied, NoneLater, applied_by, may_all}
use Rattle.ooo_dispatch.proofs.Owners.{in_without, owned}
use Rattle.ooo_dispatch.proofs.Placing.{ArePlaced, all_placed}
use Rattle.ooo_dispatch.proofs.Sharing.{share, touched}
use Rattle.ooo_dispatch.proofs.Stamps.{irreflexive, transitive}

abbrev Activation : Type 0
Activation = Act Stamp Reads

channels_of : (s : Stamp) (fs : List Effect) (ops : Operations) → (after_effects s ops fs).channels ≡ ops.channels
channels_of s [] ops = refl
channels_of s (f ∷ fs) ops = channels_of s fs _

events_of : (s : Stamp) (fs : List Effect) (ops : Operations) → (after_effects s ops fs).events ≡ ops.events
events_of s [] ops = refl
events_of s (f ∷ fs) ops = events_of s fs _

-- the operations of a log are on the design's channels and events
same_channels : (r : Rules) (ys : List Activation) → (operations_of r ys).channels ≡ r.design.channels
same_channels r [] = refl
same_channels r (y ∷ ys) = channels_of y.stamp (deed_of r y).effects (operations_of r ys) ∙ same_channels r ys

same_events : (r : Rules) (ys : List Activation) → (operations_of r ys).events ≡ r.design.events
same_events r [] = refl
same_events r (y ∷ ys) = events_of y.stamp (deed_of r y).effects (operations_of r ys) ∙ same_events r ys

-- ---- a job of a lawful board

module _ (r : Rules) (rules : AreRules r) (sound : IsSound r.design) (does : Does) (own : SeesOwnSteps) (runs : Sound (program (tables r))) (every : EveryScheduleOf (tables r)) (b : Board r) (lawful : IsLawful r b)
    (j : Activation) (out : In j b.out) where
  -- nothing on what an effect of a job is on was committed at a later stamp
  none_later : (f : Effect) → In f (deed_of r j).effects → NoneLater (operations_on r b).applied j.stamp f
  none_later f i o among same lt = ⊎_elim mine others (cases_eq a.activation.process j.process)
    where
      a : IsApplied r b.log o
      a = applied_by r b.log o among

      later : IsBefore j.stamp a.activation.stamp
      later = subst (IsBefore j.stamp) a.stamp lt

      mine : a.activation.process ≡ j.process → ⊥
      mine e = irreflexive j.stamp (transitive j.stamp a.activation.stamp j.stamp later (every.own_before b lawful j a.activation out a.among e))

      others : a.activation.process ≢ j.process → ⊥
      others n =
          ⊎_elim (λ e. n (sym (owned r runs lawful a.activation (inl a.among)) ∙ sym e ∙ owned r runs lawful j (inr out)))
          (λ c. every.no_conflict b lawful j a.activation out (inl a.among) (λ e. n (sym e)) (inl later) (inr (later, c)))
          (share r rules sound does j a.activation f o.effect (touched r rules sound does j f i) (touched r rules sound does a.activation o.effect a.effect) same)

  placed : SeesNoMore r (operations_on r b) j → ArePlaced (operations_on r b) j.stamp (deed_of r j).effects
  placed sees = ⊎_elim (λ a. by a.here) (λ n. subst (ArePlaced (operations_on r b) j.stamp) (sym n.effects) (record { names = All-nil _; find = tt })) (acting r rules sound does j)
    where
      by : Here r rules sound j.segment → ArePlaced (operations_on r b) j.stamp (deed_of r j).effects
      by h =
          all_placed own r.design h.process (operations_on r b) (process_of r j.segment) r.limits.statements (record { entry = entry_of r j.segment; slots = j.reads.slots }) (view_at j.stamp j.reads)
          (fits r rules sound j.segment h) process (same_channels r b.log) (same_events r b.log) (room_left r (operations_on r b) j sees) enters
        where
          process : slice_get r.design.processes (process_of r j.segment) ≡ Some h.process
          process = ap (slice_get r.design.processes) (process_at r rules sound j.segment h) ∙ h.process_is

          entry : entry_of r j.segment ≡ h.segment.entry
          entry = rw (entry_of, h.segment_is) refl

          enters : In (entry_of r j.segment) (entries_of r.design h.process)
          enters = subst (λ e. In e (entries_of r.design h.process)) (sym entry) (in_contained (entries_of r.design h.process) h.segment.entry h.whole.entry)

  pub may_apply : SeesNoMore r (operations_on r b) j → All (Names (operations_on r b)) (deed_of r j).effects × MayApplyAll (operations_on r b) j.stamp (deed_of r j).effects
  may_apply sees =
      let p = placed sees in (
        p.names,
        may_all j.stamp (deed_of r j).effects (operations_on r b)
            (λ f i. All-contains (Names (operations_on r b)) (deed_of r j).effects f p.names (contains_in (deed_of r j).effects f i)) none_later p.find,
      )

-- ---- lists of steps

appended : (r : Rules) (s : Replay r) (steps : List Step) (step : Step) → replayed r s (steps ++ step ∷ []) ≡ after_step r (replayed r s steps) step
appended r s [] step = refl
appended r s (x ∷ steps) step = appended r (after_step r s x) steps step

module _ (d : Design) (limits : Limits) (t : Tables) (ready : IsReady d limits t) (does : Does) (own : SeesOwnSteps) (runs : Sound (program (tables (rules_of d limits t)))) (every : EveryScheduleOf (tables (rules_of d limits t)))
    (reads : Always d limits t JobsReadBoard) where
  abbrev r : Rules
  r = rules_of d limits t

  rules : AreRules r
  rules = are_rules d limits t ready.tables

  -- a job ran in time and below the limit, and what it saw of fifos is there
  pub record IsFine (log : List Activation) (j : Activation) : Type 0 where
    pub in_time : j.stamp.time.0 ≤ limits.stop.0
    pub below_limit : j.stamp.delta < limits.deltas
    pub sees : SeesNoMore r (operations_of r log) j

  abbrev AreFine : Board r → Type 0
  AreFine b = (j : Activation) → In j b.out → IsFine b.log j

  at_dispatch : (s : Replay r) → JobsReadBoard r t.advance s → (p : ℕ) (f : Front Stamp) → MayRun r t.advance s.board p f → IsFine s.board.log (job (model r) s.board p f)
  at_dispatch s shown p f m = record {
    in_time = m.below_cut.in_time;
    below_limit = m.below_limit;
    sees = sees_no_more r rules ready.sound (operations_on r s.board) (job (model r) s.board p f) (shown p f m).seen;
  }

  at_commit : (b : Board r) → IsLawful r b → (k : Activation) → In k b.out → AreFine b → AreFine (committed (model r) b k)
  at_commit b lawful k out fine j i =
      let w = in_without k.process b.out j i in
      let h = fine j w.0 in
      record { in_time = h.in_time; below_limit = h.below_limit; sees = sees_still r rules ready.sound does runs every b lawful k j out w.0 w.1 h.sees }

  fine_step : (s : Replay r) → IsLawful r s.board → JobsReadBoard r t.advance s → (step : Step) → IsLawfulStep r t.advance s step → AreFine s.board → AreFine (after_step r s step).board
  fine_step s lawful shown (Dispatch p) h fine = subst (λ o. AreFine (dispatched_at r s.board p o)) (sym h.2.front) next
    where
      next : AreFine (dispatched (model r) s.board p h.1)
      next j (inl e) = subst (IsFine s.board.log) (sym e) (at_dispatch s shown p h.1 h.2)
      next j (inr i) = fine j i
  fine_step s lawful shown (Commit p) h fine = at (job_of r s p) refl
    where
      at : (o : Option Activation) → job_of r s p ≡ o → AreFine (committed_as r s.board o)
      at None e = fine
      at (Some k) e = at_commit s.board lawful k (job_out r s p k e) fine
  fine_step s lawful shown (Abandon p) h fine = fine

  -- from a state to which lawful steps led
  fine_on : (s : Replay r) (steps before : List Step) → AreLawful r t.advance (nothing_done r) before → replayed r (nothing_done r) before ≡ s → AreLawful r t.advance s steps → AreFine s.board → AreFine (replayed r s steps).board
  fine_on s [] before lawful is next fine = fine
  fine_on s (x ∷ steps) before lawful is next fine =
      fine_on (after_step r s x) steps (before ++ x ∷ [])
      (goes_on d limits t (nothing_done r) before x lawful (subst (λ z. IsLawfulStep r t.advance z x) (sym is) next.0))
      (appended r (nothing_done r) before x ∙ ap (λ z. after_step r z x) is) next.1
      (fine_step s (subst (λ z. IsLawful r z.board) is (lawful_lists d limits t ready.tables ready.stop (nothing_done r) before empty lawful)) (subst (JobsReadBoard r t.advance) is (reads before lawful)) x next.0 fine)

  pub jobs_may_commit : Always d limits t JobsMayCommit
  jobs_may_commit steps lawful p j e =
      let s = replayed r (nothing_done r) steps in
      let out : In j s.board.out = job_out r s p j e in
      let fine : IsFine s.board.log j = fine_on (nothing_done r) steps [] tt refl lawful (λ k i. absurd i) j out in
      let may = may_apply r rules ready.sound does own runs every s.board (lawful_lists d limits t ready.tables ready.stop (nothing_done r) steps empty lawful) j out fine.sees in
      record { names = may.0; may = may.1; in_time = fine.in_time; below_limit = fine.below_limit }
