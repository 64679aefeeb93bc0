-- What is kept once a job is handed out.
use Rattle.std.proofs.Common.{◌≡◌, ◌≢◌, ℕ, zero, suc, ◌==◌, if◌then◌else◌, List, [], ◌∷◌, length, Bool, true, false, Some, None, refl, sym, ap, subst, ◌∙◌, ◌⊎◌, inl, inr, ⊎_elim}
use Rattle.std.specs.Prelude.{is_some, slice_get, slice_index_or, slice_set}
use Rattle.std.proofs.lemmas.Bool.{eqb-true, eq-eqb}
use Rattle.std.proofs.lemmas.List.{length-set}
use Rattle.ooo_time.specs.declared.stamp.Stamp.{Stamp}
use Rattle.ooo_code.specs.declared.design.Design.{Design}
use Rattle.ooo_code.specs.declared.limits.Limits.{Limits}
use Rattle.ooo_schedules.specs.Model.{Act, dispatched, front_of, job, last, running_or}
use Rattle.ooo_tables.specs.declared.tables.Tables.{Tables}
use Rattle.ooo_fronts.specs.declared.choice.State.{State}
use Rattle.ooo_fronts.specs.declared.choice.State.TheVariants.{Waiting, Running, Abandoned}
use Rattle.ooo_fronts.specs.declared.front.Front.{Front}
use Rattle.ooo_fronts.specs.Fronts.{AreFit, AreFrontsOf, Kept, front_is}
use Rattle.ooo_fronts.specs.Cuts.{IsCutOf}
use Rattle.ooo_fronts.specs.Holds.{AreKept}
use Rattle.ooo_dispatch.specs.declared.reads.Reads.{Reads}
use Rattle.ooo_dispatch.specs.declared.step.Step.{Step}
use Rattle.ooo_dispatch.specs.declared.step.Step.TheVariants.{Dispatch}
use Rattle.ooo_dispatch.specs.Boards.{Board, model}
use Rattle.ooo_dispatch.specs.Least.{rules_of}
use Rattle.ooo_dispatch.specs.Rules.{Rules, access_of, has}
use Rattle.ooo_dispatch.specs.Schedules.{cells_on}
use Rattle.ooo_dispatch.specs.Steps.{Replay, after_step, dispatched_at}
use Rattle.ooo_board.specs.declared.cores.Core.{Core}
use Rattle.ooo_board.specs.declared.process.Process.{Process}
use Rattle.ooo_board.specs.Carrying.{bare, taken_from}
use Rattle.ooo_board.specs.Cores.{AreProcesses, AreStatesAfter, AreVariables, IsCore, IsHome, IsProcess, IsStateOf, MayDispatch, after, maybe_wait}
use Rattle.ooo_board.specs.Forgetting.{HasBank}
use Rattle.ooo_board.proofs.Moving.{length_taken, taken_stays}
use Rattle.ooo_board.proofs.Past.{past_same}

-- an item of a list of which one is set is that one, or stands elsewhere
set_apart : {A : Type 0} (xs : List A) (i : ℕ) (a : A) (k : ℕ) (x : A) → slice_get (slice_set xs i a) k ≡ Some x →
    ((i ≢ k) × (slice_get xs k ≡ Some x)) ⊎ ((i ≡ k) × (a ≡ x))
set_apart [] i a k x h = absurd cc
set_apart (y ∷ ys) zero a zero x h = inr (refl, cc)
set_apart (y ∷ ys) zero a (suc k) x h = inl ((λ e. absurd cc), h)
set_apart (y ∷ ys) (suc i) a zero x h = inl ((λ e. absurd cc), h)
set_apart (y ∷ ys) (suc i) a (suc k) x h = elim (set_apart ys i a k x h) [
  | inl other ↦ inl ((λ e. other.0 (let same : i ≡ k = cc in same)), other.1)
  | inr own ↦ inr (ap suc own.0, own.1)
]

-- a job went out of a core: the variables that it owns are taken, its process runs, and all else but that process's locals is as it was
pub record WentOut (old new : Core) (p : ℕ) (written : List ℕ) : Type 0 where
  pub bank : new.bank ≡ old.bank
  pub below : new.below ≡ old.below
  pub variables : new.variables.items ≡ (taken_from old.variables.items (bare written)).0
  pub process : Process
  pub left : Process
  pub process_is : slice_get old.processes.items p ≡ Some process
  pub waiting : left.waiting ≡ process.waiting
  pub activations : left.activations ≡ process.activations
  pub processes : new.processes.items ≡ slice_set old.processes.items p left
  pub states : new.states.items ≡ slice_set old.states.items p Running
  pub fronts : new.fronts ≡ old.fronts
  pub cut : new.cut ≡ old.cut
  pub pieces : new.pieces.items ≡ old.pieces.items
  pub places : new.places.items ≡ old.places.items

module _ (design : Design) (limits : Limits) (t : Tables) (steps : List Step) (p : ℕ) (f : Front) (may : MayDispatch design limits t steps p f) (old new : Core) (core : IsCore design limits t (after design limits t steps) old) where
  abbrev r : Rules
  r = rules_of design limits t

  abbrev s : Replay r
  s = after design limits t steps

  abbrev b : Board r
  b = s.board

  abbrev j : Act Stamp Reads
  j = job (model r) b p (front_is f)

  abbrev next : Replay r
  next = record { board = dispatched (model r) b p (front_is f); abandoned = s.abandoned }

  -- the job of another process is as it was
  last_other : (q : ℕ) → p ≢ q → last q (j ∷ b.out) ≡ last q b.out
  last_other q differs = at (p == q) refl
    where
      at : (same : Bool) → (p == q) ≡ same → (if same then Some j else last q b.out) ≡ last q b.out
      at true e = absurd (differs (eqb-true p q e))
      at false e = refl

  last_own : last p (j ∷ b.out) ≡ Some j
  last_own = rw (eq-eqb p p refl) refl

  -- each process has the front that it had
  front_same : (q : ℕ) → front_of (model r) next.board q ≡ front_of (model r) b q
  front_same q = at (p == q) refl
    where
      at : (same : Bool) → (p == q) ≡ same → running_or (if same then Some j else last q b.out) ((model r).front b.log q) ≡ front_of (model r) b q
      at true e = sym may.may.front ∙ ap (front_of (model r) b) (eqb-true p q e)
      at false e = refl

  module _ (went : WentOut old new p (access_of r f.segment).written) where
    variables_after : AreVariables r next.board new.variables.items
    variables_after = record {
      count = ap length went.variables ∙ length_taken old.variables.items (bare (access_of r f.segment).written) ∙ core.has_variables.count;
      home = λ x home. at x home (has (access_of r f.segment).written x) refl;
    }
      where
        at : (x : ℕ) → IsHome r next.board x → (out : Bool) → has (access_of r f.segment).written x ≡ out → slice_index_or new.variables.items x [] ≡ cells_on r b x
        at x home true e = absurd (home j (inl refl) e)
        at x home false e =
            ap (λ vs. slice_index_or vs x []) went.variables ∙ taken_stays old.variables.items (access_of r f.segment).written x e
            ∙ core.has_variables.home x (λ k out owned. home k (inr out) owned)

    process_after : (q : ℕ) (x : Process) → slice_get (slice_set old.processes.items p went.left) q ≡ Some x → IsProcess r next.board q x
    process_after q x is = ⊎_elim other own (set_apart old.processes.items p went.left q x is)
      where
        here : IsProcess r next.board p went.left
        here =
            let kept = core.has_processes.each p went.process went.process_is in
            record {
              slots = λ none. absurd (let e : Some j ≡ None = sym last_own ∙ none in cc);
              waiting = ap maybe_wait went.waiting ∙ kept.waiting;
              activations = went.activations ∙ kept.activations;
            }

        own : (p ≡ q) × (went.left ≡ x) → IsProcess r next.board q x
        own same = subst (λ y. IsProcess r next.board q y) same.1 (subst (λ n. IsProcess r next.board n went.left) same.0 here)

        other : (p ≢ q) × (slice_get old.processes.items q ≡ Some x) → IsProcess r next.board q x
        other h =
            let kept = core.has_processes.each q x h.1 in
            record { slots = λ none. kept.slots (sym (last_other q h.0) ∙ none); waiting = kept.waiting; activations = kept.activations }

    processes_after : AreProcesses r next.board new.processes.items
    processes_after = record {
      counted = ap length went.processes ∙ length-set old.processes.items p went.left ∙ core.has_processes.counted;
      each = λ q x is. process_after q x (ap (λ xs. slice_get xs q) (sym went.processes) ∙ is);
    }

    state_after : (q : ℕ) (x : State) → slice_get (slice_set old.states.items p Running) q ≡ Some x → IsStateOf r next q x
    state_after q x is = ⊎_elim other own (set_apart old.states.items p Running q x is)
      where
        here : IsStateOf r next p Running
        here = rw (may.none_lost) (ap is_some last_own)

        own : (p ≡ q) × (Running ≡ x) → IsStateOf r next q x
        own same = subst (λ y. IsStateOf r next q y) same.1 (subst (λ n. IsStateOf r next n Running) same.0 here)

        by : (y : State) → last q (j ∷ b.out) ≡ last q b.out → IsStateOf r s q y → IsStateOf r next q y
        by Waiting same h = same ∙ h
        by Running same h = ap (λ o. is_some (if has s.abandoned q then None else o)) same ∙ h
        by Abandoned same h = (h.0, ap is_some same ∙ h.1)

        other : (p ≢ q) × (slice_get old.states.items q ≡ Some x) → IsStateOf r next q x
        other h = by x (last_other q h.0) (core.has_states.each q x h.1)

    states_after : AreStatesAfter r next new.states.items
    states_after = record {
      counted = ap length went.states ∙ length-set old.states.items p Running ∙ core.has_states.counted;
      each = λ q x is. state_after q x (ap (λ xs. slice_get xs q) (sym went.states) ∙ is);
    }

    fronts_after : AreFrontsOf r next.board new.fronts.fronts
    fronts_after = subst (λ (k : Kept). AreFrontsOf r next.board k.fronts) (sym went.fronts) (record { count = core.has_fronts.count; each = λ q. front_same q ∙ core.has_fronts.each q })

    bank_after : HasBank r next.board old.bank old.below
    bank_after = record {
      applied = core.has_bank.applied;
      past = past_same r b next.board old.below (λ q g is. sym (front_same q) ∙ is) core.has_bank.past;
    }

    core_next : IsCore design limits t next new
    core_next = record {
      has_bank = subst (HasBank r next.board new.bank) (sym went.below) (subst (λ k. HasBank r next.board k old.below) (sym went.bank) bank_after);
      has_variables = variables_after;
      has_processes = processes_after;
      has_states = states_after;
      has_fronts = fronts_after;
      has_kept = subst (AreKept t) (sym went.fronts) core.has_kept;
      fit = subst (λ (k : Kept). AreFit t k.fronts) (sym went.fronts) core.fit;
      has_cut = subst (IsCutOf r b.log) (sym went.cut) core.has_cut;
      has_pieces = went.pieces ∙ core.has_pieces;
      has_places = went.places ∙ core.has_places;
    }

    -- so the core is that after the step
    pub core_after : IsCore design limits t (after_step r s (Dispatch p)) new
    core_after = subst (λ o. IsCore design limits t (record { board = dispatched_at r b p o; abandoned = s.abandoned }) new) (sym may.may.front) core_next
