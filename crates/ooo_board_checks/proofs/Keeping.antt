-- What is kept of jobs that are out stays what they give, as other processes go on.
use Rattle.std.proofs.Common.{◌≡◌, ◌≢◌, ℕ, zero, suc, ◌==◌, ◌⊎◌, inl, inr, List, [], ◌∷◌, ◌++◌, Bool, true, false, ◌||◌, if◌then◌else◌, Option, Some, None, Result, Ok, Err, ◌<◌, length, replicate, get_or, refl, sym, ap, subst, ◌∙◌}
use Rattle.std.specs.Prelude.{IfErr, OnOk, slice_get, slice_set}
use Rattle.std.proofs.lemmas.Bool.{eqb-true}
use Rattle.std.proofs.lemmas.List.{length-replicate, length-set}
use Rattle.std.proofs.lemmas.Option.{slice_get-get_or}
use Rattle.ooo_time.specs.declared.stamp.Stamp.{Stamp}
use Rattle.ooo_interp.specs.declared.job.Done.{Done}
use Rattle.ooo_interp.specs.declared.job.Job.{Job}
use Rattle.ooo_schedules.specs.Model.{Act, Front, front_of, job, last, without}
use Rattle.ooo_dispatch.specs.declared.reads.Reads.{Reads}
use Rattle.ooo_dispatch.specs.declared.step.Step.{Step}
use Rattle.ooo_dispatch.specs.declared.step.Step.TheVariants.{Dispatch, Commit, Abandon}
use Rattle.ooo_dispatch.specs.Boards.{model}
use Rattle.ooo_dispatch.specs.Rules.{Rules, has}
use Rattle.ooo_dispatch.specs.Steps.{Replay, after_step, committed_as, dispatched_at, job_of, nothing_done, replayed}
use Rattle.ooo_board.specs.Boards.{HandsOut, IsDoneFor, Shown, rules, state, with_step}
use Rattle.ooo_board.specs.Jobs.{Gives}
use Rattle.ooo_board_checks.specs.Trials.{AreGiven, AreHeld, IsGiven}

abbrev Activation : Type 0
Activation = Act Stamp Reads

-- nothing is kept of a process
abbrev nothing : Option Done
nothing = None

-- ---- the jobs of other processes

last_of : (q : ℕ) (xs : List Activation) (x : Activation) → last q xs ≡ Some x → x.process ≡ q
last_of q [] x e = absurd cc
last_of q (y ∷ xs) x e = at (y.process == q) refl e (last_of q xs x)
  where
    at : (b : Bool) → (y.process == q) ≡ b → (if b then Some y else last q xs) ≡ Some x → (last q xs ≡ Some x → x.process ≡ q) → x.process ≡ q
    at true h k rest = let same : y ≡ x = cc in subst (λ z. z.process ≡ q) same (eqb-true y.process q h)
    at false h k rest = rest k

last_other : (p q : ℕ) (xs : List Activation) → q ≢ p → last q (without p xs) ≡ last q xs
last_other p q [] differs = refl
last_other p q (x ∷ xs) differs = at (x.process == p) refl (x.process == q) refl (last_other p q xs differs)
  where
    at : (a : Bool) → (x.process == p) ≡ a → (b : Bool) → (x.process == q) ≡ b → last q (without p xs) ≡ last q xs →
        last q (if a then without p xs else x ∷ without p xs) ≡ (if b then Some x else last q xs)
    at true e true f rest = absurd (differs (sym (eqb-true x.process q f) ∙ eqb-true x.process p e))
    at true e false f rest = rest
    at false e true f rest = rw f refl
    at false e false f rest = rw f rest

job_out : (r : Rules) (s : Replay r) (p : ℕ) (j : Activation) → job_of r s p ≡ Some j → last p s.board.out ≡ Some j
job_out r s p j out = at (has s.abandoned p) out
  where
    at : (b : Bool) → (if b then None else last p s.board.out) ≡ Some j → last p s.board.out ≡ Some j
    at true e = absurd cc
    at false e = e

-- the job of process q is the same after a step
abbrev Stays : (r : Rules) (s : Replay r) → Step → (q : ℕ) → Type 0
Stays r s step q = job_of r (after_step r s step) q ≡ job_of r s q

dispatch_stays : (r : Rules) (s : Replay r) (p q : ℕ) → q ≢ p → Stays r s (Dispatch p) q
dispatch_stays r s p q differs = at (front_of (model r) s.board p)
  where
    skip : (x : Activation) → x.process ≡ p → (b : Bool) → (x.process == q) ≡ b → (if b then Some x else last q s.board.out) ≡ last q s.board.out
    skip x own true e = absurd (differs (sym (eqb-true x.process q e) ∙ own))
    skip x own false e = refl

    at : (o : Option (Front Stamp)) → (if has s.abandoned q then None else last q (dispatched_at r s.board p o).out) ≡ job_of r s q
    at None = refl
    at (Some f) =
        let x : Activation = job (model r) s.board p f in
        ap (λ o. if has s.abandoned q then None else o) (skip x refl (x.process == q) refl)

commit_stays : (r : Rules) (s : Replay r) (p q : ℕ) → q ≢ p → Stays r s (Commit p) q
commit_stays r s p q differs = at (job_of r s p) refl
  where
    at : (o : Option Activation) → job_of r s p ≡ o → (if has s.abandoned q then None else last q (committed_as r s.board o).out) ≡ job_of r s q
    at None e = refl
    at (Some j) e =
        let own : j.process ≡ p = last_of p s.board.out j (job_out r s p j e) in
        ap (λ o. if has s.abandoned q then None else o) (last_other j.process q s.board.out (λ k. differs (k ∙ own)))

abandon_stays : (r : Rules) (s : Replay r) (p q : ℕ) → q ≢ p → Stays r s (Abandon p) q
abandon_stays r s p q differs = at (p == q) refl
  where
    at : (b : Bool) → (p == q) ≡ b → (if b || has s.abandoned q then None else last q s.board.out) ≡ job_of r s q
    at true e = absurd (differs (sym (eqb-true p q e)))
    at false e = refl

-- ---- lists of which an item is set

set_apart : {A : Type 0} (xs : List A) (i : ℕ) (a : A) (k : ℕ) (x : A) → slice_get (slice_set xs i a) k ≡ Some x →
    ((i ≢ k) × (slice_get xs k ≡ Some x)) ⊎ ((i ≡ k) × (a ≡ x))
set_apart [] i a k x h = absurd cc
set_apart (y ∷ ys) zero a zero x h = inr (refl, cc)
set_apart (y ∷ ys) zero a (suc k) x h = inl ((λ e. absurd cc), h)
set_apart (y ∷ ys) (suc i) a zero x h = inl ((λ e. absurd cc), h)
set_apart (y ∷ ys) (suc i) a (suc k) x h = elim (set_apart ys i a k x h) [
  | inl other ↦ inl ((λ e. other.0 (let same : i ≡ k = cc in same)), other.1)
  | inr own ↦ inr (ap suc own.0, own.1)
]

-- ---- what is kept

replayed_on : (r : Rules) (s : Replay r) (steps : List Step) (step : Step) → replayed r s (steps ++ step ∷ []) ≡ after_step r (replayed r s steps) step
replayed_on r s [] step = refl
replayed_on r s (x ∷ xs) step = replayed_on r (after_step r s x) xs step

given_on : (b : Shown) (step : Step) (q : ℕ) (done : Done) → Stays (rules b) (state b) step q → IsGiven b q done → IsGiven (with_step b step) q done
given_on b step q done stays given = record {
  process = given.process;
  gives = record {
    job = given.gives.job;
    out = ap (job_of (rules b) (state (with_step b step))) given.process
        ∙ ap (λ s. job_of (rules b) s q) (replayed_on (rules b) (nothing_done (rules b)) b.schedule step) ∙ stays
        ∙ ap (job_of (rules b) (state b)) (sym given.process) ∙ given.gives.out;
    is_done = given.gives.is_done;
  };
}

others_on : (b : Shown) (step : Step) (p : ℕ) → ((q : ℕ) → q ≢ p → Stays (rules b) (state b) step q) → (given : List (Option Done)) → AreGiven b given →
    AreGiven (with_step b step) (slice_set given p None)
others_on b step p stays given are q done e = elim (set_apart given p None q (Some done) e) [
  | inl other ↦ given_on b step q done (stays q (λ k. other.0 (sym k))) (are q done other.1)
  | inr own ↦ absurd (none own.1)
]
  where
    none : nothing ≡ Some done → ⊥
    none k = absurd cc

one_less : (b : Shown) (given : List (Option Done)) → AreGiven b given → (p : ℕ) → AreGiven b (slice_set given p None)
one_less b given are p q x e = elim (set_apart given p None q (Some x) e) [
  | inl other ↦ are q x other.1
  | inr own ↦ absurd (none own.1)
]
  where
    none : nothing ≡ Some x → ⊥
    none k = absurd cc

one_more : (b : Shown) (p : ℕ) (done : Done) (given : List (Option Done)) → AreGiven b given → IsGiven b p done → AreGiven b (slice_set given p (Some done))
one_more b p done given are new q x e = elim (set_apart given p (Some done) q (Some x) e) [
  | inl other ↦ are q x other.1
  | inr own ↦ let same : done ≡ x = cc in subst (λ z. IsGiven b q z) same (subst (λ n. IsGiven b n done) own.0 new)
]

none_at : (n p : ℕ) (done : Done) → slice_get (replicate n nothing) p ≡ Some (Some done) → ⊥
none_at zero p done e = absurd cc
none_at (suc n) zero done e = absurd cc
none_at (suc n) (suc p) done e = none_at n p done e

-- ---- with a place for each process

-- at first nothing is kept
pub nothing_held : (b : Shown) (n : ℕ) (given : List (Option Done)) → given ≡ replicate n None → n ≡ length b.design.processes → AreHeld b given
nothing_held b n given is count = record {
  counted = ap (λ (xs : List (Option Done)). length xs) is ∙ length-replicate n None ∙ count;
  are = λ p done e. absurd (none_at n p done (subst (λ (xs : List (Option Done)). slice_get xs p ≡ Some (Some done)) is e));
}

-- nothing is kept of a process any more
pub held_less : (b : Shown) (p : ℕ) (given : List (Option Done)) → AreHeld b given → AreHeld b (slice_set given p None)
held_less b p given h = record { counted = length-set given p None ∙ h.counted; are = one_less b given h.are p }

-- what the job of a process gives is kept
pub held_more : (b : Shown) (p : ℕ) (done : Done) (given : List (Option Done)) → AreHeld b given → IsGiven b p done → AreHeld b (slice_set given p (Some done))
held_more b p done given h new = record { counted = length-set given p (Some done) ∙ h.counted; are = one_more b p done given h.are new }

-- once a process was dispatched
pub held_dispatched : (b new : Shown) (p : ℕ) (given : List (Option Done)) → new ≡ with_step b (Dispatch p) → AreHeld b given → AreHeld new (slice_set given p None)
held_dispatched b new p given is h = subst (λ (x : Shown). AreHeld x (slice_set given p None)) (sym is) (record {
  counted = length-set given p None ∙ h.counted;
  are = others_on b (Dispatch p) p (dispatch_stays (rules b) (state b) p) given h.are;
})

-- once the job of a process was committed
pub held_committed : (b new : Shown) (p : ℕ) (given : List (Option Done)) → new ≡ with_step b (Commit p) → AreHeld b given → AreHeld new (slice_set given p None)
held_committed b new p given is h = subst (λ (x : Shown). AreHeld x (slice_set given p None)) (sym is) (record {
  counted = length-set given p None ∙ h.counted;
  are = others_on b (Commit p) p (commit_stays (rules b) (state b) p) given h.are;
})

-- once it was abandoned
pub held_abandoned : (b new : Shown) (p : ℕ) (given : List (Option Done)) → new ≡ with_step b (Abandon p) → AreHeld b given → AreHeld new (slice_set given p None)
held_abandoned b new p given is h = subst (λ (x : Shown). AreHeld x (slice_set given p None)) (sym is) (record {
  counted = length-set given p None ∙ h.counted;
  are = others_on b (Abandon p) p (abandon_stays (rules b) (state b) p) given h.are;
})

-- what is done for the job that a process was given is what its job gives
pub done_is_given : (b new : Shown) (p : ℕ) (job : Job) (done : Done) → HandsOut b p job → IsDoneFor job done → ((x : Done) → IsDoneFor job x → Gives (rules new) (state new) x) → IsGiven new p done
done_is_given b new p job done out is gives = record { process = is.of.process ∙ out.is_job.process; gives = gives done is }

-- so it is where a call committed it, or failed
pub held_after : {X Y : Type 0} (Q : Y → Type 0) (r : Result X Y) (b new : Shown) (p q : ℕ) (given : List (Option Done)) → OnOk r (new ≡ with_step b (Commit q)) → IfErr r (λ e. (new ≡ b) × Q e) → q ≡ p → AreHeld b given → AreHeld new (slice_set given p None)
held_after Q (Ok x) b new p q given is failed same h = held_committed b new p given (is ∙ ap (λ n. with_step b (Commit n)) same) h
held_after Q (Err e) b new p q given is failed same h = subst (λ (x : Shown). AreHeld x (slice_set given p None)) (sym failed.0) (held_less b p given h)

-- what is kept at the place of a process is of that process
pub of_place : (b : Shown) (given : List (Option Done)) (p : ℕ) (kept : Option Done) (done : Done) → AreHeld b given → p < length b.design.processes → kept ≡ get_or given p kept → Some done ≡ kept → done.process ≡ p
of_place b given p kept done h lt at is =
    let within : p < length given = subst (λ n. p < n) (sym h.counted) lt in
    let here : IsGiven b p done = h.are p done (slice_get-get_or given p kept within ∙ ap Some (sym at ∙ sym is)) in here.process
