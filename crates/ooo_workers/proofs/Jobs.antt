-- Whose job is out after a step.
use Rattle.std.proofs.Common.{◌≡◌, ◌≢◌, ℕ, ◌==◌, if◌then◌else◌, List, [], ◌∷◌, Bool, true, false, Option, Some, None, refl, sym, ap, ◌∙◌}
use Rattle.std.specs.Prelude.{IsSome}
use Rattle.std.proofs.lemmas.Bool.{eqb-true, eq-eqb, ne_eqb}
use Rattle.ooo_time.specs.declared.stamp.Stamp.{Stamp}
use Rattle.ooo_schedules.specs.Model.{Act, job, last, without}
use Rattle.ooo_dispatch.specs.declared.reads.Reads.{Reads}
use Rattle.ooo_dispatch.specs.declared.step.Step.TheVariants.{Abandon, Commit, Dispatch}
use Rattle.ooo_dispatch.specs.Boards.{model}
use Rattle.ooo_dispatch.specs.Least.{Advance}
use Rattle.ooo_dispatch.specs.Rules.{Rules, has}
use Rattle.ooo_dispatch.specs.Steps.{IsLawfulStep, Replay, after_step, committed_as, dispatched_at, job_of}

abbrev Acts : Type 0
Acts = List (Act Stamp Reads)

pub the_some : {A : Type 0} (o : Option A) → IsSome o → (x : A) × (o ≡ Some x)
the_some None e = absurd cc
the_some (Some x) e = (x, refl)

-- ---- the last activation of a process in a list

last_own : (q : ℕ) (y : Act Stamp Reads) (ys : Acts) → y.process ≡ q → last q (y ∷ ys) ≡ Some y
last_own q y ys e = ap (λ t. if t then Some y else last q ys) (eq-eqb y.process q e)

last_other : (q : ℕ) (y : Act Stamp Reads) (ys : Acts) → y.process ≢ q → last q (y ∷ ys) ≡ last q ys
last_other q y ys e = ap (λ t. if t then Some y else last q ys) (ne_eqb y.process q e)

last_process : (q : ℕ) (xs : Acts) (j : Act Stamp Reads) → last q xs ≡ Some j → j.process ≡ q
last_process q [] j e = absurd cc
last_process q (x ∷ xs) j e = at (x.process == q) refl (last_process q xs j) e
  where
    at : (b : Bool) → (x.process == q) ≡ b → (last q xs ≡ Some j → j.process ≡ q) → (if b then Some x else last q xs) ≡ Some j → j.process ≡ q
    at true f rest k = let same : x ≡ j = cc in ap (λ (y : Act Stamp Reads). y.process) (sym same) ∙ eqb-true x.process q f
    at false f rest k = rest k

last_kept : (q p : ℕ) (xs : Acts) → q ≢ p → last q (without p xs) ≡ last q xs
last_kept q p [] differs = refl
last_kept q p (x ∷ xs) differs = at (x.process == p) refl (x.process == q) refl (last_kept q p xs differs)
  where
    at : (a : Bool) → (x.process == p) ≡ a → (d : Bool) → (x.process == q) ≡ d → last q (without p xs) ≡ last q xs → last q (if a then without p xs else x ∷ without p xs) ≡ (if d then Some x else last q xs)
    at true e true f rest = absurd (differs (sym (eqb-true x.process q f) ∙ eqb-true x.process p e))
    at true e false f rest = rest
    at false e true f rest = ap (λ t. if t then Some x else last q (without p xs)) f
    at false e false f rest = ap (λ t. if t then Some x else last q (without p xs)) f ∙ rest

gone : (p : ℕ) (xs : Acts) → last p (without p xs) ≡ None
gone p [] = refl
gone p (x ∷ xs) = at (x.process == p) refl (gone p xs)
  where
    at : (a : Bool) → (x.process == p) ≡ a → last p (without p xs) ≡ None → last p (if a then without p xs else x ∷ without p xs) ≡ None
    at true e rest = rest
    at false e rest = ap (λ t. if t then Some x else last p (without p xs)) e ∙ rest

-- ---- steps

module _ (r : Rules) (least : Advance) (s : Replay r) (p : ℕ) where
  job_is_out : (j : Act Stamp Reads) → job_of r s p ≡ Some j → (has s.abandoned p ≡ false) × (last p s.board.out ≡ Some j)
  job_is_out j e = at (has s.abandoned p) refl e
    where
      at : (b : Bool) → has s.abandoned p ≡ b → (if b then None else last p s.board.out) ≡ Some j → (has s.abandoned p ≡ false) × (last p s.board.out ≡ Some j)
      at true f k = absurd cc
      at false f k = (f, k)

  -- ---- a process is dispatched

  module _ (may : IsLawfulStep r least s (Dispatch p)) where
    abbrev sent : Act Stamp Reads
    sent = job (model r) s.board p may.1

    abbrev after_dispatch : Replay r
    after_dispatch = after_step r s (Dispatch p)

    out_is : after_dispatch.board.out ≡ sent ∷ s.board.out
    out_is = ap (λ f. (dispatched_at r s.board p f).out) may.2.front

    -- none of its jobs was out, and one is
    pub none_before : job_of r s p ≡ None
    none_before = ap (λ ps. if has ps p then None else last p s.board.out) may.0 ∙ may.2.idle

    pub one_sent : job_of r after_dispatch p ≡ Some sent
    one_sent =
        ap (λ ps. if has ps p then None else last p after_dispatch.board.out) may.0
        ∙ ap (last p) out_is
        ∙ last_own p sent s.board.out refl

    pub others_sent : (q : ℕ) → q ≢ p → job_of r after_dispatch q ≡ job_of r s q
    others_sent q differs =
        ap (λ o. if has s.abandoned q then None else o) (ap (last q) out_is ∙ last_other q sent s.board.out (λ e. differs (sym e)))

  -- ---- a job is committed

  module _ (some : IsSome (job_of r s p)) where
    abbrev after_commit : Replay r
    after_commit = after_step r s (Commit p)

    own_job : (j : Act Stamp Reads) × (job_of r s p ≡ Some j)
    own_job = the_some (job_of r s p) some

    kept_out : after_commit.board.out ≡ without p s.board.out
    kept_out =
        ap (λ o. (committed_as r s.board o).out) own_job.1
        ∙ ap (λ n. without n s.board.out) (last_process p s.board.out own_job.0 (job_is_out own_job.0 own_job.1).1)

    pub none_committed : job_of r after_commit p ≡ None
    none_committed =
        ap (λ t. if t then None else last p after_commit.board.out) (job_is_out own_job.0 own_job.1).0
        ∙ ap (last p) kept_out
        ∙ gone p s.board.out

    pub others_committed : (q : ℕ) → q ≢ p → job_of r after_commit q ≡ job_of r s q
    others_committed q differs = ap (λ o. if has s.abandoned q then None else o) (ap (last q) kept_out ∙ last_kept q p s.board.out differs)

  -- ---- a job is abandoned

  abbrev after_abandon : Replay r
  after_abandon = after_step r s (Abandon p)

  pub none_abandoned : job_of r after_abandon p ≡ None
  none_abandoned = let own : has after_abandon.abandoned p ≡ true = rw (eq-eqb p p refl) refl in ap (λ t. if t then None else last p s.board.out) own

  pub others_abandoned : (q : ℕ) → q ≢ p → job_of r after_abandon q ≡ job_of r s q
  others_abandoned q differs =
      let same : has after_abandon.abandoned q ≡ has s.abandoned q = rw (ne_eqb p q (λ e. differs (sym e))) refl in
      ap (λ t. if t then None else last q s.board.out) same
