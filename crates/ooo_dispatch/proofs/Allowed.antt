-- The rule by the least delays, and lists of steps that are lawful by it.
use Rattle.std.proofs.Common.{◌≡◌, ◌≢◌, ℕ, ◌<◌, ◌≤◌, ◌⊎◌, inl, inr, ⊎_elim, Bool, true, false, if◌then◌else◌, List, [], ◌∷◌, ◌++◌, length, Option, Some, None, refl, sym, ◌∙◌, subst, arith, ◌==◌}
use Rattle.std.specs.Prelude.{All, slice_get, slice_index_or}
use Rattle.std.proofs.lemmas.Option.{slice_get_within}
use Rattle.ooo_time.specs.declared.stamp.Stamp.{Stamp}
use Rattle.ooo_time.specs.declared.delay.Delay.{Delay}
use Rattle.ooo_time.specs.Stamps.{IsBefore}
use Rattle.ooo_time.specs.Delays.{advanced}
use Rattle.ooo_time.specs.Scales.{greatest_time}
use Rattle.ooo_code.specs.declared.design.Design.{Design}
use Rattle.ooo_code.specs.declared.limits.Limits.{Limits}
use Rattle.ooo_advance.specs.Rows.{entry_at}
use Rattle.ooo_conflicts.specs.declared.kind.ClashKind.{ClashKind}
use Rattle.ooo_conflicts.specs.declared.kind.ClashKind.TheVariants.{Apart, Earlier, Same}
use Rattle.ooo_conflicts.specs.Kinds.{is_clash, kind_at}
use Rattle.ooo_schedules.specs.Delays.{NotAfter}
use Rattle.ooo_schedules.specs.Model.{Act, Front, In, commit, dispatch, front_of, last, running_or}
use Rattle.ooo_schedules.specs.Model as model_of
use Rattle.ooo_tables.specs.declared.tables.Tables.{Tables}
use Rattle.ooo_tables.specs.Tables.{AreTables}
use Rattle.ooo_dispatch.specs.declared.reads.Reads.{Reads}
use Rattle.ooo_dispatch.specs.declared.step.Step.{Step}
use Rattle.ooo_dispatch.specs.declared.step.Step.TheVariants.{Dispatch, Commit, Abandon}
use Rattle.ooo_dispatch.specs.Boards.{AreRules, Board, IsAllowed, IsLawful, model}
use Rattle.ooo_dispatch.specs.Least.{ClashesAt, MayRun, rules_of}
use Rattle.ooo_dispatch.specs.Rules.{Rules, clash, has, process_of}
use Rattle.ooo_dispatch.specs.Steps.{AreLawful, IsLawfulStep, Replay, after_step, committed_as, dispatched_at, job_of, replayed}
use Rattle.ooo_dispatch.proofs.Calls.{index_cases}
use Rattle.ooo_dispatch.proofs.Stamps.{irreflexive}
use Rattle.ooo_dispatch.proofs.Walks.{before_by, least_leads, not_later}

-- ---- clashes

-- a clash of any kind is a strict one
pub weaker : (k : ClashKind) → is_clash k false ≡ true → is_clash k true ≡ true
weaker Apart e = absurd cc
weaker Earlier e = absurd cc
weaker Same e = refl

-- a segment that clashes is there
clash_there : (rows : List (List ClashKind)) (b g : ℕ) (strict : Bool) → is_clash (kind_at rows b g) strict ≡ true → b < length rows
clash_there rows b g strict e = at (index_cases rows b [])
  where
    none : is_clash (slice_index_or [] g Apart) strict ≡ true → b < length rows
    none h = ⊎_elim (λ x. absurd (let c : None ≡ Some x.0 = x.1 in cc)) (λ n. absurd (let c : false ≡ true = subst (λ k. is_clash k strict ≡ true) n h in cc)) (index_cases [] g Apart)

    at : ((row : List ClashKind) × (slice_get rows b ≡ Some row) × (slice_index_or rows b [] ≡ row)) ⊎ (slice_index_or rows b [] ≡ []) → b < length rows
    at (inl x) = slice_get_within rows b x.0 x.1
    at (inr n) = none (subst (λ row. is_clash (slice_index_or row g Apart) strict ≡ true) n e)

-- ---- jobs

pub last_in : (q : ℕ) (xs : List (Act Stamp Reads)) (x : Act Stamp Reads) → last q xs ≡ Some x → In x xs
last_in q [] x e = absurd cc
last_in q (y ∷ xs) x e = at (y.process == q) e (last_in q xs x)
  where
    at : (b : Bool) → (if b then Some y else last q xs) ≡ Some x → (last q xs ≡ Some x → In x xs) → In x (y ∷ xs)
    at true k rest = let same : y ≡ x = cc in inl (sym same)
    at false k rest = inr (rest k)

pub job_out : (r : Rules) (s : Replay r) (p : ℕ) (j : Act Stamp Reads) → job_of r s p ≡ Some j → In j s.board.out
job_out r s p j e = at (has s.abandoned p) e
  where
    at : (b : Bool) → (if b then None else last p s.board.out) ≡ Some j → In j s.board.out
    at true k = absurd cc
    at false k = last_in p s.board.out j k

pub goes_on : (design : Design) (limits : Limits) (t : Tables) (s : Replay (rules_of design limits t)) (steps : List Step) (step : Step) →
    AreLawful (rules_of design limits t) t.advance s steps → IsLawfulStep (rules_of design limits t) t.advance (replayed (rules_of design limits t) s steps) step →
    AreLawful (rules_of design limits t) t.advance s (steps ++ step ∷ [])
goes_on design limits t s [] step h next = (next, tt)
goes_on design limits t s (x ∷ steps) step h next = (h.0, goes_on design limits t (after_step (rules_of design limits t) s x) steps step h.1 next)

module _ (design : Design) (limits : Limits) (t : Tables) (are : AreTables design t) where
  abbrev r : Rules
  r = rules_of design limits t

  -- the tables that are computed are those of which the laws speak
  pub are_rules : AreRules r
  are_rules = record {
    segments = are.segments;
    edges = are.edges;
    access_count = are.access.count;
    access = are.access.each;
    clashes = are.clash;
    wide = subst (λ n. All (λ row. length row ≡ n) t.clash) (sym are.clash.count) are.clash_rows;
  }

  module _ (fits : limits.stop.0 ≤ greatest_time) where
    -- where a stamp that isn't after one that is reached clashes
    clashes_at : (s : ℕ) (v u : Stamp) (p : ℕ) (f : Front Stamp) → NotAfter v u → IsBefore u f.stamp ⊎ (u ≡ f.stamp) × (process_of r s < p) →
        (clash r s f.segment false ≡ true) ⊎ IsBefore u f.stamp × (clash r s f.segment true ≡ true) → ClashesAt r s v p f
    clashes_at s v u p f n earlier conflict = ⊎_elim before same earlier
      where
        strictly : clash r s f.segment true ≡ true
        strictly = ⊎_elim (λ c. weaker (kind_at r.clashes s f.segment) c) (λ c. c.1) conflict

        before : IsBefore u f.stamp → ClashesAt r s v p f
        before h = inl (before_by v u f.stamp n h, strictly)

        same : (u ≡ f.stamp) × (process_of r s < p) → ClashesAt r s v p f
        same h =
            ⊎_elim (λ k. inl (subst (IsBefore v) h.0 k, strictly))
            (λ k. ⊎_elim (λ c. inr (k ∙ h.0, h.1, c)) (λ c. absurd (irreflexive u (subst (IsBefore u) (sym h.0) c.0))) conflict) n

    pub allowed : (b : Board r) (p : ℕ) (f : Front Stamp) → MayRun r t.advance b p f → IsAllowed r b p f
    allowed b p f may = record {
      idle = may.idle;
      front = subst (λ o. running_or o ((model r).front b.log p) ≡ Some f) may.idle may.front;
      within = may.below_cut.in_time;
      below = λ e. let l = may.below_limit in absurd (omega (arith, e, l));
      free = free;
    }
      where
        free :
            (q : ℕ) (g : Front Stamp) → q ≢ p → front_of (model r) b q ≡ Some g → (s : ℕ) (u : Stamp) → (model r).Reaches g.segment g.stamp s u → process_of r s ≢ p →
            model_of.Earlier (model r) u (process_of r s) f.stamp p → model_of.Conflict (model r) u s f.stamp f.segment → ⊥
        free q g n is s u reach other earlier conflict =
            may.free q g n is (record { segment = s; other = other; delay = leads.0; leads = leads.1; clashes = clashes_at s (advanced g.stamp leads.0) u p f leads.2 earlier conflict })
          where
            there : s < length t.access
            there =
                subst (λ n. s < n) are.clash.count
                (⊎_elim (λ c. clash_there t.clash s f.segment false c) (λ c. clash_there t.clash s f.segment true c.1) conflict)

            in_time : u.time.0 ≤ greatest_time
            in_time =
                let n : u.time.0 ≤ f.stamp.time.0 = not_later u f.stamp (⊎_elim (λ h. inl h) (λ h. inr h.0) earlier) in
                let w = may.below_cut.in_time in
                omega (arith, n, w, fits)

            leads : (k : Delay) × (entry_at t.advance g.segment s ≡ Some k) × NotAfter (advanced g.stamp k) u
            leads = least_leads design limits t are g.segment g.stamp s u reach there in_time

    -- ---- lists of steps

    stays : (s : Replay r) (step : Step) → IsLawful r s.board → IsLawfulStep r t.advance s step → IsLawful r (after_step r s step).board
    stays s (Dispatch p) lawful h =
        subst (λ o. IsLawful r (dispatched_at r s.board p o)) (sym h.2.front) (dispatch p h.1 lawful (allowed s.board p h.1 h.2))
    stays s (Commit p) lawful h = at (job_of r s p) refl
      where
        at : (o : Option (Act Stamp Reads)) → job_of r s p ≡ o → IsLawful r (committed_as r s.board o)
        at None e = lawful
        at (Some j) e = commit j lawful (job_out r s p j e)
    stays s (Abandon p) lawful h = lawful

    pub lawful_lists : (s : Replay r) (steps : List Step) → IsLawful r s.board → AreLawful r t.advance s steps → IsLawful r (replayed r s steps).board
    lawful_lists s [] lawful h = lawful
    lawful_lists s (step ∷ steps) lawful h = lawful_lists (after_step r s step) steps (stays s step lawful h.0) h.1
