-- A job of a board fits, is part of what its activation reads, and what is done for it is that activation.
use Rattle.std.proofs.Common.{◌≡◌, ℕ, zero, suc, ◌==◌, ◌⊎◌, inl, inr, List, [], ◌∷◌, length, Bool, true, false, not, ◌||◌, if◌then◌else◌, Option, Some, None, refl, sym, ap, subst, ◌∙◌, arith}
use Rattle.std.specs.Prelude.{filter, slice_get, slice_index_or, Contains, IsSome, IsSomeAnd, IfSome}
use Rattle.std.proofs.lemmas.Bool.{eqb-true, eq-eqb}
use Rattle.std.proofs.lemmas.List.Elements.{Contains-append_right}
use Rattle.ooo_lemmas.proofs.Contained.{contains_place}
use Rattle.ooo_time.specs.declared.stamp.Stamp.{Stamp}
use Rattle.ooo_value.specs.declared.values.Value.{Value}
use Rattle.ooo_code.specs.declared.design.Design.{Design}
use Rattle.ooo_code.specs.declared.design.Proc.{Proc}
use Rattle.ooo_code.specs.Outcomes.{View}
use Rattle.ooo_code.specs.Segments.{Accesses}
use Rattle.ooo_interp.specs.declared.job.Done.{Done}
use Rattle.ooo_interp.specs.declared.job.Job.{Job}
use Rattle.ooo_interp.specs.Carrying.{listed, numbers_of}
use Rattle.ooo_interp.specs.Jobs.{AreAmong, CarriesTouched, IsOf, IsPartOf, SeeAlike, Touched, done_on, job_on}
use Rattle.ooo_access.specs.Access.{IsAccessOf}
use Rattle.ooo_schedules.specs.Model.{Act}
use Rattle.ooo_dispatch.specs.declared.reads.Reads.{Reads}
use Rattle.ooo_dispatch.specs.Rules.{Rules, access_of, entry_of, has, outcome_of, process_of, view_at}
use Rattle.ooo_board.specs.Carrying.{carried_from}
use Rattle.ooo_board.specs.Jobs.{IsDoneOf, IsJobOf}
use Rattle.ooo_board.specs.Links.{only_read}

or_left : (a b : Bool) → a ≡ true → (a || b) ≡ true
or_left true b e = refl
or_left false b e = absurd cc

or_right : (a b : Bool) → b ≡ true → (a || b) ≡ true
or_right true b e = refl
or_right false b e = e

-- ---- what is carried

there : {A : Type 0} (y x : A) (xs : List A) → Contains xs x → Contains (y ∷ xs) x
there y x xs c = Contains-append_right (y ∷ []) xs x c

any_of : (xs : List ℕ) (n k : ℕ) → slice_get xs k ≡ Some n → has xs n ≡ true
any_of [] n k e = absurd cc
any_of (x ∷ xs) n zero e = let s : x ≡ n = cc in or_left (x == n) (has xs n) (eq-eqb x n s)
any_of (x ∷ xs) n (suc k) e = or_right (x == n) (has xs n) (any_of xs n k e)

-- what stands among numbers is found there
pub has_of : (xs : List ℕ) (n : ℕ) → Contains xs n → has xs n ≡ true
has_of xs n c = let at = contains_place xs n c in any_of xs n at.0 at.1

-- the number of what is carried is one of the numbers
pub numbers_carried : (vs : List (List Value)) (ns : List ℕ) → numbers_of (carried_from vs ns) ≡ ns
numbers_carried vs [] = refl
numbers_carried vs (n ∷ ns) = ap (λ rest. n ∷ rest) (numbers_carried vs ns)

-- a number among them has its variable
pub listed_carried : (vs : List (List Value)) (ns : List ℕ) (x : ℕ) → has ns x ≡ true → IsSome (listed (carried_from vs ns) x)
listed_carried vs [] x h = absurd cc
listed_carried vs (n ∷ ns) x h = at (x == n) refl h (listed_carried vs ns x)
  where
    at : (b : Bool) → (x == n) ≡ b → has (n ∷ ns) x ≡ true → (has ns x ≡ true → IsSome (listed (carried_from vs ns) x)) → IsSome (if b then Some (slice_index_or vs n []) else listed (carried_from vs ns) x)
    at true e k rest = refl
    at false e k rest = rest (later (n == x) refl k)
      where
        later : (b : Bool) → (n == x) ≡ b → (b || has ns x) ≡ true → has ns x ≡ true
        later true f m = let same : n ≡ x = eqb-true n x f in let c : true ≡ false = sym (eq-eqb x n (sym same)) ∙ e in absurd cc
        later false f m = m

-- each is of the view whose variables these are
pub all_among : (vs : List (List Value)) (ns : List ℕ) → AreAmong vs (carried_from vs ns)
all_among vs [] k d lt = absurd (omega arith)
all_among vs (n ∷ ns) zero d lt = refl
all_among vs (n ∷ ns) (suc k) d lt = all_among vs ns k d (omega arith)

-- ---- a job of an activation

module _ (r : Rules) (j : Act Stamp Reads) (job : Job) (is : IsJobOf r j job) (wide : length j.reads.variables ≡ length r.design.variables) where
  abbrev view : View
  view = view_at j.stamp j.reads

  same_variables : length j.reads.variables ≡ length job.design.value.variables
  same_variables = wide ∙ ap (λ (d : Design). length d.variables) (sym is.design)

  alike : (o : Option Proc) → IfSome o (λ process. SeeAlike (Touched job process) job.seen.items j.reads.seen)
  alike None = tt
  alike (Some process) = rw (is.seen) (record { signals = λ c t. refl; readable = λ c t. refl; writable = λ c t. refl })

  -- it is part of what the activation reads
  pub part : IsPartOf job view
  part = record {
    stamp = is.stamp;
    count = same_variables;
    owned = subst (AreAmong j.reads.variables) (sym is.owned) (all_among j.reads.variables (access_of r j.segment).written);
    copied = subst (AreAmong j.reads.variables) (sym is.copied) (all_among j.reads.variables (only_read (access_of r j.segment)));
    channels = alike (slice_get job.design.value.processes job.process);
  }

  -- what it asks for is what the activation does
  pub asks : process_of r j.segment ≡ j.process → outcome_of r j ≡ job_on job view
  asks own =
      sym (rw (is.design, is.process, is.statements, is.frame, own) refl)

  -- so what is done for it is the activation
  pub given : (done : Done) → process_of r j.segment ≡ j.process → IsOf job done → ((v : View) → IsPartOf job v → job_on job v ≡ done_on done v) → IsDoneOf r j done
  given done own of does = record {
    process = of.process ∙ is.process;
    activation = of.activation ∙ is.activation;
    owned = of.variables ∙ ap numbers_of is.owned ∙ numbers_carried j.reads.variables (access_of r j.segment).written;
    does = asks own ∙ does view part;
  }

  -- it carries what its segment touches
  module _ (process : Proc) (of : IsAccessOf r.design process (entry_of r j.segment) (access_of r j.segment)) where
    read_cases : (xs : List ℕ) (x : ℕ) → has xs x ≡ true → (test : ℕ → Bool) → test x ≡ true → has (filter test xs) x ≡ true
    read_cases [] x h test t = absurd cc
    read_cases (y ∷ xs) x h test t = at (y == x) refl h (test y) refl (λ k. read_cases xs x k test t)
      where
        at : (b : Bool) → (y == x) ≡ b → (b || has xs x) ≡ true → (c : Bool) → test y ≡ c → (has xs x ≡ true → has (filter test xs) x ≡ true) → has (if c then y ∷ filter test xs else filter test xs) x ≡ true
        at true e k true f rest = rw (e) refl
        at true e k false f rest = let same : y ≡ x = eqb-true y x e in let c : true ≡ false = sym t ∙ ap test (sym same) ∙ f in absurd cc
        at false e k true f rest = rw (e) (rest k)
        at false e k false f rest = rest k

    carries_own : CarriesTouched (Accesses r.design process (entry_of r j.segment)) (carried_from j.reads.variables (access_of r j.segment).written) (carried_from j.reads.variables (only_read (access_of r j.segment)))
    carries_own = record {
      written = λ x t. listed_carried j.reads.variables (access_of r j.segment).written x (has_of (access_of r j.segment).written x ((of.written x).1 t));
      read = λ x t. at x (has (access_of r j.segment).written x) refl (has_of (access_of r j.segment).read x ((of.read x).1 t));
    }
      where
        at : (x : ℕ) (b : Bool) → has (access_of r j.segment).written x ≡ b → has (access_of r j.segment).read x ≡ true →
            IsSome (listed (carried_from j.reads.variables (access_of r j.segment).written) x) ⊎ IsSome (listed (carried_from j.reads.variables (only_read (access_of r j.segment))) x)
        at x true e h = inl (listed_carried j.reads.variables (access_of r j.segment).written x e)
        at x false e h = inr (listed_carried j.reads.variables (only_read (access_of r j.segment)) x (read_cases (access_of r j.segment).read x h (λ y. not (has (access_of r j.segment).written y)) (rw (e) refl)))

    pub carries : slice_get r.design.processes j.process ≡ Some process → IsSomeAnd (slice_get job.design.value.processes job.process) (λ p. CarriesTouched (Touched job p) job.owned.items job.copied.items)
    carries at_p = rw (is.design, is.process, at_p, is.frame, is.owned, is.copied) carries_own
