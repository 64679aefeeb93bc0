-- The laws of lawful lists of steps, from the theorem on schedules.
use Rattle.std.proofs.Common.{◌≡◌, ◌≢◌, ℕ, suc, ◌⊎◌, inl, inr, ⊎_elim, Bool, true, false, if◌then◌else◌, ◌==◌, ◌||◌, List, [], ◌∷◌, Option, Some, None, refl, sym, ap, ◌∙◌, subst, arith}
use Rattle.std.specs.Prelude.{Contains}
use Rattle.std.proofs.lemmas.Bool.{eqb-true, eqb-false}
use Rattle.ooo_time.specs.declared.stamp.Stamp.{Stamp}
use Rattle.ooo_value.specs.declared.values.Value.{Value}
use Rattle.ooo_code.specs.declared.design.Design.{Design}
use Rattle.ooo_code.specs.declared.limits.Limits.{Limits}
use Rattle.ooo_access.specs.declared.access.Access.{Access}
use Rattle.ooo_conflicts.specs.Clashes.{ShareVariable}
use Rattle.ooo_schedules.specs.Cuts as CutsStay
use Rattle.ooo_schedules.specs.Cuts.{IsCut, by_end, by_limit}
use Rattle.ooo_schedules.specs.Delays.{NotAfter}
use Rattle.ooo_schedules.specs.Design as order
use Rattle.ooo_schedules.specs.Design.{sort}
use Rattle.ooo_schedules.specs.Model.{Act, Front, In, committed, count, dispatched, front_at, front_of, job, last, running_or}
use Rattle.ooo_schedules.specs.Program.{Sound}
use Rattle.ooo_schedules.specs.Tables.{EveryScheduleOf, program}
use Rattle.ooo_tables.specs.declared.tables.Tables.{Tables}
use Rattle.ooo_dispatch.specs.declared.reads.Reads.{Reads}
use Rattle.ooo_dispatch.specs.declared.step.Step.TheVariants.{Dispatch, Commit, Abandon}
use Rattle.ooo_dispatch.specs.Boards.{Board, IsAllowed, IsFront, IsLawful, model}
use Rattle.ooo_dispatch.specs.Least.{IsBelowCut, MayRun, rules_of}
use Rattle.ooo_dispatch.specs.Rules.{Rules, access_of, cells_after, clash, has, tables, uses}
use Rattle.ooo_dispatch.specs.Schedules.{CommitsPutBack, CommitsWalk, CutStays, IsReady, Leads, NoDeadEnd, NoneOvertakes, NothingAway, StayAllowed, StaysSo, cells_left, cells_on, owns}
use Rattle.ooo_dispatch.specs.Steps.{Replay, after_step, committed_as, dispatched_at, job_of}
use Rattle.ooo_dispatch.proofs.Allowed.{allowed, are_rules, job_out}
use Rattle.ooo_dispatch.proofs.Calls.{or_right, IsThere, clash_yes, has_yes, or_true, there_if}
use Rattle.ooo_dispatch.proofs.Commits.{P, in_sorted, is_out_of_order, job_stands}
use Rattle.ooo_dispatch.proofs.Leads.{leads, may_run}
use Rattle.ooo_dispatch.proofs.Stamps.{compare, irreflexive, then_not_after}

-- ---- the cut

module _ (r : Rules) where
  not_cut : (b : Board r) (u : Stamp) (p : ℕ) → IsBelowCut r b u p → IsCut (model r) b u p → ⊥
  not_cut b u p below (by_end y i c) = below.uncut y i c
  not_cut b u p below (by_limit q g is first limit n) = irreflexive u (then_not_after u g.stamp u (below.before_limit q g is first limit) n)

  -- what was cut off stays so, so what is below the cut was
  kept : (b b' : Board r) → ((u : Stamp) (p : ℕ) → IsCut (model r) b u p → IsCut (model r) b' u p) → (u : Stamp) (p : ℕ) → IsBelowCut r b' u p → IsBelowCut r b u p
  kept b b' on u p below = record {
    in_time = below.in_time;
    uncut = λ y i c. not_cut b' u p below (on u p (by_end y i c));
    before_limit = λ q g is first limit.
        let past : NotAfter g.stamp u → ⊥ = λ n. not_cut b' u p below (on u p (by_limit q g is first limit n)) in
        ⊎_elim (λ h. h) (λ h. ⊎_elim (λ e. absurd (past (inr (sym e)))) (λ k. absurd (past (inl k))) h) (compare u g.stamp);
  }

-- ---- of lists

-- a job of another process changes neither what is out of a process nor its count
last_past : (q : ℕ) (x : Act Stamp Reads) (xs : List (Act Stamp Reads)) → x.process ≢ q → last q (x ∷ xs) ≡ last q xs
last_past q x xs n = at (x.process == q) refl
  where
    at : (b : Bool) → (x.process == q) ≡ b → (if b then Some x else last q xs) ≡ last q xs
    at true e = absurd (n (eqb-true x.process q e))
    at false e = refl

count_past : (q : ℕ) (x : Act Stamp Reads) (xs : List (Act Stamp Reads)) → x.process ≢ q → count q (x ∷ xs) ≡ count q xs
count_past q x xs n = at (x.process == q) refl
  where
    at : (b : Bool) → (x.process == q) ≡ b → (if b then suc (count q xs) else count q xs) ≡ count q xs
    at true e = absurd (n (eqb-true x.process q e))
    at false e = refl

-- a process with a job out is no idle one
not_idle : (q : ℕ) (xs : List (Act Stamp Reads)) (x : Act Stamp Reads) → In x xs → x.process ≡ q → last q xs ≡ None → ⊥
not_idle q [] x i e h = i
not_idle q (y ∷ xs) x i e h = at (y.process == q) refl h (λ j l. not_idle q xs x j e l)
  where
    at : (b : Bool) → (y.process == q) ≡ b → (if b then Some y else last q xs) ≡ None → (In x xs → last q xs ≡ None → ⊥) → ⊥
    at true k l rest = absurd cc
    at false k l rest = ⊎_elim (λ s. eqb-false y.process q k (ap (λ z. z.process) (sym s) ∙ e)) (λ j. rest j l) i

-- an activation of a process, by what it is
abbrev made : (q n : ℕ) → Front Stamp → Reads → Act Stamp Reads
made q n g x = record { process = q; number = n; segment = g.segment; stamp = g.stamp; reads = x }

-- ---- a log in order of place, with one activation more

module _ (r : Rules) where
  -- the cells of a variable that no later activation writes, if the one more does
  inserted : (x : ℕ) (j : Act Stamp Reads) (ys : List (Act Stamp Reads)) →
      ((y : Act Stamp Reads) → In y ys → order.is_earlier (P r) y j ≡ false → owns r j.segment x → owns r y.segment x → ⊥) →
      cells_after r x (order.insert (P r) j ys) ≡ (if has (access_of r j.segment).written x then cells_left r j x else cells_after r x ys)
  inserted x j [] none = refl
  inserted x j (y ∷ ys) none = at (order.is_earlier (P r) y j) refl (inserted x j ys (λ z i. none z (inr i)))
    where
      behind : (b c : Bool) → has (access_of r j.segment).written x ≡ b → has (access_of r y.segment).written x ≡ c → order.is_earlier (P r) y j ≡ false → (rest : List Value) → rest ≡ (if b then cells_left r j x else cells_after r x ys) →
          (if c then cells_left r y x else rest) ≡ (if b then cells_left r j x else (if c then cells_left r y x else cells_after r x ys))
      behind true true e f h rest k = absurd (none y (inl refl) h e f)
      behind true false e f h rest k = k
      behind false true e f h rest k = refl
      behind false false e f h rest k = k

      at : (b : Bool) → order.is_earlier (P r) y j ≡ b → cells_after r x (order.insert (P r) j ys) ≡ (if has (access_of r j.segment).written x then cells_left r j x else cells_after r x ys) →
          cells_after r x (if b then j ∷ y ∷ ys else y ∷ order.insert (P r) j ys) ≡ (if has (access_of r j.segment).written x then cells_left r j x else cells_after r x (y ∷ ys))
      at true h rest = refl
      at false h rest = behind (has (access_of r j.segment).written x) (has (access_of r y.segment).written x) refl refl h (cells_after r x (order.insert (P r) j ys)) rest

module _ (d : Design) (limits : Limits) (t : Tables) (ready : IsReady d limits t) (sound : Sound (program (tables (rules_of d limits t)))) (every : EveryScheduleOf (tables (rules_of d limits t))) where
  abbrev r : Rules
  r = rules_of d limits t

  may : (b : Board r) (p : ℕ) (f : Front Stamp) → MayRun r t.advance b p f → IsAllowed r b p f
  may b p f m = allowed d limits t ready.tables ready.stop b p f m

  module _ (s : Replay r) (lawful : IsLawful r s.board) where
    committed_is : (p : ℕ) (j : Act Stamp Reads) → job_of r s p ≡ Some j → (after_step r s (Commit p)).board ≡ committed (model r) s.board j
    committed_is p j e = ap (λ o. committed_as r s.board o) e

    -- ---- walks

    pub walks : CommitsWalk r t.advance s
    walks p j e q g front =
        ⊎_elim (λ h. inl (record { front = h.0; is = h.1; segment = h.2; not_later = h.3 })) (λ w. inr (by_edge w)) (every.walks s.board lawful j (job_out r s p j e) q g is)
      where
        is : front_of (model r) (committed (model r) s.board j) q ≡ Some g
        is = subst (λ b. front_of (model r) b q ≡ Some g) (committed_is p j e) front

        by_edge : (model r).LeadsTo j.segment j.stamp g.segment g.stamp → Leads t.advance (front_at j) g
        by_edge w = let k = leads d limits t ready.tables ready.sound j.segment j.stamp g.segment g.stamp w in record { delay = k.0; leads = k.1; not_later = k.2 }

    -- ---- the cut

    pub cut_stays : CutsStay.CutStays (tables r) → CutStays r t.advance s
    cut_stays stays (Dispatch p) h u q below =
        kept r s.board (dispatched_at r s.board p (front_of (model r) s.board p))
        (λ v k c. subst (λ o. IsCut (model r) (dispatched_at r s.board p o) v k) (sym h.2.front) (stays.dispatches s.board lawful p h.1 (may s.board p h.1 h.2) v k c)) u q below
    cut_stays stays (Commit p) h u q below = at (job_of r s p) refl below
      where
        at : (o : Option (Act Stamp Reads)) → job_of r s p ≡ o → IsBelowCut r (committed_as r s.board o) u q → IsBelowCut r s.board u q
        at None e k = k
        at (Some j) e k = kept r s.board (committed (model r) s.board j) (λ v x c. stays.commits s.board lawful j (job_out r s p j e) v x c) u q k
    cut_stays stays (Abandon p) h u q below = below

    -- ---- no conflict out of order

    pub none_overtakes : NoneOvertakes r t.advance s
    none_overtakes p j e y d n earlier c =
        every.no_conflict s.board lawful j y (job_out r s p j e) d n earlier (⊎_elim (λ h. inr h) (λ h. inl h.2) c)

    -- ---- moves

    clashing : (g h x : ℕ) → owns r g x → uses r h x ≡ true → clash r g h false ≡ true
    clashing g h x o u =
        let a = there_if r (λ z. has z.written x) refl g o in
        let b = there_if r (λ z. has z.read x || has z.written x) refl h u in
        clash_yes r (are_rules d limits t ready.tables) g h a b false (inl (inl (shared a.access b.access (written g x o a) (used h x u b))))
      where
        written : (g x : ℕ) → owns r g x → (a : IsThere r g) → Contains a.access.written x
        written g x o a = subst (λ z. Contains z.written x) a.same (has_yes (access_of r g).written x o)

        used : (h x : ℕ) → uses r h x ≡ true → (b : IsThere r h) → Contains b.access.read x ⊎ Contains b.access.written x
        used h x u b =
            subst (λ z. Contains z.read x ⊎ Contains z.written x) b.same
            (⊎_elim (λ k. inl (has_yes (access_of r h).read x k)) (λ k. inr (has_yes (access_of r h).written x k)) (or_true (has (access_of r h).read x) (has (access_of r h).written x) u))

        shared : (a b : Access) → Contains a.written x → Contains b.read x ⊎ Contains b.written x → ShareVariable a b
        shared a b w (inl k) = inr (inl (x, w, k))
        shared a b w (inr k) = inl (x, w, k)

    pub nothing_away : NothingAway r t.advance s
    nothing_away = record {
      allowed = λ p f m j i x o u. every.moves s.board lawful p f (may s.board p f m) j i (clashing j.segment f.segment x o u);
      out = λ j k i i' n x o u. every.jobs_apart s.board lawful j k i i' n (clashing j.segment k.segment x o u);
    }

    -- an activation of the log that isn't before a job's place doesn't write what it writes
    none_later : (j : Act Stamp Reads) → In j s.board.out → (x : ℕ) (y : Act Stamp Reads) → In y s.board.log → order.is_earlier (P r) y j ≡ false → owns r j.segment x → owns r y.segment x → ⊥
    none_later j out x y i late o u =
        let stands = job_stands r every s.board lawful j out y i in
        let before = is_out_of_order r every j y stands late in
        stands.apart before.0 before.1
        (inl (clashing j.segment y.segment x o (or_right (has (access_of r y.segment).read x) (has (access_of r y.segment).written x) u)))

    pub put_back : CommitsPutBack r t.advance s
    put_back p j e x =
        ap (λ b. cells_on r b x) (committed_is p j e)
        ∙ inserted r x j (sort (P r) s.board.log) (λ y i late o u. none_later j (job_out r s p j e) x y (in_sorted r s.board.log y i) late o u)

    -- ---- what is allowed stays so

    front_same : (p : ℕ) (f : Front Stamp) → IsFront r s.board p f → (q : ℕ) → front_of (model r) (dispatched (model r) s.board p f) q ≡ front_of (model r) s.board q
    front_same p f is q = at (p == q) refl
      where
        at : (b : Bool) → (p == q) ≡ b → running_or (if b then Some (job (model r) s.board p f) else last q s.board.out) ((model r).front s.board.log q) ≡ front_of (model r) s.board q
        at true e = sym is ∙ ap (front_of (model r) s.board) (eqb-true p q e)
        at false e = refl

    dispatches :
        (p : ℕ) (f : Front Stamp) → MayRun r t.advance s.board p f → (q : ℕ) (g : Front Stamp) → q ≢ p → MayRun r t.advance s.board q g →
        StaysSo r t.advance s.board (dispatched (model r) s.board p f) q g
    dispatches p f m q g n h = record {
      allowed = record {
        idle = last_past q (job (model r) s.board p f) s.board.out (λ e. n (sym e)) ∙ h.idle;
        front = front_same p f m.front q ∙ h.front;
        below_cut = record {
          in_time = h.below_cut.in_time;
          uncut = h.below_cut.uncut;
          before_limit = λ u k is least e. h.below_cut.before_limit u k (sym (front_same p f m.front u) ∙ is) (λ v l nv il. least v l nv (front_same p f m.front v ∙ il)) e;
        };
        below_limit = h.below_limit;
        free = λ u k nu is held. h.free u k nu (sym (front_same p f m.front u) ∙ is) held;
      };
      same_job = refl;
    }

    commits :
        (p : ℕ) (j : Act Stamp Reads) → job_of r s p ≡ Some j → (q : ℕ) (g : Front Stamp) → MayRun r t.advance s.board q g →
        IsBelowCut r (committed (model r) s.board j) g.stamp q → StaysSo r t.advance s.board (committed (model r) s.board j) q g
    commits p j e q g m cut =
        let out = job_out r s p j e in
        let stays = every.stays_allowed s.board lawful j out q g (may s.board q g m) in
        let other : j.process ≢ q = λ same. not_idle q s.board.out j out same m.idle in
        record {
          allowed = may_run d limits t ready.tables ready.sound (committed (model r) s.board j) q g stays.0 cut m.below_limit;
          same_job = job_is (count_past q j s.board.log other) stays.1;
        }
      where
        job_is : {n n' : ℕ} {x x' : Reads} → n ≡ n' → x ≡ x' → made q n g x ≡ made q n' g x'
        job_is a b = rw (a, b) refl

    pub stay_allowed : StayAllowed r t.advance s
    stay_allowed = record {
      dispatches = λ p f m q g n h. subst (λ o. StaysSo r t.advance s.board (dispatched_at r s.board p o) q g) (sym m.front) (dispatches p f m q g n h);
      commits = λ p j e q g m cut.
          subst (λ b. StaysSo r t.advance s.board b q g) (sym (committed_is p j e)) (commits p j e q g m (subst (λ b. IsBelowCut r b g.stamp q) (committed_is p j e) cut));
    }

    -- ---- no dead end

    pub no_dead_end : NoDeadEnd r t.advance s
    no_dead_end none p f is least cut below =
        may_run d limits t ready.tables ready.sound s.board p f (every.no_dead_end s.board lawful none p f is least cut.in_time (λ e. absurd (omega (arith, e, below)))) cut below
