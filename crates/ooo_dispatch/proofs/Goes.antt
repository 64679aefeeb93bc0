-- A lawful list of steps goes on until the board is over: the jobs out are committed, and then the front of least place is dispatched and committed, again and again.
use Rattle.std.proofs.Common.{◌≡◌, ◌≢◌, ℕ, zero, suc, ◌+◌, ◌-◌, ◌*◌, ◌<◌, ◌≤◌, ◌==◌, ◌⊎◌, inl, inr, Bool, true, false, if◌then◌else◌, List, [], ◌∷◌, length, Some, refl, sym, ap, ◌∙◌, subst, arith}
use Rattle.std.specs.Prelude.{IsSome}
use Rattle.std.proofs.lemmas.Bool.{cases_eq, eq-eqb, ne_eqb}
use Rattle.ooo_time.specs.declared.stamp.Stamp.{Stamp}
use Rattle.ooo_time.specs.Stamps.{IsBefore}
use Rattle.ooo_code.specs.declared.design.Design.{Design}
use Rattle.ooo_code.specs.declared.limits.Limits.{Limits}
use Rattle.ooo_schedules.specs.Boards.{BoardsOf, OpenFront}
use Rattle.ooo_schedules.specs.Model.{Act, Front, IsOver, In, IsLeast, Model, commit, committed, count, dispatch, dispatched, front_of, job, last, without}
use Rattle.ooo_schedules.specs.Tables.{EveryScheduleOf}
use Rattle.ooo_tables.specs.declared.tables.Tables.{Tables}
use Rattle.ooo_dispatch.specs.declared.reads.Reads.{Reads}
use Rattle.ooo_dispatch.specs.declared.step.Step.{Step}
use Rattle.ooo_dispatch.specs.declared.step.Step.TheVariants.{Dispatch, Commit}
use Rattle.ooo_dispatch.specs.Boards.{Board, IsAllowed, IsFront, IsLawful, model}
use Rattle.ooo_dispatch.specs.Goes.{IsOverAfter}
use Rattle.ooo_dispatch.specs.Least.{Advance, MayRun, rules_of}
use Rattle.ooo_dispatch.specs.Rules.{Rules, tables}
use Rattle.ooo_dispatch.specs.Schedules.{IsReady}
use Rattle.ooo_dispatch.specs.Steps.{IsLawfulStep, Replay, after_step, committed_as, dispatched_at}
use Rattle.ooo_dispatch.proofs.Leads.{may_run}
use Rattle.ooo_dispatch.proofs.Stamps.{irreflexive, transitive}

abbrev Activation : Type 0
Activation = Act Stamp Reads

some_front : (f g : Front Stamp) → Some f ≡ Some g → f ≡ g
some_front f g e = cc

-- ---- what a commit leaves out, and what it adds

same_one : {A : Type 0} (q : ℕ) (a b : A) → (if q == q then a else b) ≡ a
same_one q a b = ap (λ t. if t then a else b) (eq-eqb q q refl)

without_less : (q : ℕ) (xs : List Activation) → length (without q xs) ≤ length xs
without_less q [] = omega arith
without_less q (x ∷ xs) = at (x.process == q) (without_less q xs)
  where
    at : (b : Bool) → length (without q xs) ≤ length xs → length (if b then without q xs else x ∷ without q xs) ≤ suc (length xs)
    at true le = omega (arith, le)
    at false le = omega (arith, le)

-- how often processes may still be committed, where each may be so often
module _ (bound : ℕ) where
  abbrev room : ℕ → List Activation → ℕ
  room zero xs = 0
  room (suc n) xs = (bound - count n xs) + room n xs

  room_same : (n : ℕ) (x : Activation) (xs : List Activation) → n ≤ x.process → room n (x ∷ xs) ≡ room n xs
  room_same zero x xs le = refl
  room_same (suc n) x xs le =
      ap (λ c. (bound - c) + room n (x ∷ xs)) (ap (λ t. if t then suc (count n xs) else count n xs) (ne_eqb x.process n (λ e. absurd (omega (arith, e, le)))))
      ∙ ap (λ k. (bound - count n xs) + k) (room_same n x xs (omega (arith, le)))

  room_less : (n : ℕ) (x : Activation) (xs : List Activation) → x.process < n → count x.process (x ∷ xs) ≤ bound → room n (x ∷ xs) < room n xs
  room_less zero x xs lt le = absurd (omega (arith, lt))
  room_less (suc n) x xs lt le = at (cases_eq x.process n) (room_less n x xs)
    where
      at : (x.process ≡ n) ⊎ (x.process ≢ n) → (x.process < n → count x.process (x ∷ xs) ≤ bound → room n (x ∷ xs) < room n xs) → room (suc n) (x ∷ xs) < room (suc n) xs
      at (inl e) rec =
          let c : count n (x ∷ xs) ≡ suc (count n xs) = subst (λ q. count q (x ∷ xs) ≡ suc (count q xs)) e (same_one x.process (suc (count x.process xs)) (count x.process xs)) in
          let b : count n (x ∷ xs) ≤ bound = subst (λ q. count q (x ∷ xs) ≤ bound) e le in
          let r = room_same n x xs (let k : n ≤ x.process = omega (arith, e) in k) in
          omega (arith, c, b, r)
      at (inr ne) rec =
          let c : count n (x ∷ xs) ≡ count n xs = ap (λ t. if t then suc (count n xs) else count n xs) (ne_eqb x.process n ne) in
          let r = rec (omega (arith, lt, ne)) le in
          omega (arith, c, r)

-- one more step before
prepend : (r : Rules) (least : Advance) (s : Replay r) (step : Step) → IsLawfulStep r least s step → IsOverAfter r least (after_step r s step) → IsOverAfter r least s
prepend r least s step h c = record { steps = step ∷ c.steps; lawful = (h, c.lawful); over = c.over }

module _ (design : Design) (limits : Limits) (t : Tables) (ready : IsReady design limits t) (every : EveryScheduleOf (tables (rules_of design limits t))) (boards : BoardsOf (tables (rules_of design limits t))) where
  abbrev r : Rules
  r = rules_of design limits t

  abbrev M : Model
  M = model r

  -- no job was abandoned
  abbrev calm : Board r → Replay r
  calm b = record { board = b; abandoned = [] }

  abbrev Ends : Board r → Type 0
  Ends b = IsOverAfter r t.advance (calm b)

  -- a job out is committed
  commit_first : (b : Board r) (j : Activation) → last j.process b.out ≡ Some j → Ends (committed M b j) → Ends b
  commit_first b j is c =
      prepend r t.advance (calm b) (Commit j.process) (subst (λ o. IsSome o) (sym is) refl)
      (subst (λ s. IsOverAfter r t.advance s) (sym (ap (λ o. record { board = committed_as r b o; abandoned = [] }) is)) c)

  not_both : (s t : Stamp) (p q : ℕ) → IsBefore s t ⊎ (s ≡ t) × (p < q) → IsBefore t s ⊎ (t ≡ s) × (q < p) → ⊥
  not_both s t p q (inl a) (inl b) = irreflexive s (transitive s t s a b)
  not_both s t p q (inl a) (inr b) = irreflexive s (subst (IsBefore s) b.0 a)
  not_both s t p q (inr a) (inl b) = irreflexive t (subst (IsBefore t) a.0 b)
  not_both s t p q (inr a) (inr b) = let x = a.1 in let y = b.1 in omega (arith, x, y)

  -- the front of least place may run, where it is below the cut
  module _ (b : Board r) (lawful : IsLawful r b) (quiet : b.out ≡ []) (o : OpenFront (tables r) b) where
    allowed : IsAllowed r b o.process o.front
    allowed = every.no_dead_end b lawful quiet o.process o.front o.is o.least o.uncut.within o.uncut.below

    only_least : (q : ℕ) (g : Front Stamp) → IsFront r b q g → IsLeast M b q g → g ≡ o.front
    only_least q g is least = at (cases_eq q o.process)
      where
        at : (q ≡ o.process) ⊎ (q ≢ o.process) → g ≡ o.front
        at (inl e) = some_front g o.front (sym is ∙ ap (front_of M b) e ∙ o.is)
        at (inr n) = absurd (not_both g.stamp o.front.stamp q o.process (least o.process o.front (λ e. n (sym e)) o.is) (o.least q g n is))

    may : MayRun r t.advance b o.process o.front
    may =
        may_run design limits t ready.tables ready.sound b o.process o.front allowed
        (record {
          in_time = o.uncut.within;
          uncut = o.uncut.uncut;
          before_limit = λ q g is least e. absurd (o.uncut.below (ap (λ f. f.stamp.delta) (sym (only_least q g is least)) ∙ e));
        })
        o.below

    -- it is dispatched and committed
    abbrev made : Activation
    made = job M b o.process o.front

    abbrev next : Board r
    next = record { log = made ∷ b.log; out = [] }

    left : committed M (dispatched M b o.process o.front) made ≡ next
    left = ap (λ out. record { log = made ∷ b.log; out = out }) (same_one o.process (without o.process b.out) (made ∷ without o.process b.out) ∙ ap (without o.process) quiet)

    next_lawful : IsLawful r next
    next_lawful = subst (IsLawful r) left (commit made (dispatch o.process o.front lawful allowed) (inl refl))

    next_ends : Ends next → Ends b
    next_ends c =
        prepend r t.advance (calm b) (Dispatch o.process) (refl, o.front, may)
        (subst (λ s. IsOverAfter r t.advance s) (sym (ap (λ f. record { board = dispatched_at r b o.process f; abandoned = [] }) o.is))
        (commit_first (dispatched M b o.process o.front) made (same_one o.process (Some made) (last o.process b.out)) (subst Ends (sym left) c)))

  abbrev bound : ℕ
  bound = (limits.stop.0 + 1) * limits.deltas

  abbrev left_room : Board r → ℕ
  left_room b = room bound (length design.processes) b.log

  from_quiet : (n : ℕ) (b : Board r) → IsLawful r b → b.out ≡ [] → left_room b < n → Ends b
  from_quiet zero b lawful quiet less = absurd (omega (arith, less))
  from_quiet (suc n) b lawful quiet less = at (from_quiet n) (boards.over_or_open b lawful quiet)
    where
      at : ((c : Board r) → IsLawful r c → c.out ≡ [] → left_room c < n → Ends c) → IsOver M b ⊎ OpenFront (tables r) b → Ends b
      at rec (inl over) = record { steps = []; lawful = tt; over = over }
      at rec (inr o) =
          let l = next_lawful b lawful quiet o in
          let fewer = room_less bound (length design.processes) (made b lawful quiet o) b.log o.numbered (boards.not_for_ever (next b lawful quiet o) l o.process) in
          next_ends b lawful quiet o (rec (next b lawful quiet o) l refl (omega (arith, fewer, less)))

  pub ends : (n : ℕ) (b : Board r) → IsLawful r b → length b.out < n → Ends b
  ends zero b lawful less = absurd (omega (arith, less))
  ends (suc n) b lawful less = at (ends n) b.out refl
    where
      at : ((c : Board r) → IsLawful r c → length c.out < n → Ends c) → (out : List Activation) → b.out ≡ out → Ends b
      at rec [] e = from_quiet (suc (left_room b)) b lawful e (omega arith)
      at rec (j ∷ js) e =
          let is : last j.process b.out ≡ Some j = ap (last j.process) e ∙ same_one j.process (Some j) (last j.process js) in
          let fewer : length (without j.process b.out) ≤ length js = subst (λ k. k ≤ length js) (sym (ap (λ xs. length (without j.process xs)) e ∙ ap length (same_one j.process (without j.process js) (j ∷ without j.process js)))) (without_less j.process js) in
          let long : length b.out ≡ suc (length js) = ap length e in
          commit_first b j is (rec (committed M b j) (commit j lawful (subst (In j) (sym e) (inl refl))) (omega (arith, fewer, long, less)))
