-- A run of the scheduler from the start of a cycle on makes the steps.
use Rattle.std.proofs.Common.{◌≡◌, ℕ, zero, suc, ◌<◌, ◌≤◌, ◌==◌, ◌⊎◌, inl, inr, ⊎_elim, List, [], ◌∷◌, length, Bool, true, false, ◌||◌, nat_lt, if◌then◌else◌, Option, Some, None, refl, sym, ap, ◌∙◌, subst, arith}
use Rattle.std.specs.Prelude.{fold}
use Rattle.std.specs.List.{list_any}
use Rattle.std.proofs.lemmas.Bool.{cases_order, eqb-true, eqb-false, lt-ltb, ltb-true}
use Rattle.ooo_time.specs.declared.stamp.Stamp.{Stamp}
use Rattle.ooo_time.specs.Stamps.{IsBefore}
use Rattle.ooo_code.specs.declared.activation.Frame.{Frame}
use Rattle.ooo_code.specs.Nodes.{by_nodes}
use Rattle.ooo_code.specs.Outcomes.{Activate}
use Rattle.ooo_code.specs.Sound.{IsSound}
use Rattle.ooo_history.specs.declared.run.End.{End}
use Rattle.ooo_history.specs.declared.run.End.TheVariants as history
use Rattle.ooo_history.specs.declared.run.Entry.{Entry}
use Rattle.ooo_channels.specs.Cycles.{cycle_of, history_in, whole_history}
use Rattle.ooo_meaning.specs.Runs.{numbers_from}
use Rattle.ooo_meaning.specs.Sequence.{Result, State, evaluate, finish, result_of, run, state_of, turn}
use Rattle.ooo_meaning.specs.World as real
use Rattle.ooo_meaning.specs.World.{Wait, World, next_delta, wait_at}
use Rattle.ooo_schedules.specs.Going.{ComesToEnd, Going, GoesOn, NoneDue}
use Rattle.ooo_schedules.specs.Model.{In}
use Rattle.ooo_schedules.specs.Program.{Program}
use Rattle.ooo_schedules.specs.Sequence as steps
use Rattle.ooo_schedules.specs.Sequence.{Fires, NoStop, RunsTo, Sched, faults, goes, late, limited, next_cycle, no_more, stopped, unheard}
use Rattle.ooo_schedules.specs.Tables.{program}
use Rattle.ooo_schedules.specs.Worlds as cycle
use Rattle.ooo_dispatch.specs.Boards.{AreRules}
use Rattle.ooo_dispatch.specs.Reports.{broken_at_last, has_stopped, history_after, last_stamp}
use Rattle.ooo_dispatch.specs.Rules.{Rules, operations_of, tables}
use Rattle.ooo_dispatch.specs.Scheduler.{AreMadeAs}
use Rattle.ooo_dispatch.proofs.Acting.{Does}
use Rattle.ooo_dispatch.proofs.Ending.{Least, active_source, all_late, due_least, due_source, pending_least}
use Rattle.ooo_dispatch.proofs.Ends.{EndsAs, at_limit, by_break, by_idle, by_stop, by_time, last_is, last_made, last_whole}
use Rattle.ooo_dispatch.proofs.Histories.{AreHistories}
use Rattle.ooo_dispatch.proofs.Settling.{AlikeWorlds}
use Rattle.ooo_dispatch.proofs.Finishing.{first_alike, first_world, later_next, later_world, moves}
use Rattle.ooo_dispatch.proofs.Onward.{delta_next, goes_alike, updated_histories}
use Rattle.ooo_dispatch.proofs.Sequenced.{Broke, Turned, evaluated}
use Rattle.ooo_dispatch.proofs.Turning.{Activation, Alike, ChangesTouched, ReadsTouched}

-- ---- what a list has, or has not

any_source : {A : Type 0} (test : A → Bool) (xs : List A) → list_any test xs ≡ true → (x : A) × In x xs × (test x ≡ true)
any_source test [] e = absurd (let k : false ≡ true = e in cc)
any_source {A} test (y ∷ ys) e = at (test y) refl e (any_source test ys)
  where
    at : (b : Bool) → test y ≡ b → (b || list_any test ys) ≡ true → (list_any test ys ≡ true → (x : A) × In x ys × (test x ≡ true)) → (x : A) × In x (y ∷ ys) × (test x ≡ true)
    at true h f rest = (y, inl refl, h)
    at false h f rest = let r = rest f in (r.0, inr r.1, r.2)

none_any : {A : Type 0} (test : A → Bool) (xs : List A) → list_any test xs ≡ false → (x : A) → In x xs → test x ≡ false
none_any test [] e x i = absurd i
none_any {A} test (y ∷ ys) e x i = at (test y) refl e (none_any test ys) i
  where
    at : (b : Bool) → test y ≡ b → (b || list_any test ys) ≡ false → (list_any test ys ≡ false → (z : A) → In z ys → test z ≡ false) → (x ≡ y) ⊎ In x ys → test x ≡ false
    at true h f rest j = absurd (let k : true ≡ false = f in cc)
    at false h f rest (inl k) = ap test k ∙ h
    at false h f rest (inr j) = rest f x j

some_wait : (waits : List Wait) → list_any (λ x. x.runnable) waits ≡ true → (q : ℕ) × ((wait_at waits q).runnable ≡ true)
some_wait [] e = absurd (let k : false ≡ true = e in cc)
some_wait (y ∷ ys) e = at y.runnable refl e (some_wait ys)
  where
    at : (b : Bool) → y.runnable ≡ b → (b || list_any (λ x. x.runnable) ys) ≡ true → (list_any (λ x. x.runnable) ys ≡ true → (q : ℕ) × ((wait_at ys q).runnable ≡ true)) → (q : ℕ) × ((wait_at (y ∷ ys) q).runnable ≡ true)
    at true h f rest = (0, h)
    at false h f rest = let r = rest f in (suc r.0, r.1)

pub no_wait : (waits : List Wait) → list_any (λ x. x.runnable) waits ≡ false → (q : ℕ) → (wait_at waits q).runnable ≡ false
no_wait [] e q = refl
no_wait (y ∷ ys) e zero = at y.runnable refl e
  where
    at : (b : Bool) → y.runnable ≡ b → (b || list_any (λ x. x.runnable) ys) ≡ false → y.runnable ≡ false
    at true h f = absurd (let k : true ≡ false = f in cc)
    at false h f = h
no_wait (y ∷ ys) e (suc q) = no_wait ys (at y.runnable e) q
  where
    at : (b : Bool) → (b || list_any (λ x. x.runnable) ys) ≡ false → list_any (λ x. x.runnable) ys ≡ false
    at true f = absurd (let k : true ≡ false = f in cc)
    at false f = f

not_more : (m n : ℕ) → nat_lt m n ≡ false → n ≤ m
not_more m n e = ⊎_elim (λ k. omega (arith, k)) (λ k. ⊎_elim (λ lt. absurd (let c : false ≡ true = sym e ∙ lt-ltb m n lt in cc)) (λ gt. omega (arith, gt)) k) (cases_order m n)

more : (m n : ℕ) → nat_lt m n ≡ true → m < n
more m n e = ltb-true m n e

module _ (r : Rules) (rules : AreRules r) (sound : IsSound r.design) (some : 0 < r.limits.deltas) (law : GoesOn (program (tables r))) (comes : ComesToEnd (program (tables r))) (does : Does) (reads : ReadsTouched) (changes : ChangesTouched) where
  abbrev p : Program
  p = program (tables r)

  abbrev activate : Activate Frame
  activate = by_nodes r.design r.limits.statements

  abbrev order : List ℕ
  order = numbers_from 0 (length r.design.processes)

  -- the steps go to a log of just the activations of the result
  pub record Went (s : Sched) (xs : List Activation) (result : Result) : Type 0 where
    pub log : List Activation
    pub runs : RunsTo p s xs log
    pub made : AreMadeAs r result.made log
    pub ends : EndsAs r log result.end
    pub histories : AreHistories r result.histories (history_after r log)

  abbrev Goes : ℕ → Type 0
  Goes n =
      (w : World) (places : List Frame) (s : Sched) (xs : List Activation) → Alike r rules sound w places s xs → Going p s xs 0 → (result : Result) →
      run activate order r.limits n (state_of w places) ≡ Some result → Went s xs result

  -- where it is over in a world
  over : (s : Sched) (xs : List Activation) (w : World) (e : End) (result : Result) (log : List Activation) → RunsTo p s xs log → AreMadeAs r w.made log → EndsAs r log e → AreHistories r w.histories (history_after r log) →
      Some (result_of w e) ≡ Some result → Went s xs result
  over s xs w e result log runs made ends histories k =
      let same : result_of w e ≡ result = cc in subst (Went s xs) same (record { log = log; runs = runs; made = made; ends = ends; histories = histories })

  -- the histories where no activation broke, and where the last one did
  whole_after : (hs : List (List Entry)) (log : List Activation) → broken_at_last r log ≡ None → AreHistories r hs (λ c. whole_history (cycle_of (operations_of r log) c)) → AreHistories r hs (history_after r log)
  whole_after hs log whole h = record {
    count = h.count;
    each = λ c lt. h.each c lt ∙ sym (ap (λ o. elim o [ Some e ↦ history_in (last_stamp log) (operations_of r log) c | None ↦ whole_history (cycle_of (operations_of r log) c) ]) whole);
  }

  broken_after : (hs : List (List Entry)) (log : List Activation) (e : End) → broken_at_last r log ≡ Some e → AreHistories r hs (λ c. history_in (last_stamp log) (operations_of r log) c) → AreHistories r hs (history_after r log)
  broken_after hs log e is h = record {
    count = h.count;
    each = λ c lt. h.each c lt ∙ sym (ap (λ o. elim o [ Some f ↦ history_in (last_stamp log) (operations_of r log) c | None ↦ whole_history (cycle_of (operations_of r log) c) ]) is);
  }

  broke : (s : Sched) (xs : List Activation) (st : State Frame) → Broke r rules sound law does reads changes 0 s xs st → (n : ℕ) (result : Result) →
      finish st.places (real.settle r.limits st.world) (run activate order r.limits n) ≡ Some result → Went s xs result
  unfolding real.settle
  broke s xs st b n result e =
      over s xs st.world b.ended.end result b.log (faults b.breaks) b.ended.made (by_break b.ended.end b.ended.ends) (broken_after st.world.histories b.log b.ended.end b.ended.ends b.ended.histories)
      (ap (λ o. finish st.places (real.settle_at r.limits st.world o) (run activate order r.limits n)) (sym b.ended.broken) ∙ e)

  module _ (s : Sched) (xs : List Activation) (st : State Frame) (t : Turned r rules sound law does reads changes 0 s xs st) (n : ℕ) (rec : Goes n) (result : Result) where
    abbrev w : World
    w = st.world

    abbrev places : List Frame
    places = st.places

    abbrev nd : Stamp
    nd = next_delta w.stamp

    abbrev first : World
    first = real.reach nd (real.update w)

    abbrev updated : cycle.World
    updated = steps.update p t.last

    abbrev fired : cycle.World
    fired = cycle.fire_at updated nd

    abbrev go : State Frame → Option Result
    go = run activate order r.limits n

    none : (q : ℕ) → t.last.world.runnable q ≡ false
    none = law.idle t.last t.log t.going

    -- none of the activations broke
    unbroken : broken_at_last r t.log ≡ None
    unbroken = last_whole r t.log t.going.whole

    histories : AreHistories r (real.longer_histories w.stamp w.channels w.histories) (history_after r t.log)
    histories = whole_after (real.longer_histories w.stamp w.channels w.histories) t.log unbroken (updated_histories r rules sound w places t.last t.log t.alike none)

    -- it is over after the update, or in the next delta cycle
    over_updated : (e : End) → RunsTo p s xs t.log → EndsAs r t.log e → Some (result_of (real.update w) e) ≡ Some result → Went s xs result
    unfolding real.update
    over_updated e runs ends k = over s xs (real.update w) e result t.log runs t.alike.made ends histories k

    over_first : (e : End) → RunsTo p s xs t.log → EndsAs r t.log e → Some (result_of first e) ≡ Some result → Went s xs result
    unfolding real.reach real.update
    over_first e runs ends k = over s xs first e result t.log runs t.alike.made ends histories k

    -- sc_stop was called
    was_stopped : w.stopped ≡ true → Some (result_of (real.update w) (history.Stop w.stamp)) ≡ Some result → Went s xs result
    was_stopped is e =
        let stops : has_stopped r t.log ≡ true = sym t.alike.stopped ∙ is in
        let y = any_source p.stops t.log stops in
        let at = last_is r t.log w.stamp t.alike.descend t.alike.past y.0 y.1 (t.going.calm y.0 y.1 y.2 ∙ t.alike.stamp) in
        over_updated (history.Stop w.stamp) (stopped t.last y.0 t.evaluates y.1 y.2) (by_stop w.stamp unbroken stops at) e

    module _ (whole : w.stopped ≡ false) where
      calm : has_stopped r t.log ≡ false
      calm = sym t.alike.stopped ∙ whole

      no_stop : NoStop p t.log
      no_stop y i = none_any p.stops t.log (sym t.alike.stopped ∙ whole) y i

      next : steps.NextStamp updated nd
      next = delta_next r rules sound w places t.last t.log t.alike none

      -- another delta cycle
      in_delta : (q : ℕ) → (wait_at first.waits q).runnable ≡ true → finish places (real.in_delta r.limits first) go ≡ Some result → Went s xs result
      unfolding real.reach
      in_delta q on e = at (nd.delta == r.limits.deltas) refl e
        where
          woken : fired.runnable q ≡ true
          woken = (first_alike r rules sound w places t.last t.log t.alike none).runnable q ∙ on

          within : nd.time.0 ≤ p.stop.0
          within = subst (λ u. u.time.0 ≤ p.stop.0) t.alike.stamp t.going.within

          at : (b : Bool) → (nd.delta == r.limits.deltas) ≡ b → finish places (if b then real.Over first (history.Deltas first.stamp) else real.Goes first) go ≡ Some result → Went s xs result
          at true is k =
              let limit = eqb-true nd.delta r.limits.deltas is in
              over_first (history.Deltas nd) (limited t.last updated nd q t.evaluates no_stop no_more next limit woken)
              (at_limit nd unbroken calm (comes.limits t.last t.log updated nd t.going no_stop no_more next within limit q woken)) k
          at false is k =
              let below : nd.delta ≡ p.limit → ⊥ = eqb-false nd.delta r.limits.deltas is in
              let alike = goes_alike r rules sound w places t.last t.log t.alike none updated first nd (first_world r rules sound w places t.last t.log t.alike none) in
              let going = law.moves t.last t.log updated nd t.going no_stop no_more next within below in
              let rest = rec first places (next_cycle p t.last updated nd) t.log alike going result k in
              record { log = rest.log; runs = goes t.last updated nd t.log t.evaluates no_stop no_more next within below rest.runs; made = rest.made; ends = rest.ends; histories = rest.histories }

      -- nobody is runnable there
      module _ (off : (q : ℕ) → (wait_at first.waits q).runnable ≡ false) where
        idle : (q : ℕ) → fired.runnable q ≡ false
        idle q = (first_alike r rules sound w places t.last t.log t.alike none).runnable q ∙ off q

        fires : Fires updated fired
        fires = unheard nd next idle no_more

        first_is : AlikeWorlds first fired
        first_is = first_alike r rules sound w places t.last t.log t.alike none

        is_late : ((u : Stamp) → Least (real.least_activity first) u → u.time.0 ≤ r.limits.stop.0 → ⊥) → RunsTo p s xs t.log
        is_late all = late t.last fired t.evaluates no_stop fires (all_late r.limits.stop first fired first_is idle all)

        -- nobody will run again
        is_idle : real.least_activity first ≡ None → Some (result_of first (history.Idle (real.last_stamp first.made))) ≡ Some result → Went s xs result
        unfolding real.reach real.update
        is_idle is k =
            let nothing : NoneDue fired = (λ q u due. subst (λ o. Least o u) is (due_least first fired first_is idle q u due)) in
            over_first (history.Idle (real.last_stamp w.made)) (is_late (λ u l le. subst (λ o. Least o u) is l))
            (by_idle (real.last_stamp w.made) unbroken calm (comes.idles t.last t.log fired t.going no_stop fires nothing) (last_made r w.made t.log t.alike.made)) k

        -- only after the stop time
        is_after : (act : Stamp) → real.least_activity first ≡ Some act → r.limits.stop.0 < act.time.0 → Some (result_of first (history.Time r.limits.stop)) ≡ Some result → Went s xs result
        is_after act is lt k =
            let none_before : (u : Stamp) → Least (real.least_activity first) u → u.time.0 ≤ r.limits.stop.0 → ⊥ = (λ u l le. subst (λ o. Least o u) is l (inl (omega (arith, lt, le)))) in
            let due = due_source first fired first_is idle act is in
            over_first (history.Time r.limits.stop) (is_late none_before)
            (by_time unbroken calm (comes.lates t.last t.log fired t.going no_stop fires (all_late r.limits.stop first fired first_is idle none_before) due.0 act due.1)) k

        time_moves : (act u : Stamp) → real.least_activity first ≡ Some act → act.time.0 ≤ r.limits.stop.0 → real.least_pending first ≡ Some u → go (state_of (real.reach u first) places) ≡ Some result → Went s xs result
        time_moves act u active within_act is k =
            let m = moves r rules sound w places t.last t.log t.alike none idle u is in
            let not_before = subst (λ o. Least o act) is (pending_least first act (active_source first act active)) in
            let within : u.time.0 ≤ p.stop.0 = earlier act u not_before within_act in
            let below : u.delta ≡ p.limit → ⊥ = (λ e. let z = m.1 in omega (arith, some, z, e)) in
            let later = later_next r rules sound w places t.last t.log t.alike none idle u is in
            let alike = goes_alike r rules sound w places t.last t.log t.alike none fired (real.reach u first) u (later_world r rules sound w places t.last t.log t.alike none idle u is) in
            let going = law.moves t.last t.log fired u t.going no_stop fires later within below in
            let rest = rec (real.reach u first) places (next_cycle p t.last fired u) t.log alike going result k in
            record { log = rest.log; runs = goes t.last fired u t.log t.evaluates no_stop fires later within below rest.runs; made = rest.made; ends = rest.ends; histories = rest.histories }
          where
            earlier : (a u : Stamp) → (IsBefore a u → ⊥) → a.time.0 ≤ r.limits.stop.0 → u.time.0 ≤ r.limits.stop.0
            earlier a u n le = ⊎_elim (λ k. omega (arith, k, le)) (λ k. ⊎_elim (λ lt. absurd (n (inl lt))) (λ gt. omega (arith, gt, le)) k) (cases_order a.time.0 u.time.0)

        later : (o : Option Stamp) → real.least_activity first ≡ o → finish places (real.later r.limits first o) go ≡ Some result → Went s xs result
        later None is e = is_idle is e
        later (Some act) is e = at (nat_lt r.limits.stop.0 act.time.0) refl e
          where
            advance : (o : Option Stamp) → real.least_pending first ≡ o → act.time.0 ≤ r.limits.stop.0 → finish places (real.advance first o) go ≡ Some result → Went s xs result
            advance None i le k = absurd (subst (λ o. Least o act) i (pending_least first act (active_source first act is)))
            advance (Some u) i le k = time_moves act u is le i k

            at : (b : Bool) → nat_lt r.limits.stop.0 act.time.0 ≡ b → finish places (if b then real.Over first (history.Time r.limits.stop) else real.advance first (real.least_pending first)) go ≡ Some result → Went s xs result
            at true b k = is_after act is (more r.limits.stop.0 act.time.0 b) k
            at false b k = advance (real.least_pending first) refl (not_more r.limits.stop.0 act.time.0 b) k

      notified : finish places (real.notified r.limits first) go ≡ Some result → Went s xs result
      unfolding real.notified
      notified e = at (list_any (λ x. x.runnable) first.waits) refl e
        where
          at : (b : Bool) → list_any (λ x. x.runnable) first.waits ≡ b → finish places (if b then real.in_delta r.limits first else real.later r.limits first (real.least_activity first)) go ≡ Some result → Went s xs result
          at true b k = let q = some_wait first.waits b in in_delta q.0 q.1 k
          at false b k = later (no_wait first.waits b) (real.least_activity first) refl k

    settled : finish places (real.settle r.limits w) go ≡ Some result → Went s xs result
    unfolding real.settle
    settled e = at w.stopped refl (ap (λ o. finish places (real.settle_at r.limits w o) go) (sym t.alike.broken) ∙ e)
      where
        at : (b : Bool) → w.stopped ≡ b → finish places (if b then real.Over (real.update w) (history.Stop w.stamp) else real.notified r.limits first) go ≡ Some result → Went s xs result
        at true b k = was_stopped b k
        at false b k = notified b k

  pub run_goes : (n : ℕ) → Goes n
  unfolding run evaluate
  run_goes zero w places s xs a g result e = absurd (let k : None ≡ Some result = e in cc)
  run_goes (suc n) w places s xs a g result e =
      ⊎_elim (λ t. settled s xs (fold (turn activate) (state_of w places) order) t n (run_goes n) result e) (λ b. broke s xs (fold (turn activate) (state_of w places) order) b n result e)
      (evaluated r rules sound law does reads changes (length r.design.processes) 0 (omega arith) w places s xs a g)
