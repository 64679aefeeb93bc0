-- A board that is over ends as the run does.
use Rattle.std.proofs.Common.{◌≡◌, ℕ, ◌<◌, ◌≤◌, ◌⊎◌, inl, inr, ⊎_elim, Bool, true, false, List, [], ◌∷◌, Option, Some, None, refl, sym, ap, ◌∙◌, subst, arith}
use Rattle.ooo_schedules.specs.Model.{Front, In, last, Model, Laws, State, Lawful, Sequential, Kept, IsOver, IsLeast, Reports, front_of}
use Rattle.ooo_time.specs.declared.stamp.Stamp.{Stamp}
use Rattle.ooo_schedules.specs.Design.{model}
use Rattle.ooo_schedules.specs.Program.{Program, ActIn, design, Sound}
use Rattle.ooo_schedules.specs.Endings.{Ending, Broke, Stopped, Deltas, Time, Idle, Unbroken, AllPast, BoardEnds, broke, stopped, limited, late, idle, RunEnds, run_broke, run_stopped, run_limited, run_late, run_idle}
use Rattle.ooo_schedules.proofs.Logs.{same_or_not, some_is}
use Rattle.ooo_schedules.proofs.Places.{less_or, earlier_not_after}
use Rattle.ooo_schedules.proofs.Walks.{front_of_idle}
use Rattle.ooo_schedules.proofs.Run.{run_of}
use Rattle.ooo_schedules.proofs.Over.{board_report, at_limit_front, at_limit_least, fronts_same, least_front, LeastBelow, no_front, a_front, least_below}
use Rattle.ooo_schedules.proofs.Programs.{program_laws}

module _ (p : Program) (h : Sound p) (zs : List (ActIn p)) (q : Sequential (model (design p)) zs) (kept : Kept (model (design p)) zs) (end : IsOver (model (design p)) (record { log = zs; out = [] })) where
  abbrev M : Model
  M = model (design p)

  abbrev L : Laws M
  L = program_laws p h

  -- ---- a run ends in one of the five ways

  find : (test : ActIn p → Bool) (xs : List (ActIn p)) → ((y : ActIn p) × In y xs × (test y ≡ true)) ⊎ ((y : ActIn p) → In y xs → test y ≡ false)
  find test [] = inr (λ y i. absurd i)
  find test (x ∷ xs) = at (test x) refl (find test xs)
    where
      at : (b : Bool) → test x ≡ b → ((y : ActIn p) × In y xs × (test y ≡ true)) ⊎ ((y : ActIn p) → In y xs → test y ≡ false) → ((y : ActIn p) × In y (x ∷ xs) × (test y ≡ true)) ⊎ ((y : ActIn p) → In y (x ∷ xs) → test y ≡ false)
      at true e r = inl (x, inl refl, e)
      at false e r = ⊎_elim (λ f. inl (f.0, inr f.1, f.2)) (λ f. inr (λ y i. ⊎_elim (λ k. ap test k ∙ e) (λ j. f y j) i)) r

  abbrev Result : Type 0
  Result = (e : Ending p) × RunEnds p zs e

  module _ (unbroken : (z : ActIn p) → In z zs → p.breaks z ≡ false) (unstopped : (z : ActIn p) → In z zs → p.stops z ≡ false) where
    -- the front of least place is at the limit, or past the stop time
    least_cases : (a : ℕ) (f : Front Stamp) → M.front zs a ≡ Some f → IsLeast M (record { log = zs; out = [] }) a f → (f.stamp.delta ≡ p.limit) ⊎ (f.stamp.time.0 ≤ p.stop.0 → ⊥)
    least_cases a f e least =
        ⊎_elim (λ k. inl k)
        (λ n. inr (λ w. end.shut a f e least (record {
          within = w;
          below = n;
          uncut = λ y i c. ⊎_elim (λ k. let d : true ≡ false = sym k.0 ∙ unbroken y i in absurd cc) (λ k. let d : true ≡ false = sym k.0 ∙ unstopped y i in absurd cc) c;
        })))
        (same_or_not f.stamp.delta p.limit)

    all_past : (a : ℕ) (f : Front Stamp) → M.front zs a ≡ Some f → IsLeast M (record { log = zs; out = [] }) a f → (f.stamp.time.0 ≤ p.stop.0 → ⊥) → AllPast p (record { log = zs; out = [] })
    all_past a f e least n b g k w =
        ⊎_elim (λ s. n (subst (λ t. t.stamp.time.0 ≤ p.stop.0) (some_is g f (sym k ∙ ap (M.front zs) s ∙ e)) w))
        (λ s. n (L.within_back f.stamp g.stamp (earlier_not_after M L.order f.stamp a g.stamp b (least b g s k)) w)) (same_or_not b a)

    by_front : (a : ℕ) (f : Front Stamp) → M.front zs a ≡ Some f → Result
    by_front a f e =
        let w = least_front M L zs (run_of M L zs q).ordered a f e in
        ⊎_elim (λ late_stop. (Time, run_late w.0 w.1 w.2 (all_past w.0 w.1 w.2 w.3 (λ t. let k = late_stop in omega (arith, k, t))) unbroken unstopped))
        (λ in_time.
        ⊎_elim (λ k. (Deltas w.1.stamp, run_limited w.0 w.1 w.2 w.3 k in_time unbroken unstopped)) (λ n. absurd (n in_time)) (least_cases w.0 w.1 w.2 w.3))
        (less_or p.stop.0 w.1.stamp.time.0)

    no_front_at : ((r : ℕ) (g : Front Stamp) → r < p.processes → M.front zs r ≡ Some g → ⊥) → (r : ℕ) → M.front zs r ≡ None
    no_front_at n r = at (M.front zs r) refl
      where
        at : (o : Option (Front Stamp)) → M.front zs r ≡ o → M.front zs r ≡ None
        at None e = e
        at (Some g) e = absurd (n r g (L.numbered zs r g (run_of M L zs q).ordered e) e)

    by_fronts : LeastBelow M L zs p.processes → Result
    by_fronts (no_front n) = (Idle, run_idle (no_front_at n) unbroken unstopped)
    by_fronts (a_front a f e b k) = by_front a f e

  pub run_ends : Result
  run_ends =
      ⊎_elim (λ f. (Broke f.0, run_broke f.0 f.1 f.2))
      (λ unbroken. ⊎_elim (λ f. (Stopped f.0.stamp, run_stopped f.0 f.1 f.2 unbroken)) (λ unstopped. by_fronts unbroken unstopped (least_below M L zs p.processes)) (find p.stops zs))
      (find p.breaks zs)

  -- ---- and a board that is over ends so too

  module _ (st : State M) (lawful : Lawful M st) (over : IsOver M st) where
    report : Reports M zs st
    report = board_report M L zs q kept end st lawful over

    front_is : (a : ℕ) → front_of M st a ≡ M.front st.log a
    front_is a = front_of_idle M L st a (ap (last a) over.quiet)

    unbroken_board : ((z : ActIn p) → In z zs → p.breaks z ≡ false) → ((z : ActIn p) → In z zs → p.stops z ≡ false) → Unbroken p st
    unbroken_board u s = record { breaks = λ y i r. u y (report.only y i r); stops = λ y i r. s y (report.only y i r) }

    same : AllPast p (record { log = zs; out = [] }) → (a : ℕ) → front_of M st a ≡ M.front zs a
    same past a = front_is a ∙ fronts_same M L zs q kept st lawful over past a

    pub board_ends : (e : Ending p) → RunEnds p zs e → BoardEnds p st e
    board_ends _ (run_broke y i k) = broke y (report.has y i) (report.shows y i) k
    board_ends _ (run_stopped y i k u) = stopped y (report.has y i) (report.shows y i) k (λ z j r. u z (report.only z j r))
    board_ends _ (run_limited a f e least k w u s) =
        limited a f (front_is a ∙ at_limit_front M L zs q kept end st lawful over a f e least k) (at_limit_least M L zs q kept end st lawful over a f e least) k w (unbroken_board u s)
    board_ends _ (run_late a f e past u s) = late a f (same past a ∙ e) (λ b g k w. past b g (sym (same past b) ∙ k) w) (unbroken_board u s)
    board_ends _ (run_idle none u s) =
        idle (λ a. same (λ b g k w. let c : Some g ≡ None = sym k ∙ none b in absurd cc) a ∙ none a) (unbroken_board u s)
