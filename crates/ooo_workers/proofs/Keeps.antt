-- Each step keeps the rule.
use Rattle.std.proofs.Common.{◌≡◌, ◌≢◌, ℕ, zero, suc, ◌+◌, ◌-◌, ◌%◌, ◌<◌, ◌≤◌, ◌==◌, true, false, List, [], ◌∷◌, ◌++◌, set, slice_index, refl, sym, ap, ◌∙◌, subst, ⊎_elim, arith, Option, Some, None, ne_eqb, eq-eqb, length-set, get_or-set_same}
use Rattle.std.specs.Prelude.{IsSome}
use Rattle.std.proofs.Math.Nat.{mod-lt}
use mathlib.Core.Logic.{dite}
use mathlib.Core.Option as maybe
use mathlib.Core.Option.{some, none, some-injective, some-ne-none}
use native.Mathlib.Decide.{ℕ_discrete, dec_lt}
use lib.ListN.{get_elem?}
use prog.Atomic.{either}
use Rattle.atomic_table.specs.Table.{State, Act, keeps, takes, gives, Valid, carried_after, Allows, Splits, Joins, Final, Seen}
use Rattle.atomic_table.specs.Table.{stepped as next}
use Rattle.atomic_table.proofs.Lists.{at_set, at_snoc, set_here, set_else, exchanged}
use Rattle.ooo_dispatch.specs.declared.step.Step.{Step}
use Rattle.ooo_dispatch.specs.declared.step.Step.TheVariants.{Dispatch, Commit, Abandon}
use Rattle.ooo_dispatch.specs.Steps.{Replay, after_step, job_of}
use Rattle.ooo_board.specs.Boards.{LeavesOthers, Shown, rules, state, with_step}
use Rattle.ooo_workers.specs.declared.view.View.{View}
use Rattle.ooo_workers.specs.Boards.{Begins, IsGivenOn, IsLawfulOn, IsQuiet, flag, jobs_out, process_of}
use Rattle.ooo_workers.specs.Rule.{IsOwn, total, spans, owns, turn_of, is_out, out_of, AllBegin, spent_view, Fits, Ruled, pass_left, pass_rest, both_of, Sat, At, seized, tried, freed, out_after, noted, noted_on, stepped, stepped_on, May}
use Rattle.ooo_workers.proofs.Begun.{all_begin_trans, begins_after, begins_refl, begins_trans, one_more}
use Rattle.ooo_workers.proofs.Jobs.{none_abandoned, none_before, none_committed, one_sent, others_abandoned, others_committed, others_sent}

module _ {A : Type 0} (g : A → ℕ) where
  pub total-append : (l m : List A) → total g (l ++ m) ≡ total g l + total g m
  total-append [] m = omega arith
  total-append (x ∷ xs) m = omega (arith, total-append xs m)

  pub total-set : (l : List A) (j : ℕ) (v w : A) → get_elem? l j ≡ some v → total g (set l j w) + g v ≡ total g l + g w
  total-set [] j v w e = absurd (some-ne-none v (sym e))
  total-set (x ∷ xs) zero v w e = omega (arith, ap g (some-injective x v e))
  total-set (x ∷ xs) (suc j) v w e = omega (arith, total-set xs j v w e)

  pub term_le : (l : List A) (j : ℕ) (v : A) → get_elem? l j ≡ some v → g v ≤ total g l
  term_le [] j v e = absurd (some-ne-none v (sym e))
  term_le (x ∷ xs) zero v e = omega (arith, ap g (some-injective x v e))
  term_le (x ∷ xs) (suc j) v e = omega (arith, term_le xs j v e)

  pub terms_le : (l : List A) (j k : ℕ) (v u : A) → k ≢ j → get_elem? l j ≡ some v → get_elem? l k ≡ some u → g v + g u ≤ total g l
  terms_le [] j k v u n e d = absurd (some-ne-none v (sym e))
  terms_le (x ∷ xs) zero zero v u n e d = absurd (n refl)
  terms_le (x ∷ xs) zero (suc k) v u n e d = omega (arith, ap g (some-injective x v e), term_le xs k u d)
  terms_le (x ∷ xs) (suc j) zero v u n e d = omega (arith, ap g (some-injective x u d), term_le xs j v e)
  terms_le (x ∷ xs) (suc j) (suc k) v u n e d = omega (arith, terms_le xs j k v u (λ h. n (ap suc h)) e d)

  none_of : (l : List A) → ((k : ℕ) (u : A) → get_elem? l k ≡ some u → g u ≡ 0) → total g l ≡ 0
  none_of [] h = refl
  none_of (x ∷ xs) h = omega (arith, h 0 x refl, none_of xs (λ k u e. h (suc k) u e))

  -- all others weigh nothing
  pub alone : (l : List A) (j : ℕ) (v : A) → get_elem? l j ≡ some v → ((k : ℕ) (u : A) → k ≢ j → get_elem? l k ≡ some u → g u ≡ 0) → total g l ≡ g v
  alone [] j v e h = absurd (some-ne-none v (sym e))
  alone (x ∷ xs) zero v e h = omega (arith, ap g (some-injective x v e), none_of xs (λ k u d. h (suc k) u (λ is. omega arith) d))
  alone (x ∷ xs) (suc j) v e h = omega (arith, h 0 x (λ is. omega arith) refl, alone xs j v e (λ k u ne d. h (suc k) u (λ is. ne (omega arith)) d))

abbrev last_or : Step → List Step → Step
last_or d [] = d
last_or d (x ∷ xs) = last_or x xs

last_snoc : (d : Step) (l : List Step) (x : Step) → last_or d (l ++ x ∷ []) ≡ x
last_snoc d [] x = refl
last_snoc d (y ∷ l) x = last_snoc y l x

abbrev schedule_in : Option Shown → List Step
schedule_in None = []
schedule_in (Some b) = b.schedule

abbrev carried : List (ℕ × Option Shown) → List Step
carried [] = []
carried (x ∷ xs) = schedule_in x.1

same_step : (b : Shown) (x y : Step) (more : List (ℕ × Option Shown)) → (0, Some (with_step b x)) ∷ more ≡ (0, Some (with_step b y)) ∷ more → x ≡ y
same_step b x y more e = sym (last_snoc x b.schedule x) ∙ ap (λ (l : List (ℕ × Option Shown)). last_or x (carried l)) e ∙ last_snoc x b.schedule y

abbrev sat_of : View → Sat
sat_of v = (v, [])

module _ (passes : ℕ) where
  -- one view changes, with the word, the slot and the board
  changes :
      (s : State (Option Shown) View) (r : Ruled passes s) (id : ℕ) (v w : View) (b : Shown) (n : ℕ) (homes : List (maybe.Option (Option Shown))) → get_elem? s.views id ≡ some v
      → (n % 2 ≡ 0 → get_elem? homes 0 ≡ some (some (Some b))) → turn_of w + slice_index s.words 0 % 2 ≡ turn_of v + n % 2 → Fits b w
      → ((j : ℕ) (u : View) → j ≢ id → get_elem? s.views j ≡ some u → Fits b u)
      → ((p : ℕ) → out_of p w + jobs_out r.board p ≡ out_of p v + jobs_out b p)
      → ((f : Step → ℕ) → total f w.made + total f r.board.schedule ≡ total f v.made + total f b.schedule)
      → ((x : ℕ) → owns x w ≡ owns x v) → Ruled passes record { words = set s.words 0 n; homes = homes; views = set s.views id w }
  changes s r id v w b n homes at home turns fits others outs made owned = record {
    board = b;
    wide = length-set s.words 0 n ∙ r.wide;
    home = λ e. home (sym (ap (λ (k : ℕ). k % 2) (get_or-set_same s.words 0 n 0 (omega (arith, r.wide)))) ∙ e);
    turns = rw (get_or-set_same s.words 0 n 0 (omega (arith, r.wide))) (omega (arith, total-set turn_of s.views id v w at, r.turns, turns));
    each = λ j u e. ⊎_elim (λ t. subst (Fits b) t.1 fits) (λ t. others j u t.0 t.1) (at_set s.views id j w u e);
    outs = λ p. omega (arith, total-set (out_of p) s.views id v w at, r.outs p, outs p);
    made = λ f. omega (arith, total-set (λ u. total f u.made) s.views id v w at, r.made f, made f);
    owned = λ x. omega (arith, total-set (owns x) s.views id v w at, r.owned x, owned x);
  }

  -- the same table again
  stays : (s : State (Option Shown) View) (r : Ruled passes s) (id : ℕ) (v : View) → get_elem? s.views id ≡ some v → Ruled passes record { words = set s.words 0 (slice_index s.words 0); homes = s.homes; views = set s.views id v }
  stays s r id v at =
      changes s r id v v r.board (slice_index s.words 0) s.homes at r.home refl (r.each id v at) (λ j u ne e. r.each j u e) (λ p. refl) (λ f. refl) (λ x. refl)

  turn_on : (v : View) → v.turn ≡ true → turn_of v ≡ 1
  turn_on v e = rw e refl

  turn_off : (v : View) → v.turn ≡ false → turn_of v ≡ 0
  turn_off v e = rw e refl

  has_job : {A : Type 0} (o : Option A) → 0 < flag o → IsSome o
  has_job None h = absurd (omega (arith, h))
  has_job (Some j) h = refl

  out_some : (p q : ℕ) (o : Option ℕ) → o ≡ Some q → p ≡ q → is_out p o ≡ 1
  out_some p q o e is = rw (e, is, eq-eqb q q refl) refl

  out_other : (p q : ℕ) (o : Option ℕ) → o ≡ Some q → p ≢ q → is_out p o ≡ 0
  out_other p q o e ne = rw (e, ne_eqb q p (λ h. ne (sym h))) refl

  out_none : (p : ℕ) (o : Option ℕ) → o ≡ None → is_out p o ≡ 0
  out_none p o e = rw e refl

  odd_next : (n : ℕ) → n % 2 ≡ 0 → (n + 1) % 2 ≡ 1
  odd_next n e = omega (arith, e)

  pub tries : (slots id : ℕ) (v : View) (st : At) (old : ℕ) → old % 2 ≡ 0 → st.first ≡ old → v.turn ≡ false → 0 < v.parts → Allows (Ruled passes) slots id (v, []) 0 (λ n. either (n == old) (old + 1) n) (tried st (v, []))
  tries slots id v st old even first idle some_part s r deep at small =
      let here = r.each id v at in
      exchanged (slice_index s.words 0) old (old + 1) (λ n. (w : View) × (a : Act (Option Shown)) × Valid s.homes [] a × Ruled passes (next s 0 n id [] w a) × tried st (v, []) (slice_index s.words 0) (w, carried_after [] a))
      (λ free. (
        seized v r.board,
        takes 0 (Some r.board),
        r.home (ap (λ (k : ℕ). k % 2) free ∙ even),
        changes s r id v (seized v r.board) r.board (old + 1) (set s.homes 0 none) at (λ e. absurd (omega (arith, e, odd_next old even))) (omega (arith, turn_off v idle, ap (λ (k : ℕ). k % 2) free, even, odd_next old even)) (record {
          known = λ h. begins_refl r.board;
          heard = here.heard;
          turn = λ e. refl;
          job = λ done e given. given;
          spent = λ e. absurd (omega arith);
        }) (λ j u ne e. r.each j u e) (λ p. refl) (λ f. refl) (λ x. refl),
        ((λ e. record { board = r.board; now = refl; begins = here.known some_part; job = here.job; out = λ p e. has_job (job_of (rules r.board) (state r.board) p) (omega (arith, out_some p p v.out e refl, term_le (out_of p) s.views id v at, r.outs p)) }), (λ ne. absurd (ne (free ∙ sym first)))),
      ))
      (λ taken. (v, keeps, tt, stays s r id v at, ((λ e. absurd (taken (e ∙ first))), (λ ne. refl))))

  pub tries_at : (slots id : ℕ) (m : Sat) (st : At) (old : ℕ) → old % 2 ≡ 0 → st.first ≡ old → m.1 ≡ [] → m.0.turn ≡ false → 0 < m.0.parts → Allows (Ruled passes) slots id m 0 (λ n. either (n == old) (old + 1) n) (tried st m)
  tries_at slots id m st old even first nothing idle some_part = subst (λ (l : List (ℕ × Option Shown)). Allows (Ruled passes) slots id (m.0, l) 0 (λ n. either (n == old) (old + 1) n) (tried st (m.0, l))) (sym nothing) (tries slots id m.0 st old even first idle some_part)

  low : (s : State (Option Shown) View) → slice_index s.words 0 % 2 < 2
  low s = mod-lt (slice_index s.words 0) (omega arith)

  -- the word is odd while a view holds the turn
  held : (s : State (Option Shown) View) (r : Ruled passes s) (id : ℕ) (v : View) → get_elem? s.views id ≡ some v → v.turn ≡ true → slice_index s.words 0 % 2 ≡ 1
  held s r id v at on = omega (arith, term_le turn_of s.views id v at, turn_on v on, r.turns, low s)

  pub frees : (slots id : ℕ) (m : Sat) (v : View) (st : At) (n : ℕ) → n % 2 ≡ 0 → slots ≡ 1 → m ≡ (v, (0, Some v.known) ∷ []) → v.turn ≡ true → 0 < v.parts → Allows (Ruled passes) slots id m 0 (λ _. n) (λ _. freed st m n)
  frees slots id m v st n even one is on some_part = subst (λ (x : Sat). Allows (Ruled passes) slots id x 0 (λ _. n) (λ _. freed st x n)) (sym is)
      (λ s r deep at small.
      let here = r.each id v at in
      let w : View = record v { turn = false } in
      let same : v.known ≡ r.board = here.turn on in (
        w,
        gives,
        tt,
        changes s r id v w r.board n (set s.homes 0 (some (Some v.known))) at (λ e. set_here s.homes 0 (some (Some v.known)) (omega arith) ∙ ap (λ (b : Shown). some (some (Some b))) same)
            (omega (arith, turn_on v on, held s r id v at on, even)) (record {
              known = here.known;
              heard = here.heard;
              turn = λ e. absurd cc;
              job = here.job;
              spent = λ e. absurd (omega arith);
            }) (λ j u ne e. r.each j u e) (λ p. refl) (λ f. refl) (λ x. refl),
        refl,
      ))

  -- ---- jobs out, before and after a step

  flag_le : {A : Type 0} (o : Option A) → flag o ≤ 1
  flag_le None = omega arith
  flag_le (Some j) = omega arith

  -- what one more step leads to
  job_after : (b : Shown) (x : Step) (p : ℕ) → job_of (rules b) (state (with_step b x)) p ≡ job_of (rules b) (after_step (rules b) (state b) x) p
  job_after b x p = ap (λ (s : Replay (rules b)). job_of (rules b) s p) (one_more b x)

  jobs_else : (b : Shown) (x : Step) → IsLawfulOn b x → (p : ℕ) → p ≢ process_of x → jobs_out (with_step b x) p ≡ jobs_out b p
  jobs_else b (Dispatch q) may p ne = ap flag (job_after b (Dispatch q) p ∙ others_sent (rules b) b.tables.advance (state b) q may p ne)
  jobs_else b (Commit q) may p ne = ap flag (job_after b (Commit q) p ∙ others_committed (rules b) b.tables.advance (state b) q may p ne)
  jobs_else b (Abandon q) may p ne = ap flag (job_after b (Abandon q) p ∙ others_abandoned (rules b) b.tables.advance (state b) q p ne)

  jobs_before : (b : Shown) (q : ℕ) → IsLawfulOn b (Dispatch q) → jobs_out b q ≡ 0
  jobs_before b q may = ap flag (none_before (rules b) b.tables.advance (state b) q may)

  jobs_dispatched : (b : Shown) (q : ℕ) → IsLawfulOn b (Dispatch q) → jobs_out (with_step b (Dispatch q)) q ≡ 1
  jobs_dispatched b q may = ap flag (job_after b (Dispatch q) q ∙ one_sent (rules b) b.tables.advance (state b) q may)

  jobs_committed : (b : Shown) (q : ℕ) → IsLawfulOn b (Commit q) → jobs_out (with_step b (Commit q)) q ≡ 0
  jobs_committed b q may = ap flag (job_after b (Commit q) q ∙ none_committed (rules b) b.tables.advance (state b) q may)

  jobs_abandoned : (b : Shown) (q : ℕ) → jobs_out (with_step b (Abandon q)) q ≡ 0
  jobs_abandoned b q = ap flag (job_after b (Abandon q) q ∙ none_abandoned (rules b) b.tables.advance (state b) q)

  -- what one step means for the counts of jobs out
  abbrev OutsMove : View → Shown → Step → Type 0
  OutsMove v b x = (p : ℕ) → is_out p (out_after x) + jobs_out b p ≡ out_of p v + jobs_out (with_step b x) p

  -- the step may be made on the board that the view has seen
  record MayOn (b : Shown) (v : View) (x : Step) : Type 0 where
    lawful : IsLawfulOn b x
    own : IsOwn v x
    others : LeavesOthers b (with_step b x) (process_of x)

  may_on : (b : Shown) (v : View) (x : Step) → v.known ≡ b → May v x → MayOn b v x
  may_on b v x same may = subst (λ k. MayOn k v x) same (record { lawful = may.lawful; own = may.own; others = may.others })

  module _ (s : State (Option Shown) View) (r : Ruled passes s) (id : ℕ) (v : View) (at : get_elem? s.views id ≡ some v) (same : v.known ≡ r.board) where
    is_one : (q : ℕ) → v.out ≡ Some q → jobs_out r.board q ≡ 1
    is_one q e = omega (arith, out_some q q v.out e refl, term_le (out_of q) s.views id v at, r.outs q, flag_le (job_of (rules r.board) (state r.board) q))

    outs_move : (x : Step) → MayOn r.board v x → OutsMove v r.board x
    outs_move (Dispatch q) may p =
        dite (ℕ_discrete p q)
        (λ e. subst (λ (k : ℕ). is_out k (Some q) + jobs_out r.board k ≡ out_of k v + jobs_out (with_step r.board (Dispatch q)) k) (sym e)
        (omega (arith, out_some q q (Some q) refl refl, jobs_before r.board q may.lawful, out_none q v.out may.own, jobs_dispatched r.board q may.lawful)))
        (λ ne. omega (arith, out_other p q (Some q) refl ne, out_none p v.out may.own, jobs_else r.board (Dispatch q) may.lawful p ne))
    outs_move (Commit q) may p =
        dite (ℕ_discrete p q)
        (λ e. subst (λ (k : ℕ). is_out k None + jobs_out r.board k ≡ out_of k v + jobs_out (with_step r.board (Commit q)) k) (sym e)
        (omega (arith, is_one q may.own, out_some q q v.out may.own refl, jobs_committed r.board q may.lawful)))
        (λ ne. omega (arith, out_other p q v.out may.own ne, jobs_else r.board (Commit q) may.lawful p ne))
    outs_move (Abandon q) may p =
        dite (ℕ_discrete p q)
        (λ e. subst (λ (k : ℕ). is_out k None + jobs_out r.board k ≡ out_of k v + jobs_out (with_step r.board (Abandon q)) k) (sym e)
        (omega (arith, is_one q may.own, out_some q q v.out may.own refl, jobs_abandoned r.board q)))
        (λ ne. omega (arith, out_other p q v.out may.own ne, jobs_else r.board (Abandon q) may.lawful p ne))

    -- another view's job is of another process
    apart : (x : Step) → MayOn r.board v x → (j : ℕ) (u : View) → j ≢ id → get_elem? s.views j ≡ some u → (p : ℕ) → u.out ≡ Some p → p ≢ process_of x
    apart (Dispatch q) may j u ne e p out is =
        absurd (omega (arith, out_some q p u.out out (sym is), term_le (out_of q) s.views j u e, r.outs q, jobs_before r.board q may.lawful))
    apart (Commit q) may j u ne e p out is =
        absurd (omega (arith, out_some q p u.out out (sym is), out_some q q v.out may.own refl, terms_le (out_of q) s.views id j v u ne at e, r.outs q, flag_le (job_of (rules r.board) (state r.board) q)))
    apart (Abandon q) may j u ne e p out is =
        absurd (omega (arith, out_some q p u.out out (sym is), out_some q q v.out may.own refl, terms_le (out_of q) s.views id j v u ne at e, r.outs q, flag_le (job_of (rules r.board) (state r.board) q)))

    -- what ties another view still holds after the step
    others : (x : Step) → v.turn ≡ true → MayOn r.board v x → (j : ℕ) (u : View) → j ≢ id → get_elem? s.views j ≡ some u → Fits (with_step r.board x) u
    others x on may j u ne e =
        let there = r.each j u e in
        let on_it = begins_after r.board x may.lawful in
        record {
          known = λ h. begins_trans u.known r.board (with_step r.board x) (there.known h) on_it;
          heard = all_begin_trans u.heard r.board (with_step r.board x) there.heard on_it;
          turn = λ two. absurd (omega (arith, turn_on v on, turn_on u two, terms_le turn_of s.views id j v u ne at e, r.turns, low s));
          job = λ done out given. may.others done (apart x may j u ne e done.process out) (there.job done out given);
          spent = there.spent;
        }

    -- and so does what ties the view that makes it, whether it keeps the turn or not
    own_fits : (x : Step) (w : View) → MayOn r.board v x → 0 < w.parts → w.known ≡ with_step v.known x → w.heard ≡ v.heard → Fits (with_step v.known x) w
    own_fits x w may some_part known heard =
        let there = r.each id v at in
        let b : Shown = with_step v.known x in
        let on_it : Begins r.board b = subst (λ k. Begins r.board (with_step k x)) (sym same) (begins_after r.board x may.lawful) in
        record {
          known = λ h. subst (λ k. Begins k b) (sym known) (begins_refl b);
          heard = subst (λ ks. AllBegin ks b) (sym heard) (all_begin_trans v.heard r.board b there.heard on_it);
          turn = λ e. known;
          job = λ done out given. subst (λ k. IsGivenOn k done) known given;
          spent = λ e. absurd (omega (arith, e, some_part));
        }

    -- the rule after it, with the word and the slot as they are then
    after_it :
        (x : Step) (w : View) (n : ℕ) (homes : List (maybe.Option (Option Shown))) → v.turn ≡ true → May v x → 0 < v.parts → w.known ≡ with_step v.known x → w.heard ≡ v.heard →
        w.out ≡ out_after x → w.made ≡ v.made ++ x ∷ [] → w.number ≡ v.number → w.parts ≡ v.parts → (n % 2 ≡ 0 → get_elem? homes 0 ≡ some (some (Some (with_step v.known x)))) →
        turn_of w + slice_index s.words 0 % 2 ≡ turn_of v + n % 2 → Ruled passes record { words = set s.words 0 n; homes = homes; views = set s.views id w }
    after_it x w n homes on may0 some_part known heard out made number parts home turns =
        let may = may_on r.board v x same may0 in
        let b : Shown = with_step v.known x in
        let b_is : b ≡ with_step r.board x = ap (λ (k : Shown). with_step k x) same in
        changes s r id v w b n homes at home turns (own_fits x w may (subst (λ k. 0 < k) (sym parts) some_part) known heard)
        (λ j u ne e. subst (λ (k : Shown). Fits k u) (sym b_is) (others x on may j u ne e))
        (λ p. subst (λ (o : Option ℕ). is_out p o + jobs_out r.board p ≡ out_of p v + jobs_out b p) (sym out) (subst (λ (k : Shown). is_out p (out_after x) + jobs_out r.board p ≡ out_of p v + jobs_out k p) (sym b_is) (outs_move x may p)))
        (λ f. let m = ap (total f) made in omega (arith, m, total-append f v.made (x ∷ []), total-append f v.known.schedule (x ∷ []), ap (λ (k : Shown). total f k.schedule) same))
        (λ y. subst (λ (k : ℕ). spans y k w.parts ≡ owns y v) (sym number) (subst (λ (k : ℕ). spans y v.number k ≡ owns y v) (sym parts) refl))

  pub steps : (slots id : ℕ) (m : Sat) (v : View) (x : Step) (st : At) (n : ℕ) → n % 2 ≡ 0 → slots ≡ 1 → m ≡ (v, (0, Some (with_step v.known x)) ∷ []) → v.turn ≡ true → 0 < v.parts → May v x
      → Allows (Ruled passes) slots id m 0 (λ _. n) (λ _. stepped_on st m n)
  steps slots id m v x st n even one is on some_part may = subst (λ (y : Sat). Allows (Ruled passes) slots id y 0 (λ _. n) (λ _. stepped_on st y n)) (sym is)
      (λ s r deep at small.
      let b : Shown = with_step v.known x in (
        stepped v x,
        gives,
        tt,
        after_it s r id v at ((r.each id v at).turn on) x (stepped v x) n (set s.homes 0 (some (Some b))) on may some_part refl refl refl refl refl refl (λ e. set_here s.homes 0 (some (Some b)) (omega arith))
            (omega (arith, turn_on v on, held s r id v at on, even)),
        (λ y e. ap (λ (z : Step). sat_of (stepped v z)) (same_step v.known x y [] e)),
      ))

  pub notes : (slots id : ℕ) (m : Sat) (v : View) (x : Step) (st : At) (n : ℕ) → n % 2 ≡ 1 → m ≡ (v, (0, Some (with_step v.known x)) ∷ []) → v.turn ≡ true → 0 < v.parts → May v x
      → Allows (Ruled passes) slots id m 0 (λ _. n) (λ _. noted_on st m n)
  notes slots id m v x st n odd is on some_part may = subst (λ (y : Sat). Allows (Ruled passes) slots id y 0 (λ _. n) (λ _. noted_on st y n)) (sym is)
      (λ s r deep at small.
      let hand : List (ℕ × Option Shown) = (0, Some (with_step v.known x)) ∷ [] in (
        noted v x,
        keeps,
        tt,
        after_it s r id v at ((r.each id v at).turn on) x (noted v x) n s.homes on may some_part refl refl refl refl refl refl (λ e. absurd (omega (arith, e, odd))) (omega (arith, held s r id v at on, odd)),
        (λ y e. ap (λ (z : Step). (noted v z, hand)) (same_step v.known x y [] e)),
      ))

  spans_first : (x n m : ℕ) → 1 < m → spans x n m ≡ spans x n 1 + spans x (n + 1) (m - 1)
  spans_first x n zero h = absurd (omega arith)
  spans_first x n (suc m) h = let e : suc m - 1 ≡ m = omega arith in let n' : n + 1 ≡ suc n = omega arith in rw (e, n') (omega arith)

  pub splits : (id : ℕ) (v : View) → v.turn ≡ false → 1 < v.parts → Splits (Ruled passes) id v (pass_left v) (pass_rest v)
  splits id v idle two s r at =
      let here = r.each id v at in
      let l : View = pass_left v in
      let w : View = pass_rest v in
      record {
        board = r.board;
        wide = r.wide;
        home = r.home;
        turns = omega (arith, total-append turn_of (set s.views id l) (w ∷ []), total-set turn_of s.views id v l at, r.turns);
        each = λ j u e. ⊎_elim
            (λ there. ⊎_elim (λ t. subst (Fits r.board) t.1 (record { known = λ h. here.known (omega arith); heard = here.heard; turn = here.turn; job = here.job; spent = λ h. absurd (omega arith) })) (λ t. r.each j u t.1) (at_set s.views id j l u there))
            (λ is. subst (Fits r.board) is (record { known = λ h. here.known (omega arith); heard = tt; turn = λ h. absurd cc; job = λ done h given. absurd cc; spent = λ h. absurd (omega arith) }))
            (at_snoc (set s.views id l) w u j e);
        outs = λ p. omega (arith, total-append (out_of p) (set s.views id l) (w ∷ []), total-set (out_of p) s.views id v l at, r.outs p);
        made = λ f. omega (arith, total-append (λ u. total f u.made) (set s.views id l) (w ∷ []), total-set (λ u. total f u.made) s.views id v l at, r.made f);
        owned = λ x. omega (arith, total-append (owns x) (set s.views id l) (w ∷ []), total-set (owns x) s.views id v l at, r.owned x, spans_first x v.number v.parts two);
      }

  spans_joined : (x n m k one : ℕ) → one ≡ 1 → n ≡ k + 1 → spans x k (m + 1) ≡ spans x k one + spans x n m
  spans_joined x n m k one e next = let n' : n ≡ suc k = omega arith in let m' : m + 1 ≡ suc m = omega arith in rw (e, n', m') (omega arith)

  pub joins : (id : ℕ) (v : View) (other : ℕ) (w : View) → v.turn ≡ false → w.turn ≡ false → v.out ≡ None → w.out ≡ None → 0 < v.parts → w.parts ≡ 1 → v.number ≡ w.number + 1 → Joins (Ruled passes) id v other w (both_of v w) spent_view
  joins id v other w v_idle w_idle v_out w_out some_part one follows s r at ne there =
      let here = r.each id v at in
      let both : View = both_of v w in
      let before : get_elem? s.views other ≡ some w = sym (set_else s.views id other both ne) ∙ there in
      let theirs = r.each other w before in
      let views : List View = set s.views id both in
      record {
        board = r.board;
        wide = r.wide;
        home = r.home;
        turns = omega (arith, total-set turn_of views other w spent_view there, total-set turn_of s.views id v both at, r.turns, turn_off w w_idle);
        each = λ j u e. ⊎_elim
            (λ t. subst (Fits r.board) t.1 (record { known = λ h. absurd (omega arith); heard = tt; turn = λ h. absurd cc; job = λ done h given. absurd cc; spent = λ h. refl }))
            (λ t. ⊎_elim
            (λ q. subst (Fits r.board) q.1 (record { known = λ h. here.known some_part; heard = (theirs.known (omega arith), here.heard); turn = here.turn; job = here.job; spent = λ h. absurd (omega arith) }))
            (λ q. r.each j u q.1) (at_set s.views id j both u t.1))
            (at_set views other j spent_view u e);
        outs = λ p. omega (arith, total-set (out_of p) views other w spent_view there, total-set (out_of p) s.views id v both at, r.outs p, out_none p w.out w_out);
        made = λ f. omega (arith, total-set (λ u. total f u.made) views other w spent_view there, total-set (λ u. total f u.made) s.views id v both at, r.made f, total-append f w.made v.made);
        owned = λ x. omega (arith, total-set (owns x) views other w spent_view there, total-set (owns x) s.views id v both at, r.owned x, spans_joined x v.number v.parts w.number w.parts one follows);
      }

  spans_here : (n m : ℕ) → 0 < m → 0 < spans n n m
  spans_here n zero h = absurd (omega arith)
  spans_here n (suc m) h = rw (eq-eqb n n refl) (omega arith)

  module _ (s : State (Option Shown) View) (r : Ruled passes s) (id : ℕ) (v : View) (at : get_elem? s.views id ≡ some v) (first : v.number ≡ 0) (whole : v.parts ≡ passes) where
    -- the whole range is the one view's, so every other view is spent
    parts_zero : (j : ℕ) (u : View) → j ≢ id → get_elem? s.views j ≡ some u → Dec (0 < u.parts) → u.parts ≡ 0
    parts_zero j u ne e (no nothing) = omega arith
    parts_zero j u ne e (yes some_part) =
        let mine : owns u.number v ≡ spans u.number 0 passes = rw (first, whole) refl in
        absurd (omega (arith, mine, terms_le (owns u.number) s.views id j v u ne at e, r.owned u.number, spans_here u.number u.parts some_part))

    others_spent : (j : ℕ) (u : View) → j ≢ id → get_elem? s.views j ≡ some u → u ≡ spent_view
    others_spent j u ne e = (r.each j u e).spent (parts_zero j u ne e (dec_lt 0 u.parts))

    alone_of : (g : View → ℕ) → g spent_view ≡ 0 → total g s.views ≡ g v
    alone_of g zero_is = alone g s.views id v at (λ j u ne e. ap g (others_spent j u ne e) ∙ zero_is)

    word_free : v.turn ≡ false → slice_index s.words 0 % 2 ≡ 0
    word_free idle = omega (arith, r.turns, alone_of turn_of refl, turn_off v idle)

    made_all : (f : Step → ℕ) → total f v.made ≡ total f r.board.schedule
    made_all f = sym (alone_of (λ u. total f u.made) refl) ∙ r.made f

    no_job : {A : Type 0} (o : Option A) → flag o ≡ 0 → o ≡ None
    no_job None e = refl
    no_job (Some j) e = absurd (omega (arith, e))

    quiet : v.out ≡ None → (p : ℕ) → job_of (rules r.board) (state r.board) p ≡ None
    quiet out p = no_job (job_of (rules r.board) (state r.board) p) (sym (r.outs p) ∙ alone_of (out_of p) refl ∙ out_none p v.out out)

  -- what is known of the board once one view has the whole range
  pub record Left (v : View) (slots : List (Option Shown)) : Type 0 where
    pub board : Shown
    pub there : get_elem? slots 0 ≡ some (Some board)
    pub known : Begins v.known board
    pub heard : AllBegin v.heard board
    pub made : (f : Step → ℕ) → total f v.made ≡ total f board.schedule
    pub idle : IsQuiet board

  pub leaves : (id : ℕ) (v : View) (words : List ℕ) (slots : List (Option Shown)) → 0 < passes → v.number ≡ 0 → v.parts ≡ passes → v.turn ≡ false → v.out ≡ None
      → Final (Seen (Ruled passes) id v) words slots → Left v slots
  leaves id v words slots some_pass first whole idle out fin =
      let s = fin.0 in
      let r = fin.1.0 in
      let at = fin.1.1 in
      record {
        board = r.board;
        there = fin.4 0 (Some r.board) (r.home (word_free s r id v at first whole idle));
        known = (r.each id v at).known (omega arith);
        heard = (r.each id v at).heard;
        made = made_all s r id v at first whole;
        idle = quiet s r id v at first whole out;
      }
