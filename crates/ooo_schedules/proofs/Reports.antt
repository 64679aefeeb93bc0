-- The activations that a board reports which is over are those of the run, in their order.
use Rattle.std.proofs.Common.{◌≡◌, ◌≢◌, ℕ, zero, suc, ◌+◌, ◌<◌, ◌≤◌, ◌⊎◌, inl, inr, ⊎_elim, Bool, true, false, not, ◌&&◌, ◌||◌, ◌==◌, List, [], ◌∷◌, map, Option, Some, None, refl, sym, ap, ◌∙◌, subst, arith}
use Rattle.std.specs.List.{list_any}
use Rattle.std.proofs.lemmas.Bool.{eqb-true, eq-eqb}
use Rattle.ooo_time.specs.declared.stamp.Stamp.{Stamp}
use Rattle.ooo_time.specs.Stamps.{IsBefore, is_before}
use Rattle.ooo_meaning.specs.Runs.{numbers_from}
use Rattle.ooo_schedules.specs.Model.{Front, In, last, Model, Log, Laws, IsEarlier, Ordered, State, Lawful, Sequential, IsOver, IsLeast, Reported, Reports, front_of}
use Rattle.ooo_schedules.specs.Design.{Design, DesignLaws, is_earlier, model, sort}
use Rattle.ooo_schedules.specs.Program.{Program, ActIn, design, Sound}
use Rattle.ooo_schedules.specs.Endings.{Ending, BoardEnds, broke, stopped, limited, late, idle}
use Rattle.ooo_schedules.specs.Reports.{cuts_off, stamp_of, next_stamp, is_below_limit, is_reported, reported, RunsNext}
use Rattle.ooo_schedules.proofs.Logs.{same_or_not, some_is}
use Rattle.ooo_schedules.proofs.Places.{less_or, not_earlier, earlier_before, earlier_not_after}
use Rattle.ooo_schedules.proofs.Reaches.{irreflexive}
use Rattle.ooo_schedules.proofs.Walks.{Good, front_of_idle, good}
use Rattle.ooo_schedules.proofs.Run.{older_earlier}
use Rattle.ooo_schedules.proofs.Over.{always_within, least_front}
use Rattle.ooo_schedules.proofs.Sorts.{Desc, desc_same, only_desc, only_in, in_only, is_earlier_yes, is_earlier_no, sort_in, in_sort, sort_desc, soonest_source, soonest_some, soonest_is}
use Rattle.ooo_schedules.proofs.Programs.{is_yes, before_yes, design_laws, program_laws}

-- ---- tests

none_any : {A : Type 0} (test : A → Bool) (xs : List A) → list_any test xs ≡ false → (x : A) → In x xs → test x ≡ false
none_any test [] e x i = absurd i
none_any {A} test (y ∷ ys) e x i = at (test y) refl e (none_any test ys) i
  where
    at : (b : Bool) → test y ≡ b → (b || list_any test ys) ≡ false → (list_any test ys ≡ false → (z : A) → In z ys → test z ≡ false) → (x ≡ y) ⊎ In x ys → test x ≡ false
    at true h f rest j = absurd (let k : true ≡ false = f in cc)
    at false h f rest (inl k) = ap test k ∙ h
    at false h f rest (inr j) = rest f x j

any_none : {A : Type 0} (test : A → Bool) (xs : List A) → ((x : A) → In x xs → test x ≡ false) → list_any test xs ≡ false
any_none test [] h = refl
any_none test (x ∷ xs) h = ap (λ b. b || list_any test xs) (h x (inl refl)) ∙ any_none test xs (λ y i. h y (inr i))

yes_or_no : (b : Bool) → (b ≡ true) ⊎ (b ≡ false)
yes_or_no true = inl refl
yes_or_no false = inr refl

or_first : (a b c : Bool) → a ≡ true → ((a && b) || c) ≡ false → b ≡ false
or_first true true c h e = absurd (let k : true ≡ false = e in cc)
or_first true false c h e = refl
or_first false b c h e = absurd (let k : false ≡ true = h in cc)

or_second : (x d f : Bool) → d ≡ true → (x || (d && f)) ≡ false → f ≡ false
or_second true d f h e = absurd (let k : true ≡ false = e in cc)
or_second false true f h e = e
or_second false false f h e = absurd (let k : false ≡ true = h in cc)

or_yes : (a b d f : Bool) → ((a && b) || (d && f)) ≡ true → (a ≡ true) × (b ≡ true) ⊎ (d ≡ true) × (f ≡ true)
or_yes true true d f e = inl (refl, refl)
or_yes true false true f e = inr (refl, e)
or_yes false b true f e = inr (refl, e)
or_yes true false false f e = absurd (let k : false ≡ true = e in cc)
or_yes false b false f e = absurd (let k : false ≡ true = e in cc)

and_of : (a b : Bool) → (not a && b) ≡ true → (a ≡ false) × (b ≡ true)
and_of true b e = absurd (let k : false ≡ true = e in cc)
and_of false b e = (refl, e)

of_and : (a b : Bool) → a ≡ false → b ≡ true → (not a && b) ≡ true
of_and true b h e = absurd (let k : true ≡ false = h in cc)
of_and false b h e = e

not_or : (a b : Bool) → a ≡ true → (not a || b) ≡ true → b ≡ true
not_or true b h e = e
not_or false b h e = absurd (let k : false ≡ true = h in cc)

-- ---- numbers

in_numbers : (n m q : ℕ) → In q (numbers_from n m) → q < n + m
in_numbers n zero q i = absurd i
in_numbers n (suc m) q i = ⊎_elim (λ e. omega (arith, e)) (λ j. let k = in_numbers (n + 1) m q j in omega (arith, k)) i

numbers_in : (n m q : ℕ) → n ≤ q → q < n + m → In q (numbers_from n m)
numbers_in n zero q a b = absurd (omega (arith, a, b))
numbers_in n (suc m) q a b = ⊎_elim (λ e. inl (sym e)) (λ e. inr (numbers_in (n + 1) m q (at_least e) (omega (arith, b)))) (same_or_not n q)
  where
    at_least : n ≢ q → n + 1 ≤ q
    at_least e = ⊎_elim (λ k. absurd (e (omega (arith, a, k)))) (λ k. k) (less_or q (n + 1))

mapped_source : {A : Type 0} (f : ℕ → A) (xs : List ℕ) (y : A) → In y (map f xs) → (x : ℕ) × In x xs × (f x ≡ y)
mapped_source f [] y i = absurd i
mapped_source f (x ∷ xs) y i = ⊎_elim (λ e. (x, inl refl, sym e)) (λ j. let r = mapped_source f xs y j in (r.0, inr r.1, r.2)) i

in_mapped : {A : Type 0} (f : ℕ → A) (xs : List ℕ) (x : ℕ) → In x xs → In (f x) (map f xs)
in_mapped f [] x i = absurd i
in_mapped f (y ∷ ys) x i = ⊎_elim (λ e. inl (ap f e)) (λ j. inr (in_mapped f ys x j)) i

-- where a front's stamp comes from
stamp_source : (o : Option (Front Stamp)) (s : Stamp) → stamp_of o ≡ Some s → (f : Front Stamp) × (o ≡ Some f) × (f.stamp ≡ s)
stamp_source None s e = absurd (let k : None ≡ Some s = e in cc)
stamp_source (Some f) s e = (f, refl, some_is f.stamp s e)

module _ (p : Program) (h : Sound p) where
  abbrev D : Design
  D = design p

  abbrev DL : DesignLaws (design p)
  DL = design_laws p h

  abbrev M : Model
  M = model (design p)

  abbrev L : Laws M
  L = program_laws p h

  -- the activations of the run are in order of place
  run_desc : (zs : Log M) → Sequential M zs → Desc M zs
  run_desc [] q = tt
  run_desc (x ∷ xs) q = (λ z i. older_earlier M L x z xs (x ∷ xs) (inl (refl, refl)) q i, run_desc xs q.1)

  -- one activation stands at a place
  one_place : (xs : Log M) → Ordered M xs → (y z : ActIn p) → In y xs → In z xs → y.stamp ≡ z.stamp → y.process ≡ z.process → y ≡ z
  one_place [] o y z i j s q = absurd i
  one_place (x ∷ xs) o y z (inl i) (inl j) s q = i ∙ sym j
  one_place (x ∷ xs) o y z (inl i) (inr j) s q = absurd (irreflexive x.stamp (subst (λ t. IsBefore t x.stamp) (sym s ∙ ap (λ a. a.stamp) i) (o.0.later z j (sym q ∙ ap (λ a. a.process) i))))
  one_place (x ∷ xs) o y z (inr i) (inl j) s q = absurd (irreflexive x.stamp (subst (λ t. IsBefore t x.stamp) (s ∙ ap (λ a. a.stamp) j) (o.0.later y i (q ∙ ap (λ a. a.process) j))))
  one_place (x ∷ xs) o y z (inr i) (inr j) s q = one_place xs o.1 y z i j s q

  module _ (st : State M) (lawful : Lawful M st) (over : IsOver M st) where
    g : Good M st
    g = good M L st lawful

    abbrev stamps : List (Option Stamp)
    stamps = map (λ q. stamp_of (front_of M st q)) (numbers_from 0 p.processes)

    front_is : (q : ℕ) → front_of M st q ≡ M.front st.log q
    front_is q = front_of_idle M L st q (ap (last q) over.quiet)

    -- ---- the next stamp

    there : (q : ℕ) (f : Front Stamp) → front_of M st q ≡ Some f → In (Some f.stamp) stamps
    there q f e =
        let lt = L.numbered st.log q f g.ordered (sym (front_is q) ∙ e) in
        subst (λ o. In o stamps) (ap stamp_of e) (in_mapped (λ q. stamp_of (front_of M st q)) (numbers_from 0 p.processes) q (numbers_in 0 p.processes q (omega arith) (omega (arith, lt))))

    front_there : (s : Stamp) → In (Some s) stamps → (q : ℕ) × (f : Front Stamp) × (front_of M st q ≡ Some f) × (f.stamp ≡ s)
    front_there s i =
        let r = mapped_source (λ q. stamp_of (front_of M st q)) (numbers_from 0 p.processes) (Some s) i in
        let f = stamp_source (front_of M st r.0) s r.2 in
        (r.0, f.0, f.1, f.2)

    -- it is that of the front of least place
    next_is : (q : ℕ) (f : Front Stamp) → front_of M st q ≡ Some f → IsLeast M st q f → next_stamp p st ≡ Some f.stamp
    next_is q f e least = soonest_is D DL stamps f.stamp (there q f e) (λ u i. at u (front_there u i))
      where
        at : (u : Stamp) → (r : ℕ) × (c : Front Stamp) × (front_of M st r ≡ Some c) × (c.stamp ≡ u) → IsBefore f.stamp u ⊎ (f.stamp ≡ u)
        at u (r, c, k, s) =
            subst (λ t. IsBefore f.stamp t ⊎ (f.stamp ≡ t)) s
            (⊎_elim (λ n. inr (ap (λ x. x.stamp) (some_is f c (sym e ∙ ap (front_of M st) (sym n) ∙ k)))) (λ n. earlier_not_after M L.order f.stamp q c.stamp r (least r c n k)) (same_or_not r q))

    next_front : (s : Stamp) → next_stamp p st ≡ Some s → (q : ℕ) × (f : Front Stamp) × (front_of M st q ≡ Some f) × IsLeast M st q f × (f.stamp ≡ s)
    next_front s e =
        let a = front_there s (soonest_source D DL stamps s e) in
        let b = least_front M L st.log g.ordered a.0 a.1 (sym (front_is a.0) ∙ a.2) in
        let k : front_of M st b.0 ≡ Some b.1 = front_is b.0 ∙ b.2 in
        let least : IsLeast M st b.0 b.1 = (λ r c n i. b.3 r c n (sym (front_is r) ∙ i)) in
        (b.0, b.1, k, least, some_is b.1.stamp s (sym (next_is b.0 b.1 k least) ∙ e))

    -- ---- the test says what is reported

    -- what isn't cut off by the test is cut off by its own place at most
    cut_no : (z y : ActIn p) → cuts_off p z y ≡ false → M.Cuts z y.stamp y.process → (z.stamp ≡ y.stamp) × (z.process ≡ y.process)
    cut_no z y e (inr (stops, b)) = absurd (let k : true ≡ false = sym (before_yes z.stamp y.stamp b) ∙ or_second (p.breaks z && is_earlier D z y) (p.stops z) (is_before z.stamp y.stamp) stops e in cc)
    cut_no z y e (inl (breaks, c)) = ⊎_elim before (λ k. same k.0 k.1) c
      where
        not_earlier_is : is_earlier D z y ≡ false
        not_earlier_is = or_first (p.breaks z) (is_earlier D z y) (p.stops z && is_before z.stamp y.stamp) breaks e

        before : IsBefore z.stamp y.stamp → (z.stamp ≡ y.stamp) × (z.process ≡ y.process)
        before b = absurd (earlier_before M L.order y.stamp y.process z.stamp z.process (is_earlier_no D DL z y not_earlier_is (λ k. irreflexive y.stamp (subst (λ t. IsBefore t y.stamp) k.0 b))) b)

        same : z.stamp ≡ y.stamp → z.process ≤ y.process → (z.stamp ≡ y.stamp) × (z.process ≡ y.process)
        same s le =
            ⊎_elim (λ k. (s, k))
            (λ n.
            ⊎_elim (λ b. absurd (irreflexive y.stamp (subst (IsBefore y.stamp) s b))) (λ k. let lt = k.1 in absurd (omega (arith, lt, le)))
            (is_earlier_no D DL z y not_earlier_is (λ k. n k.1)))
            (same_or_not z.process y.process)

    cut_yes : (z y : ActIn p) → cuts_off p z y ≡ true → M.Cuts z y.stamp y.process × IsEarlier M z y
    cut_yes z y e =
        ⊎_elim (λ k. let b = is_earlier_yes D DL z y k.1 in (inl (k.0, ⊎_elim (λ t. inl t) (λ t. let lt = t.1 in inr (t.0, omega (arith, lt))) b), b))
        (λ k. let b = is_yes z.stamp y.stamp k.1 in (inr (k.0, b), inl b))
        (or_yes (p.breaks z) (is_earlier D z y) (p.stops z) (is_before z.stamp y.stamp) e)

    reported_of : (y : ActIn p) → In y st.log → is_reported p st y ≡ true → Reported M st y
    reported_of y j e = record { within = always_within M st lawful y (inl j); uncut = uncut; before_limit = before_limit }
      where
        both : (list_any (λ z. cuts_off p z y) st.log ≡ false) × (is_below_limit p.limit (next_stamp p st) y.stamp ≡ true)
        both = and_of (list_any (λ z. cuts_off p z y) st.log) (is_below_limit p.limit (next_stamp p st) y.stamp) e

        uncut : (z : ActIn p) → In z st.log → M.Cuts z y.stamp y.process → z ≡ y
        uncut z i c = let same = cut_no z y (none_any (λ z. cuts_off p z y) st.log both.0 z i) c in one_place st.log g.ordered z y i j same.0 same.1

        before_limit : (q : ℕ) (f : Front Stamp) → front_of M st q ≡ Some f → IsLeast M st q f → f.stamp.delta ≡ p.limit → IsBefore y.stamp f.stamp
        before_limit q f k least n =
            is_yes y.stamp f.stamp
            (not_or (f.stamp.delta == p.limit) (is_before y.stamp f.stamp) (eq-eqb f.stamp.delta p.limit n)
            (subst (λ o. is_below_limit p.limit o y.stamp ≡ true) (next_is q f k least) both.1))

    of_reported : (y : ActIn p) → Reported M st y → is_reported p st y ≡ true
    of_reported y rep = of_and (list_any (λ z. cuts_off p z y) st.log) (is_below_limit p.limit (next_stamp p st) y.stamp) (any_none (λ z. cuts_off p z y) st.log uncut) (below (next_stamp p st) refl)
      where
        uncut : (z : ActIn p) → In z st.log → cuts_off p z y ≡ false
        uncut z i =
            ⊎_elim (λ t. let c = cut_yes z y t in absurd (not_earlier M L.order y.stamp y.process (subst (λ x. IsEarlier M x y) (rep.uncut z i c.0) c.1))) (λ k. k)
            (yes_or_no (cuts_off p z y))

        below : (o : Option Stamp) → next_stamp p st ≡ o → is_below_limit p.limit o y.stamp ≡ true
        below None e = refl
        below (Some s) e = ⊎_elim at_limit (λ k. ap (λ b. not b || is_before y.stamp s) k) (yes_or_no (s.delta == p.limit))
          where
            at_limit : (s.delta == p.limit) ≡ true → (not (s.delta == p.limit) || is_before y.stamp s) ≡ true
            at_limit k =
                let f = next_front s e in
                let b : IsBefore y.stamp f.1.stamp = rep.before_limit f.0 f.1 f.2 f.3 (ap (λ t. t.delta) f.4 ∙ eqb-true s.delta p.limit k) in
                ap (λ b. not b || is_before y.stamp s) k ∙ before_yes y.stamp s (subst (IsBefore y.stamp) f.4 b)

    -- ---- the report is the run

    pub is_run : (zs : Log M) → Sequential M zs → Reports M zs st → reported p st ≡ zs
    is_run zs q rep =
        desc_same M L.order (reported p st) zs (only_desc M (is_reported p st) (sort D st.log) (sort_desc D DL st.log g.ordered)) (run_desc zs q) (λ z i. shown z i)
        (λ z i. in_only (is_reported p st) (sort D st.log) z (in_sort D DL st.log z (rep.has z i)) (of_reported z (rep.shows z i)))
      where
        shown : (z : ActIn p) → In z (reported p st) → In z zs
        shown z i =
            let k = only_in (is_reported p st) (sort D st.log) z i in
            let j = sort_in D DL st.log z k.0 in
            rep.only z j (reported_of z j k.1)

    -- ---- when it runs next

    pub runs_next : (e : Ending p) → BoardEnds p st e → RunsNext p e (next_stamp p st)
    runs_next _ (broke y i k b) = tt
    runs_next _ (stopped y i k s u) = tt
    runs_next _ (limited q f e least limit within u) = (next_is q f e least, within)
    runs_next _ (late q f e past u) =
        let s = soonest_some D DL stamps f.stamp (there q f e) in
        let c = front_there s.0 (soonest_source D DL stamps s.0 s.1) in
        (s.0, s.1, ⊎_elim (λ lt. lt) (λ le. absurd (past c.0 c.1 c.2 (subst (λ t. t.time.0 ≤ p.stop.0) (sym c.3) le))) (less_or p.stop.0 s.0.time.0))
    runs_next _ (idle none u) = at (next_stamp p st) refl
      where
        at : (o : Option Stamp) → next_stamp p st ≡ o → o ≡ None
        at None e = refl
        at (Some s) e = let c = front_there s (soonest_source D DL stamps s e) in absurd (let k : None ≡ Some c.1 = sym (none c.0) ∙ c.2 in cc)
