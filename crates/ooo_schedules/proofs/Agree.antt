-- Every lawful schedule agrees with the sequential run.
use Rattle.std.proofs.Common.{◌≡◌, ◌≢◌, ℕ, ◌<◌, ◌≤◌, ◌⊎◌, inl, inr, ⊎_elim, true, [], ◌∷◌, Option, Some, None, refl, sym, ap, ◌∙◌, subst, arith}
use Rattle.ooo_schedules.specs.Model.{Front, front_at, In, count, last, Model, ActOf, Log, Earlier, IsEarlier, NotAfter, Conflict, Ordered, State, front_of, Allowed, job, dispatched, Lawful, empty, dispatch, commit, Dispatched, Next, Sequential, Laws}
use Rattle.ooo_schedules.proofs.Logs.{same_or_not, some_is, some_in, Lasts, none, some, lasts, below, unique, numbered}
use Rattle.ooo_schedules.proofs.Places.{less_or, earlier_before, not_earlier, earlier_joins, not_both_earlier, earlier_not_after, compare_places, then_not_after, not_after_joins}
use Rattle.ooo_schedules.proofs.Walks.{Good, Leads, own_before, own_walk, front_of_out, front_of_idle, dispatched_before, good}
use Rattle.ooo_schedules.proofs.Run.{At, at_in, in_at, older_in, run_of, rest, older_earlier, earlier_older, smaller_older, Split, all, at, split}

module _ (m : Model) (l : Laws m) (zs : Log m) (q : Sequential m zs) where
  -- the front of least place after the run
  abbrev pub IsLeastOf : Front m.Stamp → ℕ → Type 0
  IsLeastOf g p = (r : ℕ) (f : Front m.Stamp) → r ≢ p → m.front zs r ≡ Some f → Earlier m g.stamp p f.stamp r

  -- after all of the run, none of its activations, and not before some front that there is after the run
  pub record Beyond (y : ActOf m) : Type 0 where
    pub later : (x : ActOf m) → In x zs → IsEarlier m x y
    pub another : (x : ActOf m) → In x zs → x.process ≡ y.process → x.number ≡ y.number → ⊥
    pub first : (g : Front m.Stamp) → m.front zs y.process ≡ Some g → count y.process zs ≡ y.number → IsLeastOf g y.process → g ≡ front_at y
    pub due : (r : ℕ) × (g : Front m.Stamp) × (m.front zs r ≡ Some g) × (Earlier m g.stamp r y.stamp y.process ⊎ (g.stamp ≡ y.stamp) × (r ≡ y.process))

  -- each activation that was dispatched is the run's, or beyond the run
  abbrev pub Agrees : State m → Type 0
  Agrees st = (y : ActOf m) → Dispatched m y st → In y zs ⊎ Beyond y

  run_ordered : Ordered m zs
  run_ordered = (run_of m l zs q).ordered

  module _ (st : State m) (good : Good m st) (agrees : Agrees st) where
    -- the activation of that process and number is the run's
    pub settled : (y x : ActOf m) → Dispatched m y st → In x zs → x.process ≡ y.process → x.number ≡ y.number → y ≡ x
    settled y x d i p n = ⊎_elim (λ h. unique m zs y x run_ordered h i (sym p) (sym n)) (λ h. absurd (h.another x i p n)) (agrees y d)

    -- what is committed before an activation of the run is the run's
    pub earlier_in : (x : ActOf m) (xs : Log m) → At x xs zs → (y : ActOf m) → In y st.log → IsEarlier m y x → In y xs
    earlier_in x xs a y i e =
        ⊎_elim (λ h. earlier_older m l x y xs zs a q h e)
        (λ h. absurd (not_both_earlier m l.order x.stamp x.process y.stamp y.process (h.later x (at_in x xs zs a)) e)) (agrees y (inl i))

    pub present : (x : ActOf m) → In x zs → x.number < count x.process st.log → In x st.log
    present x i n =
        let f = numbered m st.log x.process x.number good.ordered n in
        subst (λ t. In t st.log) (settled f.0 x (inl f.1) i (sym f.2) (sym f.3)) f.1

    -- as many activations of a process: the same last one
    pub same_last : (p : ℕ) (xs : Log m) → Ordered m xs → ((y : ActOf m) → In y xs → In y zs) → count p st.log ≡ count p xs → last p st.log ≡ last p xs
    same_last p xs o sub e = at_both (lasts m p st.log good.ordered) (lasts m p xs o)
      where
        at_both : Lasts m p st.log → Lasts m p xs → last p st.log ≡ last p xs
        at_both (none a c) (none b d) = a ∙ sym b
        at_both (none a c) (some z b i h n) = absurd (omega (arith, c, e, n))
        at_both (some y a j k n) (none b d) = absurd (omega (arith, n, e, d))
        at_both (some y a j k n) (some z b i h w) = a ∙ ap Some (settled y z (inl j) (sub z i) (h ∙ sym k) (omega (arith, n, e, w))) ∙ sym b

    -- a missing activation has no later one of its own process committed
    pub missing_own : (z y : ActOf m) → In z zs → count z.process st.log ≤ z.number → In y st.log → IsEarlier m z y → z.process ≢ y.process
    missing_own z y i n j e p =
        let b = below m st.log y good.ordered j in
        let c = below m zs z run_ordered i in
        let s : count z.process st.log ≡ count y.process st.log = ap (λ t. count t st.log) p in
        let f = numbered m zs z.process y.number run_ordered (omega (arith, b, c, s, n)) in
        let k : y ≡ f.0 = settled y f.0 (inl j) f.1 (f.2 ∙ p) f.3 in
        let w = in_at z zs i in
        let u = smaller_older m l z f.0 w.0 zs w.1 q f.1 f.2 (let g : f.0.number ≡ y.number = f.3 in omega (arith, b, s, n, g)) in
        not_both_earlier m l.order z.stamp z.process y.stamp y.process e (subst (λ t. IsEarlier m t z) (sym k) (older_earlier m l z f.0 w.0 zs w.1 q u))

    run_segment : (z : ActOf m) → In z zs → m.process_of z.segment ≡ z.process
    run_segment z i = let w = in_at z zs i in let r = rest m l z w.0 zs w.1 q in l.owner w.0 z.process (front_at z) (run_of m l w.0 r.0).ordered r.1.front

    -- ---- each missing activation is reached from a front

    reached_at : (x : ActOf m) (xs : Log m) → At x xs zs → count x.process st.log ≤ x.number → ((z : ActOf m) → In z xs → count z.process st.log ≤ z.number → Leads m st (front_at z)) → Leads m st (front_at x)
    reached_at x xs a n ih = ⊎_elim fewer equal (less_or (count x.process st.log) x.number)
      where
        r : Sequential m xs × Next m x xs
        r = rest m l x xs zs a q

        o : Ordered m xs
        o = (run_of m l xs r.0).ordered

        sub : (y : ActOf m) → In y xs → In y zs
        sub y i = older_in x y xs zs a i

        onward : (z : ActOf m) → Leads m st (front_at z) → m.Reaches z.segment z.stamp x.segment x.stamp → Leads m st (front_at x)
        onward z w k = (w.0, w.1, w.2, l.joins w.1.segment w.1.stamp z.segment z.stamp x.segment x.stamp w.3 k)

        fewer_at : count x.process st.log < x.number → Lasts m x.process xs → Leads m st (front_at x)
        fewer_at h (none e c) = let k : x.number ≡ count x.process xs = r.1.number in absurd (omega (arith, h, c, k))
        fewer_at h (some z e i p c) =
            let k : x.number ≡ count x.process xs = r.1.number in
            let s : count z.process st.log ≡ count x.process st.log = ap (λ t. count t st.log) p in
            onward z (ih z i (omega (arith, h, c, k, s))) (l.edges z.segment z.stamp x.segment x.stamp (l.own xs x.process z (front_at x) e r.1.front).0)

        fewer : count x.process st.log < x.number → Leads m st (front_at x)
        fewer h = fewer_at h (lasts m x.process xs o)

        same : x.number ≤ count x.process st.log → last x.process st.log ≡ last x.process xs
        same h = let k : x.number ≡ count x.process xs = r.1.number in same_last x.process xs o sub (omega (arith, n, h, k))

        no_later : (z y : ActOf m) → In z xs → count z.process st.log ≤ z.number → In y st.log → IsEarlier m z y → (z.process ≢ y.process) × (Conflict m z.stamp z.segment y.stamp y.segment → ⊥)
        no_later z y i c j e =
            let w = ih z i c in
            let p = missing_own z y (sub z i) c j e in
            let s = run_segment z (sub z i) in
            (p, good.guarded y (inl j) w.0 w.1 w.2 z.segment z.stamp w.3 (λ t. p (sym s ∙ t)) (subst (λ t. Earlier m z.stamp t y.stamp y.process) (sym s) e))

        idle : x.number ≤ count x.process st.log → last x.process st.out ≡ None → Leads m st (front_at x)
        idle h e =
            ⊎_elim
            (λ w. (x.process, w.0, front_of_idle m l st x.process e ∙ w.1, subst (λ t. m.Reaches w.0.segment w.0.stamp t x.stamp) (l.segment st.log xs x.process w.0 (front_at x) (same h) w.1 r.1.front) (l.stays w.0.segment w.0.stamp x.stamp w.2)))
            (λ w. onward w.0 (ih w.0 w.1 w.2) w.3)
            (l.missing st.log xs x.process (front_at x) good.ordered o (same h) r.1.front (λ y i. older_earlier m l x y xs zs a q i) (λ y i e. earlier_in x xs a y i e) (λ y i c. present y (sub y i) c) no_later)

        at_job : x.number ≤ count x.process st.log → (j : Option (ActOf m)) → last x.process st.out ≡ j → Leads m st (front_at x)
        at_job h None e = idle h e
        at_job h (Some j) e =
            let i = some_in m.Stamp m.Reads x.process st.out j e in
            let c : j.number ≡ count x.process st.log = (good.follows j i.0).number ∙ ap (λ t. count t st.log) i.1 in
            let s : j ≡ x = settled j x (inr i.0) (at_in x xs zs a) (sym i.1) (omega (arith, c, h, n)) in
            (x.process, front_at x, front_of_out m l st x.process j e ∙ ap (λ t. Some (front_at t)) s, l.stays x.segment x.stamp x.stamp (inr refl))

        equal : x.number ≤ count x.process st.log → Leads m st (front_at x)
        equal h = at_job h (last x.process st.out) refl

    reached_in : (xs : Log m) → ((x : ActOf m) (ys : Log m) → At x ys xs → At x ys zs) → (x : ActOf m) → In x xs → count x.process st.log ≤ x.number → Leads m st (front_at x)
    reached_in [] sub x i n = absurd i
    reached_in (w ∷ ws) sub x i n =
        let ih : (z : ActOf m) → In z ws → count z.process st.log ≤ z.number → Leads m st (front_at z) = reached_in ws (λ x ys a. sub x ys (inr a)) in
        ⊎_elim (λ e. reached_at x ws (subst (λ t. At t ws zs) (sym e) (sub w ws (inl (refl, refl)))) n ih) (λ j. ih x j n) i

    pub reached_from : (x : ActOf m) → In x zs → count x.process st.log ≤ x.number → Leads m st (front_at x)
    reached_from x i n = reached_in zs (λ x ys a. a) x i n

    -- ---- dispatch

    module _ (p : ℕ) (f : Front m.Stamp) (a : Allowed m st p f) where
      front_is : front_of m st p ≡ Some f
      front_is = front_of_idle m l st p a.idle ∙ a.front

      owner_is : m.process_of f.segment ≡ p
      owner_is = l.owner st.log p f good.ordered a.front

      -- a missing activation of another process before the place conflicts with nothing there
      free_of : (z : ActOf m) → In z zs → count z.process st.log ≤ z.number → z.process ≢ p → Earlier m z.stamp z.process f.stamp p → Conflict m z.stamp z.segment f.stamp f.segment → ⊥
      free_of z i n k e c = ⊎_elim own other (same_or_not w.0 p)
        where
          w : Leads m st (front_at z)
          w = reached_from z i n

          s : m.process_of z.segment ≡ z.process
          s = run_segment z i

          e' : Earlier m z.stamp (m.process_of z.segment) f.stamp p
          e' = subst (λ t. Earlier m z.stamp t f.stamp p) (sym s) e

          own : w.0 ≡ p → ⊥
          own h =
              let g : w.1 ≡ f = some_is w.1 f (sym w.2 ∙ ap (front_of m st) h ∙ front_is) in
              own_walk m l p f z.segment z.stamp owner_is (subst (λ t. m.Reaches t.segment t.stamp z.segment z.stamp) g w.3) (λ t. k (sym s ∙ t)) e'

          other : w.0 ≢ p → ⊥
          other h = a.free w.0 w.1 h w.2 z.segment z.stamp w.3 (λ t. k (sym s ∙ t)) e' c

      -- the process's next activation in the run isn't before the place
      next_not_before : (x : ActOf m) → In x zs → x.process ≡ p → x.number ≡ count p st.log → Earlier m x.stamp p f.stamp p → ⊥
      next_not_before x i h n e = not_earlier m l.order x.stamp p (subst (λ t. Earlier m x.stamp p t p) (ap (λ t. t.stamp) front_same) e)
        where
          at_x : (xs : Log m) × At x xs zs
          at_x = in_at x zs i

          r : Sequential m at_x.0 × Next m x at_x.0
          r = rest m l x at_x.0 zs at_x.1 q

          o : Ordered m at_x.0
          o = (run_of m l at_x.0 r.0).ordered

          sub : (y : ActOf m) → In y at_x.0 → In y zs
          sub y j = older_in x y at_x.0 zs at_x.1 j

          counts : count p st.log ≡ count p at_x.0
          counts = sym n ∙ r.1.number ∙ ap (λ t. count t at_x.0) h

          same : last p st.log ≡ last p at_x.0
          same = same_last p at_x.0 o sub counts

          front_x : m.front at_x.0 p ≡ Some (front_at x)
          front_x = subst (λ t. m.front at_x.0 t ≡ Some (front_at x)) h r.1.front

          segment_same : f.segment ≡ x.segment
          segment_same = l.segment st.log at_x.0 p f (front_at x) same a.front front_x

          before_f : m.before x.stamp f.stamp
          before_f = ⊎_elim (λ b. b) (λ b. absurd (let k = b.1 in omega (arith, k))) e

          no_missing : (y : ActOf m) → In y at_x.0 → m.before y.stamp x.stamp → m.Wakes y.segment x.segment → count y.process st.log ≤ y.number → ⊥
          no_missing y j b w c =
              let k : y.process ≢ p = λ s.
              let d = below m at_x.0 y o j in
              let u : count y.process at_x.0 ≡ count p at_x.0 = ap (λ t. count t at_x.0) s in
              let v : count y.process st.log ≡ count p st.log = ap (λ t. count t st.log) s in
              absurd (omega (arith, d, u, v, c, counts)) in
              let bf : m.before y.stamp f.stamp = l.order.transitive y.stamp x.stamp f.stamp b before_f in
              free_of y (sub y j) c k (inl bf) (inr (bf, subst (λ t. m.Clash y.segment t true) (sym segment_same) (l.wakes y.segment x.segment w)))

          front_log : m.front st.log p ≡ Some (front_at x)
          front_log =
              l.same st.log at_x.0 p (front_at x) good.ordered o same front_x (λ y j b w. earlier_in x at_x.0 at_x.1 y j (inl b))
              (λ y j b w. ⊎_elim (λ c. present y (sub y j) c) (λ c. absurd (no_missing y j b w c)) (less_or y.number (count y.process st.log)))

          front_same : f ≡ front_at x
          front_same = some_is f (front_at x) (sym a.front ∙ front_log)

      -- the activations xs of the run are those before the place
      module _ (xs : Log m) (run : Sequential m xs) (sub : (y : ActOf m) → In y xs → In y zs) (before_place : (y : ActOf m) → In y xs → Earlier m y.stamp y.process f.stamp p) (old : (y : ActOf m) → In y st.log → Earlier m y.stamp y.process f.stamp p → In y xs) where
        o : Ordered m xs
        o = (run_of m l xs run).ordered

        own_stamp : (y : ActOf m) → In y st.log → y.process ≡ p → m.before y.stamp f.stamp
        own_stamp y j h = own_before m l st.log p f good.ordered a.front y j h

        no_fewer : count p st.log < count p xs → ⊥
        no_fewer h =
            let w = numbered m xs p (count p st.log) o h in
            next_not_before w.0 (sub w.0 w.1) w.2 w.3 (subst (λ t. Earlier m w.0.stamp t f.stamp p) w.2 (before_place w.0 w.1))

        no_more : count p xs < count p st.log → ⊥
        no_more h =
            let w = numbered m st.log p (count p xs) good.ordered h in
            let j = old w.0 w.1 (inl (own_stamp w.0 w.1 w.2)) in
            let b = below m xs w.0 o j in
            let s : count w.0.process xs ≡ count p xs = ap (λ t. count t xs) w.2 in
            let n : w.0.number ≡ count p xs = w.3 in
            omega (arith, b, s, n)

        counts : count p st.log ≡ count p xs
        counts = ⊎_elim (λ h. absurd (no_fewer h)) (λ h. ⊎_elim (λ k. absurd (no_more k)) (λ k. omega (arith, h, k)) (less_or (count p xs) (count p st.log))) (less_or (count p st.log) (count p xs))

        same : last p st.log ≡ last p xs
        same = same_last p xs o sub counts

        another : (y : ActOf m) → In y xs → count y.process st.log ≤ y.number → y.process ≢ p
        another y j c s =
            let d = below m xs y o j in
            let u : count y.process xs ≡ count p xs = ap (λ t. count t xs) s in
            let v : count y.process st.log ≡ count p st.log = ap (λ t. count t st.log) s in
            omega (arith, d, u, v, c, counts)

        no_conflict_there : (y : ActOf m) → In y xs → In y st.log ⊎ (Conflict m y.stamp y.segment f.stamp f.segment → ⊥)
        no_conflict_there y j = ⊎_elim (λ c. inl (present y (sub y j) c)) (λ c. inr (free_of y (sub y j) c (another y j c) (before_place y j))) (less_or y.number (count y.process st.log))

        front_xs : m.front xs p ≡ Some f
        front_xs =
            l.same xs st.log p f o good.ordered (sym same) a.front
            (λ y j b w. ⊎_elim (λ k. k) (λ k. absurd (k (inr (b, l.wakes y.segment f.segment w)))) (no_conflict_there y j))
            (λ y j b w. old y j (inl b))

        later_free : (y : ActOf m) → In y st.log → Earlier m f.stamp p y.stamp y.process → Conflict m y.stamp y.segment f.stamp f.segment → ⊥
        later_free y j e c =
            let n : m.process_of f.segment ≢ y.process = λ s. earlier_before m l.order f.stamp p y.stamp y.process e (own_stamp y j (sym s ∙ owner_is)) in
            ⊎_elim (λ k. good.guarded y (inl j) p f front_is f.segment f.stamp (l.stays f.segment f.stamp f.stamp (inr refl)) n (subst (λ t. Earlier m f.stamp t y.stamp y.process) (sym owner_is) e) (inl (l.mirrored y.segment f.segment k)))
            (λ k. earlier_before m l.order f.stamp p y.stamp y.process e k.0) c

        no_conflict_here : (y : ActOf m) → In y st.log → In y xs ⊎ (Conflict m y.stamp y.segment f.stamp f.segment → ⊥)
        no_conflict_here y j =
            ⊎_elim (λ e. inl (old y j e))
            (λ h. ⊎_elim (λ k. absurd (l.order.irreflexive f.stamp (subst (λ t. m.before t f.stamp) k.0 (own_stamp y j k.1)))) (λ e. inr (later_free y j e)) h)
            (compare_places m l.order y.stamp y.process f.stamp p)

        own_there : (y : ActOf m) → In y xs → y.process ≡ p → In y st.log
        own_there y j h =
            let b = below m xs y o j in
            let u : count y.process xs ≡ count p xs = ap (λ t. count t xs) h in
            let v : count y.process st.log ≡ count p st.log = ap (λ t. count t st.log) h in
            present y (sub y j) (omega (arith, b, u, v, counts))

        reads_same : m.reads st.log p f.segment f.stamp ≡ m.reads xs p f.segment f.stamp
        reads_same = l.reading st.log xs p f.segment f.stamp good.ordered o same (λ y j h. old y j (inl (own_stamp y j h))) own_there no_conflict_here no_conflict_there

      same_act : (y x : ActOf m) → y.process ≡ x.process → y.number ≡ x.number → y.segment ≡ x.segment → y.stamp ≡ x.stamp → y.reads ≡ x.reads → y ≡ x
      same_act y x a b c d e =
          ap (λ t. record { process = t; number = y.number; segment = y.segment; stamp = y.stamp; reads = y.reads }) a
          ∙ ap (λ t. record { process = x.process; number = t; segment = y.segment; stamp = y.stamp; reads = y.reads }) b
          ∙ ap (λ t. record { process = x.process; number = x.number; segment = t; stamp = y.stamp; reads = y.reads }) c
          ∙ ap (λ t. record { process = x.process; number = x.number; segment = x.segment; stamp = t; reads = y.reads }) d
          ∙ ap (λ t. record { process = x.process; number = x.number; segment = x.segment; stamp = x.stamp; reads = t }) e

      -- the run has an activation at the place or after it: it is the one at the place
      module _ (x : ActOf m) (xs : Log m) (at_x : At x xs zs) (before_place : (y : ActOf m) → In y xs → Earlier m y.stamp y.process f.stamp p) (place : (f.stamp ≡ x.stamp) × (p ≡ x.process) ⊎ Earlier m f.stamp p x.stamp x.process) where
        r : Sequential m xs × Next m x xs
        r = rest m l x xs zs at_x q

        sub_x : (y : ActOf m) → In y xs → In y zs
        sub_x y j = older_in x y xs zs at_x j

        earlier_x : (y : ActOf m) → Earlier m y.stamp y.process f.stamp p → IsEarlier m y x
        earlier_x y e = ⊎_elim (λ h. subst (λ t. Earlier m y.stamp y.process x.stamp t) h.1 (subst (λ t. Earlier m y.stamp y.process t p) h.0 e)) (λ h. earlier_joins m l.order y.stamp y.process f.stamp p x.stamp x.process e h) place

        not_x_earlier : Earlier m x.stamp x.process f.stamp p → ⊥
        not_x_earlier e = not_earlier m l.order x.stamp x.process (earlier_x x e)

        old_x : (y : ActOf m) → In y st.log → Earlier m y.stamp y.process f.stamp p → In y xs
        old_x y j e = earlier_in x xs at_x y j (earlier_x y e)

        counts_x : count p st.log ≡ count p xs
        counts_x = counts xs r.0 sub_x before_place old_x

        front_x : m.front xs p ≡ Some f
        front_x = front_xs xs r.0 sub_x before_place old_x

        process_is : p ≡ x.process
        process_is = ⊎_elim (λ e. e) (λ n. absurd (not_x_earlier (r.1.least p f n front_x))) (same_or_not p x.process)

        front_is_x : f ≡ front_at x
        front_is_x = some_is f (front_at x) (sym front_x ∙ ap (m.front xs) process_is ∙ r.1.front)

        job_is : job m st p f ≡ x
        job_is =
            same_act (job m st p f) x process_is (counts_x ∙ ap (λ t. count t xs) process_is ∙ sym r.1.number) (ap (λ t. t.segment) front_is_x) (ap (λ t. t.stamp) front_is_x)
            (reads_same xs r.0 sub_x before_place old_x ∙ ap (λ t. m.reads xs t f.segment f.stamp) process_is ∙ ap (λ t. m.reads xs x.process t.segment t.stamp) front_is_x ∙ sym r.1.reads)

      not_later : (y : ActOf m) → (y.stamp ≡ f.stamp) × (y.process ≡ p) ⊎ Earlier m f.stamp p y.stamp y.process → Earlier m y.stamp y.process f.stamp p → ⊥
      not_later y n e = ⊎_elim (λ k. not_earlier m l.order f.stamp p (subst (λ t. Earlier m f.stamp t f.stamp p) k.1 (subst (λ t. Earlier m t y.process f.stamp p) k.0 e))) (λ k. not_both_earlier m l.order y.stamp y.process f.stamp p e k) n

      -- all of the run is before the place
      module _ (before_place : (y : ActOf m) → In y zs → Earlier m y.stamp y.process f.stamp p) where
        another_number : (x : ActOf m) → In x zs → x.process ≡ p → x.number ≡ count p st.log → ⊥
        another_number x i s n = next_not_before x i s n (subst (λ t. Earlier m x.stamp t f.stamp p) s (before_place x i))

        -- what is committed before the place is the run's, or something of it is beyond the run
        any_beyond : (ys : Log m) → ((y : ActOf m) → In y ys → In y st.log) → ((y : ActOf m) → In y ys → Earlier m y.stamp y.process f.stamp p → In y zs) ⊎ ((y : ActOf m) × Beyond y × Earlier m y.stamp y.process f.stamp p)
        any_beyond [] sub = inl (λ y i. absurd i)
        any_beyond (y ∷ ys) sub =
            ⊎_elim
            (λ h. ⊎_elim (λ i. inl (λ x j e. ⊎_elim (λ k. subst (λ t. In t zs) (sym k) i) (λ k. h x k e) j))
            (λ b. ⊎_elim (λ e. inr (y, b, e)) (λ n. inl (λ x j e. ⊎_elim (λ k. absurd (not_later y n (subst (λ t. Earlier m t.stamp t.process f.stamp p) k e))) (λ k. h x k e) j)) (compare_places m l.order y.stamp y.process f.stamp p))
            (agrees y (inl (sub y (inl refl)))))
            (λ h. inr h)
            (any_beyond ys (λ x i. sub x (inr i)))

        due_of : (r : ℕ) × (g : Front m.Stamp) × (m.front zs r ≡ Some g) × (Earlier m g.stamp r f.stamp p ⊎ (g.stamp ≡ f.stamp) × (r ≡ p))
        due_of =
            ⊎_elim (λ old. (p, f, front_xs zs q (λ y i. i) before_place old, inr (refl, refl)))
            (λ b. (b.1.due.0, b.1.due.1, b.1.due.2, inl (⊎_elim (λ e. earlier_joins m l.order b.1.due.1.stamp b.1.due.0 b.0.stamp b.0.process f.stamp p e b.2) (λ e. subst (λ t. Earlier m t b.1.due.0 f.stamp p) (sym e.0) (subst (λ t. Earlier m b.0.stamp t f.stamp p) (sym e.1) b.2)) b.1.due.3)))
            (any_beyond st.log (λ y i. i))

        -- nothing beyond the run is before the front of least place after it
        not_before_least : (g : Front m.Stamp) → m.front zs p ≡ Some g → IsLeastOf g p → (r : ℕ) (f' : Front m.Stamp) → m.front zs r ≡ Some f' → NotAfter m g.stamp f'.stamp
        not_before_least g e least r f' k = ⊎_elim (λ h. inr (ap (λ t. t.stamp) (some_is g f' (sym e ∙ ap (m.front zs) (sym h) ∙ k)))) (λ h. earlier_not_after m l.order g.stamp p f'.stamp r (least r f' h k)) (same_or_not r p)

        first_is : (g : Front m.Stamp) → m.front zs p ≡ Some g → count p zs ≡ count p st.log → IsLeastOf g p → g ≡ f
        first_is g e c least = some_is g f (sym front_log ∙ a.front)
          where
            same_zs : last p st.log ≡ last p zs
            same_zs = same_last p zs run_ordered (λ y i. i) (sym c)

            g_f : NotAfter m g.stamp f.stamp
            g_f = let d = due_of in not_after_joins m l.order g.stamp d.1.stamp f.stamp (not_before_least g e least d.0 d.1 d.2) (⊎_elim (λ h. earlier_not_after m l.order d.1.stamp d.0 f.stamp p h) (λ h. inr h.0) d.3)

            in_run : (y : ActOf m) → In y st.log → m.before y.stamp g.stamp → In y zs
            in_run y i b =
                ⊎_elim (λ h. h)
                (λ h.
                let d = h.due in
                let n : NotAfter m g.stamp y.stamp = not_after_joins m l.order g.stamp d.1.stamp y.stamp (not_before_least g e least d.0 d.1 d.2) (⊎_elim (λ k. earlier_not_after m l.order d.1.stamp d.0 y.stamp y.process k) (λ k. inr k.0) d.3) in
                absurd (l.order.irreflexive y.stamp (then_not_after m l.order y.stamp g.stamp y.stamp b n))) (agrees y (inl i))

            another_zs : (y : ActOf m) → In y zs → count y.process st.log ≤ y.number → y.process ≢ p
            another_zs y j n s =
                let d = below m zs y run_ordered j in
                let u : count y.process zs ≡ count p zs = ap (λ t. count t zs) s in
                let v : count y.process st.log ≡ count p st.log = ap (λ t. count t st.log) s in
                omega (arith, d, u, v, n, c)

            in_log : (y : ActOf m) → In y zs → m.before y.stamp g.stamp → m.Wakes y.segment g.segment → In y st.log
            in_log y j b w =
                ⊎_elim (λ n. present y j n)
                (λ n.
                let bf : m.before y.stamp f.stamp = then_not_after m l.order y.stamp g.stamp f.stamp b g_f in
                absurd (free_of y j n (another_zs y j n) (before_place y j) (inr (bf, subst (λ t. m.Clash y.segment t true) (sym (l.segment st.log zs p f g same_zs a.front e)) (l.wakes y.segment g.segment w)))))
                (less_or y.number (count y.process st.log))

            front_log : m.front st.log p ≡ Some g
            front_log = l.same st.log zs p g good.ordered run_ordered same_zs e (λ y i b w. in_run y i b) in_log

      -- a dispatched job is the run's, or beyond the run
      job_agrees : In (job m st p f) zs ⊎ Beyond (job m st p f)
      job_agrees = at_split (split m l f.stamp p zs q)
        where
          at_split : Split m l f.stamp p zs → In (job m st p f) zs ⊎ Beyond (job m st p f)
          at_split (all h) = inr (record { later = h; another = λ x i s n. another_number h x i s n; first = first_is h; due = due_of h })
          at_split (at x xs k h w) = inl (subst (λ t. In t zs) (sym (job_is x xs k h w)) (at_in x xs zs k))

      agrees_dispatch : Agrees (dispatched m st p f)
      agrees_dispatch y d = ⊎_elim (λ i. agrees y (inl i)) (λ i. ⊎_elim (λ e. subst (λ t. In t zs ⊎ Beyond t) (sym e) job_agrees) (λ i. agrees y (inr i)) i) d

  pub agrees : (st : State m) → Lawful m st → Agrees st
  agrees _ empty = λ y d. ⊎_elim (λ i. absurd i) (λ i. absurd i) d
  agrees _ (dispatch {st} p f h a) = agrees_dispatch st (good m l st h) (agrees st h) p f a
  agrees _ (commit {st} j h i) = λ y d. agrees st h y (dispatched_before m l st j i y d)

  -- an activation that the run makes reads, in every lawful schedule, what it reads in the run
  pub job_reads : (st : State m) → Lawful m st → (y x : ActOf m) → Dispatched m y st → In x zs → x.process ≡ y.process → x.number ≡ y.number → y ≡ x
  job_reads st h y x d i p n = settled st (good m l st h) (agrees st h) y x d i p n
