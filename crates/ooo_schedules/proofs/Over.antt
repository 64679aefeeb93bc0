-- A board that is over has all of the run, and what else it has is beyond the run.
use Rattle.std.proofs.Common.{◌≡◌, ◌≢◌, ℕ, zero, suc, ◌<◌, ◌≤◌, ◌⊎◌, inl, inr, ⊎_elim, [], ◌∷◌, Option, Some, None, refl, sym, ap, ◌∙◌, subst, arith}
use Rattle.std.proofs.lemmas.Bool.{cases_order}
use Rattle.ooo_schedules.specs.Model.{Front, front_at, In, count, last, Model, ActOf, Log, Earlier, IsEarlier, NotAfter, Ordered, State, front_of, committed, Lawful, empty, dispatch, commit, Dispatched, Next, Sequential, Laws, Open, Kept, IsLeast, IsOver, Reported, Reports}
use Rattle.ooo_schedules.proofs.Logs.{same_or_not, some_is, below, unique, numbered, without_in}
use Rattle.ooo_schedules.proofs.Places.{less_or, not_earlier, not_both_earlier, then_not_after, not_after_joins, earlier_not_after, earlier_joins, compare_places}
use Rattle.ooo_schedules.proofs.Walks.{Good, own_before, front_of_idle, good}
use Rattle.ooo_schedules.proofs.Run.{At, in_at, older_in, run_of, rest, older_earlier, earlier_older, smaller_older}
use Rattle.ooo_schedules.proofs.Agree.{Beyond, Agrees, present, earlier_in, same_last, agrees}

pub kept_at : (m : Model) (x : ActOf m) (xs zs : Log m) → At x xs zs → Kept m zs → Open m xs x.stamp x.process
kept_at m x xs [] a k = absurd a
kept_at m x xs (z ∷ zs) a k = ⊎_elim (λ h. subst (λ t. Open m xs t.stamp t.process) (sym h.0) (subst (λ t. Open m t z.stamp z.process) (sym h.1) k.0)) (λ h. kept_at m x xs zs h k.1) a

module _ (m : Model) (l : Laws m) (zs : Log m) (q : Sequential m zs) (st : State m) (good : Good m st) (agrees : Agrees m l zs q st) where
  -- the first activation of the run that isn't committed
  module _ (x : ActOf m) (xs : Log m) (a : At x xs zs) (there : (y : ActOf m) → In y xs → y.number < count y.process st.log) where
    r : Sequential m xs × Next m x xs
    r = rest m l x xs zs a q

    o : Ordered m xs
    o = (run_of m l xs r.0).ordered

    sub : (y : ActOf m) → In y xs → In y zs
    sub y i = older_in x y xs zs a i

    in_log : (y : ActOf m) → In y xs → In y st.log
    in_log y i = present m l zs q st good agrees y (sub y i) (there y i)

    in_xs : (y : ActOf m) → In y st.log → IsEarlier m y x → In y xs
    in_xs y i e = earlier_in m l zs q st good agrees x xs a y i e

    no_fewer : (p : ℕ) → count p st.log < count p xs → ⊥
    no_fewer p h =
        let w = numbered m xs p (count p st.log) o h in
        let b = below m st.log w.0 good.ordered (in_log w.0 w.1) in
        let s : count w.0.process st.log ≡ count p st.log = ap (λ t. count t st.log) w.2 in
        let n : w.0.number ≡ count p st.log = w.3 in
        omega (arith, b, s, n)

    -- its place is a front of the board
    pub front_there : count x.process st.log ≤ x.number → m.front st.log x.process ≡ Some (front_at x)
    front_there gone =
        let n : x.number ≡ count x.process xs = r.1.number in
        let e : count x.process st.log ≡ count x.process xs = ⊎_elim (λ h. absurd (no_fewer x.process h)) (λ h. omega (arith, h, n, gone)) (less_or (count x.process st.log) (count x.process xs)) in
        l.same st.log xs x.process (front_at x) good.ordered o (same_last m l zs q st good agrees x.process xs o sub e) r.1.front (λ y i b w. in_xs y i (inl b)) (λ y i b w. in_log y i)

    -- an earlier front of the board is one of the run
    front_back : (p : ℕ) (g : Front m.Stamp) → m.front st.log p ≡ Some g → Earlier m g.stamp p x.stamp x.process → m.front xs p ≡ Some g
    front_back p g e h =
        let b : (y : ActOf m) → m.before y.stamp g.stamp → IsEarlier m y x = λ y k. inl (then_not_after m l.order y.stamp g.stamp x.stamp k (earlier_not_after m l.order g.stamp p x.stamp x.process h)) in
        let no_more : count p xs < count p st.log → ⊥ = λ k.
        let w = numbered m st.log p (count p xs) good.ordered k in
        let c = below m xs w.0 o (in_xs w.0 w.1 (b w.0 (own_before m l st.log p g good.ordered e w.0 w.1 w.2))) in
        let s : count w.0.process xs ≡ count p xs = ap (λ t. count t xs) w.2 in
        let n : w.0.number ≡ count p xs = w.3 in
        omega (arith, c, s, n) in
        let c : count p st.log ≡ count p xs = ⊎_elim (λ h. absurd (no_fewer p h)) (λ h. ⊎_elim (λ k. absurd (no_more k)) (λ k. omega (arith, h, k)) (less_or (count p xs) (count p st.log))) (less_or (count p st.log) (count p xs)) in
        l.same xs st.log p g o good.ordered (sym (same_last m l zs q st good agrees p xs o sub c)) e (λ y i d w. in_log y i) (λ y i d w. in_xs y i (b y d))

    -- and where nothing runs that of least place, below the cut
    module _ (gone : count x.process st.log ≤ x.number) (quiet : st.out ≡ []) where
      idle : (p : ℕ) → front_of m st p ≡ m.front st.log p
      idle p = front_of_idle m l st p (ap (last p) quiet)

      pub front_least : IsLeast m st x.process (front_at x)
      front_least p g n e =
          ⊎_elim (λ h. h)
          (λ h. ⊎_elim (λ k. absurd (n (sym k.1))) (λ k. r.1.least p g n (front_back p g (sym (idle p) ∙ e) k)) h)
          (compare_places m l.order x.stamp x.process g.stamp p)

      pub front_open : Kept m zs → Open m st.log x.stamp x.process
      front_open k = record {
        within = (kept_at m x xs zs a k).within;
        below = (kept_at m x xs zs a k).below;
        uncut = λ y i c.
            ⊎_elim (λ e. (kept_at m x xs zs a k).uncut y (in_xs y i e) c)
            (λ e. l.order.irreflexive x.stamp (subst (λ t. m.before t x.stamp) e.0 (own_before m l st.log x.process (front_at x) good.ordered (front_there gone) y i e.1)))
            (l.cuts y x.stamp x.process c);
      }

      pub not_over : Kept m zs → IsOver m st → ⊥
      not_over k over = over.shut x.process (front_at x) (idle x.process ∙ front_there gone) front_least (front_open k)

  all_there : Kept m zs → IsOver m st → (ys : Log m) → ((x : ActOf m) (xs : Log m) → At x xs ys → At x xs zs) → (y : ActOf m) → In y ys → y.number < count y.process st.log
  all_there k over [] sub y i = absurd i
  all_there k over (x ∷ xs) sub y i =
      let there : (y : ActOf m) → In y xs → y.number < count y.process st.log = all_there k over xs (λ x xs a. sub x xs (inr a)) in
      let here : x.number < count x.process st.log = ⊎_elim (λ h. h) (λ h. absurd (not_over x xs (sub x xs (inl (refl, refl))) there h over.quiet k over)) (less_or x.number (count x.process st.log)) in
      ⊎_elim (λ e. subst (λ t. t.number < count t.process st.log) (sym e) here) (λ j. there y j) i

  pub all_committed : Kept m zs → IsOver m st → (x : ActOf m) → In x zs → In x st.log
  all_committed k over x i = present m l zs q st good agrees x i (all_there k over zs (λ x xs a. a) x i)

still_dispatched : (m : Model) (st : State m) (j : ActOf m) → In j st.out → (y : ActOf m) → Dispatched m y (committed m st j) → Dispatched m y st
still_dispatched m st j i y d = ⊎_elim (λ k. ⊎_elim (λ e. inr (subst (λ x. In x st.out) (sym e) i)) (λ k. inl k) k) (λ k. inr (without_in m.Stamp m.Reads j.process st.out y k).0) d

-- no activation stands at the delta limit
pub never_at_limit : (m : Model) (st : State m) → Lawful m st → (y : ActOf m) → Dispatched m y st → m.AtLimit y.stamp → ⊥
never_at_limit m _ empty = λ y d. ⊎_elim (λ i. absurd i) (λ i. absurd i) d
never_at_limit m _ (dispatch {st} p f h a) = λ y d n. ⊎_elim (λ i. never_at_limit m st h y (inl i) n) (λ i. ⊎_elim (λ e. a.below (subst (λ t. m.AtLimit t.stamp) e n)) (λ i. never_at_limit m st h y (inr i) n) i) d
never_at_limit m _ (commit {st} j h i) = λ y d. never_at_limit m st h y (still_dispatched m st j i y d)

pub always_within : (m : Model) (st : State m) → Lawful m st → (y : ActOf m) → Dispatched m y st → m.Within y.stamp
always_within m _ empty = λ y d. ⊎_elim (λ i. absurd i) (λ i. absurd i) d
always_within m _ (dispatch {st} p f h a) = λ y d. ⊎_elim (λ i. always_within m st h y (inl i)) (λ i. ⊎_elim (λ e. subst (λ t. m.Within t.stamp) (sym e) a.within) (λ i. always_within m st h y (inr i)) i) d
always_within m _ (commit {st} j h i) = λ y d. always_within m st h y (still_dispatched m st j i y d)

-- ---- the front of least place after a log

module _ (m : Model) (l : Laws m) (zs : Log m) where
  pub data LeastBelow (n : ℕ) : Type 0 where
    no_front : ((r : ℕ) (g : Front m.Stamp) → r < n → m.front zs r ≡ Some g → ⊥) → LeastBelow n
    a_front : (p : ℕ) (f : Front m.Stamp) → m.front zs p ≡ Some f → p < n → ((r : ℕ) (g : Front m.Stamp) → r < n → r ≢ p → m.front zs r ≡ Some g → Earlier m f.stamp p g.stamp r) → LeastBelow n

  below_suc : (r n : ℕ) → r < suc n → r ≢ n → r < n
  below_suc r n h k = ⊎_elim (λ x. x) (λ x. absurd (k (omega (arith, x, h)))) (less_or r n)

  one_more : (n : ℕ) → (o : Option (Front m.Stamp)) → m.front zs n ≡ o → LeastBelow n → LeastBelow (suc n)
  one_more n None e (no_front h) = no_front (λ r g b k. ⊎_elim (λ s. let c : None ≡ Some g = sym e ∙ ap (m.front zs) (sym s) ∙ k in absurd cc) (λ s. h r g (below_suc r n b s) k) (same_or_not r n))
  one_more n None e (a_front p f k b h) = a_front p f k (omega (arith, b)) (λ r g c d w. ⊎_elim (λ s. let c : None ≡ Some g = sym e ∙ ap (m.front zs) (sym s) ∙ w in absurd cc) (λ s. h r g (below_suc r n c s) d w) (same_or_not r n))
  one_more n (Some x) e (no_front h) = a_front n x e (omega arith) (λ r g b d k. absurd (h r g (below_suc r n b d) k))
  one_more n (Some x) e (a_front p f k b h) =
      ⊎_elim
      (λ c. a_front p f k (omega (arith, b)) (λ r g u d w. ⊎_elim (λ s. subst (λ t. Earlier m f.stamp p t r) (ap (λ t. t.stamp) (some_is x g (sym e ∙ ap (m.front zs) (sym s) ∙ w))) (subst (λ t. Earlier m f.stamp p x.stamp t) (sym s) c)) (λ s. h r g (below_suc r n u s) d w) (same_or_not r n)))
      (λ c. ⊎_elim (λ s. let t = s.1 in absurd (omega (arith, t, b)))
      (λ c. a_front n x e (omega arith) (λ r g u d w. ⊎_elim (λ s. subst (λ t. Earlier m x.stamp n t r) (ap (λ t. t.stamp) (some_is f g (sym k ∙ ap (m.front zs) (sym s) ∙ w))) (subst (λ t. Earlier m x.stamp n f.stamp t) (sym s) c)) (λ s. earlier_joins m l.order x.stamp n f.stamp p g.stamp r c (h r g (below_suc r n u d) s w)) (same_or_not r p))) c)
      (compare_places m l.order f.stamp p x.stamp n)

  pub least_below : (n : ℕ) → LeastBelow n
  least_below zero = no_front (λ r g b k. absurd (omega (arith, b)))
  least_below (suc n) = one_more n (m.front zs n) refl (least_below n)

  pub least_front : Ordered m zs → (r : ℕ) (g : Front m.Stamp) → m.front zs r ≡ Some g → (p : ℕ) × (f : Front m.Stamp) × (m.front zs p ≡ Some f) × ((r : ℕ) (g : Front m.Stamp) → r ≢ p → m.front zs r ≡ Some g → Earlier m f.stamp p g.stamp r)
  least_front o r g e = at (least_below m.processes)
    where
      at : LeastBelow m.processes → (p : ℕ) × (f : Front m.Stamp) × (m.front zs p ≡ Some f) × ((r : ℕ) (g : Front m.Stamp) → r ≢ p → m.front zs r ≡ Some g → Earlier m f.stamp p g.stamp r)
      at (no_front h) = absurd (h r g (l.numbered zs r g o e) e)
      at (a_front p f k b h) = (p, f, k, λ r g n w. h r g (l.numbered zs r g o w) n w)

-- ---- what a board that is over reports

module _ (m : Model) (l : Laws m) (zs : Log m) (q : Sequential m zs) (kept : Kept m zs) (end : IsOver m (record { log = zs; out = [] })) (st : State m) (lawful : Lawful m st) (over : IsOver m st) where
  g : Good m st
  g = good m l st lawful

  a : Agrees m l zs q st
  a = agrees m l zs q st lawful

  run_o : Ordered m zs
  run_o = (run_of m l zs q).ordered

  has : (x : ActOf m) → In x zs → In x st.log
  has = all_committed m l zs q st g a kept over

  idle_front : (p : ℕ) → front_of m st p ≡ m.front st.log p
  idle_front p = front_of_idle m l st p (ap (last p) over.quiet)

  no_fewer_all : (p : ℕ) → count p st.log < count p zs → ⊥
  no_fewer_all p h =
      let w = numbered m zs p (count p st.log) run_o h in
      let b = below m st.log w.0 g.ordered (has w.0 w.1) in
      let s : count w.0.process st.log ≡ count p st.log = ap (λ t. count t st.log) w.2 in
      let n : w.0.number ≡ count p st.log = w.3 in
      omega (arith, b, s, n)

  module _ (p : ℕ) (f : Front m.Stamp) (front_f : m.front zs p ≡ Some f) (least : (r : ℕ) (h : Front m.Stamp) → r ≢ p → m.front zs r ≡ Some h → Earlier m f.stamp p h.stamp r) where
    -- what is committed before the front of least place after the run is the run's
    not_before : (r : ℕ) (h : Front m.Stamp) → m.front zs r ≡ Some h → NotAfter m f.stamp h.stamp
    not_before r h e = ⊎_elim (λ k. inr (ap (λ t. t.stamp) (some_is f h (sym front_f ∙ ap (m.front zs) (sym k) ∙ e)))) (λ k. earlier_not_after m l.order f.stamp p h.stamp r (least r h k e)) (same_or_not r p)

    beyond_not_before : (y : ActOf m) → Beyond m l zs q y → NotAfter m f.stamp y.stamp
    beyond_not_before y b = let d = b.due in not_after_joins m l.order f.stamp d.1.stamp y.stamp (not_before d.0 d.1 d.2) (⊎_elim (λ k. earlier_not_after m l.order d.1.stamp d.0 y.stamp y.process k) (λ k. inr k.0) d.3)

    in_run : (y : ActOf m) → In y st.log → m.before y.stamp f.stamp → In y zs
    in_run y i b = ⊎_elim (λ h. h) (λ h. absurd (l.order.irreflexive y.stamp (then_not_after m l.order y.stamp f.stamp y.stamp b (beyond_not_before y h)))) (a y (inl i))

    -- its process has done no more
    at_limit_last : m.AtLimit f.stamp → count p st.log ≡ count p zs
    at_limit_last n =
        let no_more : count p zs < count p st.log → ⊥ = λ k.
        let w = numbered m st.log p (count p zs) g.ordered k in
        ⊎_elim
        (λ i. let b = below m zs w.0 run_o i in let s : count w.0.process zs ≡ count p zs = ap (λ t. count t zs) w.2 in let e : w.0.number ≡ count p zs = w.3 in absurd (omega (arith, b, s, e)))
        (λ b.
        let e = b.first f (ap (m.front zs) w.2 ∙ front_f) (ap (λ t. count t zs) w.2 ∙ sym w.3) (λ r h d k. subst (λ t. Earlier m f.stamp t h.stamp r) (sym w.2) (least r h (λ x. d (x ∙ sym w.2)) k)) in
        never_at_limit m st lawful w.0 (inl w.1) (subst (λ t. m.AtLimit t.stamp) e n))
        (a w.0 (inl w.1)) in
        ⊎_elim (λ h. absurd (no_fewer_all p h)) (λ h. ⊎_elim (λ k. absurd (no_more k)) (λ k. omega (arith, h, k)) (less_or (count p zs) (count p st.log))) (less_or (count p st.log) (count p zs))

    -- so it is a front of the board
    pub at_limit_front : m.AtLimit f.stamp → m.front st.log p ≡ Some f
    at_limit_front n =
        l.same st.log zs p f g.ordered run_o (same_last m l zs q st g a p zs run_o (λ y i. i) (at_limit_last n)) front_f (λ y i b w. in_run y i b) (λ y i b w. has y i)

    -- and that of least place
    front_zs : (r : ℕ) (h : Front m.Stamp) → m.front st.log r ≡ Some h → Earlier m h.stamp r f.stamp p → m.front zs r ≡ Some h
    front_zs r h e k =
        let b : (y : ActOf m) → m.before y.stamp h.stamp → m.before y.stamp f.stamp = λ y x. then_not_after m l.order y.stamp h.stamp f.stamp x (earlier_not_after m l.order h.stamp r f.stamp p k) in
        let no_more : count r zs < count r st.log → ⊥ = λ k.
        let w = numbered m st.log r (count r zs) g.ordered k in
        let c = below m zs w.0 run_o (in_run w.0 w.1 (b w.0 (own_before m l st.log r h g.ordered e w.0 w.1 w.2))) in
        let s : count w.0.process zs ≡ count r zs = ap (λ t. count t zs) w.2 in
        let n : w.0.number ≡ count r zs = w.3 in
        omega (arith, c, s, n) in
        let c : count r st.log ≡ count r zs = ⊎_elim (λ h. absurd (no_fewer_all r h)) (λ h. ⊎_elim (λ k. absurd (no_more k)) (λ k. omega (arith, h, k)) (less_or (count r zs) (count r st.log))) (less_or (count r st.log) (count r zs)) in
        l.same zs st.log r h run_o g.ordered (sym (same_last m l zs q st g a r zs run_o (λ y i. i) c)) e (λ y i d w. has y i) (λ y i d w. in_run y i (b y d))

    pub at_limit_least : IsLeast m st p f
    at_limit_least r h n e =
        ⊎_elim (λ k. k)
        (λ k. ⊎_elim (λ k. absurd (n (sym k.1))) (λ k. least r h n (front_zs r h (sym (idle_front r) ∙ e) k)) k)
        (compare_places m l.order f.stamp p h.stamp r)

    -- nothing that the report shows is beyond the run
    not_shown : (y : ActOf m) → In y st.log → Beyond m l zs q y → Reported m st y → ⊥
    not_shown y i b shown = ⊎_elim limited opened (l.at_limit f.stamp)
      where
        f_y : NotAfter m f.stamp y.stamp
        f_y = beyond_not_before y b

        limited : m.AtLimit f.stamp → ⊥
        limited n = l.order.irreflexive y.stamp (then_not_after m l.order y.stamp f.stamp y.stamp (shown.before_limit p f (idle_front p ∙ at_limit_front n) at_limit_least n) f_y)

        due_place : Earlier m f.stamp p y.stamp y.process ⊎ (f.stamp ≡ y.stamp) × (p ≡ y.process)
        due_place =
            let d = b.due in
            ⊎_elim
            (λ s. let e : f ≡ d.1 = some_is f d.1 (sym front_f ∙ ap (m.front zs) (sym s) ∙ d.2) in subst (λ t. Earlier m t.stamp p y.stamp y.process ⊎ (t.stamp ≡ y.stamp) × (p ≡ y.process)) (sym e) (subst (λ t. Earlier m d.1.stamp t y.stamp y.process ⊎ (d.1.stamp ≡ y.stamp) × (t ≡ y.process)) s d.3))
            (λ s. inl (⊎_elim (λ k. earlier_joins m l.order f.stamp p d.1.stamp d.0 y.stamp y.process (least d.0 d.1 s d.2) k) (λ k. subst (λ t. Earlier m f.stamp p t y.process) k.0 (subst (λ t. Earlier m f.stamp p d.1.stamp t) k.1 (least d.0 d.1 s d.2))) d.3))
            (same_or_not d.0 p)

        opened : (m.AtLimit f.stamp → ⊥) → ⊥
        opened n =
            end.shut p f front_f (λ r h d k. least r h d k) (record {
              within = l.within_back f.stamp y.stamp f_y shown.within;
              below = n;
              uncut = λ z j c.
                  let k : m.Cuts z y.stamp y.process = ⊎_elim (λ e. l.cuts_on z f.stamp p y.stamp y.process c e) (λ e. subst (λ t. m.Cuts z t y.process) e.0 (subst (m.Cuts z f.stamp) e.1 c)) due_place in
                  not_earlier m l.order z.stamp z.process (subst (λ t. IsEarlier m z t) (sym (shown.uncut z (has z j) k)) (b.later z j));
            })

  only : (y : ActOf m) → In y st.log → Reported m st y → In y zs
  only y i shown =
      ⊎_elim (λ h. h)
      (λ b. let w = least_front m l zs run_o b.due.0 b.due.1 b.due.2 in absurd (not_shown w.0 w.1 w.2 w.3 y i b shown))
      (a y (inl i))

  shows : (x : ActOf m) → In x zs → Reported m st x
  shows x i = record { within = k.within; uncut = uncut; before_limit = before_limit }
    where
      w : (xs : Log m) × At x xs zs
      w = in_at x zs i

      k : Open m w.0 x.stamp x.process
      k = kept_at m x w.0 zs w.1 kept

      one_place : (z : ActOf m) → In z zs → (z.stamp ≡ x.stamp) × (z.process ≡ x.process) → z ≡ x
      one_place z j e =
          ⊎_elim (λ n. unique m zs z x run_o j i e.1 n)
          (λ h. absurd (⊎_elim
          (λ n. not_earlier m l.order x.stamp x.process (subst (λ t. Earlier m t x.process x.stamp x.process) e.0 (subst (λ t. Earlier m z.stamp t x.stamp x.process) e.1 (older_earlier m l x z w.0 zs w.1 q (smaller_older m l x z w.0 zs w.1 q j e.1 n)))))
          (λ n. let v = in_at z zs j in not_earlier m l.order x.stamp x.process (subst (λ t. Earlier m x.stamp x.process t x.process) e.0 (subst (λ t. Earlier m x.stamp x.process z.stamp t) e.1 (older_earlier m l z x v.0 zs v.1 q (smaller_older m l z x v.0 zs v.1 q i (sym e.1) n))))) h))
          (cases_order z.number x.number)

      uncut : (z : ActOf m) → In z st.log → m.Cuts z x.stamp x.process → z ≡ x
      uncut z j c =
          ⊎_elim
          (λ h. ⊎_elim (λ e. absurd (k.uncut z (earlier_older m l x z w.0 zs w.1 q h e) c)) (λ e. one_place z h e) (l.cuts z x.stamp x.process c))
          (λ b. let e = b.later x i in absurd (⊎_elim (λ k. not_both_earlier m l.order x.stamp x.process z.stamp z.process e k) (λ k. not_earlier m l.order x.stamp x.process (subst (λ t. Earlier m x.stamp x.process x.stamp t) k.1 (subst (λ t. Earlier m x.stamp x.process t z.process) k.0 e))) (l.cuts z x.stamp x.process c)))
          (a z (inl j))

      before_limit : (p : ℕ) (f : Front m.Stamp) → front_of m st p ≡ Some f → IsLeast m st p f → m.AtLimit f.stamp → m.before x.stamp f.stamp
      before_limit p f e least n = ⊎_elim own other (same_or_not x.process p)
        where
          e' : m.front st.log p ≡ Some f
          e' = sym (idle_front p) ∙ e

          own : x.process ≡ p → m.before x.stamp f.stamp
          own s = own_before m l st.log p f g.ordered e' x (has x i) s

          r : Next m x w.0
          r = (rest m l x w.0 zs w.1 q).1

          there : (y : ActOf m) → In y w.0 → y.number < count y.process st.log
          there y j = below m st.log y g.ordered (has y (older_in x y w.0 zs w.1 j))

          other : x.process ≢ p → m.before x.stamp f.stamp
          other s =
              ⊎_elim (λ b. b)
              (λ h. ⊎_elim (λ b. absurd (k.below (subst m.AtLimit (sym b) n)))
              (λ b.
              let x_f = r.least p f (λ t. s (sym t)) (front_back m l zs q st g a x w.0 w.1 there p f e' (inl b)) in
              absurd (not_both_earlier m l.order x.stamp x.process f.stamp p x_f (inl b))) h)
              (l.order.compare x.stamp f.stamp)

-- where all fronts after the run are beyond the stop time, nothing is beyond the run, and the board has the run's fronts: the ending is Time or Idle on both
module _ (m : Model) (l : Laws m) (zs : Log m) (q : Sequential m zs) (kept : Kept m zs) (st : State m) (lawful : Lawful m st) (over : IsOver m st) (out : (p : ℕ) (f : Front m.Stamp) → m.front zs p ≡ Some f → m.Within f.stamp → ⊥) where
  good_st : Good m st
  good_st = good m l st lawful

  agrees_st : Agrees m l zs q st
  agrees_st = agrees m l zs q st lawful

  zs_ordered : Ordered m zs
  zs_ordered = (run_of m l zs q).ordered

  pub all_run : (y : ActOf m) → In y st.log → In y zs
  all_run y i =
      ⊎_elim (λ h. h)
      (λ b. let d = b.due in absurd (out d.0 d.1 d.2 (l.within_back d.1.stamp y.stamp (⊎_elim (λ k. earlier_not_after m l.order d.1.stamp d.0 y.stamp y.process k) (λ k. inr k.0) d.3) (always_within m st lawful y (inl i)))))
      (agrees_st y (inl i))

  run_all : (x : ActOf m) → In x zs → In x st.log
  run_all = all_committed m l zs q st good_st agrees_st kept over

  count_same : (p : ℕ) → count p st.log ≡ count p zs
  count_same p =
      let fewer : (xs ys : Log m) → Ordered m xs → Ordered m ys → ((y : ActOf m) → In y ys → In y xs) → count p xs < count p ys → ⊥ = λ xs ys ox oy sub h.
      let w = numbered m ys p (count p xs) oy h in
      let b = below m xs w.0 ox (sub w.0 w.1) in
      let s : count w.0.process xs ≡ count p xs = ap (λ t. count t xs) w.2 in
      let n : w.0.number ≡ count p xs = w.3 in
      omega (arith, b, s, n) in
      ⊎_elim (λ h. absurd (fewer st.log zs good_st.ordered zs_ordered run_all h)) (λ h. ⊎_elim (λ k. absurd (fewer zs st.log zs_ordered good_st.ordered all_run k)) (λ k. omega (arith, h, k)) (less_or (count p zs) (count p st.log))) (less_or (count p st.log) (count p zs))

  last_same : (p : ℕ) → last p st.log ≡ last p zs
  last_same p = same_last m l zs q st good_st agrees_st p zs zs_ordered (λ y i. i) (count_same p)

  pub fronts_same : (p : ℕ) → m.front st.log p ≡ m.front zs p
  fronts_same p = at (m.front zs p) refl (m.front st.log p) refl
    where
      at : (a : Option (Front m.Stamp)) → m.front zs p ≡ a → (b : Option (Front m.Stamp)) → m.front st.log p ≡ b → m.front st.log p ≡ m.front zs p
      at (Some f) e b k = l.same st.log zs p f good_st.ordered zs_ordered (last_same p) e (λ y i c w. all_run y i) (λ y i c w. run_all y i) ∙ sym e
      at None e None k = k ∙ sym e
      at None e (Some g) k = k ∙ sym (l.same zs st.log p g zs_ordered good_st.ordered (sym (last_same p)) k (λ y i c w. run_all y i) (λ y i c w. all_run y i))

pub board_report : (m : Model) (l : Laws m) (zs : Log m) → Sequential m zs → Kept m zs → IsOver m (record { log = zs; out = [] }) → (st : State m) → Lawful m st → IsOver m st → Reports m zs st
board_report m l zs q k e st h over = record { has = has m l zs q k e st h over; shows = shows m l zs q k e st h over; only = only m l zs q k e st h over }
