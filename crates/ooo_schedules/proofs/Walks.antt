-- What was allowed stays free of conflicts: walks, and no conflict out of order.
use Rattle.std.proofs.Common.{◌≡◌, ◌≢◌, ℕ, inl, inr, ⊎_elim, [], ◌∷◌, Option, Some, None, refl, sym, ap, ◌∙◌, subst}
use Rattle.ooo_schedules.specs.Model.{Front, front_at, In, last, without, Model, ActOf, Log, Earlier, IsEarlier, NotAfter, Conflict, Follows, Ordered, State, running_or, front_of, Allowed, job, dispatched, committed, Lawful, empty, dispatch, commit, Dispatched, Laws}
use Rattle.ooo_schedules.proofs.Logs.{same_or_not, some_is, none_in, last_other, last_own, count_other, without_in, last_without, last_gone, Lasts, none, some, lasts, own_below}
use Rattle.ooo_schedules.proofs.Places.{earlier_before}

-- ---- the invariant

-- whatever a front may still lead to conflicts with no later activation that was dispatched
abbrev pub Guarded : (m : Model) → State m → Type 0
Guarded m st =
    (y : ActOf m) → Dispatched m y st → (r : ℕ) (f : Front m.Stamp) → front_of m st r ≡ Some f → (b : ℕ) (t : m.Stamp) → m.Reaches f.segment f.stamp b t →
    m.process_of b ≢ y.process → Earlier m t (m.process_of b) y.stamp y.process → Conflict m t b y.stamp y.segment → ⊥

pub record Good (m : Model) (st : State m) : Type 0 where
  pub ordered : Ordered m st.log
  pub follows : (j : ActOf m) → In j st.out → Follows m j st.log
  pub alone : (j : ActOf m) → In j st.out → last j.process st.out ≡ Some j
  pub guarded : Guarded m st

abbrev pub Leads : (m : Model) → State m → Front m.Stamp → Type 0
Leads m st g = (r : ℕ) × (f : Front m.Stamp) × (front_of m st r ≡ Some f) × m.Reaches f.segment f.stamp g.segment g.stamp

module _ (m : Model) (l : Laws m) where
  pub front_of_out : (st : State m) (r : ℕ) (j : ActOf m) → last r st.out ≡ Some j → front_of m st r ≡ Some (front_at j)
  front_of_out st r j e = ap (λ x. running_or x (m.front st.log r)) e

  pub front_of_idle : (st : State m) (r : ℕ) → last r st.out ≡ None → front_of m st r ≡ m.front st.log r
  front_of_idle st r e = ap (λ x. running_or x (m.front st.log r)) e

  pub good_empty : Good m (record { log = []; out = [] })
  good_empty = record { ordered = tt; follows = λ j i. absurd i; alone = λ j i. absurd i; guarded = λ y d r f. ⊎_elim (λ i. absurd i) (λ i. absurd i) d }

  -- ---- dispatch

  -- all own activations stand before the front
  pub own_before : (xs : Log m) (q : ℕ) (f : Front m.Stamp) → Ordered m xs → m.front xs q ≡ Some f → (y : ActOf m) → In y xs → y.process ≡ q → m.before y.stamp f.stamp
  own_before xs q f o e y i p = at (lasts m q xs o)
    where
      at : Lasts m q xs → m.before y.stamp f.stamp
      at (none n c) = absurd (none_in m.Stamp m.Reads q xs y n i p)
      at (some z s k h c) = ⊎_elim (λ w. subst (λ t. m.before t.stamp f.stamp) (sym w) (l.own xs q z f s e).1) (λ w. l.order.transitive y.stamp z.stamp f.stamp w (l.own xs q z f s e).1) (own_below m xs q z y o s i p)

  pub job_follows : (st : State m) (p : ℕ) (f : Front m.Stamp) → Ordered m st.log → m.front st.log p ≡ Some f → Follows m (job m st p f) st.log
  job_follows st p f o e = record { number = refl; segment = l.owner st.log p f o e; later = own_before st.log p f o e }

  -- the fronts stay
  pub dispatch_fronts : (st : State m) (p : ℕ) (f : Front m.Stamp) → Allowed m st p f → (r : ℕ) → front_of m (dispatched m st p f) r ≡ front_of m st r
  dispatch_fronts st p f a r = ⊎_elim own other (same_or_not p r)
    where
      own : p ≡ r → front_of m (dispatched m st p f) r ≡ front_of m st r
      own e = front_of_out (dispatched m st p f) r (job m st p f) (last_own m.Stamp m.Reads r (job m st p f) st.out e) ∙ sym (subst (λ q. front_of m st q ≡ Some f) e (front_of_idle st p a.idle ∙ a.front))

      other : p ≢ r → front_of m (dispatched m st p f) r ≡ front_of m st r
      other n = ap (λ x. running_or x (m.front st.log r)) (last_other m.Stamp m.Reads r (job m st p f) st.out n)

  -- walks from a front of the process's own lead nowhere before
  pub own_walk : (p : ℕ) (f : Front m.Stamp) (b : ℕ) (t : m.Stamp) → m.process_of f.segment ≡ p → m.Reaches f.segment f.stamp b t → m.process_of b ≢ p → Earlier m t (m.process_of b) f.stamp p → ⊥
  own_walk p f b t o w n e =
      ⊎_elim (λ h. earlier_before m l.order t (m.process_of b) f.stamp p e h) (λ h. n (subst (λ x. m.process_of x ≡ p) h.1 o)) (l.forward f.segment f.stamp b t w)

  pub good_dispatch : (st : State m) (p : ℕ) (f : Front m.Stamp) → Good m st → Allowed m st p f → Good m (dispatched m st p f)
  good_dispatch st p f good a = record { ordered = good.ordered; follows = follows; alone = alone; guarded = guarded }
    where
      j : ActOf m
      j = job m st p f

      follows : (k : ActOf m) → In k (j ∷ st.out) → Follows m k st.log
      follows k i = ⊎_elim (λ e. subst (λ x. Follows m x st.log) (sym e) (job_follows st p f good.ordered a.front)) (λ i. good.follows k i) i

      alone : (k : ActOf m) → In k (j ∷ st.out) → last k.process (j ∷ st.out) ≡ Some k
      alone k i =
          ⊎_elim (λ e. last_own m.Stamp m.Reads k.process j st.out (sym (ap (λ x. x.process) e)) ∙ ap Some (sym e))
          (λ i. last_other m.Stamp m.Reads k.process j st.out (λ e. none_in m.Stamp m.Reads p st.out k a.idle i (sym e)) ∙ good.alone k i) i

      old : (y : ActOf m) → Dispatched m y st → (r : ℕ) (g : Front m.Stamp) → front_of m (dispatched m st p f) r ≡ Some g → (b : ℕ) (t : m.Stamp) → m.Reaches g.segment g.stamp b t → m.process_of b ≢ y.process → Earlier m t (m.process_of b) y.stamp y.process → Conflict m t b y.stamp y.segment → ⊥
      old y d r g e = good.guarded y d r g (sym (dispatch_fronts st p f a r) ∙ e)

      new : (r : ℕ) (g : Front m.Stamp) → front_of m st r ≡ Some g → (b : ℕ) (t : m.Stamp) → m.Reaches g.segment g.stamp b t → m.process_of b ≢ p → Earlier m t (m.process_of b) f.stamp p → Conflict m t b f.stamp f.segment → ⊥
      new r g e b t w n h c =
          ⊎_elim (λ s.
          let k : f ≡ g = some_is f g (sym (front_of_idle st p a.idle ∙ a.front) ∙ subst (λ q. front_of m st q ≡ Some g) s e) in
          own_walk p f b t (l.owner st.log p f good.ordered a.front) (subst (λ x. m.Reaches x.segment x.stamp b t) (sym k) w) n h)
          (λ s. a.free r g s e b t w n h c) (same_or_not r p)

      guarded : Guarded m (dispatched m st p f)
      guarded y d r g e b t w n h c =
          ⊎_elim (λ i. old y (inl i) r g e b t w n h c)
          (λ i. ⊎_elim (λ s. let x = new r g (sym (dispatch_fronts st p f a r) ∙ e) b t w in subst (λ z. m.process_of b ≢ z.process → Earlier m t (m.process_of b) z.stamp z.process → Conflict m t b z.stamp z.segment → ⊥) (sym s) x n h c) (λ i. old y (inr i) r g e b t w n h c) i) d

  -- ---- commit

  -- no conflict out of order: a job conflicts with nothing later that was dispatched before it is committed
  pub no_conflict : (st : State m) → Good m st → (x : ActOf m) → In x st.out → (y : ActOf m) → Dispatched m y st → x.process ≢ y.process → IsEarlier m x y → Conflict m x.stamp x.segment y.stamp y.segment → ⊥
  no_conflict st good x i y d n e c =
      let o = (good.follows x i).segment in
      good.guarded y d x.process (front_at x) (front_of_out st x.process x (good.alone x i)) x.segment x.stamp (l.stays x.segment x.stamp x.stamp (inr refl))
      (λ h. n (sym o ∙ h)) (subst (λ p. Earlier m x.stamp p y.stamp y.process) (sym o) e) c

  pub in_order : (st : State m) → Good m st → (x : ActOf m) → In x st.out → (y : ActOf m) → In y st.log → IsEarlier m x y → (x.process ≢ y.process) × (Conflict m x.stamp x.segment y.stamp y.segment → ⊥)
  in_order st good x i y k e =
      let n : x.process ≢ y.process = λ h. earlier_before m l.order x.stamp x.process y.stamp y.process e ((good.follows x i).later y k (sym h)) in
      (n, no_conflict st good x i y (inl k) n e)

  -- walks: each front after a commit was there, or is reached from the front that was committed
  pub data Walked (st : State m) (j : ActOf m) (r : ℕ) (g : Front m.Stamp) : Type 0 where
    was : (f : Front m.Stamp) → front_of m st r ≡ Some f → f.segment ≡ g.segment → NotAfter m f.stamp g.stamp → Walked st j r g
    reached : m.LeadsTo j.segment j.stamp g.segment g.stamp → Walked st j r g

  pub walks : (st : State m) → Good m st → (j : ActOf m) → In j st.out → (r : ℕ) (g : Front m.Stamp) → front_of m (committed m st j) r ≡ Some g → Walked st j r g
  walks st good j i r g e = ⊎_elim own other (same_or_not r j.process)
    where
      own : r ≡ j.process → Walked st j r g
      own h =
          let gone : last r (without j.process st.out) ≡ None = subst (λ q. last q (without j.process st.out) ≡ None) (sym h) (last_gone m.Stamp m.Reads j.process st.out) in
          reached (l.own (j ∷ st.log) r j g (last_own m.Stamp m.Reads r j st.log (sym h)) (sym (front_of_idle (committed m st j) r gone) ∙ e)).0

      at : r ≢ j.process → (x : Option (ActOf m)) → last r st.out ≡ x → Walked st j r g
      at n (Some k) s =
          let o : last r (without j.process st.out) ≡ Some k = last_without m.Stamp m.Reads r j.process st.out n ∙ s in
          was g (front_of_out st r k s ∙ sym (front_of_out (committed m st j) r k o) ∙ e) refl (inr refl)
      at n None s =
          let o : last r (without j.process st.out) ≡ None = last_without m.Stamp m.Reads r j.process st.out n ∙ s in
          ⊎_elim (λ h. was h.0 (front_of_idle st r s ∙ h.1) h.2 h.3) (λ h. reached h)
          (l.walk st.log j r g good.ordered (good.follows j i) (in_order st good j i) n (sym (front_of_idle (committed m st j) r o) ∙ e))

      other : r ≢ j.process → Walked st j r g
      other n = at n (last r st.out) refl

  pub leads : (st : State m) → Good m st → (j : ActOf m) → In j st.out → (r : ℕ) (g : Front m.Stamp) → front_of m (committed m st j) r ≡ Some g → Leads m st g
  leads st good j i r g e = at (walks st good j i r g e)
    where
      at : Walked st j r g → Leads m st g
      at (was f h s t) = (r, f, h, subst (λ x. m.Reaches f.segment f.stamp x g.stamp) s (l.stays f.segment f.stamp g.stamp t))
      at (reached w) = (j.process, front_at j, front_of_out st j.process j (good.alone j i), l.edges j.segment j.stamp g.segment g.stamp w)

  pub dispatched_before : (st : State m) (j : ActOf m) → In j st.out → (y : ActOf m) → Dispatched m y (committed m st j) → Dispatched m y st
  dispatched_before st j i y d =
      ⊎_elim (λ k. ⊎_elim (λ e. inr (subst (λ x. In x st.out) (sym e) i)) (λ k. inl k) k) (λ k. inr (without_in m.Stamp m.Reads j.process st.out y k).0) d

  pub good_commit : (st : State m) (j : ActOf m) → Good m st → In j st.out → Good m (committed m st j)
  good_commit st j good i = record { ordered = (good.follows j i, good.ordered); follows = follows; alone = alone; guarded = guarded }
    where
      follows : (k : ActOf m) → In k (without j.process st.out) → Follows m k (j ∷ st.log)
      follows k h =
          let w = without_in m.Stamp m.Reads j.process st.out k h in
          let f = good.follows k w.0 in
          record {
            number = f.number ∙ sym (count_other m.Stamp m.Reads k.process j st.log (λ e. w.1 (sym e)));
            segment = f.segment;
            later = λ y y_in e. ⊎_elim (λ s. absurd (w.1 (sym e ∙ ap (λ x. x.process) s))) (λ y_in. f.later y y_in e) y_in;
          }

      alone : (k : ActOf m) → In k (without j.process st.out) → last k.process (without j.process st.out) ≡ Some k
      alone k h = let w = without_in m.Stamp m.Reads j.process st.out k h in last_without m.Stamp m.Reads k.process j.process st.out w.1 ∙ good.alone k w.0

      guarded : Guarded m (committed m st j)
      guarded y d r g e b t w n h c =
          let o = leads st good j i r g e in
          good.guarded y (dispatched_before st j i y d) o.0 o.1 o.2 b t (l.joins o.1.segment o.1.stamp g.segment g.stamp b t o.3 w) n h c

  pub good : (st : State m) → Lawful m st → Good m st
  good _ empty = good_empty
  good _ (dispatch {st} p f h a) = good_dispatch st p f (good st h) a
  good _ (commit {st} j h i) = good_commit st j (good st h) i
