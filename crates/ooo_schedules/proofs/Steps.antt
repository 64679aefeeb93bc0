-- What each step leaves: what was allowed stays so, what runs is apart, there is no dead end, the limit's cut stays.
use Rattle.std.proofs.Common.{◌≡◌, ◌≢◌, ℕ, ◌⊎◌, inl, inr, ⊎_elim, false, [], ◌∷◌, Option, Some, None, refl, sym, ap, ◌∙◌, subst}
use Rattle.ooo_schedules.specs.Model.{Front, front_at, In, last, without, Model, ActOf, Earlier, NotAfter, Conflict, State, front_of, Allowed, job, dispatched, committed, Laws, IsLeast}
use Rattle.ooo_schedules.proofs.Logs.{same_or_not, some_is, some_in, none_in, last_other, last_own, last_without, last_gone}
use Rattle.ooo_schedules.proofs.Places.{earlier_before, not_both_earlier, earlier_not_after, not_after_then, then_not_after, compare_places}
use Rattle.ooo_schedules.proofs.Walks.{Good, leads, own_walk, front_of_out, front_of_idle, no_conflict, dispatch_fronts, good_commit, Walked, was, reached, walks}

module _ (m : Model) (l : Laws m) (st : State m) (good : Good m st) where
  -- a front is of a segment of its process
  pub front_owner : (r : ℕ) (g : Front m.Stamp) → front_of m st r ≡ Some g → m.process_of g.segment ≡ r
  front_owner r g e = at (last r st.out) refl
    where
      at : (x : Option (ActOf m)) → last r st.out ≡ x → m.process_of g.segment ≡ r
      at (Some j) s =
          let i = some_in m.Stamp m.Reads r st.out j s in
          let k : front_at j ≡ g = some_is (front_at j) g (sym (front_of_out m l st r j s) ∙ e) in
          ap m.process_of (sym (ap (λ t. t.segment) k)) ∙ (good.follows j i.0).segment ∙ i.1
      at None s = l.owner st.log r g good.ordered (sym (front_of_idle m l st r s) ∙ e)

module _ (m : Model) (l : Laws m) (st : State m) (good : Good m st) where
  -- an allowed segment has no plain clash with a job that is out, so neither writes a variable of the other
  pub apart : (p : ℕ) (f : Front m.Stamp) → Allowed m st p f → (j : ActOf m) → In j st.out → (m.Clash j.segment f.segment false → ⊥)
  apart p f a j i c = ⊎_elim before (λ h. ⊎_elim (λ e. n e.1) after h) (compare_places m l.order j.stamp j.process f.stamp p)
    where
      o : m.process_of j.segment ≡ j.process
      o = (good.follows j i).segment

      n : j.process ≡ p → ⊥
      n e = none_in m.Stamp m.Reads p st.out j a.idle i e

      before : Earlier m j.stamp j.process f.stamp p → ⊥
      before e = a.free j.process (front_at j) n (front_of_out m l st j.process j (good.alone j i)) j.segment j.stamp (l.stays j.segment j.stamp j.stamp (inr refl)) (λ h. n (sym o ∙ h)) (subst (λ t. Earlier m j.stamp t f.stamp p) (sym o) e) (inl c)

      k : m.process_of f.segment ≡ p
      k = l.owner st.log p f good.ordered a.front

      after : Earlier m f.stamp p j.stamp j.process → ⊥
      after e =
          good.guarded j (inr i) p f (front_of_idle m l st p a.idle ∙ a.front) f.segment f.stamp (l.stays f.segment f.stamp f.stamp (inr refl))
          (λ h. n (sym h ∙ k)) (subst (λ t. Earlier m f.stamp t j.stamp j.process) (sym k) e) (inl (l.mirrored j.segment f.segment c))

  -- and no two jobs out have one, so no variable is owned by one and owned or copied by the other
  pub jobs_apart : (j k : ActOf m) → In j st.out → In k st.out → j.process ≢ k.process → (m.Clash j.segment k.segment false → ⊥)
  jobs_apart j k i i' n c =
      ⊎_elim (λ e. no_conflict m l st good j i k (inr i') n e (inl c))
      (λ h. ⊎_elim (λ e. n e.1) (λ e. no_conflict m l st good k i' j (inr i) (λ z. n (sym z)) e (inl (l.mirrored j.segment k.segment c))) h)
      (compare_places m l.order j.stamp j.process k.stamp k.process)

  -- what is allowed stays so after a dispatch
  pub stays_dispatch : (p : ℕ) (f : Front m.Stamp) → Allowed m st p f → (r : ℕ) (g : Front m.Stamp) → r ≢ p → Allowed m st r g → Allowed m (dispatched m st p f) r g
  stays_dispatch p f a r g n b = record {
    idle = last_other m.Stamp m.Reads r (job m st p f) st.out (λ e. n (sym e)) ∙ b.idle;
    front = b.front;
    within = b.within;
    below = b.below;
    free = λ s h k e. b.free s h k (sym (dispatch_fronts m l st p f a s) ∙ e);
  }

  -- and after a commit
  module _ (j : ActOf m) (i : In j st.out) (p : ℕ) (f : Front m.Stamp) (a : Allowed m st p f) where
    another : j.process ≢ p
    another e = none_in m.Stamp m.Reads p st.out j a.idle i e

    owner_j : m.process_of j.segment ≡ j.process
    owner_j = (good.follows j i).segment

    owner_f : m.process_of f.segment ≡ p
    owner_f = l.owner st.log p f good.ordered a.front

    free_j : Earlier m j.stamp j.process f.stamp p → Conflict m j.stamp j.segment f.stamp f.segment → ⊥
    free_j e = a.free j.process (front_at j) another (front_of_out m l st j.process j (good.alone j i)) j.segment j.stamp (l.stays j.segment j.stamp j.stamp (inr refl)) (λ h. another (sym owner_j ∙ h)) (subst (λ t. Earlier m j.stamp t f.stamp p) (sym owner_j) e)

    front_after : m.front (j ∷ st.log) p ≡ Some f
    front_after =
        l.same (j ∷ st.log) st.log p f (good.follows j i, good.ordered) good.ordered (last_other m.Stamp m.Reads p j st.log another) a.front
        (λ y h b w. ⊎_elim (λ e. absurd (free_j (inl (subst (λ t. m.before t.stamp f.stamp) e b)) (inr (subst (λ t. m.before t.stamp f.stamp) e b, l.wakes j.segment f.segment (subst (λ t. m.Wakes t.segment f.segment) e w))))) (λ k. k) h)
        (λ y h b w. inr h)

    pub stays_commit : Allowed m (committed m st j) p f
    stays_commit = record {
      idle = last_without m.Stamp m.Reads p j.process st.out (λ e. another (sym e)) ∙ a.idle;
      front = front_after;
      within = a.within;
      below = a.below;
      free = λ r g n e b t w o k c.
          let x = leads m l st good j i r g e in
          let w' = l.joins x.1.segment x.1.stamp g.segment g.stamp b t x.3 w in
          ⊎_elim (λ h. own_walk m l p x.1 b t (subst (λ z. m.process_of z.segment ≡ p) (some_is f x.1 (sym (front_of_idle m l st p a.idle ∙ a.front) ∙ ap (front_of m st) (sym h) ∙ x.2)) owner_f) w' o (subst (λ z. Earlier m t (m.process_of b) z.stamp p) (some_is f x.1 (sym (front_of_idle m l st p a.idle ∙ a.front) ∙ ap (front_of m st) (sym h) ∙ x.2)) k))
          (λ h. a.free x.0 x.1 h x.2 b t w' o k c) (same_or_not x.0 p);
    }

    no_conflict_j : In j st.log ⊎ (Conflict m j.stamp j.segment f.stamp f.segment → ⊥)
    no_conflict_j =
        inr (λ c. ⊎_elim (λ e. free_j e c)
        (λ h. ⊎_elim (λ e. another e.1) (λ e. ⊎_elim (λ k. apart p f a j i k) (λ k. earlier_before m l.order f.stamp p j.stamp j.process e k.0) c) h) (compare_places m l.order j.stamp j.process f.stamp p))

    -- its job is the same
    pub same_reads : m.reads (j ∷ st.log) p f.segment f.stamp ≡ m.reads st.log p f.segment f.stamp
    same_reads =
        l.reading (j ∷ st.log) st.log p f.segment f.stamp (good.follows j i, good.ordered) good.ordered (last_other m.Stamp m.Reads p j st.log another)
        (λ y h e. ⊎_elim (λ k. absurd (another (sym (ap (λ t. t.process) k) ∙ e))) (λ k. k) h)
        (λ y h e. inr h)
        (λ y h. ⊎_elim (λ k. subst (λ t. In t st.log ⊎ (Conflict m t.stamp t.segment f.stamp f.segment → ⊥)) (sym k) no_conflict_j) (λ k. inl k) h)
        (λ y h. inl (inr h))

  -- where nothing runs, the front of least place is allowed
  pub no_dead_end : (p : ℕ) (f : Front m.Stamp) → st.out ≡ [] → front_of m st p ≡ Some f → IsLeast m st p f → m.Within f.stamp → (m.AtLimit f.stamp → ⊥) → Allowed m st p f
  no_dead_end p f e h least within below = record {
    idle = idle p;
    front = sym (front_of_idle m l st p (idle p)) ∙ h;
    within = within;
    below = below;
    free = λ r g n k b t w o x c.
        ⊎_elim (λ z. not_both_earlier m l.order f.stamp p g.stamp r (least r g n k) (inl (then_not_after m l.order g.stamp t f.stamp z (earlier_not_after m l.order t (m.process_of b) f.stamp p x))))
        (λ z. not_both_earlier m l.order f.stamp p g.stamp r (least r g n k) (subst (λ y. Earlier m g.stamp y f.stamp p) (sym (ap m.process_of z.1) ∙ owner_g r g k) (subst (λ y. Earlier m y (m.process_of b) f.stamp p) (sym z.0) x)))
        (l.forward g.segment g.stamp b t w);
  }
    where
      idle : (r : ℕ) → last r st.out ≡ None
      idle r = ap (last r) e

      owner_g : (r : ℕ) (g : Front m.Stamp) → front_of m st r ≡ Some g → m.process_of g.segment ≡ r
      owner_g r g k = l.owner st.log r g good.ordered (sym (front_of_idle m l st r (idle r)) ∙ k)

  -- a front that isn't after a job stays when the job is committed
  pub front_stays : (j : ActOf m) → In j st.out → (r : ℕ) (f : Front m.Stamp) → r ≢ j.process → front_of m st r ≡ Some f → NotAfter m f.stamp j.stamp → front_of m (committed m st j) r ≡ Some f
  front_stays j i r f n e h = at (last r st.out) refl
    where
      at : (x : Option (ActOf m)) → last r st.out ≡ x → front_of m (committed m st j) r ≡ Some f
      at (Some k) s = front_of_out m l (committed m st j) r k (last_without m.Stamp m.Reads r j.process st.out n ∙ s) ∙ sym (front_of_out m l st r k s) ∙ e
      at None s =
          front_of_idle m l (committed m st j) r (last_without m.Stamp m.Reads r j.process st.out n ∙ s)
          ∙ l.same (j ∷ st.log) st.log r f (good.follows j i, good.ordered) good.ordered (last_other m.Stamp m.Reads r j st.log (λ z. n (sym z))) (sym (front_of_idle m l st r s) ∙ e)
          (λ y k b w. ⊎_elim (λ z. absurd (l.order.irreflexive j.stamp (then_not_after m l.order j.stamp f.stamp j.stamp (subst (λ t. m.before t.stamp f.stamp) z b) h))) (λ z. z) k)
          (λ y k b w. inr k)

  -- so the front of least place, if it isn't the job's, is still that of least place
  pub least_stays : (j : ActOf m) → In j st.out → (p : ℕ) (f : Front m.Stamp) → p ≢ j.process → front_of m st p ≡ Some f → IsLeast m st p f → (front_of m (committed m st j) p ≡ Some f) × IsLeast m (committed m st j) p f
  least_stays j i p f n e least = (front_stays j i p f n e (earlier_not_after m l.order f.stamp p j.stamp j.process before_j), λ r g k h. at r g k (walks m l st good j i r g h) h)
    where
      own_later : (r : ℕ) (g : Front m.Stamp) → front_of m (committed m st j) r ≡ Some g → r ≡ j.process → m.before j.stamp g.stamp
      own_later r g u z =
          let gone : last r (without j.process st.out) ≡ None = subst (λ q. last q (without j.process st.out) ≡ None) (sym z) (last_gone m.Stamp m.Reads j.process st.out) in
          (l.own (j ∷ st.log) r j g (last_own m.Stamp m.Reads r j st.log (sym z)) (sym (front_of_idle m l (committed m st j) r gone) ∙ u)).1

      before_j : Earlier m f.stamp p j.stamp j.process
      before_j = least j.process (front_at j) (λ z. n (sym z)) (front_of_out m l st j.process j (good.alone j i))

      at : (r : ℕ) (g : Front m.Stamp) → r ≢ p → Walked m l st j r g → front_of m (committed m st j) r ≡ Some g → Earlier m f.stamp p g.stamp r
      at r g k (was x h s t) u = ⊎_elim (λ z. inl (then_not_after m l.order f.stamp x.stamp g.stamp z t)) (λ z. ⊎_elim (λ y. inl (subst (λ q. m.before q g.stamp) (sym z.0) y)) (λ y. inr (z.0 ∙ y, z.1)) t) (least r x k h)
      at r g k (reached w) u =
          ⊎_elim (λ z. inl (not_after_then m l.order f.stamp j.stamp g.stamp (earlier_not_after m l.order f.stamp p j.stamp j.process before_j) z))
          (λ z. inl (not_after_then m l.order f.stamp j.stamp g.stamp (earlier_not_after m l.order f.stamp p j.stamp j.process before_j) (own_later r g u (sym (front_owner m l (committed m st j) (good_commit m l st j good i) r g u) ∙ ap m.process_of (sym z.1) ∙ (good.follows j i).segment))))
          (l.forward j.segment j.stamp g.segment g.stamp (l.edges j.segment j.stamp g.segment g.stamp w))
