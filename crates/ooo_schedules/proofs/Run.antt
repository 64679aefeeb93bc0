-- The sequential run: its places ascend, and what stands before an activation of it.
use Rattle.std.proofs.Common.{◌≡◌, ◌≢◌, ℕ, ◌<◌, ◌⊎◌, inl, inr, ⊎_elim, List, [], ◌∷◌, Some, refl, sym, ap, ◌∙◌, subst, arith}
use Rattle.ooo_schedules.specs.Model.{Front, front_at, In, count, Model, ActOf, Log, Earlier, IsEarlier, Conflict, Follows, Ordered, Next, Sequential, Laws}
use Rattle.ooo_schedules.proofs.Logs.{same_or_not, last_own, unique, numbered}
use Rattle.ooo_schedules.proofs.Places.{not_earlier, earlier_joins, not_both_earlier, earlier_then, compare_places}
use Rattle.ooo_schedules.proofs.Walks.{own_before}

-- x is in the log, just after the activations xs
abbrev pub At : {A : Type 0} → A → List A → List A → Type 0
At x xs [] = ⊥
At x xs (y ∷ ys) = (x ≡ y) × (xs ≡ ys) ⊎ At x xs ys

pub at_in : {A : Type 0} (x : A) (xs zs : List A) → At x xs zs → In x zs
at_in x xs [] a = absurd a
at_in x xs (y ∷ ys) a = ⊎_elim (λ h. inl h.0) (λ h. inr (at_in x xs ys h)) a

pub in_at : {A : Type 0} (x : A) (zs : List A) → In x zs → (xs : List A) × At x xs zs
in_at x [] i = absurd i
in_at x (y ∷ ys) i = ⊎_elim (λ e. (ys, inl (e, refl))) (λ j. let k = in_at x ys j in (k.0, inr k.1)) i

pub older_in : {A : Type 0} (x y : A) (xs zs : List A) → At x xs zs → In y xs → In y zs
older_in x y xs [] a i = absurd a
older_in x y xs (z ∷ zs) a i = ⊎_elim (λ h. inr (subst (In y) h.1 i)) (λ h. inr (older_in x y xs zs h i)) a

module _ (m : Model) (l : Laws m) where
  -- every front stands after all that was done
  abbrev pub Ahead : Log m → Type 0
  Ahead xs = (r : ℕ) (f : Front m.Stamp) → m.front xs r ≡ Some f → (y : ActOf m) → In y xs → Earlier m y.stamp y.process f.stamp r

  pub record Run (xs : Log m) : Type 0 where
    pub ordered : Ordered m xs
    pub ahead : Ahead xs

  next_follows : (x : ActOf m) (xs : Log m) → Next m x xs → Ordered m xs → Follows m x xs
  next_follows x xs n o = record {
    number = n.number;
    segment = l.owner xs x.process (front_at x) o n.front;
    later = own_before m l xs x.process (front_at x) o n.front;
  }

  -- after the front of least place, every front stands later
  pub ahead_next : (x : ActOf m) (xs : Log m) → Next m x xs → Run xs → (r : ℕ) (g : Front m.Stamp) → m.front (x ∷ xs) r ≡ Some g → Earlier m x.stamp x.process g.stamp r
  ahead_next x xs n h r g e = ⊎_elim own other (same_or_not r x.process)
    where
      own : r ≡ x.process → Earlier m x.stamp x.process g.stamp r
      own s = inl (l.own (x ∷ xs) r x g (last_own m.Stamp m.Reads r x xs (sym s)) e).1

      follows : Follows m x xs
      follows = next_follows x xs n h.ordered

      no_later : (y : ActOf m) → In y xs → IsEarlier m x y → (x.process ≢ y.process) × (Conflict m x.stamp x.segment y.stamp y.segment → ⊥)
      no_later y i k = absurd (not_both_earlier m l.order x.stamp x.process y.stamp y.process k (h.ahead x.process (front_at x) n.front y i))

      other : r ≢ x.process → Earlier m x.stamp x.process g.stamp r
      other s =
          ⊎_elim (λ w. earlier_then m l.order x.stamp x.process w.0.stamp g.stamp r (n.least r w.0 s w.1) w.3)
          (λ w. ⊎_elim (λ b. inl b) (λ k. absurd (s (sym (l.owner (x ∷ xs) r g (follows, h.ordered) e) ∙ ap m.process_of (sym k.1) ∙ follows.segment))) (l.forward x.segment x.stamp g.segment g.stamp (l.edges x.segment x.stamp g.segment g.stamp w)))
          (l.walk xs x r g h.ordered follows no_later s e)

  run_next : (x : ActOf m) (xs : Log m) → Next m x xs → Run xs → Run (x ∷ xs)
  run_next x xs n h = record {
    ordered = (next_follows x xs n h.ordered, h.ordered);
    ahead = λ r g e y i.
        let a = ahead_next x xs n h r g e in
        ⊎_elim (λ k. subst (λ z. Earlier m z.stamp z.process g.stamp r) (sym k) a)
        (λ k. earlier_joins m l.order y.stamp y.process x.stamp x.process g.stamp r (h.ahead x.process (front_at x) n.front y k) a) i;
  }

  pub run_of : (xs : Log m) → Sequential m xs → Run xs
  run_of [] q = record { ordered = tt; ahead = λ r f e y i. absurd i }
  run_of (x ∷ xs) q = run_next x xs q.0 (run_of xs q.1)

  -- ---- what stands before an activation of the run

  pub rest : (x : ActOf m) (xs zs : Log m) → At x xs zs → Sequential m zs → Sequential m xs × Next m x xs
  rest x xs [] a q = absurd a
  rest x xs (z ∷ zs) a q = ⊎_elim (λ h. (subst (Sequential m) (sym h.1) q.1, subst (λ t. Next m t xs) (sym h.0) (subst (Next m z) (sym h.1) q.0))) (λ h. rest x xs zs h q.1) a

  pub older_earlier : (x y : ActOf m) (xs zs : Log m) → At x xs zs → Sequential m zs → In y xs → IsEarlier m y x
  older_earlier x y xs zs a q i = let r = rest x xs zs a q in (run_of xs r.0).ahead x.process (front_at x) r.1.front y i

  pub earlier_older : (x y : ActOf m) (xs zs : Log m) → At x xs zs → Sequential m zs → In y zs → IsEarlier m y x → In y xs
  earlier_older x y xs [] a q i e = absurd a
  earlier_older x y xs (z ∷ zs) a q i e =
      ⊎_elim
      (λ h. ⊎_elim (λ k. absurd (not_earlier m l.order x.stamp x.process (subst (λ t. IsEarlier m t x) (k ∙ sym h.0) e))) (λ k. subst (In y) (sym h.1) k) i)
      (λ h. ⊎_elim (λ k. absurd (not_both_earlier m l.order y.stamp y.process x.stamp x.process e (subst (IsEarlier m x) (sym k) ((run_of zs q.1).ahead z.process (front_at z) q.0.front x (at_in x xs zs h))))) (λ k. earlier_older x y xs zs h q.1 k e) i)
      a

  pub smaller_older : (x y : ActOf m) (xs zs : Log m) → At x xs zs → Sequential m zs → In y zs → y.process ≡ x.process → y.number < x.number → In y xs
  smaller_older x y xs zs a q i p n =
      let r = rest x xs zs a q in
      let o = (run_of xs r.0).ordered in
      let e : x.number ≡ count x.process xs = r.1.number in
      let f = numbered m xs x.process y.number o (omega (arith, e, n)) in
      let s : f.0 ≡ y = unique m zs f.0 y (run_of zs q).ordered (older_in x f.0 xs zs a f.1) i (f.2 ∙ sym p) f.3 in
      subst (λ t. In t xs) s f.1

  -- the first activation of the run that isn't before a place
  pub data Split (s : m.Stamp) (p : ℕ) (zs : Log m) : Type 0 where
    all : ((x : ActOf m) → In x zs → Earlier m x.stamp x.process s p) → Split s p zs
    at : (x : ActOf m) (xs : Log m) → At x xs zs → ((y : ActOf m) → In y xs → Earlier m y.stamp y.process s p) → ((s ≡ x.stamp) × (p ≡ x.process) ⊎ Earlier m s p x.stamp x.process) → Split s p zs

  split_more : (s : m.Stamp) (p : ℕ) (z : ActOf m) (zs : Log m) → ((s ≡ z.stamp) × (p ≡ z.process) ⊎ Earlier m s p z.stamp z.process) → Split s p zs → Split s p (z ∷ zs)
  split_more s p z zs h (all f) = at z zs (inl (refl, refl)) f h
  split_more s p z zs h (at x xs a f k) = at x xs (inr a) f k

  pub split : (s : m.Stamp) (p : ℕ) (zs : Log m) → Sequential m zs → Split s p zs
  split s p [] q = all (λ x i. absurd i)
  split s p (z ∷ zs) q =
      ⊎_elim (λ e. split_more s p z zs (inr e) (split s p zs q.1))
      (λ h. ⊎_elim (λ e. split_more s p z zs (inl e) (split s p zs q.1))
      (λ e. all (λ x i. ⊎_elim (λ k. subst (λ t. Earlier m t.stamp t.process s p) (sym k) e) (λ k. earlier_joins m l.order x.stamp x.process z.stamp z.process s p ((run_of zs q.1).ahead z.process (front_at z) q.0.front x k) e) i)) h)
      (compare_places m l.order s p z.stamp z.process)
