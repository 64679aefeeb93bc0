-- The fronts of a design: they meet what the board's rule asks of fronts.
use Rattle.std.proofs.Common.{◌≡◌, ◌≢◌, ℕ, ◌<◌, ◌≤◌, ◌⊎◌, inl, inr, ⊎_elim, Bool, true, false, List, [], ◌∷◌, map, Option, Some, None, if◌then◌else◌, refl, sym, ap, ◌∙◌, subst, arith}
use Rattle.ooo_schedules.specs.Model.{Front, In, count, last, Model, ActOf, Log, IsEarlier, Earlier, NotAfter, Conflict, Follows, Ordered, Laws}
use Rattle.ooo_schedules.specs.Design.{Wait, Design, DesignLaws, sort, only, slot, soonest, times, front_by, front_when, model, Not_after}
use Rattle.ooo_schedules.proofs.Logs.{some_is, some_in, below, last_other, segment_of}
use Rattle.ooo_schedules.proofs.Places.{less_or, not_after_then, then_not_after, not_after_joins, earlier_not_after, compare_places}
use Rattle.ooo_schedules.proofs.Sorts.{Desc, only_in, in_only, only_all, only_desc, desc_same, order, sort_in, in_sort, sort_desc, soonest_source, soonest_some, soonest_bound, soonest_is}

module _ (d : Design) (l : DesignLaws d) where
  abbrev pub M : Model
  M = model d

  -- ---- events

  slot_touched : (e : ℕ) (xs : Log M) → slot d e (only (d.touches e) xs) ≡ slot d e xs
  slot_touched e [] = refl
  slot_touched e (x ∷ xs) = at (slot_touched e xs) (d.touches e x) refl
    where
      at : slot d e (only (d.touches e) xs) ≡ slot d e xs → (b : Bool) → d.touches e x ≡ b → slot d e (if b then x ∷ only (d.touches e) xs else only (d.touches e) xs) ≡ d.step e x (slot d e xs)
      at rec true t = ap (d.step e x) rec
      at rec false t = rec ∙ sym (l.idle e x (slot d e xs) t)

  abbrev pub Upto : d.Stamp → ActOf M → Bool
  Upto t y = d.is_before y.stamp t

  upto_all : (t : d.Stamp) (x : ActOf M) (xs : Log M) → Desc M (x ∷ xs) → d.is_before x.stamp t ≡ true → only (Upto t) xs ≡ xs
  upto_all t x xs h e = only_all (Upto t) xs (λ y i. yes y.stamp (not_after_then M (order d l) y.stamp x.stamp t (earlier_not_after M (order d l) y.stamp y.process x.stamp x.process (h.0 y i)) (l.is_yes x.stamp t e)))
    where
      yes : (s : d.Stamp) → d.before s t → d.is_before s t ≡ true
      yes s b = at (d.is_before s t) refl
        where
          at : (z : Bool) → d.is_before s t ≡ z → z ≡ true
          at true p = refl
          at false p = absurd (l.irreflexive s (then_not_after M (order d l) s t s b (l.is_no s t p)))

  -- what is done at a stamp or later neither removes a firing up to it ..
  first_more : (e : ℕ) (xs : Log M) (since : Option d.Stamp) (t u : d.Stamp) → Desc M xs → Not_after d u t → d.first (slot d e (only (Upto t) xs)) since ≡ Some u → d.first (slot d e xs) since ≡ Some u
  first_more e [] since t u h n f = f
  first_more e (x ∷ xs) since t u h n f = at (first_more e xs since t u h.1 n) (d.is_before x.stamp t) refl f
    where
      at : (d.first (slot d e (only (Upto t) xs)) since ≡ Some u → d.first (slot d e xs) since ≡ Some u) → (b : Bool) → d.is_before x.stamp t ≡ b → d.first (slot d e (if b then x ∷ only (Upto t) xs else only (Upto t) xs)) since ≡ Some u → d.first (d.step e x (slot d e xs)) since ≡ Some u
      at rec true p f = subst (λ ys. d.first (d.step e x (slot d e ys)) since ≡ Some u) (upto_all t x xs h p) f
      at rec false p f = l.keeps e x (slot d e xs) since u (not_after_joins M (order d l) u t x.stamp n (l.is_no x.stamp t p)) (rec f)

  -- .. nor makes one
  first_less : (e : ℕ) (xs : Log M) (since : Option d.Stamp) (t u : d.Stamp) → Desc M xs → Not_after d u t → d.first (slot d e xs) since ≡ Some u → d.first (slot d e (only (Upto t) xs)) since ≡ Some u
  first_less e [] since t u h n f = f
  first_less e (x ∷ xs) since t u h n f = at (first_less e xs since t u h.1 n) (d.is_before x.stamp t) refl
    where
      at : (d.first (slot d e xs) since ≡ Some u → d.first (slot d e (only (Upto t) xs)) since ≡ Some u) → (b : Bool) → d.is_before x.stamp t ≡ b → d.first (slot d e (if b then x ∷ only (Upto t) xs else only (Upto t) xs)) since ≡ Some u
      at rec true p = subst (λ ys. d.first (d.step e x (slot d e ys)) since ≡ Some u) (sym (upto_all t x xs h p)) f
      at rec false p =
          let late : Not_after d t x.stamp = l.is_no x.stamp t p in
          rec (⊎_elim
          (λ w. let k = l.keeps e x (slot d e xs) since w.0 (not_after_joins M (order d l) w.0 u x.stamp w.2 (not_after_joins M (order d l) u t x.stamp n late)) w.1 in w.1 ∙ ap Some (some_is w.0 u (sym k ∙ f)))
          (λ w. absurd (l.irreflexive x.stamp (then_not_after M (order d l) x.stamp u x.stamp (l.noted e x u w) (not_after_joins M (order d l) u t x.stamp n late))))
          (l.makes e x (slot d e xs) since u f))

  -- what was done to an event before a stamp, in order
  abbrev pub done : ℕ → d.Stamp → Log M → Log M
  done e t xs = only (d.touches e) (only (Upto t) (sort d xs))

  done_desc : (e : ℕ) (t : d.Stamp) (xs : Log M) → Ordered M xs → Desc M (done e t xs)
  done_desc e t xs h = only_desc M (d.touches e) (only (Upto t) (sort d xs)) (only_desc M (Upto t) (sort d xs) (sort_desc d l xs h))

  record IsDone (e : ℕ) (t : d.Stamp) (xs : Log M) (y : ActOf M) : Type 0 where
    is_in : In y xs
    before : d.before y.stamp t
    touches : d.touches e y ≡ true

  done_is : (e : ℕ) (t : d.Stamp) (xs : Log M) (y : ActOf M) → In y (done e t xs) → IsDone e t xs y
  done_is e t xs y i =
      let a = only_in (d.touches e) (only (Upto t) (sort d xs)) y i in
      let b = only_in (Upto t) (sort d xs) y a.0 in
      record { is_in = sort_in d l xs y b.0; before = l.is_yes y.stamp t b.1; touches = a.1 }

  is_done : (e : ℕ) (t : d.Stamp) (xs : Log M) (y : ActOf M) → In y xs → d.before y.stamp t → d.touches e y ≡ true → In y (done e t xs)
  is_done e t xs y i b h = in_only (d.touches e) (only (Upto t) (sort d xs)) y (in_only (Upto t) (sort d xs) y (in_sort d l xs y i) (at (d.is_before y.stamp t) refl)) h
    where
      at : (z : Bool) → d.is_before y.stamp t ≡ z → z ≡ true
      at true p = refl
      at false p = absurd (l.irreflexive y.stamp (then_not_after M (order d l) y.stamp t y.stamp b (l.is_no y.stamp t p)))

  to_done : (e : ℕ) (xs : Log M) (since : Option d.Stamp) (t u : d.Stamp) → Ordered M xs → Not_after d u t → d.first (slot d e (sort d xs)) since ≡ Some u → d.first (slot d e (done e t xs)) since ≡ Some u
  to_done e xs since t u h n f = ap (λ s. d.first s since) (slot_touched e (only (Upto t) (sort d xs))) ∙ first_less e (sort d xs) since t u (sort_desc d l xs h) n f

  of_done : (e : ℕ) (xs : Log M) (since : Option d.Stamp) (t u : d.Stamp) → Ordered M xs → Not_after d u t → d.first (slot d e (done e t xs)) since ≡ Some u → d.first (slot d e (sort d xs)) since ≡ Some u
  of_done e xs since t u h n f = first_more e (sort d xs) since t u (sort_desc d l xs h) n (sym (ap (λ s. d.first s since) (slot_touched e (only (Upto t) (sort d xs)))) ∙ f)

  -- ---- fronts

  pub record FrontOf (xs : Log M) (q : ℕ) (f : Front d.Stamp) : Type 0 where
    pub wait : Wait d.Stamp
    pub waits : d.wait q (last q xs) ≡ Some wait
    pub segment : f.segment ≡ wait.segment
    pub stamp : soonest d (times d wait (sort d xs)) ≡ Some f.stamp

  pub front_of : (xs : Log M) (q : ℕ) (f : Front d.Stamp) → M.front xs q ≡ Some f → FrontOf xs q f
  front_of xs q f e = at (d.wait q (last q xs)) refl e
    where
      by : (w : Wait d.Stamp) → d.wait q (last q xs) ≡ Some w → (t : Option d.Stamp) → soonest d (times d w (sort d xs)) ≡ t → front_by w.segment t ≡ Some f → FrontOf xs q f
      by w p None s e = absurd cc
      by w p (Some t) s e = let k : record { segment = w.segment; stamp = t } ≡ f = some_is _ f e in record { wait = w; waits = p; segment = sym (ap (λ x. x.segment) k); stamp = s ∙ ap Some (ap (λ x. x.stamp) k) }

      at : (w : Option (Wait d.Stamp)) → d.wait q (last q xs) ≡ w → front_when d (sort d xs) w ≡ Some f → FrontOf xs q f
      at None p e = absurd cc
      at (Some w) p e = by w p (soonest d (times d w (sort d xs))) refl e

  in_map : {A B : Type 0} (f : A → B) (es : List A) (y : B) → In y (map f es) → (e : A) × In e es × (y ≡ f e)
  in_map f [] y i = absurd i
  in_map f (e ∷ es) y i = ⊎_elim (λ h. (e, inl refl, h)) (λ h. let r = in_map f es y h in (r.0, inr r.1, r.2)) i

  map_in : {A B : Type 0} (f : A → B) (es : List A) (e : A) → In e es → In (f e) (map f es)
  map_in f [] e i = absurd i
  map_in f (x ∷ xs) e i = ⊎_elim (λ h. inl (ap f h)) (λ h. inr (map_in f xs e h)) i

  -- a time at which a wait may end
  pub data Ends (w : Wait d.Stamp) (xs : Log M) (t : d.Stamp) : Type 0 where
    by_time : w.timeout ≡ Some t → Ends w xs t
    by_event : (e : ℕ) → In e w.events → d.first (slot d e (sort d xs)) w.since ≡ Some t → Ends w xs t

  pub ends_of : (w : Wait d.Stamp) (xs : Log M) (t : d.Stamp) → In (Some t) (times d w (sort d xs)) → Ends w xs t
  ends_of w xs t i = ⊎_elim (λ h. by_time (sym h)) (λ h. let r = in_map (λ e. d.first (slot d e (sort d xs)) w.since) w.events (Some t) h in by_event r.0 r.1 (sym r.2)) i

  pub of_ends : (w : Wait d.Stamp) (xs : Log M) (t : d.Stamp) → Ends w xs t → In (Some t) (times d w (sort d xs))
  of_ends w xs t (by_time h) = inl (sym h)
  of_ends w xs t (by_event e i h) = inr (subst (λ y. In y (map (λ e. d.first (slot d e (sort d xs)) w.since) w.events)) h (map_in (λ e. d.first (slot d e (sort d xs)) w.since) w.events e i))

  pub front_ends : (xs : Log M) (w : Wait d.Stamp) (t : d.Stamp) → soonest d (times d w (sort d xs)) ≡ Some t → Ends w xs t
  front_ends xs w t e = ends_of w xs t (soonest_source d l (times d w (sort d xs)) t e)

  pub front_is : (xs : Log M) (q : ℕ) (w : Wait d.Stamp) (t : d.Stamp) → d.wait q (last q xs) ≡ Some w → soonest d (times d w (sort d xs)) ≡ Some t → M.front xs q ≡ Some (record { segment = w.segment; stamp = t })
  front_is xs q w t a b = ap (front_when d (sort d xs)) a ∙ ap (front_by w.segment) b

  -- a wait that may end at a time has a front that isn't after it
  pub front_by_end : (xs : Log M) (q : ℕ) (w : Wait d.Stamp) (t : d.Stamp) → d.wait q (last q xs) ≡ Some w → Ends w xs t → (g : Front d.Stamp) × (M.front xs q ≡ Some g) × (g.segment ≡ w.segment) × NotAfter M g.stamp t
  front_by_end xs q w t a h =
      let r = soonest_some d l (times d w (sort d xs)) t (of_ends w xs t h) in
      (record { segment = w.segment; stamp = r.0 }, front_is xs q w r.0 a r.1, refl, r.2)

  -- ---- what the rule asks

  segment_law : (xs ys : Log M) (q : ℕ) (f g : Front d.Stamp) → last q xs ≡ last q ys → M.front xs q ≡ Some f → M.front ys q ≡ Some g → f.segment ≡ g.segment
  segment_law xs ys q f g s a b =
      let x = front_of xs q f a in
      let y = front_of ys q g b in
      x.segment ∙ ap (λ w. w.segment) (some_is x.wait y.wait (sym x.waits ∙ ap (d.wait q) s ∙ y.waits)) ∙ sym y.segment

  owner_law : (xs : Log M) (q : ℕ) (f : Front d.Stamp) → Ordered M xs → M.front xs q ≡ Some f → d.process_of f.segment ≡ q
  owner_law xs q f o a = ap d.process_of x.segment ∙ at (last q xs) refl
    where
      x : FrontOf xs q f
      x = front_of xs q f a

      at : (z : Option (ActOf M)) → last q xs ≡ z → d.process_of x.wait.segment ≡ q
      at None e = l.begins q x.wait (ap (d.wait q) (sym e) ∙ x.waits)
      at (Some z) e =
          let i = some_in d.Stamp d.Reads q xs z e in
          l.next q z x.wait (ap (d.wait q) (sym e) ∙ x.waits) ∙ segment_of M xs z o i.0 ∙ i.1

  numbered_law : (xs : Log M) (q : ℕ) (f : Front d.Stamp) → Ordered M xs → M.front xs q ≡ Some f → q < d.processes
  numbered_law xs q f o a = at (last q xs) refl
    where
      x : FrontOf xs q f
      x = front_of xs q f a

      at : (z : Option (ActOf M)) → last q xs ≡ z → q < d.processes
      at None e = l.starting q x.wait (ap (d.wait q) (sym e) ∙ x.waits)
      at (Some z) e =
          let k = l.going q z x.wait (ap (d.wait q) (sym e) ∙ x.waits) in
          subst (λ t. t < d.processes) (ap d.process_of (sym x.segment) ∙ owner_law xs q f o a) k

  own_law : (xs : Log M) (q : ℕ) (z : ActOf M) (f : Front d.Stamp) → last q xs ≡ Some z → M.front xs q ≡ Some f → d.LeadsTo z.segment z.stamp f.segment f.stamp × d.before z.stamp f.stamp
  own_law xs q z f s a = subst (λ t. d.LeadsTo z.segment z.stamp t f.stamp × d.before z.stamp f.stamp) (sym x.segment) (at (front_ends xs x.wait f.stamp x.stamp))
    where
      x : FrontOf xs q f
      x = front_of xs q f a

      waits : d.wait q (Some z) ≡ Some x.wait
      waits = ap (d.wait q) (sym s) ∙ x.waits

      at : Ends x.wait xs f.stamp → d.LeadsTo z.segment z.stamp x.wait.segment f.stamp × d.before z.stamp f.stamp
      at (by_time h) = l.timed q z x.wait f.stamp waits h
      at (by_event e i h) = l.fired q z x.wait e (slot d e (sort d xs)) f.stamp waits i h

  module _ (xs ys : Log M) (q : ℕ) (f : Front d.Stamp) (ox : Ordered M xs) (oy : Ordered M ys) (same : last q xs ≡ last q ys) (front_y : M.front ys q ≡ Some f) where
    abbrev y : FrontOf ys q f
    y = front_of ys q f front_y

    abbrev w : Wait d.Stamp
    w = y.wait

    waits_x : d.wait q (last q xs) ≡ Some w
    waits_x = ap (d.wait q) same ∙ y.waits

    f_is : record { segment = w.segment; stamp = f.stamp } ≡ f
    f_is = ap (λ t. record { segment = t; stamp = f.stamp }) (sym y.segment)

    module _ (to_y : (z : ActOf M) → In z xs → d.before z.stamp f.stamp → d.Wakes z.segment f.segment → In z ys) (to_x : (z : ActOf M) → In z ys → d.before z.stamp f.stamp → d.Wakes z.segment f.segment → In z xs) where
      wake : (e : ℕ) → In e w.events → (z : ActOf M) → d.touches e z ≡ true → d.Wakes z.segment f.segment
      wake e i z h = subst (d.Wakes z.segment) (sym y.segment) (l.wake e q z (last q ys) w y.waits i h)

      done_same : (e : ℕ) → In e w.events → done e f.stamp xs ≡ done e f.stamp ys
      done_same e i =
          desc_same M (order d l) (done e f.stamp xs) (done e f.stamp ys) (done_desc e f.stamp xs ox) (done_desc e f.stamp ys oy)
          (λ z h. let k = done_is e f.stamp xs z h in is_done e f.stamp ys z (to_y z k.is_in k.before (wake e i z k.touches)) k.before k.touches)
          (λ z h. let k = done_is e f.stamp ys z h in is_done e f.stamp xs z (to_x z k.is_in k.before (wake e i z k.touches)) k.before k.touches)

      first_x : (e : ℕ) → In e w.events → (u : d.Stamp) → Not_after d u f.stamp → d.first (slot d e (sort d ys)) w.since ≡ Some u → d.first (slot d e (sort d xs)) w.since ≡ Some u
      first_x e i u n h = of_done e xs w.since f.stamp u ox n (ap (λ t. d.first (slot d e t) w.since) (done_same e i) ∙ to_done e ys w.since f.stamp u oy n h)

      first_y : (e : ℕ) → In e w.events → (u : d.Stamp) → Not_after d u f.stamp → d.first (slot d e (sort d xs)) w.since ≡ Some u → d.first (slot d e (sort d ys)) w.since ≡ Some u
      first_y e i u n h = of_done e ys w.since f.stamp u oy n (ap (λ t. d.first (slot d e t) w.since) (sym (done_same e i)) ∙ to_done e xs w.since f.stamp u ox n h)

      ends_x : (u : d.Stamp) → Not_after d u f.stamp → Ends w ys u → Ends w xs u
      ends_x u n (by_time h) = by_time h
      ends_x u n (by_event e i h) = by_event e i (first_x e i u n h)

      ends_y : (u : d.Stamp) → Not_after d u f.stamp → Ends w xs u → Ends w ys u
      ends_y u n (by_time h) = by_time h
      ends_y u n (by_event e i h) = by_event e i (first_y e i u n h)

      bound : (u : d.Stamp) → In (Some u) (times d w (sort d xs)) → Not_after d f.stamp u
      bound u i =
          let old : Not_after d u f.stamp → Not_after d f.stamp u = λ n. soonest_bound d l (times d w (sort d ys)) f.stamp u y.stamp (of_ends w ys u (ends_y u n (ends_of w xs u i))) in
          ⊎_elim (λ h. inl h) (λ h. ⊎_elim (λ k. inr k) (λ k. old (inl k)) h) ((order d l).compare f.stamp u)

      same_law : M.front xs q ≡ Some f
      same_law =
          front_is xs q w f.stamp waits_x (soonest_is d l (times d w (sort d xs)) f.stamp (of_ends w xs f.stamp (ends_x f.stamp (inr refl) (front_ends ys w f.stamp y.stamp))) bound)
          ∙ ap Some f_is

    -- the activations of ys that xs lacks come after those that it has, event by event
    module _
        (late : (z : ActOf M) → In z xs → Earlier M z.stamp z.process f.stamp q → In z ys)
        (there : (z : ActOf M) → In z ys → z.number < count z.process xs → In z xs)
        (free : (z u : ActOf M) → In z ys → count z.process xs ≤ z.number → In u xs → IsEarlier M z u → (z.process ≢ u.process) × (Conflict M z.stamp z.segment u.stamp u.segment → ⊥)) where
      abbrev Goal : ℕ → d.Stamp → Type 0
      Goal e t = ((u : d.Stamp) × (d.first (slot d e (done e f.stamp xs)) w.since ≡ Some u) × Not_after d u t) ⊎ ((z : ActOf M) × In z ys × (count z.process xs ≤ z.number) × d.Reaches z.segment z.stamp w.segment t)

      goal_more : (e : ℕ) (t u : d.Stamp) → Not_after d t u → Goal e t → Goal e u
      goal_more e t u n g =
          ⊎_elim (λ h. inl (h.0, h.1, not_after_joins M (order d l) h.0 t u h.2 n))
          (λ h. inr (h.0, h.1, h.2, l.joins h.0.segment h.0.stamp w.segment t w.segment u h.3 (l.stays w.segment t u n))) g

      module _ (e : ℕ) (i : In e w.events) where
        -- where xs has the last of them it has them all
        has_all : (z : ActOf M) (zs : Log M) → Desc M (z ∷ zs) → ((u : ActOf M) → In u (z ∷ zs) → IsDone e f.stamp ys u) → In z xs → (u : ActOf M) → In u zs → IsDone e f.stamp ys u → In u xs
        has_all z zs h sub z_there u j u_in =
            ⊎_elim (λ c. there u u_in.is_in c)
            (λ c. let k = free u z u_in.is_in c z_there (h.0 u j) in absurd (⊎_elim (λ p. k.0 (sym (segment_of M ys u oy u_in.is_in) ∙ p ∙ segment_of M xs z ox z_there)) (λ c. k.1 (inl c)) (l.joint e u z u_in.touches (sub z (inl refl)).touches)))
            (less_or u.number (count u.process xs))

        -- through the missing ones down to those that xs has
        down : (zs : Log M) (t : d.Stamp) → Desc M zs → ((u : ActOf M) → In u zs → IsDone e f.stamp ys u) → ((u : ActOf M) → In u (done e f.stamp xs) → In u zs) → d.first (slot d e zs) w.since ≡ Some t → Goal e t
        down [] t h sub all k =
            let s : done e f.stamp xs ≡ [] = desc_same M (order d l) (done e f.stamp xs) [] (done_desc e f.stamp xs ox) tt all (λ z j. absurd j) in
            inl (t, ap (λ x. d.first (slot d e x) w.since) s ∙ k, inr refl)
        down (z ∷ zs) t h sub all k =
            let z_in : IsDone e f.stamp ys z = sub z (inl refl) in
            let has : z.number < count z.process xs → Goal e t = λ n.
            let z_there = there z z_in.is_in n in
            let back : (u : ActOf M) → In u (z ∷ zs) → In u (done e f.stamp xs) = λ u j.
            let u_in = sub u j in
            is_done e f.stamp xs u (⊎_elim (λ s. subst (λ x. In x xs) (sym s) z_there) (λ s. has_all z zs h sub z_there u s u_in) j) u_in.before u_in.touches in
            let s : done e f.stamp xs ≡ z ∷ zs = desc_same M (order d l) (done e f.stamp xs) (z ∷ zs) (done_desc e f.stamp xs ox) h all back in
            inl (t, ap (λ x. d.first (slot d e x) w.since) s ∙ k, inr refl) in
            let lacks : count z.process xs ≤ z.number → Goal e t = λ n.
            let all' : (u : ActOf M) → In u (done e f.stamp xs) → In u zs = λ u j. ⊎_elim (λ s. let b = below M xs z ox (subst (λ x. In x xs) s (done_is e f.stamp xs u j).is_in) in absurd (omega (arith, b, n))) (λ s. s) (all u j) in
            ⊎_elim (λ v. goal_more e v.0 t v.2 (down zs v.0 h.1 (λ u j. sub u (inr j)) all' v.1)) (λ v. inr (z, z_in.is_in, n, l.edges z.segment z.stamp w.segment t (l.edge e q z (last q ys) w t y.waits i v))) (l.makes e z (slot d e zs) w.since t k) in
            ⊎_elim has lacks (less_or z.number (count z.process xs))

      abbrev Result : Type 0
      Result = ((g : Front d.Stamp) × (M.front xs q ≡ Some g) × NotAfter M g.stamp f.stamp) ⊎ ((z : ActOf M) × In z ys × (count z.process xs ≤ z.number) × d.Reaches z.segment z.stamp f.segment f.stamp)

      by_its_end : (u : d.Stamp) → Not_after d u f.stamp → Ends w xs u → Result
      by_its_end u n h = let r = front_by_end xs q w u waits_x h in inl (r.0, r.1, not_after_joins M (order d l) r.0.stamp u f.stamp r.3 n)

      by_goal : (e : ℕ) → In e w.events → Goal e f.stamp → Result
      by_goal e i g =
          ⊎_elim (λ h. by_its_end h.0 h.2 (by_event e i (of_done e xs w.since f.stamp h.0 ox h.2 h.1)))
          (λ h. inr (h.0, h.1, h.2, subst (λ t. d.Reaches h.0.segment h.0.stamp t f.stamp) (sym y.segment) h.3)) g

      missing_law : Result
      missing_law = at (front_ends ys w f.stamp y.stamp)
        where
          at : Ends w ys f.stamp → Result
          at (by_time h) = by_its_end f.stamp (inr refl) (by_time h)
          at (by_event e i h) =
              by_goal e i (down e i (done e f.stamp ys) f.stamp (done_desc e f.stamp ys oy) (λ z j. done_is e f.stamp ys z j)
              (λ z j. let k = done_is e f.stamp xs z j in is_done e f.stamp ys z (late z k.is_in (inl k.before)) k.before k.touches)
              (to_done e ys w.since f.stamp f.stamp oy (inr refl) h))

  -- one more activation
  module _ (xs : Log M) (x : ActOf M) (r : ℕ) (g : Front d.Stamp) (ox : Ordered M xs) (follows : Follows M x xs) (free : (u : ActOf M) → In u xs → IsEarlier M x u → (x.process ≢ u.process) × (Conflict M x.stamp x.segment u.stamp u.segment → ⊥)) (n : r ≢ x.process) (front_x : M.front (x ∷ xs) r ≡ Some g) where
    abbrev v : FrontOf (x ∷ xs) r g
    v = front_of (x ∷ xs) r g front_x

    abbrev Walk : Type 0
    Walk = ((f : Front d.Stamp) × (M.front xs r ≡ Some f) × (f.segment ≡ g.segment) × NotAfter M f.stamp g.stamp) ⊎ d.LeadsTo x.segment x.stamp g.segment g.stamp

    waits_xs : d.wait r (last r xs) ≡ Some v.wait
    waits_xs = ap (d.wait r) (sym (last_other d.Stamp d.Reads r x xs (λ h. n (sym h)))) ∙ v.waits

    was_there : (u : d.Stamp) → Not_after d u g.stamp → Ends v.wait xs u → Walk
    was_there u k h = let e = front_by_end xs r v.wait u waits_xs h in inl (e.0, e.1, e.2 ∙ sym v.segment, not_after_joins M (order d l) e.0.stamp u g.stamp e.3 k)

    abbrev touched : ℕ → Log M → Log M
    touched e ys = only (d.touches e) (sort d ys)

    touched_desc : (e : ℕ) (ys : Log M) → Ordered M ys → Desc M (touched e ys)
    touched_desc e ys o = only_desc M (d.touches e) (sort d ys) (sort_desc d l ys o)

    in_touched : (e : ℕ) (ys : Log M) (u : ActOf M) → In u (touched e ys) → In u ys × (d.touches e u ≡ true)
    in_touched e ys u i = let a = only_in (d.touches e) (sort d ys) u i in (sort_in d l ys u a.0, a.1)

    touched_in : (e : ℕ) (ys : Log M) (u : ActOf M) → In u ys → d.touches e u ≡ true → In u (touched e ys)
    touched_in e ys u i h = in_only (d.touches e) (sort d ys) u (in_sort d l ys u i) h

    o' : Ordered M (x ∷ xs)
    o' = (follows, ox)

    untouched : (e : ℕ) → d.touches e x ≡ false → touched e (x ∷ xs) ≡ touched e xs
    untouched e h =
        desc_same M (order d l) (touched e (x ∷ xs)) (touched e xs) (touched_desc e (x ∷ xs) o') (touched_desc e xs ox)
        (λ u i. let k = in_touched e (x ∷ xs) u i in ⊎_elim (λ s. let c : true ≡ false = sym k.1 ∙ ap (d.touches e) s ∙ h in absurd cc) (λ s. touched_in e xs u s k.1) k.0)
        (λ u i. let k = in_touched e xs u i in touched_in e (x ∷ xs) u (inr k.0) k.1)

    in_front : (e : ℕ) → d.touches e x ≡ true → (u : ActOf M) → In u (touched e xs) → IsEarlier M u x
    in_front e h u i =
        let k = in_touched e xs u i in
        ⊎_elim (λ c. c)
        (λ c. ⊎_elim (λ s. inl (follows.later u k.0 s.1))
        (λ s. let f = free u k.0 s in absurd (⊎_elim (λ p. f.0 (sym follows.segment ∙ p ∙ segment_of M xs u ox k.0)) (λ c. f.1 (inl c)) (l.joint e x u h k.1))) c)
        (compare_places M (order d l) u.stamp u.process x.stamp x.process)

    appended : (e : ℕ) → d.touches e x ≡ true → touched e (x ∷ xs) ≡ x ∷ touched e xs
    appended e h =
        desc_same M (order d l) (touched e (x ∷ xs)) (x ∷ touched e xs) (touched_desc e (x ∷ xs) o') (in_front e h, touched_desc e xs ox)
        (λ u i. let k = in_touched e (x ∷ xs) u i in ⊎_elim (λ s. inl s) (λ s. inr (touched_in e xs u s k.1)) k.0)
        (λ u i. ⊎_elim (λ s. touched_in e (x ∷ xs) u (inl s) (ap (d.touches e) s ∙ h)) (λ s. let k = in_touched e xs u s in touched_in e (x ∷ xs) u (inr k.0) k.1) i)

    by_the_event : (e : ℕ) → In e v.wait.events → d.first (slot d e (sort d (x ∷ xs))) v.wait.since ≡ Some g.stamp → Walk
    by_the_event e i h = at (d.touches e x) refl
      where
        h' : d.first (slot d e (touched e (x ∷ xs))) v.wait.since ≡ Some g.stamp
        h' = ap (λ s. d.first s v.wait.since) (slot_touched e (sort d (x ∷ xs))) ∙ h

        back : (u : d.Stamp) → d.first (slot d e (touched e xs)) v.wait.since ≡ Some u → d.first (slot d e (sort d xs)) v.wait.since ≡ Some u
        back u k = ap (λ s. d.first s v.wait.since) (sym (slot_touched e (sort d xs))) ∙ k

        at : (b : Bool) → d.touches e x ≡ b → Walk
        at false t = was_there g.stamp (inr refl) (by_event e i (back g.stamp (ap (λ s. d.first (slot d e s) v.wait.since) (sym (untouched e t)) ∙ h')))
        at true t =
            ⊎_elim (λ k. was_there k.0 k.2 (by_event e i (back k.0 k.1)))
            (λ k. inr (subst (λ s. d.LeadsTo x.segment x.stamp s g.stamp) (sym v.segment) (l.edge e r x (last r (x ∷ xs)) v.wait g.stamp v.waits i k)))
            (l.makes e x (slot d e (touched e xs)) v.wait.since g.stamp (ap (λ s. d.first (slot d e s) v.wait.since) (sym (appended e t)) ∙ h'))

    walk_law : Walk
    walk_law = at (front_ends (x ∷ xs) v.wait g.stamp v.stamp)
      where
        at : Ends v.wait (x ∷ xs) g.stamp → Walk
        at (by_time h) = was_there g.stamp (inr refl) (by_time h)
        at (by_event e i h) = by_the_event e i h

  reading_law :
      (xs ys : Log M) (p g : ℕ) (s : d.Stamp) → Ordered M xs → Ordered M ys → last p xs ≡ last p ys →
      ((y : ActOf M) → In y xs → y.process ≡ p → In y ys) → ((y : ActOf M) → In y ys → y.process ≡ p → In y xs) →
      ((y : ActOf M) → In y xs → In y ys ⊎ (Conflict M y.stamp y.segment s g → ⊥)) → ((y : ActOf M) → In y ys → In y xs ⊎ (Conflict M y.stamp y.segment s g → ⊥)) →
      M.reads xs p g s ≡ M.reads ys p g s
  reading_law xs ys p g s ox oy same own_y own_x to_y to_x =
      let seen : Log M → Log M = λ zs. only (d.sees p g s) (sort d zs) in
      let sub : (us vs : Log M) → ((y : ActOf M) → In y us → y.process ≡ p → In y vs) → ((y : ActOf M) → In y us → In y vs ⊎ (Conflict M y.stamp y.segment s g → ⊥)) → (u : ActOf M) → In u (only (d.sees p g s) (sort d us)) → In u (only (d.sees p g s) (sort d vs)) = λ us vs own to u i.
      let a = only_in (d.sees p g s) (sort d us) u i in
      let b = sort_in d l us u a.0 in
      in_only (d.sees p g s) (sort d vs) u (in_sort d l vs u (⊎_elim (λ h. own u b h) (λ h. ⊎_elim (λ k. k) (λ k. absurd (k h)) (to u b)) (l.seen p g s u a.1))) a.1 in
      let e : only (d.sees p g s) (sort d xs) ≡ only (d.sees p g s) (sort d ys) =
      desc_same M (order d l) (only (d.sees p g s) (sort d xs)) (only (d.sees p g s) (sort d ys)) (only_desc M (d.sees p g s) (sort d xs) (sort_desc d l xs ox)) (only_desc M (d.sees p g s) (sort d ys) (sort_desc d l ys oy)) (sub xs ys own_y to_y) (sub ys xs own_x to_x) in
      ap (λ t. d.look p g s t (only (d.sees p g s) (sort d xs))) same ∙ ap (λ t. d.look p g s (last p ys) t) e

  -- a design that meets its laws has all that the rule asks
  pub laws : Laws M
  laws = record {
    order = order d l;
    stays = l.stays;
    joins = l.joins;
    edges = l.edges;
    forward = l.forward;
    mirrored = l.mirrored;
    wakes = l.wakes;
    owner = owner_law;
    segment = segment_law;
    own = own_law;
    same = same_law;
    missing = λ xs ys q f ox oy same front_y inside late there free. missing_law xs ys q f ox oy same front_y late there free;
    walk = walk_law;
    reading = reading_law;
    numbered = numbered_law;
    within_back = l.within_back;
    at_limit = l.at_limit;
    cuts_on = l.cuts_on;
    cuts = l.cuts;
  }
