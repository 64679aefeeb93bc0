-- An event keeps its firings, and each was there or is made.
use Rattle.std.proofs.Common.{◌≡◌, ◌⊎◌, inl, inr, ⊎_elim, Bool, true, false, List, [], ◌∷◌, Option, Some, None, if◌then◌else◌, refl, sym, ap, ◌∙◌, subst}
use Rattle.ooo_schedules.specs.Model.{In}
use Rattle.ooo_schedules.specs.Slots.{Call, Notify, Cancel, Event, settled, sooner_of, called, call_at, calls_at, is_since, lesser, least_of, with_pending, first_of}
use Rattle.ooo_schedules.proofs.Logs.{some_is}

module _ (S : Type 0) (before : S → S → Type 0) (is_before : S → S → Bool)
    (irreflexive : (s : S) → before s s → ⊥)
    (transitive : (s t u : S) → before s t → before t u → before s u)
    (is_yes : (s t : S) → is_before s t ≡ true → before s t)
    (is_no : (s t : S) → is_before s t ≡ false → before t s ⊎ (t ≡ s)) where
  abbrev pub NotAfter : S → S → Type 0
  NotAfter s t = before s t ⊎ (s ≡ t)

  joins : (s t u : S) → NotAfter s t → NotAfter t u → NotAfter s u
  joins s t u a b = ⊎_elim (λ h. ⊎_elim (λ k. inl (transitive s t u h k)) (λ k. inl (subst (before s) k h)) b) (λ h. subst (λ x. NotAfter x u) (sym h) b) a

  antisym : (s t : S) → NotAfter s t → NotAfter t s → s ≡ t
  antisym s t a b = ⊎_elim (λ h. ⊎_elim (λ k. absurd (irreflexive s (transitive s t s h k))) (λ k. sym k) b) (λ h. h) a

  abbrev pub Since : Option S → S → Type 0
  Since since t = is_since S is_before since t ≡ true

  lesser_source : (a : S) (b : Option S) (t : S) → lesser S is_before a b ≡ Some t → (t ≡ a) ⊎ (b ≡ Some t)
  lesser_source a None t e = inl (some_is t a (sym e))
  lesser_source a (Some b) t e = at (is_before b a) e
    where
      at : (x : Bool) → (if x then Some b else Some a) ≡ Some t → (t ≡ a) ⊎ (Some b ≡ Some t)
      at true e = inr e
      at false e = inl (some_is t a (sym e))

  lesser_some : (a : S) (b : Option S) → (t : S) × (lesser S is_before a b ≡ Some t) × NotAfter t a × ((u : S) → b ≡ Some u → NotAfter t u)
  lesser_some a None = (a, refl, inr refl, λ u h. absurd cc)
  lesser_some a (Some b) = at (is_before b a) refl
    where
      at : (x : Bool) → is_before b a ≡ x → (t : S) × ((if x then Some b else Some a) ≡ Some t) × NotAfter t a × ((u : S) → Some b ≡ Some u → NotAfter t u)
      at true h = (b, refl, inl (is_yes b a h), λ u y. inr (some_is b u y))
      at false h = (a, refl, inr refl, λ u y. subst (NotAfter a) (some_is b u y) (is_no b a h))

  pub least_source : (since : Option S) (ts : List S) (t : S) → least_of S is_before since ts ≡ Some t → In t ts × Since since t
  least_source since [] t e = absurd cc
  least_source since (x ∷ xs) t e = at (least_source since xs t) (is_since S is_before since x) refl e
    where
      at : (least_of S is_before since xs ≡ Some t → In t xs × Since since t) → (b : Bool) → is_since S is_before since x ≡ b → (if b then lesser S is_before x (least_of S is_before since xs) else least_of S is_before since xs) ≡ Some t → In t (x ∷ xs) × Since since t
      at rec true h e = ⊎_elim (λ k. (inl k, subst (Since since) (sym k) h)) (λ k. let r = rec k in (inr r.0, r.1)) (lesser_source x (least_of S is_before since xs) t e)
      at rec false h e = let r = rec e in (inr r.0, r.1)

  pub least_some : (since : Option S) (ts : List S) (t : S) → In t ts → Since since t → (u : S) × (least_of S is_before since ts ≡ Some u) × NotAfter u t
  least_some since [] t i h = absurd i
  least_some since (x ∷ xs) t i h = at (least_some since xs t) (is_since S is_before since x) refl
    where
      at : (In t xs → Since since t → (u : S) × (least_of S is_before since xs ≡ Some u) × NotAfter u t) → (b : Bool) → is_since S is_before since x ≡ b → (u : S) × ((if b then lesser S is_before x (least_of S is_before since xs) else least_of S is_before since xs) ≡ Some u) × NotAfter u t
      at rec true k =
          let m = lesser_some x (least_of S is_before since xs) in
          (m.0, m.1, ⊎_elim (λ e. subst (NotAfter m.0) (sym e) m.2) (λ j. let r = rec j h in joins m.0 r.0 t (m.3 r.0 r.1) r.2) i)
      at rec false k = ⊎_elim (λ e. let c : true ≡ false = sym h ∙ ap (is_since S is_before since) e ∙ k in absurd cc) (λ j. rec j h) i

  pub least_is : (since : Option S) (ts : List S) (t : S) → In t ts → Since since t → ((u : S) → In u ts → Since since u → NotAfter t u) → least_of S is_before since ts ≡ Some t
  least_is since ts t i h all =
      let r = least_some since ts t i h in
      let s = least_source since ts r.0 r.1 in
      r.1 ∙ ap Some (antisym r.0 t r.2 (all r.0 s.0 s.1))

  least_bound : (since : Option S) (ts : List S) (t u : S) → least_of S is_before since ts ≡ Some t → In u ts → Since since u → NotAfter t u
  least_bound since ts t u e i h = let r = least_some since ts u i h in subst (λ x. NotAfter x u) (some_is r.0 t (sym r.1 ∙ e)) r.2

  -- it is after the stamp
  pub first_since : (e : Event S) (s t : S) → first_of S is_before e (Some s) ≡ Some t → before s t
  first_since e s t f = is_yes s t (least_source (Some s) (with_pending S is_before e.fired e.pending) t f).1

  -- ---- calls

  abbrev pub All_of : Event S → List S
  All_of e = with_pending S is_before e.fired e.pending

  -- a notification is for a later stamp
  abbrev pub IsLater : S → Call S → Type 0
  IsLater at (Notify t) = before at t
  IsLater at Cancel = Unit {0}

  pub settle_same : (at : S) (fired : List S) (pending : Option S) → All_of (settled S is_before at fired pending) ≡ with_pending S is_before fired pending
  settle_same at fired None = refl
  settle_same at fired (Some t) = by (is_before at t)
    where
      left : Bool → Event S
      left b = if b then record { fired = fired; pending = Some t } else record { fired = t ∷ fired; pending = None }

      by : (b : Bool) → All_of (left b) ≡ t ∷ fired
      by true = refl
      by false = refl

  pub settle_later : (at : S) (fired : List S) (pending : Option S) (u : S) → (settled S is_before at fired pending).pending ≡ Some u → before at u
  settle_later at fired None u e = absurd cc
  settle_later at fired (Some t) u e = by (is_before at t) refl e
    where
      left : Bool → Event S
      left b = if b then record { fired = fired; pending = Some t } else record { fired = t ∷ fired; pending = None }

      by : (b : Bool) → is_before at t ≡ b → (left b).pending ≡ Some u → before at u
      by true h e = subst (before at) (some_is t u e) (is_yes at t h)
      by false h e = absurd cc

  pub sooner_source : (p : Option S) (t u : S) → u ≡ sooner_of S is_before p t → (p ≡ Some u) ⊎ (u ≡ t)
  sooner_source None t u e = inr e
  sooner_source (Some q) t u e = by (is_before t q) e
    where
      by : (b : Bool) → u ≡ (if b then t else q) → (Some q ≡ Some u) ⊎ (u ≡ t)
      by true e = inr e
      by false e = inl (ap Some (sym e))

  pub in_all : (ts : List S) (p : Option S) (u : S) → In u (with_pending S is_before ts p) → (p ≡ Some u) ⊎ In u ts
  in_all ts None u i = inr i
  in_all ts (Some t) u i = ⊎_elim (λ e. inl (ap Some (sym e))) (λ j. inr j) i

  pub pending_in : (ts : List S) (p : Option S) (u : S) → (p ≡ Some u) → In u (with_pending S is_before ts p)
  pending_in ts None u e = absurd cc
  pending_in ts (Some t) u e = inl (some_is u t (sym e))

  pub fired_in : (ts : List S) (p : Option S) (u : S) → In u ts → In u (with_pending S is_before ts p)
  fired_in ts None u i = i
  fired_in ts (Some t) u i = inr i

  called_fired : (c : Call S) (e : Event S) (u : S) → In u e.fired → In u (All_of (called S is_before c e))
  called_fired (Notify t) e u i = inr i
  called_fired Cancel e u i = i

  -- what stands after a call was there, or is made
  called_source : (c : Call S) (e : Event S) (u : S) → In u (All_of (called S is_before c e)) → In u (All_of e) ⊎ (Notify u ≡ c)
  called_source (Notify t) e u i =
      ⊎_elim (λ k. ⊎_elim (λ p. inl (pending_in e.fired e.pending u p)) (λ h. inr (ap Notify h)) (sooner_source e.pending t u k)) (λ j. inl (fired_in e.fired e.pending u j)) i
  called_source Cancel e u i = inl (fired_in e.fired e.pending u i)

  module _ (at : S) where
    abbrev E : Event S → Event S
    E e = settled S is_before at e.fired e.pending

    pub call_source : (c : Call S) (e : Event S) (u : S) → In u (All_of (call_at S is_before at c e)) → In u (All_of e) ⊎ (Notify u ≡ c)
    call_source c e u i = ⊎_elim (λ j. inl (subst (In u) (settle_same at e.fired e.pending) j)) (λ k. inr k) (called_source c (E e) u i)

    -- what is new after a call is later
    call_later : (c : Call S) (e : Event S) → IsLater at c → (u : S) → In u (All_of (call_at S is_before at c e)) → In u (All_of e) ⊎ before at u
    call_later c e h u i = ⊎_elim (λ j. inl j) (λ k. inr (subst (IsLater at) (sym k) h)) (call_source c e u i)

    call_keeps : (c : Call S) (e : Event S) (since : Option S) (t : S) → IsLater at c → NotAfter t at → first_of S is_before e since ≡ Some t → first_of S is_before (call_at S is_before at c e) since ≡ Some t
    call_keeps c e since t h n f =
        let s = least_source since (All_of e) t f in
        let i : In t (E e).fired = ⊎_elim (λ p. absurd (late (settle_later at e.fired e.pending t p))) (λ j. j) (in_all (E e).fired (E e).pending t (subst (In t) (sym (settle_same at e.fired e.pending)) s.0)) in
        least_is since (All_of (call_at S is_before at c e)) t (called_fired c (E e) t i) s.1
        (λ u j k. ⊎_elim (λ x. least_bound since (All_of e) t u f x k) (λ x. inl (⊎_elim (λ y. transitive t at u y x) (λ y. subst (λ z. before z u) (sym y) x) n)) (call_later c e h u j))
      where
        late : before at t → ⊥
        late b = irreflexive t (⊎_elim (λ y. transitive t at t y b) (λ y. subst (λ z. before z t) (sym y) b) n)

    abbrev pub AllLater : List (Call S) → Type 0
    AllLater [] = Unit {0}
    AllLater (c ∷ cs) = IsLater at c × AllLater cs

    pub calls_keep : (cs : List (Call S)) (e : Event S) (since : Option S) (t : S) → AllLater cs → NotAfter t at → first_of S is_before e since ≡ Some t → first_of S is_before (calls_at S is_before at cs e) since ≡ Some t
    calls_keep [] e since t h n f = f
    calls_keep (c ∷ cs) e since t h n f = call_keeps c (calls_at S is_before at cs e) since t h.0 n (calls_keep cs e since t h.1 n f)

    -- an activation notifies the event for a stamp that isn't after t
    abbrev pub Made : List (Call S) → S → Type 0
    Made cs t = (u : S) × In (Notify u) cs × NotAfter u t

    made_more : (c : Call S) (cs : List (Call S)) (t u : S) → NotAfter t u → Made cs t → Made (c ∷ cs) u
    made_more c cs t u n h = (h.0, inr h.1, joins h.0 t u h.2 n)

    pub calls_make : (cs : List (Call S)) (e : Event S) (since : Option S) (t : S) → first_of S is_before (calls_at S is_before at cs e) since ≡ Some t → ((u : S) × (first_of S is_before e since ≡ Some u) × NotAfter u t) ⊎ Made cs t
    calls_make [] e since t f = inl (t, f, inr refl)
    calls_make (c ∷ cs) e since t f =
        let e' = calls_at S is_before at cs e in
        let s = least_source since (All_of (call_at S is_before at c e')) t f in
        ⊎_elim
        (λ i.
        let r = least_some since (All_of e') t i s.1 in
        ⊎_elim (λ h. inl (h.0, h.1, joins h.0 r.0 t h.2 r.2)) (λ h. inr (made_more c cs r.0 t r.2 h)) (calls_make cs e since r.0 r.1))
        (λ k. inr (t, inl k, inr refl))
        (call_source c e' t s.0)

    notified_later : (cs : List (Call S)) (u : S) → AllLater cs → In (Notify u) cs → before at u
    notified_later [] u h i = absurd i
    notified_later (c ∷ cs) u h i = ⊎_elim (λ e. subst (IsLater at) (sym e) h.0) (λ j. notified_later cs u h.1 j) i

    pub made_later : (cs : List (Call S)) (t : S) → AllLater cs → Made cs t → before at t
    made_later cs t h k = ⊎_elim (λ n. transitive at k.0 t (notified_later cs k.0 h k.1) n) (λ n. subst (before at) n (notified_later cs k.0 h k.1)) k.2
