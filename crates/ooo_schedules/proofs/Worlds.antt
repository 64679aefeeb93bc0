-- The sequential scheduler's world follows the log: a turn, and the firing of what is due.
use Rattle.std.proofs.Common.{◌≡◌, ◌≢◌, ℕ, suc, ◌≤◌, ◌⊎◌, inl, inr, ⊎_elim, Bool, true, false, not, ◌&&◌, ◌||◌, ◌==◌, List, [], ◌∷◌, Option, Some, None, if◌then◌else◌, refl, sym, ap, ◌∙◌, subst, arith}
use Rattle.std.proofs.lemmas.Bool.{eqb-true, eqb-false}
use Rattle.ooo_schedules.specs.Model.{Front, In, last, Model, ActOf, Log, IsEarlier, Ordered, Laws}
use Rattle.ooo_time.specs.declared.stamp.Stamp.{Stamp}
use Rattle.ooo_time.specs.Stamps.{IsBefore}
use Rattle.ooo_schedules.specs.Delays.{NotAfter}
use Rattle.ooo_schedules.specs.Cycles.{act_at, Turn, runs, waits, FromPlace}
use Rattle.ooo_schedules.specs.Design.{Wait, DesignLaws, slot, sort, model, times}
use Rattle.ooo_schedules.specs.Slots.{Call, Notify, Cancel, Event, settled, sooner_of, called, call_at, calls_at, is_since, with_pending, first_of}
use Rattle.ooo_time.specs.Stamps.{is_before, stamp_after}
use Rattle.ooo_value.specs.declared.bound.BoundEvent.TheVariants as event
use Rattle.ooo_value.specs.declared.values.Value.{Value}
use Rattle.ooo_code.specs.declared.activation.Effect.{Effect}
use Rattle.ooo_code.specs.declared.activation.Effect.TheVariants as effect
use Rattle.ooo_schedules.specs.Program.{Left, Waits, Ended, Program, own_calls, calls_of, wait_left, wait_by, design, Sound}
use Rattle.ooo_schedules.specs.Worlds.{Waiting, World, slot_after, slot_by, waiting_left, after_turn, is_at, any_at, wakes_at, fire_at, event_of, at_stamp, Quiet, same_wait, Fits}
use Rattle.ooo_schedules.proofs.Logs.{some_is, last_own, last_other}
use Rattle.ooo_schedules.proofs.Places.{less_or}
use Rattle.ooo_schedules.proofs.Reaches.{irreflexive, transitive, then_not_after}
use Rattle.ooo_schedules.proofs.Slots.{settle_later, settle_same, sooner_source, least_source, least_is, in_all, pending_in, IsLater}
use Rattle.ooo_schedules.proofs.Programs.{Later, is_yes, before_yes, is_no, calls_later, after_later, left_is, design_laws, program_laws}
use Rattle.ooo_schedules.proofs.Sorts.{desc_same, order, sort_in, in_sort, sort_desc, soonest_is}
use Rattle.ooo_schedules.proofs.Run.{Run}
use Rattle.ooo_schedules.proofs.Fronts.{front_of, Ends, by_time, by_event, front_ends, ends_of, of_ends, front_is}

-- ---- an event settled at a stamp

abbrev pub settle : Stamp → Event Stamp → Event Stamp
settle s e = settled Stamp is_before s e.fired e.pending

pub later_pending : (s : Stamp) (e : Event Stamp) (u : Stamp) → (settle s e).pending ≡ Some u → IsBefore s u
later_pending s e u h = settle_later Stamp IsBefore is_before irreflexive transitive is_yes is_no s e.fired e.pending u h

yes_of : (s u : Stamp) → IsBefore s u → is_before s u ≡ true
yes_of s u b = before_yes s u b

no_of : (s u : Stamp) → NotAfter u s → is_before s u ≡ false
no_of s u n = at (is_before s u) refl
  where
    at : (b : Bool) → is_before s u ≡ b → b ≡ false
    at true e = absurd (irreflexive s (then_not_after s u s (is_yes s u e) n))
    at false e = refl

-- what is later stays pending
pub settle_pending : (s : Stamp) (f : List Stamp) (u : Stamp) → IsBefore s u → settled Stamp is_before s f (Some u) ≡ record { fired = f; pending = Some u }
settle_pending s f u b = rw (yes_of s u b) refl

pub settle_fired : (s : Stamp) (f : List Stamp) (u : Stamp) → NotAfter u s → settled Stamp is_before s f (Some u) ≡ record { fired = u ∷ f; pending = None }
settle_fired s f u n = rw (no_of s u n) refl

pub settle_call : (s : Stamp) (c : Call Stamp) (e : Event Stamp) → IsLater Stamp IsBefore is_before irreflexive transitive is_yes is_no s c → settle s (call_at Stamp is_before s c e) ≡ called Stamp is_before c (settle s e)
settle_call s Cancel e h = refl
settle_call s (Notify t) e h =
    settle_pending s (settle s e).fired (sooner_of Stamp is_before (settle s e).pending t)
    (⊎_elim (λ k. later_pending s e (sooner_of Stamp is_before (settle s e).pending t) k) (λ k. subst (IsBefore s) (sym k) h)
    (sooner_source Stamp IsBefore is_before irreflexive transitive is_yes is_no (settle s e).pending t (sooner_of Stamp is_before (settle s e).pending t) refl))

called_fired_same : (c : Call Stamp) (e : Event Stamp) → (called Stamp is_before c e).fired ≡ e.fired
called_fired_same (Notify t) e = refl
called_fired_same Cancel e = refl

calls_fired : (s : Stamp) (cs : List (Call Stamp)) (e : Event Stamp) → Later s cs → (settle s (calls_at Stamp is_before s cs e)).fired ≡ (settle s e).fired
calls_fired s [] e h = refl
calls_fired s (c ∷ cs) e h =
    ap (λ x. x.fired) (settle_call s c (calls_at Stamp is_before s cs e) h.0)
    ∙ called_fired_same c (settle s (calls_at Stamp is_before s cs e))
    ∙ calls_fired s cs e h.1

own_pending : (s : Stamp) (n : ℕ) (cs : List (Call Stamp)) (es : List Effect) (e : Event Stamp) → Later s cs → (settle s (calls_at Stamp is_before s (own_calls s n cs es) e)).pending ≡ slot_after s n (settle s (calls_at Stamp is_before s cs e)).pending es
own_pending s n cs [] e h = refl
own_pending s n cs (effect.Notify f k ∷ es) e h = by (f == n) (λ ds d. own_pending s n ds es e d)
  where
    by : (b : Bool) → ((ds : List (Call Stamp)) → Later s ds → (settle s (calls_at Stamp is_before s (own_calls s n ds es) e)).pending ≡ slot_after s n (settle s (calls_at Stamp is_before s ds e)).pending es) → (settle s (calls_at Stamp is_before s (own_calls s n (if b then Notify (stamp_after s k) ∷ cs else cs) es) e)).pending ≡ slot_after s n (if b then Some (sooner_of Stamp is_before (settle s (calls_at Stamp is_before s cs e)).pending (stamp_after s k)) else (settle s (calls_at Stamp is_before s cs e)).pending) es
    by true rec = rec (Notify (stamp_after s k) ∷ cs) (after_later s k, h) ∙ ap (λ x. slot_after s n x.pending es) (settle_call s (Notify (stamp_after s k)) (calls_at Stamp is_before s cs e) (after_later s k))
    by false rec = rec cs h
own_pending s n cs (effect.Cancel f ∷ es) e h = by (f == n) (λ ds d. own_pending s n ds es e d)
  where
    by : (b : Bool) → ((ds : List (Call Stamp)) → Later s ds → (settle s (calls_at Stamp is_before s (own_calls s n ds es) e)).pending ≡ slot_after s n (settle s (calls_at Stamp is_before s ds e)).pending es) → (settle s (calls_at Stamp is_before s (own_calls s n (if b then Cancel ∷ cs else cs) es) e)).pending ≡ slot_after s n (if b then None else (settle s (calls_at Stamp is_before s cs e)).pending) es
    by true rec = rec (Cancel ∷ cs) (tt, h)
    by false rec = rec cs h
own_pending s n cs (effect.Request c v ∷ es) e h = own_pending s n cs es e h
own_pending s n cs (effect.Put c v ∷ es) e h = own_pending s n cs es e h
own_pending s n cs (effect.Take c ∷ es) e h = own_pending s n cs es e h
own_pending s n cs (effect.Stop ∷ es) e h = own_pending s n cs es e h

-- settled at a stamp and then at a later one
pub settle_on : (s t : Stamp) (e : Event Stamp) → IsBefore s t → settle t (settle s e) ≡ settle t e
settle_on s t e b = at e.pending
  where
    at : (x : Option Stamp) → settle t (settled Stamp is_before s e.fired x) ≡ settled Stamp is_before t e.fired x
    at None = refl
    at (Some u) = by (is_before s u) refl
      where
        by : (y : Bool) → is_before s u ≡ y → settle t (settled Stamp is_before s e.fired (Some u)) ≡ settled Stamp is_before t e.fired (Some u)
        by true k = ap (settle t) (settle_pending s e.fired u (is_yes s u k))
        by false k = ap (settle t) (settle_fired s e.fired u (is_no s u k)) ∙ sym (settle_fired t e.fired u (inl (⊎_elim (λ x. transitive u s t x b) (λ x. subst (λ z. IsBefore z t) (sym x) b) (is_no s u k))))

waiting_same : (s : Stamp) (left : Left) → waiting_left s left ≡ same_wait (wait_left s left)
waiting_same s (Waits n t es) = refl
waiting_same s Ended = refl

module _ (p : Program) (h : Sound p) where
  abbrev M : Model
  M = model (design p)

  abbrev DL : DesignLaws (design p)
  DL = design_laws p h

  abbrev L : Laws M
  L = program_laws p h

  -- ---- ends of a quiet wait

  -- a quiet wait ends by its time-out or by what is pending of its events
  pub data EndsBy (s : Stamp) (xs : Log M) (x : Wait Stamp) (u : Stamp) : Type 0 where
    on_time : x.timeout ≡ Some u → EndsBy s xs x u
    on_event : (e : ℕ) → In e x.events → (at_stamp p s e xs).pending ≡ Some u → EndsBy s xs x u

  first_pending : (s : Stamp) (xs : Log M) (x : Wait Stamp) → Quiet p s xs x → (e : ℕ) → In e x.events → (u : Stamp) → In u (with_pending Stamp is_before (event_of p e xs).fired (event_of p e xs).pending) → is_since Stamp is_before x.since u ≡ true → (at_stamp p s e xs).pending ≡ Some u
  first_pending s xs x quiet e i u j k =
      ⊎_elim (λ y. y) (λ y. absurd (quiet.none e u i y k))
      (in_all Stamp IsBefore is_before irreflexive transitive is_yes is_no (at_stamp p s e xs).fired (at_stamp p s e xs).pending u
      (subst (In u) (sym (settle_same Stamp IsBefore is_before irreflexive transitive is_yes is_no s (event_of p e xs).fired (event_of p e xs).pending)) j))

  pub ends_by : (s : Stamp) (xs : Log M) (x : Wait Stamp) → Quiet p s xs x → (u : Stamp) → Ends (design p) DL x xs u → EndsBy s xs x u
  ends_by s xs x quiet u (by_time k) = on_time k
  ends_by s xs x quiet u (by_event e i k) =
      let r = least_source Stamp IsBefore is_before irreflexive transitive is_yes is_no x.since (with_pending Stamp is_before (event_of p e xs).fired (event_of p e xs).pending) u k in
      on_event e i (first_pending s xs x quiet e i u r.0 r.1)

  pub end_later : (s : Stamp) (xs : Log M) (x : Wait Stamp) → Quiet p s xs x → (u : Stamp) → EndsBy s xs x u → IsBefore s u
  end_later s xs x quiet u (on_time k) = quiet.later u k
  end_later s xs x quiet u (on_event e i k) = later_pending s (event_of p e xs) u k

  -- what is pending is the event's first
  pub pending_first : (s : Stamp) (xs : Log M) (x : Wait Stamp) → Quiet p s xs x → (e : ℕ) → In e x.events → (u : Stamp) → (at_stamp p s e xs).pending ≡ Some u → first_of Stamp is_before (event_of p e xs) x.since ≡ Some u
  pending_first s xs x quiet e i u k =
      least_is Stamp IsBefore is_before irreflexive transitive is_yes is_no x.since (with_pending Stamp is_before (event_of p e xs).fired (event_of p e xs).pending) u
      (subst (In u) (settle_same Stamp IsBefore is_before irreflexive transitive is_yes is_no s (event_of p e xs).fired (event_of p e xs).pending) (pending_in Stamp IsBefore is_before irreflexive transitive is_yes is_no (at_stamp p s e xs).fired (at_stamp p s e xs).pending u k))
      (quiet.since u (later_pending s (event_of p e xs) u k))
      (λ v j y. inr (some_is u v (sym k ∙ first_pending s xs x quiet e i v j y)))

  -- ---- a turn that is skipped

  pub skip_turn : (w : World) (xs : Log M) (q : ℕ) → Fits p w xs q → w.runnable q ≡ false → Turn M w.stamp q xs xs × Fits p w xs (suc q)
  skip_turn w xs q fits n = (waits no_front, record { own = fits.own; past = fits.past; runs = runs_on; waits = fits.waits; quiet = fits.quiet })
    where
      no_front : (f : Front Stamp) → M.front xs q ≡ Some f → f.stamp ≡ w.stamp → ⊥
      no_front f e k =
          let x = front_of (design p) DL xs q f e in
          let quiet = fits.quiet q n x.wait x.waits in
          irreflexive w.stamp (subst (IsBefore w.stamp) k (end_later w.stamp xs x.wait quiet f.stamp (ends_by w.stamp xs x.wait quiet f.stamp (front_ends (design p) DL xs x.wait f.stamp x.stamp))))

      runs_on : (r : ℕ) → w.runnable r ≡ true → (suc q ≤ r) × (f : Front Stamp) × (M.front xs r ≡ Some f) × (f.stamp ≡ w.stamp)
      runs_on r e =
          let k = fits.runs r e in
          let d : r ≢ q = λ s. let c : true ≡ false = sym e ∙ ap w.runnable s ∙ n in absurd cc in
          (⊎_elim (λ z. z) (λ z. absurd (d (let y = k.0 in omega (arith, z, y)))) (less_or q r), k.1, k.2, k.3)

  -- ---- a turn that is taken

  module _ (w : World) (xs : Log M) (q : ℕ) (fits : Fits p w xs q) (run : Run M L xs) (f : Front Stamp) (front_q : M.front xs q ≡ Some f) (now : f.stamp ≡ w.stamp) where
    abbrev pub x : ActOf M
    x = act_at M xs q f

    abbrev w' : World
    w' = after_turn p w q (p.act x)

    pub newest : (z : ActOf M) → In z xs → IsEarlier M z x
    newest z i = run.ahead q f front_q z i

    pub ordered_x : Ordered M (x ∷ xs)
    ordered_x = (record { number = refl; segment = L.owner xs q f run.ordered front_q; later = λ z i e. own z i e (newest z i) }, run.ordered)
      where
        own : (z : ActOf M) → In z xs → z.process ≡ q → IsEarlier M z x → IsBefore z.stamp f.stamp
        own z i e k = ⊎_elim (λ b. b) (λ b. let y = b.1 in absurd (omega (arith, y, e))) k

    pub sorted : sort (design p) (x ∷ xs) ≡ x ∷ sort (design p) xs
    sorted =
        desc_same M (order (design p) DL) (sort (design p) (x ∷ xs)) (x ∷ sort (design p) xs) (sort_desc (design p) DL (x ∷ xs) ordered_x)
        (λ z i. newest z (sort_in (design p) DL xs z i), sort_desc (design p) DL xs run.ordered)
        (λ z i. ⊎_elim (λ e. inl e) (λ j. inr (in_sort (design p) DL xs z j)) (sort_in (design p) DL (x ∷ xs) z i))
        (λ z i. in_sort (design p) DL (x ∷ xs) z (⊎_elim (λ e. inl e) (λ j. inr (sort_in (design p) DL xs z j)) i))

    abbrev old_value : ℕ → Value
    old_value e = (slot (design p) e (sort (design p) xs)).value

    abbrev new_calls : ℕ → List (Call Stamp)
    new_calls e = calls_of w.stamp e (p.origin e) (old_value e) (p.act x).effects

    event_after : (e : ℕ) → event_of p e (x ∷ xs) ≡ calls_at Stamp is_before w.stamp (new_calls e) (event_of p e xs)
    event_after e =
        ap (λ ys. (slot (design p) e ys).event) sorted
        ∙ ap (λ s. calls_at Stamp is_before s (calls_of s e (p.origin e) (old_value e) (p.act x).effects) (event_of p e xs)) now

    later_calls : (e : ℕ) → Later w.stamp (new_calls e)
    later_calls e = calls_later w.stamp e (p.origin e) (old_value e) (p.act x).effects

    fired_after : (e : ℕ) → (at_stamp p w.stamp e (x ∷ xs)).fired ≡ (at_stamp p w.stamp e xs).fired
    fired_after e = ap (λ y. (settle w.stamp y).fired) (event_after e) ∙ calls_fired w.stamp (new_calls e) (event_of p e xs) (later_calls e)

    pending_after : (e : ℕ) → p.origin e ≡ event.Own → (at_stamp p w.stamp e (x ∷ xs)).pending ≡ slot_after w.stamp e (at_stamp p w.stamp e xs).pending (p.act x).effects
    pending_after e o =
        ap (λ y. (settle w.stamp y).pending) (event_after e)
        ∙ ap (λ o. (settle w.stamp (calls_at Stamp is_before w.stamp (calls_of w.stamp e o (old_value e) (p.act x).effects) (event_of p e xs))).pending) o
        ∙ own_pending w.stamp e [] (p.act x).effects (event_of p e xs) tt

    quiet_after : (y : Wait Stamp) → Quiet p w.stamp xs y → Quiet p w.stamp (x ∷ xs) y
    quiet_after y k = record { later = k.later; since = k.since; none = λ e u i j. k.none e u i (subst (In u) (fired_after e) j) }

    own_after : (e : ℕ) → p.origin e ≡ event.Own → w'.slots e ≡ (at_stamp p w.stamp e (x ∷ xs)).pending
    own_after e o = ap (λ y. slot_by w.stamp e y (w.slots e) (p.act x).effects) o ∙ ap (λ y. slot_after w.stamp e y (p.act x).effects) (fits.own e o) ∙ sym (pending_after e o)

    past_after : (e : ℕ) (u : Stamp) → In u (at_stamp p w.stamp e (x ∷ xs)).fired → NotAfter u w.stamp
    past_after e u i = fits.past e u (subst (In u) (fired_after e) i)

    other_front : (r : ℕ) (g : Front Stamp) → r ≢ q → M.front xs r ≡ Some g → g.stamp ≡ w.stamp → M.front (x ∷ xs) r ≡ Some g
    other_front r g n e k =
        L.same (x ∷ xs) xs r g ordered_x run.ordered (last_other Stamp p.Reads r x xs (λ z. n (sym z))) e
        (λ y i b c. ⊎_elim (λ z. absurd (irreflexive w.stamp (subst (IsBefore w.stamp) k (subst (λ t. IsBefore t g.stamp) now (subst (λ t. IsBefore t.stamp g.stamp) z b))))) (λ z. z) i)
        (λ y i b c. inr i)

    runs_after : (r : ℕ) → w'.runnable r ≡ true → (suc q ≤ r) × (g : Front Stamp) × (M.front (x ∷ xs) r ≡ Some g) × (g.stamp ≡ w.stamp)
    runs_after r e = at (q == r) refl e
      where
        at : (b : Bool) → (q == r) ≡ b → (if b then false else w.runnable r) ≡ true → (suc q ≤ r) × (g : Front Stamp) × (M.front (x ∷ xs) r ≡ Some g) × (g.stamp ≡ w.stamp)
        at true b e = absurd cc
        at false b e =
            let n = eqb-false q r b in
            let k = fits.runs r e in
            (⊎_elim (λ z. z) (λ z. absurd (n (let y = k.0 in omega (arith, z, y)))) (less_or q r), k.1, other_front r k.1 (λ z. n (sym z)) k.2 k.3, k.3)

    wait_x : wait_by p q (last q (x ∷ xs)) ≡ wait_left f.stamp (p.act x).left
    wait_x = ap (wait_by p q) (last_own Stamp p.Reads q x xs refl)

    waits_after : (r : ℕ) → w'.runnable r ≡ false → w'.waits r ≡ same_wait (wait_by p r (last r (x ∷ xs)))
    waits_after r e = at (q == r) refl e
      where
        at : (b : Bool) → (q == r) ≡ b → (if b then false else w.runnable r) ≡ false → (if b then waiting_left w.stamp (p.act x).left else w.waits r) ≡ same_wait (wait_by p r (last r (x ∷ xs)))
        at true b e =
            waiting_same w.stamp (p.act x).left ∙ ap (λ s. same_wait (wait_left s (p.act x).left)) (sym now)
            ∙ sym (ap same_wait (subst (λ t. wait_by p t (last t (x ∷ xs)) ≡ wait_left f.stamp (p.act x).left) (eqb-true q r b) wait_x))
        at false b e = fits.waits r e ∙ ap (λ t. same_wait (wait_by p r t)) (sym (last_other Stamp p.Reads r x xs (eqb-false q r b)))

    quiet_new : (y : Wait Stamp) → wait_left f.stamp (p.act x).left ≡ Some y → Quiet p w.stamp (x ∷ xs) y
    quiet_new y e =
        let k = left_is f.stamp (p.act x).left y e in
        record {
          later = λ u t. subst (λ s. IsBefore s u) now (DL.timed q x y u e t).1;
          since = λ u b. ap (λ t. is_since Stamp is_before t u) k.since ∙ yes_of f.stamp u (subst (λ s. IsBefore s u) (sym now) b);
          none = λ e u i j c.
              let b = is_yes f.stamp u (sym (ap (λ t. is_since Stamp is_before t u) k.since) ∙ c) in
              irreflexive w.stamp (then_not_after w.stamp u w.stamp (subst (λ s. IsBefore s u) now b) (past_after e u j));
        }

    quiet_all : (r : ℕ) → w'.runnable r ≡ false → (y : Wait Stamp) → wait_by p r (last r (x ∷ xs)) ≡ Some y → Quiet p w.stamp (x ∷ xs) y
    quiet_all r e y k = at (q == r) refl e
      where
        at : (b : Bool) → (q == r) ≡ b → (if b then false else w.runnable r) ≡ false → Quiet p w.stamp (x ∷ xs) y
        at true b e = quiet_new y (sym (subst (λ t. wait_by p t (last t (x ∷ xs)) ≡ wait_left f.stamp (p.act x).left) (eqb-true q r b) wait_x) ∙ k)
        at false b e = quiet_after y (fits.quiet r e y (ap (wait_by p r) (sym (last_other Stamp p.Reads r x xs (eqb-false q r b))) ∙ k))

    pub take_turn : Turn M w.stamp q xs (x ∷ xs) × Fits p w' (x ∷ xs) (suc q)
    take_turn = (runs f front_q now, record { own = own_after; past = past_after; runs = runs_after; waits = waits_after; quiet = quiet_all })

  -- ---- what is due at a stamp fires

  none_at : (s t : Stamp) → is_at s (Some t) ≡ true → t ≡ s
  none_at s t e = at (is_before s t) (is_before t s) refl refl e
    where
      at : (a b : Bool) → is_before s t ≡ a → is_before t s ≡ b → (not a && not b) ≡ true → t ≡ s
      at true b x y e = absurd cc
      at false true x y e = absurd cc
      at false false x y e = ⊎_elim (λ k. let c : true ≡ false = sym (yes_of t s k) ∙ y in absurd cc) (λ k. k) (is_no s t x)

  pub at_itself : (s : Stamp) → is_at s (Some s) ≡ true
  at_itself s = rw (no_of s s (inr refl)) refl

  pub is_at_some : (s : Stamp) (o : Option Stamp) → is_at s o ≡ true → o ≡ Some s
  is_at_some s None e = absurd cc
  is_at_some s (Some t) e = ap Some (none_at s t e)

  any_source : (s : Stamp) (slots : ℕ → Option Stamp) (es : List ℕ) → any_at s slots es ≡ true → (e : ℕ) × In e es × (slots e ≡ Some s)
  any_source s slots [] h = absurd cc
  any_source s slots (e ∷ es) h = at (is_at s (slots e)) refl h (any_source s slots es)
    where
      at : (b : Bool) → is_at s (slots e) ≡ b → (b || any_at s slots es) ≡ true → (any_at s slots es ≡ true → (e : ℕ) × In e es × (slots e ≡ Some s)) → (f : ℕ) × In f (e ∷ es) × (slots f ≡ Some s)
      at true b h rec = (e, inl refl, is_at_some s (slots e) b)
      at false b h rec = let r = rec h in (r.0, inr r.1, r.2)

  of_any : (s : Stamp) (slots : ℕ → Option Stamp) (es : List ℕ) (e : ℕ) → In e es → slots e ≡ Some s → any_at s slots es ≡ true
  of_any s slots [] e i k = absurd i
  of_any s slots (d ∷ es) e i k = ⊎_elim (λ j. first (ap (is_at s) (ap slots (sym j) ∙ k) ∙ at_itself s)) (λ j. rest (is_at s (slots d)) (of_any s slots es e j k)) i
    where
      first : is_at s (slots d) ≡ true → (is_at s (slots d) || any_at s slots es) ≡ true
      first k = rw k refl

      rest : (b : Bool) → any_at s slots es ≡ true → (b || any_at s slots es) ≡ true
      rest true k = refl
      rest false k = k

  module _ (w : World) (xs : Log M) (n : ℕ) (fits : Fits p w xs n) (none : (q : ℕ) → w.runnable q ≡ false) (updated : (e : ℕ) → w.slots e ≡ (at_stamp p w.stamp e xs).pending)
      (s : Stamp) (later : IsBefore w.stamp s) (slots_from : (e : ℕ) (u : Stamp) → w.slots e ≡ Some u → NotAfter s u) (times_from : (q : ℕ) (x : Waiting) (u : Stamp) → w.waits q ≡ Some x → x.timeout ≡ Some u → NotAfter s u) where
    quiet_of : (q : ℕ) (x : Wait Stamp) → wait_by p q (last q xs) ≡ Some x → Quiet p w.stamp xs x
    quiet_of q x e = fits.quiet q (none q) x e

    waiting_of : (q : ℕ) (x : Wait Stamp) → wait_by p q (last q xs) ≡ Some x → w.waits q ≡ Some (record { timeout = x.timeout; events = x.events })
    waiting_of q x e = fits.waits q (none q) ∙ ap same_wait e

    end_from : (q : ℕ) (x : Wait Stamp) → wait_by p q (last q xs) ≡ Some x → (u : Stamp) → EndsBy w.stamp xs x u → NotAfter s u
    end_from q x e u (on_time k) = times_from q (record { timeout = x.timeout; events = x.events }) u (waiting_of q x e) k
    end_from q x e u (on_event d i k) = slots_from d u (updated d ∙ k)

    ends_from : (q : ℕ) (x : Wait Stamp) → wait_by p q (last q xs) ≡ Some x → (u : Stamp) → Ends (design p) DL x xs u → NotAfter s u
    ends_from q x e u k = end_from q x e u (ends_by w.stamp xs x (quiet_of q x e) u k)

    -- the process whose wait ends there has its front there
    front_there : (q : ℕ) (x : Wait Stamp) → wait_by p q (last q xs) ≡ Some x → EndsBy w.stamp xs x s → M.front xs q ≡ Some (record { segment = x.segment; stamp = s })
    front_there q x e k =
        front_is (design p) DL xs q x s e
        (soonest_is (design p) DL (times (design p) x (sort (design p) xs)) s (of_ends (design p) DL x xs s (at k)) (λ u i. ends_from q x e u (ends_of (design p) DL x xs u i)))
      where
        at : EndsBy w.stamp xs x s → Ends (design p) DL x xs s
        at (on_time k) = by_time k
        at (on_event d i k) = by_event d i (pending_first w.stamp xs x (quiet_of q x e) d i s k)

    woken_by : (q : ℕ) (x : Wait Stamp) → wait_by p q (last q xs) ≡ Some x → (is_at s x.timeout || any_at s w.slots x.events) ≡ true → EndsBy w.stamp xs x s
    woken_by q x e k = at (is_at s x.timeout) refl k
      where
        at : (b : Bool) → is_at s x.timeout ≡ b → (b || any_at s w.slots x.events) ≡ true → EndsBy w.stamp xs x s
        at true b k = on_time (is_at_some s x.timeout b)
        at false b k = let r = any_source s w.slots x.events k in on_event r.0 r.1 (sym (updated r.0) ∙ r.2)

    not_woken : (x : Wait Stamp) → EndsBy w.stamp xs x s → (is_at s x.timeout || any_at s w.slots x.events) ≡ false → ⊥
    not_woken x (on_time k) e = let c : true ≡ false = sym (one (ap (is_at s) k ∙ at_itself s)) ∙ e in absurd cc
      where
        one : is_at s x.timeout ≡ true → (is_at s x.timeout || any_at s w.slots x.events) ≡ true
        one k = rw k refl
    not_woken x (on_event d i k) e = let c : true ≡ false = sym (two (is_at s x.timeout) (of_any s w.slots x.events d i (updated d ∙ k))) ∙ e in absurd cc
      where
        two : (b : Bool) → any_at s w.slots x.events ≡ true → (b || any_at s w.slots x.events) ≡ true
        two true k = refl
        two false k = k

    -- the event at the later stamp
    record Moved (e : ℕ) : Type 0 where
      pending : (if is_at s (w.slots e) then None else w.slots e) ≡ (at_stamp p s e xs).pending
      fired : (u : Stamp) → In u (at_stamp p s e xs).fired → In u (at_stamp p w.stamp e xs).fired ⊎ (u ≡ s) × (w.slots e ≡ Some s)

    is_at_later : (u : Stamp) → IsBefore s u → is_at s (Some u) ≡ false
    is_at_later u b = rw (yes_of s u b) refl

    moved : (e : ℕ) → Moved e
    moved e = at (at_stamp p w.stamp e xs).pending refl
      where
        same_event : settle s (at_stamp p w.stamp e xs) ≡ at_stamp p s e xs
        same_event = settle_on w.stamp s (event_of p e xs) later

        left : Option Stamp → Option Stamp
        left o = if is_at s o then None else o

        with : (o : Option Stamp) → (at_stamp p w.stamp e xs).pending ≡ o → settled Stamp is_before s (at_stamp p w.stamp e xs).fired o ≡ at_stamp p s e xs
        with o k = ap (settled Stamp is_before s (at_stamp p w.stamp e xs).fired) (sym k) ∙ same_event

        by : (u : Stamp) → (at_stamp p w.stamp e xs).pending ≡ Some u → IsBefore s u ⊎ (s ≡ u) → Moved e
        by u k n =
            ⊎_elim
            (λ b.
            let m = sym (settle_pending s (at_stamp p w.stamp e xs).fired u b) ∙ with (Some u) k in
            record {
              pending = ap left (updated e ∙ k) ∙ ap (λ y. if y then None else Some u) (is_at_later u b) ∙ ap (λ y. y.pending) m;
              fired = λ v i. inl (subst (In v) (sym (ap (λ y. y.fired) m)) i);
            })
            (λ b.
            let m = sym (settle_fired s (at_stamp p w.stamp e xs).fired u (inr (sym b))) ∙ with (Some u) k in
            record {
              pending = ap left (updated e ∙ k ∙ ap Some (sym b)) ∙ ap (λ y. if y then None else Some s) (at_itself s) ∙ ap (λ y. y.pending) m;
              fired = λ v i. ⊎_elim (λ j. inr (j ∙ sym b, updated e ∙ k ∙ ap Some (sym b))) (λ j. inl j) (subst (In v) (sym (ap (λ y. y.fired) m)) i);
            }) n

        at : (o : Option Stamp) → (at_stamp p w.stamp e xs).pending ≡ o → Moved e
        at None k = record { pending = ap left (updated e ∙ k) ∙ ap (λ y. y.pending) (with None k); fired = λ v i. inl (subst (In v) (sym (ap (λ y. y.fired) (with None k))) i) }
        at (Some u) k = by u k (slots_from e u (updated e ∙ k))

    past_then : (e : ℕ) (u : Stamp) → In u (at_stamp p s e xs).fired → NotAfter u s
    past_then e u i = ⊎_elim (λ j. inl (⊎_elim (λ b. transitive u w.stamp s b later) (λ b. subst (λ t. IsBefore t s) (sym b) later) (fits.past e u j))) (λ j. inr j.0) ((moved e).fired u i)

    runs_then : (q : ℕ) → wakes_at s w.slots (w.waits q) ≡ true → (0 ≤ q) × (f : Front Stamp) × (M.front xs q ≡ Some f) × (f.stamp ≡ s)
    runs_then q e = at (wait_by p q (last q xs)) refl
      where
        at : (o : Option (Wait Stamp)) → wait_by p q (last q xs) ≡ o → (0 ≤ q) × (f : Front Stamp) × (M.front xs q ≡ Some f) × (f.stamp ≡ s)
        at None k = let c : true ≡ false = sym e ∙ ap (wakes_at s w.slots) (fits.waits q (none q) ∙ ap same_wait k) in absurd cc
        at (Some x) k = (omega arith, record { segment = x.segment; stamp = s }, front_there q x k (woken_by q x k (sym (ap (wakes_at s w.slots) (waiting_of q x k)) ∙ e)), refl)

    quiet_then : (q : ℕ) → wakes_at s w.slots (w.waits q) ≡ false → (x : Wait Stamp) → wait_by p q (last q xs) ≡ Some x → Quiet p s xs x
    quiet_then q e x k = record {
      later = λ u t. ⊎_elim (λ b. b) (λ b. absurd (not_woken x (on_time (t ∙ ap Some (sym b))) asleep)) (times_from q (record { timeout = x.timeout; events = x.events }) u (waiting_of q x k) t);
      since = λ u b. (quiet_of q x k).since u (transitive w.stamp s u later b);
      none = λ d u i j c. ⊎_elim (λ y. (quiet_of q x k).none d u i y c) (λ y. not_woken x (on_event d i (sym (updated d) ∙ y.1)) asleep) ((moved d).fired u j);
    }
      where
        asleep : (is_at s x.timeout || any_at s w.slots x.events) ≡ false
        asleep = sym (ap (wakes_at s w.slots) (waiting_of q x k)) ∙ e

    from_then : FromPlace M s 0 xs
    from_then r f e =
        let x = front_of (design p) DL xs r f e in
        ⊎_elim (λ b. inl b) (λ b. inr (b, omega arith)) (ends_from r x.wait x.waits f.stamp (front_ends (design p) DL xs x.wait f.stamp x.stamp))

    pub fired_slots : (e : ℕ) → (fire_at w s).slots e ≡ (at_stamp p s e xs).pending
    fired_slots e = (moved e).pending

    pub fired_fits : Fits p (fire_at w s) xs 0 × FromPlace M s 0 xs
    fired_fits = (record { own = λ e o. (moved e).pending; past = past_then; runs = runs_then; waits = λ q e. fits.waits q (none q); quiet = quiet_then }, from_then)
