-- When an event fires, by the calls on it and by what is kept of it.
use Rattle.std.proofs.Common.{◌≡◌, ◌⊎◌, inl, inr, ⊎_elim, List, [], ◌∷◌, ◌++◌, Bool, true, false, not, if◌then◌else◌, Option, Some, None, refl, sym, ap, ◌∙◌, subst, arith, append-nil}
use Rattle.std.specs.Prelude.{⊤}
use Rattle.std.proofs.lemmas.List.Elements.{filter-append}
use Rattle.std.proofs.lemmas.List.Sums.{fold-append}
use Rattle.ooo_time.specs.declared.time.Time.{Time}
use Rattle.ooo_time.specs.declared.stamp.Stamp.{Stamp}
use Rattle.ooo_time.specs.Stamps.{IsBefore, is_before, stamp_after}
use Rattle.ooo_events.specs.declared.call.Call.{Call}
use Rattle.ooo_events.specs.declared.call.Call.TheVariants as call
use Rattle.ooo_events.specs.Calls.{stamp_of}
use Rattle.ooo_events.specs.Events.{pending_at}
use Rattle.ooo_events.specs.Firings.{Fires, IsFirstAfter, calls_before, slot_after, slot_after_call}
use Rattle.ooo_events.specs.Slots.{Slot, Nothing, NextDelta, AtTime, due_of, has_come, slot_left_at, slot_after_notify}
use Rattle.ooo_meaning.specs.World.{next_delta, zero_stamp}
use Rattle.ooo_schedules.specs.Model.{In}
use Rattle.ooo_schedules.specs.Slots.{Event, Notify, Cancel, call_at, first_of, is_since, least_of, lesser, settled, sooner_of, with_pending}
use Rattle.ooo_channels.specs.Agreement.{IsAhead}
use Rattle.ooo_dispatch.proofs.Ahead.{notify_ahead}
use Rattle.ooo_dispatch.proofs.Due.{notify_due}
use Rattle.ooo_dispatch.proofs.Stamps.{after_later, before_no, before_yes, compare, delta_not_after, irreflexive, is_no, is_yes, then_not_after, transitive}

-- it fired at a stamp, or is pending for it
abbrev pub Has : Event Stamp → Stamp → Type 0
Has v t = In t v.fired ⊎ (v.pending ≡ Some t)

-- a stamp is not after another one
abbrev pub IsBy : Stamp → Stamp → Type 0
IsBy at s = IsBefore at s → ⊥

-- none of the calls is after a stamp
abbrev pub AreBy : Stamp → List Call → Type 0
AreBy at [] = ⊤
AreBy at (c ∷ cs) = IsBy at (stamp_of c) × AreBy at cs

-- they are made at a stamp
abbrev pub AreAt : Stamp → List Call → Type 0
AreAt at [] = ⊤
AreAt at (c ∷ cs) = (stamp_of c ≡ at) × AreAt at cs

-- a delta notification that is pending was not made after a stamp
abbrev pub IsMadeBy : Stamp → Slot → Type 0
IsMadeBy at Nothing = ⊤
IsMadeBy at (NextDelta made) = IsBy at made
IsMadeBy at (AtTime t) = ⊤

-- calls up to a stamp and what is kept of the event tell the same firings
pub record TellsAs (at : Stamp) (calls : List Call) (v : Event Stamp) : Type 0 where
  pub by : AreBy at calls
  pub made : IsMadeBy at (slot_after calls)
  pub left : pending_at (due_of (slot_after calls)) at ≡ pending_at v.pending at
  pub reached : (t : Stamp) → In t v.fired → IsBy at t
  pub tells : (t : Stamp) → Has v t → Fires calls t
  pub told : (t : Stamp) → Fires calls t → Has v t
  pub later : (t : Stamp) → Has v t → IsBefore zero_stamp t

-- before any call
pub none_told : (at : Stamp) → TellsAs at [] (record { fired = []; pending = None })
none_told at = record {
  by = tt;
  made = tt;
  left = refl;
  reached = λ t i. absurd i;
  tells = λ t x. ⊎_elim (λ i. absurd i) (λ e. absurd cc) x;
  told = λ t e. absurd (let c : None ≡ Some t = e in cc);
  later = λ t x. ⊎_elim (λ i. absurd i) (λ e. absurd cc) x;
}

-- ---- stamps

pub is_or_not : (s t : Stamp) → IsBefore s t ⊎ IsBy s t
is_or_not s t = at (is_before s t) refl
  where
    at : (b : Bool) → is_before s t ≡ b → IsBefore s t ⊎ IsBy s t
    at true e = inl (is_yes s t e)
    at false e = inr (λ h. let c : true ≡ false = sym (before_yes s t h) ∙ e in absurd cc)

some_stamp : (s t : Stamp) → Some s ≡ Some t → s ≡ t
some_stamp s t e = cc

by_later : (s t u : Stamp) → IsBy t s → IsBy s u → IsBy t u
by_later s t u h k = λ x. ⊎_elim (λ a. h a) (λ n. grind arith) (is_or_not t s)

after_zero : (s t : Stamp) → IsBefore s t → IsBefore zero_stamp t
after_zero s t h = grind arith

-- ---- what is pending once a stamp is reached

pub left_ahead : (p : Option Stamp) (at t : Stamp) → pending_at p at ≡ Some t → IsBefore at t
left_ahead None at t e = absurd cc
left_ahead (Some u) at t e = by (is_before at u) refl e
  where
    by : (b : Bool) → is_before at u ≡ b → (if not b then None else Some u) ≡ Some t → IsBefore at t
    by true f h = subst (λ x. IsBefore at x) (some_stamp u t h) (is_yes at u f)
    by false f h = absurd cc

pub left_some : (p : Option Stamp) (at t : Stamp) → p ≡ Some t → IsBefore at t → pending_at p at ≡ Some t
left_some p at t e h = ap (λ q. pending_at q at) e ∙ ap (λ b. if not b then None else Some t) (before_yes at t h)

pub left_none : (p : Option Stamp) (at t : Stamp) → p ≡ Some t → IsBy at t → pending_at p at ≡ None
left_none p at t e h = ap (λ q. pending_at q at) e ∙ ap (λ b. if not b then None else Some t) (before_no at t h)

pub left_is : (p : Option Stamp) (at t : Stamp) → pending_at p at ≡ Some t → p ≡ Some t
left_is None at t e = absurd cc
left_is (Some u) at t e = by (is_before at u) e
  where
    by : (b : Bool) → (if not b then None else Some u) ≡ Some t → Some u ≡ Some t
    by true h = h
    by false h = absurd cc

left_twice : (p : Option Stamp) (at s : Stamp) → IsBy s at → pending_at (pending_at p at) s ≡ pending_at p s
left_twice None at s h = refl
left_twice (Some u) at s h = ⊎_elim (λ k. ap (λ q. pending_at q s) (left_some (Some u) at u refl k)) (λ k. ap (λ q. pending_at q s) (left_none (Some u) at u refl k) ∙ sym (left_none (Some u) s u refl (by_later at s u h k))) (is_or_not at u)

left_due : (x : Slot) (at : Stamp) → due_of (slot_left_at x at) ≡ pending_at (due_of x) at
left_due x at = by (has_come (due_of x) at)
  where
    by : (b : Bool) → due_of (if b then Nothing else x) ≡ (if b then None else due_of x)
    by true = refl
    by false = refl

pub made_ahead : (at : Stamp) (x : Slot) → IsMadeBy at x → IsAhead at (slot_left_at x at)
made_ahead at Nothing h = by (has_come None at)
  where
    by : (b : Bool) → IsAhead at (if b then Nothing else Nothing)
    by true = tt
    by false = tt
made_ahead at (NextDelta made) h = by (is_before at (next_delta made)) refl
  where
    by : (b : Bool) → is_before at (next_delta made) ≡ b → IsAhead at (if not b then Nothing else NextDelta made)
    by true e = let k = is_yes at (next_delta made) e in ⊎_elim (λ x. absurd (h x)) (λ r. ⊎_elim (λ s. sym s) (λ x. absurd (irreflexive at (then_not_after at (next_delta made) at k (delta_not_after made at x)))) r) (compare at made)
    by false e = tt
made_ahead at (AtTime u) h = by (is_before at (record { time = u; delta = 0 })) refl
  where
    by : (b : Bool) → is_before at (record { time = u; delta = 0 }) ≡ b → IsAhead at (if not b then Nothing else AtTime u)
    by true e = ⊎_elim (λ k. k) (λ k. let n = k.1 in absurd (omega (arith, n))) (is_yes at (record { time = u; delta = 0 }) e)
    by false e = tt

pub ahead_made : (at : Stamp) (x : Slot) → IsAhead at x → IsMadeBy at x
ahead_made at Nothing h = tt
ahead_made at (NextDelta made) h = λ k. irreflexive at (subst (λ x. IsBefore at x) h k)
ahead_made at (AtTime t) h = tt

made_later : (at s : Stamp) (x : Slot) → IsBy s at → IsMadeBy at x → IsMadeBy s x
made_later at s Nothing h k = tt
made_later at s (NextDelta made) h k = by_later at s made h k
made_later at s (AtTime t) h k = tt

-- ---- calls before a stamp

by_append : (at : Stamp) (cs ds : List Call) → AreBy at cs → AreAt at ds → AreBy at (cs ++ ds)
by_append at [] [] h k = tt
by_append at [] (d ∷ ds) h k = ((λ x. irreflexive at (subst (λ y. IsBefore at y) k.0 x)), by_append at [] ds tt k.1)
by_append at (c ∷ cs) ds h k = (h.0, by_append at cs ds h.1 k)

calls_by_later : (at s : Stamp) (cs : List Call) → IsBy s at → AreBy at cs → AreBy s cs
calls_by_later at s [] h k = tt
calls_by_later at s (c ∷ cs) h k = (by_later at s (stamp_of c) h k.0, calls_by_later at s cs h k.1)

all_before : (at t : Stamp) (cs : List Call) → IsBefore at t → AreBy at cs → calls_before t cs ≡ cs
all_before at t [] h k = refl
all_before at t (c ∷ cs) h k =
    let first : is_before (stamp_of c) t ≡ true = before_yes (stamp_of c) t (let n = k.0 in grind arith) in
    rw first (ap (λ ds. c ∷ ds) (all_before at t cs h k.1))

none_before : (at t : Stamp) (cs : List Call) → IsBy at t → AreAt at cs → calls_before t cs ≡ []
none_before at t [] h k = refl
none_before at t (c ∷ cs) h k =
    let first : is_before (stamp_of c) t ≡ false = before_no (stamp_of c) t (λ x. h (subst (λ y. IsBefore y t) k.0 x)) in
    rw first (none_before at t cs h k.1)

before_same : (at t : Stamp) (cs ds : List Call) → IsBy at t → AreAt at ds → calls_before t (cs ++ ds) ≡ calls_before t cs
before_same at t cs ds h k =
    filter-append (λ c. is_before (stamp_of c) t) cs ds ∙ ap (λ es. calls_before t cs ++ es) (none_before at t ds h k) ∙ append-nil (calls_before t cs)

-- ---- more calls, all of them at the stamp

pub record Goes (at : Stamp) (calls more : List Call) (v w : Event Stamp) : Type 0 where
  pub here : AreAt at more
  pub made : IsMadeBy at (slot_after (calls ++ more))
  pub left : pending_at (due_of (slot_after (calls ++ more))) at ≡ pending_at w.pending at
  pub reached : (t : Stamp) → In t w.fired → IsBy at t
  pub kept : (t : Stamp) → IsBy at t → Has v t → Has w t
  pub only : (t : Stamp) → IsBy at t → Has w t → Has v t
  pub due : (t : Stamp) → IsBefore at t → Has w t → due_of (slot_after (calls ++ more)) ≡ Some t
  pub has : (t : Stamp) → IsBefore at t → due_of (slot_after (calls ++ more)) ≡ Some t → Has w t

pub gone : (at : Stamp) (calls more : List Call) (v w : Event Stamp) → TellsAs at calls v → Goes at calls more v w → TellsAs at (calls ++ more) w
gone at calls more v w h g = record {
  by = whole;
  made = g.made;
  left = g.left;
  reached = g.reached;
  tells = λ t x. ⊎_elim (λ k. ap (λ cs. due_of (slot_after cs)) (all_before at t (calls ++ more) k whole) ∙ g.due t k x) (λ k. ap (λ cs. due_of (slot_after cs)) (before_same at t calls more k g.here) ∙ h.tells t (g.only t k x)) (is_or_not at t);
  told = λ t x. ⊎_elim (λ k. g.has t k (sym (ap (λ cs. due_of (slot_after cs)) (all_before at t (calls ++ more) k whole)) ∙ x)) (λ k. g.kept t k (h.told t (sym (ap (λ cs. due_of (slot_after cs)) (before_same at t calls more k g.here)) ∙ x))) (is_or_not at t);
  later = λ t x. ⊎_elim (λ k. after_zero at t k) (λ k. h.later t (g.only t k x)) (is_or_not at t);
}
  where
    whole : AreBy at (calls ++ more)
    whole = by_append at calls more h.by g.here

-- a later stamp is reached
pub reached_later : (at s : Stamp) (calls : List Call) (v : Event Stamp) → IsBy s at → TellsAs at calls v → TellsAs s calls v
reached_later at s calls v h k = record {
  by = calls_by_later at s calls h k.by;
  made = made_later at s (slot_after calls) h k.made;
  left = sym (left_twice (due_of (slot_after calls)) at s h) ∙ ap (λ p. pending_at p s) k.left ∙ left_twice v.pending at s h;
  reached = λ t i. by_later at s t h (k.reached t i);
  tells = k.tells;
  told = k.told;
  later = k.later;
}

-- ---- one call of the model's own

-- what has come is a firing
pub record Settles (at : Stamp) (fired : List Stamp) (p : Option Stamp) (w : Event Stamp) (q : Option Stamp) : Type 0 where
  pub reached : (t : Stamp) → In t w.fired → IsBy at t
  pub pending : w.pending ≡ q
  pub kept : (t : Stamp) → IsBy at t → In t fired ⊎ (p ≡ Some t) → In t w.fired
  pub only : (t : Stamp) → In t w.fired → In t fired ⊎ (p ≡ Some t)

pub settles : (at : Stamp) (fired : List Stamp) (p : Option Stamp) → ((t : Stamp) → In t fired → IsBy at t) → Settles at fired p (settled Stamp is_before at fired p) (pending_at p at)
settles at fired None h = record { reached = h; pending = refl; kept = λ t k x. ⊎_elim (λ i. i) (λ e. absurd cc) x; only = λ t i. inl i }
settles at fired (Some u) h = by (is_before at u) refl
  where
    by : (b : Bool) → is_before at u ≡ b → Settles at fired (Some u) (if b then record { fired = fired; pending = Some u } else record { fired = u ∷ fired; pending = None }) (if not b then None else Some u)
    by true e = record { reached = h; pending = refl; kept = λ t k x. ⊎_elim (λ i. i) (λ f. absurd (k (subst (λ y. IsBefore at y) (some_stamp u t f) (is_yes at u e)))) x; only = λ t i. inl i }
    by false e = record {
      reached = λ t i. ⊎_elim (λ f. λ k. past (subst (λ y. IsBefore at y) f k)) (λ j. h t j) i;
      pending = refl;
      kept = λ t k x. ⊎_elim (λ i. inr i) (λ f. inl (sym (some_stamp u t f))) x;
      only = λ t i. ⊎_elim (λ f. inr (ap Some (sym f))) (λ j. inl j) i;
    }
      where
        past : IsBy at u
        past k = let c : true ≡ false = sym (before_yes at u k) ∙ e in absurd cc

-- after a call what is left and made is pending
module _ (at : Stamp) (calls : List Call) (v : Event Stamp) (h : TellsAs at calls v) where
  abbrev was : Event Stamp
  was = settled Stamp is_before at v.fired v.pending

  before : Settles at v.fired v.pending (settled Stamp is_before at v.fired v.pending) (pending_at v.pending at)
  before = settles at v.fired v.pending h.reached

  by_call :
      (c : Call) (p : Option Stamp) → stamp_of c ≡ at → IsMadeBy at (slot_after (calls ++ c ∷ [])) → due_of (slot_after (calls ++ c ∷ [])) ≡ p →
      ((t : Stamp) → p ≡ Some t → IsBefore at t) → TellsAs at (calls ++ c ∷ []) (record { fired = was.fired; pending = p })
  by_call c p here made due ahead = gone at calls (c ∷ []) v (record { fired = was.fired; pending = p }) h (record {
    here = (here, tt);
    made = made;
    left = ap (λ q. pending_at q at) due;
    reached = before.reached;
    kept = λ t k x. inl (before.kept t k x);
    only = λ t k x. ⊎_elim (λ i. before.only t i) (λ e. absurd (k (ahead t e))) x;
    due = λ t k x. due ∙ ⊎_elim (λ i. absurd (before.reached t i k)) (λ e. e) x;
    has = λ t k e. inr (sym due ∙ e);
  })

  slot_was : IsAhead at (slot_left_at (slot_after calls) at)
  slot_was = made_ahead at (slot_after calls) h.made

  due_was : due_of (slot_left_at (slot_after calls) at) ≡ was.pending
  due_was = left_due (slot_after calls) at ∙ h.left ∙ sym before.pending

  pub notified : (k : Time) → TellsAs at (calls ++ call.Notify at k ∷ []) (call_at Stamp is_before at (Notify (stamp_after at k)) v)
  notified k = by_call (call.Notify at k) (Some (sooner_of Stamp is_before was.pending (stamp_after at k))) refl
      (subst (λ x. IsMadeBy at x) (sym step) (ahead_made at (slot_after_notify (slot_left_at (slot_after calls) at) at k) (notify_ahead at k (slot_left_at (slot_after calls) at) slot_was)))
      (ap due_of step ∙ notify_due at k (slot_left_at (slot_after calls) at) slot_was ∙ ap (λ q. Some (sooner_of Stamp is_before q (stamp_after at k))) due_was)
      (λ t e. subst (λ y. IsBefore at y) (some_stamp _ t e) (sooner_later was.pending (stamp_after at k) (λ u f. left_ahead v.pending at u (sym before.pending ∙ f)) (after_later at k)))
    where
      step : slot_after (calls ++ call.Notify at k ∷ []) ≡ slot_after_notify (slot_left_at (slot_after calls) at) at k
      step = fold-append slot_after_call Nothing calls (call.Notify at k ∷ [])

      sooner_later : (p : Option Stamp) (u : Stamp) → ((t : Stamp) → p ≡ Some t → IsBefore at t) → IsBefore at u → IsBefore at (sooner_of Stamp is_before p u)
      sooner_later None u a b = b
      sooner_later (Some w) u a b = by (is_before u w)
        where
          by : (c : Bool) → IsBefore at (if c then u else w)
          by true = b
          by false = a w refl

  pub cancelled : TellsAs at (calls ++ call.Cancel at ∷ []) (call_at Stamp is_before at Cancel v)
  cancelled = by_call (call.Cancel at) None refl (subst (λ x. IsMadeBy at x) (sym step) tt) (ap due_of step) (λ t e. absurd cc)
    where
      step : slot_after (calls ++ call.Cancel at ∷ []) ≡ Nothing
      step = fold-append slot_after_call Nothing calls (call.Cancel at ∷ [])

-- ---- the first firing after a stamp

first_same : (P Q : Stamp → Type 0) (s : Stamp) (o : Option Stamp) → ((t : Stamp) → P t → Q t) → ((t : Stamp) → Q t → P t) → IsFirstAfter P s o → IsFirstAfter Q s o
first_same P Q s None to from h = λ t lt q. h t lt (from t q)
first_same P Q s (Some r) to from h = record { later = h.later; holds = to r h.holds; below = λ t lt q. h.below t lt (from t q) }

one_first : (P : Stamp → Type 0) (s : Stamp) (a b : Option Stamp) → IsFirstAfter P s a → IsFirstAfter P s b → a ≡ b
one_first P s None None h k = refl
one_first P s None (Some y) h k = absurd (h y k.later k.holds)
one_first P s (Some x) None h k = absurd (k x h.later h.holds)
one_first P s (Some x) (Some y) h k = ap Some (⊎_elim (λ lt. absurd (k.below x h.later h.holds lt)) (λ r. ⊎_elim (λ e. e) (λ lt. absurd (h.below y k.later k.holds lt)) r) (compare x y))

least_is : (since : Option Stamp) (s : Stamp) (ts : List Stamp) → ((t : Stamp) → In t ts → is_since Stamp is_before since t ≡ is_before s t) → IsFirstAfter (λ t. In t ts) s (least_of Stamp is_before since ts)
least_is since s [] h = λ t lt i. i
least_is since s (u ∷ ts) h = by (is_since Stamp is_before since u) (h u (inl refl)) (least_of Stamp is_before since ts) (least_is since s ts (λ t i. h t (inr i)))
  where
    past : is_before s u ≡ false → IsBy s u
    past e k = let c : true ≡ false = sym (before_yes s u k) ∙ e in absurd cc

    behind : (o : Option Stamp) → IsBy s u → IsFirstAfter (λ t. In t ts) s o → IsFirstAfter (λ t. In t (u ∷ ts)) s o
    behind None n k = λ t lt i. ⊎_elim (λ e. n (subst (λ y. IsBefore s y) e lt)) (λ j. k t lt j) i
    behind (Some m) n k = record { later = k.later; holds = inr k.holds; below = λ t lt i. ⊎_elim (λ e. absurd (n (subst (λ y. IsBefore s y) e lt))) (λ j. k.below t lt j) i }

    sooner : (m : Stamp) → IsBefore s u → IsFirstAfter (λ t. In t ts) s (Some m) → (c : Bool) → is_before m u ≡ c → IsFirstAfter (λ t. In t (u ∷ ts)) s (if c then Some m else Some u)
    sooner m n k true e = record {
      later = k.later;
      holds = inr k.holds;
      below = λ t lt i. ⊎_elim (λ f. λ x. irreflexive m (transitive m u m (is_yes m u e) (subst (λ y. IsBefore y m) f x))) (λ j. k.below t lt j) i;
    }
    sooner m n k false e = record {
      later = n;
      holds = inl refl;
      below = λ t lt i. ⊎_elim (λ f. λ x. irreflexive u (subst (λ y. IsBefore y u) f x)) (λ j. λ x. k.below t lt j (then_not_after t u m x (is_no m u e))) i;
    }

    ahead : (o : Option Stamp) → IsBefore s u → IsFirstAfter (λ t. In t ts) s o → IsFirstAfter (λ t. In t (u ∷ ts)) s (lesser Stamp is_before u o)
    ahead None n k = record { later = n; holds = inl refl; below = λ t lt i. ⊎_elim (λ f. λ x. irreflexive u (subst (λ y. IsBefore y u) f x)) (λ j. absurd (k t lt j)) i }
    ahead (Some m) n k = sooner m n k (is_before m u) refl

    by : (b : Bool) → b ≡ is_before s u → (o : Option Stamp) → IsFirstAfter (λ t. In t ts) s o → IsFirstAfter (λ t. In t (u ∷ ts)) s (if b then lesser Stamp is_before u o else o)
    by true e o k = ahead o (is_yes s u (sym e)) k
    by false e o k = behind o (past (sym e)) k

pub first_told :
    (since : Option Stamp) (s : Stamp) (v : Event Stamp) (P : Stamp → Type 0) → ((t : Stamp) → Has v t → is_since Stamp is_before since t ≡ is_before s t) →
    ((t : Stamp) → P t → Has v t) → ((t : Stamp) → Has v t → P t) → (o : Option Stamp) → IsFirstAfter P s o → o ≡ first_of Stamp is_before v since
first_told since s v P agree to from o h =
    one_first P s o (first_of Stamp is_before v since) h
    (first_same (λ t. In t (with_pending Stamp is_before v.fired v.pending)) P s (first_of Stamp is_before v since) (λ t i. from t (has_of v.fired v.pending t i)) (λ t p. of_has v.fired v.pending t (to t p))
    (least_is since s (with_pending Stamp is_before v.fired v.pending) (λ t i. agree t (has_of v.fired v.pending t i))))
  where
    has_of : (ts : List Stamp) (p : Option Stamp) (t : Stamp) → In t (with_pending Stamp is_before ts p) → In t ts ⊎ (p ≡ Some t)
    has_of ts None t i = inl i
    has_of ts (Some u) t i = ⊎_elim (λ e. inr (ap Some (sym e))) (λ j. inl j) i

    of_has : (ts : List Stamp) (p : Option Stamp) (t : Stamp) → In t ts ⊎ (p ≡ Some t) → In t (with_pending Stamp is_before ts p)
    of_has ts None t x = ⊎_elim (λ i. i) (λ e. absurd cc) x
    of_has ts (Some u) t x = ⊎_elim (λ i. inr i) (λ e. inl (sym (some_stamp u t e))) x
