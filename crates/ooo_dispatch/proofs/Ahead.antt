-- What is pending is for the next delta cycle, or for a later time.
use Rattle.std.proofs.Common.{◌≡◌, ℕ, zero, suc, ◌+◌, ◌<◌, ◌==◌, ◌||◌, Bool, true, false, cond, arith, List, [], ◌∷◌, Option, Some, None, refl, sym, subst, ap, ◌∙◌, get_or, ⊎_elim, eq-eqb}
use Rattle.std.specs.Prelude.{slice_set, nat_lt}
use Rattle.std.specs.List.{list_any}
use Rattle.std.proofs.lemmas.Bool.{cases_eq, eqb-false}
use Rattle.ooo_time.specs.declared.time.Time.{Time}
use Rattle.ooo_time.specs.declared.stamp.Stamp.{Stamp}
use Rattle.ooo_time.specs.Stamps.{IsBefore, is_before}
use Rattle.ooo_code.specs.declared.activation.Effect.{Effect}
use Rattle.ooo_code.specs.declared.activation.Effect.TheVariants as effect
use Rattle.ooo_code.specs.declared.activation.JobEnd.{JobEnd}
use Rattle.ooo_code.specs.declared.activation.JobEnd.TheVariants as job
use Rattle.ooo_events.specs.Slots.{Slot, Nothing, NextDelta, AtTime, due_of, slot_left_at, slot_after_delta, slot_after_timed, slot_after_notify}
use Rattle.ooo_meaning.specs.World.{World, Wait, slot_at, wait_at, never, apply, apply_all, after_deed, timeout_of, wait_after, next_delta, same_stamp, is_due, awake, woken, sooner}
use Rattle.ooo_code.specs.Outcomes.{Deed}
use Rattle.ooo_channels.specs.Agreement.{IsAhead, IsTimely}
use Rattle.ooo_dispatch.proofs.Stamps.{before_no, before_yes, is_yes, transitive}

-- the two answers of the test of stamps
data Earlier (s t : Stamp) : Bool → Type 0 where
  earlier : IsBefore s t → Earlier s t true
  not_earlier : ¬ IsBefore s t → Earlier s t false

earlier_or_not : (s t : Stamp) → Earlier s t (is_before s t)
earlier_or_not s t = go (is_before s t) refl where
  go : (b : Bool) → is_before s t ≡ b → Earlier s t b
  go true e = earlier (is_yes s t e)
  go false e = not_earlier (λ lt. let c : true ≡ false = sym (before_yes s t lt) ∙ e in cc)

-- where `b` isn't before `a`, what is after `b` is after `a`
IsBefore-from_not : (a b c : Stamp) → ¬ IsBefore b a → IsBefore b c → IsBefore a c
IsBefore-from_not a b c h k = grind arith

-- what is due later is left as it is, and else nothing is left
left_same : (slot : Slot) (at d : Stamp) → due_of slot ≡ Some d → IsBefore at d → slot_left_at slot at ≡ slot
left_same slot at d e h = rw (e, before_yes at d h) refl

left_none : (slot : Slot) (at d : Stamp) → due_of slot ≡ Some d → ¬ IsBefore at d → slot_left_at slot at ≡ Nothing
left_none slot at d e h = rw (e, before_no at d h) refl

stamp-apply : (w : World) (f : Effect) → (apply w f).stamp ≡ w.stamp
stamp-apply w (effect.Request d v) = refl
stamp-apply w (effect.Put d v) = refl
stamp-apply w (effect.Take d) = refl
stamp-apply w (effect.Notify d k) = refl
stamp-apply w (effect.Cancel d) = refl
stamp-apply w effect.Stop = refl

delta_ahead : (s : Stamp) (x : Slot) → IsAhead s x → IsAhead s (slot_after_delta x s)
delta_ahead s Nothing h = refl
delta_ahead s (NextDelta made) h = h
delta_ahead s (AtTime t) h = refl

if_ahead : (s : Stamp) (b : Bool) (x y : Slot) → IsAhead s x → IsAhead s y → IsAhead s (cond b x y)
if_ahead s true x y h k = h
if_ahead s false x y h k = k

timed_ahead : (s : Stamp) (t : Time) (x : Slot) → s.time.0 < t.0 → IsAhead s x → IsAhead s (slot_after_timed x t)
timed_ahead s t Nothing lt h = lt
timed_ahead s t (NextDelta made) lt h = h
timed_ahead s t (AtTime u) lt h = if_ahead s (nat_lt t.0 u.0) (AtTime t) (AtTime u) lt h

pub notify_ahead : (s : Stamp) (k : Time) (x : Slot) → IsAhead s x → IsAhead s (slot_after_notify x s k)
notify_ahead s k x h = at (k.0 == 0) refl
  where
    at : (b : Bool) → (k.0 == 0) ≡ b → IsAhead s (cond b (slot_after_delta x s) (slot_after_timed x (record { 0 = s.time.0 + k.0 })))
    at true e = delta_ahead s x h
    at false e = let n = eqb-false k.0 0 e in timed_ahead s (record { 0 = s.time.0 + k.0 }) x (omega (arith, n)) h

-- what an update notifies
pub notified_ahead : (s : Stamp) (b : Bool) (x : Slot) → IsAhead s x → IsAhead s (cond b (slot_after_delta x s) x)
notified_ahead s b x h = if_ahead s b _ x (delta_ahead s x h) h

-- ---- the slots and the waits of a world

-- what holds of what is set, of what stands elsewhere and where there is nothing
set_holds : {A : Type 0} (P : A → Type 0) (xs : List A) (i : ℕ) (x d : A) → P x → ((j : ℕ) → P (get_or xs j d)) → (j : ℕ) → P (get_or (slice_set xs i x) j d)
set_holds P [] i x d h all j = all j
set_holds P (y ∷ ys) zero x d h all zero = h
set_holds P (y ∷ ys) zero x d h all (suc j) = all (suc j)
set_holds P (y ∷ ys) (suc i) x d h all zero = all zero
set_holds P (y ∷ ys) (suc i) x d h all (suc j) = set_holds P ys i x d h (λ k. all (suc k)) j

pub applied_ahead : (w : World) (f : Effect) → ((e : ℕ) → IsAhead w.stamp (slot_at w.slots e)) → (e : ℕ) → IsAhead w.stamp (slot_at (apply w f).slots e)
applied_ahead w (effect.Notify d k) h e = set_holds (IsAhead w.stamp) w.slots d (slot_after_notify (slot_at w.slots d) w.stamp k) Nothing (notify_ahead w.stamp k (slot_at w.slots d) (h d)) h e
applied_ahead w (effect.Cancel d) h e = set_holds (IsAhead w.stamp) w.slots d Nothing Nothing tt h e
applied_ahead w f h e = h e

timeout_ahead : (s : Stamp) (k : Option Time) → IsAhead s (timeout_of s k)
timeout_ahead s None = tt
timeout_ahead s (Some k) = notify_ahead s k Nothing tt

wait_ahead : (s : Stamp) (e : JobEnd) → IsAhead s (wait_after s e).timeout
wait_ahead s (job.Waits on) = timeout_ahead s on.time
wait_ahead s job.Ended = tt
wait_ahead s (job.Faulted f line) = tt
wait_ahead s (job.Limit line) = tt

pub waits_ahead : (s : Stamp) (waits : List Wait) (p : ℕ) (e : JobEnd) → ((q : ℕ) → IsAhead s (wait_at waits q).timeout) → (q : ℕ) → IsAhead s (wait_at (slice_set waits p (wait_after s e)) q).timeout
waits_ahead s waits p e h = set_holds (λ (x : Wait). IsAhead s x.timeout) waits p (wait_after s e) never (wait_ahead s e) h

stamp-apply_all : (w : World) (fs : List Effect) → (apply_all w fs).stamp ≡ w.stamp
stamp-apply_all w [] = refl
stamp-apply_all w (f ∷ fs) = stamp-apply_all (apply w f) fs ∙ stamp-apply w f

all_applied_ahead : (w : World) (fs : List Effect) → ((e : ℕ) → IsAhead w.stamp (slot_at w.slots e)) → (e : ℕ) → IsAhead w.stamp (slot_at (apply_all w fs).slots e)
all_applied_ahead w [] h e = h e
all_applied_ahead w (f ∷ fs) h e =
    subst (λ (s : Stamp). IsAhead s (slot_at (apply_all (apply w f) fs).slots e)) (stamp-apply w f)
    (all_applied_ahead (apply w f) fs (λ d. subst (λ (s : Stamp). IsAhead s (slot_at (apply w f).slots d)) (sym (stamp-apply w f)) (applied_ahead w f h d)) e)

pub deed_timely : (w : World) (p : ℕ) (d : Deed) → IsTimely w → IsTimely (after_deed p w d)
unfolding after_deed
deed_timely w p d h = record {
  slots = λ e. subst (λ (s : Stamp). IsAhead s (slot_at (apply_all w d.effects).slots e)) (sym (stamp-apply_all w d.effects)) (all_applied_ahead w d.effects h.slots e);
  timeouts = λ q. subst (λ (s : Stamp). IsAhead s (wait_at (slice_set w.waits p (wait_after w.stamp d.end)) q).timeout) (sym (stamp-apply_all w d.effects)) (waits_ahead w.stamp w.waits p d.end h.timeouts q);
}

-- ---- at a later stamp

pub left_ahead : (now s : Stamp) (x : Slot) → IsBefore now s → IsAhead now x → IsAhead s (slot_left_at x s)
left_ahead now s Nothing lt h = tt
left_ahead now s (NextDelta made) lt h = subst (IsAhead s) (sym (left_none (NextDelta made) s (next_delta made) refl (past made h))) tt where
  past : (m : Stamp) → m ≡ now → ¬ IsBefore s (next_delta m)
  past m is k = let f : IsBefore s (next_delta now) = subst (λ (a : Stamp). IsBefore s (next_delta a)) is k in grind arith
left_ahead now s (AtTime t) lt h = go (earlier_or_not s (record { time = t; delta = 0 })) where
  go : {b : Bool} → Earlier s (record { time = t; delta = 0 }) b → IsAhead s (slot_left_at (AtTime t) s)
  go (earlier k) = subst (IsAhead s) (sym (left_same (AtTime t) s (record { time = t; delta = 0 }) refl k)) (let g : s.time.0 < t.0 = grind arith in g)
  go (not_earlier k) = subst (IsAhead s) (sym (left_none (AtTime t) s (record { time = t; delta = 0 }) refl k)) tt

-- what is pending once the next delta cycle is reached is for a later time
pub left_timed : (now u : Stamp) (x : Slot) → IsAhead now x → due_of (slot_left_at x (next_delta now)) ≡ Some u → now.time.0 < u.time.0
left_timed now u Nothing h e = absurd cc
left_timed now u (NextDelta made) h e = absurd (let none : slot_left_at (NextDelta made) (next_delta now) ≡ Nothing = left_none (NextDelta made) (next_delta now) (next_delta made) refl (past made h) in let no : None ≡ Some u = ap due_of (sym none) ∙ e in cc) where
  past : (m : Stamp) → m ≡ now → ¬ IsBefore (next_delta now) (next_delta m)
  past m is k = let f : IsBefore (next_delta now) (next_delta now) = subst (λ (a : Stamp). IsBefore (next_delta now) (next_delta a)) is k in grind arith
left_timed now u (AtTime t) h e = go (earlier_or_not (next_delta now) (record { time = t; delta = 0 })) where
  go : {b : Bool} → Earlier (next_delta now) (record { time = t; delta = 0 }) b → now.time.0 < u.time.0
  go (earlier k) =
      let due : Some (record { time = t; delta = 0 }) ≡ Some u = ap due_of (sym (left_same (AtTime t) (next_delta now) (record { time = t; delta = 0 }) refl k)) ∙ e in
      let is : t.0 ≡ u.time.0 = cc in
      omega (arith, h, is)
  go (not_earlier k) = absurd (let no : None ≡ Some u = ap due_of (sym (left_none (AtTime t) (next_delta now) (record { time = t; delta = 0 }) refl k)) ∙ e in cc)

-- ---- the least of some stamps

-- what holds of a stamp, if there is one
abbrev pub Holds : (P : Stamp → Type 0) → Option Stamp → Type 0
Holds P None = Unit {0}
Holds P (Some t) = P t

-- none is before a stamp
abbrev pub From : Stamp → Option Stamp → Type 0
From s o = Holds (λ t. ¬ IsBefore t s) o

pub from_sooner : (s : Stamp) (a b : Option Stamp) → From s (sooner a b) → From s a × From s b
from_sooner s None b h = (tt, h)
from_sooner s (Some t) None h = (h, tt)
from_sooner s (Some t) (Some u) h = go (earlier_or_not u t) h where
  go : {b : Bool} → Earlier u t b → From s (cond b (Some u) (Some t)) → From s (Some t) × From s (Some u)
  go (earlier k) g = ((λ e. g (transitive u t s k e)), g)
  go (not_earlier k) g = (g, (λ e. g (IsBefore-from_not t u s k e)))

-- ---- time-outs at a later stamp

same_stamp-self : (s : Stamp) → same_stamp s s ≡ true
same_stamp-self s = rw (eq-eqb s.time.0 s.time.0 refl, eq-eqb s.delta s.delta refl) refl

-- who wakes has no time-out, and who goes on waiting has one that isn't due
pub woken_timeout : (P : Slot → Type 0) (s : Stamp) (slots : List Slot) (x : Wait) → P Nothing → (is_due s x.timeout ≡ false → P x.timeout) → P (woken s slots x).timeout
woken_timeout P s slots x none stays = go (is_due s x.timeout) refl (list_any (λ e. is_due s (slot_at slots e)) x.events) where
  go : (a : Bool) → is_due s x.timeout ≡ a → (b : Bool) → P (cond (a || b) awake x).timeout
  go true e b = none
  go false e true = none
  go false e false = stays e

pub delta_stays : (now : Stamp) (x : Slot) → IsAhead now x → is_due (next_delta now) x ≡ false → IsAhead (next_delta now) x
delta_stays now Nothing h off = tt
delta_stays now (NextDelta made) h off = absurd (let on : same_stamp (next_delta now) (next_delta made) ≡ true = subst (λ (m : Stamp). same_stamp (next_delta now) (next_delta m) ≡ true) (sym h) (same_stamp-self (next_delta now)) in cc)
delta_stays now (AtTime t) h off = h

pub delta_timed : (now u : Stamp) (x : Slot) → IsAhead now x → is_due (next_delta now) x ≡ false → due_of x ≡ Some u → now.time.0 < u.time.0
delta_timed now u Nothing h off e = absurd cc
delta_timed now u (NextDelta made) h off e = absurd (let on : same_stamp (next_delta now) (next_delta made) ≡ true = subst (λ (m : Stamp). same_stamp (next_delta now) (next_delta m) ≡ true) (sym h) (same_stamp-self (next_delta now)) in cc)
delta_timed now u (AtTime t) h off e = let is : t.0 ≡ u.time.0 = cc in omega (arith, h, is)

pub later_stays : (now s : Stamp) (x : Slot) → now.time.0 < s.time.0 → IsAhead now x → From s (due_of x) → is_due s x ≡ false → IsAhead s x
later_stays now s Nothing lt h from off = tt
later_stays now s (NextDelta made) lt h from off = absurd (from (let is : made.time.0 ≡ now.time.0 = ap (λ (m : Stamp). m.time.0) h in grind arith))
later_stays now s (AtTime t) lt h from off = ⊎_elim (λ e. absurd (no e)) (λ ne. let g : s.time.0 < t.0 = grind arith in g) (cases_eq s.time.0 t.0) where
  no : s.time.0 ≡ t.0 → ⊥
  no e =
      let zero_delta : s.delta ≡ 0 = grind arith in
      let on : same_stamp s (record { time = t; delta = 0 }) ≡ true = rw (eq-eqb s.time.0 t.0 e, eq-eqb s.delta 0 zero_delta) refl in
      cc
