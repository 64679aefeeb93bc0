-- The end of a cycle in the scheduler's world, beside that of the steps: the update, and the stamp that is reached.
use Rattle.std.proofs.Common.{◌≡◌, ℕ, zero, suc, ◌<◌, List, [], ◌∷◌, length, map, Bool, true, false, ◌||◌, if◌then◌else◌, Option, Some, None, refl, sym, ap, ◌∙◌, subst, arith}
use Rattle.std.specs.Prelude.{slice_get}
use Rattle.std.specs.List.{list_any}
use Rattle.ooo_time.specs.declared.stamp.Stamp.{Stamp}
use Rattle.ooo_time.specs.Stamps.{IsBefore}
use Rattle.ooo_value.specs.declared.bound.BoundEvent.{BoundEvent}
use Rattle.ooo_code.specs.Channels.{Channel, is_notified}
use Rattle.ooo_events.specs.Slots.{Slot, due_of, slot_after_delta, slot_left_at}
use Rattle.ooo_meaning.specs.World as real
use Rattle.ooo_meaning.specs.World.{Wait, World, awake, channel_at, never, next_delta, no_channel, notified_slots, slot_at, wait_at, woken}
use Rattle.ooo_dispatch.proofs.Ahead.{From, from_sooner}
use Rattle.ooo_schedules.specs.Worlds as cycle
use Rattle.ooo_schedules.specs.Worlds.{Waiting, any_at, fire_at, is_at, wakes_at}
use Rattle.ooo_dispatch.proofs.Due.{left_due, same_test}
use Rattle.ooo_dispatch.proofs.Turning.{WaitsAlike}
use Rattle.ooo_dispatch.proofs.Stamps.{irreflexive}

-- ---- what the update notifies

pub slot_notified : (s : Stamp) (cs : List Channel) (es : List BoundEvent) (xs : List Slot) (e : ℕ) (k : BoundEvent) → slice_get es e ≡ Some k → e < length xs →
    slot_at (notified_slots s cs es xs) e ≡ (if is_notified cs k then slot_after_delta (slot_at xs e) s else slot_at xs e)
slot_notified s cs [] xs e k is lt = absurd cc
slot_notified s cs (j ∷ js) [] e k is lt = absurd (omega (arith, lt))
slot_notified s cs (j ∷ js) (x ∷ xs) zero k is lt = let same : j ≡ k = cc in ap (λ i. if is_notified cs i then slot_after_delta x s else x) same
slot_notified s cs (j ∷ js) (x ∷ xs) (suc e) k is lt = slot_notified s cs js xs e k is (omega (arith, lt))

-- of an event that there isn't nothing is notified
pub slot_unnotified : (s : Stamp) (cs : List Channel) (es : List BoundEvent) (xs : List Slot) (e : ℕ) → slice_get es e ≡ None → slot_at (notified_slots s cs es xs) e ≡ slot_at xs e
slot_unnotified s cs [] xs e n = refl
slot_unnotified s cs (j ∷ js) [] e n = refl
slot_unnotified s cs (j ∷ js) (x ∷ xs) zero n = absurd cc
slot_unnotified s cs (j ∷ js) (x ∷ xs) (suc e) n = slot_unnotified s cs js xs e n

-- ---- worlds between two cycles

-- the scheduler's world beside that of the steps, as far as it wakes processes
pub record AlikeWorlds (w : World) (v : cycle.World) : Type 0 where
  pub stamp : v.stamp ≡ w.stamp
  pub runnable : (q : ℕ) → v.runnable q ≡ (wait_at w.waits q).runnable
  pub waits : (q : ℕ) → v.runnable q ≡ false → WaitsAlike (v.waits q) (wait_at w.waits q)
  pub slots : (e : ℕ) → v.slots e ≡ due_of (slot_at w.slots e)

-- nothing is due before a stamp
pub record FromStamp (w : World) (s : Stamp) : Type 0 where
  pub slots : (e : ℕ) (t : Stamp) → due_of (slot_at w.slots e) ≡ Some t → IsBefore t s → ⊥
  pub times : (q : ℕ) (t : Stamp) → due_of (wait_at w.waits q).timeout ≡ Some t → IsBefore t s → ⊥

any_same : (s : Stamp) (xs : List Slot) (slots : ℕ → Option Stamp) → ((e : ℕ) → slots e ≡ due_of (slot_at xs e)) → (es : List ℕ) → list_any (λ e. real.is_due s (slot_at xs e)) es ≡ any_at s slots es
any_same s xs slots same [] = refl
any_same s xs slots same (e ∷ es) =
    ap (λ b. b || list_any (λ d. real.is_due s (slot_at xs d)) es) (same_test s (due_of (slot_at xs e)) ∙ ap (is_at s) (sym (same e))) ∙ ap (λ b. is_at s (slots e) || b) (any_same s xs slots same es)

-- a wait wakes as the steps say
wakes_same : (s : Stamp) (xs : List Slot) (slots : ℕ → Option Stamp) → ((e : ℕ) → slots e ≡ due_of (slot_at xs e)) → (y : Option Waiting) (x : Wait) → WaitsAlike y x →
    (real.is_due s x.timeout || list_any (λ e. real.is_due s (slot_at xs e)) x.events) ≡ wakes_at s slots y
wakes_same s xs slots same None x h =
    ap (λ t. real.is_due s t || list_any (λ e. real.is_due s (slot_at xs e)) x.events) h.1 ∙ ap (λ es. list_any (λ e. real.is_due s (slot_at xs e)) es) h.0
wakes_same s xs slots same (Some y) x h =
    ap (λ b. b || list_any (λ e. real.is_due s (slot_at xs e)) x.events) (same_test s (due_of x.timeout) ∙ ap (is_at s) (sym h.0))
    ∙ ap (λ b. is_at s y.timeout || b) (any_same s xs slots same x.events ∙ ap (any_at s slots) (sym h.1))

woken_runs : (b : Bool) (x : Wait) → x.runnable ≡ false → (let y : Wait = if b then awake else x in y.runnable) ≡ b
woken_runs true x off = refl
woken_runs false x off = off

woken_waits : (b : Bool) (y : Option Waiting) (x : Wait) → b ≡ false → WaitsAlike y x → WaitsAlike y (if b then awake else x)
woken_waits true y x off h = absurd (let c : true ≡ false = off in cc)
woken_waits false y x off h = h

pub wait_woken : (s : Stamp) (xs : List Slot) (waits : List Wait) (q : ℕ) → wait_at (map (woken s xs) waits) q ≡ woken s xs (wait_at waits q)
wait_woken s xs [] q = refl
wait_woken s xs (x ∷ waits) zero = refl
wait_woken s xs (x ∷ waits) (suc q) = wait_woken s xs waits q

pub slot_left : (s : Stamp) (xs : List Slot) (e : ℕ) → slot_at (map (λ x. slot_left_at x s) xs) e ≡ slot_left_at (slot_at xs e) s
slot_left s [] e = refl
slot_left s (x ∷ xs) zero = refl
slot_left s (x ∷ xs) (suc e) = slot_left s xs e

-- a stamp is reached before which nothing is due
pub reached : (w : World) (v : cycle.World) (s : Stamp) → AlikeWorlds w v → ((q : ℕ) → v.runnable q ≡ false) → FromStamp w s → AlikeWorlds (real.reach s w) (fire_at v s)
unfolding real.reach
reached w v s a none from = record { stamp = refl; runnable = runnable; waits = waits; slots = slots }
  where
    wakes : (q : ℕ) → (real.is_due s (wait_at w.waits q).timeout || list_any (λ e. real.is_due s (slot_at w.slots e)) (wait_at w.waits q).events) ≡ wakes_at s v.slots (v.waits q)
    wakes q = wakes_same s w.slots v.slots a.slots (v.waits q) (wait_at w.waits q) (a.waits q (none q))

    runnable : (q : ℕ) → wakes_at s v.slots (v.waits q) ≡ (wait_at (map (woken s w.slots) w.waits) q).runnable
    runnable q =
        sym (wakes q) ∙ sym (woken_runs (real.is_due s (wait_at w.waits q).timeout || list_any (λ e. real.is_due s (slot_at w.slots e)) (wait_at w.waits q).events) (wait_at w.waits q) (sym (a.runnable q) ∙ none q))
        ∙ sym (ap (λ y. y.runnable) (wait_woken s w.slots w.waits q))

    waits : (q : ℕ) → wakes_at s v.slots (v.waits q) ≡ false → WaitsAlike (v.waits q) (wait_at (map (woken s w.slots) w.waits) q)
    waits q off =
        subst (λ y. WaitsAlike (v.waits q) y) (sym (wait_woken s w.slots w.waits q))
        (woken_waits (real.is_due s (wait_at w.waits q).timeout || list_any (λ e. real.is_due s (slot_at w.slots e)) (wait_at w.waits q).events) (v.waits q) (wait_at w.waits q) (wakes q ∙ off) (a.waits q (none q)))

    slots : (e : ℕ) → (if is_at s (v.slots e) then None else v.slots e) ≡ due_of (slot_at (map (λ x. slot_left_at x s) w.slots) e)
    slots e =
        ap (λ o. if is_at s o then None else o) (a.slots e) ∙ sym (left_due s (slot_at w.slots e) (from.slots e)) ∙ sym (ap due_of (slot_left s w.slots e))

-- ---- a list's least

-- nothing before a stamp among what is pending
from_least : (s : Stamp) (xs : List (Option Stamp)) → From s (real.least xs) → (n : ℕ) (o : Option Stamp) → slice_get xs n ≡ Some o → From s o
from_least s [] h n o e = absurd cc
from_least s (x ∷ xs) h zero o e = let same : x ≡ o = cc in subst (From s) same (from_sooner s x (real.least xs) h).0
from_least s (x ∷ xs) h (suc n) o e = from_least s xs (from_sooner s x (real.least xs) h).1 n o e

slot_there : (xs : List Slot) (e : ℕ) (t : Stamp) → due_of (slot_at xs e) ≡ Some t → slice_get (map due_of xs) e ≡ Some (Some t)
slot_there [] e t h = absurd (let k : None ≡ Some t = h in cc)
slot_there (x ∷ xs) zero t h = ap Some h
slot_there (x ∷ xs) (suc e) t h = slot_there xs e t h

time_there : (waits : List Wait) (q : ℕ) (t : Stamp) → due_of (wait_at waits q).timeout ≡ Some t → slice_get (map (λ x. due_of x.timeout) waits) q ≡ Some (Some t)
time_there [] q t h = absurd (let k : None ≡ Some t = h in cc)
time_there (x ∷ waits) zero t h = ap Some h
time_there (x ∷ waits) (suc q) t h = time_there waits q t h

-- the stamp to which time moves is the least for which anything is pending
pub least_from : (w : World) (s : Stamp) → real.least_pending w ≡ Some s → FromStamp w s
least_from w s e = record {
  slots = λ d t h lt. from_least s (map due_of w.slots) both.0 d (Some t) (slot_there w.slots d t h) lt;
  times = λ q t h lt. from_least s (map (λ x. due_of x.timeout) w.waits) both.1 q (Some t) (time_there w.waits q t h) lt;
}
  where
    both : From s (real.least (map due_of w.slots)) × From s (real.least (map (λ x. due_of x.timeout) w.waits))
    both = from_sooner s (real.least (map due_of w.slots)) (real.least (map (λ x. due_of x.timeout) w.waits)) (subst (From s) (sym e) (irreflexive s))
