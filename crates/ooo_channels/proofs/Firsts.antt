-- The first firing after the present stamp is when the slot that the calls leave is due.
use Rattle.std.proofs.Common.{◌≡◌, ◌↔◌, Bool, List, [], ◌∷◌, ◌++◌, Option, Some, None, refl, sym, subst, ap, ◌∙◌}
use Rattle.std.specs.Option.{ForSome}
use Rattle.std.proofs.lemmas.List.Sums.{fold-append}
use Rattle.ooo_time.specs.declared.stamp.Stamp.{Stamp}
use Rattle.ooo_time.specs.Stamps.{IsBefore}
use Rattle.ooo_events.specs.declared.call.Call.{Call}
use Rattle.ooo_events.specs.Slots.{Slot, Nothing, due_of, slot_left_at}
use Rattle.ooo_events.specs.Calls.{AreInOrder, Follows, last_stamp, stamp_of}
use Rattle.ooo_events.specs.Firings.{IsFirstAfter, Fires, calls_before, slot_after, slot_after_call}
use Rattle.ooo_channels.proofs.Orders.{Earlier, earlier, not_earlier, earlier_or_not, is_before-yes, IsBefore-irrefl, IsBefore-from_not}
use Rattle.ooo_channels.proofs.Slots.{Later, left_is_later, left_same, left_none}

-- where a fact holds after a stamp just at one stamp, that is the first
first_is : (P : Stamp → Type 0) (now : Stamp) (o : Option Stamp) → Later now o → ((t : Stamp) → IsBefore now t → P t ↔ (o ≡ Some t)) → IsFirstAfter P now o
first_is P now None later h = λ t lt p. absurd (let e : None ≡ Some t = (h t lt).0 p in cc)
first_is P now (Some d) later h = record {
  later = later;
  holds = (h d later).1 refl;
  below = λ t lt p. let e : d ≡ t = cc ((h t lt).0 p) in subst (λ x. ¬ IsBefore x d) e (IsBefore-irrefl d);
}

after_first :
    (s t : Stamp) (calls : List Call) → AreInOrder (Some s) calls → ForSome (last_stamp (Some s) calls) (λ l. IsBefore l t) → IsBefore s t
after_first s t [] order later = later s refl
after_first s t (c ∷ cs) order later =
    IsBefore-from_not s (stamp_of c) t (order.0 s refl) (after_first (stamp_of c) t cs order.1 later)

calls_before-all :
    (last : Option Stamp) (t : Stamp) (calls : List Call) → AreInOrder last calls → ForSome (last_stamp last calls) (λ l. IsBefore l t) →
    calls_before t calls ≡ calls
calls_before-all last t [] order later = refl
calls_before-all last t (c ∷ cs) order later =
    let first = is_before-yes (stamp_of c) t (after_first (stamp_of c) t cs order.1 later) in
    rw first (ap (λ ds. c ∷ ds) (calls_before-all (Some (stamp_of c)) t cs order.1 later))

-- what is due after a stamp is left there
left_due : (slot : Slot) (now t : Stamp) → IsBefore now t → (due_of slot ≡ Some t) ↔ (due_of (slot_left_at slot now) ≡ Some t)
left_due slot now t lt = (there, back) where
  there : due_of slot ≡ Some t → due_of (slot_left_at slot now) ≡ Some t
  there e = ap due_of (left_same slot now (subst (Later now) (sym e) lt)) ∙ e

  back : due_of (slot_left_at slot now) ≡ Some t → due_of slot ≡ Some t
  back e = go (due_of slot) refl where
    cases : (d : Stamp) {b : Bool} → due_of slot ≡ Some d → Earlier now d b → due_of slot ≡ Some t
    cases d f (earlier h) = ap due_of (sym (left_same slot now (subst (Later now) (sym f) h))) ∙ e
    cases d f (not_earlier h) = absurd (let g = ap due_of (left_none slot now d f h) in cc)

    go : (o : Option Stamp) → due_of slot ≡ o → due_of slot ≡ Some t
    go None f = ap due_of (sym (left_same slot now (subst (Later now) (sym f) tt))) ∙ e
    go (Some d) f = cases d f (earlier_or_not now d)

fires_by_calls : (calls : List Call) (now t : Stamp) → AreInOrder None calls → Follows (last_stamp None calls) now → IsBefore now t → Fires calls t ↔ (due_of (slot_left_at (slot_after calls) now) ≡ Some t)
fires_by_calls calls now t order follows lt =
    let all = calls_before-all None t calls order (λ l e. IsBefore-from_not l now t (follows l e) lt) in
    let same : due_of (slot_after (calls_before t calls)) ≡ due_of (slot_after calls) = ap (λ cs. due_of (slot_after cs)) all in
    let left = left_due (slot_after calls) now t lt in
    ((λ f. left.0 (sym same ∙ f)), (λ f. same ∙ left.1 f))

pub first_by_calls : (calls : List Call) (now : Stamp) → AreInOrder None calls → Follows (last_stamp None calls) now → IsFirstAfter (Fires calls) now (due_of (slot_left_at (slot_after calls) now))
first_by_calls calls now order follows =
    first_is (Fires calls) now _ (left_is_later (slot_after calls) now) (λ t lt. fires_by_calls calls now t order follows lt)

-- ---- one more call

pub last_stamp-push : (last : Option Stamp) (calls : List Call) (c : Call) → last_stamp last (calls ++ c ∷ []) ≡ Some (stamp_of c)
last_stamp-push last [] c = refl
last_stamp-push last (d ∷ ds) c = last_stamp-push (Some (stamp_of d)) ds c

pub AreInOrder-push :
    (last : Option Stamp) (calls : List Call) (c : Call) → AreInOrder last calls → Follows (last_stamp last calls) (stamp_of c) →
    AreInOrder last (calls ++ c ∷ [])
AreInOrder-push last [] c order follows = (follows, tt)
AreInOrder-push last (d ∷ ds) c order follows = (order.0, AreInOrder-push (Some (stamp_of d)) ds c order.1 follows)

pub follows-push : (calls : List Call) (c : Call) (now : Stamp) → stamp_of c ≡ now → Follows (last_stamp None (calls ++ c ∷ [])) now
follows-push calls c now e = λ s f. let g : now ≡ s = cc (last_stamp-push None calls c) in subst (λ x. ¬ IsBefore now x) g (IsBefore-irrefl now)

-- the slot after one more call
pub slot-push : (calls : List Call) (c : Call) → slot_after (calls ++ c ∷ []) ≡ slot_after_call (slot_after calls) c
slot-push calls c = fold-append slot_after_call Nothing calls (c ∷ [])
