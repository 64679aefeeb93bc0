-- A process that waits, as a stamp is reached.
use Rattle.std.proofs.Common.{◌≡◌, ℕ, Bool, true, false, ◌||◌, cond, List, [], ◌∷◌, Option, refl, sym, ap, ◌∙◌, map}
use Rattle.std.proofs.lemmas.Bool.{or_parts}
use Rattle.std.proofs.Math.ListN.{get_or-map}
use Rattle.std.specs.List.{list_any}
use Rattle.ooo_time.specs.declared.stamp.Stamp.{Stamp}
use Rattle.ooo_time.specs.Stamps.{IsBefore}
use Rattle.ooo_events.specs.Slots.{Slot, Nothing, due_of, slot_left_at}
use Rattle.ooo_meaning.specs.World.{Wait, slot_at, is_at, is_due, activity, least, sooner, awake, woken}
use Rattle.ooo_plain.specs.Tracking.{will_run}
use Rattle.ooo_plain.proofs.Slots.{Later, left_same, left_twice, left_due}
use Rattle.ooo_plain.proofs.Least.{From, bool_same, at_same, at_is, at_later, at_sooner, at_least, sooner_from}

abbrev pub left : Stamp → List Slot → List Slot
left s slots = map (λ x. slot_left_at x s) slots

abbrev pub due_at : List Slot → ℕ → Option Stamp
due_at slots e = due_of (slot_at slots e)

pub slot-left : (s : Stamp) (slots : List Slot) (e : ℕ) → slot_at (left s slots) e ≡ slot_left_at (slot_at slots e) s
slot-left s slots e = get_or-map (λ x. slot_left_at x s) slots e Nothing

module _ (s : Stamp) (slots : List Slot) where
  due_left : (e : ℕ) → From s (due_at slots e) → is_at s (due_at slots e) ≡ false → due_at (left s slots) e ≡ due_at slots e
  due_left e h f = ap due_of (slot-left s slots e ∙ left_same (slot_at slots e) s (at_later s _ h f))

  pub woken_test : (x : Wait) → From s (activity slots x) → (is_due s x.timeout || list_any (λ e. is_due s (slot_at slots e)) x.events) ≡ is_at s (activity slots x)
  woken_test x h =
      let b = sooner_from s (due_of x.timeout) (least (map (due_at slots) x.events)) h in
      sym (at_sooner s (due_of x.timeout) (least (map (due_at slots) x.events)) b.0 b.1 ∙ ap (λ y. is_at s (due_of x.timeout) || y) (at_least (due_at slots) s x.events b.1))

  pub woken_is : (x : Wait) → From s (activity slots x) → woken s slots x ≡ cond (is_at s (activity slots x)) awake x
  woken_is x h = ap (λ b. cond b awake x) (woken_test x h)

  events_left : (es : List ℕ) → From s (least (map (due_at slots) es)) → list_any (λ e. is_at s (due_at slots e)) es ≡ false → map (due_at (left s slots)) es ≡ map (due_at slots) es
  events_left [] h f = refl
  events_left (e ∷ es) h f =
      let b = sooner_from s (due_at slots e) (least (map (due_at slots) es)) h in
      let g = or_parts _ _ f in
      rw (due_left e b.0 g.0, events_left es b.1 g.1) refl

  -- who doesn't wake waits on
  pub kept : (x : Wait) → From s (activity slots x) → is_at s (activity slots x) ≡ false → activity (left s slots) x ≡ activity slots x
  kept x h f =
      let b = sooner_from s (due_of x.timeout) (least (map (due_at slots) x.events)) h in
      let g = or_parts _ _ (woken_test x h ∙ f) in
      ap (λ ds. sooner (due_of x.timeout) (least ds)) (events_left x.events b.1 g.1)

  pub timeout_later : (x : Wait) → From s (activity slots x) → is_at s (activity slots x) ≡ false → Later s (due_of x.timeout)
  timeout_later x h f =
      let b = sooner_from s (due_of x.timeout) (least (map (due_at slots) x.events)) h in
      let g = or_parts _ _ (woken_test x h ∙ f) in
      at_later s (due_of x.timeout) b.0 g.0

  -- when a process runs next doesn't change as a stamp is reached that isn't later
  pub reached : (x : Wait) → x.runnable ≡ false → From s (activity slots x) → will_run s (left s slots) (woken s slots x) ≡ activity slots x
  reached x idle h = ap (will_run s (left s slots)) (woken_is x h) ∙ go (is_at s (activity slots x)) refl where
    go : (b : Bool) → is_at s (activity slots x) ≡ b → will_run s (left s slots) (cond b awake x) ≡ activity slots x
    go true e = sym (at_is s (activity slots x) e)
    go false e = rw idle (kept x h e)

  pub runnable_reached : (x : Wait) → x.runnable ≡ false → From s (activity slots x) → (woken s slots x).runnable ≡ is_at s (activity slots x)
  runnable_reached x idle h = ap (λ y. y.runnable) (woken_is x h) ∙ go (is_at s (activity slots x)) where
    go : (b : Bool) → (cond b awake x).runnable ≡ b
    go true = refl
    go false = idle

-- a later stamp wakes the same, whether or not the first was reached
module _ (s t : Stamp) (lt : IsBefore s t) (slots : List Slot) where
  is_due-left : (x : Slot) → is_due t (slot_left_at x s) ≡ is_due t x
  is_due-left x =
      let l = left_due x s t lt in
      bool_same _ _
      (λ e. ap (is_at t) (l.1 (at_is t _ e)) ∙ at_same t)
      (λ e. ap (is_at t) (l.0 (at_is t _ e)) ∙ at_same t)

  any_due-left : (es : List ℕ) → list_any (λ e. is_due t (slot_at (left s slots) e)) es ≡ list_any (λ e. is_due t (slot_at slots e)) es
  any_due-left [] = refl
  any_due-left (e ∷ es) = rw (slot-left s slots e, is_due-left (slot_at slots e), any_due-left es) refl

  pub woken-left : (x : Wait) → woken t (left s slots) x ≡ woken t slots x
  woken-left x = ap (λ b. cond (is_due t x.timeout || b) awake x) (any_due-left x.events)

  pub left-left : (xs : List Slot) → left t (left s xs) ≡ left t xs
  left-left [] = refl
  left-left (x ∷ xs) = rw (left_twice x s t lt, left-left xs) refl
