-- What is kept of an event, by the activations in order of place: those that do not touch it count for nothing.
use Rattle.std.proofs.Common.{◌≡◌, ℕ, inl, inr, List, [], ◌∷◌, Bool, true, false, if◌then◌else◌, Option, Some, None, refl, sym, ap, ◌∙◌}
use Rattle.ooo_time.specs.declared.stamp.Stamp.{Stamp}
use Rattle.ooo_time.specs.Stamps.{is_before}
use Rattle.ooo_value.specs.declared.bound.BoundEvent.{BoundEvent}
use Rattle.ooo_value.specs.declared.bound.BoundEvent.TheVariants as event
use Rattle.ooo_value.specs.declared.values.Value.{Value}
use Rattle.ooo_code.specs.declared.activation.Effect.{Effect}
use Rattle.ooo_schedules.specs.Design.{insert, is_earlier, slot, sort}
use Rattle.ooo_schedules.specs.Model.{In}
use Rattle.ooo_schedules.specs.Program.{Program, Slot, any_value, calls_of, changed_calls, falls, is_any, is_some, own_calls, requested, rises, step, touches, touches_by, value_of, value_or, when}
use Rattle.ooo_schedules.specs.Slots.{Call, Event, calls_at}
use Rattle.ooo_schedules.specs.Tables.{program}
use Rattle.ooo_dispatch.specs.Rules.{Rules, deed_of, origin_of, tables}
use Rattle.ooo_dispatch.proofs.Commits.{Activation, OutOfOrder, P, Passes, WithEarlier, in_sorted}

-- ---- effects that do not touch an event

no_call : (cs : List (Call Stamp)) → is_any cs ≡ false → cs ≡ []
no_call [] h = refl
no_call (c ∷ cs) h = absurd cc

no_value_asked : (a : Option Value) → is_some a ≡ false → a ≡ None
no_value_asked None h = refl
no_value_asked (Some v) h = absurd cc

-- an event and the value of its signal
abbrev made_of : Event Stamp → Value → Slot
made_of v x = record { event = v; value = x }

idle_by : (s : Stamp) (e : ℕ) (k : BoundEvent) (es : List Effect) (x : Slot) → touches_by s e k es ≡ false → made_of (calls_at Stamp is_before s (calls_of s e k x.value es) x.event) (value_of k x.value es) ≡ x
idle_by s e event.Own es x h = ap (λ cs. made_of (calls_at Stamp is_before s cs x.event) x.value) (no_call (own_calls s e [] es) h)
idle_by s e (event.Changed c) es x h = ap (λ a. made_of (calls_at Stamp is_before s (changed_calls s any_value x.value a) x.event) (value_or x.value a)) (no_value_asked (requested c None es) h)
idle_by s e (event.Rise c) es x h = ap (λ a. made_of (calls_at Stamp is_before s (changed_calls s rises x.value a) x.event) (value_or x.value a)) (no_value_asked (requested c None es) h)
idle_by s e (event.Fall c) es x h = ap (λ a. made_of (calls_at Stamp is_before s (changed_calls s falls x.value a) x.event) (value_or x.value a)) (no_value_asked (requested c None es) h)
idle_by s e (event.Written c) es x h = ap (λ b. made_of (calls_at Stamp is_before s (when b s) x.event) x.value) h
idle_by s e (event.Taken c) es x h = ap (λ b. made_of (calls_at Stamp is_before s (when b s) x.event) x.value) h

module _ (r : Rules) (e : ℕ) where
  abbrev p : Program
  p = program (tables r)

  abbrev kept : List Activation → Slot
  kept xs = slot (P r) e xs

  pub idle : (x : Activation) (s : Slot) → touches p e x ≡ false → step p e x s ≡ s
  idle x s h = idle_by x.stamp e (origin_of r e) (deed_of r x).effects s h

  -- an activation counts last where none that stands after it touches the event
  inserted_last : (x : Activation) (ys : List Activation) → ((y : Activation) → In y ys → Passes r (touches p e) x y) → kept (insert (P r) x ys) ≡ step p e x (kept ys)
  inserted_last x [] none = refl
  inserted_last x (y ∷ ys) none = at (is_earlier (P r) y x) refl (inserted_last x ys (λ z i. none z (inr i)))
    where
      behind : (b c : Bool) → touches p e y ≡ b → touches p e x ≡ c → OutOfOrder r x y → step p e y (step p e x (kept ys)) ≡ step p e x (step p e y (kept ys))
      behind true true f g h = absurd (none y (inl refl) h g f)
      behind true false f g h = ap (step p e y) (idle x (kept ys) g) ∙ sym (idle x (step p e y (kept ys)) g)
      behind false c f g h = idle y (step p e x (kept ys)) f ∙ ap (step p e x) (sym (idle y (kept ys) f))

      at : (b : Bool) → is_earlier (P r) y x ≡ b → kept (insert (P r) x ys) ≡ step p e x (kept ys) → kept (if b then x ∷ y ∷ ys else y ∷ insert (P r) x ys) ≡ step p e x (kept (y ∷ ys))
      at true h rest = refl
      at false h rest = ap (step p e y) rest ∙ behind (touches p e y) (touches p e x) refl refl h

  -- one that doesn't touch it counts for nothing, wherever it stands
  pub inserted_idle : (x : Activation) (ys : List Activation) → touches p e x ≡ false → kept (insert (P r) x ys) ≡ kept ys
  inserted_idle x ys h = inserted_last x ys (λ y i late t u. let c : true ≡ false = sym t ∙ h in absurd cc) ∙ idle x (kept ys) h

  -- where those that touch it were committed in order of place, the same is kept of it in the order of the commits
  pub slot_sorted : (xs : List Activation) → WithEarlier (Passes r (touches p e)) xs → kept (sort (P r) xs) ≡ kept xs
  slot_sorted [] h = refl
  slot_sorted (x ∷ xs) h = inserted_last x (sort (P r) xs) (λ y i. h.0 y (in_sorted r xs y i)) ∙ ap (step p e x) (slot_sorted xs h.1)
