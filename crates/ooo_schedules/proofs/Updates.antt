-- The update notifies just the events that the log says.
use Rattle.std.proofs.Common.{◌≡◌, ◌≢◌, ℕ, inl, inr, Bool, true, false, ◌==◌, List, [], ◌∷◌, Option, Some, None, if◌then◌else◌, refl, sym, ap, ◌∙◌, subst}
use Rattle.ooo_schedules.specs.Model.{Front, In, Model, ActOf, Log}
use Rattle.ooo_time.specs.declared.stamp.Stamp.{Stamp}
use Rattle.ooo_time.specs.Stamps.{IsBefore}
use Rattle.ooo_schedules.specs.Cycles.{act_at}
use Rattle.ooo_schedules.specs.Design.{slot, sort, model}
use Rattle.ooo_schedules.specs.Slots.{Notify, Event, settled, sooner_of, calls_at}
use Rattle.ooo_time.specs.Stamps.{is_before}
use Rattle.ooo_value.specs.declared.bound.BoundEvent.{BoundEvent}
use Rattle.ooo_value.specs.declared.bound.BoundEvent.TheVariants as event
use Rattle.ooo_value.specs.declared.values.Value.{Value}
use Rattle.ooo_code.specs.declared.activation.Effect.{Effect}
use Rattle.ooo_code.specs.declared.activation.Effect.TheVariants as effect
use Rattle.ooo_code.specs.Expressions.{no_value}
use Rattle.ooo_meaning.specs.World.{next_delta}
use Rattle.ooo_schedules.specs.Program.{any_value, rises, falls, Program, requested, has_put, has_taken, when, changed_calls, calls_of, value_of, is_some, touches_by, touches, step, design, Sound}
use Rattle.ooo_schedules.specs.Worlds.{World, event_of, at_stamp, Fits}
use Rattle.ooo_schedules.specs.Updates.{asked_by, differs, noted_by, value_by, note, Asks, nobody, somebody}
use Rattle.ooo_schedules.proofs.Logs.{segment_of}
use Rattle.ooo_schedules.proofs.Reaches.{irreflexive}
use Rattle.ooo_schedules.proofs.Programs.{delta_later, delta_not_after, design_laws, program_laws}
use Rattle.ooo_schedules.proofs.Run.{Run}
use Rattle.ooo_schedules.proofs.Walks.{own_before}
use Rattle.ooo_schedules.proofs.Worlds.{settle, settle_call, settle_on, settle_fired, sorted, ordered_x}

-- ---- effects

data Requests (c : ℕ) (es : List Effect) : Type 0 where
  none : ((a : Option Value) → requested c a es ≡ a) → Requests c es
  some : (v : Value) → ((a : Option Value) → requested c a es ≡ Some v) → Requests c es

requests : (c : ℕ) (es : List Effect) → Requests c es
requests c [] = none (λ a. refl)
requests c (effect.Request f w ∷ es) = at (f == c) refl (requests c es)
  where
    at : (b : Bool) → (f == c) ≡ b → Requests c es → Requests c (effect.Request f w ∷ es)
    at true e (none h) = some w (λ a. h (if f == c then Some w else a) ∙ ap (λ y. if y then Some w else a) e)
    at false e (none h) = none (λ a. h (if f == c then Some w else a) ∙ ap (λ y. if y then Some w else a) e)
    at b e (some v h) = some v (λ a. h (if f == c then Some w else a))
requests c (effect.Put f w ∷ es) = more (requests c es)
  where
    more : Requests c es → Requests c (effect.Put f w ∷ es)
    more (none h) = none h
    more (some v h) = some v h
requests c (effect.Take f ∷ es) = more (requests c es)
  where
    more : Requests c es → Requests c (effect.Take f ∷ es)
    more (none h) = none h
    more (some v h) = some v h
requests c (effect.Notify f k ∷ es) = more (requests c es)
  where
    more : Requests c es → Requests c (effect.Notify f k ∷ es)
    more (none h) = none h
    more (some v h) = some v h
requests c (effect.Cancel f ∷ es) = more (requests c es)
  where
    more : Requests c es → Requests c (effect.Cancel f ∷ es)
    more (none h) = none h
    more (some v h) = some v h
requests c (effect.Stop ∷ es) = more (requests c es)
  where
    more : Requests c es → Requests c (effect.Stop ∷ es)
    more (none h) = none h
    more (some v h) = some v h

not_requested : (c : ℕ) (a : Option Value) (es : List Effect) → is_some (requested c None es) ≡ false → Requests c es → requested c a es ≡ a
not_requested c a es h (none k) = k a
not_requested c a es h (some v k) = let d : true ≡ false = sym (ap is_some (k None)) ∙ h in absurd cc

-- who doesn't touch a channel's event asks nothing of it
not_asked : (s : Stamp) (e : ℕ) (o : BoundEvent) (a : Option Value) (es : List Effect) → o ≢ event.Own → touches_by s e o es ≡ false → asked_by o a es ≡ a
not_asked s e event.Own a es n h = absurd (n refl)
not_asked s e (event.Changed c) a es n h = not_requested c a es h (requests c es)
not_asked s e (event.Rise c) a es n h = not_requested c a es h (requests c es)
not_asked s e (event.Fall c) a es n h = not_requested c a es h (requests c es)
not_asked s e (event.Written c) a es n h = ap (λ y. if y then Some no_value else a) h
not_asked s e (event.Taken c) a es n h = ap (λ y. if y then Some no_value else a) h

changed_is : (s : Stamp) (test : Value → Bool) (old : Value) (r : Option Value) → changed_calls s test old r ≡ when (differs test old r) s
changed_is s test old None = refl
changed_is s test old (Some v) = refl

-- what an activation does to a channel's event, in the update's words
calls_is : (s : Stamp) (e : ℕ) (o : BoundEvent) (old : Value) (es : List Effect) → o ≢ event.Own → calls_of s e o old es ≡ when (noted_by o old (asked_by o None es)) s
calls_is s e event.Own old es n = absurd (n refl)
calls_is s e (event.Changed c) old es n = changed_is s any_value old (requested c None es)
calls_is s e (event.Rise c) old es n = changed_is s rises old (requested c None es)
calls_is s e (event.Fall c) old es n = changed_is s falls old (requested c None es)
calls_is s e (event.Written c) old es n = at (has_put c es)
  where
    at : (y : Bool) → when y s ≡ when (is_some (if y then Some no_value else None)) s
    at true = refl
    at false = refl
calls_is s e (event.Taken c) old es n = at (has_taken c es)
  where
    at : (y : Bool) → when y s ≡ when (is_some (if y then Some no_value else None)) s
    at true = refl
    at false = refl

values_is : (o : BoundEvent) (old : Value) (es : List Effect) → value_of o old es ≡ value_by o old (asked_by o None es)
values_is event.Own old es = refl
values_is (event.Changed c) old es = refl
values_is (event.Rise c) old es = refl
values_is (event.Fall c) old es = refl
values_is (event.Written c) old es = refl
values_is (event.Taken c) old es = refl

not_noted : (o : BoundEvent) (value : Value) → noted_by o value None ≡ false
not_noted event.Own value = refl
not_noted (event.Changed c) value = refl
not_noted (event.Rise c) value = refl
not_noted (event.Fall c) value = refl
not_noted (event.Written c) value = refl
not_noted (event.Taken c) value = refl

kept_value : (o : BoundEvent) (value : Value) → value_by o value None ≡ value
kept_value event.Own value = refl
kept_value (event.Changed c) value = refl
kept_value (event.Rise c) value = refl
kept_value (event.Fall c) value = refl
kept_value (event.Written c) value = refl
kept_value (event.Taken c) value = refl

when_pending : (s : Stamp) (b : Bool) (e : Event Stamp) → (settle s e).pending ≡ None → (settle s (calls_at Stamp is_before s (when b s) e)).pending ≡ note b s
when_pending s true e n = ap (λ y. y.pending) (settle_call s (Notify (next_delta s)) e (delta_later s)) ∙ ap (λ y. Some (later_of y)) n
  where
    later_of : Option Stamp → Stamp
    later_of o = sooner_of Stamp is_before o (next_delta s)
when_pending s false e n = n

module _ (p : Program) (h : Sound p) where
  abbrev M : Model
  M = model (design p)

  -- the event is notified by the update just where the log says so
  pub updated : (s : Stamp) (xs : Log M) (e : ℕ) (value : Value) (asked : Option Value) → Asks p s xs e value asked → (at_stamp p s e xs).pending ≡ note (noted_by (p.origin e) value asked) s
  updated s xs e value _ (nobody n v) = n ∙ ap (λ b. note b s) (sym (not_noted (p.origin e) value))
  updated s xs e value asked (somebody y i k t n v) = n

  -- and at any later stamp nothing is asked, with the new value
  pub next_cycle : (s t : Stamp) (xs : Log M) (e : ℕ) (value : Value) (asked : Option Value) → IsBefore s t → Asks p s xs e value asked → Asks p t xs e (value_by (p.origin e) value asked) None
  next_cycle s t xs e value asked b a = nobody (gone (noted_by (p.origin e) value asked) (updated s xs e value asked a)) (value_is asked a)
    where
      value_is : (asked : Option Value) → Asks p s xs e value asked → (slot (design p) e (sort (design p) xs)).value ≡ value_by (p.origin e) value asked
      value_is _ (nobody n v) = v ∙ sym (kept_value (p.origin e) value)
      value_is asked (somebody y i k t n v) = v

      at_t : settle t (at_stamp p s e xs) ≡ at_stamp p t e xs
      at_t = settle_on s t (event_of p e xs) b

      gone : (n : Bool) → (at_stamp p s e xs).pending ≡ note n s → (at_stamp p t e xs).pending ≡ None
      gone true k = ap (λ y. y.pending) (sym at_t) ∙ ap (λ o. (settled Stamp is_before t (at_stamp p s e xs).fired o).pending) k ∙ ap (λ y. y.pending) (settle_fired t (at_stamp p s e xs).fired (next_delta s) (delta_not_after s t b))
      gone false k = ap (λ y. y.pending) (sym at_t) ∙ ap (λ o. (settled Stamp is_before t (at_stamp p s e xs).fired o).pending) k

  -- ---- a turn

  module _ (w : World) (xs : Log M) (q : ℕ) (fits : Fits p w xs q) (run : Run M (program_laws p h) xs) (f : Front Stamp) (front_q : M.front xs q ≡ Some f) (now : f.stamp ≡ w.stamp) (e : ℕ) (value : Value) (n : p.origin e ≢ event.Own) where
    abbrev x : ActOf M
    x = act_at M xs q f

    abbrev es : List Effect
    es = (p.act x).effects

    slot_is : slot (design p) e (sort (design p) (x ∷ xs)) ≡ step p e x (slot (design p) e (sort (design p) xs))
    slot_is = ap (slot (design p) e) (sorted p h w xs q fits run f front_q now)

    same_slot : touches p e x ≡ false → slot (design p) e (sort (design p) (x ∷ xs)) ≡ slot (design p) e (sort (design p) xs)
    same_slot t = slot_is ∙ (design_laws p h).idle e x (slot (design p) e (sort (design p) xs)) t

    same_stamp : touches p e x ≡ false → at_stamp p w.stamp e (x ∷ xs) ≡ at_stamp p w.stamp e xs
    same_stamp t = ap (λ y. settle w.stamp y.event) (same_slot t)

    asks_same : (asked : Option Value) → touches p e x ≡ false → Asks p w.stamp xs e value asked → Asks p w.stamp (x ∷ xs) e value asked
    asks_same _ t (nobody k v) = nobody (ap (λ y. y.pending) (same_stamp t) ∙ k) (ap (λ y. y.value) (same_slot t) ∙ v)
    asks_same asked t (somebody y i s u k v) = somebody y (inr i) s u (ap (λ y. y.pending) (same_stamp t) ∙ k) (ap (λ y. y.value) (same_slot t) ∙ v)

    asks_first : touches p e x ≡ true → (at_stamp p w.stamp e xs).pending ≡ None → (slot (design p) e (sort (design p) xs)).value ≡ value → Asks p w.stamp (x ∷ xs) e value (asked_by (p.origin e) None es)
    asks_first t k v =
        somebody x (inl refl) now t
        (ap (λ y. (settle w.stamp y.event).pending) slot_is
        ∙ ap (λ s. (settle w.stamp (calls_at Stamp is_before s (calls_of s e (p.origin e) (slot (design p) e (sort (design p) xs)).value es) (event_of p e xs))).pending) now
        ∙ ap (λ y. (settle w.stamp (calls_at Stamp is_before w.stamp (calls_of w.stamp e (p.origin e) y es) (event_of p e xs))).pending) v
        ∙ ap (λ y. (settle w.stamp (calls_at Stamp is_before w.stamp y (event_of p e xs))).pending) (calls_is w.stamp e (p.origin e) value es n)
        ∙ when_pending w.stamp (noted_by (p.origin e) value (asked_by (p.origin e) None es)) (event_of p e xs) k)
        (ap (λ y. y.value) slot_is ∙ ap (λ y. value_of (p.origin e) y es) v ∙ values_is (p.origin e) value es)

    -- nobody else asks in the same cycle
    one_asks : touches p e x ≡ true → (y : ActOf M) → In y xs → y.stamp ≡ w.stamp → touches p e y ≡ true → ⊥
    one_asks t y i s u =
        let o = ordered_x p h w xs q fits run f front_q now in
        let k = h.one_maker x.segment y.segment e n (h.notified e x t) (h.notified e y u) in
        let b = own_before M (program_laws p h) xs q f run.ordered front_q y i (sym (segment_of M xs y run.ordered i) ∙ sym k ∙ o.0.segment) in
        irreflexive w.stamp (subst (λ t. IsBefore t w.stamp) s (subst (IsBefore y.stamp) now b))

    asks_touched : (asked : Option Value) → touches p e x ≡ true → Asks p w.stamp xs e value asked → Asks p w.stamp (x ∷ xs) e value (asked_by (p.origin e) asked es)
    asks_touched _ t (nobody k v) = asks_first t k v
    asks_touched asked t (somebody y i s u k v) = absurd (one_asks t y i s u)

    pub asks_turn : (asked : Option Value) → Asks p w.stamp xs e value asked → Asks p w.stamp (x ∷ xs) e value (asked_by (p.origin e) asked es)
    asks_turn asked a = at (touches p e x) refl
      where
        at : (b : Bool) → touches p e x ≡ b → Asks p w.stamp (x ∷ xs) e value (asked_by (p.origin e) asked es)
        at true t = asks_touched asked t a
        at false t = subst (Asks p w.stamp (x ∷ xs) e value) (sym (not_asked x.stamp e (p.origin e) asked es n t)) (asks_same asked t a)
